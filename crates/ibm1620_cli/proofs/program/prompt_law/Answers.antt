use Rattle.ibm1620_cli.proofs.PromptOrder.{prompt}
use Rattle.ibm1620_cli.proofs.program.prompt_law.Goals as goal

pub returns : goal.returns
returns c = prompt
