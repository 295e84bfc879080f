-- The answer's headline, and what the host reveals at the end.
use Rattle.std.proofs.Common.{refl}
use Rattle.ibm1620_cli.specs.Job.{word_bytes}
use Rattle.outside_io.specs.Mem.{mem_seen}
use Rattle.ibm1620_cli.proofs.OverMemory.{over_memory}
use Rattle.ibm1620_cli.proofs.program.headline_over_memory.Goals as goal

pub returns : goal.returns
returns c = over_memory (word_bytes c.args.words.now) (mem_seen c.args.host.now) (mem_seen c.ibm1620_answer-answer.new.host) c.ibm1620_answer-answer.result (λ u. refl) c.fault_law.ensures c.ibm1620_answer-answer.ensures.told c.ibm1620_answer-answer.ensures.headline
