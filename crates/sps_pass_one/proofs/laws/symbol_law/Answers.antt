use Rattle.sps_pass_one.proofs.FirstLabels.{first_label, no_label}
use Rattle.sps_pass_one.proofs.laws.symbol_law.Goals as goal

pub returns-clause-first : goal.returns-clause-first
returns-clause-first c = first_label

pub returns-clause-none : goal.returns-clause-none
returns-clause-none c = no_label
