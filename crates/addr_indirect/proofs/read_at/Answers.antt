use Rattle.std.proofs.Common.{rules}
use Rattle.addr_indirect.proofs.read_at.Goals as goal

pub returns-in-Err-EvenParity-clause-is : goal.returns-in-Err-EvenParity-clause-is
unfolding Rattle.addr_indirect.specs.Reading.read_at
returns-in-Err-EvenParity-clause-is c = search rules
