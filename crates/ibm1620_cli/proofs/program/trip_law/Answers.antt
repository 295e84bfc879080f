use Rattle.ibm1620_cli.proofs.RoundTripRuns.{trip}
use Rattle.ibm1620_cli.proofs.program.trip_law.Goals as goal

pub returns : goal.returns
returns c = trip
