use Rattle.ibm1620_cli.proofs.RoundTripRuns.{disk_trip}
use Rattle.ibm1620_cli.proofs.disk.disk_trip_law.Goals as goal

pub returns : goal.returns
returns c = disk_trip
