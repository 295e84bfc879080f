use Rattle.std.proofs.Common.{rules}
use Rattle.typewriter.specs.Typing.{control}
use Rattle.typewriter.proofs.Performing.{failed_now}
use Rattle.typewriter.proofs.typing.control.Goals as goal

pub returns-in-Failed : goal.returns-in-Failed
returns-in-Failed g c = failed_now (control c.args.digit) (g.H.Host.seen c.args.host.now) (g.H.Host.seen c.put.new.self) c.in-Failed.ensures

pub returns-in-Taken : goal.returns-in-Taken
returns-in-Taken g c = search rules
