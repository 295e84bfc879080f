use Rattle.std.proofs.Common.{refl, sym, ◌∙◌, ap}
use Rattle.std.specs.Prelude.{Ok, Err}
use Rattle.digit_core.specs.Size.{size}
use Rattle.operator_script.specs.Scripts.{lines_left}
use Rattle.operator_script.specs.Script.{script_of}
use Rattle.ibm1620_cli.specs.Parts.{refused}
use Rattle.ibm1620_cli.proofs.Scripts.{script_takes, script_unread}
use Rattle.ibm1620_cli.proofs.load.read_script.Goals as goal

pub returns-in-Err : goal.returns-in-Err
returns-in-Err g c = script_unread g.row.M (g.H.Host.seen c.args.host.now) (g.H.Host.seen c.read_text.new.host) c.in-Err.status c.in-Err.ensures

pub returns-in-Ok-read : goal.returns-in-Ok-read
returns-in-Ok-read g c = (
  script_takes g.row.M (g.H.Host.seen c.args.host.now) (g.H.Host.seen c.read_text.new.host) c.in-Ok.bytes.items (Ok (lines_left c.in-Ok-read.script)) c.in-Ok.ensures (ap (script_of (size g.row.M)) (sym c.deref.ensures.value) ∙ c.in-Ok-read.ensures.lines),
  c.in-Ok-read.ensures.fits,
)

pub returns-in-Err-BadLine : goal.returns-in-Err-BadLine
returns-in-Err-BadLine g c =
    refused
    (script_takes g.row.M (g.H.Host.seen c.args.host.now) (g.H.Host.seen c.read_text.new.host) c.in-Ok.bytes.items (Err c.in-Err-BadLine.line) c.in-Ok.ensures (ap (script_of (size g.row.M)) (sym c.deref.ensures.value) ∙ rw c.in-Err-BadLine.field-0-is at c.in-Err-BadLine.ensures.lines))
    refl refl
