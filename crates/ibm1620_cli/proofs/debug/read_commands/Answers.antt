use Rattle.std.proofs.Common.{refl, sym, ◌∙◌, ap}
use Rattle.std.specs.Prelude.{Ok, Err}
use Rattle.digit_core.specs.Size.{size}
use Rattle.console_debug.specs.CommandLists.{command_list}
use Rattle.console_debug.specs.Grammar.{commands_of}
use Rattle.ibm1620_cli.specs.Parts.{refused}
use Rattle.ibm1620_cli.proofs.Scripts.{commands_takes, commands_unread}
use Rattle.ibm1620_cli.proofs.debug.read_commands.Goals as goal

pub returns-in-Err : goal.returns-in-Err
returns-in-Err g c = commands_unread g.row.M (g.H.Host.seen c.args.host.now) (g.H.Host.seen c.read_text.new.host) c.in-Err.status c.in-Err.ensures

pub returns-in-Ok-read : goal.returns-in-Ok-read
returns-in-Ok-read g c = (
  commands_takes g.row.M (g.H.Host.seen c.args.host.now) (g.H.Host.seen c.read_text.new.host) c.in-Ok.bytes.items (Ok (command_list c.in-Ok-read.commands)) c.in-Ok.ensures (ap (commands_of (size g.row.M)) (sym c.deref.ensures.value) ∙ c.in-Ok-read.ensures.lines),
  record { fits = c.in-Ok-read.ensures.fits; room = c.in-Ok-read.ensures.room },
)

pub returns-in-Err-BadLine : goal.returns-in-Err-BadLine
returns-in-Err-BadLine g c =
    refused
    (commands_takes g.row.M (g.H.Host.seen c.args.host.now) (g.H.Host.seen c.read_text.new.host) c.in-Ok.bytes.items (Err c.in-Err-BadLine.line) c.in-Ok.ensures (ap (commands_of (size g.row.M)) (sym c.deref.ensures.value) ∙ rw c.in-Err-BadLine.field-0-is at c.in-Err-BadLine.ensures.lines))
    refl refl
