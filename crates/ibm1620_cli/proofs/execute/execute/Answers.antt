use Rattle.std.proofs.Common.{refl, ap}
use Rattle.cpu_step.proofs.ExactCards.{load_sound}
use Rattle.operator_script.specs.Run.{run_state}
use Rattle.ibm1620_cli.specs.declared.status.Status.TheVariants.{HostFault}
use Rattle.ibm1620_cli.specs.declared.answer.Answer.{Answer}
use Rattle.ibm1620_cli.specs.Parts.{lacks_memory, breaks_key, breaks_steps, takes_turns}
use Rattle.ibm1620_cli.proofs.DeckPromises.{shows_console, runs_out, broke_off}
use Rattle.ibm1620_cli.proofs.execute.execute.Goals as goal

pub returns-in-Err : goal.returns-in-Err
returns-in-Err g c = lacks_memory c.of.ensures refl

pub returns-in-Err-power_on : goal.returns-in-Err-power_on
returns-in-Err-power_on g c = lacks_memory c.of-in-Err-power_on.ensures refl

pub returns-in-Failed : goal.returns-in-Failed
returns-in-Failed g c =
    breaks_key (ap (λ (a : Answer). a.status) c.with_console.ensures) (record { machine = c.in-Ok-power_on.machine; keyed = c.load_key.new.self; powered = c.in-Ok-power_on.ensures; breaks = c.in-Failed.ensures })
    (shows_console g.row.M c.load_key.new.self c.with_console.result HostFault c.shown.result c.with_console.ensures c.shown.ensures)

pub returns-in-Failed-how : goal.returns-in-Failed-how
returns-in-Failed-how g c =
    let key = load_sound g.row.M c.in-Ok-power_on.machine c.load_key.new.self (g.H.Host.seen c.args.host.now) (g.H.Host.seen c.load_key.new.host) c.load_key.result c.in_default.not-Failed c.load_key.ensures in
    breaks_steps (g.H.Host.seen c.load_key.new.host) (record { machine = c.in-Ok-power_on.machine; keyed = c.load_key.new.self; powered = c.in-Ok-power_on.ensures; makes = key.makes }) (ap (λ (a : Answer). a.status) c.with_console-in-Failed-how.ensures)
    (record {
      none = c.in-Ok.none;
      no_lines = c.in-Ok.ensures;
      left = c.run-loaded.new.machine;
      left_script = c.run-loaded.new.script;
      made = c.run-loaded.result.steps;
      breaks = broke_off g.row.M c.args.steps (run_state g.row.M c.load_key.new.self c.in-Ok.none 0) (run_state g.row.M c.run-loaded.new.machine c.run-loaded.new.script c.run-loaded.result.steps) (g.H.Host.seen c.load_key.new.host) (g.H.Host.seen c.run-loaded.new.host) c.run-loaded.result.how c.in-Failed-how.is c.run-loaded.ensures;
    })
    (shows_console g.row.M c.run-loaded.new.machine c.with_console-in-Failed-how.result HostFault c.shown-in-Failed-how.result c.with_console-in-Failed-how.ensures c.shown-in-Failed-how.ensures)

pub returns : goal.returns
returns g c =
    let key = load_sound g.row.M c.in-Ok-power_on.machine c.load_key.new.self (g.H.Host.seen c.args.host.now) (g.H.Host.seen c.load_key.new.host) c.load_key.result c.in_default.not-Failed c.load_key.ensures in
    takes_turns (g.H.Host.seen c.load_key.new.host) (g.H.Host.seen c.run-loaded.new.host) (record { machine = c.in-Ok-power_on.machine; keyed = c.load_key.new.self; powered = c.in-Ok-power_on.ensures; makes = key.makes })
    c.run-loaded.new.machine
    (record {
      none = c.in-Ok.none;
      no_lines = c.in-Ok.ensures;
      left_script = c.run-loaded.new.script;
      made = c.run-loaded.result.steps;
      how = c.run-loaded.result.how;
      out = runs_out g.row.M c.args.steps (run_state g.row.M c.load_key.new.self c.in-Ok.none 0) (run_state g.row.M c.run-loaded.new.machine c.run-loaded.new.script c.run-loaded.result.steps) (g.H.Host.seen c.load_key.new.host) (g.H.Host.seen c.run-loaded.new.host) c.run-loaded.result.how c.in_default-how.not-Failed c.run-loaded.ensures;
    })
    c.take_turns.ensures
