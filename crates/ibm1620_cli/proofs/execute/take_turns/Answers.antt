use Rattle.std.proofs.Common.{subst}
use Rattle.ibm1620_cli.specs.Report.{report_line}
use Rattle.ibm1620_cli.specs.Turns.{status_of}
use Rattle.ibm1620_cli.specs.Parts.{Reports}
use Rattle.ibm1620_cli.proofs.DeckPromises.{shows_console, reports_console}
use Rattle.ibm1620_cli.proofs.execute.take_turns.Goals as goal

pub returns : goal.returns
returns g c =
    let mid = g.H.Host.seen c.run-ended.new.host in
    let new = g.H.Host.seen c.report-status.new.host in
    let said = status_of c.run-ended.result.steps c.run-ended.result.how in
    record {
      left = c.run-ended.new.machine;
      left_script = c.run-ended.new.script;
      steps = c.run-ended.result.steps;
      how = c.run-ended.result.how;
      mid = mid;
      runs = c.run-ended.ensures;
      reports = reports_console mid new said c.report-status.result (report_line said) c.shown.result c.with_console.result c.with_console.ensures
          (subst (λ s. Reports mid new s c.report-status.result) c.status_of.ensures c.report-status.ensures);
      shows = shows_console g.row.M c.run-ended.new.machine c.with_console.result c.report-status.result c.shown.result c.with_console.ensures c.shown.ensures;
    }
