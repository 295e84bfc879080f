-- The promise of a source's making.
use Rattle.std.proofs.Common.{ℕ, List, refl, ap}
use Rattle.outside_io.specs.declared.host.Unit.TheVariants as units
use Rattle.outside_io.specs.World.{World, Seen, Goes, world_after_put}
use Rattle.outside_io.specs.Whole.{Stops}
use Rattle.outside_io.specs.Events.{Event, text_events}
use Rattle.outside_io.proofs.EventLemmas.{did_none, did_text, text_fails}
use Rattle.sps_generator.specs.Generated.{source_deck}
use Rattle.command_line.specs.declared.reading.Settings.{Settings}
use Rattle.ibm1620_cli.specs.declared.status.Status.{Status}
use Rattle.ibm1620_cli.specs.declared.status.Status.TheVariants.{Generated, HostFault, OutOfMemory}
use Rattle.ibm1620_cli.specs.Report.{report_line}
use Rattle.ibm1620_cli.specs.Promise.{answer_of, unasked, Promise, KeepsPromise}
use Rattle.ibm1620_cli.specs.GenerateJob.{generate_promise}
use Rattle.ibm1620_cli.specs.Parts.{Reports}
use Rattle.ibm1620_cli.proofs.TakenInputs.{text_takes}
use Rattle.ibm1620_cli.proofs.KeptPromises.{promise_report, promise_cut, promise_memory}

module _ (settings : Settings) (start : Seen) where
  abbrev promise : Promise
  promise = generate_promise settings start.world

  abbrev source : List ℕ
  source = source_deck settings.statements settings.number

  abbrev written : List Event
  written = text_events units.Made source

  -- no memory was found
  pub making_lacks : KeepsPromise promise start start (answer_of OutOfMemory)
  making_lacks = promise_memory promise start start (did_none start.world) (λ u read. refl) refl refl

  -- the host failed within the source
  pub making_stops : (new : Seen) → Stops start new units.Made source → KeepsPromise promise start new (answer_of HostFault)
  making_stops new stops = promise_cut promise start new (Generated settings.statements) written refl (text_takes units.Made source) (λ u read. ap (λ (w : World). w.asked u) stops.goes.world) (text_fails units.Made source start new stops)

  -- the source was written, and that is reported
  pub making_reports : (mid new : Seen) (status : Status) → Goes start mid (world_after_put units.Made source start.world) → Reports mid new (Generated settings.statements) status → KeepsPromise promise start new (answer_of status)
  making_reports mid new status goes reports =
      promise_report promise start mid new (Generated settings.statements) (report_line (Generated settings.statements)) (answer_of status) goes.later refl refl (λ is. refl) refl
      (record {
        before = written;
        status_is = refl;
        events_are = refl;
        did = did_text units.Made source start.world mid.world goes.world;
        leaves = refl;
        inputs = unasked (text_takes units.Made source) (λ u read. ap (λ (w : World). w.asked u) goes.world) refl;
        refusal = λ other. tt;
        program = refl;
      }) tt reports
