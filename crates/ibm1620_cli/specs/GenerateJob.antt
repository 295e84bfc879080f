-- The job generate: a source is made from two numbers.
use Rattle.std.specs.Prelude.{[], Some, None, false}
use Rattle.outside_io.specs.declared.host.Unit.TheVariants as units
use Rattle.outside_io.specs.World.{World, Seen}
use Rattle.outside_io.specs.Events.{text_events}
use Rattle.sps_generator.specs.Generated.{source_deck}
use Rattle.command_line.specs.declared.reading.Settings.{Settings}
use Rattle.ibm1620_cli.specs.declared.answer.Answer.{Answer}
use Rattle.ibm1620_cli.specs.declared.status.Status.TheVariants.{Generated}
use Rattle.ibm1620_cli.specs.Promise.{job_with_report, texts_alone, Promise, KeepsPromise}

-- THE PROMISE OF A SOURCE'S MAKING, from the world in which its files are bound: the source is written on the unit Made, and that is
-- reported; no memory is taken once it is written
abbrev pub generate_promise : Settings → World → Promise
generate_promise settings w = record {
  job = Some (job_with_report (Generated settings.statements) (text_events units.Made (source_deck settings.statements settings.number)));
  outline = None;
  made = texts_alone (Some []);
  usage = false;
}

-- the job keeps this promise
abbrev pub MakesSource : Settings → Seen → Seen → Answer → Type 0
MakesSource settings old new answer = KeepsPromise (generate_promise settings old.world) old new answer
