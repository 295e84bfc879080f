-- The job assemble: the source is read and assembled, and the object deck, the image and the listing are written, or the first broken
-- statement is reported.
use Rattle.std.specs.Prelude.{ℕ, List, [], length, Some, None, false}
use Rattle.outside_io.specs.World.{World, Seen}
use Rattle.sps_pass_two.specs.declared.assembled.Assembled as assembled
use Rattle.sps_pass_two.specs.Kept.{digit_count}
use Rattle.deck_punch.specs.declared.form.DeckForm.{DeckForm}
use Rattle.command_line.specs.declared.reading.Settings.{Settings}
use Rattle.ibm1620_cli.specs.declared.status.Status.{Status}
use Rattle.ibm1620_cli.specs.declared.status.Status.TheVariants.{Assembled}
use Rattle.ibm1620_cli.specs.declared.answer.Answer.{Answer}
use Rattle.ibm1620_cli.specs.Promise.{job_with_report, texts_alone, Promise, KeepsPromise, KeepsJob, nothing_done}
use Rattle.ibm1620_cli.specs.Source.{assembled_source, card_count, made_of, made_events, source_promise}

-- the status of a source that breaks no rule: its statements, the addresses that it declares, and the cards of its deck
abbrev pub assembled_status : ℕ → DeckForm → List ℕ → Status
assembled_status m form source =
    let a = assembled_source m source in
    Assembled (length a.placed) (digit_count a.pieces) (card_count m form source)

-- the promise for a sound source: its texts are written, and then the report line; no memory is taken once a byte is written
abbrev pub written_promise : ℕ → Settings → List ℕ → World → Promise
written_promise m settings source w = record {
  job = Some (job_with_report (assembled_status m settings.form source) (made_events (made_of m settings.form source)));
  outline = None;
  made = texts_alone (Some []);
  usage = false;
}

-- THE PROMISE OF AN ASSEMBLY, from the world in which its files are bound
abbrev pub assemble_promise : ℕ → Settings → World → Promise
assemble_promise m settings = source_promise m nothing_done (written_promise m settings)

-- What the functions of this job answer.

-- the status of an assembled source, with this number of cards
abbrev pub status_of_assembled : assembled.Assembled → ℕ → Status
status_of_assembled a cards = Assembled (length a.placed) (digit_count a.image.pieces) cards

abbrev pub WrittenPromise : ℕ → Settings → List ℕ → Seen → Seen → Answer → Type 0
WrittenPromise m settings source old new answer = KeepsPromise (written_promise m settings source old.world) old new answer

abbrev pub AssemblyPromise : ℕ → Settings → Seen → Seen → Answer → Type 0
AssemblyPromise m settings old new answer = KeepsJob (assemble_promise m settings) old new answer
