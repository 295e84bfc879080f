-- A job with a source: it's read and assembled, and the first broken statement is reported, or its texts are made.
use Rattle.std.specs.Prelude.{ℕ, List, [], ◌++◌, length, Option, Some, None, Result, false, option_map}
use Rattle.outside_io.specs.declared.host.Unit.TheVariants as units
use Rattle.outside_io.specs.World.{World}
use Rattle.digit_core.specs.Size.{size}
use Rattle.sps_pass_one.specs.Layout.{Refusal}
use Rattle.sps_pass_two.specs.{refusal_of, AssembledText, assembled_text}
use Rattle.sps_listing.specs.Texts.{image_text, refusal_line}
use Rattle.sps_listing.specs.Refused.{refused_text}
use Rattle.sps_listing.specs.Listing.{listing_text}
use Rattle.deck_punch.specs.DeckText.{deck_text}
use Rattle.deck_punch.specs.declared.form.DeckForm.{DeckForm}
use Rattle.ibm1620_cli.specs.declared.status.Status.{Status}
use Rattle.ibm1620_cli.specs.declared.status.Status.TheVariants.{Refused}
use Rattle.outside_io.specs.Events.{Event, text_events}
use Rattle.ibm1620_cli.specs.Promise.{ProgramTexts, Job, job_ending, texts_alone, Promise, promise_with_program, read_promise}
use Rattle.ibm1620_cli.specs.Reading.{text_read}
use Rattle.ibm1620_cli.specs.Program.{Program, deck_of}

-- how many bytes a source has at most
abbrev pub longest_source : ℕ
longest_source = 4000000

-- the source, or the status of a job whose source is too long
unfoldable pub source_read : List ℕ → Result (List ℕ) Status
source_read source = text_read longest_source units.Source source

-- the assembled text of a source without a broken rule, for m modules of core
abbrev pub assembled_source : ℕ → List ℕ → AssembledText
assembled_source m source = assembled_text (size m) source

-- the program of this text, whose deck has this form
abbrev pub program_of : ℕ → DeckForm → List ℕ → Program
program_of m form source = record {
  modules = m;
  form = form;
  image = (assembled_source m source).pieces;
  start = (assembled_source m source).start;
}

-- its program with the bytes of the source and with its statements, as they are placed
abbrev pub texts_of_program : ℕ → List ℕ → ProgramTexts
texts_of_program m source = record { source = source; placed = (assembled_source m source).placed }

-- how many cards its deck has
abbrev pub card_count : ℕ → DeckForm → List ℕ → ℕ
card_count m form source = length (deck_of (program_of m form source))

-- the texts that are made of a source: its object deck, its image and its listing
pub record SourceTexts : Type 0 where
  pub object : List ℕ
  pub image : List ℕ
  pub listing : List ℕ

abbrev pub made_of : ℕ → DeckForm → List ℕ → SourceTexts
made_of m form source = record {
  object = deck_text (deck_of (program_of m form source));
  image = image_text (assembled_source m source).pieces;
  listing = listing_text source (assembled_source m source).placed;
}

-- all that is written of a source, one text after another: the bytes of the object deck, of the image, and of the listing
abbrev pub made_events : SourceTexts → List Event
made_events made =
    text_events units.Object made.object
    ++ (text_events units.Image made.image ++ text_events units.Listing made.listing)

-- all that is written of a source, by its first broken statement; if no memory was found, a first part of it may be done
abbrev pub events_by : ℕ → DeckForm → Option Refusal → List ℕ → List Event
events_by m form (Some r) source = []
events_by m form None source = made_events (made_of m form source)

abbrev pub events_of_source : ℕ → DeckForm → List ℕ → List Event
events_of_source m form source = events_by m form (refusal_of (size m) source) source

abbrev pub events_at : ℕ → DeckForm → World → Option (List Event)
events_at m form w = option_map (events_of_source m form) (w.left units.Source)

-- a source is refused: its first broken statement is reported and shown
abbrev pub refused_job : List ℕ → Refusal → Job
refused_job source r =
    record (job_ending (Refused r.statement r.fault.rule) (refusal_line source r.statement r.fault.rule r.fault.part) []) {
      refusal = Some (refused_text source r.statement r.fault.rule r.fault.part);
    }

-- the promise by the first broken statement of a source: it is refused, or the rest of the job is done
abbrev pub promise_by : (List ℕ → World → Promise) → List ℕ → Option Refusal → World → Promise
promise_by next source (Some r) w = record { job = Some (refused_job source r); outline = None; made = texts_alone (Some []); usage = false }
promise_by next source None w = next source w

abbrev pub assembly_promise : ℕ → (List ℕ → World → Promise) → List ℕ → World → Promise
assembly_promise m next source w = promise_by next source (refusal_of (size m) source) w

-- the rest of a job with a source, done by a machine that runs its program
abbrev pub running_promise : ℕ → (List ℕ → World → Promise) → List ℕ → World → Promise
running_promise m next source w = promise_with_program (texts_of_program m source) (next source w)

-- THE PROMISE OF A JOB once only the source is to be read, by the promise for a source that breaks no rule
abbrev pub source_promise : ℕ → (World → Option (List Event)) → (List ℕ → World → Promise) → World → Promise
source_promise m made next = read_promise units.Source source_read made (assembly_promise m next)
