-- The object deck, the image and the listing of a source are written, and that is reported.
use Rattle.std.proofs.Common.{Bool, ◌≡◌, ℕ, List, [], ◌∷◌, ◌++◌, length, refl, sym, ◌∙◌, ap, inl, inr}
use Rattle.std.proofs.lemmas.List.{length-map}
use Rattle.std.specs.Prelude.{◌⊎◌}
use Rattle.outside_io.specs.declared.host.Unit as unit
use Rattle.outside_io.specs.declared.host.Unit.TheVariants as units
use Rattle.outside_io.specs.declared.whole.Sent.{Sent}
use Rattle.outside_io.specs.World.{World, Seen, Goes, world_after_put}
use Rattle.outside_io.specs.Events.{Event, after_events, text_events}
use Rattle.outside_io.proofs.EventLemmas.{after_append, after_text, same_of, did_none}
use Rattle.digit_core.specs.Size.{size}
use Rattle.sps_pass_two.specs.declared.assembled.Assembled.{Assembled}
use Rattle.sps_pass_two.specs.Assembled.{PlacedText}
use Rattle.sps_pass_two.specs.Assembling.{IsAssembled}
use Rattle.sps_pass_two.specs.Kept.{digit_count}
use Rattle.sps_pass_two.specs.Making.{text_of_placed}
use Rattle.sps_listing.specs.Texts.{image_text}
use Rattle.sps_listing.specs.Listing.{listing_text}
use Rattle.deck_punch.specs.declared.form.DeckForm.{DeckForm}
use Rattle.loader_cards.specs.ObjectDeck.{deck_in}
use Rattle.command_line.specs.declared.reading.Settings.{Settings}
use Rattle.ibm1620_cli.specs.declared.status.Status.{Status}
use Rattle.ibm1620_cli.specs.declared.status.Status.TheVariants.{HostFault, OutOfMemory}
use Rattle.ibm1620_cli.specs.declared.status.Status.TheVariants as statuses
use Rattle.ibm1620_cli.specs.Report.{report_line}
use Rattle.ibm1620_cli.specs.Makings.{AreMakings}
use Rattle.ibm1620_cli.specs.Inputs.{reads_nothing}
use Rattle.ibm1620_cli.specs.Promise.{answer_of, TakesNone, unasked, KeepsPromise, nothing_done}
use Rattle.ibm1620_cli.specs.Program.{deck_of}
use Rattle.deck_punch.specs.DeckText.{deck_text}
use Rattle.cpu_step.specs.Machine.{machine_texts}
use Rattle.cpu_step.proofs.Texts.{texts_other}
use Rattle.ibm1620_cli.specs.Source.{assembled_source, program_of, SourceTexts, made_of, made_events}
use Rattle.ibm1620_cli.specs.AssembleJob.{assembled_status, written_promise}
use Rattle.ibm1620_cli.specs.Parts.{Reports, made_with, StopsWithin, EventsOccur, LeavesUnread}
use Rattle.ibm1620_cli.proofs.Writes.{AreWritesOf, writes_both, writes_text, does_binds, stops_fails, stops_asked}
use Rattle.ibm1620_cli.proofs.TakenInputs.{makings_take, goes_unasked}
use Rattle.ibm1620_cli.proofs.KeptPromises.{both_makings, promise_report, promise_cut, promise_memory}
use Rattle.ibm1620_cli.proofs.Sources.{FollowsSource, follows_nothing}

module _ (made : SourceTexts) where
  abbrev object : List Event
  object = text_events units.Object made.object

  abbrev image : List Event
  image = text_events units.Image made.image

  abbrev listing : List Event
  listing = text_events units.Listing made.listing

  pub made_writes : (r : unit.Unit → Bool) → AreWritesOf r (made_events made)
  made_writes r =
      writes_both r object (image ++ listing) (writes_text r units.Object made.object)
      (writes_both r image listing (writes_text r units.Image made.image) (writes_text r units.Listing made.listing))

  -- what is bound stays so, and nothing is read
  pub made_binds : (old new : Seen) (how : Sent) → EventsOccur (made_events made) old new how → LeavesUnread reads_nothing old.world new.world
  made_binds old new how does = does_binds reads_nothing (made_events made) old new how (made_writes reads_nothing) does

  -- the world with the three texts
  pub made_world : (w : World) → after_events w (made_events made) ≡ world_after_put units.Listing made.listing (world_after_put units.Image made.image (world_after_put units.Object made.object w))
  made_world w =
      after_append object (image ++ listing) w
      ∙ ap (λ (v : World). after_events v (image ++ listing)) (after_text units.Object made.object w)
      ∙ after_append image listing (world_after_put units.Object made.object w)
      ∙ ap (λ (v : World). after_events v listing) (after_text units.Image made.image (world_after_put units.Object made.object w))
      ∙ after_text units.Listing made.listing (world_after_put units.Image made.image (world_after_put units.Object made.object w))

  -- has the machine's texts as they were
  pub made_keeps_texts : (w : World) → machine_texts (world_after_put units.Listing made.listing (world_after_put units.Image made.image (world_after_put units.Object made.object w))) ≡ machine_texts w
  made_keeps_texts w =
      texts_other units.Listing made.listing (world_after_put units.Image made.image (world_after_put units.Object made.object w)) refl
      ∙ texts_other units.Image made.image (world_after_put units.Object made.object w) refl
      ∙ texts_other units.Object made.object w refl

object_makings : (text : List ℕ) → AreMakings (text_events units.Object text)
object_makings [] = tt
object_makings (b ∷ bs) = (tt, object_makings bs)

image_makings : (text : List ℕ) → AreMakings (text_events units.Image text)
image_makings [] = tt
image_makings (b ∷ bs) = (tt, image_makings bs)

listing_makings : (text : List ℕ) → AreMakings (text_events units.Listing text)
listing_makings [] = tt
listing_makings (b ∷ bs) = (tt, listing_makings bs)

pub makings_of : (made : SourceTexts) → AreMakings (made_events made)
makings_of made =
    both_makings (text_events units.Object made.object) (text_events units.Image made.image ++ text_events units.Listing made.listing) (object_makings made.object)
    (both_makings (text_events units.Image made.image) (text_events units.Listing made.listing) (image_makings made.image) (listing_makings made.listing))

pub made_take : (made : SourceTexts) → TakesNone (made_events made)
made_take made = makings_take (made_events made) (makings_of made)

-- What was assembled is what the source comes to.
module _ (m : ℕ) (form : DeckForm) (source : List ℕ) (a : Assembled) (is : IsAssembled (size m) source a) where
  -- the texts that are made of it
  pub made_is : (deck : List ℕ) → deck ≡ deck_text (deck_in form a.image.pieces a.start) → made_with deck source a ≡ made_of m form source
  made_is deck is_deck = λ i. record {
    object = (is_deck ∙ cards_are) i;
    image = image_text (is.pieces_are i);
    listing = listing_text source (is.placed_are i);
  }
    where
      cards_are : deck_text (deck_in form a.image.pieces a.start) ≡ deck_text (deck_of (program_of m form source))
      cards_are = λ i. deck_text (deck_in form (is.pieces_are i) (is.start_is i))

  pub deck_is : deck_in form a.image.pieces a.start ≡ deck_of (program_of m form source)
  deck_is = λ i. deck_in form (is.pieces_are i) (is.start_is i)

  -- its status
  pub status_is : (cards : ℕ) → cards ≡ length (deck_of (program_of m form source)) → statuses.Assembled (length a.placed) (digit_count a.image.pieces) cards ≡ (assembled_status m form) source
  status_is cards cards_are =
      let many : length a.placed ≡ length (assembled_source m source).placed = sym (length-map a.placed text_of_placed) ∙ ap (λ (ps : List PlacedText). length ps) is.placed_are in
      λ i. statuses.Assembled (many i) (digit_count (is.pieces_are i)) (cards_are i)

module _ (m : ℕ) (settings : Settings) (source : List ℕ) where
  abbrev status : Status
  status = assembled_status m settings.form source

  -- all are written, and that is reported
  pub promise_written : (start mid new : Seen) (answered : Status) → Goes start mid (after_events start.world (made_events (made_of m settings.form source))) → Reports mid new status answered → KeepsPromise (written_promise m settings source start.world) start new (answer_of answered)
  promise_written start mid new answered goes reports =
      promise_report (written_promise m settings source start.world) start mid new status (report_line status) (answer_of answered) goes.later refl refl (λ is. refl) refl
      (record {
        before = made_events (made_of m settings.form source);
        status_is = refl;
        events_are = refl;
        did = same_of mid.world (after_events start.world (made_events (made_of m settings.form source))) goes.world;
        leaves = refl;
        inputs = unasked (made_take (made_of m settings.form source)) (goes_unasked (made_events (made_of m settings.form source)) start mid goes) refl;
        refusal = λ other. tt;
        program = refl;
      }) tt reports

  -- nothing was written, or not all
  pub promise_unwritten : (start new : Seen) (s : Status) → ((s ≡ OutOfMemory) × (new ≡ start)) ⊎ ((s ≡ HostFault) × StopsWithin (made_events (made_of m settings.form source)) start new) → KeepsPromise (written_promise m settings source start.world) start new (answer_of s)
  promise_unwritten start new s (inl lacks) = rw (lacks.0, lacks.1) (promise_memory (written_promise m settings source start.world) start start (did_none start.world) (λ u read. refl) refl refl)
  promise_unwritten start new s (inr stops) =
      let texts : List Event = made_events (made_of m settings.form source) in
      rw stops.0 (promise_cut (written_promise m settings source start.world) start new status texts refl (made_take (made_of m settings.form source)) (stops_asked texts start new stops.1) (stops_fails texts start new stops.1))

  pub written_follows : FollowsSource m nothing_done (written_promise m settings) source
  written_follows = follows_nothing m (written_promise m settings) source (λ w. refl) (λ gone t w. refl) (λ w. refl)
