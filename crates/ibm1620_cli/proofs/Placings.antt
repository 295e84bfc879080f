-- The deck, the image and the sectors of a source are written, and that is reported.
use Rattle.std.proofs.Common.{◌≡◌, ℕ, List, [], ◌∷◌, ◌++◌, length, take, drop, refl, sym, ◌∙◌, ap, take-append-drop}
use Rattle.std.proofs.lemmas.List.{map-append}
use Rattle.std.specs.Prelude.{Option, Some, None, option_map}
use Rattle.outside_io.specs.declared.host.Unit.TheVariants as units
use Rattle.outside_io.specs.declared.whole.Sent.{Sent}
use Rattle.outside_io.specs.declared.whole.Sent.TheVariants as sent
use Rattle.outside_io.specs.World.{World, Seen, Goes, with_sector}
use Rattle.outside_io.specs.Events.{Event, WriteSector, after_event, after_events, text_events}
use Rattle.outside_io.proofs.EventLemmas.{same_of}
use Rattle.digit_core.specs.Size.{size}
use Rattle.sps_pass_two.specs.declared.assembled.Assembled.{Assembled}
use Rattle.sps_pass_two.specs.Assembling.{IsAssembled}
use Rattle.sps_listing.specs.Texts.{image_text}
use Rattle.disk_loader.specs.Bootstrap.{bootstrap}
use Rattle.disk_loader.specs.Writes.{SectorText, image_sectors, sectors_after, world_after, WritesSectors}
use Rattle.ibm1620_cli.specs.declared.status.Status.{Status}
use Rattle.ibm1620_cli.specs.declared.status.Status.TheVariants as statuses
use Rattle.ibm1620_cli.specs.declared.status.Status.TheVariants.{HostFault}
use Rattle.ibm1620_cli.specs.Report.{report_line}
use Rattle.ibm1620_cli.specs.Inputs.{reads_pack}
use Rattle.ibm1620_cli.specs.Promise.{answer_of, TakesNone, unasked, KeepsPromise, nothing_done}
use Rattle.deck_punch.specs.DeckText.{deck_text}
use Rattle.ibm1620_cli.specs.Parts.{Reports, StopsWithin, EventsOccur, LeavesUnread}
use Rattle.ibm1620_cli.specs.DiskJob.{placing_status, DiskPlacing, disk_placing, placing_with, sector_events, placing_events, placing_promise}
use Rattle.ibm1620_cli.proofs.Writes.{AreWrites, writes_both, writes_text, does_binds, stops_fails, stops_asked}
use Rattle.ibm1620_cli.proofs.TakenInputs.{takes_neither, text_takes, goes_unasked}
use Rattle.ibm1620_cli.proofs.KeptPromises.{promise_report, promise_cut}
use Rattle.ibm1620_cli.proofs.Sources.{FollowsSource, follows_nothing}

-- the sectors, one after another
one_more_sector : (s : SectorText) (ss : List SectorText) (o : Option (ℕ → List ℕ)) → option_map (sectors_after ss) (option_map (with_sector s.sector s.text) o) ≡ option_map (sectors_after (s ∷ ss)) o
one_more_sector s ss None = refl
one_more_sector s ss (Some sectors) = refl

no_sector : (o : Option (ℕ → List ℕ)) → o ≡ option_map (sectors_after []) o
no_sector None = refl
no_sector (Some sectors) = refl

pub after_sectors : (ss : List SectorText) (w : World) → after_events w (sector_events ss) ≡ world_after ss w
after_sectors [] w = ap (λ (o : Option (ℕ → List ℕ)). record w { sectors = o }) (no_sector w.sectors)
after_sectors (s ∷ ss) w =
    after_sectors ss (after_event w (WriteSector s.sector s.text))
    ∙ ap (λ (o : Option (ℕ → List ℕ)). record w { sectors = o }) (one_more_sector s ss w.sectors)

-- the sectors are written, or the host failed within them
pub sectors_do : (ss : List SectorText) (old new : Seen) (how : Sent) → WritesSectors ss old new how → EventsOccur (sector_events ss) old new how
sectors_do ss old new sent.Done goes = record { later = goes.later; world = goes.world ∙ sym (after_sectors ss old.world) }
sectors_do ss old new sent.Failed first =
    let event : SectorText → Event = λ s. WriteSector s.sector s.text in
    record {
      done = sector_events (take first.done ss);
      part = (sector_events (drop first.done ss), sym (map-append event (take first.done ss) (drop first.done ss)) ∙ ap sector_events (take-append-drop first.done ss));
      rose = first.rose;
      goes = record { later = first.goes.later; world = first.goes.world ∙ sym (after_sectors (take first.done ss) old.world) };
    }

writes_sectors : (ss : List SectorText) → AreWrites (sector_events ss)
writes_sectors [] = tt
writes_sectors (s ∷ ss) = (refl, writes_sectors ss)

sectors_take : (ss : List SectorText) → TakesNone (sector_events ss)
sectors_take [] = (refl, refl)
sectors_take (s ∷ ss) = sectors_take ss

-- no card and no line of Keys is taken
placing_takes : (p : DiskPlacing) → TakesNone (placing_events p)
placing_takes p =
    takes_neither (text_events units.Object p.deck) (text_events units.Image p.image ++ sector_events p.sectors) (text_takes units.Object p.deck)
    (takes_neither (text_events units.Image p.image) (sector_events p.sectors) (text_takes units.Image p.image) (sectors_take p.sectors))

-- what is bound stays so, and nothing but the pack is worked with
pub placed_binds : (p : DiskPlacing) (old new : Seen) (how : Sent) → EventsOccur (placing_events p) old new how → LeavesUnread reads_pack old.world new.world
placed_binds p old new how does =
    does_binds reads_pack (placing_events p) old new how
    (writes_both reads_pack (text_events units.Object p.deck) (text_events units.Image p.image ++ sector_events p.sectors) (writes_text reads_pack units.Object p.deck)
    (writes_both reads_pack (text_events units.Image p.image) (sector_events p.sectors) (writes_text reads_pack units.Image p.image) (writes_sectors p.sectors))) does

-- What was assembled is what the source comes to.
module _ (m : ℕ) (source : List ℕ) (a : Assembled) (is : IsAssembled (size m) source a) where
  pub placing_is : (deck : List ℕ) → deck ≡ deck_text (bootstrap a.image.pieces a.start) → placing_with deck a ≡ disk_placing m source
  placing_is deck deck_is = λ i. record {
    deck = (deck_is ∙ (λ j. deck_text (bootstrap (is.pieces_are j) (is.start_is j)))) i;
    image = image_text (is.pieces_are i);
    sectors = image_sectors (is.pieces_are i);
  }

  pub placed_is : (sectors cards : ℕ) → sectors ≡ length (image_sectors a.image.pieces) → cards ≡ length (bootstrap a.image.pieces a.start) → statuses.Placed sectors cards ≡ placing_status m source
  placed_is sectors cards sectors_are cards_are = λ i. statuses.Placed ((sectors_are ∙ (λ j. length (image_sectors (is.pieces_are j)))) i) ((cards_are ∙ (λ j. length (bootstrap (is.pieces_are j) (is.start_is j)))) i)

module _ (m : ℕ) (source : List ℕ) (start : Seen) where
  abbrev p : DiskPlacing
  p = disk_placing m source

  abbrev status : Status
  status = placing_status m source

  -- all are written, and that is reported
  pub promise_placed : (mid new : Seen) (answered : Status) → Goes start mid (after_events start.world (placing_events p)) → Reports mid new status answered → KeepsPromise (placing_promise m source start.world) start new (answer_of answered)
  promise_placed mid new answered goes reports =
      promise_report (placing_promise m source start.world) start mid new status (report_line status) (answer_of answered) goes.later refl refl (λ is. refl) refl
      (record {
        before = placing_events p;
        status_is = refl;
        events_are = refl;
        did = same_of mid.world (after_events start.world (placing_events p)) goes.world;
        leaves = refl;
        inputs = unasked (placing_takes p) (goes_unasked (placing_events p) start mid goes) refl;
        refusal = λ other. tt;
        program = refl;
      }) tt reports

  pub promise_placed_stops : (new : Seen) → StopsWithin (placing_events p) start new → KeepsPromise (placing_promise m source start.world) start new (answer_of HostFault)
  promise_placed_stops new stops = promise_cut (placing_promise m source start.world) start new status (placing_events p) refl (placing_takes p) (stops_asked (placing_events p) start new stops) (stops_fails (placing_events p) start new stops)

pub placing_follows : (m : ℕ) (source : List ℕ) → FollowsSource m nothing_done (placing_promise m) source
placing_follows m source = follows_nothing m (placing_promise m) source (λ w. refl) (λ gone t w. refl) (λ w. refl)
