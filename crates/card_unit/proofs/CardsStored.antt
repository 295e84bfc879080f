-- A card as it is read in.
use Rattle.std.proofs.Common.{◌≡◌, ℕ, Bool, true, false, List, sym, subst}
use Rattle.std.specs.Prelude.{Result, Ok, Err, ⊤}
use Rattle.indicators.specs.declared.Panel.{Panel}
use Rattle.addr_indirect.specs.declared.Stop.{Stop}
use Rattle.outside_io.specs.World.{Seen}
use Rattle.traces.specs.Trace.{Trace, map_reason}
use Rattle.traces.specs.Change.{Change, Changed}
use Rattle.card_code.specs.Break.{Break, StopsBy}
use Rattle.card_code.specs.Entries.{Entry}
use Rattle.card_code.specs.TextIn.{Intake}
use Rattle.card_code.specs.Feed.{Station, station, GivesEntry, Lacks, ReadsAll}
use Rattle.card_code.proofs.EntriesRead.{entry_read, none_read as no_entry}
use Rattle.card_code.specs.declared.tally.Tally.{Tally}
use Rattle.card_unit.specs.declared.hopper.Hopper.{Hopper}
use Rattle.card_unit.specs.declared.reader.CardIo.{CardIo}
use Rattle.card_unit.specs.Hopper.{hopper_feed}
use Rattle.card_unit.specs.Reader.{store_card, take_card}
use Rattle.card_unit.specs.CardCalls.{ReadsCardBy, card_stored_ending, panel_after_card}

-- a reading's answer is that of the call
reads_by : (t : List Entry → Trace Intake ⊤ Break) (old new : Station Hopper) (answer : Result ⊤ Stop) (got : CardIo) → got ≡ card_stored_ending answer → ReadsAll hopper_feed t old new (map_reason StopsBy answer) → ReadsCardBy t old new got
reads_by t old new (Ok done) got ends all = subst (λ (x : CardIo). ReadsCardBy t old new x) (sym ends) all
reads_by t old new (Err why) got ends all = subst (λ (x : CardIo). ReadsCardBy t old new x) (sym ends) all

module _ (store_text : List ℕ → Trace Change ⊤ Stop) where
  module _ (text : List ℕ) (core new : List ℕ) (panel new_panel : Panel) (answer : Result ⊤ Stop) where
    -- the text of a card was stored, once the last card indicator was on where it goes on
    card_stored : (last : Bool) → Changed core (panel_after_card last panel) (store_text text) new new_panel answer → Changed core panel (store_card store_text (record { text = text; last = last })) new new_panel answer
    card_stored true stored = record { leaves = stored.leaves; shows = stored.shows; answers = stored.answers }
    card_stored false stored = stored

    -- so what it leaves is what the reading leaves
    card_read : (old next : Hopper) (before after : Seen) (last : Bool) → GivesEntry hopper_feed old next before after (record { text = text; last = last })
        → Changed core (panel_after_card last panel) (store_text text) new new_panel answer → ReadsAll hopper_feed (λ es. take_card es store_text) (station core panel old before) (station new new_panel next after) (map_reason StopsBy answer)
    card_read old next before after last gives stored =
        entry_read hopper_feed (store_card store_text) (station core panel old before) (station new new_panel next after) (record { text = text; last = last }) answer gives (card_stored last stored)

    -- and so is the call's answer, when the bad characters were taken up
    pub card_reads : (old next h : Hopper) (bad : Tally) (before after : Seen) (last : Bool) → GivesEntry hopper_feed old next before after (record { text = text; last = last }) → h ≡ record next { bad = bad }
        → Changed core (panel_after_card last panel) (store_text text) new new_panel answer → (got : CardIo) → got ≡ card_stored_ending answer
        → ReadsCardBy (λ es. take_card es store_text) (station core panel old before) (station new new_panel h after) got
    card_reads old next h bad before after last gives is stored got ends =
        let given : GivesEntry hopper_feed old h before after (record { text = text; last = last }) =
        subst (λ (x : Hopper). GivesEntry hopper_feed old x before after (record { text = text; last = last })) (sym is) (record { looks = gives.looks; left = gives.left; given = gives.given }) in
        reads_by (λ es. take_card es store_text) (station core panel old before) (station new new_panel h after) answer got ends (card_read old h before after last given stored)

  -- there was no card to be read
  pub none_read : (core : List ℕ) (panel : Panel) (old new : Hopper) (before after : Seen) (why : Break) → Lacks hopper_feed old new before after why
      → ReadsAll hopper_feed (λ es. take_card es store_text) (station core panel old before) (station core panel new after) (Err why)
  none_read core panel old new before after why lacks = no_entry hopper_feed (store_card store_text) core panel old new before after why lacks
