-- An entry that is taken, and read in.
use Rattle.std.proofs.Common.{◌≡◌, ℕ, List, map, refl, sym, ◌∙◌, ap}
use Rattle.std.specs.Prelude.{Result, Ok, Err, ⊤}
use Rattle.indicators.specs.declared.Panel.{Panel}
use Rattle.addr_indirect.specs.declared.Stop.{Stop}
use Rattle.outside_io.specs.World.{Seen}
use Rattle.traces.specs.Trace.{Trace, map_reason}
use Rattle.traces.specs.Change.{Change, Changed, core_after_changes}
use Rattle.card_code.specs.Break.{Break, StopsBy}
use Rattle.card_code.specs.Entries.{Entry, behind}
use Rattle.card_code.specs.TextIn.{Changes, desk_after}
use Rattle.card_code.specs.Feed.{Feed, Station, GivesEntry, Lacks, ReadsAll, take_next, left_at, desk_at, station}
use Rattle.card_code.proofs.TakenIn.{changes_in, behind_told, same_told}

module _ {S A : Type 0} (feed : Feed S A) (stored : A → Trace Change ⊤ Stop) where
  -- what is given for an entry was stored: this is the whole reading
  read_in : (old new : Station S) (what : A) (answer : Result ⊤ Stop) (given : List Entry) → feed.next given ≡ Ok what → Changed old.core old.panel (stored what) new.core new.panel answer
      → ((take_next feed.next given stored).answer ≡ map_reason StopsBy answer) × (desk_at new (behind given) ≡ desk_after (desk_at old given) (take_next feed.next given stored).effects)
  read_in old new what answer given front changed =
      let desk : desk_at new (behind given) ≡ desk_after (desk_at old (behind given)) (map Changes (stored what).effects) =
      ap (λ (x : List ℕ). record { core = x; panel = new.panel; left = behind given }) changed.leaves
      ∙ ap (λ (x : Panel). record { core = core_after_changes old.core (stored what).effects; panel = x; left = behind given }) changed.shows
      ∙ sym (changes_in (stored what).effects old.core old.panel (behind given)) in
      rw front (ap (λ (x : Result ⊤ Stop). map_reason StopsBy x) (sym changed.answers), desk)

  -- so the call's answer and what it leaves are those of the reading
  pub entry_read : (old new : Station S) (what : A) (answer : Result ⊤ Stop) → GivesEntry feed old.from new.from old.seen new.seen what → Changed old.core old.panel (stored what) new.core new.panel answer
      → ReadsAll feed (λ es. take_next feed.next es stored) old new (map_reason StopsBy answer)
  entry_read old new what answer gives changed =
      let read = read_in old new what answer gives.given.given gives.given.holds changed in
      record {
        given = gives.given.given;
        told = gives.given.told;
        answers = read.0;
        rest = behind gives.given.given;
        leaves = read.1;
        left = gives.left ∙ behind_told (left_at feed old) gives.given.given gives.given.told;
        looks = gives.looks;
      }

  -- there was no entry to be read
  pub none_read : (core : List ℕ) (panel : Panel) (old new : S) (before after : Seen) (why : Break) → Lacks feed old new before after why
      → ReadsAll feed (λ es. take_next feed.next es stored) (station core panel old before) (station core panel new after) (Err why)
  none_read core panel old new before after why lacks = record {
    given = lacks.given.given;
    told = lacks.given.told;
    answers = rw lacks.given.holds refl;
    rest = lacks.given.given;
    leaves = rw lacks.given.holds refl;
    left = lacks.stays.left ∙ same_told (feed.left old before.world) lacks.given.given lacks.given.told;
    looks = lacks.stays.looks;
  }
