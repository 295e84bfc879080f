-- The cards and the lines of the keyboard that a step, a part of one, and the Load key leave.
use Rattle.std.proofs.Common.{◌≡◌, ◌∙◌, ℕ, zero, suc, ◌+◌, List, [], ◌∷◌, ◌++◌, take, drop, refl, sym, ap, drop-drop}
use Rattle.std.specs.Prelude.{Option, Some, None, Result, Ok, Err}
use Rattle.addr_indirect.specs.declared.Stop.{Stop}
use Rattle.outside_io.specs.Events.{Event, cards_in, lines_in}
use Rattle.outside_io.proofs.EventLemmas.{cards_append, lines_append}
use Rattle.card_code.specs.Break.{Break, StopsBy, Empty, NoKeys, JamsAt}
use Rattle.card_code.specs.Entries.{Entry, behind}
use Rattle.cpu_step.specs.State.{State}
use Rattle.cpu_step.specs.Act.{Next, Continues, Halts}
use Rattle.cpu_step.specs.Effects.{Effect, CellStored, Light, Arm, Written, Sector, CardTaken, LineTaken, after_one, after}
use Rattle.cpu_step.specs.Step.{instruction, check_stop, state_after_check, settle, step, partial_step}
use Rattle.cpu_step.specs.Load.{state_for_load, load_trace, load_key, load_cut}
use Rattle.cpu_step.specs.Outside.{all_outside, load_events}

-- from one state to another these events were done: the cards and the lines that are left are those before without the ones that were taken
pub record HasTaken (from to : State) (ds : List Event) : Type 0 where
  pub cards : to.hopper ≡ drop (cards_in ds) from.hopper
  pub lines : to.keys ≡ drop (lines_in ds) from.keys

-- none was taken
pub taken_none : (s t : State) → t.hopper ≡ s.hopper → t.keys ≡ s.keys → HasTaken s t []
taken_none s t hopper keys = record { cards = hopper; lines = keys }

-- what is behind one list of events and another is what is behind both
drop_on : (n m k : ℕ) (all between left : List Entry) → k ≡ n + m → between ≡ drop n all → left ≡ drop m between → left ≡ drop k all
drop_on n m k all between left sum first second =
    second ∙ ap (drop m) first ∙ drop-drop m n all ∙ ap (λ (j : ℕ). drop j all) (sym sum)

pub taken_on : (ds es : List Event) (s t u : State) → HasTaken s t ds → HasTaken t u es → HasTaken s u (ds ++ es)
taken_on ds es s t u first second = record {
  cards = drop_on (cards_in ds) (cards_in es) (cards_in (ds ++ es)) s.hopper t.hopper u.hopper (cards_append ds es) first.cards second.cards;
  lines = drop_on (lines_in ds) (lines_in es) (lines_in (ds ++ es)) s.keys t.keys u.keys (lines_append ds es) first.lines second.lines;
}

-- behind the front entry, so many are left out as behind one more
drop_behind : (n : ℕ) (entries : List Entry) → drop n (behind entries) ≡ drop (suc n) entries
drop_behind zero [] = refl
drop_behind (suc n) [] = refl
drop_behind n (e ∷ entries) = refl

-- some effects leave the cards and the lines without those that they take
pub all_taken : (es : List Effect) (s : State) → HasTaken s (after s es) (all_outside es)
all_taken [] s = record { cards = refl; lines = refl }
all_taken (CellStored d ∷ es) s = let t = all_taken es (after_one s (CellStored d)) in record { cards = t.cards; lines = t.lines }
all_taken (Light l ∷ es) s = let t = all_taken es (after_one s (Light l)) in record { cards = t.cards; lines = t.lines }
all_taken (Arm drive cylinder ∷ es) s = let t = all_taken es (after_one s (Arm drive cylinder)) in record { cards = t.cards; lines = t.lines }
all_taken (Written u b ∷ es) s = let t = all_taken es (after_one s (Written u b)) in record { cards = t.cards; lines = t.lines }
all_taken (Sector a bytes ∷ es) s = let t = all_taken es (after_one s (Sector a bytes)) in record { cards = t.cards; lines = t.lines }
all_taken (CardTaken ∷ es) s = let t = all_taken es (after_one s CardTaken) in record { cards = t.cards ∙ drop_behind (cards_in (all_outside es)) s.hopper; lines = t.lines }
all_taken (LineTaken ∷ es) s = let t = all_taken es (after_one s LineTaken) in record { cards = t.cards; lines = t.lines ∙ drop_behind (lines_in (all_outside es)) s.keys }

-- what follows the effects of a step takes none
record SameInputs (s t : State) : Type 0 where
  pub hopper : t.hopper ≡ s.hopper
  pub keys : t.keys ≡ s.keys

checked_same : (o : Option Stop) (s : State) (n : Next) → SameInputs s (state_after_check o s n)
checked_same None s (Continues regs) = record { hopper = refl; keys = refl }
checked_same None s (Halts regs) = record { hopper = refl; keys = refl }
checked_same (Some why) s n = record { hopper = refl; keys = refl }

settle_same : (s : State) (r : Result Next Break) → SameInputs s (settle s r)
settle_same s (Ok next) = checked_same (check_stop s.panel) s next
settle_same s (Err (StopsBy why)) = record { hopper = refl; keys = refl }
settle_same s (Err Empty) = record { hopper = refl; keys = refl }
settle_same s (Err NoKeys) = record { hopper = refl; keys = refl }
settle_same s (Err (JamsAt u n)) = record { hopper = refl; keys = refl }

-- a step, and a part of one
pub step_taken : (s : State) → HasTaken s (step s) (all_outside (instruction s).effects)
unfolding step
step_taken s =
    let t = all_taken (instruction s).effects s in
    let same = settle_same (after s (instruction s).effects) (instruction s).answer in
    record { cards = same.hopper ∙ t.cards; lines = same.keys ∙ t.lines }

pub cut_taken : (done : ℕ) (s : State) → HasTaken s (partial_step done s) (all_outside (take done (instruction s).effects))
unfolding partial_step
cut_taken done s = let t = all_taken (take done (instruction s).effects) s in record { cards = t.cards; lines = t.lines }

-- and so the Load key
pub load_taken : (s : State) → HasTaken s (load_key s) (load_events s)
unfolding load_key
load_taken s = let t = all_taken (load_trace (state_for_load s)).effects (state_for_load s) in record { cards = t.cards; lines = t.lines }

pub load_cut_taken : (done : ℕ) (s : State) → HasTaken s (load_cut done s) (all_outside (take done (load_trace (state_for_load s)).effects))
unfolding load_cut
load_cut_taken done s = let t = all_taken (take done (load_trace (state_for_load s)).effects) (state_for_load s) in record { cards = t.cards; lines = t.lines }
