-- A text's digits as they are stored.
use Rattle.std.proofs.Common.{◌≡◌, ℕ, ◌+◌, ◌≤◌, List, length, drop, refl, Ok}
use Rattle.std.proofs.lemmas.List.{drop_all}
use Rattle.std.specs.Prelude.{⊤}
use Rattle.indicators.specs.declared.Panel.{Panel}
use Rattle.addr_indirect.specs.declared.Stop.{Stop}
use Rattle.traces.specs.Trace.{Trace}
use Rattle.traces.specs.Change.{Change, Changed, core_after_changes, panel_after_changes}
use Rattle.card_code.specs.TextIn.{store_digits}

-- from here the rest leaves and answers what the whole does from the start
pub record Rest (core : List ℕ) (panel : Panel) (t : Trace Change ⊤ Stop) (start : List ℕ) (start_panel : Panel) (whole : Trace Change ⊤ Stop) : Type 0 where
  pub leaves : core_after_changes core t.effects ≡ core_after_changes start whole.effects
  pub shows : panel_after_changes panel t.effects ≡ panel_after_changes start_panel whole.effects
  pub answers : t.answer ≡ whole.answer

-- the whole is the rest at the start
pub rest_start : (core : List ℕ) (panel : Panel) (t : Trace Change ⊤ Stop) → Rest core panel t core panel t
rest_start core panel t = record { leaves = refl; shows = refl; answers = refl }

-- The text is stored from a upwards in a core of n positions, and k of its digits are.
module _ (core start : List ℕ) (panel start_panel : Panel) (whole : Trace Change ⊤ Stop) (n a k : ℕ) (text : List ℕ) where
  abbrev pub Going : Type 0
  Going = Rest core panel (store_digits n (a + k) (drop k text)) start start_panel whole

  -- nothing more is to be stored
  pub stored_all : length text ≤ k → Going → Changed start start_panel whole core panel (Ok tt)
  unfolding store_digits
  stored_all over going = let rest = rw (drop_all k text over) at going in record { leaves = rest.leaves; shows = rest.shows; answers = rest.answers }
