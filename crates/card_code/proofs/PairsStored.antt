-- A text's pairs as they are stored.
use Rattle.std.proofs.Common.{◌≡◌, ℕ, ◌+◌, ◌<◌, ◌≤◌, Bool, true, false, nat_lt, List, length, drop, get_or, refl, ◌∙◌, ap, Ok, Err}
use Rattle.std.proofs.lemmas.List.{drop_more, drop_all}
use Rattle.std.specs.Prelude.{Option, Some, None, Result, ⊤}
use Rattle.indicators.specs.declared.Panel.{Panel}
use Rattle.addr_indirect.specs.declared.Stop.{Stop}
use Rattle.traces.specs.Trace.{Trace, ends}
use Rattle.traces.specs.Change.{Change, Changed, core_after_changes, panel_after_changes}
use Rattle.card_code.specs.Pairs.{Pair, alpha_of}
use Rattle.card_code.specs.TextIn.{store_pair, store_pairs}
use Rattle.card_code.proofs.TextsStored.{Rest}

-- One pair was stored, or not wholly. Both of its positions are in core, or not.
module _ (core new : List ℕ) (panel new_panel : Panel) (n a : ℕ) (t : Trace Change ⊤ Stop) where
  abbrev Stored : Option Pair → Result ⊤ Stop → Type 0
  Stored pair answer = Changed core panel (store_pair n a pair (ends (Ok tt))) new new_panel answer

  after : (first second : Bool) → nat_lt a n ≡ first → nat_lt (a + 1) n ≡ second → (pair : Option Pair) → Stored pair (Ok tt) → Rest new new_panel t core panel (store_pair n a pair t)
  after true true in_first in_second (Some p) stored =
      let st = rw (in_first, in_second) at stored in
      rw (in_first, in_second) (record { leaves = ap (λ (x : List ℕ). core_after_changes x t.effects) st.leaves; shows = ap (λ (x : Panel). panel_after_changes x t.effects) st.shows; answers = refl })
  after true true in_first in_second None stored =
      let st = rw (in_first, in_second) at stored in
      rw (in_first, in_second) (record { leaves = ap (λ (x : List ℕ). core_after_changes x t.effects) st.leaves; shows = ap (λ (x : Panel). panel_after_changes x t.effects) st.shows; answers = refl })
  after true false in_first in_second (Some p) stored = let st = rw (in_first, in_second) at stored in let no = st.answers in cc
  after true false in_first in_second None stored = let st = rw (in_first, in_second) at stored in let no = st.answers in cc
  after false second in_first in_second (Some p) stored = let st = rw in_first at stored in let no = st.answers in cc
  after false second in_first in_second None stored = let st = rw in_first at stored in let no = st.answers in cc

  broken : (first second : Bool) → nat_lt a n ≡ first → nat_lt (a + 1) n ≡ second → (pair : Option Pair) (why : Stop) → Stored pair (Err why) → Changed core panel (store_pair n a pair t) new new_panel (Err why)
  broken true true in_first in_second (Some p) why stored = let st = rw (in_first, in_second) at stored in let no = st.answers in cc
  broken true true in_first in_second None why stored = let st = rw (in_first, in_second) at stored in let no = st.answers in cc
  broken true false in_first in_second (Some p) why stored = let st = rw (in_first, in_second) at stored in rw (in_first, in_second) st
  broken true false in_first in_second None why stored = let st = rw (in_first, in_second) at stored in rw (in_first, in_second) st
  broken false second in_first in_second (Some p) why stored = let st = rw in_first at stored in rw in_first st
  broken false second in_first in_second None why stored = let st = rw in_first at stored in rw in_first st

  -- once it was stored what follows it goes on from there
  pub after_pair : (pair : Option Pair) → Stored pair (Ok tt) → Rest new new_panel t core panel (store_pair n a pair t)
  after_pair pair stored = after (nat_lt a n) (nat_lt (a + 1) n) refl refl pair stored

  -- and else this is the answer of all
  pub broken_pair : (pair : Option Pair) (why : Stop) → Stored pair (Err why) → Changed core panel (store_pair n a pair t) new new_panel (Err why)
  broken_pair pair why stored = broken (nat_lt a n) (nat_lt (a + 1) n) refl refl pair why stored

-- The rest of a rest is a rest of the whole.
pub rest_on : (core mid start : List ℕ) (panel mid_panel start_panel : Panel) (t r whole : Trace Change ⊤ Stop) → Rest mid mid_panel r start start_panel whole → Rest core panel t mid mid_panel r → Rest core panel t start start_panel whole
rest_on core mid start panel mid_panel start_panel t r whole first next = record {
  leaves = next.leaves ∙ first.leaves;
  shows = next.shows ∙ first.shows;
  answers = next.answers ∙ first.answers;
}

-- And so is what it does.
pub rest_done : (mid start new : List ℕ) (mid_panel start_panel new_panel : Panel) (r whole : Trace Change ⊤ Stop) (answer : Result ⊤ Stop) → Rest mid mid_panel r start start_panel whole → Changed mid mid_panel r new new_panel answer → Changed start start_panel whole new new_panel answer
rest_done mid start new mid_panel start_panel new_panel r whole answer first next = record {
  leaves = next.leaves ∙ first.leaves;
  shows = next.shows ∙ first.shows;
  answers = next.answers ∙ first.answers;
}

-- The pairs of the text from character k on are the next one and those behind it.
pub next_pair : (n a k : ℕ) (text : List ℕ) → k < length text → store_pairs n a (drop k text) ≡ store_pair n a (alpha_of (get_or text k 0)) (store_pairs n (a + 2) (drop (k + 1) text))
unfolding store_pairs
next_pair n a k text more = rw (drop_more text k 0 more) refl

-- Behind the last one there is none.
pub no_pair : (n a k : ℕ) (text : List ℕ) → length text ≤ k → store_pairs n a (drop k text) ≡ ends (Ok tt)
unfolding store_pairs
no_pair n a k text over = rw (drop_all k text over) refl
