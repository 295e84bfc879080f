-- A card that is read into core: what it leaves, digit by digit.
use Rattle.std.proofs.Common.{nat_lt, ℕ, ◌≡◌, ◌≢◌, ◌+◌, ◌-◌, ◌<◌, ◌≤◌, ◌⊎◌, inl, inr, true, List, [], ◌∷◌, length, map, get_or, refl, Ok, arith, ◌∙◌}
use Rattle.std.proofs.lemmas.List.{get_or-set_other, get_or-set_same, length-set, length-map, append-nil}
use Rattle.std.proofs.lemmas.Bool.Decides.{nat_tests}
use Rattle.std.specs.Prelude.{⊤}
use Rattle.digit_core.specs.declared.Digit.{Digit}
use Rattle.digit_core.specs.Cell.{cell, store}
use Rattle.addr_indirect.specs.declared.Stop.{Stop}
use Rattle.traces.specs.Trace.{Trace}
use Rattle.traces.specs.Change.{Change, store_first}
use Rattle.card_code.specs.Break.{Break}
use Rattle.card_code.specs.Characters.{object_char}
use Rattle.card_code.specs.Entries.{Entry, Text, has_none_left, text_as_card}
use Rattle.card_code.specs.TextIn.{Changes, Intake, store_digits}
use Rattle.card_code.proofs.RoundTrips.{num_of-object_char}
use Rattle.card_unit.specs.Reader.{read_card_numeric}
use Rattle.card_unit.specs.CardCalls.{panel_after_card}
use Rattle.cpu_step.specs.State.{State}
use Rattle.cpu_step.specs.Effects.{of_cards, after}
use Rattle.cpu_step.specs.Outside.{all_outside}
use Rattle.card_columns.proofs.GoodDigits.{Good}
use Rattle.card_steps.proofs.CardsTaken.{AreTaken, changes_outside}
use Rattle.card_steps.proofs.HeldDigits.{Holds, cons_held}

-- digits stored from a upwards
unfoldable pub laid : List ℕ → ℕ → List Digit → List ℕ
laid core a [] = core
laid core a (d ∷ ds) = laid (store core a d) (a + 1) ds

pub laid_length : (ds : List Digit) (core : List ℕ) (a : ℕ) → length (laid core a ds) ≡ length core
unfolding laid
laid_length [] core a = refl
laid_length (d ∷ ds) core a = laid_length ds (store core a d) (a + 1) ∙ length-set core a (cell d)

pub laid_elsewhere : (ds : List Digit) (core : List ℕ) (a b : ℕ) → (b < a) ⊎ (a + length ds ≤ b) → get_or (laid core a ds) b 0 ≡ get_or core b 0
unfolding laid
laid_elsewhere [] core a b h = refl
laid_elsewhere (d ∷ ds) core a b h =
    let h2 : (b < a + 1) ⊎ (a + 1 + length ds ≤ b) = elim h [ inl l ↦ inl (omega arith) | inr l ↦ inr (omega arith) ] in
    let ne : b ≢ a = elim h as (λ _. b ≢ a) [ inl l ↦ omega arith | inr l ↦ omega arith ] in
    laid_elsewhere ds (store core a d) (a + 1) b h2 ∙ get_or-set_other core a b (cell d) 0 ne

pub laid_there : (ds : List Digit) (core : List ℕ) (a : ℕ) → a + length ds ≤ length core → Holds (laid core a ds) a ds
unfolding laid
laid_there [] core a h = record { inside = h; cells = λ i l. absurd (omega arith) }
laid_there (d ∷ ds) core a h =
    let h2 : a + 1 + length ds ≤ length (store core a d) = rw length-set (omega arith) in
    let k = laid_there ds (store core a d) (a + 1) h2 in
    cons_held _ a d ds (laid_elsewhere ds (store core a d) (a + 1) a (inl (omega arith)) ∙ get_or-set_same core a (cell d) 0 (omega arith)) k

-- changes that leave only core changed, and end well
record Lays (s : State) (t : Trace Change ⊤ Stop) (core : List ℕ) : Type 0 where
  state : after s (map of_cards (map Changes t.effects)) ≡ record s { core = core }
  answer : t.answer ≡ Ok tt

stored_then : (s : State) (a : ℕ) (d : Digit) (t : Trace Change ⊤ Stop) (core : List ℕ) → Lays (record s { core = store s.core a d }) t core → Lays s (store_first a d t) core
stored_then s a d t core l = record { state = l.state; answer = l.answer }

-- the digits of a text of object characters are stored
stored_up : (ds : List Digit) (s : State) (n a : ℕ) → Good ds → a + length ds ≤ n → Lays s (store_digits n a (map object_char ds)) (laid s.core a ds)
unfolding store_digits laid
stored_up [] s n a g h = record { state = refl; answer = refl }
stored_up (d ∷ ds) s n a g h =
    let lt : a < n = omega arith in
    let t : nat_lt a n ≡ true = grind (arith, nat_tests) in
    rw (num_of-object_char d g.0, t) (stored_then s a d _ _ (stored_up ds (record s { core = store s.core a d }) n (a + 1) g.1 (omega arith)))

-- a text of 80 characters is a card
whole_card : (text : List ℕ) → length text ≡ 80 → text_as_card text ≡ text
whole_card text w = let e : 80 - length text ≡ 0 = omega arith in rw e (append-nil text)

-- a card was read
pub record ReadsCard (s : State) (t : Trace Intake ⊤ Break) (core : List ℕ) (rest : List Entry) : Type 0 where
  pub state : after s (map of_cards t.effects) ≡ record s { core = core; panel = panel_after_card (has_none_left rest) s.panel; hopper = rest }
  pub answer : t.answer ≡ Ok tt
  pub takes : AreTaken (all_outside (map of_cards t.effects)) s.hopper rest

-- reading a card of object characters
pub card_read : (rest : List Entry) (s : State) (p : ℕ) (ds : List Digit) → length ds ≡ 80 → Good ds → p + 80 ≤ length s.core → s.hopper ≡ Text (map object_char ds) ∷ rest →
    ReadsCard s (read_card_numeric (length s.core) p s.hopper) (laid s.core p ds) rest
card_read [] s p ds w g room there =
    let long : length (map object_char ds) ≡ 80 = rw length-map w in
    let l = stored_up ds (record s { hopper = []; panel = panel_after_card true s.panel }) (length s.core) p g (omega arith) in
    rw (there, whole_card (map object_char ds) long) (record { state = l.state; answer = rw l.answer refl; takes = rw (changes_outside (store_digits (length s.core) p (map object_char ds)).effects) refl })
card_read (e ∷ rest) s p ds w g room there =
    let long : length (map object_char ds) ≡ 80 = rw length-map w in
    let l = stored_up ds (record s { hopper = e ∷ rest }) (length s.core) p g (omega arith) in
    rw (there, whole_card (map object_char ds) long) (record { state = l.state; answer = rw l.answer refl; takes = rw (changes_outside (store_digits (length s.core) p (map object_char ds)).effects) refl })
