-- The map from slot to text, as an array.
use Rattle.std.proofs.Common.{◌≡◌, ◌≢◌, ℕ, zero, suc, ◌+◌, ◌<◌, ◌≤◌, ◌==◌, Bool, true, false, List, length, get_or, set, replicate, refl, ◌∙◌, ap, arith, get_or-set_other, get_or-set_same, Bor}
use Rattle.std.proofs.Math.Path.{fun_ext}
use Rattle.std.proofs.lemmas.Bool.Decides.{nat_tests}
use Rattle.std.specs.Prelude.{Option, Some, None, option_copied, nat_lt, slice_index_or, if◌then◌else◌}
use Rattle.command_line.specs.declared.options.Slot.{Slot}
use Rattle.command_line.specs.declared.options.TheConstants.{SLOT_COUNT}
use Rattle.command_line.specs.Options.{same_slot, slot_place}
use Rattle.command_line.specs.Reading.{Values}
use Rattle.command_line.specs.Words.{no_values, with_value}
use Rattle.command_line.specs.Matched.{with_found}
use Rattle.command_line.proofs.Slots.{slot_below, slot_same}

abbrev pub Kept : Type 0
Kept = Option (Bor (List ℕ))

-- the map that texts make, by the places of slots
abbrev pub texts_in : List Kept → Values
texts_in texts slot = option_copied (slice_index_or texts (slot_place slot) None)

abbrev nothing : Kept
nothing = None

none_at : (n k : ℕ) → get_or (replicate n nothing) k None ≡ None
none_at zero k = refl
none_at (suc n) zero = refl
none_at (suc n) (suc k) = none_at n k

-- no text at all
pub no_value : (λ (s : Slot). option_copied (get_or (replicate SLOT_COUNT nothing) (slot_place s) None)) ≡ no_values
no_value = fun_ext (λ s. ap (λ (n : Kept). option_copied n) (none_at SLOT_COUNT (slot_place s)))

text_by : (texts : List Kept) (i j : ℕ) (text : Bor (List ℕ)) (same : Bool) → (i == j) ≡ same → i < length texts → option_copied (get_or (set texts i (Some text)) j None) ≡ (if same then Some text.now else option_copied (get_or texts j None))
text_by texts i j text true is inside =
    let e : j ≡ i = grind (arith, nat_tests) in
    rw e (ap (λ (n : Kept). option_copied n) (get_or-set_same texts i (Some text) None inside))
text_by texts i j text false is inside =
    let other : j ≢ i = grind (arith, nat_tests) in
    ap (λ (n : Kept). option_copied n) (get_or-set_other texts i j (Some text) None other)

-- one text more
pub text_set : (texts : List Kept) (s : Slot) (text : Bor (List ℕ)) → length texts ≡ SLOT_COUNT → (λ (t : Slot). option_copied (get_or (set texts (slot_place s) (Some text)) (slot_place t) None)) ≡ with_value s text.now (λ t. option_copied (get_or texts (slot_place t) None))
text_set texts s text long = let h = slot_below s in fun_ext (λ t. text_by texts (slot_place s) (slot_place t) text (same_slot s t) refl (omega arith))

-- ---- filled from another map, place by place

-- the texts of the first n places
abbrev pub filled : ℕ → Values → Values
filled n values t = if nat_lt (slot_place t) n then values t else None

pub filled_none : (values : Values) → no_values ≡ filled 0 values
filled_none values = fun_ext (λ t. go t (nat_lt (slot_place t) 0) refl)
  where
    go : (t : Slot) (b : Bool) → nat_lt (slot_place t) 0 ≡ b → None ≡ (if b then values t else None)
    go t true e = absurd (grind (arith, nat_tests))
    go t false e = refl

pub filled_all : (values : Values) (n : ℕ) → SLOT_COUNT ≤ n → filled n values ≡ values
filled_all values n all = fun_ext (λ t. go t (nat_lt (slot_place t) n) refl)
  where
    go : (t : Slot) (b : Bool) → nat_lt (slot_place t) n ≡ b → (if b then values t else None) ≡ values t
    go t true e = refl
    go t false e = let h = slot_below t in absurd (grind (arith, nat_tests))

-- one place more: where it has a text, and where it has none
pub filled_more : (values : Values) (n : ℕ) (s : Slot) (text : List ℕ) → slot_place s ≡ n → Some text ≡ values s → with_value s text (filled n values) ≡ filled (n + 1) values
filled_more values n s text at has = fun_ext (λ t. go t (same_slot s t) refl (nat_lt (slot_place t) n) refl (nat_lt (slot_place t) (n + 1)) refl)
  where
    go : (t : Slot) (a : Bool) → same_slot s t ≡ a → (b : Bool) → nat_lt (slot_place t) n ≡ b → (c : Bool) → nat_lt (slot_place t) (n + 1) ≡ c
        → (if a then Some text else if b then values t else None) ≡ (if c then values t else None)
    go t true x b y true z = has ∙ ap values (slot_same s t x)
    go t true x b y false z = absurd (grind (arith, nat_tests))
    go t false x true y true z = refl
    go t false x true y false z = absurd (grind (arith, nat_tests))
    go t false x false y true z = absurd (grind (arith, nat_tests))
    go t false x false y false z = refl

pub filled_past : (values : Values) (n : ℕ) (s : Slot) → slot_place s ≡ n → None ≡ values s → filled n values ≡ filled (n + 1) values
filled_past values n s at has = fun_ext (λ t. go t (same_slot s t) refl (nat_lt (slot_place t) n) refl (nat_lt (slot_place t) (n + 1)) refl)
  where
    go : (t : Slot) (a : Bool) → same_slot s t ≡ a → (b : Bool) → nat_lt (slot_place t) n ≡ b → (c : Bool) → nat_lt (slot_place t) (n + 1) ≡ c
        → (if b then values t else None) ≡ (if c then values t else None)
    go t true x true y c z = absurd (grind (arith, nat_tests))
    go t true x false y true z = has ∙ ap values (slot_same s t x)
    go t true x false y false z = refl
    go t false x true y true z = refl
    go t false x true y false z = absurd (grind (arith, nat_tests))
    go t false x false y true z = absurd (grind (arith, nat_tests))
    go t false x false y false z = refl

pub found_more : (values : Values) (n : ℕ) (s : Slot) (text : Option (List ℕ)) → slot_place s ≡ n → text ≡ values s → with_found s text (filled n values) ≡ filled (n + 1) values
found_more values n s None at has = filled_past values n s at has
found_more values n s (Some text) at has = filled_more values n s text at has
