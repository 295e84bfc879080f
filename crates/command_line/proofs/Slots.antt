-- Each slot has a place and a word of its own.
use Rattle.std.proofs.Common.{◌≡◌, ℕ, ◌<◌, ◌==◌, Bool, true, false, List, [], ◌∷◌, ◌++◌, refl, sym, ◌∙◌, ap, arith, true≢false}
use Rattle.std.proofs.lemmas.Bool.Decides.{nat_tests}
use Rattle.std.specs.Prelude.{Option, Some, find, unwrap_or, if◌then◌else◌}
use Rattle.std.specs.List.{list_all}
use Rattle.std.specs.Str.{bytes_eq}
use Rattle.clap.proofs.WalkLemmas.{both}
use Rattle.line_words.specs.Rows.{NameRow}
use Rattle.outside_io.specs.declared.host.Unit as unit
use Rattle.outside_io.specs.declared.host.Unit.TheVariants.{Source}
use Rattle.outside_io.specs.World.{place}
use Rattle.outside_io.proofs.UntoldHosts.{place_below}
use Rattle.command_line.specs.declared.options.Slot.{Slot}
use Rattle.command_line.specs.declared.options.Slot.TheVariants.{File}
use Rattle.command_line.specs.declared.options.TheConstants.{SLOT_COUNT}
use Rattle.command_line.specs.declared.words.Command.{Command}
use Rattle.command_line.specs.Options.{same_slot, slot_place, slot_word, slots}
use Rattle.command_line.specs.Words.{commands}

pub slot_below : (s : Slot) → slot_place s < SLOT_COUNT
slot_below (File u) = let h = place_below u in omega arith
slot_below s = omega arith

-- ---- all slots, those of one command after another

abbrev slots_in : List (NameRow Command) → List Slot
slots_in [] = []
slots_in (r ∷ rows) = slots r.value ++ slots_in rows

abbrev all_slots : List Slot
all_slots = slots_in commands

-- the first of them at a place
abbrev slot_from : ℕ → Option Slot
slot_from n = find (λ s. slot_place s == n) all_slots

-- each slot is the one at its place
file_from : (u : unit.Unit) → slot_from (place u) ≡ Some (File u)
file_from Source = refl
file_from u = refl

slot_at : (s : Slot) → slot_from (slot_place s) ≡ Some s
slot_at (File u) = file_from u
slot_at s = refl

place_same : (m n : ℕ) → (m == n) ≡ true → m ≡ n
place_same m n e = grind (arith, nat_tests)

-- at one place, one slot
pub slot_same : (a b : Slot) → same_slot a b ≡ true → a ≡ b
slot_same a b e =
    ap (λ (o : Option Slot). unwrap_or o a) (sym (slot_at a))
    ∙ ap (λ (n : ℕ). unwrap_or (slot_from n) a) (place_same (slot_place a) (slot_place b) e)
    ∙ ap (λ (o : Option Slot). unwrap_or o a) (slot_at b)

pub swapped : (m n : ℕ) → (m == n) ≡ (n == m)
swapped m n = go (m == n) (n == m) refl refl
  where
    go : (a b : Bool) → (m == n) ≡ a → (n == m) ≡ b → a ≡ b
    go true true x y = refl
    go false false x y = refl
    go true false x y = absurd (grind (arith, nat_tests))
    go false true x y = absurd (grind (arith, nat_tests))

pub slots_swapped : (a b : Slot) → same_slot a b ≡ same_slot b a
slots_swapped a b = swapped (slot_place a) (slot_place b)

-- ---- words

abbrev same_bool : Bool → Bool → Bool
same_bool true b = b
same_bool false true = false
same_bool false false = true

bools_same : (a b : Bool) → same_bool a b ≡ true → a ≡ b
bools_same true b e = sym e
bools_same false true e = absurd (true≢false (sym e))
bools_same false false e = refl

-- a test that all pass, at one that another test finds
passed_at : (p q : Slot → Bool) (xs : List Slot) (x : Slot) → list_all p xs ≡ true → find q xs ≡ Some x → p x ≡ true
passed_at p q [] x all found = absurd (cc)
passed_at p q (y ∷ ys) x all found = go (q y) (passed_at p q ys x (both _ _ all).1) found
  where
    go : (b : Bool) → (find q ys ≡ Some x → p x ≡ true) → (if b then Some y else find q ys) ≡ Some x → p x ≡ true
    go true behind is = ap (λ (o : Option Slot). p (unwrap_or o y)) (sym is) ∙ (both _ _ all).0
    go false behind is = behind is

abbrev agrees : Slot → Slot → Bool
agrees s t = same_bool (bytes_eq (slot_word s) (slot_word t)) (same_slot s t)

all_agree : list_all (λ s. list_all (agrees s) all_slots) all_slots ≡ true
all_agree = refl

-- one word, one slot
pub words_agree : (s t : Slot) → bytes_eq (slot_word s) (slot_word t) ≡ same_slot s t
words_agree s t =
    let first = passed_at (λ (s : Slot). list_all (agrees s) all_slots) (λ r. slot_place r == slot_place s) all_slots s all_agree (slot_at s) in
    bools_same _ _ (passed_at (agrees s) (λ r. slot_place r == slot_place t) all_slots t first (slot_at t))
