-- The digits that segments have are those of their pieces.
use Rattle.std.proofs.Common.{ℕ, ◌≡◌, ◌+◌, ◌-◌, ◌<◌, ◌≤◌, ◌&&◌, nat_le, nat_lt, inl, inr, true, false, List, [], ◌∷◌, ◌++◌, length, Option, Some, None, refl, sym, ap, ◌∙◌, arith, length-append}
use Rattle.std.proofs.lemmas.List.{get_or_append_left, get_or-append-add}
use Rattle.std.proofs.lemmas.Bool.{cases_lt}
use Rattle.std.proofs.lemmas.Bool.Decides.{nat_tests}
use Rattle.digit_core.specs.declared.Digit.{Digit}
use Rattle.sps_pass_two.specs.Image.{DigitRun, digit_at, declared_digit, or_else}
use Rattle.deck_punch.specs.declared.form.DeckForm.{DeckForm}
use Rattle.deck_punch.specs.Cut.{cut_as, cut_piece_as}
use Rattle.card_columns.specs.Orders.{nth}
use Rattle.deck_punch.specs.Cover.{Covers, no_digits, segment}
use Rattle.deck_punch.proofs.Covering.{form_covers}

abbrev pub run : ℕ → List Digit → DigitRun
run a ds = record { from = a; digits = ds }

pub below : (g : DigitRun) (a : ℕ) → a < g.from → digit_at g a ≡ None
unfolding digit_at
below g a h = let t : (nat_le g.from a && nat_lt a (g.from + length g.digits)) ≡ false = grind (arith, nat_tests) in rw t

pub above : (g : DigitRun) (a : ℕ) → g.from + length g.digits ≤ a → digit_at g a ≡ None
unfolding digit_at
above g a h = let t : (nat_le g.from a && nat_lt a (g.from + length g.digits)) ≡ false = grind (arith, nat_tests) in rw t

pub within : (g : DigitRun) (a : ℕ) → g.from ≤ a → a < g.from + length g.digits → digit_at g a ≡ Some (nth g.digits (a - g.from))
unfolding digit_at
within g a h l = let t : (nat_le g.from a && nat_lt a (g.from + length g.digits)) ≡ true = grind (arith, nat_tests) in rw t

-- the later run's digit stands before the earlier one's
pub or_none : (o : Option Digit) → or_else o None ≡ o
or_none (Some d) = refl
or_none None = refl

pub or_assoc : (o p q : Option Digit) → or_else (or_else o p) q ≡ or_else o (or_else p q)
or_assoc (Some d) p q = refl
or_assoc None p q = refl

-- digits in two parts
digit_joined : (a : ℕ) (xs ys : List Digit) (b : ℕ) → or_else (digit_at (run (a + length xs) ys) b) (digit_at (run a xs) b) ≡ digit_at (run a (xs ++ ys)) b
digit_joined a xs ys b =
    let l = length-append xs ys in
    elim (cases_lt b a) [
      | inl low ↦ rw (below (run (a + length xs) ys) b (omega arith), below (run a xs) b low, below (run a (xs ++ ys)) b low) refl
      | inr high ↦ elim (cases_lt b (a + length xs)) [
        | inl first ↦
            rw (below (run (a + length xs) ys) b first, within (run a xs) b high first, within (run a (xs ++ ys)) b high (omega arith))
            (ap (λ (d : Digit). Some d) (sym (get_or_append_left xs ys _ (b - a) (omega arith))))
        | inr second ↦ elim (cases_lt b (a + length xs + length ys)) [
          | inl there ↦
              let e : b - a ≡ length xs + (b - (a + length xs)) = omega arith in
              rw (within (run (a + length xs) ys) b second there, within (run a (xs ++ ys)) b high (omega arith))
              (ap (λ (d : Digit). Some d) (sym (ap (nth (xs ++ ys)) e ∙ get_or-append-add xs ys (b - (a + length xs)) _)))
          | inr past ↦ rw (above (run (a + length xs) ys) b past, above (run a xs) b second, above (run a (xs ++ ys)) b (omega arith)) refl
        ]
      ]
    ]

nothing_at : (a b : ℕ) → None ≡ digit_at (run a []) b
nothing_at a b =
    elim (cases_lt b a) [
      | inl low ↦ sym (below (run a []) b low)
      | inr high ↦ sym (above (run a []) b (omega arith))
    ]

-- a cover declares what its digits are
cover_declares : {IsCut : List Digit → List Digit → Type 0} {a : ℕ} {ds : List Digit} {gs : List DigitRun} → Covers IsCut a ds gs → (b : ℕ) → declared_digit gs b ≡ digit_at (run a ds) b
unfolding declared_digit
cover_declares {a = a} no_digits b = nothing_at a b
cover_declares {a = a} (segment ds rest cut more) b = ap (λ (o : Option Digit). or_else o (digit_at (run a ds) b)) (cover_declares more b) ∙ digit_joined a ds rest b

-- runs in two parts
pub declared_joined : (gs hs : List DigitRun) (b : ℕ) → declared_digit (gs ++ hs) b ≡ or_else (declared_digit hs b) (declared_digit gs b)
unfolding declared_digit
declared_joined [] hs b = sym (or_none (declared_digit hs b))
declared_joined (g ∷ gs) hs b = ap (λ (o : Option Digit). or_else o (digit_at g b)) (declared_joined gs hs b) ∙ or_assoc (declared_digit hs b) (declared_digit gs b) (digit_at g b)

-- the segments of pieces declare what the pieces do
pub cut_declares : (form : DeckForm) (pieces : List DigitRun) (b : ℕ) → declared_digit (cut_as form pieces) b ≡ declared_digit pieces b
unfolding cut_as declared_digit
cut_declares form [] b = refl
cut_declares form (p ∷ ps) b =
    declared_joined (cut_piece_as form p) (cut_as form ps) b
    ∙ ap (λ (o : Option Digit). or_else o (declared_digit (cut_piece_as form p) b)) (cut_declares form ps b)
    ∙ ap (or_else (declared_digit ps b)) (cover_declares (form_covers form p) b)
