-- What the pieces of an image keep.
use Rattle.std.proofs.Common.{ℕ, suc, ◌≡◌, ◌+◌, ◌==◌, ◌≤◌, ◌&&◌, nat_le, nat_lt, Bool, true, false, List, [], ◌∷◌, length, Option, Some, None, refl, arith, All}
use Rattle.std.proofs.lemmas.List.Elements.{All-cons}
use Rattle.std.proofs.lemmas.Bool.Decides.{nat_tests}
use Rattle.std.specs.Prelude.{if◌then◌else◌, IfSome}
use Rattle.digit_core.specs.declared.Digit.{Digit}
use Rattle.digit_core.specs.Cell.{IsGood}
use Rattle.sps_pass_two.specs.Image.{DigitRun, onto_piece, pieces_from}
use Rattle.sps_pass_two.specs.Kept.{IsPiece, IsRunBelow, rises, are_apart, KeptLaw}
use Rattle.sps_pass_two.proofs.Apart.{are_pieces}

abbrev run : ℕ → List Digit → DigitRun
run a ds = record { from = a; digits = ds }

pub tail : (P : DigitRun → Type 0) (p : DigitRun) (ps : List DigitRun) → All P (p ∷ ps) → All P ps
tail P p ps all k e l = all (suc k) e (omega arith)

one_digit : (d : Digit) → IsGood d → All IsGood (d ∷ [])
one_digit d good = All-cons IsGood d [] good (λ k e l. absurd (omega arith))

onto_each : (a : ℕ) (d : Digit) (ps : List DigitRun) → IsGood d → All IsPiece ps → All IsPiece (onto_piece a d ps)
onto_each a d [] good all = All-cons IsPiece (run a (d ∷ [])) [] (record { some = omega arith; good = one_digit d good }) (λ k e l. absurd (omega arith))
onto_each a d (p ∷ ps) good all = by_near (p.from == a + 1)
  where
    first : IsPiece p
    first = all 0 p (omega arith)

    by_near : (t : Bool) → All IsPiece (if t then run a (d ∷ p.digits) ∷ ps else run a (d ∷ []) ∷ p ∷ ps)
    by_near true = All-cons IsPiece (run a (d ∷ p.digits)) ps (record { some = omega arith; good = All-cons IsGood d p.digits good first.good }) (tail IsPiece p ps all)
    by_near false = All-cons IsPiece (run a (d ∷ [])) (p ∷ ps) (record { some = omega arith; good = one_digit d good }) all

onto_below : (n a : ℕ) (d : Digit) (ps : List DigitRun) → a + 1 ≤ n → All (IsRunBelow n) ps → All (IsRunBelow n) (onto_piece a d ps)
onto_below n a d [] h all = All-cons (IsRunBelow n) (run a (d ∷ [])) [] h (λ k e l. absurd (omega arith))
onto_below n a d (p ∷ ps) h all = by_near (p.from == a + 1) refl
  where
    first : p.from + length p.digits ≤ n
    first = all 0 p (omega arith)

    by_near : (t : Bool) → (p.from == a + 1) ≡ t → All (IsRunBelow n) (if t then run a (d ∷ p.digits) ∷ ps else run a (d ∷ []) ∷ p ∷ ps)
    by_near true near = let e : p.from ≡ a + 1 = grind (arith, nat_tests) in All-cons (IsRunBelow n) (run a (d ∷ p.digits)) ps (omega (arith, first)) (tail (IsRunBelow n) p ps all)
    by_near false far = All-cons (IsRunBelow n) (run a (d ∷ [])) (p ∷ ps) h all

pub both : (a b : Bool) → (a && b) ≡ true → (a ≡ true) × (b ≡ true)
both true b h = (refl, h)
both false b h = cc

-- pieces that are apart rise
apart_rises : (ps : List DigitRun) → are_apart ps ≡ true → rises ps ≡ true
apart_rises [] apart = refl
apart_rises (p ∷ []) apart = refl
apart_rises (p ∷ q ∷ ps) apart =
    let two = both (nat_lt (p.from + length p.digits) q.from) (are_apart (q ∷ ps)) apart in
    let first : nat_le (p.from + length p.digits) q.from ≡ true = let t = two.0 in grind (arith, nat_tests) in
    rw (first, apart_rises (q ∷ ps) two.1) refl

each_of : (cells : List (Option Digit)) (a : ℕ) → All (λ o. IfSome o IsGood) cells → All IsPiece (pieces_from a cells)
unfolding pieces_from
each_of [] a good = λ k e l. absurd (omega arith)
each_of (None ∷ cells) a good = each_of cells (a + 1) (λ k e l. good (suc k) e (omega arith))
each_of (Some d ∷ cells) a good = onto_each a d (pieces_from (a + 1) cells) (good 0 (Some d) (omega arith)) (each_of cells (a + 1) (λ k e l. good (suc k) e (omega arith)))

pub below_of : (cells : List (Option Digit)) (a n : ℕ) → a + length cells ≤ n → All (IsRunBelow n) (pieces_from a cells)
unfolding pieces_from
below_of [] a n h = λ k e l. absurd (omega arith)
below_of (None ∷ cells) a n h = below_of cells (a + 1) n (omega arith)
below_of (Some d ∷ cells) a n h = onto_below n a d (pieces_from (a + 1) cells) (omega arith) (below_of cells (a + 1) n (omega arith))

pub are_kept : KeptLaw
are_kept cells a good = record { each = each_of cells a good; below = below_of cells a (a + length cells) (omega arith); rising = apart_rises (pieces_from a cells) (are_pieces cells a).apart }
