-- The pieces are apart, and declare what the cells do.
use Rattle.std.proofs.Common.{ℕ, suc, ◌≡◌, ◌+◌, ◌-◌, ◌==◌, ◌&&◌, nat_lt, inl, inr, Bool, true, false, List, [], ◌∷◌, length, Option, Some, None, refl, sym, ap, ◌∙◌, arith}
use Rattle.std.proofs.lemmas.Bool.{cases_lt, cases_eq}
use Rattle.std.proofs.lemmas.Bool.Decides.{nat_tests}
use Rattle.std.specs.Prelude.{if◌then◌else◌}
use Rattle.digit_core.specs.declared.Digit.{Digit}
use Rattle.sps_pass_two.specs.Image.{DigitRun, digit_at, declared_digit, or_else, onto_piece, pieces_from}
use Rattle.sps_pass_two.specs.Kept.{are_apart, declared_in, PiecesLaw}
use Rattle.sps_pass_two.proofs.DigitAt.{outside, within}
use Rattle.sps_pass_two.proofs.Runs.{Starts, starts}

abbrev run : ℕ → List Digit → DigitRun
run a ds = record { from = a; digits = ds }

-- one digit in front
front_at : (a : ℕ) (d : Digit) (ds : List Digit) (b : ℕ) → digit_at (run a (d ∷ ds)) b ≡ (if b == a then Some d else digit_at (run (a + 1) ds) b)
front_at a d ds b =
    elim (cases_eq b a) [
      | inl e ↦
          let t : (b == a) ≡ true = grind (arith, nat_tests) in
          let z : b - a ≡ 0 = omega arith in
          rw (t, within (run a (d ∷ ds)) b (omega arith) (omega arith), z) refl
      | inr ne ↦
          let t : (b == a) ≡ false = grind (arith, nat_tests) in
          elim (cases_lt b a) [
            | inl l ↦ rw (t, outside (run a (d ∷ ds)) b (inl l), outside (run (a + 1) ds) b (inl (omega arith))) refl
            | inr h ↦ elim (cases_lt b (a + suc (length ds))) [
              | inl m ↦
                  let k : b - a ≡ suc (b - (a + 1)) = omega arith in
                  rw (t, within (run a (d ∷ ds)) b h m, within (run (a + 1) ds) b (omega arith) (omega arith), k) refl
              | inr o ↦ rw (t, outside (run a (d ∷ ds)) b (inr o), outside (run (a + 1) ds) b (inr (omega arith))) refl
            ]
          ]
    ]

empty_at : (a b : ℕ) → digit_at (run a []) b ≡ None
empty_at a b = elim (cases_lt b a) [ inl l ↦ outside (run a []) b (inl l) | inr h ↦ outside (run a []) b (inr (omega arith)) ]

or_none : (o : Option Digit) → or_else o None ≡ o
or_none (Some d) = refl
or_none None = refl

or_first : (o q : Option Digit) → or_else o q ≡ None → o ≡ None
or_first None q none = refl
or_first (Some d) q none = cc

-- by whether the address is the digit's
or_if : (t : Bool) (o q : Option Digit) (d : Digit) → (t ≡ true → o ≡ None) → or_else o (if t then Some d else q) ≡ (if t then Some d else or_else o q)
or_if true o q d none = rw (none refl) refl
or_if false o q d none = refl

-- what is declared once a digit was put in front
onto_declares : (a : ℕ) (d : Digit) (ps : List DigitRun) (b : ℕ) → declared_digit ps a ≡ None → declared_digit (onto_piece a d ps) b ≡ (if b == a then Some d else declared_digit ps b)
unfolding declared_digit
onto_declares a d [] b none = front_at a d [] b ∙ ap (λ (o : Option Digit). if b == a then Some d else o) (empty_at (a + 1) b)
onto_declares a d (p ∷ ps) b none = by_near (p.from == a + 1) refl
  where
    at_a : declared_digit ps a ≡ None
    at_a = or_first (declared_digit ps a) (digit_at p a) none

    rest_none : (b == a) ≡ true → declared_digit ps b ≡ None
    rest_none t = let e : b ≡ a = grind (arith, nat_tests) in rw e at_a

    all_none : (b == a) ≡ true → or_else (declared_digit ps b) (digit_at p b) ≡ None
    all_none t = let e : b ≡ a = grind (arith, nat_tests) in rw e none

    by_near : (t : Bool) → (p.from == a + 1) ≡ t → declared_digit (if t then run a (d ∷ p.digits) ∷ ps else run a (d ∷ []) ∷ p ∷ ps) b ≡ (if b == a then Some d else or_else (declared_digit ps b) (digit_at p b))
    by_near true near =
        let e : p.from ≡ a + 1 = grind (arith, nat_tests) in
        let same : run (a + 1) p.digits ≡ p = λ i. record { from = sym e i; digits = p.digits } in
        ap (or_else (declared_digit ps b)) (front_at a d p.digits b ∙ ap (λ (g : DigitRun). if b == a then Some d else digit_at g b) same)
        ∙ or_if (b == a) (declared_digit ps b) (digit_at p b) d rest_none
    by_near false far =
        ap (or_else (or_else (declared_digit ps b) (digit_at p b))) (front_at a d [] b)
        ∙ or_if (b == a) (or_else (declared_digit ps b) (digit_at p b)) (digit_at (run (a + 1) []) b) d all_none
        ∙ ap (λ (o : Option Digit). if b == a then Some d else or_else (or_else (declared_digit ps b) (digit_at p b)) o) (empty_at (a + 1) b)
        ∙ ap (λ (o : Option Digit). if b == a then Some d else o) (or_none (or_else (declared_digit ps b) (digit_at p b)))

abbrev nothing : Option Digit
nothing = None

either_none : (t : Bool) → (if t then nothing else nothing) ≡ nothing
either_none true = refl
either_none false = refl

-- one cell in front
cell_at : (o : Option Digit) (cells : List (Option Digit)) (a b : ℕ) → (if b == a then o else declared_in (a + 1) cells b) ≡ declared_in a (o ∷ cells) b
cell_at o cells a b =
    elim (cases_eq b a) [
      | inl e ↦
          let t : (b == a) ≡ true = grind (arith, nat_tests) in
          let u : nat_lt b a ≡ false = grind (arith, nat_tests) in
          let z : b - a ≡ 0 = omega arith in
          rw (t, u, z) refl
      | inr ne ↦
          let t : (b == a) ≡ false = grind (arith, nat_tests) in
          elim (cases_lt b a) [
            | inl l ↦
                let u : nat_lt b a ≡ true = grind (arith, nat_tests) in
                let v : nat_lt b (a + 1) ≡ true = grind (arith, nat_tests) in
                rw (t, u, v) refl
            | inr h ↦
                let u : nat_lt b a ≡ false = grind (arith, nat_tests) in
                let v : nat_lt b (a + 1) ≡ false = grind (arith, nat_tests) in
                let k : b - a ≡ suc (b - (a + 1)) = omega arith in
                rw (t, u, v, k) refl
          ]
    ]

at_front : (cells : List (Option Digit)) (a : ℕ) → declared_in (a + 1) cells a ≡ None
at_front cells a = let v : nat_lt a (a + 1) ≡ true = grind (arith, nat_tests) in rw v refl

same_if : (t : Bool) (o : Option Digit) → (t ≡ true → o ≡ None) → o ≡ (if t then None else o)
same_if true o none = none refl
same_if false o none = refl

skip_at : (cells : List (Option Digit)) (a b : ℕ) → declared_in (a + 1) cells b ≡ declared_in a (None ∷ cells) b
skip_at cells a b =
    same_if (b == a) (declared_in (a + 1) cells b) (λ t. let e : b ≡ a = grind (arith, nat_tests) in rw e (at_front cells a)) ∙ cell_at None cells a b

-- a longer piece in the place of the first
longer_apart : (p g : DigitRun) (ps : List DigitRun) → g.from + length g.digits ≡ p.from + length p.digits → are_apart (p ∷ ps) ≡ true → are_apart (g ∷ ps) ≡ true
longer_apart p g [] same apart = refl
longer_apart p g (q ∷ ps) same apart = ap (λ (n : ℕ). nat_lt n q.from && are_apart (q ∷ ps)) same ∙ apart

onto_apart : (a : ℕ) (d : Digit) (ps : List DigitRun) → Starts (a + 1) ps → are_apart ps ≡ true → are_apart (onto_piece a d ps) ≡ true
onto_apart a d [] s apart = refl
onto_apart a d (p ∷ ps) s apart = by_near (p.from == a + 1) refl
  where
    by_near : (t : Bool) → (p.from == a + 1) ≡ t → are_apart (if t then run a (d ∷ p.digits) ∷ ps else run a (d ∷ []) ∷ p ∷ ps) ≡ true
    by_near true near =
        let e : p.from ≡ a + 1 = grind (arith, nat_tests) in
        longer_apart p (run a (d ∷ p.digits)) ps (omega arith) apart
    by_near false far =
        let ne : nat_lt (a + 1) p.from ≡ true = grind (arith, nat_tests) in
        rw (ne, apart) refl

-- the law
pub are_pieces : PiecesLaw
unfolding pieces_from declared_digit
are_pieces [] a = record { declares = λ b. sym (either_none (nat_lt b a)); apart = refl }
are_pieces (None ∷ cells) a =
    let rest = are_pieces cells (a + 1) in
    record { declares = λ b. rest.declares b ∙ skip_at cells a b; apart = rest.apart }
are_pieces (Some d ∷ cells) a =
    let rest = are_pieces cells (a + 1) in
    record {
      declares = λ b.
          onto_declares a d (pieces_from (a + 1) cells) b (rest.declares a ∙ at_front cells a)
          ∙ ap (λ (o : Option Digit). if b == a then Some d else o) (rest.declares b) ∙ cell_at (Some d) cells a b;
      apart = onto_apart a d (pieces_from (a + 1) cells) (starts (a + 1) cells) rest.apart;
    }
