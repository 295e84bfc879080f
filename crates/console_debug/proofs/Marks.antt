-- The entries of a log that count.
use Rattle.std.proofs.Common.{◌≡◌, ◌∙◌, ℕ, zero, suc, ◌+◌, ◌<◌, ◌≤◌, ◌==◌, nat_le, nat_lt, not, ◌||◌, Bool, true, false, List, [], ◌∷◌, ◌++◌, length, take, count_by, refl, sym, ap, subst, arith}
use Rattle.std.proofs.lemmas.Bool.{eqb-true, eqb-false, leb-true, leb-false, le-leb, lt-leb}
use Rattle.std.proofs.lemmas.Bool.Decides.{nat_tests}
use Rattle.std.proofs.lemmas.List.{append-nil, length-take-le, take_more}
use Rattle.std.proofs.lemmas.List.Sums.{sum_by-cons, sum_by_push}
use Rattle.std.specs.Prelude.{if◌then◌else◌, slice_index_or, replicate}
use Rattle.std.specs.List.{filter, list_any}
use Rattle.console_debug.specs.Breakpoints.{is_set, set_from, times_set}

few_more : (b : Bool) (x : ℕ) (ys : List ℕ) (n : ℕ) → length ys ≤ n → length (if b then x ∷ ys else ys) ≤ suc n
few_more true x ys n few = omega (arith, few)
few_more false x ys n few = omega (arith, few)

-- no more count than there are
pub set_few : (f : ℕ → ℕ) (i : ℕ) (xs : List ℕ) → length (set_from f i xs) ≤ length xs
unfolding set_from
set_few f i [] = omega arith
set_few f i (x ∷ xs) = few_more (is_set f i x) x (set_from f (suc i) xs) (length xs) (set_few f (suc i) xs)

one_more : (b : Bool) (x : ℕ) (xs ys zs : List ℕ) → xs ≡ ys ++ zs → (if b then x ∷ xs else xs) ≡ (if b then x ∷ ys else ys) ++ zs
one_more true x xs ys zs is = ap (λ (us : List ℕ). x ∷ us) is
one_more false x xs ys zs is = is

here_set : (f : ℕ → ℕ) (i s : ℕ) → f s ≤ i → set_from f i (s ∷ []) ≡ s ∷ []
unfolding set_from
here_set f i s before =
    let t : is_set f i s ≡ true = le-leb (f s) i before in
    rw t refl

not_set : (f : ℕ → ℕ) (i s : ℕ) → i < f s → set_from f i (s ∷ []) ≡ []
unfolding set_from
not_set f i s behind =
    let t : is_set f i s ≡ false = lt-leb (f s) i behind in
    rw t refl

-- two logs, one behind the other
pub set_append : (f : ℕ → ℕ) (i : ℕ) (xs ys : List ℕ) → set_from f i (xs ++ ys) ≡ set_from f i xs ++ set_from f (i + length xs) ys
unfolding set_from
set_append f i [] ys =
    let none : i ≡ i + 0 = omega arith in
    ap (λ j. set_from f j ys) none
set_append f i (x ∷ xs) ys =
    let next : suc i + length xs ≡ i + length (x ∷ xs) = omega arith in
    one_more (is_set f i x) x (set_from f (suc i) (xs ++ ys)) (set_from f (suc i) xs) (set_from f (i + length (x ∷ xs)) ys)
    (set_append f (suc i) xs ys ∙ ap (λ j. set_from f (suc i) xs ++ set_from f j ys) next)

-- one entry more, which counts
pub set_more : (f : ℕ → ℕ) (xs : List ℕ) (s : ℕ) → f s ≤ length xs → set_from f 0 (xs ++ s ∷ []) ≡ set_from f 0 xs ++ s ∷ []
set_more f xs s before = set_append f 0 xs (s ∷ []) ∙ ap (λ (ys : List ℕ). set_from f 0 xs ++ ys) (here_set f (0 + length xs) s (omega (arith, before)))

-- a statement of which no entry counts any more
pub set_without : (f g : ℕ → ℕ) (s i : ℕ) (xs : List ℕ) → ((t : ℕ) → (t ≡ s → ⊥) → g t ≡ f t) → i + length xs ≤ g s
    → set_from g i xs ≡ filter (λ b. not (b == s)) (set_from f i xs)
unfolding set_from
set_without f g s i [] others behind = refl
set_without f g s i (x ∷ xs) others behind = by_same (x == s) refl (set_without f g s (suc i) xs others (omega (arith, behind)))
  where
    dropped : (b : Bool) → (x == s) ≡ true → filter (λ b. not (b == s)) (if b then x ∷ set_from f (suc i) xs else set_from f (suc i) xs) ≡ filter (λ b. not (b == s)) (set_from f (suc i) xs)
    dropped true is = rw is refl
    dropped false is = refl

    stays : (b : Bool) → (x == s) ≡ false → set_from g (suc i) xs ≡ filter (λ b. not (b == s)) (set_from f (suc i) xs)
        → (if b then x ∷ set_from g (suc i) xs else set_from g (suc i) xs) ≡ filter (λ b. not (b == s)) (if b then x ∷ set_from f (suc i) xs else set_from f (suc i) xs)
    stays true is rest = rw is (ap (λ (us : List ℕ). x ∷ us) rest)
    stays false is rest = rest

    by_same : (b : Bool) → (x == s) ≡ b → set_from g (suc i) xs ≡ filter (λ b. not (b == s)) (set_from f (suc i) xs) → set_from g i (x ∷ xs) ≡ filter (λ b. not (b == s)) (set_from f i (x ∷ xs))
    by_same true is rest =
        let same : x ≡ s = eqb-true x s is in
        let t : is_set g i x ≡ false = lt-leb (g x) i (subst (λ u. i < g u) (sym same) (omega (arith, behind))) in
        rw t (rest ∙ sym (dropped (is_set f i x) is))
    by_same false is rest =
        let t : g x ≡ f x = others x (eqb-false x s is) in
        ap (λ k. if nat_le k i then x ∷ set_from g (suc i) xs else set_from g (suc i) xs) t ∙ stays (is_set f i x) is rest

-- COUNTS

abbrev pub one_if : Bool → ℕ
one_if b = if b then 1 else 0

-- with one more
pub count_more : (p : ℕ → Bool) (xs : List ℕ) (s : ℕ) → count_by p (xs ++ s ∷ []) ≡ count_by p xs + (if p s then 1 else 0)
count_more p xs s = sum_by_push (λ x. if p x then 1 else 0) xs s

-- without a statement
pub count_without : (p : ℕ → Bool) (s : ℕ) (xs : List ℕ) → count_by p (filter (λ b. not (b == s)) xs) + (if p s then times_set s xs else 0) ≡ count_by p xs
count_without p s [] = by_test (p s)
  where
    by_test : (b : Bool) → 0 + (if b then 0 else 0) ≡ 0
    by_test true = refl
    by_test false = refl
count_without p s (x ∷ xs) = by_same (x == s) refl (count_without p s xs)
  where
    one : count_by p (x ∷ xs) ≡ (if p x then 1 else 0) + count_by p xs
    one = sum_by-cons (λ y. if p y then 1 else 0) x xs

    times : times_set s (x ∷ xs) ≡ (if x == s then 1 else 0) + times_set s xs
    times = sum_by-cons (λ y. if y == s then 1 else 0) x xs

    kept : count_by p (x ∷ filter (λ b. not (b == s)) xs) ≡ (if p x then 1 else 0) + count_by p (filter (λ b. not (b == s)) xs)
    kept = sum_by-cons (λ y. if p y then 1 else 0) x (filter (λ b. not (b == s)) xs)

    adds : (b : Bool) (n k all more total : ℕ) → n + (if b then k else 0) ≡ all → more ≡ 1 + k → total ≡ (if b then 1 else 0) + all → n + (if b then more else 0) ≡ total
    adds true n k all more total is m t = omega (arith, is, m, t)
    adds false n k all more total is m t = omega (arith, is, m, t)

    stays : (b : Bool) (n k all more total : ℕ) (c : ℕ) → n + (if b then k else 0) ≡ all → more ≡ k → total ≡ c + all → c + n + (if b then more else 0) ≡ total
    stays true n k all more total c is m t = omega (arith, is, m, t)
    stays false n k all more total c is m t = omega (arith, is, m, t)

    by_same : (b : Bool) → (x == s) ≡ b → count_by p (filter (λ b. not (b == s)) xs) + (if p s then times_set s xs else 0) ≡ count_by p xs → count_by p (filter (λ b. not (b == s)) (x ∷ xs)) + (if p s then times_set s (x ∷ xs) else 0) ≡ count_by p (x ∷ xs)
    by_same true is rest =
        let same : x ≡ s = eqb-true x s is in
        let t : times_set s (x ∷ xs) ≡ 1 + times_set s xs = times ∙ ap (λ b. (if b then 1 else 0) + times_set s xs) is in
        let total : count_by p (x ∷ xs) ≡ (if p s then 1 else 0) + count_by p xs = one ∙ ap (λ y. (if p y then 1 else 0) + count_by p xs) same in
        ap (λ b. count_by p (if not b then x ∷ filter (λ b. not (b == s)) xs else filter (λ b. not (b == s)) xs) + (if p s then times_set s (x ∷ xs) else 0)) is
        ∙ adds (p s) (count_by p (filter (λ b. not (b == s)) xs)) (times_set s xs) (count_by p xs) (times_set s (x ∷ xs)) (count_by p (x ∷ xs)) rest t total
    by_same false is rest =
        let none : one_if (x == s) ≡ 0 = ap (λ b. if b then 1 else 0) is in
        let t : times_set s (x ∷ xs) ≡ times_set s xs = omega (arith, times, none) in
        ap (λ b. count_by p (if not b then x ∷ filter (λ b. not (b == s)) xs else filter (λ b. not (b == s)) xs) + (if p s then times_set s (x ∷ xs) else 0)) is
        ∙ ap (λ n. n + (if p s then times_set s (x ∷ xs) else 0)) kept
        ∙ stays (p s) (count_by p (filter (λ b. not (b == s)) xs)) (times_set s xs) (count_by p xs) (times_set s (x ∷ xs)) (count_by p (x ∷ xs)) (if p x then 1 else 0) rest t one

-- some is there where the count is not 0
pub count_any : (p : ℕ → Bool) (xs : List ℕ) → nat_lt 0 (count_by p xs) ≡ list_any p xs
count_any p [] = refl
count_any p (x ∷ xs) = by_test (p x) refl (count_any p xs)
  where
    one : count_by p (x ∷ xs) ≡ (if p x then 1 else 0) + count_by p xs
    one = sum_by-cons (λ y. if p y then 1 else 0) x xs

    by_test : (b : Bool) → p x ≡ b → nat_lt 0 (count_by p xs) ≡ list_any p xs → nat_lt 0 (count_by p (x ∷ xs)) ≡ (p x || list_any p xs)
    by_test true is rest =
        let n : count_by p (x ∷ xs) ≡ 1 + count_by p xs = one ∙ ap (λ b. (if b then 1 else 0) + count_by p xs) is in
        let some : nat_lt 0 (count_by p (x ∷ xs)) ≡ true = grind (arith, nat_tests, n) in
        some ∙ ap (λ b. b || list_any p xs) (sym is)
    by_test false is rest =
        let none : one_if (p x) ≡ 0 = ap (λ b. if b then 1 else 0) is in
        let n : count_by p (x ∷ xs) ≡ count_by p xs = omega (arith, one, none) in
        ap (nat_lt 0) n ∙ rest ∙ ap (λ b. b || list_any p xs) (sym is)

-- TABLES

-- a table of zeros
pub zeros : (n i : ℕ) → slice_index_or (replicate n zero) i zero ≡ zero
zeros zero i = refl
zeros (suc n) zero = refl
zeros (suc n) (suc i) = zeros n i

-- the entries that count among the first of a log
pub first_set : (f : ℕ → ℕ) (xs : List ℕ) (i x : ℕ) → i < length xs → x ≡ slice_index_or xs i x
    → set_from f 0 (take (i + 1) xs) ≡ set_from f 0 (take i xs) ++ set_from f i (x ∷ [])
first_set f xs i x below is =
    let long : length (take i xs) ≡ i = length-take-le i xs (omega (arith, below)) in
    let from : 0 + length (take i xs) ≡ i = omega (arith, long) in
    let more : take (i + 1) xs ≡ take i xs ++ x ∷ [] = take_more xs i x below ∙ ap (λ v. take i xs ++ v ∷ []) (sym is) in
    ap (set_from f 0) more ∙ set_append f 0 (take i xs) (x ∷ []) ∙ ap (λ j. set_from f 0 (take i xs) ++ set_from f j (x ∷ [])) from

pub entry_set : (f : ℕ → ℕ) (xs : List ℕ) (i x : ℕ) → i < length xs → x ≡ slice_index_or xs i x → is_set f i x ≡ true
    → set_from f 0 (take (i + 1) xs) ≡ set_from f 0 (take i xs) ++ x ∷ []
entry_set f xs i x below is set = first_set f xs i x below is ∙ ap (λ (ys : List ℕ). set_from f 0 (take i xs) ++ ys) (here_set f i x (leb-true (f x) i set))

pub entry_passed : (f : ℕ → ℕ) (xs : List ℕ) (i x : ℕ) → i < length xs → x ≡ slice_index_or xs i x → is_set f i x ≡ false
    → set_from f 0 (take (i + 1) xs) ≡ set_from f 0 (take i xs)
entry_passed f xs i x below is not_counted =
    first_set f xs i x below is ∙ ap (λ (ys : List ℕ). set_from f 0 (take i xs) ++ ys) (not_set f i x (leb-false (f x) i not_counted)) ∙ append-nil (set_from f 0 (take i xs))
