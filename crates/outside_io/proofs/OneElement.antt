-- Lists of one element alone, and lists that are filled up with it.
use Rattle.std.proofs.Common.{◌≡◌, ℕ, zero, suc, ◌<◌, ◌≤◌, Bool, true, false, List, [], ◌∷◌, ◌++◌, length, take, get_or, replicate, refl, ap, ◌∙◌, arith}
use Rattle.std.proofs.lemmas.List.{get_or-replicate, get_or_past, length-replicate, take_all}
use Rattle.std.proofs.lemmas.Bool.Decides.{nat_tests}
use Rattle.std.specs.Prelude.{nat_lt}

-- it reads as that element, also past its end
pub all_same : (n i : ℕ) (x : List ℕ) → get_or (replicate n x) i x ≡ x
all_same n i x = by_place (nat_lt i n) refl
  where
    by_place : (b : Bool) → nat_lt i n ≡ b → get_or (replicate n x) i x ≡ x
    by_place true within = let lt : i < n = grind (arith, nat_tests) in get_or-replicate n i x x lt
    by_place false past = let le : n ≤ i = grind (arith, nat_tests) in get_or_past (replicate n x) i x (omega (arith, length-replicate n x, le))

-- what is filled up reads as before
pub added_same : (n i : ℕ) (x : List ℕ) (xs : List (List ℕ)) → get_or (xs ++ replicate n x) i x ≡ get_or xs i x
added_same n i x [] = all_same n i x
added_same n zero x (y ∷ ys) = refl
added_same n (suc i) x (y ∷ ys) = added_same n i x ys

-- also where the list was to be cut to a length that it hasn't got
pub filled_same : (m n i : ℕ) (x : List ℕ) (xs : List (List ℕ)) → length xs ≤ m → get_or (take m xs ++ replicate n x) i x ≡ get_or xs i x
filled_same m n i x xs short = ap (λ (ys : List (List ℕ)). get_or (ys ++ replicate n x) i x) (take_all m xs short) ∙ added_same n i x xs
