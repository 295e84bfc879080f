-- Short names and their numbers.
use Rattle.std.proofs.Common.{◌≡◌, ℕ, zero, suc, ◌<◌, ◌≤◌, true, ◌==◌, List, length, get_or, refl, sym, ap, ◌∙◌, bytes_eq, arith}
use Rattle.std.proofs.lemmas.Bool.Decides.{nat_tests}
use Rattle.std.proofs.lemmas.Grind.{same_number_lists}
use Rattle.std.proofs.lemmas.Nat.{be_bytes_8}
use Rattle.std.proofs.lemmas.Slice.Eq.{bytes_eq-Decides}
use Rattle.std.specs.Cmp.{unsigned_ties}
use Rattle.std.specs.Int.{w64, to_be_bytes}
use Rattle.std.specs.Ordering.{is_eq, nat_cmp}
use Rattle.sps_expr.specs.SymbolList.{AreBytes, key_bytes, short_key}
use Rattle.sps_expr.proofs.Cases.{by_bool}

-- what a number is made of are bytes
are_key_bytes : (name : List ℕ) → AreBytes name → length name ≤ 7 → (i : ℕ) → get_or (key_bytes name) i 0 < 256
are_key_bytes name bytes few zero = bytes 0
are_key_bytes name bytes few (suc zero) = bytes 1
are_key_bytes name bytes few (suc (suc zero)) = bytes 2
are_key_bytes name bytes few (suc (suc (suc zero))) = bytes 3
are_key_bytes name bytes few (suc (suc (suc (suc zero)))) = bytes 4
are_key_bytes name bytes few (suc (suc (suc (suc (suc zero))))) = bytes 5
are_key_bytes name bytes few (suc (suc (suc (suc (suc (suc zero)))))) = bytes 6
are_key_bytes name bytes few (suc (suc (suc (suc (suc (suc (suc zero))))))) = omega (arith, few)
are_key_bytes name bytes few (suc (suc (suc (suc (suc (suc (suc (suc i)))))))) = omega arith

-- and are found in it again
key_bytes_back : (name : List ℕ) → AreBytes name → length name ≤ 7 → to_be_bytes w64 (short_key name) ≡ key_bytes name
key_bytes_back name bytes few = be_bytes_8 (key_bytes name) (short_key name) refl (are_key_bytes name bytes few) refl

-- names that are made into the same bytes are the same
module _ (xs ys : List ℕ) (few : length xs ≤ 7) (same : key_bytes xs ≡ key_bytes ys) where
  same_at : (k : ℕ) → k < length xs → get_or xs k 0 ≡ get_or ys k 0
  same_at zero below = ap (λ l. get_or l 0 0) same
  same_at (suc zero) below = ap (λ l. get_or l 1 0) same
  same_at (suc (suc zero)) below = ap (λ l. get_or l 2 0) same
  same_at (suc (suc (suc zero))) below = ap (λ l. get_or l 3 0) same
  same_at (suc (suc (suc (suc zero)))) below = ap (λ l. get_or l 4 0) same
  same_at (suc (suc (suc (suc (suc zero))))) below = ap (λ l. get_or l 5 0) same
  same_at (suc (suc (suc (suc (suc (suc zero)))))) below = ap (λ l. get_or l 6 0) same
  same_at (suc (suc (suc (suc (suc (suc (suc k))))))) below = absurd (omega (arith, few, below))

  same_names : xs ≡ ys
  same_names = same_number_lists xs ys (ap (λ l. get_or l 7 0) same) same_at

-- so two short names have one number only where they are the same
module _ (xs ys : List ℕ) (bytes_x : AreBytes xs) (bytes_y : AreBytes ys) (few_x : length xs ≤ 7) (few_y : length ys ≤ 7) where
  same_key : short_key xs ≡ short_key ys → xs ≡ ys
  same_key e = same_names xs ys few_x (sym (key_bytes_back xs bytes_x few_x) ∙ (ap (to_be_bytes w64) e ∙ key_bytes_back ys bytes_y few_y))

  pub key_test : is_eq (nat_cmp (short_key xs) (short_key ys)) ≡ bytes_eq ys xs
  key_test = sym (unsigned_ties (short_key xs) (short_key ys)) ∙ by_bool (bytes_eq ys xs)
      (λ t. let is : short_key xs ≡ short_key ys = ap short_key (sym ((bytes_eq-Decides ys xs).0 t)) in rw (t, is) (by_itself (short_key ys)))
      (λ d. by_bool (short_key xs == short_key ys)
      (λ e. absurd (let k = sym ((bytes_eq-Decides ys xs).1 (sym (same_key (grind (arith, nat_tests))))) ∙ d in cc))
      (λ n. n ∙ sym d))
    where
      by_itself : (k : ℕ) → (k == k) ≡ true
      by_itself k = grind (arith, nat_tests)
