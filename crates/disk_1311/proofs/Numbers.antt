-- Numbers of digits.
use Rattle.std.proofs.Common.{◌≡◌, ℕ, zero, suc, ◌+◌, ◌*◌, ◌<◌, ◌≤◌, List, [], ◌∷◌, length, get_or, take, drop, arith, add-one}
use Rattle.std.proofs.Math.Nat.{mul-le-mul_left}
use Rattle.std.proofs.lemmas.List.{drop_more, drop_all, length-take-le, length-drop}
use Rattle.std.proofs.lemmas.List.Elements.{All-head, All-tail, All-take, All-drop}
use Rattle.std.specs.List.{All}
use Rattle.disk_1311.specs.Control.{number_from, number_of_digits}

-- what so many bytes can't go beyond, as a number
abbrev pub cap : ℕ → ℕ
cap zero = 29
cap (suc k) = 10 * cap k

pub cap_small : (k : ℕ) → k < 5 → cap k ≤ 290000
cap_small zero small = omega arith
cap_small (suc zero) small = omega arith
cap_small (suc (suc zero)) small = omega arith
cap_small (suc (suc (suc zero))) small = omega arith
cap_small (suc (suc (suc (suc zero)))) small = omega arith
cap_small (suc (suc (suc (suc (suc k))))) small = absurd (omega arith)

-- one byte more
pub cap_more : (k n b : ℕ) → n + 29 ≤ cap k → b < 256 → 10 * n + b + 29 ≤ cap (k + 1)
cap_more k n b within byte = rw add-one (omega arith)

-- the next digit goes over to the number
pub number_on : (n k : ℕ) (vs : List ℕ) → k < length vs → number_from n (drop k vs) ≡ number_from (10 * n + get_or vs k 0) (drop (k + 1) vs)
number_on n k vs more = rw (drop_more vs k 0 more)

-- no digit is left
pub number_end : (n k : ℕ) (vs : List ℕ) → length vs ≤ k → number_from n (drop k vs) ≡ n
number_end n k vs all = rw (drop_all k vs all)

-- 1 with so many zeros
abbrev pub tens : ℕ → ℕ
tens zero = 1
tens (suc k) = 10 * tens k

-- decimal digits are a number of so many digits
pub number_below : (vs : List ℕ) (n : ℕ) → All (λ v. v ≤ 9) vs → number_from n vs < (n + 1) * tens (length vs)
number_below [] n decimal = omega arith
number_below (v ∷ vs) n decimal =
    let here : v ≤ 9 = All-head (λ v. v ≤ 9) v vs decimal in
    let rest = number_below vs (10 * n + v) (All-tail (λ v. v ≤ 9) v vs decimal) in
    let more : tens (length vs) * (10 * n + v + 1) ≤ tens (length vs) * (10 * (n + 1)) = mul-le-mul_left (tens (length vs)) (omega arith) in
    omega arith

-- so are some of them
pub part_below : (n m : ℕ) (vs : List ℕ) → m + n ≤ length vs → All (λ v. v ≤ 9) vs → number_of_digits (take n (drop m vs)) < tens n
part_below n m vs within decimal =
    let long : length (take n (drop m vs)) ≡ n = length-take-le n (drop m vs) (omega (arith, length-drop m vs)) in
    let below = number_below (take n (drop m vs)) 0 (All-take (λ v. v ≤ 9) n (drop m vs) (All-drop (λ v. v ≤ 9) m vs decimal)) in
    let small = rw long at below in omega (arith, small)
