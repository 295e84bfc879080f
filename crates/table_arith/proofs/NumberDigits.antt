-- Digits and numbers: what a number says of its digits.
use Rattle.std.proofs.Common.{ℕ, zero, suc, ◌≡◌, ◌+◌, ◌*◌, ◌/◌, ◌%◌, ◌^◌, ◌<◌, ◌≤◌, List, [], ◌∷◌, ◌++◌, length, get_or, sym, ◌∙◌, ap, arith}
use Rattle.std.proofs.lemmas.List.FromFn.{map-range_with_len_more, get_or-map-range_with_len, length-map-range_with_len}
use Rattle.std.proofs.Math.Nat.{pow-succ', zero-div, div-div-eq-div-mul}
use Rattle.table_arith.specs.Values.{value}
use Rattle.table_arith.specs.Numbers.{value_above_units, digits_at}
use Rattle.table_arith.proofs.LongAddition.{AreDecimal, above_decimal}

-- one digit more, above the others
pub value_push : (ds : List ℕ) (d : ℕ) → value (ds ++ d ∷ []) ≡ value ds + d * 10 ^ length ds
unfolding value
value_push [] d = omega arith
value_push (e ∷ ds) d =
    let rest = value_push ds d in
    let power = pow-succ' 10 (length ds) in
    let m : d * 10 ^ suc (length ds) ≡ 10 * (d * 10 ^ length ds) = rw power (omega arith) in
    omega arith

pub digits_more : (core : List ℕ) (p n : ℕ) → digits_at core p (n + 1) ≡ digits_at core p n ++ value_above_units core p n ∷ []
unfolding digits_at
digits_more core p n = map-range_with_len_more (value_above_units core p) 0 n n (omega arith)

pub length_digits : (core : List ℕ) (p n : ℕ) → length (digits_at core p n) ≡ n
unfolding digits_at
length_digits core p n = length-map-range_with_len (value_above_units core p) 0 n

pub digit_is : (core : List ℕ) (p n k : ℕ) → k < n → get_or (digits_at core p n) k 0 ≡ value_above_units core p k
unfolding digits_at
digit_is core p n k below = get_or-map-range_with_len (value_above_units core p) 0 n k k 0 below (omega arith)

pub value_more : (core : List ℕ) (p n : ℕ) → value (digits_at core p (n + 1)) ≡ value (digits_at core p n) + value_above_units core p n * 10 ^ n
value_more core p n =
    let l = length_digits core p n in
    ap value (digits_more core p n) ∙ value_push (digits_at core p n) (value_above_units core p n) ∙ ap (λ k. value (digits_at core p n) + value_above_units core p n * 10 ^ k) l

-- a digit of a number
pub digit_of : (ds : List ℕ) → AreDecimal ds → (i : ℕ) → get_or ds i 0 ≡ value ds / 10 ^ i % 10
unfolding value
digit_of [] decimal i = let z = zero-div (10 ^ i) in omega arith
digit_of (d ∷ ds) decimal zero = let h : d ≤ 9 = decimal 0 in omega arith
digit_of (d ∷ ds) decimal (suc i) =
    let h : d ≤ 9 = decimal 0 in
    let t : (d + 10 * value ds) / 10 ≡ value ds = omega arith in
    let q : (d + 10 * value ds) / 10 ^ suc i ≡ value ds / 10 ^ i = ap (λ k. (d + 10 * value ds) / k) (pow-succ' 10 i) ∙ sym (div-div-eq-div-mul (d + 10 * value ds) 10 (10 ^ i)) ∙ ap (λ k. k / 10 ^ i) t in
    digit_of ds (above_decimal (d ∷ ds) decimal) i ∙ ap (λ k. k % 10) (sym q)

-- one digit less
pub shift_digit : (m i : ℕ) → m / 10 ^ i / 10 ≡ m / 10 ^ (i + 1)
shift_digit m i =
    let e : i + 1 ≡ suc i = omega arith in
    let c : 10 ^ i * 10 ≡ 10 ^ suc i = (let d = pow-succ' 10 i in omega arith) in
    div-div-eq-div-mul m (10 ^ i) 10 ∙ ap (λ k. m / k) c ∙ ap (λ k. m / 10 ^ k) (sym e)

pub ten_more : (x i : ℕ) → x ≡ 10 ^ i → x * 10 ≡ 10 ^ (i + 1)
ten_more x i is =
    let e : i + 1 ≡ suc i = omega arith in
    let c : x * 10 ≡ 10 ^ suc i = (let d = pow-succ' 10 i in omega arith) in
    c ∙ ap (λ k. 10 ^ k) (sym e)

pub value_one : (core : List ℕ) (p : ℕ) → value (digits_at core p 1) ≡ value_above_units core p 0
unfolding value digits_at
value_one core p = omega arith
