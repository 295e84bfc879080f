-- The greatest number of parts, by the name of an operation.
use Rattle.std.proofs.Common.{◌≡◌, ◌≢◌, ℕ, ◌≤◌, Bool, true, false, ◌&&◌, nat_le, List, [], ◌∷◌, ◌==◌, length, slice_index, bytes_eq, unwrap_or, refl, arith}
use Rattle.std.proofs.lemmas.Bool.Decides.{nat_tests}
use Rattle.std.specs.List.{list_all}
use Rattle.line_words.specs.Blanks.{without_back, onto_front, trimmed}
use Rattle.line_words.specs.Rows.{NameRow, value_by_name}
use Rattle.sps_scan.specs.Operands.{part_counts, most_parts, operands_of, parts_and_remark}
use Rattle.sps_scan.proofs.Places.{by_test}

abbrev is_count : ℕ → Bool
is_count n = nat_le 1 n && nat_le n 10

both : (a b : Bool) → (a && b) ≡ true → (a ≡ true) × (b ≡ true)
both true b h = (refl, h)
both false b h = cc

count_in : (rows : List (NameRow ℕ)) (name : List ℕ) → list_all (λ r. is_count r.value) rows ≡ true → is_count (unwrap_or (value_by_name rows name) 3) ≡ true
unfolding value_by_name
count_in [] name all = refl
count_in (r ∷ rs) name all =
    let parts = both (is_count r.value) (list_all (λ r. is_count r.value) rs) all in
    by_test (bytes_eq name r.name) (λ t. rw t parts.0) (λ f. rw f (count_in rs name parts.1))

count_tests : (n : ℕ) → is_count n ≡ true → (1 ≤ n) × (n ≤ 10)
count_tests n h = let parts = both (nat_le 1 n) (nat_le n 10) h in (grind (arith, nat_tests), grind (arith, nat_tests))

-- it is 1 to 10
pub is_small : (name : List ℕ) → (1 ≤ most_parts name) × (most_parts name ≤ 10)
is_small name = count_tests (most_parts name) (count_in part_counts name refl)

-- a name that begins with another character than a D has no text, and three parts
other_name : (b : ℕ) (bs text : List ℕ) → (b == 68) ≡ false → operands_of (b ∷ bs) text ≡ parts_and_remark 3 text
unfolding value_by_name
other_name b bs text other = rw other refl

kept : (b : ℕ) (bs text : List ℕ) → (b == 68) ≡ false → (b == 32) ≡ false → operands_of (onto_front b bs) text ≡ parts_and_remark 3 text
kept b [] text other some = rw some (other_name b [] text other)
kept b (c ∷ cs) text other some = other_name b (c ∷ cs) text other

-- an operation that begins with neither a D nor a blank
pub other_first : (operation text : List ℕ) → 1 ≤ length operation → slice_index operation 0 ≢ 68 → slice_index operation 0 ≢ 32 → operands_of (trimmed operation) text ≡ parts_and_remark 3 text
other_first [] text long other some = absurd (omega (arith, long))
other_first (b ∷ bs) text long other some =
    let d : (b == 68) ≡ false = grind (arith, nat_tests) in
    let blank : (b == 32) ≡ false = grind (arith, nat_tests) in
    rw blank (kept b (without_back bs) text d blank)
