-- The first line of some bytes, by the place of its LF.
use Rattle.std.proofs.Common.{◌≡◌, ◌≢◌, ◌∙◌, ℕ, zero, suc, ◌+◌, ◌-◌, ◌<◌, ◌≤◌, Bool, true, false, List, [], ◌∷◌, length, take, drop, get_or, refl, sym, ap, add-one, length-drop, arith}
use Rattle.std.proofs.lemmas.Bool.Decides.{nat_tests}
use Rattle.std.proofs.lemmas.List.{append-nil, take_all}
use Rattle.std.specs.Prelude.{Some, None}
use Rattle.memchr.specs.Find.{IsFirstByte, is_byte}
use Rattle.outside_io.specs.Lines.{first_line_of, behind_line, HasNoEnd}
use Rattle.outside_io.proofs.LineLemmas.{line_of-append, behind_line-append}

-- the first line ends before its LF, and what stands behind it begins after
cut_at : (bytes : List ℕ) (i : ℕ) → i < length bytes → is_byte 10 (get_or bytes i 0) ≡ true → ((k : ℕ) → k < i → is_byte 10 (get_or bytes k 0) ≡ false)
    → (first_line_of bytes ≡ take i bytes) × (behind_line bytes ≡ drop (suc i) bytes)
cut_at [] i within ends none = absurd (omega arith)
cut_at (b ∷ bytes) zero within ends none = rw ends (refl, refl)
cut_at (b ∷ bytes) (suc i) within ends none =
    let rest = cut_at bytes i (omega arith) ends (λ k below. none (suc k) (omega arith)) in
    let goes_on : is_byte 10 b ≡ false = none 0 (omega arith) in
    rw goes_on (ap (λ (line : List ℕ). b ∷ line) rest.0, rest.1)

-- what is not true is false
not_true : (b : Bool) → b ≢ true → b ≡ false
not_true true isnt = absurd (isnt refl)
not_true false isnt = refl

module _ (bytes : List ℕ) where
  -- the same of the LF that a search found
  cut : (i : ℕ) → IsFirstByte (is_byte 10) bytes (Some i) → (first_line_of bytes ≡ take i bytes) × (behind_line bytes ≡ drop (suc i) bytes)
  cut i found = cut_at bytes i found.0.high found.1 (λ k below. not_true _ (found.0.before k (omega arith) below))

  -- where a LF was found, the line stands before it
  pub line_before : (i : ℕ) → IsFirstByte (is_byte 10) bytes (Some i) → first_line_of bytes ≡ take i bytes
  line_before i found = (cut i found).0

  -- and all that stands after it is behind the line
  pub all_after : (i : ℕ) → IsFirstByte (is_byte 10) bytes (Some i) → take (length bytes - (i + 1)) (drop (i + 1) bytes) ≡ behind_line bytes
  all_after i found =
      let fits : length (drop (i + 1) bytes) ≤ length bytes - (i + 1) = omega (arith, length-drop (i + 1) bytes) in
      take_all (length bytes - (i + 1)) (drop (i + 1) bytes) fits ∙ rw add-one (sym (cut i found).1)

  -- where none was found, no LF stands in the bytes
  no_end : IsFirstByte (is_byte 10) bytes None → HasNoEnd bytes
  no_end none k within is = none k (omega arith) within (grind (arith, nat_tests))

  -- and then the line is all of them
  pub line_whole : IsFirstByte (is_byte 10) bytes None → first_line_of bytes ≡ bytes
  line_whole none = ap first_line_of (sym (append-nil bytes)) ∙ line_of-append bytes [] (no_end none) ∙ append-nil bytes

  -- with nothing behind it
  pub nothing_behind : IsFirstByte (is_byte 10) bytes None → behind_line bytes ≡ []
  nothing_behind none = ap behind_line (sym (append-nil bytes)) ∙ behind_line-append bytes [] (no_end none)
