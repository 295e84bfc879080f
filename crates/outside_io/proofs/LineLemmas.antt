-- The first line of some bytes.
use Rattle.std.proofs.Common.{◌≡◌, ◌≢◌, ℕ, suc, ◌+◌, ◌-◌, ◌≤◌, Bool, true, false, List, [], ◌∷◌, ◌++◌, length, take, get_or, refl, ap, arith}
use Rattle.std.proofs.lemmas.Bool.Decides.{nat_tests}
use Rattle.std.proofs.lemmas.List.{length-take}
use Rattle.std.specs.Prelude.{if◌then◌else◌, ◌==◌}
use Rattle.outside_io.specs.Lines.{first_line_of, behind_line, without_return, HasNoEnd}

-- the first of bytes without LF is none
first_test : (b : ℕ) (bytes : List ℕ) → HasNoEnd (b ∷ bytes) → (b == 10) ≡ false
first_test b bytes none = let other : b ≢ 10 = none 0 (omega arith) in grind (arith, nat_tests)

-- nor has the rest of them one
rest_none : (b : ℕ) (bytes : List ℕ) → HasNoEnd (b ∷ bytes) → HasNoEnd bytes
rest_none b bytes none k within = none (suc k) (omega (arith, within))

-- bytes without LF are the front of the first line
pub line_of-append : (held more : List ℕ) → HasNoEnd held → first_line_of (held ++ more) ≡ held ++ first_line_of more
line_of-append [] more none = refl
line_of-append (b ∷ held) more none = rw (first_test b held none) (ap (λ (x : List ℕ). b ∷ x) (line_of-append held more (rest_none b held none)))

-- and what stands behind the first line stands behind them
pub behind_line-append : (held more : List ℕ) → HasNoEnd held → behind_line (held ++ more) ≡ behind_line more
behind_line-append [] more none = refl
behind_line-append (b ∷ held) more none = rw (first_test b held none) (behind_line-append held more (rest_none b held none))

-- at most one byte is dropped
at_most_one : (drops : Bool) (text : List ℕ) → length text ≤ length (if drops then take (length text - 1) text else text) + 1
at_most_one true text = omega (arith, length-take (length text - 1) text)
at_most_one false text = omega arith

-- a text without its CR is at most one byte shorter
pub length-without_return : (text : List ℕ) → length text ≤ length (without_return text) + 1
length-without_return text = at_most_one (get_or text (length text - 1) 0 == 13) text
