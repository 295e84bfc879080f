-- The list of lines, taken from its front.
use Rattle.std.proofs.Common.{◌≡◌, ℕ, ◌<◌, Bool, true, false, List, [], ◌∷◌, length, map, refl, ap, arith}
use Rattle.std.specs.Prelude.{if◌then◌else◌, ◌==◌}
use Rattle.outside_io.specs.Lines.{first_line_of, behind_line, without_return, first_text, onto_first, lines_of, texts_of}

-- the front line, whether the first byte ends it or not
by_test : (ends : Bool) (b : ℕ) (bytes : List ℕ) → onto_first b (lines_of bytes) ≡ (b ∷ first_line_of bytes) ∷ lines_of (behind_line bytes)
    → (if ends then [] ∷ lines_of bytes else onto_first b (lines_of bytes)) ≡ (if ends then [] else b ∷ first_line_of bytes) ∷ lines_of (if ends then bytes else behind_line bytes)
by_test true b bytes rest = refl
by_test false b bytes rest = rest

-- the lines are the first one and those of what stands behind it
pub lines_of-front : (b : ℕ) (bytes : List ℕ) → lines_of (b ∷ bytes) ≡ first_line_of (b ∷ bytes) ∷ lines_of (behind_line (b ∷ bytes))
lines_of-front b [] = by_test (b == 10) b [] refl
lines_of-front b (c ∷ bytes) = by_test (b == 10) b (c ∷ bytes) (ap (λ (lines : List (List ℕ)). onto_first b lines) (lines_of-front c bytes))

-- and so are the texts
pub texts_of-front : (bytes : List ℕ) → 0 < length bytes → texts_of bytes ≡ first_text bytes ∷ texts_of (behind_line bytes)
texts_of-front [] some = absurd (omega (arith, some))
texts_of-front (b ∷ bytes) some = ap (λ (lines : List (List ℕ)). map without_return lines) (lines_of-front b bytes)
