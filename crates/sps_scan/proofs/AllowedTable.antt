-- The table of the assembler's characters, byte by byte.
use Rattle.std.proofs.Common.{◌≡◌, ◌∙◌, ℕ, ◌<◌, false, map, get_or, refl, sym, ap, arith}
use Rattle.std.specs.List.{range_with_len}
use Rattle.std.proofs.lemmas.List.FromFn.{get_or-map-range_with_len}
use Rattle.sps_scan.specs.Statement.{is_allowed}
use Rattle.sps_scan.specs.declared.characters.TheConstants.{ALLOWED}

-- tests with one list of answers for the numbers below 256 agree there
same_below : {X : Type 0} (f g : ℕ → X) (n k : ℕ) → X → map f (range_with_len 0 n) ≡ map g (range_with_len 0 n) → k < n → f k ≡ g k
same_below f g n k x same below =
    sym (get_or-map-range_with_len f 0 n k k x below (omega arith)) ∙ (ap (λ xs. get_or xs k x) same ∙ get_or-map-range_with_len g 0 n k k x below (omega arith))

-- the table has the truth of each byte
pub allowed_at : (b : ℕ) → b < 256 → get_or ALLOWED b false ≡ is_allowed b
unfolding is_allowed
allowed_at b below = same_below (λ b. get_or ALLOWED b false) is_allowed 256 b false refl below
