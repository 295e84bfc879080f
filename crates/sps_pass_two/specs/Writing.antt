-- The image as it is written, digit by digit, and read, run by run.
use Rattle.std.specs.Prelude.{ℕ, ◌+◌, ◌≡◌, List, [], ◌∷◌, replicate, slice_set, Option, Some, None}
use Rattle.digit_core.specs.declared.Digit.{Digit}
use Rattle.sps_pass_two.specs.Image.{DigitRun, cells_from}

-- digits from an address on are written, one after another, over the earlier digits
unfoldable pub with_digits : List (Option Digit) → ℕ → List Digit → List (Option Digit)
with_digits image a [] = image
with_digits image a (d ∷ ds) = with_digits (slice_set image a (Some d)) (a + 1) ds

-- fields are written one after another
unfoldable pub with_fields : List (Option Digit) → List DigitRun → List (Option Digit)
with_fields image [] = image
with_fields image (f ∷ fs) = with_fields (with_digits image f.from f.digits) fs

-- the digits up to the first address without one
abbrev pub front_digits : List (Option Digit) → List Digit
front_digits [] = []
front_digits (None ∷ cells) = []
front_digits (Some d ∷ cells) = d ∷ front_digits cells

-- an empty image on which the fields are written, one after another, has at each address the digit of the last field that declares it
abbrev pub ImageLaw : Type 0
ImageLaw = (positions : ℕ) (fs : List DigitRun) → with_fields (replicate positions None) fs ≡ cells_from fs 0 positions
