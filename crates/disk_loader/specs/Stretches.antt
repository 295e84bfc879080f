-- Needed hundreds that follow one another on one cylinder; one card loads them.
use Rattle.std.specs.Prelude.{ℕ, zero, suc, Bool, ◌+◌, ◌==◌, ◌&&◌, nat_lt, List, [], ◌∷◌, if◌then◌else◌}
use Rattle.disk_1311.specs.Disk.{cylinder_of}
use Rattle.sps_pass_two.specs.Image.{DigitRun}
use Rattle.disk_loader.specs.declared.deck.Stretch.{Stretch}
use Rattle.disk_loader.specs.declared.hundreds.TheConstants.{HUNDREDS}
use Rattle.disk_loader.specs.Hundreds.{is_needed}

abbrev pub one_hundred : ℕ → Stretch
one_hundred h = record { from = h; count = 1 }

-- the hundred is just before a stretch, and its sector is on the same cylinder
abbrev pub joins : ℕ → Stretch → Bool
joins h s = (s.from == h + 1) && (cylinder_of s.from == cylinder_of h)

-- a needed hundred goes in front of the stretch that it joins
abbrev pub onto_stretch : ℕ → List Stretch → List Stretch
onto_stretch h [] = one_hundred h ∷ []
onto_stretch h (s ∷ ss) =
    if joins h s then record { from = h; count = suc s.count } ∷ ss else one_hundred h ∷ s ∷ ss

-- the stretches of n hundreds from h on, rising
unfoldable pub stretches_from : List DigitRun → ℕ → ℕ → List Stretch
stretches_from image h zero = []
stretches_from image h (suc n) =
    if is_needed image h then onto_stretch h (stretches_from image (h + 1) n) else stretches_from image (h + 1) n

-- the stretches of the largest core
abbrev pub stretches : List DigitRun → List Stretch
stretches image = stretches_from image 0 HUNDREDS

-- the next hundred belongs to a stretch: the stretch has a hundred, and both are on one cylinder
abbrev pub extends_stretch : Stretch → ℕ → Bool
extends_stretch s h = nat_lt 0 s.count && (cylinder_of s.from == cylinder_of h)
