-- The stretches of an image are its cover.
use Rattle.std.specs.Prelude.{ℕ, ◌≡◌, ◌≢◌, ◌+◌, ◌<◌, ◌≤◌, ◌⊎◌, ◌&&◌, ◌||◌, nat_le, nat_lt, Bool, true, false, List, [], ◌∷◌}
use Rattle.disk_1311.specs.Disk.{cylinder_of}
use Rattle.sps_pass_two.specs.Image.{DigitRun}
use Rattle.disk_loader.specs.declared.deck.Stretch.{Stretch}
use Rattle.disk_loader.specs.declared.hundreds.TheConstants.{HUNDREDS}
use Rattle.disk_loader.specs.Hundreds.{is_needed}
use Rattle.disk_loader.specs.Stretches.{stretches}

-- needed hundreds of one cylinder, from one hundred on and below another
pub record IsStretch (image : List DigitRun) (first past : ℕ) (s : Stretch) : Type 0 where
  pub some : 1 ≤ s.count
  pub low : first ≤ s.from
  pub high : s.from + s.count ≤ past
  pub needed : (j : ℕ) → j < s.count → is_needed image (s.from + j) ≡ true
  pub level : (j : ℕ) → j < s.count → cylinder_of (s.from + j) ≡ cylinder_of s.from

abbrev pub AreStretches : List DigitRun → ℕ → ℕ → List Stretch → Type 0
AreStretches image first past [] = Unit {0}
AreStretches image first past (s ∷ ss) = IsStretch image first past s × AreStretches image first past ss

-- a hundred belongs to a stretch, or to one of some stretches
abbrev pub in_stretch : Stretch → ℕ → Bool
in_stretch s k = nat_le s.from k && nat_lt k (s.from + s.count)

abbrev pub in_any : List Stretch → ℕ → Bool
in_any [] k = false
in_any (s ∷ ss) k = in_stretch s k || in_any ss k

-- a stretch ends before the next one: a hundred that isn't needed lies between them, or a cylinder begins there
abbrev pub ArePart : Stretch → Stretch → Type 0
ArePart s t = (s.from + s.count < t.from) ⊎ ((s.from + s.count ≡ t.from) × (cylinder_of s.from ≢ cylinder_of t.from))

abbrev pub AllPart : List Stretch → Type 0
AllPart [] = Unit {0}
AllPart (s ∷ []) = Unit {0}
AllPart (s ∷ t ∷ ss) = ArePart s t × AllPart (t ∷ ss)

-- the stretches of an image are its needed hundreds, rising, and each is as long as it can be
pub record CoversNeeded (image : List DigitRun) : Type 0 where
  pub are : AreStretches image 0 HUNDREDS (stretches image)
  pub part : AllPart (stretches image)
  pub all : (k : ℕ) → k < HUNDREDS → in_any (stretches image) k ≡ is_needed image k

abbrev pub StretchLaw : Type 0
StretchLaw = (image : List DigitRun) → CoversNeeded image
