-- Which hundreds an image needs in a core that it fits in.
use Rattle.std.proofs.Common.{ℕ, zero, suc, ◌≡◌, ◌+◌, ◌-◌, ◌*◌, ◌/◌, ◌<◌, ◌≤◌, ◌&&◌, nat_le, nat_lt, inl, inr, true, false, List, [], ◌∷◌, length, slice_set, None, refl, arith, ap, ◌∙◌, All}
use Rattle.std.proofs.lemmas.List.Folds.{list_any_none}
use Rattle.std.proofs.lemmas.List.FromFn.{length-range_with_len, get_or-range_with_len}
use Rattle.std.proofs.lemmas.Bool.{cases_lt}
use Rattle.std.proofs.lemmas.Bool.Decides.{nat_tests}
use Rattle.std.specs.Prelude.{is_some}
use Rattle.std.specs.List.{range_with_len}
use Rattle.disk_1311.specs.Disk.{cylinder_of}
use Rattle.sps_pass_two.specs.Image.{DigitRun, declared_digit}
use Rattle.sps_pass_two.specs.Kept.{IsRunBelow}
use Rattle.deck_punch.proofs.Declaring.{below, above}
use Rattle.disk_loader.specs.Hundreds.{holds_tables, holds_declared, is_needed}
use Rattle.disk_loader.specs.declared.deck.Stretch.{Stretch}
use Rattle.disk_loader.specs.Stretches.{stretches}
use Rattle.disk_loader.specs.DiskLoads.{last_cylinder}
use Rattle.disk_loader.specs.Cover.{IsStretch, AreStretches, in_any}
use Rattle.disk_loader.proofs.StretchHundreds.{stretches_are, in_stretches}
use Rattle.disk_loader.proofs.Decks.{arms_after}

-- nothing is declared below 00100, where no hundred is loaded
abbrev pub IsLowest : DigitRun → Type 0
IsLowest r = 100 ≤ r.from

nothing_below : (image : List DigitRun) → All IsLowest image → (a : ℕ) → a < 100 → declared_digit image a ≡ None
unfolding declared_digit
nothing_below [] all a h = refl
nothing_below (r ∷ rs) all a h =
    let low : 100 ≤ r.from = all 0 r (omega arith) in
    rw (nothing_below rs (λ k e l. all (suc k) e (omega arith)) a h, below r a (omega arith)) refl

nothing_above : (n : ℕ) (image : List DigitRun) → All (IsRunBelow n) image → (a : ℕ) → n ≤ a → declared_digit image a ≡ None
unfolding declared_digit
nothing_above n [] all a h = refl
nothing_above n (r ∷ rs) all a h =
    let high : r.from + length r.digits ≤ n = all 0 r (omega arith) in
    rw (nothing_above n rs (λ k e l. all (suc k) e (omega arith)) a h, above r a (omega arith)) refl

-- a hundred without a declared address
hundred_free : (image : List DigitRun) (k : ℕ) → ((a : ℕ) → 100 * k ≤ a → a < 100 * k + 100 → declared_digit image a ≡ None) → holds_declared image k ≡ false
unfolding holds_declared
hundred_free image k none =
    list_any_none (λ a. is_some (declared_digit image a)) (range_with_len (100 * k) 100)
    (λ i e l.
    let n : i < 100 = rw length-range_with_len at l in
    rw (get_or-range_with_len (100 * k) 100 i e n, none (100 * k + i) (omega arith) (omega arith)) refl)

module _ (image : List DigitRun) (n : ℕ) (enough : 400 ≤ n) (hundreds : 100 * (n / 100) ≡ n) (lowest : All IsLowest image) (under : All (IsRunBelow n) image) where
  -- the first hundred, and those past the end, are not needed
  not_first : is_needed image 0 ≡ false
  not_first = rw (hundred_free image 0 (λ a l h. nothing_below image lowest a (omega arith))) refl

  not_past : (k : ℕ) → n / 100 ≤ k → is_needed image k ≡ false
  not_past k past =
      let t : holds_tables k ≡ false = grind (arith, nat_tests) in
      rw (t, hundred_free image k (λ a l h. nothing_above n image under a (omega (arith, hundreds)))) refl

  pub needed_some : (k : ℕ) → is_needed image k ≡ true → 1 ≤ k
  needed_some zero need = let no = not_first in cc
  needed_some (suc k) need = omega arith

  pub needed_below : (k : ℕ) → is_needed image k ≡ true → k < n / 100
  needed_below k need =
      elim (cases_lt k (n / 100)) [
        | inl l ↦ l
        | inr h ↦ let no = not_past k h in absurd (cc)
      ]

  stretch_fits : (s : Stretch) → IsStretch image 0 600 s → IsStretch image 1 (n / 100) s
  stretch_fits s is =
      let some : 1 ≤ s.count = is.some in
      let z : s.from + 0 ≡ s.from = omega arith in
      let first : is_needed image s.from ≡ true = rw z at (is.needed 0 (omega arith)) in
      let last = needed_below (s.from + (s.count - 1)) (is.needed (s.count - 1) (omega arith)) in
      record { some = is.some; low = needed_some s.from first; high = omega arith; needed = is.needed; level = is.level }

  stretches_fit : (ss : List Stretch) → AreStretches image 0 600 ss → AreStretches image 1 (n / 100) ss
  stretches_fit [] are = tt
  stretches_fit (s ∷ ss) are = (stretch_fits s are.0, stretches_fit ss are.1)

  pub all_fit : AreStretches image 1 (n / 100) (stretches image)
  all_fit = stretches_fit (stretches image) (stretches_are image 600 0 600 (omega arith))

  -- the stretches have the needed hundreds
  pub in_needed : n ≤ 60000 → (k : ℕ) → in_any (stretches image) k ≡ is_needed image k
  in_needed most k =
      in_stretches image 600 0 k
      ∙ elim (cases_lt k 600) [
        | inl l ↦ let t : (nat_le 0 k && nat_lt k (0 + 600)) ≡ true = grind (arith, nat_tests) in rw t refl
        | inr h ↦
            let t : (nat_le 0 k && nat_lt k (0 + 600)) ≡ false = grind (arith, nat_tests) in
            rw (t, not_past k (omega arith)) refl
      ]

-- THE ARM

arm_twice : (arms : List ℕ) (c d : ℕ) → slice_set (slice_set arms 0 c) 0 d ≡ slice_set arms 0 d
arm_twice [] c d = refl
arm_twice (a ∷ arms) c d = refl

arms_last : (ss : List Stretch) (arms : List ℕ) (c : ℕ) → arms_after (slice_set arms 0 c) ss ≡ slice_set arms 0 (last_cylinder c ss)
arms_last [] arms c = refl
arms_last (s ∷ ss) arms c = ap (λ (a : List ℕ). arms_after a ss) (arm_twice arms c (cylinder_of s.from)) ∙ arms_last ss arms (cylinder_of s.from)

some_arms : (ss : List Stretch) (arms : List ℕ) (k : ℕ) → in_any ss k ≡ true → arms_after arms ss ≡ slice_set arms 0 (last_cylinder 0 ss)
some_arms [] arms k h = cc
some_arms (s ∷ ss) arms k h = arms_last ss arms (cylinder_of s.from)

pub arm_stands : (image : List DigitRun) (arms : List ℕ) → in_any (stretches image) 1 ≡ is_needed image 1 → arms_after arms (stretches image) ≡ slice_set arms 0 (last_cylinder 0 (stretches image))
arm_stands image arms is = some_arms (stretches image) arms 1 is
