-- Over a core of zeros a program that is loaded from disk stands as its object deck leaves it.
use Rattle.std.proofs.Common.{ℕ, ◌≡◌, ◌+◌, ◌-◌, ◌*◌, ◌/◌, ◌<◌, ◌≤◌, ◌&&◌, nat_le, nat_lt, inl, inr, Bool, true, false, List, [], ◌∷◌, length, map, replicate, get_or, Option, Some, None, refl, sym, ap, ◌∙◌, arith, All}
use Rattle.std.proofs.lemmas.List.{ext_get_or, get_or-replicate, length-replicate}
use Rattle.std.proofs.lemmas.List.Folds.{list_any_at}
use Rattle.std.proofs.lemmas.List.FromFn.{get_or-map-range_with_len, length-map-range_with_len, length-range_with_len, get_or-range_with_len}
use Rattle.std.proofs.lemmas.Bool.{cases_lt}
use Rattle.std.proofs.lemmas.Bool.Decides.{nat_tests}
use Rattle.std.specs.Prelude.{is_some, ◌||◌, if◌then◌else◌}
use Rattle.std.specs.List.{range_with_len}
use Rattle.digit_core.specs.declared.Digit.{Digit}
use Rattle.digit_core.specs.Cell.{cell, unflagged_digit, zero_cell}
use Rattle.digit_core.specs.Size.{size}
use Rattle.digit_core.specs.Standard.{standard_digit}
use Rattle.disk_1311.specs.Disk.{cylinder_of}
use Rattle.sps_pass_two.specs.Image.{DigitRun, declared_digit}
use Rattle.sps_pass_two.specs.Kept.{IsRunBelow}
use Rattle.deck_punch.specs.Overlay.{cell_or, overlay_cell, overlay}
use Rattle.disk_loader.specs.Hundreds.{hundred_of, holds_tables, holds_declared, is_needed, digit_or, digit_on_disk}
use Rattle.disk_loader.specs.declared.deck.Stretch.{Stretch}
use Rattle.disk_loader.specs.Stretches.{stretches}
use Rattle.disk_loader.specs.Cover.{AreStretches}
use Rattle.disk_loader.specs.DiskOverlay.{disk_cell, disk_overlay}
use Rattle.disk_loader.specs.DiskLoads.{last_cylinder}
use Rattle.disk_loader.proofs.Fits.{IsLowest, needed_some, all_fit}

-- a declared address stands in a hundred that is needed
holds_there : (image : List DigitRun) (a : ℕ) → is_some (declared_digit image a) ≡ true → holds_declared image (hundred_of a) ≡ true
unfolding holds_declared
holds_there image a some =
    let n : a - 100 * (a / 100) < 100 = omega arith in
    let e : 100 * (a / 100) + (a - 100 * (a / 100)) ≡ a = omega arith in
    list_any_at (λ b. is_some (declared_digit image b)) (range_with_len (100 * (a / 100)) 100) (a - 100 * (a / 100)) 0 (rw length-range_with_len n)
    (rw (get_or-range_with_len (100 * (a / 100)) 100 (a - 100 * (a / 100)) 0 n, e) some)

second_holds : (a b : Bool) → b ≡ true → (a || b) ≡ false → ⊥
second_holds true b is not = cc
second_holds false b is not = cc

first_holds : (a b : Bool) → a ≡ true → (a || b) ≡ false → ⊥
first_holds a b is not = let t : (true || b) ≡ false = rw is at not in cc

undeclared : (image : List DigitRun) (a : ℕ) (o : Option Digit) → declared_digit image a ≡ o → is_needed image (hundred_of a) ≡ false → o ≡ None
undeclared image a None is not = refl
undeclared image a (Some d) is not = absurd (second_holds (holds_tables (hundred_of a)) (holds_declared image (hundred_of a)) (holds_there image a (ap is_some is)) not)

-- no table stands in a hundred that is not needed
no_table : (image : List DigitRun) (a : ℕ) → is_needed image (hundred_of a) ≡ false → (nat_le 100 a && nat_lt a 400) ≡ false
no_table image a not =
    elim (cases_lt a 100) [
      | inl low ↦ grind (arith, nat_tests)
      | inr from ↦ elim (cases_lt a 400) [
        | inl below ↦
            let t : holds_tables (hundred_of a) ≡ true = grind (arith, nat_tests) in
            absurd (first_holds (holds_tables (hundred_of a)) (holds_declared image (hundred_of a)) t not)
        | inr past ↦ grind (arith, nat_tests)
      ]
    ]

-- the cell of a needed hundred's digit
needed_cell : (o : Option Digit) (table : Bool) (d : Digit) → cell (digit_or o (if table then d else unflagged_digit 0)) ≡ cell_or o (if table then cell d else zero_cell)
unfolding cell lib.Count.ones
needed_cell (Some e) table d = refl
needed_cell None true d = refl
needed_cell None false d = refl

module _ (image : List DigitRun) (start n : ℕ) (enough : 400 ≤ n) (hundreds : 100 * (n / 100) ≡ n) (lowest : All IsLowest image) (under : All (IsRunBelow n) image) where
  same_cell : (a : ℕ) → disk_cell image start a zero_cell ≡ overlay_cell image start a zero_cell
  unfolding digit_on_disk
  same_cell a = by_need (is_needed image (hundred_of a)) refl
    where
      by_need : (b : Bool) → is_needed image (hundred_of a) ≡ b → disk_cell image start a zero_cell ≡ overlay_cell image start a zero_cell
      by_need true is =
          let some : 1 ≤ a / 100 = needed_some image n enough hundreds lowest under (a / 100) is in
          let t : nat_lt a 80 ≡ false = grind (arith, nat_tests) in
          rw (is, t) (needed_cell (declared_digit image a) (nat_le 100 a && nat_lt a 400) (standard_digit a))
      by_need false is = rw (is, undeclared image a (declared_digit image a) refl is, no_table image a is) refl

  pub same_core : disk_overlay (replicate n zero_cell) image start ≡ overlay (replicate n zero_cell) image start
  unfolding disk_overlay overlay
  same_core =
      let core : List ℕ = replicate n zero_cell in
      let f : ℕ → ℕ = λ a. disk_cell image start a (get_or core a 0) in
      let g : ℕ → ℕ = λ a. overlay_cell image start a (get_or core a 0) in
      let long : length core ≡ n = length-replicate n zero_cell in
      let k = length-map-range_with_len f 0 (length core) in
      ext_get_or 0 (map f (range_with_len 0 (length core))) (map g (range_with_len 0 (length core))) (k ∙ sym (length-map-range_with_len g 0 (length core)))
      (λ i l.
      let below : i < length core = omega arith in
      get_or-map-range_with_len f 0 (length core) i i 0 below (omega arith)
      ∙ rw (get_or-replicate n i zero_cell 0 (omega arith)) (same_cell i)
      ∙ sym (get_or-map-range_with_len g 0 (length core) i i 0 below (omega arith)))

-- the arm stays where it was at power on, where each hundred is one of the first cylinder
no_move : (image : List DigitRun) (ss : List Stretch) → AreStretches image 1 200 ss → last_cylinder 0 ss ≡ 0
no_move image [] are = refl
no_move image (s ∷ ss) are =
    let some : 1 ≤ s.count = are.0.some in
    let high : s.from + s.count ≤ 200 = are.0.high in
    let e : cylinder_of s.from ≡ 0 = omega arith in
    ap (λ (c : ℕ). last_cylinder c ss) e ∙ no_move image ss are.1

pub first_cylinder : (image : List DigitRun) → All IsLowest image → All (IsRunBelow (size 1)) image → last_cylinder 0 (stretches image) ≡ 0
first_cylinder image lowest under = no_move image (stretches image) (all_fit image (size 1) (omega arith) refl lowest under)
