-- What an entry of the memo says of a core that has its two words.
use Rattle.std.proofs.Common.{ℕ, ◌≡◌, ◌+◌, ◌-◌, ◌*◌, ◌/◌, ◌%◌, ◌^◌, ◌<◌, ◌≤◌, inl, inr, List, length, refl, ◌∙◌, ap, arith, bit_and, below_more, below_none}
use Rattle.std.specs.Prelude.{slice_index}
use Rattle.std.proofs.lemmas.Nat.{and_mask, and_le_l, mod_below, pow_pos, shl_whole, shr_below}
use Rattle.std.proofs.lemmas.Bool.{cases_lt}
use Rattle.digit_core.specs.Size.{size}
use Rattle.digit_core.specs.Packed.{six, ten_across, HasCells}
use Rattle.digit_core.proofs.Sixes.{six_of_low, six_of_high, six_cat_low, six_cat_high}
use Rattle.digit_core.proofs.Planes.{six_and}
use Rattle.digit_core.proofs.Masks.{six_past, whole_power}
use Rattle.digit_core.proofs.Tens.{ten_is, ten_low, ten_high}
use Rattle.cpu_step.specs.declared.memo.Known.{Known}
use Rattle.cpu_step.specs.declared.memo.Known.TheVariants as known
use Rattle.cpu_step.specs.Known.{AreTwelve, AreKnown, Comes, ComesTo, IsPlace, two_from}

-- all bits of ten cells
abbrev pub whole : ℕ
whole = 0xfffffffffffffff

abbrev Is_whole : ℕ → Type 0
Is_whole j = six whole j ≡ 63

pub six_whole : (j : ℕ) → j < 10 → Is_whole j
six_whole = below_more Is_whole 9 (below_more Is_whole 8 (below_more Is_whole 7 (below_more Is_whole 6 (below_more Is_whole 5 (below_more Is_whole 4 (below_more Is_whole 3 (below_more Is_whole 2 (below_more Is_whole 1 (below_more Is_whole 0 (below_none Is_whole) refl) refl) refl) refl) refl) refl) refl) refl) refl) refl

-- the cells from number j on
module _ (j : ℕ) (few : j < 10) where
  abbrev pub from : ℕ
  from = whole / 2 ^ (6 * j) * 2 ^ (6 * j) % 2 ^ 64

  abbrev parted : ℕ
  parted = whole / 2 ^ (6 * j) * 2 ^ (6 * j) + 0

  from_is : from ≡ parted
  from_is =
      let e : 60 - 6 * j + 6 * j ≡ 60 = omega arith in
      let b : whole / 2 ^ (6 * j) < 2 ^ (60 - 6 * j) = shr_below whole (60 - 6 * j) (6 * j) (rw e (omega arith)) in
      shl_whole (whole / 2 ^ (6 * j)) (60 - 6 * j) (6 * j) 64 b (omega arith) ∙ omega arith

  pub from_named : (i : ℕ) → j ≤ i → i < 10 → six from i ≡ 63
  from_named i low high =
      let e : j + (i - j) ≡ i = omega arith in
      let h = six_cat_high (whole / 2 ^ (6 * j)) j 0 (pow_pos (6 * j)) (i - j) ∙ six_of_high whole j (i - j) in
      ap (λ x. six x i) from_is ∙ (rw e at h) ∙ six_whole i high

  pub from_others : (i : ℕ) → i < j → six from i ≡ 0
  from_others i below = ap (λ x. six x i) from_is ∙ six_cat_low (whole / 2 ^ (6 * j)) j 0 (pow_pos (6 * j)) i below ∙ omega arith

-- the cells below number j
module _ (j : ℕ) (few : j ≤ 10) where
  abbrev pub up_to : ℕ
  up_to = whole % (1 * 2 ^ (6 * j) % 2 ^ 64)

  up_to_is : up_to ≡ whole % 2 ^ (6 * j)
  up_to_is = ap (λ x. whole % x) (whole_power j few)

  pub up_to_named : (i : ℕ) → i < j → six up_to i ≡ 63
  up_to_named i h = ap (λ x. six x i) up_to_is ∙ six_of_low whole j i h ∙ six_whole i (omega arith)

  pub up_to_others : (i : ℕ) → j ≤ i → six up_to i ≡ 0
  up_to_others i past = ap (λ x. six x i) up_to_is ∙ six_past (whole % 2 ^ (6 * j)) j i (mod_below whole (2 ^ (6 * j)) (pow_pos (6 * j))) past

-- a cell of which a mask has all bits
pub kept : (x mask j : ℕ) → six mask j ≡ 63 → six (bit_and x mask) j ≡ six x j
kept x mask j all =
    let m : six x j % 2 ^ 6 ≡ six x j = omega arith in
    six_and x mask j ∙ ap (λ z. bit_and (six x j) z) all ∙ and_mask (six x j) 6 ∙ m

-- words w and v of a core are those of the entry under its masks
module _ (m ir i low_mask high_mask : ℕ) (place : IsPlace m ir i low_mask high_mask) (core : List ℕ) (long : length core ≡ size m) (w v : ℕ) (below : w < 2 ^ 60) (low_cells : HasCells w core (10 * i) 10) (high_cells : HasCells v core (10 * (i + 1)) 10) where
  abbrev t : ℕ
  t = ir % 10

  abbrev low : ℕ
  low = bit_and w low_mask

  abbrev high : ℕ
  high = bit_and v high_mask

  t_below : t < 10
  t_below = omega arith

  low_below : low < 2 ^ 60
  low_below = let l = and_le_l w low_mask in omega arith

  in_low : (j : ℕ) → j < 10 - t → six low (t + j) ≡ slice_index core (ir + j)
  in_low j h =
      let e : 10 * i + (t + j) ≡ ir + j = omega (arith, place.word_is) in
      kept w low_mask (t + j) (place.low_named (t + j) (omega arith) (omega arith)) ∙ low_cells (t + j) (omega arith) ∙ ap (λ a. slice_index core a) e

  in_high : (j : ℕ) → j < t + 2 → six high j ≡ slice_index core (ir + (10 - t) + j)
  in_high j h =
      let e : 10 * (i + 1) + j ≡ ir + (10 - t) + j = omega (arith, place.word_is) in
      let ten : j < 10 = omega (arith, place.even) in
      kept v high_mask j (place.high_named j h) ∙ high_cells j ten ∙ ap (λ a. slice_index core a) e

  lower_cells : (j : ℕ) → j < 10 → six (ten_across low high t) j ≡ slice_index core (ir + j)
  lower_cells j h =
      ap (λ x. six x j) (ten_is low high t low_below t_below)
      ∙ elim (cases_lt j (10 - t)) [
        | inl l ↦ ten_low low high t low_below t_below j l ∙ in_low j l
        | inr g ↦
            let e : 10 - t + (j - (10 - t)) ≡ j = omega arith in
            let f : ir + (10 - t) + (j - (10 - t)) ≡ ir + j = omega arith in
            let c = ten_high low high t low_below t_below (j - (10 - t)) (omega arith) in
            (rw e at c) ∙ in_high (j - (10 - t)) (omega arith) ∙ ap (λ a. slice_index core a) f
      ]

  higher_cells : (j : ℕ) → j < 2 → six (two_from high t) j ≡ slice_index core (ir + 10 + j)
  higher_cells j h =
      let e : ir + (10 - t) + (t + j) ≡ ir + 10 + j = omega arith in
      six_of_high high t j ∙ in_high (t + j) (omega arith) ∙ ap (λ a. slice_index core a) e

  twelve : AreTwelve m core ir (ten_across low high t) (two_from high t)
  twelve = record { long = long; even = place.even; inside = rw long place.inside; low_cells = lower_cells; high_cells = higher_cells }

  pub comes_by : (k : Known) → AreKnown m (ten_across low high t) (two_from high t) k → Comes core ir k
  comes_by k known = record { low = ten_across low high t; high = two_from high t; comes = known core ir twelve }

  -- the same where they are known under other names
  pub comes_of : (x y : ℕ) → low ≡ x → high ≡ y → (k : Known) → AreKnown m (ten_across x y t) (two_from y t) k → Comes core ir k
  comes_of x y is_low is_high k known = comes_by k (rw (is_low, is_high) known)

-- of what is no instruction, or isn't known, nothing is said
pub nothing : (core : List ℕ) (ir low high : ℕ) → ComesTo core ir low high known.Nothing
nothing core ir low high =
    record {
      to_b = λ p e. cc;
      to_row = λ row o e. cc;
      to_branch = λ op o code e. cc;
      to_chained = λ row o e. cc;
    }
