-- A turn's cells hold digits.
use Rattle.std.proofs.Common.{ℕ, ◌≡◌, ◌+◌, ◌-◌, ◌*◌, ◌/◌, ◌%◌, ◌<◌, ◌≤◌, Bool, true, false, List, get_or, refl, ◌∙◌, ap, arith, inl, inr}
use Rattle.std.proofs.lemmas.Bool.{cases_eq}
use lib.Count.{ones}
use Rattle.digit_core.specs.Cell.{cell, unflagged_digit, value_in}
use Rattle.digit_core.specs.Packed.{six}
use Rattle.digit_core.specs.Search.{is_bad_cell}
use Rattle.digit_core.specs.Within.{AreGoodUpTo}
use Rattle.digit_core.proofs.SoundCore.{good_cell, good_value}
use Rattle.feature_ops.specs.declared.fives.Turn.{Turn}
use Rattle.feature_ops.specs.Feature.{NUMBER_ZONE}
use Rattle.feature_ops.specs.Five.{AreStripped, AreFilled, AreLastStripped, AreLastFilled, flagged_digit, Strips, Fills}

-- the good cell of what another good cell holds, with a flag or without
cell_good : (c x : ℕ) → is_bad_cell c ≡ false → x ≡ cell (flagged_digit c) → is_bad_cell x ≡ false
cell_good c x good is = ap is_bad_cell is ∙ good_cell (flagged_digit c) (good_value c good)

plain_good : (c x : ℕ) → is_bad_cell c ≡ false → x ≡ cell (unflagged_digit (value_in c)) → is_bad_cell x ≡ false
plain_good c x good is = ap is_bad_cell is ∙ good_cell (unflagged_digit (value_in c)) (good_value c good)

zone_good : (x : ℕ) → x ≡ cell (unflagged_digit NUMBER_ZONE) → is_bad_cell x ≡ false
unfolding cell ones
zone_good x is = ap is_bad_cell is

-- of pairs, each zone and each digit
both_good : (cells n : ℕ) → ((j : ℕ) → j < n → is_bad_cell (six cells (2 * j)) ≡ false) → ((j : ℕ) → j < n → is_bad_cell (six cells (2 * j + 1)) ≡ false) → AreGoodUpTo cells (2 * n)
both_good cells n zones digits k below =
    elim (cases_eq (k % 2) 0) [
      | inl even ↦ let at : 2 * (k / 2) ≡ k = omega arith in rw at at (zones (k / 2) (omega arith))
      | inr odd ↦ let at : 2 * (k / 2) + 1 ≡ k = omega arith in rw at at (digits (k / 2) (omega arith))
    ]

module _ (core : List ℕ) (pairs left : ℕ) where
  last_stripped_good : (n cells : ℕ) → 1 ≤ n → AreLastStripped core pairs left n cells → AreGoodUpTo cells n
  last_stripped_good n cells some are j below =
      elim (cases_eq j 0) [
        | inl zero ↦
            let first : 2 * (pairs - n + 0) + 1 ≡ 2 * (pairs - n) + 1 = omega arith in
            let good = rw first at (are.unflagged 0 (omega arith)) in
            rw zero (cell_good (get_or core (2 * (pairs - n) + 1) 0) (six cells 0) good.0 are.lowest)
        | inr more ↦ ap is_bad_cell (are.digits j (omega arith) below) ∙ (are.unflagged j below).0
      ]

  strip_by : (n cells : ℕ) (ends : Bool) → 1 ≤ n → (ends ≡ false → AreStripped core pairs left n cells) → (ends ≡ true → AreLastStripped core pairs left n cells) → AreGoodUpTo cells n
  strip_by n cells false some on end = λ j below. ((on refl).unflagged j below).0
  strip_by n cells true some on end = last_stripped_good n cells some (end refl)

  pub strip_good : (turn : Turn) → Strips core pairs left turn → AreGoodUpTo turn.cells turn.count
  strip_good turn s = strip_by turn.count turn.cells turn.ends s.some s.on s.end

  filled_good : (n cells : ℕ) → AreFilled core pairs left n cells → AreGoodUpTo cells (2 * n)
  filled_good n cells are =
      both_good cells n (λ j below. zone_good (six cells (2 * j)) (are.zones j below)) (λ j below. ap is_bad_cell (are.digits j below) ∙ (are.olds j below).0)

  last_filled_good : (n cells : ℕ) → 1 ≤ n → AreLastFilled core pairs left n cells → AreGoodUpTo cells (2 * n)
  last_filled_good n cells some are =
      both_good cells n (λ j below. zone_good (six cells (2 * j)) (are.zones j below))
      (λ j below.
      elim (cases_eq j 0) [
        | inl zero ↦ rw zero (plain_good (get_or core (left - n) 0) (six cells 1) are.ends.0 are.lowest)
        | inr more ↦ ap is_bad_cell (are.digits j (omega arith) below) ∙ (are.goes_on j (omega arith) below).0
      ])

  fill_by : (n cells : ℕ) (ends : Bool) → 1 ≤ n → (ends ≡ false → AreFilled core pairs left n cells) → (ends ≡ true → AreLastFilled core pairs left n cells) → AreGoodUpTo cells (2 * n)
  fill_by n cells false some on end = filled_good n cells (on refl)
  fill_by n cells true some on end = last_filled_good n cells some (end refl)

  pub fill_good : (turn : Turn) → Fills core pairs left turn → AreGoodUpTo turn.cells (2 * turn.count)
  fill_good turn s = fill_by turn.count turn.cells turn.ends s.some s.on s.end
