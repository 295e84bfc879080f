-- A control field that stands in core.
use Rattle.std.proofs.Common.{ℕ, suc, ◌≡◌, ◌+◌, ◌/◌, ◌%◌, ◌<◌, ◌≤◌, ◌&&◌, nat_le, true, List, [], ◌∷◌, length, map, refl, Ok, arith, ap, ◌∙◌}
use Rattle.std.proofs.lemmas.Bool.Decides.{nat_tests}
use Rattle.digit_core.specs.Cell.{unflagged_digit}
use Rattle.addr_indirect.specs.Reading.{decimals_up}
use Rattle.disk_1311.specs.Control.{number_of_digits, control_of, on_drives, control_field}
use Rattle.card_steps.proofs.HeldDigits.{Holds, head_held, tail_held, decimal_held}
use Rattle.disk_loader.specs.Bootstrap.{control_field_of}

-- each of the numbers is a decimal digit
abbrev pub Decimal : List ℕ → Type 0
Decimal [] = Unit {0}
Decimal (v ∷ vs) = (v ≤ 9) × Decimal vs

pub decimals_held : (vs : List ℕ) (core : List ℕ) (a : ℕ) → Holds core a (map unflagged_digit vs) → Decimal vs → decimals_up core a (length vs) ≡ Ok vs
unfolding decimals_up
decimals_held [] core a h d = refl
decimals_held (v ∷ vs) core a h d =
    let i : a + suc (length (map unflagged_digit vs)) ≤ length core = h.inside in
    rw (decimal_held core a v (omega arith) (head_held h) d.0, decimals_held vs core (a + 1) (tail_held h) d.1) refl

-- the digits of a control field
abbrev values : ℕ → ℕ → ℕ → ℕ → List ℕ
values drive h c a =
    drive
    ∷ h / 10000 % 10 ∷ h / 1000 % 10 ∷ h / 100 % 10 ∷ h / 10 % 10 ∷ h % 10
    ∷ c / 100 % 10 ∷ c / 10 % 10 ∷ c % 10
    ∷ a / 10000 % 10 ∷ a / 1000 % 10 ∷ a / 100 % 10 ∷ a / 10 % 10 ∷ a % 10 ∷ []

decimal_values : (drive h c a : ℕ) → drive ≤ 9 → Decimal (values drive h c a)
decimal_values drive h c a l = (
  l,
  (
    omega arith,
    (
      omega arith,
      (
        omega arith,
        (
          omega arith,
          (
            omega arith,
            (
              omega arith,
              (
                omega arith,
                (
                  omega arith,
                  (omega arith, (omega arith, (omega arith, (omega arith, (omega arith, tt))))),
                ),
              ),
            ),
          ),
        ),
      ),
    ),
  ),
)

drive_is : (drive : ℕ) → number_of_digits (drive ∷ []) ≡ drive
drive_is drive = omega arith

five_is : (h : ℕ) → h < 100000 → number_of_digits (h / 10000 % 10 ∷ h / 1000 % 10 ∷ h / 100 % 10 ∷ h / 10 % 10 ∷ h % 10 ∷ []) ≡ h
five_is h l = omega arith

three_is : (c : ℕ) → c < 1000 → number_of_digits (c / 100 % 10 ∷ c / 10 % 10 ∷ c % 10 ∷ []) ≡ c
three_is c l = omega arith

module _ (drive h c a : ℕ) (drive_small : drive ≤ 9) (h_small : h < 100000) (c_small : c < 1000) (a_small : a < 100000) where
  -- what they say
  control_is : control_of (values drive h c a) ≡ record { drive = drive; sector = h; count = c; address = a }
  control_is = λ i. record { drive = drive_is drive i; sector = five_is h h_small i; count = three_is c c_small i; address = five_is a a_small i }

  on_the_drives : (drives : ℕ) → 1 ≤ drive → drive ≤ drives →
      on_drives drives (record { drive = drive; sector = h; count = c; address = a }) ≡ Ok (record { drive = drive; sector = h; count = c; address = a })
  on_the_drives drives some most =
      let test : (nat_le 1 drive && nat_le drive drives) ≡ true = grind (arith, nat_tests) in
      rw test refl

  pub control_held : (core : List ℕ) (p drives : ℕ) → Holds core p (control_field_of drive h c a []) → 1 ≤ drive → drive ≤ drives →
      control_field core p drives ≡ Ok (record { drive = drive; sector = h; count = c; address = a })
  unfolding control_field
  control_held core p drives held some most =
      rw (decimals_held (values drive h c a) core p held (decimal_values drive h c a drive_small))
      (ap (on_drives drives) control_is ∙ on_the_drives drives some most)
