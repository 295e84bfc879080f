-- Further fields that are kept: their number and flag hold in every core that has their cells.
use Rattle.std.specs.Prelude.{ℕ, ◌≡◌, ◌+◌, ◌*◌, ◌<◌, ◌≤◌, Bool, true, List, length, slice_index, Ok}
use Rattle.digit_core.specs.Size.{size}
use Rattle.digit_core.specs.Packed.{six}
use Rattle.addr_indirect.specs.Operand.{field}

-- the field whose units are at u has this number, an address in core; if its units digit has a flag, a further field fits there
pub record LeadsTo (core : List ℕ) (u number : ℕ) (flagged : Bool) : Type 0 where
  pub reads : field core u ≡ Ok (record { number = number; flagged = flagged })
  pub inside : number < length core
  pub room : flagged ≡ true → 4 ≤ number

-- in core's word number i, the cells that the mask names equal the cells of the word w
abbrev pub HasNamed : List ℕ → ℕ → ℕ → ℕ → Type 0
HasNamed core i mask w = (j : ℕ) → j < 10 → six mask j ≡ 63 → six w j ≡ slice_index core (10 * i + j)

-- the field at u leads to this number and flag in each core of size m that has the cells that two words and their masks name
abbrev pub FieldIsKnown : ℕ → ℕ → ℕ → ℕ → ℕ → ℕ → ℕ → ℕ → Bool → Type 0
FieldIsKnown m u i low_mask low high_mask high number flagged =
    4 ≤ u → (core : List ℕ) → length core ≡ size m → HasNamed core i low_mask low → HasNamed core (i + 1) high_mask high → LeadsTo core u number flagged
