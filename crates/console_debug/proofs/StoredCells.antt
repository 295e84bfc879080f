-- The words in which the cells lie that a step may have stored.
use Rattle.std.proofs.Common.{◌≡◌, ℕ, ◌+◌, ◌-◌, ◌/◌, ◌<◌, ◌≤◌, List, length, arith}
use Rattle.std.specs.Prelude.{Option, Some, None, unwrap_or}
use Rattle.digit_core.specs.Cell.{has_flag}
use Rattle.digit_core.specs.Search.{flag_below, mark_above, has_mark}
use Rattle.digit_core.specs.Size.{size}
use Rattle.digit_core.proofs.Passing.{SaysDown, said_down, SaysUp, said_up}
use Rattle.cpu_step.specs.declared.stores.Stores.TheVariants.{Down, Up}
use Rattle.cpu_step.specs.Stores.{StoresWithin}
use Rattle.cpu_step.proofs.StoredWords.{field_stored, record_stored}
use Rattle.console_debug.specs.CursorStates.{AreStoredWords}

module _ (m : ℕ) (before after : List ℕ) where
  -- a flag below p is no further than p
  flag_within : (p : ℕ) (flag : Option ℕ) → SaysDown has_flag after p p flag → unwrap_or flag 0 ≤ p
  flag_within p None says = omega arith
  flag_within p (Some f) says = omega (arith, says.high)

  pub field_words : (p : ℕ) (flag : Option ℕ) → flag ≡ flag_below after p → p < size m → StoresWithin (Down p) before after → AreStoredWords m before after (unwrap_or flag 0 / 10) (p / 10 + 1)
  field_words p flag is below within =
      let low = flag_within p flag (said_down has_flag after p p flag (omega arith) is) in
      record { order = omega (arith, low); room = omega (arith, below); outside = field_stored before after p flag is within }

  -- a record mark is a cell of core from p on
  mark_within : (p : ℕ) (mark : Option ℕ) → p < length after → SaysUp has_mark after p (length after - p) mark → (p ≤ unwrap_or mark (length after - 1)) × (unwrap_or mark (length after - 1) < length after)
  mark_within p None inside says = (omega (arith, inside), omega (arith, inside))
  mark_within p (Some e) inside says = (says.low, omega (arith, inside, says.high))

  pub record_words : (p : ℕ) (mark : Option ℕ) → mark ≡ mark_above after p → p < size m → length after ≡ size m → StoresWithin (Up p) before after
      → AreStoredWords m before after (p / 10) (unwrap_or mark (length after - 1) / 10 + 1)
  record_words p mark is below long within =
      let at = mark_within p mark (omega (arith, below, long)) (said_up has_mark after p (length after - p) mark is) in
      record { order = omega (arith, at.0); room = omega (arith, at.1, long); outside = record_stored before after p mark is within }
