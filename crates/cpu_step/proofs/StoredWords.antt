-- The words between which a step stored, for who keeps a core before and after.
use Rattle.std.proofs.Common.{◌≡◌, ℕ, ◌+◌, ◌-◌, ◌*◌, ◌/◌, ◌<◌, ◌≤◌, inl, inr, List, length, get_or, sym, ◌∙◌, ap, subst, arith}
use Rattle.std.proofs.lemmas.List.{get_or_past}
use Rattle.std.specs.Prelude.{Option, Some, None, unwrap_or}
use Rattle.digit_core.specs.Cell.{has_flag}
use Rattle.digit_core.specs.Mixed.{AgreeOutside}
use Rattle.digit_core.specs.Search.{flag_below, mark_above, has_mark}
use Rattle.digit_core.proofs.Passing.{SaysDown, said_down, SaysUp, said_up}
use Rattle.outside_io.specs.World.{Seen}
use Rattle.cpu_step.specs.declared.machine.Machine.{Machine}
use Rattle.cpu_step.specs.declared.stores.Stores.{Stores}
use Rattle.cpu_step.specs.declared.stores.Stores.TheVariants.{Nothing, Cell, Down, Up}
use Rattle.cpu_step.specs.State.{State}
use Rattle.cpu_step.specs.Step.{step}
use Rattle.cpu_step.specs.Machine.{Makes}
use Rattle.cpu_step.specs.Stores.{StoresWithin, StepStores}

-- a machine that made a step stored within what was said before it
pub step_stored : (m : ℕ) (old new : Machine m) (before after : Seen) (stores : Stores) → StepStores old.core old.regs.ir stores → Makes m step old new before after → StoresWithin stores old.core new.core
step_stored m old new before after stores says makes =
    let old_is : makes.state.core ≡ old.core = ap (λ (x : State). x.core) makes.shown.is in
    let ir_is : makes.state.regs.ir ≡ old.regs.ir = ap (λ (x : State). x.regs.ir) makes.shown.is in
    let new_is : (step makes.state).core ≡ new.core = ap (λ (x : State). x.core) makes.made.is in
    subst (λ (a : List ℕ). StoresWithin stores a new.core) old_is
    (subst (λ (b : List ℕ). StoresWithin stores makes.state.core b) new_is (says makes.state old_is ir_is))

module _ (core new : List ℕ) where
  -- nothing was stored: whatever the words
  pub nothing_stored : (i end : ℕ) → StoresWithin Nothing core new → AgreeOutside core new (10 * i) (10 * end)
  nothing_stored i end within a out = sym (within.outside a tt)

  -- one cell: its word
  pub cell_stored : (p : ℕ) → StoresWithin (Cell p) core new → AgreeOutside core new (10 * (p / 10)) (10 * (p / 10 + 1))
  cell_stored p within a (inl below) = sym (within.outside a (λ is. absurd (omega (arith, is, below))))
  cell_stored p within a (inr above) = sym (within.outside a (λ is. absurd (omega (arith, is, above))))

  -- a field: from the word of the flag below it, as flags stand now, up to that of its units
  pub field_stored : (p : ℕ) (flag : Option ℕ) → flag ≡ flag_below new p → StoresWithin (Down p) core new → AgreeOutside core new (10 * (unwrap_or flag 0 / 10)) (10 * (p / 10 + 1))
  field_stored p flag is within a (inr above) = sym (within.outside a (inl (omega (arith, above))))
  field_stored p flag is within a (inl below) = by_flag flag (said_down has_flag new p p flag (omega arith) is) below
    where
      by_flag : (r : Option ℕ) → SaysDown has_flag new p p r → a < 10 * (unwrap_or r 0 / 10) → get_or core a 0 ≡ get_or new a 0
      by_flag None says low = absurd (omega (arith, low))
      by_flag (Some f) says low =
          sym (within.outside a (inr (record { at = f; above = omega (arith, low); below = says.high; flag = says.here })))

  -- a record: from the word of its first cell up to that of the record mark, as record marks stand now, or to the end of core
  pub record_stored : (p : ℕ) (mark : Option ℕ) → mark ≡ mark_above new p → StoresWithin (Up p) core new → AgreeOutside core new (10 * (p / 10)) (10 * (unwrap_or mark (length new - 1) / 10 + 1))
  record_stored p mark is within a (inl below) = sym (within.outside a (inl (omega (arith, below))))
  record_stored p mark is within a (inr above) = by_mark mark (said_up has_mark new p (length new - p) mark is) above
    where
      past : length new ≤ a → get_or core a 0 ≡ get_or new a 0
      past beyond = get_or_past core a 0 (omega (arith, beyond, within.long)) ∙ sym (get_or_past new a 0 beyond)

      by_mark : (r : Option ℕ) → SaysUp has_mark new p (length new - p) r → 10 * (unwrap_or r (length new - 1) / 10 + 1) ≤ a → get_or core a 0 ≡ get_or new a 0
      by_mark None says high = past (omega (arith, high))
      by_mark (Some e) says high =
          sym (within.outside a (inr (record { at = e; above = says.low; below = omega (arith, high); mark = says.here })))
