-- Which cells a step may store.
use Rattle.std.specs.Prelude.{ℕ, ◌≡◌, ◌≢◌, ◌<◌, ◌≤◌, ◌⊎◌, ◌-◌, ◌==◌, true, if◌then◌else◌, List, length, slice_index, ⊤, Result, Ok, Err}
use Rattle.digit_core.specs.Cell.{has_flag}
use Rattle.digit_core.specs.Search.{has_mark}
use Rattle.addr_indirect.specs.declared.Stop.{Stop}
use Rattle.addr_indirect.specs.declared.Instr.{Instr}
use Rattle.addr_indirect.specs.{fetch}
use Rattle.instruction_table.specs.declared.MayStore.{MayStore}
use Rattle.instruction_table.specs.declared.MayStore.TheVariants as column
use Rattle.branch_ops.specs.declared.fields.Operands.{Operands}
use Rattle.cpu_step.specs.declared.stores.Stores.{Stores}
use Rattle.cpu_step.specs.declared.stores.Stores.TheVariants.{Nothing, Cell, Down, Up, Anywhere}
use Rattle.cpu_step.specs.declared.machine.Machine.{Machine}
use Rattle.cpu_step.specs.Rows.{instruction_row}
use Rattle.branch_ops.specs.Operands.{operands}
use Rattle.cpu_step.specs.State.{State}
use Rattle.cpu_step.specs.Step.{step}

-- a flag is between a and p
pub record HasFlagBetween (core : List ℕ) (a p : ℕ) : Type 0 where
  pub at : ℕ
  pub above : a < at
  pub below : at < p
  pub flag : has_flag (slice_index core at) ≡ true

-- a record mark is at p, or between p and a
pub record HasMarkBetween (core : List ℕ) (p a : ℕ) : Type 0 where
  pub at : ℕ
  pub above : p ≤ at
  pub below : at < a
  pub mark : has_mark (slice_index core at) ≡ true

-- the cell at a may not be stored; core is `new` afterwards. A field goes down from its units to the first flag in `new`, except
-- a flag on the units themselves; a record goes up to the first record mark in `new`
abbrev pub IsOutside : Stores → List ℕ → ℕ → Type 0
IsOutside Nothing new a = ⊤
IsOutside (Cell p) new a = a ≢ p
IsOutside (Down p) new a = (p < a) ⊎ HasFlagBetween new a p
IsOutside (Up p) new a = (a < p) ⊎ HasMarkBetween new p a
IsOutside Anywhere new a = ⊥

-- the cells outside are as they were
abbrev pub KeepsOutside : Stores → List ℕ → List ℕ → Type 0
KeepsOutside stores core new = (a : ℕ) → IsOutside stores new a → slice_index new a ≡ slice_index core a

-- core has as many cells as before, and the cells that may not be stored are as they were
pub record StoresWithin (stores : Stores) (core new : List ℕ) : Type 0 where
  pub long : length new ≡ length core
  pub outside : KeepsOutside stores core new

-- a step from any state with this core and this IR stores only these cells
abbrev pub StepStores : List ℕ → ℕ → Stores → Type 0
StepStores core ir stores = (s : State) → s.core ≡ core → s.regs.ir ≡ ir → StoresWithin stores s.core (step s).core

-- the address of the cells that may be stored is below n
abbrev pub StoresBelow : Stores → ℕ → Type 0
StoresBelow Nothing n = ⊤
StoresBelow (Cell p) n = p < n
StoresBelow (Down p) n = p < n
StoresBelow (Up p) n = p < n
StoresBelow Anywhere n = ⊤

-- the machine is as it was, except its decode cache
abbrev pub ShowsTheSame : (m : ℕ) → Machine m → Machine m → Type 0
ShowsTheSame m old new = new ≡ record old { memo = new.memo }

-- the field whose units are at p - 1; no cell if p is 00000
abbrev pub down_below : ℕ → Stores
down_below p = if p == 0 then Nothing else Down (p - 1)

-- the cells that an instruction may store over its operands, by its column; any cells if the column leaves them to the device
abbrev pub stores_by : MayStore → Operands → Stores
stores_by column.Nothing o = Nothing
stores_by column.Cell o = Cell o.p
stores_by column.Down o = Down o.p
stores_by column.DownBelow o = down_below o.p
stores_by column.DownFromQ o = Down o.q
stores_by column.Up o = Up o.p
stores_by column.Anywhere o = Anywhere
stores_by column.ByDevice o = Anywhere

-- the cells that f gives; no cell if the reading stops
abbrev pub or_nothing : {A : Type 0} → Result A Stop → (A → Stores) → Stores
or_nothing (Ok x) f = f x
or_nothing (Err why) f = Nothing

-- the cells that a fetched instruction at ir may store
abbrev pub fetched_stores : Instr → List ℕ → ℕ → Stores
fetched_stores i core ir = or_nothing (instruction_row i) (λ f. or_nothing (operands f.uses core ir) (λ o. stores_by f.stores o))

-- the cells that the instruction at ir may store
abbrev pub stores_at : List ℕ → ℕ → Stores
stores_at core ir = or_nothing (fetch core ir) (λ i. fetched_stores i core ir)
