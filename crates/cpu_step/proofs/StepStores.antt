-- What a step stores, by what its instruction comes to.
use Rattle.std.proofs.Common.{◌≡◌, ℕ, Bool, true, false, ◌==◌, ◌<◌, List, [], ◌∷◌, length, refl, ◌∙◌, arith, length-set}
use Rattle.std.specs.Prelude.{◌-◌, slice_set, Option, Some, None, Result, Ok, Err, if◌then◌else◌}
use Rattle.digit_core.specs.Cell.{cell, store}
use Rattle.indicators.specs.Panel.{set}
use Rattle.outside_io.specs.World.{at, with_sector}
use Rattle.addr_indirect.specs.declared.Stop.{Stop}
use Rattle.addr_indirect.specs.declared.Instr.{Instr}
use Rattle.card_code.specs.Entries.{behind}
use Rattle.traces.specs.Trace.{Trace, ends, ◌>>=◌}
use Rattle.card_code.specs.Break.{Break, StopsBy, Empty, NoKeys, JamsAt, or_break}
use Rattle.instruction_table.specs.declared.MayStore.{MayStore}
use Rattle.instruction_table.specs.declared.MayStore.TheVariants as column
use Rattle.cpu_step.specs.declared.rows.Row.{Row}
use Rattle.cpu_step.specs.declared.rows.Found.{Found}
use Rattle.branch_ops.specs.declared.fields.Operands.{Operands}
use Rattle.cpu_step.specs.declared.stores.Stores as may
use Rattle.cpu_step.specs.declared.stores.Stores.TheVariants as kinds
use Rattle.cpu_step.specs.State.{State}
use Rattle.cpu_step.specs.Effects.{Effect, CellStored, Light, Arm, Written, Sector, CardTaken, LineTaken, with_bytes, after}
use Rattle.cpu_step.specs.Act.{Next, Continues, Halts, act, action, operands}
use Rattle.cpu_step.specs.Step.{check_stop, state_after_check, settle, instruction, step}
use Rattle.cpu_step.specs.Known.{found_with, uses_at, ComesToRow}
use Rattle.cpu_step.specs.Rows.{instruction_row}
use Rattle.addr_indirect.specs.Fetch.{fetch}
use Rattle.cpu_step.specs.Stores.{stores_at, KeepsOutside, StoresWithin, StepStores, StoresBelow, stores_by}
use Rattle.cpu_step.proofs.TableRows.{uses_odd, found_keeps}
use Rattle.cpu_step.proofs.Knowing.{odd_wanted}

-- no effect changes the length of core
after_long : (es : List Effect) (s : State) → length (after s es).core ≡ length s.core
after_long [] s = refl
after_long (CellStored d ∷ es) s = after_long es (record s { core = store s.core d.at d.digit }) ∙ length-set s.core d.at (cell d.digit)
after_long (Light l ∷ es) s = after_long es (record s { panel = set l.code l.to s.panel })
after_long (Arm d c ∷ es) s = after_long es (record s { arms = slice_set s.arms (d - 1) c })
after_long (Sector a bytes ∷ es) s = after_long es (record s { sectors = with_sector a bytes s.sectors })
after_long (Written u b ∷ es) s = after_long es (record s { written = at u (with_bytes (b ∷ [])) s.written })
after_long (LineTaken ∷ es) s = after_long es (record s { keys = behind s.keys })
after_long (CardTaken ∷ es) s = after_long es (record s { hopper = behind s.hopper })

-- what follows an action leaves core
checked_core : (o : Option Stop) (s : State) (n : Next) → (state_after_check o s n).core ≡ s.core
checked_core None s (Continues regs) = refl
checked_core None s (Halts regs) = refl
checked_core (Some why) s n = refl

settle_core : (s : State) (r : Result Next Break) → (settle s r).core ≡ s.core
settle_core s (Ok n) = checked_core (check_stop s.panel) s n
settle_core s (Err (StopsBy why)) = refl
settle_core s (Err Empty) = refl
settle_core s (Err NoKeys) = refl
settle_core s (Err (JamsAt u n)) = refl

-- so a step stores what its instruction does
step_core : (s : State) → (step s).core ≡ (after s (instruction s).effects).core
unfolding step
step_core s = settle_core (after s (instruction s).effects) (instruction s).answer

step_within : (stores : may.Stores) (s : State) (t : Trace Effect Next Break) → instruction s ≡ t → KeepsOutside stores s.core (after s t.effects).core → StoresWithin stores s.core (step s).core
step_within stores s t is keeps = rw (step_core s, is) (record { long = after_long t.effects s; outside = keeps })

-- BY WHAT STANDS AT IR: what a step stores at each state with this core and this address of the instruction.
module _ (core : List ℕ) (ir : ℕ) where
  -- no instruction
  pub fetch_none : (why : Stop) → fetch core ir ≡ Err why → StepStores core ir kinds.Nothing
  unfolding instruction
  fetch_none why is s core_is ir_is =
      let here : fetch s.core s.regs.ir ≡ Err why = rw (core_is, ir_is) is in
      let same : instruction s ≡ ends (Err (StopsBy why)) = rw here refl in
      step_within kinds.Nothing s (ends (Err (StopsBy why))) same (λ a out. refl)

  module _ (i : Instr) (there : fetch core ir ≡ Ok i) where
    row_here : (s : State) → s.core ≡ core → s.regs.ir ≡ ir → instruction s ≡ (or_break (instruction_row i) >>= (λ f. act f s))
    unfolding instruction
    row_here s core_is ir_is =
        let here : fetch s.core s.regs.ir ≡ Ok i = rw (core_is, ir_is) there in
        rw here refl

    pub row_none : (why : Stop) → instruction_row i ≡ Err why → StepStores core ir kinds.Nothing
    row_none why is s core_is ir_is =
        let same : instruction s ≡ ends (Err (StopsBy why)) = row_here s core_is ir_is ∙ rw is refl in
        step_within kinds.Nothing s (ends (Err (StopsBy why))) same (λ a out. refl)

    module _ (f : Found) (is : instruction_row i ≡ Ok f) where
      pub operands_none : (why : Stop) → operands f.uses core ir ≡ Err why → StepStores core ir kinds.Nothing
      operands_none why stops s core_is ir_is =
          let here : operands f.uses s.core s.regs.ir ≡ Err why = rw (core_is, ir_is) stops in
          let same : instruction s ≡ ends (Err (StopsBy why)) = row_here s core_is ir_is ∙ rw (is, here) refl in
          step_within kinds.Nothing s (ends (Err (StopsBy why))) same (λ a out. refl)

      pub row_step : (o : Operands) → operands f.uses core ir ≡ Ok o → o.p < length core → o.q < length core → StepStores core ir (stores_by f.stores o)
      row_step o works first second s core_is ir_is =
          let here : operands f.uses s.core s.regs.ir ≡ Ok o = rw (core_is, ir_is) works in
          let same : instruction s ≡ action f.row o s = row_here s core_is ir_is ∙ rw (is, here) refl in
          step_within (stores_by f.stores o) s (action f.row o s) same
          (found_keeps i f is o s (rw core_is first) (rw core_is second) (λ odd. odd_wanted core ir o f.uses works (uses_odd i f is odd)))

-- an address in it is below the operands' bound
below_down : (p n : ℕ) → p < n → (b : Bool) → StoresBelow (if b then kinds.Nothing else kinds.Down (p - 1)) n
below_down p n below true = tt
below_down p n below false = omega (arith, below)

pub stores_below : (stores : MayStore) (o : Operands) (n : ℕ) → o.p < n → o.q < n → StoresBelow (stores_by stores o) n
stores_below column.Nothing o n first second = tt
stores_below column.Cell o n first second = first
stores_below column.Down o n first second = first
stores_below column.DownBelow o n first second = below_down o.p n first (o.p == 0)
stores_below column.DownFromQ o n first second = second
stores_below column.Up o n first second = first
stores_below column.Anywhere o n first second = tt
stores_below column.ByDevice o n first second = tt

-- WHAT IS KNOWN OF AN INSTRUCTION SAYS THE SAME.
module _ (core : List ℕ) (ir low high : ℕ) (r : Row) (stores : MayStore) (o : Operands) (k : ComesToRow core ir low high r stores o) where
  pub row_says : stores_by stores o ≡ stores_at core ir
  row_says = rw (k.fetched, k.row_is, k.operands_are) refl

  pub known_step : StepStores core ir (stores_by stores o)
  known_step = row_step core ir _ k.fetched (found_with r (uses_at ir low high) stores) k.row_is o k.operands_are k.p_inside k.q_inside
