-- What the action of each row stores.
use Rattle.std.proofs.Common.{◌≡◌, ◌≢◌, ℕ, suc, ◌+◌, ◌%◌, ◌<◌, ◌==◌, inl, inr, Bool, true, false, not, List, [], ◌∷◌, map, length, get_or, refl, sym, ap, subst, arith}
use Rattle.std.proofs.lemmas.List.{get_or-set_other}
use Rattle.std.specs.Prelude.{◌-◌, Result, Ok, Err, ⊤, if◌then◌else◌}
use Rattle.digit_core.specs.declared.Digit.{Digit}
use Rattle.digit_core.specs.Cell.{cell, with_flag}
use Rattle.addr_indirect.specs.declared.Stop.{Stop}
use Rattle.addr_indirect.specs.declared.Stop.TheVariants.{Address}
use Rattle.addr_indirect.specs.Reading.{read_at}
use Rattle.outside_io.specs.declared.host.Unit as unit
use Rattle.outside_io.specs.declared.host.Unit.TheVariants as units
use Rattle.outside_io.specs.World.{at}
use Rattle.traces.specs.Trace.{Trace, ends, lift, and_then, with_answer, ◌>>=◌}
use Rattle.traces.specs.Change.{Change, StoresCell, core_after_changes}
use Rattle.traces.specs.Stored.{Stored, stores, core_after}
use Rattle.card_code.specs.Break.{or_break, stop_as_break}
use Rattle.card_code.specs.{Output, WritesByte, Warns}
use Rattle.field_moves.specs.Move.{copy_digit, move_field, move_record}
use Rattle.field_moves.specs.Flag.{set_flag, clear_flag}
use Rattle.feature_ops.specs.Feature.{strip, fill}
use Rattle.digit_core.specs.declared.TheConstants.{RECORD_MARK, GROUP_MARK}
use Rattle.indicators.specs.declared.Panel.{Panel}
use Rattle.indicators.specs.Panel.{set, on}
use Rattle.indicators.specs.Lamps.{test_lamps}
use Rattle.branch_ops.specs.declared.Regs.{Regs}
use Rattle.instruction_table.specs.declared.MoveOp.{MoveOp}
use Rattle.instruction_table.specs.declared.MoveOp.TheVariants as moves
use Rattle.instruction_table.specs.declared.FeatureOp.{FeatureOp}
use Rattle.instruction_table.specs.declared.FeatureOp.TheVariants as features
use Rattle.instruction_table.specs.declared.BranchOp.{BranchOp}
use Rattle.instruction_table.specs.declared.BranchOp.TheVariants as op
use Rattle.branch_ops.specs.declared.rows.BranchOperands.{BranchOperands}
use Rattle.branch_ops.specs.Branch.{transmit, go_by_digit, go_by_indicator, go_if, branch_over}
use Rattle.branch_ops.proofs.Changes.{core_stored, core_lit}
use Rattle.table_arith.specs.declared.Kind.{Kind}
use Rattle.table_arith.specs.declared.Shown.{Shown}
use Rattle.table_arith.specs.Sum.{sum, comparison}
use Rattle.instruction_table.specs.declared.MayStore.{MayStore}
use Rattle.instruction_table.specs.declared.MayStore.TheVariants as column
use Rattle.cpu_step.specs.declared.rows.Row.{Row}
use Rattle.cpu_step.specs.declared.rows.Row.TheVariants as row
use Rattle.cpu_step.specs.declared.rows.InOutRow.{InOutRow}
use Rattle.cpu_step.specs.declared.rows.InOutRow.TheVariants as io
use Rattle.cpu_step.specs.declared.rows.ConsoleRow.{ConsoleRow}
use Rattle.cpu_step.specs.declared.rows.ConsoleRow.TheVariants as console
use Rattle.cpu_step.specs.declared.rows.CardRow.{CardRow}
use Rattle.cpu_step.specs.declared.rows.CardRow.TheVariants as cards
use Rattle.cpu_step.specs.Rows.{takes_odd}
use Rattle.branch_ops.specs.declared.fields.Operands.{Operands}
use Rattle.cpu_step.specs.declared.stores.Stores as may
use Rattle.cpu_step.specs.declared.stores.Stores.TheVariants as kinds
use Rattle.cpu_step.specs.State.{State}
use Rattle.cpu_step.specs.Effects.{CellStored, Written, of_output, with_bytes, after}
use Rattle.card_unit.specs.Punch.{punch_numeric, punch_alphameric, punch_dump}
use Rattle.typewriter.specs.Typing.{control, write_numeric, write_alphameric, write_dump}
use Rattle.cpu_step.specs.Act.{show_result, sum_action, comparison_action, move_action, typing_action, pair_typing_action, punch_action, pair_punch_action, on_console, on_cards, operands_tested, action}
use Rattle.cpu_step.specs.Stores.{KeepsOutside, down_below, stores_by}
use Rattle.cpu_step.proofs.Parts.{after_cells, after_changes, after_shown, after_sum}
use Rattle.cpu_step.proofs.FieldStores.{Sinks, move_sinks}
use Rattle.cpu_step.proofs.SumStores.{sum_sinks}
use Rattle.cpu_step.proofs.RecordStores.{Rises, record_rises}
use Rattle.cpu_step.proofs.FeatureStores.{strip_sinks, fill_sinks}

-- what goes down ends at the field that stands afterwards
pub within_down : (core new : List ℕ) (p : ℕ) → Sinks core new (suc p) true → KeepsOutside (kinds.Down p) core new
within_down core new p sinks a (inl above) = sinks.above a (omega (arith, above))
within_down core new p sinks a (inr between) =
    sinks.below a between.at between.above (omega (arith, between.below)) (λ units is. absurd (omega (arith, is, between.below))) between.flag

-- what goes up ends at the record that stands afterwards
within_up : (core new : List ℕ) (p : ℕ) → Rises core new p → KeepsOutside (kinds.Up p) core new
within_up core new p rises a (inl below) = rises.below a below
within_up core new p rises a (inr between) = rises.above a between.at between.above between.below between.mark

-- core after effects
core_cells : (ss : List Stored) (s : State) → (after s (map CellStored ss)).core ≡ core_after s.core ss
core_cells ss s = ap (λ (x : State). x.core) (after_cells ss s)

core_shown : (a : Result Shown Stop) (s : State) → (after s (or_break a >>= show_result).effects).core ≡ s.core
core_shown a s = ap (λ (x : State). x.core) (after_shown a s)

core_sum : (t : Trace Stored Shown Stop) (s : State) → (after s (and_then (lift CellStored (stop_as_break t)) show_result).effects).core ≡ core_after s.core t.effects
core_sum t s = ap (λ (x : State). x.core) (after_sum t t.answer refl s)

-- one cell
abbrev one_stored : (Digit → Digit) → ℕ → Digit → Trace Stored ⊤ Stop
one_stored change p d = stores p (change d) (ends (Ok tt))

one_cell : (core : List ℕ) (p : ℕ) (change : Digit → Digit) (r : Result Digit Stop) (a : ℕ) → a ≢ p
    → get_or (core_after core (r >>= one_stored change p).effects) a 0 ≡ get_or core a 0
one_cell core p change (Ok d) a other = get_or-set_other core p a (cell (change d)) 0 other
one_cell core p change (Err why) a other = refl

-- A row whose stores are those of a trace over core.
move_keeps : (stores : may.Stores) (s : State) (t : Trace Stored ⊤ Stop) → KeepsOutside stores s.core (core_after s.core t.effects) → KeepsOutside stores s.core (after s (move_action s t).effects).core
move_keeps stores s t within = subst (λ (new : List ℕ). KeepsOutside stores s.core new) (sym (core_cells t.effects s)) within

sum_keeps : (s : State) (p q : ℕ) (kind : Kind) → p < length s.core → KeepsOutside (kinds.Down p) s.core (after s (sum_action s (sum kind s.core p q)).effects).core
sum_keeps s p q kind inside =
    subst (λ (new : List ℕ). KeepsOutside (kinds.Down p) s.core new) (sym (core_sum (sum kind s.core p q) s))
    (within_down s.core (core_after s.core (sum kind s.core p q).effects) p (sum_sinks kind s.core p q inside))

comparison_keeps : (s : State) (r : Result Shown Stop) (a : ℕ) → get_or (after s (comparison_action s r).effects).core a 0 ≡ get_or s.core a 0
comparison_keeps s r a = ap (λ (new : List ℕ). get_or new a 0) (core_shown r s)

-- what is typed or punched is no part of core
core_written : (u : unit.Unit) (bs : List ℕ) (s : State) → (after s (map (Written u) bs)).core ≡ s.core
core_written u [] s = refl
core_written u (b ∷ bs) s = core_written u bs (record s { written = at u (with_bytes (b ∷ [])) s.written })

core_pairs : (u : unit.Unit) (os : List Output) (s : State) → (after s (map (of_output u) os)).core ≡ s.core
core_pairs u [] s = refl
core_pairs u (WritesByte b ∷ os) s = core_pairs u os (record s { written = at u (with_bytes (b ∷ [])) s.written })
core_pairs u (Warns l ∷ os) s = core_pairs u os (record s { panel = set l.code l.to s.panel })

-- what leaves core keeps all its cells
pub keeps_all : (core new : List ℕ) → new ≡ core → KeepsOutside kinds.Nothing core new
keeps_all core new same a out = ap (λ (x : List ℕ). get_or x a 0) same

-- what types or punches
typing_keeps : (s : State) (t : Trace ℕ ⊤ Stop) → KeepsOutside kinds.Nothing s.core (after s (typing_action s t).effects).core
typing_keeps s t = keeps_all s.core (after s (map (Written units.Typed) t.effects)).core (core_written units.Typed t.effects s)

pair_typing_keeps : (s : State) (t : Trace Output ⊤ Stop) → KeepsOutside kinds.Nothing s.core (after s (pair_typing_action s t).effects).core
pair_typing_keeps s t = keeps_all s.core (after s (map (of_output units.Typed) t.effects)).core (core_pairs units.Typed t.effects s)

punch_keeps : (s : State) (t : Trace ℕ ⊤ Stop) → KeepsOutside kinds.Nothing s.core (after s (punch_action s t).effects).core
punch_keeps s t = keeps_all s.core (after s (map (Written units.Punched) t.effects)).core (core_written units.Punched t.effects s)

pair_punch_keeps : (s : State) (t : Trace Output ⊤ Stop) → KeepsOutside kinds.Nothing s.core (after s (pair_punch_action s t).effects).core
pair_punch_keeps s t = keeps_all s.core (after s (map (of_output units.Punched) t.effects)).core (core_pairs units.Punched t.effects s)

-- THE ACTION OF A ROW STORES WITHIN THIS COLUMN.
abbrev pub RowKeeps : MayStore → Row → Type 0
RowKeeps stores r = (o : Operands) (s : State) → o.p < length s.core → o.q < length s.core → (takes_odd r ≡ true → o.p % 2 ≡ 1) → KeepsOutside (stores_by stores o) s.core (after s (action r o s).effects).core

-- whatever it does
pub any_row : (r : Row) → RowKeeps column.Anywhere r
any_row r o s inside second odd a out = absurd out

nop_row : RowKeeps column.Nothing row.Nop
unfolding action
nop_row o s inside second odd a out = refl

halt_row : RowKeeps column.Nothing row.H
unfolding action
halt_row o s inside second odd a out = refl

sum_row : (kind : Kind) → RowKeeps column.Down (row.Sum kind)
unfolding action
sum_row kind o s inside second odd = sum_keeps s o.p o.q kind inside

compare_row : RowKeeps column.Nothing row.Compare
unfolding action
compare_row o s inside second odd a out = comparison_keeps s (comparison s.core o.p o.q) a

-- what moves digits or changes a flag
abbrev move_column : MoveOp → MayStore
move_column moves.Td = column.Cell
move_column moves.Tf = column.Down
move_column moves.Tr = column.Up
move_column moves.Sf = column.Cell
move_column moves.Cf = column.Cell

move_row : (m : MoveOp) → RowKeeps (move_column m) (row.Move m)
unfolding action
move_row moves.Td o s inside second odd = move_keeps (kinds.Cell o.p) s (copy_digit s.core o.p o.q) (λ a other. one_cell s.core o.p (λ d. d) (read_at s.core o.q) a other)
move_row moves.Tf o s inside second odd = move_keeps (kinds.Down o.p) s (move_field s.core o.p o.q) (within_down s.core _ o.p (move_sinks s.core o.p o.q inside))
move_row moves.Tr o s inside second odd = move_keeps (kinds.Up o.p) s (move_record s.core o.p o.q) (within_up s.core _ o.p (record_rises s.core o.p o.q inside))
move_row moves.Sf o s inside second odd = move_keeps (kinds.Cell o.p) s (set_flag s.core o.p) (λ a other. one_cell s.core o.p (with_flag true) (read_at s.core o.p) a other)
move_row moves.Cf o s inside second odd = move_keeps (kinds.Cell o.p) s (clear_flag s.core o.p) (λ a other. one_cell s.core o.p (with_flag false) (read_at s.core o.p) a other)

-- the special features
abbrev feature_column : FeatureOp → MayStore
feature_column features.Tns = column.DownFromQ
feature_column features.Tnf = column.Down
feature_column f = column.Anywhere

feature_row : (f : FeatureOp) → RowKeeps (feature_column f) (row.Feature f)
unfolding action
feature_row features.Tns o s inside second odd = move_keeps (kinds.Down o.q) s (strip s.core o.p o.q) (within_down s.core _ o.q (strip_sinks s.core o.p o.q second))
feature_row features.Tnf o s inside second odd = move_keeps (kinds.Down o.p) s (fill s.core o.p o.q) (within_down s.core _ o.p (fill_sinks s.core o.p o.q inside (odd refl)))
feature_row f o s inside second odd = λ a out. absurd out

-- the typewriter and its keyboard
abbrev console_column : ConsoleRow → MayStore
console_column console.ReadNumeric = column.Anywhere
console_column console.ReadAlpha = column.Anywhere
console_column r = column.Nothing

console_row : (r : ConsoleRow) → RowKeeps (console_column r) (row.InOut (io.Console r))
unfolding action on_console
console_row console.Space o s inside second odd = typing_keeps s (control 1)
console_row console.Return o s inside second odd = typing_keeps s (control 2)
console_row console.Tab o s inside second odd = typing_keeps s (control 8)
console_row console.Dump o s inside second odd = typing_keeps s (write_dump s.core o.p)
console_row console.WriteNumeric o s inside second odd = typing_keeps s (write_numeric s.core o.p)
console_row console.WriteAlpha o s inside second odd = pair_typing_keeps s (write_alphameric s.core o.p)
console_row console.ReadNumeric o s inside second odd = λ a out. absurd out
console_row console.ReadAlpha o s inside second odd = λ a out. absurd out

-- the card reader and the punch
abbrev card_column : CardRow → MayStore
card_column cards.ReadNumeric = column.Anywhere
card_column cards.ReadAlpha = column.Anywhere
card_column r = column.Nothing

card_row : (r : CardRow) → RowKeeps (card_column r) (row.InOut (io.Cards r))
unfolding action on_cards
card_row cards.Dump o s inside second odd = punch_keeps s (punch_dump s.core o.p)
card_row cards.PunchNumeric o s inside second odd = punch_keeps s (punch_numeric s.core o.p)
card_row cards.PunchAlpha o s inside second odd = pair_punch_keeps s (punch_alphameric s.core o.p)
card_row cards.ReadNumeric o s inside second odd = λ a out. absurd out
card_row cards.ReadAlpha o s inside second odd = λ a out. absurd out

-- what a branch reads first leaves core, and so does what follows
read_first : {A : Type 0} (core : List ℕ) (r : Result A Stop) (f : A → Trace Change Regs Stop) → ((x : A) → core_after_changes core (f x).effects ≡ core) → core_after_changes core (r >>= f).effects ≡ core
read_first core (Ok x) f rest = rest x
read_first core (Err why) f rest = refl

abbrev branch_column : BranchOp → MayStore
branch_column op.Bt = column.DownBelow
branch_column b = column.Nothing

module _ (core : List ℕ) (r : Regs) (panel : Panel) where
  -- BT
  abbrev transmit_by : Bool → ℕ → ℕ → Trace Change Regs Stop
  transmit_by b p q = if b then ends (Err Address) else with_answer (λ _. record { ir = p; ir2 = r.ir + 12 }) (lift StoresCell (move_field core (p - 1) q))

  transmit_keeps : (p q : ℕ) → p < length core → KeepsOutside (down_below p) core (core_after_changes core (transmit core r p q).effects)
  transmit_keeps p q inside = by_zero (p == 0)
    where
      by_zero : (b : Bool) → KeepsOutside (if b then kinds.Nothing else kinds.Down (p - 1)) core (core_after_changes core (transmit_by b p q).effects)
      by_zero true = λ a out. refl
      by_zero false =
          subst (λ (new : List ℕ). KeepsOutside (kinds.Down (p - 1)) core new) (sym (core_stored core (move_field core (p - 1) q).effects))
          (within_down core (core_after core (move_field core (p - 1) q).effects) (p - 1) (move_sinks core (p - 1) q (omega (arith, inside))))

  -- BD, BNF, BNR, BNG
  digit_keeps : (p q : ℕ) (test : Digit → Bool) → KeepsOutside kinds.Nothing core (core_after_changes core (go_by_digit core r p q test).effects)
  digit_keeps p q test = keeps_all core (core_after_changes core (go_by_digit core r p q test).effects) (read_first core (read_at core q) (λ d. ends (Ok (go_if r (test d) p))) (λ d. refl))

  -- BI, BNI
  indicator_keeps : (p code : ℕ) (test : Bool) → KeepsOutside kinds.Nothing core (core_after_changes core (go_by_indicator r p code test).effects)
  indicator_keeps p code test = keeps_all core (core_after_changes core (go_by_indicator r p code test).effects) (core_lit core (test_lamps code))

  branch_keeps : (b : BranchOp) (o : BranchOperands) (q : ℕ) → o.p < length core → KeepsOutside (stores_by (branch_column b) (record { p = o.p; q = q })) core (core_after_changes core (branch_over b o core r panel).effects)
  branch_keeps op.Bt o q inside = transmit_keeps o.p o.q inside
  branch_keeps op.Bb o q inside = λ a out. refl
  branch_keeps op.Bd o q inside = digit_keeps o.p o.q (λ d. not (d.value == 0))
  branch_keeps op.Bnf o q inside = digit_keeps o.p o.q (λ d. not d.flag)
  branch_keeps op.Bnr o q inside = digit_keeps o.p o.q (λ d. not (d.value == RECORD_MARK))
  branch_keeps op.Bng o q inside = digit_keeps o.p o.q (λ d. not (d.value == GROUP_MARK))
  branch_keeps op.Bi o q inside = indicator_keeps o.p o.code (on o.code panel)
  branch_keeps op.Bni o q inside = indicator_keeps o.p o.code (not (on o.code panel))
  branch_keeps op.B o q inside = λ a out. refl

branch_row : (b : BranchOp) (code : ℕ) → RowKeeps (branch_column b) (row.Branch b code)
unfolding action
branch_row b code o s inside second odd =
    let t : Trace Change Regs Stop = branch_over b (operands_tested o code) s.core s.regs s.panel in
    subst (λ (new : List ℕ). KeepsOutside (stores_by (branch_column b) o) s.core new) (sym (ap (λ (x : State). x.core) (after_changes t.effects s))) (branch_keeps s.core s.regs s.panel b (operands_tested o code) o.q inside)

-- the column of the units' rows, and of each row
abbrev unit_column : InOutRow → MayStore
unit_column (io.Console r) = console_column r
unit_column (io.Cards r) = card_column r
unit_column (io.Disk r) = column.Anywhere

unit_row : (r : InOutRow) → RowKeeps (unit_column r) (row.InOut r)
unit_row (io.Console r) = console_row r
unit_row (io.Cards r) = card_row r
unit_row (io.Disk r) = any_row (row.InOut (io.Disk r))

abbrev pub row_column : Row → MayStore
row_column (row.Sum kind) = column.Down
row_column row.Compare = column.Nothing
row_column (row.Move m) = move_column m
row_column (row.Feature f) = feature_column f
row_column (row.InOut r) = unit_column r
row_column (row.Branch b code) = branch_column b
row_column row.Nop = column.Nothing
row_column row.H = column.Nothing

-- EACH ROW'S ACTION STORES WITHIN ITS COLUMN.
pub row_keeps : (r : Row) → RowKeeps (row_column r) r
row_keeps (row.Sum kind) = sum_row kind
row_keeps row.Compare = compare_row
row_keeps (row.Move m) = move_row m
row_keeps (row.Feature f) = feature_row f
row_keeps (row.InOut r) = unit_row r
row_keeps (row.Branch b code) = branch_row b code
row_keeps row.Nop = nop_row
row_keeps row.H = halt_row
