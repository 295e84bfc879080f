-- Each byte that an instruction writes goes to a unit that the machine writes.
use Rattle.std.proofs.Common.{◌≡◌, ℕ, true, List, [], map, length, get_or, refl, All}
use Rattle.std.proofs.lemmas.List.Elements.{All-nil, All-append, All-map}
use Rattle.std.specs.Prelude.{⊤, Result, Ok, Err}
use Rattle.addr_indirect.specs.declared.Stop.{Stop}
use Rattle.addr_indirect.specs.Fetch.{fetch}
use Rattle.outside_io.specs.declared.host.Unit as unit
use Rattle.outside_io.specs.declared.host.Unit.TheVariants as units
use Rattle.traces.specs.Trace.{Trace, after_answer, ◌>>=◌}
use Rattle.traces.specs.Change.{Change, StoresCell, Lights}
use Rattle.card_code.specs.Break.{Break, or_break}
use Rattle.card_code.specs.{Output, WritesByte, Warns, Intake, TakesText, Changes}
use Rattle.card_unit.specs.Reader as reader
use Rattle.card_unit.specs.Punch.{punch_numeric, punch_alphameric, punch_dump}
use Rattle.typewriter.specs.Keys as keyboard
use Rattle.typewriter.specs.Typing.{control, write_numeric, write_alphameric, write_dump}
use Rattle.disk_1311.specs.Sector.{DiskEffect, Alters, SetsArm, Records}
use Rattle.disk_1311.specs.Disk.{seek, transfer}
use Rattle.table_arith.specs.declared.Shown.{Shown}
use Rattle.table_arith.specs.Sum.{sum, comparison, shown_lamps}
use Rattle.branch_ops.specs.Branch.{branch_over}
use Rattle.cpu_step.specs.declared.rows.Row.{Row}
use Rattle.cpu_step.specs.declared.rows.Row.TheVariants as row
use Rattle.cpu_step.specs.declared.rows.InOutRow.{InOutRow}
use Rattle.cpu_step.specs.declared.rows.InOutRow.TheVariants as io
use Rattle.cpu_step.specs.declared.rows.ConsoleRow.{ConsoleRow}
use Rattle.cpu_step.specs.declared.rows.ConsoleRow.TheVariants as console
use Rattle.cpu_step.specs.declared.rows.CardRow.{CardRow}
use Rattle.cpu_step.specs.declared.rows.CardRow.TheVariants as cards
use Rattle.cpu_step.specs.declared.rows.DiskRow.{DiskRow}
use Rattle.cpu_step.specs.declared.rows.DiskRow.TheVariants as disk
use Rattle.branch_ops.specs.declared.fields.Operands.{Operands}
use Rattle.cpu_step.specs.Rows.{instruction_row}
use Rattle.cpu_step.specs.State.{State}
use Rattle.cpu_step.specs.Effects.{Effect, CellStored, Light, Written, of_change, of_cards, of_keys, of_output, of_disk}
use Rattle.field_moves.specs.Move.{move_of}
use Rattle.feature_ops.specs.Feature.{feature_of}
use Rattle.cpu_step.specs.Act.{show_result, operands, operands_tested, on_console, on_cards, on_disk, in_out, action, act}
use Rattle.cpu_step.specs.Step.{instruction_trace, instruction}
use Rattle.cpu_step.specs.Load.{state_for_load, load_trace}
use Rattle.cpu_step.specs.Machine.{is_written}

abbrev pub IsOwn : Effect → Type 0
IsOwn (Written u b) = is_written u ≡ true
IsOwn e = ⊤

abbrev AreOwn : {A : Type 0} → Trace Effect A Break → Type 0
AreOwn t = All IsOwn t.effects

-- what each layer does
change_own : (c : Change) → IsOwn (of_change c)
change_own (StoresCell s) = tt
change_own (Lights l) = tt

cards_own : (i : Intake) → IsOwn (of_cards i)
cards_own TakesText = tt
cards_own (Changes c) = change_own c

keys_own : (i : Intake) → IsOwn (of_keys i)
keys_own TakesText = tt
keys_own (Changes c) = change_own c

output_own : (u : unit.Unit) → is_written u ≡ true → (o : Output) → IsOwn (of_output u o)
output_own u own (WritesByte b) = own
output_own u own (Warns l) = tt

disk_own : (e : DiskEffect) → IsOwn (of_disk e)
disk_own (Alters c) = change_own c
disk_own (SetsArm drive cylinder) = tt
disk_own (Records a bytes) = tt

each_own : {A : Type 0} (f : A → Effect) → ((a : A) → IsOwn (f a)) → (xs : List A) → All IsOwn (map f xs)
each_own f own xs = All-map IsOwn f xs (λ k d lt. own (get_or xs k d))

-- a reading, and what follows it
read_own : {A B : Type 0} (r : Result A Stop) (f : A → Trace Effect B Break) → ((a : A) → AreOwn (f a)) → AreOwn (or_break r >>= f)
read_own (Ok a) f own = own a
read_own (Err why) f own = All-nil IsOwn

lamps_own : (r : Shown) → AreOwn (show_result r)
lamps_own r = All-append IsOwn (map Light (shown_lamps r)) [] (each_own Light (λ l. tt) (shown_lamps r)) (All-nil IsOwn)

sum_own : (es : List Effect) (a : Result Shown Break) → All IsOwn es → AreOwn (after_answer es a show_result)
sum_own es (Ok r) own = All-append IsOwn es (show_result r).effects own (lamps_own r)
sum_own es (Err why) own = own

-- the rows
console_own : (r : ConsoleRow) (p : ℕ) (s : State) → AreOwn (on_console r p s)
unfolding on_console
console_own console.Space p s = each_own (Written units.Typed) (λ b. refl) (control 1).effects
console_own console.Return p s = each_own (Written units.Typed) (λ b. refl) (control 2).effects
console_own console.Tab p s = each_own (Written units.Typed) (λ b. refl) (control 8).effects
console_own console.Dump p s = each_own (Written units.Typed) (λ b. refl) (write_dump s.core p).effects
console_own console.WriteNumeric p s = each_own (Written units.Typed) (λ b. refl) (write_numeric s.core p).effects
console_own console.WriteAlpha p s = each_own (of_output units.Typed) (output_own units.Typed refl) (write_alphameric s.core p).effects
console_own console.ReadNumeric p s = each_own of_keys keys_own (keyboard.read_line_numeric (length s.core) p s.keys).effects
console_own console.ReadAlpha p s = each_own of_keys keys_own (keyboard.read_line_alphameric (length s.core) p s.keys).effects

card_own : (r : CardRow) (p : ℕ) (s : State) → AreOwn (on_cards r p s)
unfolding on_cards
card_own cards.Dump p s = each_own (Written units.Punched) (λ b. refl) (punch_dump s.core p).effects
card_own cards.PunchNumeric p s = each_own (Written units.Punched) (λ b. refl) (punch_numeric s.core p).effects
card_own cards.PunchAlpha p s = each_own (of_output units.Punched) (output_own units.Punched refl) (punch_alphameric s.core p).effects
card_own cards.ReadNumeric p s = each_own of_cards cards_own (reader.read_card_numeric (length s.core) p s.hopper).effects
card_own cards.ReadAlpha p s = each_own of_cards cards_own (reader.read_card_alphameric (length s.core) p s.hopper).effects

disks_own : (r : DiskRow) (p : ℕ) (s : State) → AreOwn (on_disk r p s)
unfolding on_disk
disks_own disk.Seek p s = each_own of_disk disk_own (seek s.core p s.arms).effects
disks_own (disk.Transfer kind) p s = each_own of_disk disk_own (transfer kind s.core p s.arms s.sectors).effects

unit_own : (r : InOutRow) (p : ℕ) (s : State) → AreOwn (in_out r p s)
unit_own (io.Console r) p s = console_own r p s
unit_own (io.Cards r) p s = card_own r p s
unit_own (io.Disk r) p s = disks_own r p s

action_own : (r : Row) (o : Operands) (s : State) → AreOwn (action r o s)
unfolding action
action_own (row.Sum kind) o s = sum_own _ (or_break (sum kind s.core o.p o.q).answer) (each_own CellStored (λ d. tt) (sum kind s.core o.p o.q).effects)
action_own row.Compare o s = read_own (comparison s.core o.p o.q) show_result lamps_own
action_own (row.Move op) o s = each_own CellStored (λ d. tt) (move_of op s.core o.p o.q).effects
action_own (row.Feature op) o s = each_own CellStored (λ d. tt) (feature_of op s.core o.p o.q).effects
action_own (row.InOut r) o s = unit_own r o.p s
action_own (row.Branch op code) o s = each_own of_change change_own (branch_over op (operands_tested o code) s.core s.regs s.panel).effects
action_own row.Nop o s = All-nil IsOwn
action_own row.H o s = All-nil IsOwn

pub instruction_own : (s : State) → All IsOwn (instruction s).effects
unfolding instruction
instruction_own s =
    read_own (fetch s.core s.regs.ir) (λ i. instruction_trace i s) (λ i. read_own (instruction_row i) (λ f. act f s)
    (λ f. read_own (operands f.uses s.core s.regs.ir) (λ o. action f.row o s) (λ o. action_own f.row o s)))

-- nor does the Load key write any
pub load_own : (s : State) → All IsOwn (load_trace (state_for_load s)).effects
load_own s = each_own of_cards cards_own (reader.read_card_numeric (length s.core) 0 s.hopper).effects
