-- What the columns of the table of instructions say of an instruction holds of its row.
use Rattle.std.proofs.Common.{◌≡◌, ℕ, ◌==◌, Bool, true, false, List, [], ◌∷◌, refl, subst}
use Rattle.std.specs.Prelude.{◌||◌, ◌&&◌, not, ⊤, Option, Some, None, Result, Ok, Err, if◌then◌else◌}
use Rattle.addr_indirect.specs.declared.Stop.{Stop}
use Rattle.addr_indirect.specs.declared.Instr.{Instr}
use Rattle.addr_indirect.specs.declared.Stop.TheVariants.{Device}
use Rattle.addr_indirect.specs.Fetch.{opcode, part}
use Rattle.instruction_table.specs.declared.InstructionRow.{InstructionRow}
use Rattle.instruction_table.specs.declared.Op.{Op}
use Rattle.instruction_table.specs.declared.Op.TheVariants as op
use Rattle.instruction_table.specs.declared.BranchOp.{BranchOp}
use Rattle.instruction_table.specs.declared.MayStore.{MayStore}
use Rattle.instruction_table.specs.declared.MayStore.TheVariants as column
use Rattle.instruction_table.specs.Table.{instructions, instruction_of, row_in, code_of, op_of, uses_of, stores_of}
use Rattle.instruction_table.specs.declared.BranchOp.TheVariants.{B}
use Rattle.cpu_step.specs.declared.rows.Row.{Row}
use Rattle.cpu_step.specs.declared.rows.Row.TheVariants as row
use Rattle.cpu_step.specs.declared.rows.InOutRow.TheVariants as io
use Rattle.cpu_step.specs.declared.rows.ConsoleRow.{ConsoleRow}
use Rattle.cpu_step.specs.declared.rows.ConsoleRow.TheVariants as console
use Rattle.cpu_step.specs.declared.rows.CardRow.{CardRow}
use Rattle.cpu_step.specs.declared.rows.CardRow.TheVariants as cards
use Rattle.cpu_step.specs.declared.rows.DiskRow.{DiskRow}
use Rattle.cpu_step.specs.declared.rows.DiskRow.TheVariants as disk
use Rattle.disk_1311.specs.declared.DiskKind.TheVariants.{Rdgn, Cdgn, Rdn, Cdn, Wdgn, Wdn}
use Rattle.branch_ops.specs.declared.fields.Uses.{Uses}
use Rattle.branch_ops.specs.declared.fields.Uses.TheVariants.{First}
use Rattle.cpu_step.specs.declared.rows.Found.{Found}
use Rattle.cpu_step.specs.Rows.{is_device, branch_row, row_of_op, uses_by_device, stores_told, with_columns, row_by_table, row_by, row_of_code, instruction_row, takes_odd}
use Rattle.branch_ops.specs.Operands.{tested_code, uses_by}
use Rattle.table_arith.specs.declared.Kind.TheVariants.{Add, Subtract}
use Rattle.cpu_step.specs.Checks.{wants_odd}
use Rattle.cpu_step.proofs.RowStores.{RowKeeps, any_row, row_column, row_keeps}

-- two tests hold only where each of them does
both : (a b : Bool) → (a && b) ≡ true → (a ≡ true) × (b ≡ true)
both true b e = (refl, e)
both false b e = absurd (cc)

-- one test holds only where another does
abbrev only_where : Bool → Bool → Bool
only_where a b = not a || b

implied : (a b : Bool) → only_where a b ≡ true → a ≡ true → b ≡ true
implied true b e is = e
implied false b e is = cc

abbrev is_b : Row → Bool
is_b (row.Branch B code) = true
is_b r = false

abbrev only_goes : Uses → MayStore → Bool
only_goes First column.Nothing = true
only_goes u m = false

goes_is : (u : Uses) (m : MayStore) → only_goes u m ≡ true → (u ≡ First) × (m ≡ column.Nothing)
goes_is First column.Nothing e = (refl, refl)
goes_is First m e = cc
goes_is u m e = cc

-- the table's column leaves what a row's own does
abbrev leaves : MayStore → MayStore → Bool
leaves column.Anywhere own = true
leaves column.Nothing column.Nothing = true
leaves column.Cell column.Cell = true
leaves column.Down column.Down = true
leaves column.DownBelow column.DownBelow = true
leaves column.DownFromQ column.DownFromQ = true
leaves column.Up column.Up = true
leaves stores own = false

keeps_by : (r : Row) (stores own : MayStore) → leaves stores own ≡ true → RowKeeps own r → RowKeeps stores r
keeps_by r column.Anywhere own e keeps = any_row r
keeps_by r column.Nothing column.Nothing e keeps = keeps
keeps_by r column.Cell column.Cell e keeps = keeps
keeps_by r column.Down column.Down e keeps = keeps
keeps_by r column.DownBelow column.DownBelow e keeps = keeps
keeps_by r column.DownFromQ column.DownFromQ e keeps = keeps
keeps_by r column.Up column.Up e keeps = keeps
keeps_by r stores own e keeps = absurd (cc)

-- P is odd wherever the action takes it only so, B uses P alone and stores nothing, and what the action stores is within the column
abbrev Fits : Found → Type 0
Fits f = (only_where (takes_odd f.row) (wants_odd f.uses) ≡ true) × (only_where (is_b f.row) (only_goes f.uses f.stores) ≡ true) × RowKeeps f.stores f.row

abbrev WhereFound : Result Found Stop → Type 0
WhereFound (Ok f) = Fits f
WhereFound (Err why) = ⊤

-- whether an instruction's columns fit a row of it
abbrev row_fits : InstructionRow → Row → Bool
row_fits i r =
    only_where (takes_odd r) (wants_odd (uses_by (uses_of i) (uses_by_device r)))
    && (only_where (is_b r) (only_goes (uses_by (uses_of i) (uses_by_device r)) (stores_told (stores_of i) r)) && leaves (stores_told (stores_of i) r) (row_column r))

-- of one device or another
module _ (instruction : InstructionRow) where
  abbrev Fitting : Result Row Stop → Type 0
  Fitting x = WhereFound (with_columns instruction x)

  fitting : (r : Row) → row_fits instruction r ≡ true → Fitting (Ok r)
  fitting r e =
      let uses : Uses = uses_by (uses_of instruction) (uses_by_device r) in
      let stores : MayStore = stores_told (stores_of instruction) r in
      let first = both (only_where (takes_odd r) (wants_odd uses)) (only_where (is_b r) (only_goes uses stores) && leaves stores (row_column r)) e in
      let second = both (only_where (is_b r) (only_goes uses stores)) (leaves stores (row_column r)) first.1 in
      (first.0, second.0, keeps_by r stores (row_column r) second.1 (row_keeps r))

  -- all of some rows
  abbrev all_fit : List Row → Bool
  all_fit [] = true
  all_fit (r ∷ rs) = row_fits instruction r && all_fit rs

  abbrev AllFitting : List Row → Type 0
  AllFitting [] = ⊤
  AllFitting (r ∷ rs) = Fitting (Ok r) × AllFitting rs

  all_fitting : (rs : List Row) → all_fit rs ≡ true → AllFitting rs
  all_fitting [] e = tt
  all_fitting (r ∷ rs) e =
      let each = both (row_fits instruction r) (all_fit rs) e in
      (fitting r each.0, all_fitting rs each.1)

  two : (a b : Bool) (x y : Result Row Stop) → Fitting x → Fitting y → Fitting (if a then x else if b then y else Err Device)
  two true b x y first second = first
  two false true x y first second = second
  two false false x y first second = tt

  three : (a b c : Bool) (x y z : Result Row Stop) → Fitting x → Fitting y → Fitting z → Fitting (if a then x else if b then y else if c then z else Err Device)
  three true b c x y z first second third = first
  three false b c x y z first second third = two b c y z second third

  four : (a b c d : Bool) (x y z w : Result Row Stop) → Fitting x → Fitting y → Fitting z → Fitting w → Fitting (if a then x else if b then y else if c then z else if d then w else Err Device)
  four true b c d x y z w first second third fourth = first
  four false b c d x y z w first second third fourth = three b c d y z w second third fourth

abbrev console_unit : ConsoleRow → Row
console_unit r = row.InOut (io.Console r)

abbrev card_unit : CardRow → Row
card_unit r = row.InOut (io.Cards r)

abbrev disk_unit : DiskRow → Row
disk_unit r = row.InOut (io.Disk r)

-- the rows that an operation may have, by its device; whichever indicator a branch names, its columns are the same
abbrev rows_of : Op → List Row
rows_of op.A = row.Sum Add ∷ []
rows_of op.S = row.Sum Subtract ∷ []
rows_of op.C = row.Compare ∷ []
rows_of (op.Move m) = row.Move m ∷ []
rows_of (op.Feature f) = row.Feature f ∷ []
rows_of (op.Branch b) = row.Branch b 0 ∷ []
rows_of op.K = console_unit console.Space ∷ console_unit console.Return ∷ console_unit console.Tab ∷ disk_unit disk.Seek ∷ []
rows_of op.Dn = console_unit console.Dump ∷ card_unit cards.Dump ∷ []
rows_of op.Rn =
    console_unit console.ReadNumeric ∷ card_unit cards.ReadNumeric
    ∷ disk_unit (disk.Transfer Rdgn) ∷ disk_unit (disk.Transfer Cdgn) ∷ disk_unit (disk.Transfer Rdn) ∷ disk_unit (disk.Transfer Cdn) ∷ []
rows_of op.Ra = console_unit console.ReadAlpha ∷ card_unit cards.ReadAlpha ∷ []
rows_of op.Wn =
    console_unit console.WriteNumeric ∷ card_unit cards.PunchNumeric
    ∷ disk_unit (disk.Transfer Wdgn) ∷ disk_unit (disk.Transfer Wdn) ∷ []
rows_of op.Wa = console_unit console.WriteAlpha ∷ card_unit cards.PunchAlpha ∷ []
rows_of op.Nop = row.Nop ∷ []
rows_of op.H = row.H ∷ []

-- an instruction's columns fit all of them
abbrev fits_all : InstructionRow → Bool
fits_all i = all_fit i (rows_of (op_of i))

-- a branch's columns, whatever it tests
stores_tested : (m : MayStore) (b : BranchOp) (code : ℕ) → stores_told m (row.Branch b 0) ≡ stores_told m (row.Branch b code)
stores_tested column.ByDevice b code = refl
stores_tested m b code = refl

b_tested : (b : BranchOp) (code : ℕ) → is_b (row.Branch b 0) ≡ is_b (row.Branch b code)
b_tested B code = refl
b_tested b code = refl

module _ (i : InstructionRow) (d : Instr) where
  branch_fits : (b : BranchOp) → row_fits i (row.Branch b 0) ≡ true → Fitting i (branch_row b d)
  branch_fits b e =
      fitting i (row.Branch b (tested_code d))
      (rw (← stores_tested (stores_of i) b (tested_code d), ← b_tested b (tested_code d)) e)

  row_fitting : (o : Op) → all_fit i (rows_of o) ≡ true → Fitting i (row_of_op o d)
  row_fitting op.A e = (all_fitting i (rows_of op.A) e).0
  row_fitting op.S e = (all_fitting i (rows_of op.S) e).0
  row_fitting op.C e = (all_fitting i (rows_of op.C) e).0
  row_fitting (op.Move m) e = (all_fitting i (rows_of (op.Move m)) e).0
  row_fitting (op.Feature f) e = (all_fitting i (rows_of (op.Feature f)) e).0
  row_fitting (op.Branch b) e = branch_fits b (both (row_fits i (row.Branch b 0)) true e).0
  row_fitting op.K e =
      let f = all_fitting i (rows_of op.K) e in
      four i (is_device d 1 && part d 11 == 1) (is_device d 1 && part d 11 == 2) (is_device d 1 && part d 11 == 8) (is_device d 7 && part d 11 == 1)
      _ _ _ _ f.0 f.1.0 f.1.1.0 f.1.1.1.0
  row_fitting op.Dn e =
      let f = all_fitting i (rows_of op.Dn) e in
      two i (is_device d 1) (is_device d 4) _ _ f.0 f.1.0
  row_fitting op.Rn e =
      let f = all_fitting i (rows_of op.Rn) e in
      let g = f.1.1 in
      three i (is_device d 1) (is_device d 5) (is_device d 7) _ _ _ f.0 f.1.0
      (four i (part d 11 == 0) (part d 11 == 1) (part d 11 == 2) (part d 11 == 3) _ _ _ _ g.0 g.1.0 g.1.1.0 g.1.1.1.0)
  row_fitting op.Ra e =
      let f = all_fitting i (rows_of op.Ra) e in
      two i (is_device d 1) (is_device d 5) _ _ f.0 f.1.0
  row_fitting op.Wn e =
      let f = all_fitting i (rows_of op.Wn) e in
      let g = f.1.1 in
      three i (is_device d 1) (is_device d 4) (is_device d 7) _ _ _ f.0 f.1.0
      (two i (part d 11 == 0) (part d 11 == 2) _ _ g.0 g.1.0)
  row_fitting op.Wa e =
      let f = all_fitting i (rows_of op.Wa) e in
      two i (is_device d 1) (is_device d 4) _ _ f.0 f.1.0
  row_fitting op.Nop e = (all_fitting i (rows_of op.Nop) e).0
  row_fitting op.H e = (all_fitting i (rows_of op.H) e).0

-- EACH ROW OF THE TABLE FITS.
abbrev table_fits : List InstructionRow → Bool
table_fits [] = true
table_fits (i ∷ rest) = fits_all i && table_fits rest

all_rows_fit : table_fits instructions ≡ true
all_rows_fit = refl

-- so of the one that has a code
fits_by_code : (rows : List InstructionRow) (code : ℕ) (i : InstructionRow) → table_fits rows ≡ true → row_in rows code ≡ Some i → fits_all i ≡ true
fits_by_code [] code i fit is = absurd (cc)
fits_by_code (x ∷ rest) code i fit is =
    let each = both (fits_all x) (table_fits rest) fit in
    by_code (code_of x == code) each.0 (fits_by_code rest code i each.1) is
  where
    by_code : (b : Bool) → fits_all x ≡ true → (row_in rest code ≡ Some i → fits_all i ≡ true) → (if b then Some x else row_in rest code) ≡ Some i → fits_all i ≡ true
    by_code true fits further e = let same : x ≡ i = cc in subst (λ (y : InstructionRow). fits_all y ≡ true) same fits
    by_code false fits further e = further e

module _ (i : Instr) (f : Found) where
  by_row : (code : ℕ) (o : Option InstructionRow) → instruction_of code ≡ o → row_by_table o i ≡ Ok f → Fits f
  by_row code None e is = absurd (cc)
  by_row code (Some r) e is = subst WhereFound is (row_fitting r i (op_of r) (fits_by_code instructions code r all_rows_fit e))

  by_code : (code : Option ℕ) → row_by code i ≡ Ok f → Fits f
  unfolding row_of_code
  by_code None is = absurd (cc)
  by_code (Some code) is = by_row code (instruction_of code) refl is

  module _ (is : instruction_row i ≡ Ok f) where
    fits : Fits f
    fits = by_code (opcode i) is

    -- WHAT IS FOUND USES AND STORES AS ITS COLUMNS SAY.
    pub uses_odd : takes_odd f.row ≡ true → wants_odd f.uses ≡ true
    uses_odd odd = implied _ _ fits.0 odd

    pub b_columns : is_b f.row ≡ true → (f.uses ≡ First) × (f.stores ≡ column.Nothing)
    b_columns b = goes_is f.uses f.stores (implied _ _ fits.1 b)

    pub found_keeps : RowKeeps f.stores f.row
    found_keeps = fits.2
