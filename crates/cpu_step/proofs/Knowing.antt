-- What twelve good cells come to.
use Rattle.std.proofs.Common.{ℕ, ◌≡◌, ◌+◌, ◌%◌, ◌==◌, ◌<◌, ◌≤◌, Bool, true, false, List, length, Ok, Err, Some, None, refl, sym, ap, subst, ◌∙◌, arith}
use Rattle.std.specs.Prelude.{if◌then◌else◌, Option, Result}
use Rattle.std.proofs.lemmas.Bool.Decides.{nat_tests}
use Rattle.digit_core.specs.Size.{size}
use Rattle.addr_indirect.specs.declared.Stop.{Stop}
use Rattle.addr_indirect.specs.declared.Instr.{Instr}
use Rattle.addr_indirect.specs.declared.Stop.TheVariants.{EvenAlpha}
use Rattle.addr_indirect.specs.Steps.{◌>>=◌}
use Rattle.addr_indirect.specs.Fetch.{fetch, opcode}
use Rattle.addr_indirect.specs.Operands.{p_operand, q_operand}
use Rattle.addr_indirect.specs.Twelve.{digits_in, TwelveAreGood}
use Rattle.addr_indirect.proofs.TwelveCells.{twelve_read}
use Rattle.addr_indirect.proofs.Windows.{fetch_is}
use Rattle.instruction_table.specs.declared.MayStore.{MayStore}
use Rattle.instruction_table.specs.declared.MayStore.TheVariants.{Nothing}
use Rattle.instruction_table.specs.declared.BranchOp.TheVariants.{B}
use Rattle.cpu_step.specs.declared.rows.Row.{Row}
use Rattle.cpu_step.specs.declared.rows.Row.TheVariants as rows
use Rattle.branch_ops.specs.declared.fields.Uses.{Uses}
use Rattle.branch_ops.specs.declared.fields.Uses.TheVariants.{Both, OddBoth, First, OddFirst}
use Rattle.branch_ops.specs.declared.fields.Operands.{Operands}
use Rattle.branch_ops.specs.declared.fields.Fields.{Fields}
use Rattle.cpu_step.specs.declared.memo.Known.{Known}
use Rattle.cpu_step.specs.declared.memo.Known.TheVariants as known
use Rattle.instruction_table.specs.declared.Op.{Op}
use Rattle.instruction_table.specs.declared.Op.TheVariants as op
use Rattle.instruction_table.specs.declared.InstructionRow.{InstructionRow}
use Rattle.instruction_table.specs.Table.{instruction_of, op_of}
use Rattle.cpu_step.specs.Rows.{row_of_op, with_columns, row_by_table, instruction_row, row_by, row_of_code, takes_odd}
use Rattle.cpu_step.specs.Checks.{wants_odd}
use Rattle.cpu_step.specs.Act.{operands}
use Rattle.branch_ops.specs.Fields.{part_number, fields_used, fields_at, HoldOperands}
use Rattle.cpu_step.specs.Known.{instr_at, AreTwelve, AreSettled, IsRow, IsB, IsKnown, found_with, uses_in, uses_at, code_in, ComesToRow, ComesToB, ComesTo}
use Rattle.branch_ops.proofs.FieldOperands.{fields_hold}
use Rattle.cpu_step.proofs.TableRows.{uses_odd, b_columns}

-- a row is found by the digits alone, wherever they stand
module _ (ir low high : ℕ) where
  same_row_of : (o : Op) → row_of_op o (instr_at ir low high) ≡ row_of_op o (instr_at 0 low high)
  same_row_of op.K = refl
  same_row_of o = refl

  same_by_table : (r : Option InstructionRow) → row_by_table r (instr_at ir low high) ≡ row_by_table r (instr_at 0 low high)
  same_by_table None = refl
  same_by_table (Some r) = ap (with_columns r) (same_row_of (op_of r))

  same_row_by : (code : Option ℕ) → row_by code (instr_at ir low high) ≡ row_by code (instr_at 0 low high)
  unfolding row_of_code
  same_row_by None = refl
  same_row_by (Some code) = same_by_table (instruction_of code)

  pub same_row : instruction_row (instr_at ir low high) ≡ instruction_row (instr_at 0 low high)
  same_row = same_row_by (opcode (instr_at ir low high))

-- the operands of a pair
same_pair : (p q : ℕ) (o : Operands) → ◌≡◌ {A = Result Operands Stop} (Ok (record { p = p; q = q })) (Ok o) → (p ≡ o.p) × (q ≡ o.q)
same_pair p q o is = let e : record { p = p; q = q } ≡ o = cc in (ap (λ (x : Operands). x.p) e, ap (λ (x : Operands). x.q) e)

-- P was seen to be odd
passed_odd : (p q : ℕ) (b : Bool) (o : Operands) → p % 2 == 0 ≡ b → (if b then Err EvenAlpha else Ok (record { p = p; q = q })) ≡ Ok o → o.p % 2 ≡ 1
passed_odd p q true o test is = cc
passed_odd p q false o test is = let e : p ≡ o.p = (same_pair p q o is).0 in rw (← e) (grind (arith, nat_tests))

odd_pair : (r s : Result ℕ Stop) (o : Operands) → (r >>= (λ p. s >>= (λ q. if p % 2 == 0 then Err EvenAlpha else Ok (record { p = p; q = q })))) ≡ Ok o → o.p % 2 ≡ 1
odd_pair (Ok p) (Ok q) o is = passed_odd p q (p % 2 == 0) o refl is
odd_pair (Ok p) (Err why) o is = cc
odd_pair (Err why) s o is = cc

odd_first : (r : Result ℕ Stop) (o : Operands) → (r >>= (λ p. if p % 2 == 0 then Err EvenAlpha else Ok (record { p = p; q = 0 }))) ≡ Ok o → o.p % 2 ≡ 1
odd_first (Ok p) o is = passed_odd p 0 (p % 2 == 0) o refl is
odd_first (Err why) o is = cc

-- operands that an instruction comes to
pub odd_wanted : (core : List ℕ) (ir : ℕ) (o : Operands) (u : Uses) → operands u core ir ≡ Ok o → wants_odd u ≡ true → o.p % 2 ≡ 1
odd_wanted core ir o OddFirst is e = odd_first (p_operand core ir) o is
odd_wanted core ir o OddBoth is e = odd_pair (p_operand core ir) (q_operand core ir) o is
odd_wanted core ir o u is e = cc

-- its fields say so
field_odd : (u : Uses) (stores : MayStore) (i : Instr) → wants_odd u ≡ true → (fields_used u stores i).odd ≡ true
field_odd OddFirst stores i e = refl
field_odd OddBoth stores i e = refl
field_odd u stores i e = cc

pub row_odd : (i : Instr) (row : Row) (f : Fields) → IsRow i row f → takes_odd row ≡ true → f.odd ≡ true
row_odd i row f is odd = ap (λ (x : Fields). x.odd) is.fields_are ∙ field_odd is.uses f.stores i (uses_odd i _ is.row_is odd)

module _ (m low high : ℕ) (good : TwelveAreGood low high) (core : List ℕ) (ir : ℕ) (t : AreTwelve m core ir low high) where
  long : length core ≡ size m
  long = t.long

  inside : ir + 12 ≤ length core
  inside = t.inside

  pub fetched : fetch core ir ≡ Ok (instr_at ir low high)
  fetched = fetch_is core ir (digits_in low high) t.even (twelve_read core ir low high good inside t.low_cells t.high_cells)

  -- fields are the same wherever the cells stand
  same_fields : (u : Uses) (stores : MayStore) → fields_used u stores (instr_at 0 low high) ≡ fields_used u stores (instr_at ir low high)
  unfolding part_number
  same_fields Both stores = refl
  same_fields u stores = refl

  here : (row : Row) (f : Fields) → IsRow (instr_at 0 low high) row f → IsRow (instr_at ir low high) row f
  here row f is = record {
    uses = is.uses;
    row_is = same_row ir low high ∙ is.row_is;
    fields_are = is.fields_are ∙ same_fields is.uses f.stores;
  }

  holds : (row : Row) (f : Fields) (is : IsRow (instr_at ir low high) row f) → HoldOperands is.uses core ir f
  holds row f is = subst (HoldOperands is.uses core ir) (sym is.fields_are) (fields_hold core ir (instr_at ir low high) fetched is.uses f.stores)

  module _ (row : Row) (f : Fields) (is : IsRow (instr_at ir low high) row f) where
    same_uses : uses_at ir low high ≡ is.uses
    same_uses = ap uses_in is.row_is

    row_at : instruction_row (instr_at ir low high) ≡ Ok (found_with row (uses_at ir low high) f.stores)
    row_at = is.row_is ∙ ap (λ (u : Uses). Ok (found_with row u f.stores)) (sym same_uses)

    held : HoldOperands (uses_at ir low high) core ir f
    held = subst (λ (u : Uses). HoldOperands u core ir f) (sym same_uses) (holds row f is)

  module _ (row : Row) (f : Fields) (settled : AreSettled (size m) f) (is : IsRow (instr_at ir low high) row f) where
    come : operands (uses_at ir low high) core ir ≡ Ok (fields_at ir f)
    come = sym (held row f is) ∙ settled.works core ir long

    p_below : f.p < length core
    p_below = let h = settled.p_below in omega arith

    q_below : (fields_at ir f).q < length core
    q_below = let h = settled.q_below ir (omega arith) in omega arith

    row_comes : ComesToRow core ir low high row f.stores (fields_at ir f)
    row_comes = record {
      fetched = fetched;
      row_is = row_at row f is;
      operands_are = come;
      inside = inside;
      p_inside = p_below;
      q_inside = q_below;
      odd = λ odd. odd_wanted core ir (fields_at ir f) (uses_at ir low high) come (uses_odd (instr_at ir low high) _ (row_at row f is) odd);
    }

  -- B
  module _ (p : ℕ) (b : IsB (instr_at 0 low high) (size m) p) where
    there : IsRow (instr_at ir low high) (rows.Branch B b.code) b.f
    there = here (rows.Branch B b.code) b.f b.is

    columns : (there.uses ≡ First) × (b.f.stores ≡ Nothing)
    columns = b_columns (instr_at ir low high) _ there.row_is refl

    abbrev q_held : Fields → ℕ
    q_held f = (fields_at ir f).q

    none_held : q_held b.f ≡ 0
    none_held = ap q_held (there.fields_are ∙ ap (λ (u : Uses). fields_used u b.f.stores (instr_at ir low high)) columns.0)

    operands_of_b : fields_at ir b.f ≡ record { p = p; q = 0 }
    operands_of_b = λ j. record { p = sym b.p_is j; q = none_held j }

    b_comes : ComesToB core ir low high p
    b_comes =
        subst (λ (c : ℕ). ComesToRow core ir low high (rows.Branch B c) Nothing (record { p = p; q = 0 })) (sym (ap code_in there.row_is))
        (subst (λ (o : Operands). ComesToRow core ir low high (rows.Branch B b.code) Nothing o) operands_of_b
        (subst (λ (x : MayStore). ComesToRow core ir low high (rows.Branch B b.code) x (fields_at ir b.f)) columns.1 (row_comes (rows.Branch B b.code) b.f b.settled there)))

  pub comes : (k : Known) → IsKnown (instr_at 0 low high) (size m) k → ComesTo core ir low high k
  comes (known.B p) is = record {
    to_b = λ v e.
        let same : p ≡ v = cc in
        rw (← same) (b_comes p is);
    to_row = λ row f e. absurd (cc);
    to_branch = λ op f code e. absurd (cc);
    to_chained = λ row f e. absurd (cc);
  }
  comes (known.Row row f) is = record {
    to_b = λ v e. absurd (cc);
    to_row = λ other x e.
        let same_row_is : row ≡ other = cc in
        let same_f : f ≡ x = cc in
        rw (← same_row_is, ← same_f) (row_comes row f is.1 (here row f is.0));
    to_branch = λ op x code e. absurd (cc);
    to_chained = λ other x e. absurd (cc);
  }
  comes (known.Branch op f code) is = record {
    to_b = λ v e. absurd (cc);
    to_row = λ other x e. absurd (cc);
    to_branch = λ other x c e.
        let same_op : op ≡ other = cc in
        let same_f : f ≡ x = cc in
        let same_code : code ≡ c = cc in
        rw (← same_op, ← same_f, ← same_code) (row_comes (rows.Branch op code) f is.1 (here (rows.Branch op code) f is.0));
    to_chained = λ other x e. absurd (cc);
  }
  comes (known.Chained row f) is = record {
    to_b = λ v e. absurd (cc);
    to_row = λ other x e. absurd (cc);
    to_branch = λ op x code e. absurd (cc);
    to_chained = λ other x e.
        let same_row_is : row ≡ other = cc in
        let same_f : f ≡ x = cc in
        let there : IsRow (instr_at ir low high) row f = here row f is in
        rw (← same_row_is, ← same_f) (record {
          fetched = fetched;
          row_is = row_at row f there;
          operands_are = held row f there;
          inside = inside;
          odd = row_odd (instr_at ir low high) row f there;
        });
  }
  comes known.Nothing is = record {
    to_b = λ v e. absurd (cc);
    to_row = λ row f e. absurd (cc);
    to_branch = λ op f code e. absurd (cc);
    to_chained = λ row f e. absurd (cc);
  }
