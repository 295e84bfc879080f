-- Fields without a chain come to the same operands in every core of a size.
use Rattle.std.proofs.Common.{ℕ, ◌≡◌, ◌+◌, ◌%◌, ◌==◌, ◌<◌, ◌≤◌, ◌||◌, Bool, true, false, List, length, Ok, Err, refl, sym, ap, ◌∙◌, arith}
use Rattle.std.specs.Prelude.{◌&&◌, nat_lt, if◌then◌else◌, Option, Some, None, Result}
use Rattle.std.proofs.lemmas.Bool.Decides.{nat_tests}
use Rattle.addr_indirect.specs.declared.Stop.{Stop}
use Rattle.addr_indirect.specs.declared.Stop.TheVariants as stop
use Rattle.addr_indirect.specs.declared.Instr.{Instr}
use Rattle.addr_indirect.specs.Steps.{◌>>=◌}
use Rattle.instruction_table.specs.declared.MayStore.{MayStore}
use Rattle.branch_ops.specs.declared.fields.Uses.{Uses}
use Rattle.branch_ops.specs.declared.fields.Uses.TheVariants.{Neither}
use Rattle.branch_ops.specs.declared.fields.Operands.{Operands}
use Rattle.branch_ops.specs.Fields.{part_number, kind_of, fields_used, field_operand, fields_operands, number_or_own, is_chain, is_chained}
use Rattle.branch_ops.specs.declared.fields.FieldKind.{FieldKind}
use Rattle.branch_ops.specs.declared.fields.FieldKind.TheVariants as kind
use Rattle.branch_ops.specs.declared.fields.Fields.{Fields}
use Rattle.cpu_step.specs.declared.rows.Row.{Row}
use Rattle.cpu_step.specs.Known.{AreSettled, IsRow}

-- P is no immediate operand
no_immediate : (m : Option ℕ) (flag : Bool) → kind_of m flag ≡ kind.Immediate → ⊥
no_immediate None flag e = cc
no_immediate (Some v) true e = cc
no_immediate (Some v) false e = cc

first_no_immediate : (u : Uses) (stores : MayStore) (i : Instr) → (fields_used u stores i).p_kind ≡ kind.Immediate → ⊥
first_no_immediate Neither stores i e = cc
first_no_immediate u stores i e = no_immediate (part_number i 6 5) _ e

pub row_no_immediate : (i : Instr) (row : Row) (f : Fields) → IsRow i row f → f.p_kind ≡ kind.Immediate → ⊥
row_no_immediate i row f is e = first_no_immediate is.uses f.stores i (ap (λ (x : Fields). x.p_kind) (sym is.fields_are) ∙ e)

-- an operand that comes without a chain comes so in every core of this size
module _ (core : List ℕ) (ir n : ℕ) (long : length core ≡ n) where
  number_inside : (v a : ℕ) → (b : Bool) → nat_lt v (length core) ≡ b → (if b then Ok v else Err stop.Address) ≡ Ok a → v < n
  number_inside v a true test is = grind (arith, nat_tests)
  number_inside v a false test is = cc

  -- it is the field's number, or an immediate Q
  comes_at : (k : FieldKind) (v a : ℕ) → is_chain k ≡ false → field_operand core ir k v ≡ Ok a → (other : List ℕ) (to : ℕ) → length other ≡ n → field_operand other to k v ≡ Ok (number_or_own to k v)
  comes_at kind.Immediate v a plain is other to same = refl
  comes_at kind.Address v a plain is other to same =
      let below = number_inside v a (nat_lt v (length core)) refl is in
      let t : nat_lt v (length other) ≡ true = grind (arith, nat_tests) in
      rw t refl
  comes_at k v a plain is other to same = cc

  below_at : (k : FieldKind) (v a : ℕ) → is_chain k ≡ false → field_operand core ir k v ≡ Ok a → (to : ℕ) → to + 12 ≤ n → number_or_own to k v < n
  below_at kind.Immediate v a plain is to inside = omega arith
  below_at kind.Address v a plain is to inside = number_inside v a (nat_lt v (length core)) refl is
  below_at k v a plain is to inside = cc

  number_at : (k : FieldKind) (v to : ℕ) → (k ≡ kind.Immediate → ⊥) → number_or_own to k v ≡ v
  number_at kind.Immediate v to none = absurd (none refl)
  number_at k v to none = refl

both_false : (a b : Bool) → (a || b) ≡ false → (a ≡ false) × (b ≡ false)
both_false false false e = (refl, refl)
both_false false true e = cc
both_false true b e = cc

-- so fields of which none is a chain, and which come to operands in one core, do in every core of its size
module _ (core : List ℕ) (ir n : ℕ) (long : length core ≡ n) (inside : ir + 12 ≤ n) (f : Fields) (none : f.p_kind ≡ kind.Immediate → ⊥) (plain : is_chained f ≡ false) (o : Operands) where
  abbrev checked : ℕ → ℕ → Result Operands Stop
  checked p q = if f.odd && p % 2 == 0 then Err stop.EvenAlpha else Ok (record { p = p; q = q })

  not_even : (b : Bool) (p q : ℕ) → (if b then Err stop.EvenAlpha else Ok (record { p = p; q = q })) ≡ Ok o → b ≡ false
  not_even true p q e = cc
  not_even false p q e = refl

  first : is_chain f.p_kind ≡ false
  first = (both_false (is_chain f.p_kind) (is_chain f.q_kind) plain).0

  second : is_chain f.q_kind ≡ false
  second = (both_false (is_chain f.p_kind) (is_chain f.q_kind) plain).1

  module _ (p : ℕ) (p_comes : field_operand core ir f.p_kind f.p ≡ Ok p) where
    p_at : (other : List ℕ) (to : ℕ) → length other ≡ n → field_operand other to f.p_kind f.p ≡ Ok f.p
    p_at other to wide = comes_at core ir n long f.p_kind f.p p first p_comes other to wide ∙ ap Ok (number_at core ir n long f.p_kind f.p to none)

    p_same : p ≡ f.p
    p_same = let e = sym p_comes ∙ p_at core ir long in cc

    settled_by : (q : ℕ) → field_operand core ir f.q_kind f.q ≡ Ok q → checked p q ≡ Ok o → AreSettled n f
    settled_by q q_comes is =
        let odd : (f.odd && f.p % 2 == 0) ≡ false = rw (← p_same) (not_even (f.odd && p % 2 == 0) p q is) in
        let same : number_or_own ir f.p_kind f.p ≡ f.p = number_at core ir n long f.p_kind f.p ir none in
        record {
          works = λ other to wide. rw (p_at other to wide, comes_at core ir n long f.q_kind f.q q second q_comes other to wide, odd) refl;
          p_below = rw (← same) (below_at core ir n long f.p_kind f.p p first p_comes ir inside);
          q_below = λ to room. below_at core ir n long f.q_kind f.q q second q_comes to room;
        }

    by_second : (r : Result ℕ Stop) → field_operand core ir f.q_kind f.q ≡ r → (r >>= (λ q. checked p q)) ≡ Ok o → AreSettled n f
    by_second (Ok q) q_comes is = settled_by q q_comes is
    by_second (Err why) q_comes is = cc

  by_first : (r : Result ℕ Stop) → field_operand core ir f.p_kind f.p ≡ r → (r >>= (λ p. field_operand core ir f.q_kind f.q >>= (λ q. checked p q))) ≡ Ok o → AreSettled n f
  by_first (Ok p) p_comes is = by_second p p_comes (field_operand core ir f.q_kind f.q) refl is
  by_first (Err why) p_comes is = cc

  pub settled : fields_operands f core ir ≡ Ok o → AreSettled n f
  settled is = by_first (field_operand core ir f.p_kind f.p) refl is

-- operands that are the same have the same P
pub same_first : (o other : Operands) → ◌≡◌ {A = Result Operands Stop} (Ok o) (Ok other) → o.p ≡ other.p
same_first o other e = let same : o ≡ other = cc in ap (λ (x : Operands). x.p) same
