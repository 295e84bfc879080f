-- A statement whose layout is broken, and one whose layout is not.
use Rattle.std.proofs.Common.{◌≡◌, ℕ, Option, Some, None}
use Rattle.sps_ops.specs.declared.operation.Declarative.{Declarative}
use Rattle.sps_scan.specs.Statement.{StatementText}
use Rattle.sps_pass_one.specs.declared.fault.Fault.{Fault}
use Rattle.sps_pass_one.specs.Faults.{least}
use Rattle.sps_pass_one.specs.Measure.{Measure}
use Rattle.sps_pass_one.specs.Placing.{field_placing, nothing_at, count_of, declared_placing}
use Rattle.sps_pass_one.proofs.Least.{no_fault, some_fault}

pub good_layout : (d : Declarative) (at : ℕ) (s : StatementText) (m : Measure) (n count k : ℕ) (a : Option ℕ) → n ≡ m.n → count ≡ count_of d s n → k ≡ m.k → a ≡ m.a → least None m.faults ≡ None → field_placing d at count k a ≡ declared_placing d at s m
good_layout d at s m n count k a en ec ek ea e = rw (no_fault m.faults e, ec, en, ek, ea)

pub bad_layout : (d : Declarative) (at : ℕ) (s : StatementText) (m : Measure) (f : Fault) → least None m.faults ≡ Some f → nothing_at at ≡ declared_placing d at s m
bad_layout d at s m f e = rw (some_fault m.faults f e)
