-- What the fields of the instruction come to are its operands.
use Rattle.std.proofs.Common.{◌≡◌, ◌∙◌, Ok, Err, rules}
use Rattle.std.specs.Prelude.{Result}
use Rattle.addr_indirect.specs.declared.Stop.{Stop}
use Rattle.addr_indirect.specs.declared.Stop.TheVariants.{EvenAlpha}
use Rattle.branch_ops.specs.declared.fields.Operands.{Operands}
use Rattle.branch_ops.specs.Fields.{fields_operands}
use Rattle.branch_ops.proofs.FieldOperands.{operands_are}
use Rattle.branch_ops.proofs.fields.Fields.operands.Goals as goal

pub returns-in_err-p-clause-is : goal.returns-in_err-p-clause-is
returns-in_err-p-clause-is g c = λ u stores i there are.
    let from : c.from_residual.result ≡ fields_operands c.args.self c.args.core.now c.args.ir = search rules in
    from ∙ operands_are c.args.core.now c.args.ir c.args.self u stores i there are

pub returns-in_err-q-clause-is : goal.returns-in_err-q-clause-is
returns-in_err-q-clause-is g c = λ u stores i there are.
    let from : c.from_residual-in_err-q.result ≡ fields_operands c.args.self c.args.core.now c.args.ir = search rules in
    from ∙ operands_are c.args.core.now c.args.ir c.args.self u stores i there are

pub returns-then-p-eq0-clause-is : goal.returns-then-p-eq0-clause-is
returns-then-p-eq0-clause-is g c = λ u stores i there are.
    let from : ◌≡◌ {A = Result Operands Stop} (Err EvenAlpha) (fields_operands c.args.self c.args.core.now c.args.ir) = search rules in
    from ∙ operands_are c.args.core.now c.args.ir c.args.self u stores i there are

pub returns-else-self-clause-is : goal.returns-else-self-clause-is
returns-else-self-clause-is g c = λ u stores i there are.
    let from : ◌≡◌ {A = Result Operands Stop} (Ok (record { p = c.in_ok-p.p; q = c.in_ok-q.q })) (fields_operands c.args.self c.args.core.now c.args.ir) = search rules in
    from ∙ operands_are c.args.core.now c.args.ir c.args.self u stores i there are
