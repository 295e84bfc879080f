use Rattle.std.proofs.Common.{◌≤◌, ◌∙◌, sym, arith, inl, inr, length-set}
use Rattle.std.proofs.lemmas.List.Elements.{All-set}
use Rattle.std.proofs.lemmas.Result.{err_from_is_err_and}
use Rattle.disk_1311.specs.Control.{control_of}
use Rattle.disk_1311.proofs.Numbers.{part_below}
use Rattle.disk_1311.proofs.Fields.{field_stop, field_on, field_all, field_stops, field_reads, drive_there, no_drive}
use Rattle.disk_1311.proofs.control.control_field.Goals as goal
use Rattle.disk_1311.proofs.control.control_field.Goals.{else-control-ge1-via-then-control-ge1+else-control-drives, else-control-ge1-via-else-control-ge1}

pub returns-in_err-digits-clause-is : goal.returns-in_err-digits-clause-is
returns-in_err-digits-clause-is g c =
    let p = err_from_is_err_and c.from_residual.result c.from_residual.ensures.1 in
    let stop = field_stop c.args.core.now c.args.at c.loop-k.k c.loop-k.digits c.loop-k-test.true _ (sym c.in_err-digits.ensures.is) in
    rw (p.1, p.2) (sym (field_stops c.args.core.now c.args.at c.args.drives _ (sym c.loop-k.invariant.rest ∙ stop)))

pub loop-k-preserved : goal.loop-k-preserved
loop-k-preserved g c =
    let on = field_on c.args.core.now c.args.at c.loop-k.k c.loop-k.digits c.loop-k-test.true c.in_ok-digits.field-0 (sym c.in_ok-digits.ensures.is) c.loop-k.invariant.all in
    record {
      all = rw length-set c.loop-k.invariant.all;
      decimal = All-set (λ v. v ≤ 9) c.loop-k.digits c.loop-k.k c.in_ok-digits.field-0.value c.in_ok-digits.ensures.decimal c.loop-k.invariant.decimal;
      rest = sym on ∙ c.loop-k.invariant.rest;
    }

pub returns-then-control-drives-clause-is : goal.returns-then-control-drives-clause-is
returns-then-control-drives-clause-is g c =
    let all = field_all c.args.core.now c.args.at c.loop-k.k c.loop-k.digits c.loop-k-test.false c.loop-k.invariant.all in
    let reads = field_reads c.args.core.now c.args.at c.args.drives c.loop-k.digits (sym c.loop-k.invariant.rest ∙ all) in
    rw (c.number_of_digits.ensures, c.number_of_digits-2.ensures, c.number_of_digits-3.ensures, c.number_of_digits-4.ensures)
    (drive_there c.args.drives (control_of c.loop-k.digits) (omega (arith, c.number_of_digits.ensures)) (omega (arith, c.number_of_digits.ensures)) ∙ sym reads)

pub returns-then-control-drives-clause-sector : goal.returns-then-control-drives-clause-sector
returns-then-control-drives-clause-sector g c = omega (arith, part_below 5 1 c.loop-k.digits (omega (arith, c.loop-k.invariant.all)) c.loop-k.invariant.decimal)

pub returns-then-control-drives-clause-count : goal.returns-then-control-drives-clause-count
returns-then-control-drives-clause-count g c = omega (arith, part_below 3 6 c.loop-k.digits (omega (arith, c.loop-k.invariant.all)) c.loop-k.invariant.decimal)

pub returns-then-control-drives-clause-address : goal.returns-then-control-drives-clause-address
returns-then-control-drives-clause-address g c = omega (arith, part_below 5 9 c.loop-k.digits (omega (arith, c.loop-k.invariant.all)) c.loop-k.invariant.decimal)

pub returns-else-control-ge1-clause-is : goal.returns-else-control-ge1-clause-is
returns-else-control-ge1-clause-is g c =
    let all = field_all c.args.core.now c.args.at c.loop-k.k c.loop-k.digits c.loop-k-test.false c.loop-k.invariant.all in
    let reads = field_reads c.args.core.now c.args.at c.args.drives c.loop-k.digits (sym c.loop-k.invariant.rest ∙ all) in
    no_drive c.args.drives (control_of c.loop-k.digits)
    (elim c.else-control-ge1.branch [
      | else-control-ge1-via-then-control-ge1+else-control-drives w ↦ inr (omega (arith, c.number_of_digits.ensures))
      | else-control-ge1-via-else-control-ge1 w ↦ inl (omega (arith, c.number_of_digits.ensures))
    ]) ∙ sym reads
