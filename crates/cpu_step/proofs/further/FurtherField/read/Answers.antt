-- The field leads into core, and where it has a flag a further one may stand there.
use Rattle.std.proofs.Common.{sym, arith}
use Rattle.cpu_step.proofs.FurtherCells.{leads_of}
use Rattle.cpu_step.proofs.further.FurtherField.read.Goals as goal
use Rattle.cpu_step.proofs.further.FurtherField.read.Goals.{else-d-via-then-d+else-number-lt-LOWEST_UNITS, else-d-via-else-d}

pub of-requires : goal.of-requires
of-requires g c =
    let l = c.size-size.ensures.length in
    let s = c.size-size.ensures.size in (
      omega arith,
      (
        omega arith,
        (
          c.requires.field,
          (
            omega arith,
            leads_of c.args.core.now c.args.u c.in-Ok-five_digits.number c.in-Ok.d (sym c.in-Ok.ensures.is) (sym c.in-Ok-five_digits.ensures) (omega arith)
                (λ flagged. elim c.else-d.branch [
                  | else-d-via-then-d+else-number-lt-LOWEST_UNITS w ↦ let f = w.if-number-lt-LOWEST_UNITS.false in omega arith
                  | else-d-via-else-d w ↦ let f = w.if-d.false in absurd (cc)
                ]),
          ),
        ),
      ),
    )

pub returns-else-d : goal.returns-else-d
returns-else-d g c =
    let l = c.size-size.ensures.length in
    let s = c.size-size.ensures.size in
    rw (c.of.ensures.number, c.of.ensures.flagged) (leads_of c.args.core.now c.args.u c.in-Ok-five_digits.number c.in-Ok.d (sym c.in-Ok.ensures.is) (sym c.in-Ok-five_digits.ensures) (omega arith)
    (λ flagged. elim c.else-d.branch [
      | else-d-via-then-d+else-number-lt-LOWEST_UNITS w ↦ let f = w.if-number-lt-LOWEST_UNITS.false in omega arith
      | else-d-via-else-d w ↦ let f = w.if-d.false in absurd (cc)
    ]))
