-- Fields without a chain that come to operands here do everywhere.
use Rattle.std.proofs.Common.{sym, ◌∙◌, arith}
use Rattle.digit_core.specs.Size.{size}
use Rattle.cpu_step.proofs.UnchainedFields.{settled, row_no_immediate, same_first}
use Rattle.cpu_step.proofs.memo.known_row.Goals as goal

-- no branch
pub returns-in_default : goal.returns-in_default
returns-in_default g c =
    let l = c.size_law.ensures.length in
    let is = c.requires.row in (
      is,
      settled c.args.core.now c.args.ir (size g.row.M) (omega arith) (omega arith) c.args.fields
          (row_no_immediate c.args.i.now c.args.row c.args.fields is) c.requires.plain c.in-Ok.o (sym c.in-Ok.ensures.from),
    )

-- a branch that isn't B
pub returns-in_default-op : goal.returns-in_default-op
returns-in_default-op g c =
    let l = c.size_law.ensures.length in
    let is = c.requires.row in (
      rw c.in-Branch.is at is,
      settled c.args.core.now c.args.ir (size g.row.M) (omega arith) (omega arith) c.args.fields
          (row_no_immediate c.args.i.now c.args.row c.args.fields is) c.requires.plain c.in-Ok.o (sym c.in-Ok.ensures.from),
    )

-- B
pub returns-in-B : goal.returns-in-B
returns-in-B g c =
    let l = c.size_law.ensures.length in
    let is = c.requires.row in
    let comes = settled c.args.core.now c.args.ir (size g.row.M) (omega arith) (omega arith) c.args.fields
    (row_no_immediate c.args.i.now c.args.row c.args.fields is) c.requires.plain c.in-Ok.o (sym c.in-Ok.ensures.from) in
    let first = same_first c.in-Ok.o _ (c.in-Ok.ensures.from ∙ comes.works c.args.core.now c.args.ir (omega arith)) in
    record { code = _; f = c.args.fields; is = rw (c.in-Branch.is, c.in-B.is) at is; settled = comes; p_is = first }
