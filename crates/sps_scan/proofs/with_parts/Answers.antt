use Rattle.std.proofs.Common.{◌∙◌}
use Rattle.sps_scan.specs.Operands.{operands_of}
use Rattle.line_words.specs.Blanks.{trimmed}
use Rattle.sps_scan.specs.Columns.{columns}
use Rattle.sps_scan.proofs.Fronts.{remark_fits, shape_is}
use Rattle.sps_scan.proofs.Statements.{plain_is}
use Rattle.sps_scan.proofs.with_parts.Goals as goal

pub returns : goal.returns
returns c =
    let op = c.columns-operation.ensures in
    let field = c.columns-text.ensures in
    let parts = rw (op, field) at c.operands_of-operands.ensures.parts in
    let count = rw (op, field) at c.operands_of-operands.ensures.count in
    let remark = rw (op, field) at c.operands_of-operands.ensures.remark in
    let shape = c.shape_of.ensures ∙ (rw (field, remark) (shape_is (trimmed (columns 12 15 c.args.card.now)) (columns 16 75 c.args.card.now) c.columns.result.now)) in
    plain_is c.args.card.now _ _ _ _ _ _ _ (operands_of (trimmed (columns 12 15 c.args.card.now)) (columns 16 75 c.args.card.now)) c.columns-2.ensures c.columns-operation.ensures c.columns.ensures parts count remark shape

pub slice_bounds-front-count : goal.slice_bounds-front-count
slice_bounds-front-count c = rw c.operands_of-operands.ensures.remark (remark_fits (trimmed c.columns-operation.result.now) c.columns-text.result.now)
