-- An operation that begins with another character than a D.
use Rattle.std.proofs.Common.{◌∙◌, ap, sym, length}
use Rattle.sps_scan.specs.Operands.{OperandParts, ten_parts}
use Rattle.sps_scan.proofs.PartCounts.{other_first}
use Rattle.sps_scan.proofs.operands.operands_of.Goals as goal

pub returns-in-len1-up-clause-parts : goal.returns-in-len1-up-clause-parts
returns-in-len1-up-clause-parts c =
    let three = other_first c.args.operation.now c.args.text.now c.in-len1-up.len_at_least c.if-first-ne68.true c.if-first-ne32.true in
    c.parted.ensures.parts ∙ ap (λ (o : OperandParts). ten_parts o.parts) (sym three)

pub returns-in-len1-up-clause-count : goal.returns-in-len1-up-clause-count
returns-in-len1-up-clause-count c =
    let three = other_first c.args.operation.now c.args.text.now c.in-len1-up.len_at_least c.if-first-ne68.true c.if-first-ne32.true in
    c.parted.ensures.count ∙ ap (λ (o : OperandParts). length o.parts) (sym three)

pub returns-in-len1-up-clause-remark : goal.returns-in-len1-up-clause-remark
returns-in-len1-up-clause-remark c =
    let three = other_first c.args.operation.now c.args.text.now c.in-len1-up.len_at_least c.if-first-ne68.true c.if-first-ne32.true in
    c.parted.ensures.remark ∙ ap (λ (o : OperandParts). o.remark) (sym three)
