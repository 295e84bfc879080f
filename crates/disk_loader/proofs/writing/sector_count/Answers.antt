use Rattle.std.proofs.Common.{ℕ, ◌≤◌, length, sym, ◌∙◌, arith, rules}
use Rattle.disk_loader.specs.Writes.{image_sectors}
use Rattle.disk_loader.proofs.WrittenSectors.{counted_first, counted_needed, counted_not, counted_all}
use Rattle.disk_loader.proofs.writing.sector_count.Goals as goal
use Rattle.disk_loader.proofs.writing.sector_count.Goals.{then-is_needed, else-is_needed}

pub loop-h-init : goal.loop-h-init
loop-h-init c = (omega arith, counted_first c.args.assembled.now.image.pieces)

pub overflow_add-count : goal.overflow_add-count
overflow_add-count c =
    let few : c.loop-h.count ≤ c.loop-h.h = c.loop-h.invariant.0 in
    let more = c.loop-h-test.true in
    omega arith

pub loop-h-preserved : goal.loop-h-preserved
loop-h-preserved c =
    let image = c.args.assembled.now.image.pieces in
    let few : c.loop-h.count ≤ c.loop-h.h = c.loop-h.invariant.0 in
    let all : ℕ = length (image_sectors c.args.assembled.now.image.pieces) in
    elim c.if-is_needed.branch [
      | then-is_needed w ↦
          rw w.count-is (omega (arith, few), counted_needed image c.loop-h.h c.loop-h.count all c.loop-h-test.true (sym c.is_needed.ensures ∙ w.if-is_needed.true) c.loop-h.invariant.1)
      | else-is_needed w ↦
          rw w.count-is (omega (arith, few), counted_not image c.loop-h.h c.loop-h.count all c.loop-h-test.true (sym c.is_needed.ensures ∙ w.if-is_needed.false) c.loop-h.invariant.1)
    ]

pub returns : goal.returns
returns c = counted_all c.args.assembled.now.image.pieces c.loop-h.h c.loop-h.count (length (image_sectors c.args.assembled.now.image.pieces)) (search rules) c.loop-h.invariant.1
