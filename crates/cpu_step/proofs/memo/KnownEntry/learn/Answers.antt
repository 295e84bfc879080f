-- The words of the new entry stand in core, from which they were taken.
use Rattle.std.proofs.Common.{◌/◌, refl, arith}
use Rattle.cpu_step.proofs.MemoEntries.{comes_by}
use Rattle.cpu_step.proofs.memo.KnownEntry.learn.Goals as goal

pub returns : goal.returns
returns g c =
    comes_by g.row.M c.args.ir (c.args.ir / 10) c.mask_from-low_mask.result c.mask_below-high_mask.result
    (record {
      even = omega arith;
      inside = omega arith;
      word_is = refl;
      low_named = c.mask_from-low_mask.ensures.named;
      high_named = c.mask_below-high_mask.ensures.named;
    })
    c.args.core.now c.size-size.ensures.length c.word.result c.word-2.result c.word.ensures.word c.word.ensures.cells c.word-2.ensures.cells c.decode-known.result
    (rw (← c.ten_across.ensures.is) c.decode-known.ensures)
