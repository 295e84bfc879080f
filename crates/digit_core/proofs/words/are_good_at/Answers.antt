-- Digits in the cells that are named.
use Rattle.digit_core.specs.Packed.{six}
use Rattle.digit_core.specs.Search.{is_bad_cell}
use Rattle.digit_core.proofs.Planes.{no_one, masked_one, zero_is, zero_is_not}
use Rattle.digit_core.proofs.Failing.{masked_passes}
use Rattle.digit_core.proofs.words.are_good_at.Goals as goal

pub returns : goal.returns
returns c =
    record {
      yes = λ h j below named.
          no_one _ j (is_bad_cell (six c.args.w j)) (masked_one c.bads.result c.args.mask j (is_bad_cell (six c.args.w j)) (c.bads.ensures.cells j below) named) (zero_is _ h);
      no = λ h.
          let found = masked_passes is_bad_cell c.args.w c.bads.result c.bads.ensures.word c.bads.ensures.cells c.args.mask (zero_is_not _ h) in
          record { place = found.place; ten = found.ten; named = found.named; bad = found.pass };
    }
