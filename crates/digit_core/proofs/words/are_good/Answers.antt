-- Where no cell is bad, each holds a digit.
use Rattle.digit_core.specs.Packed.{six}
use Rattle.digit_core.specs.Search.{is_bad_cell}
use Rattle.digit_core.proofs.Planes.{no_one, zero_is, zero_is_not}
use Rattle.digit_core.proofs.Failing.{some_passes}
use Rattle.digit_core.proofs.words.are_good.Goals as goal

pub returns : goal.returns
returns c =
    record {
      yes = λ h j below. no_one c.bads.result j (is_bad_cell (six c.args.w j)) (c.bads.ensures.cells j below) (zero_is _ h);
      no = λ h.
          let found = some_passes is_bad_cell c.args.w c.bads.result c.bads.ensures.word c.bads.ensures.cells (zero_is_not _ h) in
          record { place = found.place; ten = found.ten; bad = found.pass };
    }
