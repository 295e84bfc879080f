use Rattle.std.proofs.Common.{◌∙◌, ◌+◌, List, Option, drop, sym, ap, false}
use Rattle.digit_core.specs.declared.Digit.{Digit}
use Rattle.sps_pass_two.specs.Writing.{with_digits}
use Rattle.sps_pass_two.proofs.Runs.{write_on, write_end}
use Rattle.sps_pass_two.proofs.cells.write.Goals as goal

pub loop-i-preserved : goal.loop-i-preserved
loop-i-preserved c =
    ap (λ (cells : List (Option Digit)). with_digits cells (c.args.from + (c.loop-i.i + 1)) (drop (c.loop-i.i + 1) c.args.digits.now)) c.set_digit.ensures
    ∙ (sym (write_on (record { flag = false; value = 0 }) c.loop-i.image.items c.args.from c.loop-i.i c.args.digits.now c.loop-i-test.true) ∙ c.loop-i.invariant)

pub returns : goal.returns
returns c = sym (write_end c.loop-i.image.items c.args.from c.loop-i.i c.args.digits.now c.loop-i-test.false) ∙ c.loop-i.invariant
