use Rattle.std.proofs.Common.{◌≡◌, length, ap, sym, arith}
use Rattle.sps_pass_two.specs.Types.{run_of}
use Rattle.deck_punch.proofs.Declaring.{below, above, within}
use Rattle.deck_punch.proofs.tables.digit_at.Goals as goal

pub returns-then-a-piece : goal.returns-then-a-piece
returns-then-a-piece c = sym (below (run_of c.args.piece.now) c.args.a c.if-a-piece.true)

pub returns-then-place-digits : goal.returns-then-place-digits
returns-then-place-digits c =
    let l : length c.as_slice-digits.result.now ≡ length c.args.piece.now.digits = ap length c.as_slice-digits.ensures in
    rw c.as_slice-digits.ensures (sym (within (run_of c.args.piece.now) c.args.a c.if-a-piece.false (omega (arith, l, c.if-place-digits.true, c.if-a-piece.false))))

pub returns-else-place-digits : goal.returns-else-place-digits
returns-else-place-digits c =
    let l : length c.as_slice-digits.result.now ≡ length c.args.piece.now.digits = ap length c.as_slice-digits.ensures in
    sym (above (run_of c.args.piece.now) c.args.a (omega (arith, l, c.if-place-digits.false, c.if-a-piece.false)))
