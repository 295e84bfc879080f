use Rattle.std.proofs.Common.{ℕ, ◌≡◌, ◌+◌, List, [], ◌∙◌, ap, sym, get_or, drop, arith}
use Rattle.std.proofs.Math.ListN.{drop_of_length-le}
use Rattle.card_code.specs.declared.tally.Tally.{Tally}
use Rattle.card_code.specs.Readings.{bad_from, with_bad}
use Rattle.card_code.proofs.Tallies.{bad_first, good_first, from_place}
use Rattle.card_code.proofs.tally.Tally.take_up.Goals as goal
use Rattle.card_code.proofs.tally.Tally.take_up.Goals.{then-is_bad, else-is_bad}

pub loop-byte-preserved : goal.loop-byte-preserved
loop-byte-preserved c =
    let u = c.args.unit in
    let line = c.args.line in
    let how = c.args.how in
    let text = c.args.text.now in
    let i = c.loop-byte.byte-index in
    let column = c.loop-byte.column in
    let byte = get_or text i 0 in
    let rest = drop (i + 1) text in
    let place = from_place u line how column text i c.loop-byte.self c.loop-byte-test.true in (
      omega (arith, c.loop-byte.invariant.0),
      elim c.if-is_bad.branch [
        | then-is_bad w ↦ ap (λ (t : Tally). with_bad (bad_from u line how (column + 1) rest) t) (w.self-is ∙ w.add.ensures)
            ∙ sym (bad_first u line how column byte rest c.loop-byte.self (sym c.is_bad.ensures ∙ w.if-is_bad.true)) ∙ sym place ∙ c.loop-byte.invariant.1
        | else-is_bad w ↦ ap (λ (t : Tally). with_bad (bad_from u line how (column + 1) rest) t) w.self-is
            ∙ sym (good_first u line how column byte rest c.loop-byte.self (sym c.is_bad.ensures ∙ w.if-is_bad.false)) ∙ sym place ∙ c.loop-byte.invariant.1
      ],
    )

pub returns : goal.returns
unfolding bad_from with_bad
returns c =
    let none : drop c.loop-byte.byte-index c.args.text.now ≡ [] = drop_of_length-le c.args.text.now c.loop-byte-test.false in
    sym (ap (λ (cs : List ℕ). with_bad (bad_from c.args.unit c.args.line c.args.how c.loop-byte.column cs) c.loop-byte.self) none) ∙ c.loop-byte.invariant.1
