-- A digit of the word.
use Rattle.card_unit.proofs.CardsPunched.{read_good}
use Rattle.card_unit.proofs.punch.digit_of.Goals as goal

pub returns-in-Some : goal.returns-in-Some
returns-in-Some g c =
    let held = rw c.in-Some.is at c.requires.held in
    read_good c.args.core.now c.args.a c.in-Some.word c.args.j c.digit_in.result held c.requires.place c.digit_in.ensures.is
