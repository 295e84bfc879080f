-- What is written is what stood there.
use Rattle.std.proofs.Common.{◌≡◌, false, ◌+◌, ◌∙◌, ap, arith}
use Rattle.digit_core.specs.Search.{is_bad_cell, IsSound}
use Rattle.digit_core.specs.Within.{AreGoodUpTo}
use Rattle.std.proofs.lemmas.List.Elements.{All-get_or}
use Rattle.digit_core.proofs.Moving.{copied_none}
use Rattle.digit_core.proofs.Writing.{written_copied}
use Rattle.digit_core.proofs.Core.copy_few.Goals as goal

pub returns-then-n-eq0 : goal.returns-then-n-eq0
returns-then-n-eq0 g c = copied_none c.args.self.now c.args.to c.args.from c.args.n c.if-n-eq0.true

pub returns : goal.returns
returns g c = c.put_digits.ensures ∙ written_copied c.args.self.now c.args.to c.args.from c.args.n c.few-w.result c.few-w.ensures

pub put_digits-requires : goal.put_digits-requires
put_digits-requires g c =
    let long = c.size_law.ensures.length in
    let good : (IsSound c.args.self.now → AreGoodUpTo c.few-w.result c.args.n) = λ sound j below. ap is_bad_cell (c.few-w.ensures j below) ∙ All-get_or (λ x. is_bad_cell x ≡ false) c.args.self.now (c.args.from + j) 0 (omega arith) sound in
    (omega arith, (c.requires.few, (c.requires.to_room, good)))
