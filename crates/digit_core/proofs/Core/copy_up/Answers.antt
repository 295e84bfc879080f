-- Three copies, one next to the other.
use Rattle.std.proofs.Common.{◌≡◌, ◌+◌, ◌-◌, ◌*◌, ◌/◌, ◌%◌, ◌∙◌, ap, arith}
use Rattle.digit_core.specs.Copied.{core_after_copy}
use Rattle.digit_core.proofs.Moving.{copied_up}
use Rattle.digit_core.proofs.Core.copy_up.Goals as goal

pub returns : goal.returns
returns g c =
    let head = 10 - c.args.to % 10 in
    let words = 10 * ((c.args.n - head) / 10) in
    let tail = (c.args.n - head) % 10 in
    let edge : 10 * (c.args.to / 10 + 1) ≡ c.args.to + (10 - c.args.to % 10) = omega arith in
    let second = (rw (edge, c.copy_few-2.ensures) at c.copy_words_up.ensures) ∙ copied_up c.args.self.now c.args.to c.args.from head words c.requires.order (omega arith) in
    let to_tail : c.args.to + c.args.n - (c.args.n - (10 - c.args.to % 10)) % 10 ≡ c.args.to + (10 - c.args.to % 10 + 10 * ((c.args.n - (10 - c.args.to % 10)) / 10)) = omega arith in
    let from_tail : c.args.from + c.args.n - (c.args.n - (10 - c.args.to % 10)) % 10 ≡ c.args.from + (10 - c.args.to % 10 + 10 * ((c.args.n - (10 - c.args.to % 10)) / 10)) = omega arith in
    let all : 10 - c.args.to % 10 + 10 * ((c.args.n - (10 - c.args.to % 10)) / 10) + (c.args.n - (10 - c.args.to % 10)) % 10 ≡ c.args.n = omega arith in
    (rw (to_tail, from_tail, second) at c.copy_few-3.ensures) ∙ copied_up c.args.self.now c.args.to c.args.from (head + words) tail c.requires.order (omega arith) ∙ ap (λ x. core_after_copy c.args.self.now c.args.to c.args.from x) all
