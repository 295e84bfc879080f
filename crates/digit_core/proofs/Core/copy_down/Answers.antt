-- Three copies, one next to the other.
use Rattle.std.proofs.Common.{◌≡◌, ◌+◌, ◌-◌, ◌*◌, ◌/◌, ◌%◌, ◌∙◌, ap, arith}
use Rattle.digit_core.specs.Copied.{core_after_copy}
use Rattle.digit_core.proofs.Moving.{copied_down}
use Rattle.digit_core.proofs.Core.copy_down.Goals as goal

pub returns : goal.returns
returns g c =
    let tail = (c.args.to + c.args.n) % 10 in
    let head = (c.args.n - tail) % 10 in
    let words = 10 * ((c.args.n - tail) / 10) in
    let edge : 10 * ((c.args.to + (c.args.n - (c.args.to + c.args.n) % 10) % 10) / 10) ≡ c.args.to + (c.args.n - (c.args.to + c.args.n) % 10) % 10 = omega arith in
    let to_tail : c.args.to + c.args.n - (c.args.to + c.args.n) % 10 ≡ c.args.to + (c.args.n - (c.args.to + c.args.n) % 10) % 10 + 10 * ((c.args.n - (c.args.to + c.args.n) % 10) / 10) = omega arith in
    let from_tail : c.args.from + c.args.n - (c.args.to + c.args.n) % 10 ≡ c.args.from + (c.args.n - (c.args.to + c.args.n) % 10) % 10 + 10 * ((c.args.n - (c.args.to + c.args.n) % 10) / 10) = omega arith in
    let first = rw (to_tail, from_tail) at c.copy_few-2.ensures in
    let second = (rw (edge, first) at c.copy_words_down.ensures) ∙ copied_down c.args.self.now (c.args.to + head) (c.args.from + head) words tail (omega arith) (omega arith) in
    let all : (c.args.n - (c.args.to + c.args.n) % 10) % 10 + (10 * ((c.args.n - (c.args.to + c.args.n) % 10) / 10) + (c.args.to + c.args.n) % 10) ≡ c.args.n = omega arith in
    (rw second at c.copy_few-3.ensures) ∙ copied_down c.args.self.now c.args.to c.args.from head (words + tail) c.requires.order (omega arith) ∙ ap (λ x. core_after_copy c.args.self.now c.args.to c.args.from x) all
