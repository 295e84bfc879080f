-- In the first word, in the words between, and in the last.
use Rattle.std.proofs.Common.{ℕ, ◌≡◌, ◌-◌, ◌+◌, ◌*◌, ◌/◌, ◌%◌, ◌<◌, ◌≤◌, List, Option, Some, None, sym, ◌∙◌, arith}
use Rattle.digit_core.specs.Search.{first_down, is_bad_cell}
use Rattle.digit_core.proofs.Passing.{down_first, down_second}
use Rattle.digit_core.proofs.Core.first_bad_down.Goals as goal

module _ (cells : List ℕ) (a b : ℕ) (order : b ≤ a) where
  same : a / 10 ≡ b / 10 → (r : Option ℕ) → r ≡ first_down is_bad_cell cells (10 * (a / 10) + (a % 10 + 1)) (a % 10 + 1 - b % 10) → r ≡ first_down is_bad_cell cells (a + 1) (a + 1 - b)
  same e r is =
      let at : 10 * (a / 10) + (a % 10 + 1) ≡ a + 1 = omega arith in
      let n : a % 10 + 1 - b % 10 ≡ a + 1 - b = omega arith in
      rw (at, n) at is

  module _ (apart : b / 10 < a / 10) where
    head : (r : Option ℕ) → r ≡ first_down is_bad_cell cells (10 * (a / 10) + (a % 10 + 1)) (a % 10 + 1 - 0) → r ≡ first_down is_bad_cell cells (a + 1) (a % 10 + 1)
    head r is =
        let at : 10 * (a / 10) + (a % 10 + 1) ≡ a + 1 = omega arith in
        let n : a % 10 + 1 - 0 ≡ a % 10 + 1 = omega arith in
        rw (at, n) at is

    abbrev words : ℕ
    words = 10 * (a / 10 - (b / 10 + 1))

    in_head : (e : ℕ) → Some e ≡ first_down is_bad_cell cells (10 * (a / 10) + (a % 10 + 1)) (a % 10 + 1 - 0) → Some e ≡ first_down is_bad_cell cells (a + 1) (a + 1 - b)
    in_head e is =
        let all : a % 10 + 1 + (a + 1 - b - (a % 10 + 1)) ≡ a + 1 - b = omega arith in
        let s = down_first is_bad_cell cells (a + 1) (a % 10 + 1) (a + 1 - b - (a % 10 + 1)) e (head (Some e) is) in
        rw all at s

    past_head : None ≡ first_down is_bad_cell cells (10 * (a / 10) + (a % 10 + 1)) (a % 10 + 1 - 0) → first_down is_bad_cell cells (10 * (a / 10)) (words + (10 - b % 10)) ≡ first_down is_bad_cell cells (a + 1) (a + 1 - b)
    past_head is =
        let all : a % 10 + 1 + (words + (10 - b % 10)) ≡ a + 1 - b = omega arith in
        let next : a + 1 - (a % 10 + 1) ≡ 10 * (a / 10) = omega arith in
        let s = down_second is_bad_cell cells (a + 1) (a % 10 + 1) (words + (10 - b % 10)) (head None is) in
        rw (all, next) at s

    in_tail : None ≡ first_down is_bad_cell cells (10 * (a / 10)) words → (r : Option ℕ) → r ≡ first_down is_bad_cell cells (10 * (b / 10) + 10) (10 - b % 10) → r ≡ first_down is_bad_cell cells (10 * (a / 10)) (words + (10 - b % 10))
    in_tail none r is =
        let at : 10 * (b / 10) + 10 ≡ 10 * (a / 10) - words = omega arith in
        (rw at at is) ∙ down_second is_bad_cell cells (10 * (a / 10)) words (10 - b % 10) none

pub returns-then-first-last : goal.returns-then-first-last
returns-then-first-last g c = same c.args.self.now c.args.a c.args.b c.requires.order c.if-first-last.true _ c.down_in.ensures

pub returns-in-Some : goal.returns-in-Some
returns-in-Some g c = in_head c.args.self.now c.args.a c.args.b c.requires.order (omega arith) c.in-Some.at c.in-Some.ensures

pub returns-in-Some-down_words : goal.returns-in-Some-down_words
returns-in-Some-down_words g c =
    down_first is_bad_cell c.args.self.now (10 * (c.args.a / 10)) (words c.args.self.now c.args.a c.args.b c.requires.order (omega arith)) (10 - c.args.b % 10) c.in-Some-down_words.at c.in-Some-down_words.ensures
    ∙ past_head c.args.self.now c.args.a c.args.b c.requires.order (omega arith) (sym c.in_default.is ∙ c.down_in-2.ensures)

pub returns : goal.returns
returns g c =
    in_tail c.args.self.now c.args.a c.args.b c.requires.order (omega arith) (sym c.in_default-down_words.is ∙ c.down_words.ensures) _ c.down_in-3.ensures
    ∙ past_head c.args.self.now c.args.a c.args.b c.requires.order (omega arith) (sym c.in_default.is ∙ c.down_in-2.ensures)
