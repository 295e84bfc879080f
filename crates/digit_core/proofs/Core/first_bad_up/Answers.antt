-- In the first word, in the words between, and in the last.
use Rattle.std.proofs.Common.{ℕ, ◌≡◌, ◌-◌, ◌+◌, ◌*◌, ◌/◌, ◌%◌, ◌<◌, ◌≤◌, List, Option, Some, None, sym, ◌∙◌, arith}
use Rattle.digit_core.specs.Search.{first_up, is_bad_cell}
use Rattle.digit_core.proofs.Passing.{up_first, up_second}
use Rattle.digit_core.proofs.Core.first_bad_up.Goals as goal

module _ (cells : List ℕ) (a b : ℕ) (order : a ≤ b) where
  same : a / 10 ≡ b / 10 → (r : Option ℕ) → r ≡ first_up is_bad_cell cells (10 * (a / 10) + a % 10) (b % 10 + 1 - a % 10) → r ≡ first_up is_bad_cell cells a (b + 1 - a)
  same e r is =
      let at : 10 * (a / 10) + a % 10 ≡ a = omega arith in
      let n : b % 10 + 1 - a % 10 ≡ b + 1 - a = omega arith in
      rw (at, n) at is

  module _ (apart : a / 10 < b / 10) where
    head : (r : Option ℕ) → r ≡ first_up is_bad_cell cells (10 * (a / 10) + a % 10) (10 - a % 10) → r ≡ first_up is_bad_cell cells a (10 - a % 10)
    head r is = let at : 10 * (a / 10) + a % 10 ≡ a = omega arith in rw at at is

    abbrev words : ℕ
    words = 10 * (b / 10 - (a / 10 + 1))

    in_head : (e : ℕ) → Some e ≡ first_up is_bad_cell cells (10 * (a / 10) + a % 10) (10 - a % 10) → Some e ≡ first_up is_bad_cell cells a (b + 1 - a)
    in_head e is =
        let all : 10 - a % 10 + (b + 1 - a - (10 - a % 10)) ≡ b + 1 - a = omega arith in
        let s = up_first is_bad_cell cells a (10 - a % 10) (b + 1 - a - (10 - a % 10)) e (head (Some e) is) in
        rw all at s

    past_head : None ≡ first_up is_bad_cell cells (10 * (a / 10) + a % 10) (10 - a % 10) → first_up is_bad_cell cells (10 * (a / 10 + 1)) (words + (b % 10 + 1)) ≡ first_up is_bad_cell cells a (b + 1 - a)
    past_head is =
        let all : 10 - a % 10 + (words + (b % 10 + 1)) ≡ b + 1 - a = omega arith in
        let next : a + (10 - a % 10) ≡ 10 * (a / 10 + 1) = omega arith in
        let s = up_second is_bad_cell cells a (10 - a % 10) (words + (b % 10 + 1)) (head None is) in
        rw (all, next) at s

    in_tail : None ≡ first_up is_bad_cell cells (10 * (a / 10 + 1)) words → (r : Option ℕ) → r ≡ first_up is_bad_cell cells (10 * (b / 10) + 0) (b % 10 + 1 - 0) → r ≡ first_up is_bad_cell cells (10 * (a / 10 + 1)) (words + (b % 10 + 1))
    in_tail none r is =
        let at : 10 * (b / 10) + 0 ≡ 10 * (a / 10 + 1) + words = omega arith in
        let n : b % 10 + 1 - 0 ≡ b % 10 + 1 = omega arith in
        (rw (at, n) at is) ∙ up_second is_bad_cell cells (10 * (a / 10 + 1)) words (b % 10 + 1) none

pub returns-then-first-last : goal.returns-then-first-last
returns-then-first-last g c = same c.args.self.now c.args.a c.args.b c.requires.order c.if-first-last.true _ c.up_in.ensures

pub returns-in-Some : goal.returns-in-Some
returns-in-Some g c = in_head c.args.self.now c.args.a c.args.b c.requires.order (omega arith) c.in-Some.at c.in-Some.ensures

pub returns-in-Some-up_words : goal.returns-in-Some-up_words
returns-in-Some-up_words g c =
    up_first is_bad_cell c.args.self.now (10 * (c.args.a / 10 + 1)) (words c.args.self.now c.args.a c.args.b c.requires.order (omega arith)) (c.args.b % 10 + 1) c.in-Some-up_words.at c.in-Some-up_words.ensures
    ∙ past_head c.args.self.now c.args.a c.args.b c.requires.order (omega arith) (sym c.in_default.is ∙ c.up_in-2.ensures)

pub returns : goal.returns
returns g c =
    in_tail c.args.self.now c.args.a c.args.b c.requires.order (omega arith) (sym c.in_default-up_words.is ∙ c.up_words.ensures) _ c.up_in-3.ensures
    ∙ past_head c.args.self.now c.args.a c.args.b c.requires.order (omega arith) (sym c.in_default.is ∙ c.up_in-2.ensures)
