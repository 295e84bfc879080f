-- The entry's words stand in core, under its masks.
use Rattle.std.proofs.Common.{ℕ, ◌≡◌, ◌+◌, true, nat_eq, sym, ◌∙◌, arith}
use Rattle.std.proofs.lemmas.Bool.Decides.{nat_tests}
use Rattle.cpu_step.proofs.FurtherCells.{named_of}
use Rattle.cpu_step.proofs.further.FurtherField.is_at.Goals as goal
use Rattle.cpu_step.proofs.further.FurtherField.is_at.Goals.{then-self-u, else-self-u}

same : (x y : ℕ) → nat_eq x y ≡ true → x ≡ y
same x y test = grind (arith, nat_tests)

pub returns-then-word-self : goal.returns-then-word-self
returns-then-word-self g c =
    λ h.
    let e = c.args.self.now in
    elim c.if-self-u.branch [
      | then-self-u b ↦
          let low = same _ _ (sym b.value-is ∙ c.if-word-self.true) in
          rw (← b.if-self-u.true)
          (e.field_is (rw b.if-self-u.true c.requires) c.args.core.now c.size_law.ensures.length
          (named_of c.args.core.now e.word b.word.result e.low_mask e.low b.word.ensures.cells low)
          (named_of c.args.core.now (e.word + 1) c.word-then-word-self.result e.high_mask e.high c.word-then-word-self.ensures.cells (same _ _ h)))
      | else-self-u b ↦ absurd (omega (arith, b.if-self-u.false, same _ _ (sym b.value-is ∙ c.if-word-self.true)))
    ]
