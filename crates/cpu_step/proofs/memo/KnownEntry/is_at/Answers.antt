-- The entry's words stand in core, under its masks.
use Rattle.std.proofs.Common.{ℕ, ◌≡◌, true, nat_eq, sym, ◌∙◌, arith}
use Rattle.std.proofs.lemmas.Bool.Decides.{nat_tests}
use Rattle.cpu_step.proofs.MemoEntries.{comes_of}
use Rattle.cpu_step.proofs.memo.KnownEntry.is_at.Goals as goal
use Rattle.cpu_step.proofs.memo.KnownEntry.is_at.Goals.{then-self-ir, else-self-ir}

same : (x y : ℕ) → nat_eq x y ≡ true → x ≡ y
same x y test = grind (arith, nat_tests)

pub returns-then-word-self : goal.returns-then-word-self
returns-then-word-self g c =
    λ h.
    let e = c.args.self.now in
    elim c.if-self-ir.branch [
      | then-self-ir b ↦
          let low = same _ _ (sym b.value-is ∙ c.if-word-self.true) in
          rw (← b.if-self-ir.true)
          (comes_of g.row.M e.ir e.word e.low_mask e.high_mask e.place_is c.args.core.now c.size_law.ensures.length b.word.result c.word-then-word-self.result b.word.ensures.word b.word.ensures.cells c.word-then-word-self.ensures.cells e.low e.high low (same _ _ h) e.known e.known_is)
      | else-self-ir b ↦ absurd (omega (arith, b.if-self-ir.false, same _ _ (sym b.value-is ∙ c.if-word-self.true)))
    ]
