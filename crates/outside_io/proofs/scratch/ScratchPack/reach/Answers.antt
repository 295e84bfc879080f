use Rattle.std.proofs.Common.{◌-◌, ◌+◌, ◌≤◌, ℕ, List, length, get_or, replicate, vec_len, ap, ◌∙◌, arith}
use Rattle.outside_io.proofs.OneElement.{filled_same}
use Rattle.outside_io.proofs.scratch.ScratchPack.reach.Goals as goal

pub returns-in_ok-resize-clause-same : goal.returns-in_ok-resize-clause-same
returns-in_ok-resize-clause-same c =
    let before = c.args.self.now.sectors in
    let blank : List ℕ = replicate 100 48 in
    let short : length before.items ≤ c.args.a + 1 = omega (arith, c.len.ensures, c.if-len-a.true) in
    λ b. ap (λ (items : List (List ℕ)). get_or items b blank) c.in_ok-resize.ensures.items ∙ filled_same (c.args.a + 1) (c.args.a + 1 - vec_len before) b blank before.items short
