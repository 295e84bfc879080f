use Rattle.std.proofs.Common.{◌≡◌, ℕ, min, length, take, ap, arith, ◌∙◌}
use Rattle.std.proofs.lemmas.List.{take_all, take_min}
use Rattle.sps_listing.proofs.refused_statement.first_bytes.Goals as goal

pub returns : goal.returns
returns c =
    let line = c.args.line.now in
    let most : c.min.result ≡ min 80 (length line) = omega (arith, c.min.ensures) in
    c.loop-byte.invariant
    ∙ take_all c.loop-byte.byte-index (take c.min.result line) c.loop-byte-test.false
    ∙ ap (λ (n : ℕ). take n line) most ∙ take_min 80 line
