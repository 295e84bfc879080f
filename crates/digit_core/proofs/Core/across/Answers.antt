-- Ten cells from two words.
use Rattle.std.proofs.Common.{◌≡◌, ◌+◌, ◌^◌, ◌<◌, length, get_or, arith}
use Rattle.std.proofs.lemmas.List.Elements.{All-get_or}
use Rattle.std.proofs.lemmas.List.{get_or_read}
use Rattle.digit_core.proofs.Shifting.{joined_reads}
use Rattle.digit_core.proofs.Core.across.Goals as goal

pub ten_across-requires-clause-word : goal.ten_across-requires-clause-word
ten_across-requires-clause-word g c =
    let ws = c.self.inside.words.items in
    let l = c.self.invariant.is_length in
    let inside : c.args.s < length ws = omega arith in
    let r : c.index.result.now ≡ get_or ws c.args.s 0 = get_or_read ws c.args.s _ inside c.index.ensures 0 in
    rw r (All-get_or (λ w. w < 2 ^ 60) ws c.args.s 0 inside c.self.invariant.sixty_bits)

pub returns-clause-cells : goal.returns-clause-cells
returns-clause-cells g c =
    λ i h.
    let ws = c.self.inside.words.items in
    let l = c.self.invariant.is_length in
    let inside : c.args.s < length ws = omega arith in
    let r : c.index.result.now ≡ get_or ws c.args.s 0 = get_or_read ws c.args.s _ inside c.index.ensures 0 in
    let s : c.index-2.result.now ≡ get_or ws (c.args.s + 1) 0 = get_or_read ws (c.args.s + 1) _ (omega arith) c.index-2.ensures 0 in
    let below : get_or ws c.args.s 0 < 2 ^ 60 = All-get_or (λ w. w < 2 ^ 60) ws c.args.s 0 inside c.self.invariant.sixty_bits in
    rw (← c.self.view_is) (joined_reads ws c.args.s c.args.j c.ten_across.result c.requires.place (omega arith) below (rw (r, s) at c.ten_across.ensures.is) i h)
