-- From one word or two.
use Rattle.std.proofs.Common.{◌≡◌, ◌+◌, ◌/◌, ◌%◌, ◌^◌, ◌<◌, length, get_or, ◌∙◌, ap, arith}
use Rattle.std.proofs.lemmas.List.{get_or_read}
use Rattle.std.proofs.lemmas.List.Elements.{All-get_or}
use Rattle.digit_core.specs.Packed.{six}
use Rattle.digit_core.proofs.Tens.{ten_is}
use Rattle.digit_core.proofs.Packing.{few_one, few_two}
use Rattle.digit_core.proofs.Core.few.Goals as goal

pub returns-then-a-n-le10 : goal.returns-then-a-n-le10
returns-then-a-n-le10 g c =
    λ j h.
    let ws = c.self.inside.words.items in
    let l = c.self.invariant.is_length in
    let r : c.index-low.result.now ≡ get_or ws (c.args.a / 10) 0 = get_or_read ws (c.args.a / 10) _ (omega arith) c.index-low.ensures 0 in
    rw (r, ← c.self.view_is) (few_one ws c.args.a c.args.n (omega arith) c.if-a-n-le10.true j h)

pub returns : goal.returns
returns g c =
    λ j h.
    let ws = c.self.inside.words.items in
    let l = c.self.invariant.is_length in
    let t : c.args.a % 10 < 10 = omega arith in
    let inside : c.args.a / 10 < length ws = omega arith in
    let r : c.index-low.result.now ≡ get_or ws (c.args.a / 10) 0 = get_or_read ws (c.args.a / 10) _ inside c.index-low.ensures 0 in
    let s : c.index-high.result.now ≡ get_or ws (c.args.a / 10 + 1) 0 = get_or_read ws (c.args.a / 10 + 1) _ (omega arith) c.index-high.ensures 0 in
    let below : get_or ws (c.args.a / 10) 0 < 2 ^ 60 = All-get_or (λ w. w < 2 ^ 60) ws (c.args.a / 10) 0 inside c.self.invariant.sixty_bits in
    rw (r, s, ← c.self.view_is)
    (ap (λ x. six x j) (ten_is (get_or ws (c.args.a / 10) 0) (get_or ws (c.args.a / 10 + 1) 0) (c.args.a % 10) below t) ∙ few_two ws c.args.a c.args.n c.requires.few (omega arith) below j h)
