-- What is read has not been stored over, and so one word more is copied.
use Rattle.std.proofs.Common.{◌≡◌, ◌+◌, ◌*◌, ◌^◌, ◌<◌, length, get_or, ◌∙◌, arith, refl, length-set}
use Rattle.std.proofs.lemmas.List.Elements.{All-get_or, All-set}
use Rattle.digit_core.specs.Packed.{cells_of}
use Rattle.digit_core.proofs.Moving.{copied_none}
use Rattle.digit_core.proofs.Shifting.{joined_reads, store_up}
use Rattle.digit_core.proofs.copying.across_up.Goals as goal

pub ten_across-requires-clause-word : goal.ten_across-requires-clause-word
ten_across-requires-clause-word c =
    let inv = c.loop-t.invariant in
    let long : length c.loop-t.words ≡ length c.args.words.now = inv.long in
    All-get_or (λ w. w < 2 ^ 60) c.loop-t.words (c.args.s + c.loop-t.t) 0 (omega arith) inv.sixty_bits

pub loop-t-init : goal.loop-t-init
loop-t-init c = record {
  all = omega arith;
  long = refl;
  sixty_bits = c.requires.sixty_bits;
  is = copied_none (cells_of c.args.words.now) (10 * c.args.i) (10 * c.args.s + c.args.j) (10 * 0) (omega arith);
}

pub loop-t-preserved : goal.loop-t-preserved
loop-t-preserved c =
    let inv = c.loop-t.invariant in
    let long : length c.loop-t.words ≡ length c.args.words.now = inv.long in
    let below : get_or c.loop-t.words (c.args.s + c.loop-t.t) 0 < 2 ^ 60 = All-get_or (λ w. w < 2 ^ 60) c.loop-t.words (c.args.s + c.loop-t.t) 0 (omega arith) inv.sixty_bits in
    let at : 10 * (c.args.s + c.loop-t.t) + c.args.j ≡ 10 * c.args.s + c.args.j + 10 * c.loop-t.t = omega arith in
    let read = rw at at (joined_reads c.loop-t.words (c.args.s + c.loop-t.t) c.args.j c.ten_across.result c.requires.place (omega arith) below c.ten_across.ensures.is) in
    record {
      all = omega arith;
      long = length-set c.loop-t.words (c.args.i + c.loop-t.t) c.ten_across.result ∙ inv.long;
      sixty_bits = All-set (λ w. w < 2 ^ 60) c.loop-t.words (c.args.i + c.loop-t.t) c.ten_across.result c.ten_across.ensures.word inv.sixty_bits;
      is = store_up c.loop-t.words c.args.words.now c.args.i (10 * c.args.s + c.args.j) c.loop-t.t c.ten_across.result inv.long (omega arith) (omega arith) inv.is read;
    }
