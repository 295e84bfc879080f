-- One word more is copied.
use Rattle.std.proofs.Common.{◌≡◌, ◌*◌, ◌^◌, ◌<◌, length, get_or, ◌∙◌, sym, arith, refl, length-set}
use Rattle.std.proofs.lemmas.List.Elements.{All-get_or, All-set}
use Rattle.digit_core.specs.Packed.{cells_of}
use Rattle.digit_core.proofs.TakenCells.{mixed_none, mixed_word}
use Rattle.digit_core.proofs.mixing.copy_between.Goals as goal

pub loop-k-init : goal.loop-k-init
loop-k-init c = record {
  some = omega arith;
  all = c.requires.order;
  long = refl;
  sixty_bits = c.requires.sixty_bits;
  is = mixed_none (cells_of c.args.words.now) (cells_of c.args.from.now) (10 * c.args.i);
}

pub loop-k-preserved : goal.loop-k-preserved
loop-k-preserved c =
    let inv = c.loop-k.invariant in
    let long : length c.loop-k.words ≡ length c.args.words.now = inv.long in
    let below : get_or c.args.from.now c.loop-k.k 0 < 2 ^ 60 = All-get_or (λ w. w < 2 ^ 60) c.args.from.now c.loop-k.k 0 (omega arith) c.requires.from_sixty_bits in
    record {
      some = omega arith;
      all = omega arith;
      long = length-set c.loop-k.words c.loop-k.k (get_or c.args.from.now c.loop-k.k 0) ∙ inv.long;
      sixty_bits = All-set (λ w. w < 2 ^ 60) c.loop-k.words c.loop-k.k (get_or c.args.from.now c.loop-k.k 0) below inv.sixty_bits;
      is = mixed_word c.loop-k.words c.args.from.now c.args.words.now c.args.i c.loop-k.k inv.some (omega arith) (omega arith) (sym inv.long) inv.is;
    }
