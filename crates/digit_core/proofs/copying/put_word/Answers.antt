-- All cells of one word are replaced.
use Rattle.std.proofs.Common.{◌%◌, ◌^◌, ◌<◌, arith}
use Rattle.std.proofs.lemmas.List.Elements.{All-set}
use Rattle.digit_core.proofs.Writing.{word_written}
use Rattle.digit_core.proofs.copying.put_word.Goals as goal

pub returns-clause-cells : goal.returns-clause-cells
returns-clause-cells c = word_written c.args.words.now c.args.i c.args.w c.requires.room

pub returns-clause-sixty_bits : goal.returns-clause-sixty_bits
returns-clause-sixty_bits c = All-set (λ w. w < 2 ^ 60) c.args.words.now c.args.i (c.args.w % 2 ^ 60) (omega arith) c.requires.sixty_bits
