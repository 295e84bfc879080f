-- The word is the one with these cells replaced.
use Rattle.std.proofs.Common.{arith}
use Rattle.digit_core.proofs.Parts.{code_is, part_small}
use Rattle.digit_core.proofs.words.with_part.Goals as goal

pub returns-clause-is : goal.returns-clause-is
returns-clause-is c = code_is c.args.w c.args.j c.args.n c.args.v c.requires.word c.requires.within

pub returns-clause-word : goal.returns-clause-word
returns-clause-word c =
    omega (arith, code_is c.args.w c.args.j c.args.n c.args.v c.requires.word c.requires.within, part_small c.args.w c.args.j c.args.n c.args.v c.requires.word c.requires.within)
