-- One row more.
use Rattle.std.proofs.Common.{arith}
use Rattle.digit_core.proofs.AddRows.{rows_more, none_differs, table_of_rows, rows_of_table}
use Rattle.digit_core.proofs.Planes.{zero_is, zero_is_not}
use Rattle.digit_core.proofs.standard_tables.are_standard.Goals as goal

pub loop-x-preserved : goal.loop-x-preserved
loop-x-preserved c = record {
  yes = rows_more c.args.words.now c.loop-x.differences c.loop-x.x c.requires.sixty_bits c.requires.room c.loop-x-test.true c.loop-x.invariant.yes;
  no = λ has. none_differs c.args.words.now c.loop-x.differences c.loop-x.x has c.loop-x-test.true (c.loop-x.invariant.no has);
}

pub returns : goal.returns
returns c = record {
  yes = λ test. table_of_rows c.args.words.now c.requires.room c.requires.sixty_bits (λ x below. c.loop-x.invariant.yes (zero_is c.loop-x.differences test) x (omega (arith, below, c.loop-x-test.false)));
  no = λ test table. zero_is_not c.loop-x.differences test (c.loop-x.invariant.no (rows_of_table c.args.words.now c.requires.room c.requires.sixty_bits table));
}
