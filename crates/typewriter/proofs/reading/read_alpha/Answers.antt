use Rattle.std.proofs.Common.{ℕ, ◌∙◌, ap}
use Rattle.std.specs.Prelude.{◌-◌, ◌/◌}
use Rattle.digit_core.specs.Size.{size}
use Rattle.card_code.specs.Reader.{unit_of, lines_handed_out}
use Rattle.card_code.specs.LineText.{text_of_line}
use Rattle.card_code.specs.TextIn.{store_pairs}
use Rattle.card_code.specs.declared.tally.ReadAs.TheVariants.{Pair}
use Rattle.typewriter.proofs.KeysRead.{pairs_good, line_reads, line_said, goes_on}
use Rattle.typewriter.proofs.reading.read_alpha.Goals as goal

pub stored_ending-requires-clause-good : goal.stored_ending-requires-clause-good
stored_ending-requires-clause-good g c =
    pairs_good (unit_of c.next_line.new.keys) c.args.core.now c.store_pairs-stored.new.core c.args.panel.now c.store_pairs-stored.new.panel (size g.row.M) (c.args.p - 1) (lines_handed_out c.next_line.new.keys) ((c.size.result - (c.args.p - 1)) / 2) c.as_bytes-text.result.now c.store_pairs-stored.result c.store_pairs-stored.ensures

pub returns-in-Line-clause-reads : goal.returns-in-Line-clause-reads
returns-in-Line-clause-reads g c =
    line_reads (store_pairs (size g.row.M) (c.args.p - 1)) c.args.core.now c.args.panel.now _ c.store_pairs-stored.new.core c.store_pairs-stored.new.panel c.store_pairs-stored.result c.args.keys.now c.next_line.new.keys c.stored_ending.new.keys _ _ _ c.in-Line.ensures.next c.stored_ending.ensures.tallied
    c.as_bytes-text.result.now c.as_bytes-text.ensures.is c.store_pairs-stored.ensures c.stored_ending.result c.stored_ending.ensures.answer

pub returns-in-Line-clause-as_said : goal.returns-in-Line-clause-as_said
returns-in-Line-clause-as_said g c =
    line_said Pair ((size g.row.M - (c.args.p - 1)) / 2) c.args.keys.now c.next_line.new.keys c.stored_ending.new.keys _ _ (text_of_line c.in-Line.line) c.as_bytes-text.result.now ((c.size.result - (c.args.p - 1)) / 2) c.store_pairs-stored.result c.stored_ending.result c.in-Line.ensures.reading
    c.as_bytes-text.ensures.is (ap (λ (n : ℕ). (n - (c.args.p - 1)) / 2) c.size.ensures.size) c.stored_ending.ensures.tallied c.stored_ending.ensures.answer

pub returns-in-Line-clause-reads_on : goal.returns-in-Line-clause-reads_on
returns-in-Line-clause-reads_on g c = goes_on Pair ((size g.row.M - (c.args.p - 1)) / 2) c.args.keys.now c.stored_ending.new.keys _ _ c.stored_ending.result (returns-in-Line-clause-as_said g c)

pub returns-in-Line-clause-unit : goal.returns-in-Line-clause-unit
returns-in-Line-clause-unit g c = ap unit_of c.stored_ending.ensures.tallied ∙ c.next_line.ensures.unit
