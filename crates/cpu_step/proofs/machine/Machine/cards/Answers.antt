use Rattle.std.proofs.Common.{refl}
use Rattle.card_unit.specs.Punch.{punch_numeric, punch_alphameric, punch_dump}
use Rattle.card_unit.specs.Reader as reader
use Rattle.cpu_step.specs.Act.{on_cards}
use Rattle.cpu_step.proofs.WrittenTexts.{punch_acts, pair_punch_acts}
use Rattle.cpu_step.proofs.CardRows.{card_acts}
use Rattle.cpu_step.proofs.machine.Machine.cards.Goals as goal

pub returns-in-Dump : goal.returns-in-Dump
unfolding on_cards
returns-in-Dump g c = rw (c.in-Dump.is, c.card_outcome.ensures) (punch_acts g.row.M c.args.self.now _ _ _ refl refl refl refl refl refl (λ core. punch_dump core c.args.p) c.args.regs c.dump.result c.requires.regs refl c.dump.ensures)

pub returns-in-PunchNumeric : goal.returns-in-PunchNumeric
unfolding on_cards
returns-in-PunchNumeric g c = rw (c.in-PunchNumeric.is, c.card_outcome-in-PunchNumeric.ensures) (punch_acts g.row.M c.args.self.now _ _ _ refl refl refl refl refl refl (λ core. punch_numeric core c.args.p) c.args.regs c.punch_num.result c.requires.regs refl c.punch_num.ensures)

pub returns-in-PunchAlpha : goal.returns-in-PunchAlpha
unfolding on_cards
returns-in-PunchAlpha g c = rw (c.in-PunchAlpha.is, c.card_outcome-in-PunchAlpha.ensures) (pair_punch_acts g.row.M c.args.self.now _ _ _ refl refl refl refl refl refl (λ core. punch_alphameric core c.args.p) c.args.regs c.punch_alpha.result c.requires.regs c.punch_alpha.ensures)

pub returns-in-ReadNumeric : goal.returns-in-ReadNumeric
unfolding on_cards
returns-in-ReadNumeric g c = rw (c.in-ReadNumeric.is, c.card_outcome-in-ReadNumeric.ensures) (card_acts g.row.M c.args.self.now _ _ _ (λ n. reader.read_card_numeric n c.args.p) refl refl refl refl c.read_num.ensures.own c.read_num.ensures.reads_on c.args.regs c.read_num.result c.requires.regs c.size_law.ensures.length c.read_num.ensures.reads)

pub returns-in-ReadAlpha : goal.returns-in-ReadAlpha
unfolding on_cards
returns-in-ReadAlpha g c = rw (c.in-ReadAlpha.is, c.card_outcome-in-ReadAlpha.ensures) (card_acts g.row.M c.args.self.now _ _ _ (λ n. reader.read_card_alphameric n c.args.p) refl refl refl refl c.read_alpha.ensures.own c.read_alpha.ensures.reads_on c.args.regs c.read_alpha.result c.requires.regs c.size_law.ensures.length c.read_alpha.ensures.reads)
