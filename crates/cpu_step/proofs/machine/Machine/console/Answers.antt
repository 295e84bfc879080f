use Rattle.std.proofs.Common.{refl}
use Rattle.typewriter.specs.Keys as keyboard
use Rattle.typewriter.specs.Typing.{control, write_numeric, write_alphameric, write_dump}
use Rattle.cpu_step.specs.Act.{on_console}
use Rattle.cpu_step.proofs.WrittenTexts.{typing_acts, pair_typing_acts}
use Rattle.cpu_step.proofs.KeyRows.{keyboard_acts}
use Rattle.cpu_step.proofs.machine.Machine.console.Goals as goal

pub returns-in-Space : goal.returns-in-Space
unfolding on_console
returns-in-Space g c = rw (c.in-Space.is, c.typewriter_outcome.ensures) (typing_acts g.row.M c.args.self.now _ _ _ refl refl refl refl refl refl (λ core. control 1) c.args.regs c.control.result c.requires.regs refl c.control.ensures)

pub returns-in-Return : goal.returns-in-Return
unfolding on_console
returns-in-Return g c = rw (c.in-Return.is, c.typewriter_outcome-in-Return.ensures) (typing_acts g.row.M c.args.self.now _ _ _ refl refl refl refl refl refl (λ core. control 2) c.args.regs c.control-in-Return.result c.requires.regs refl c.control-in-Return.ensures)

pub returns-in-Tab : goal.returns-in-Tab
unfolding on_console
returns-in-Tab g c = rw (c.in-Tab.is, c.typewriter_outcome-in-Tab.ensures) (typing_acts g.row.M c.args.self.now _ _ _ refl refl refl refl refl refl (λ core. control 8) c.args.regs c.control-in-Tab.result c.requires.regs refl c.control-in-Tab.ensures)

pub returns-in-Dump : goal.returns-in-Dump
unfolding on_console
returns-in-Dump g c = rw (c.in-Dump.is, c.typewriter_outcome-in-Dump.ensures) (typing_acts g.row.M c.args.self.now _ _ _ refl refl refl refl refl refl (λ core. write_dump core c.args.p) c.args.regs c.dump.result c.requires.regs refl c.dump.ensures)

pub returns-in-WriteNumeric : goal.returns-in-WriteNumeric
unfolding on_console
returns-in-WriteNumeric g c = rw (c.in-WriteNumeric.is, c.typewriter_outcome-in-WriteNumeric.ensures) (typing_acts g.row.M c.args.self.now _ _ _ refl refl refl refl refl refl (λ core. write_numeric core c.args.p) c.args.regs c.write_num.result c.requires.regs refl c.write_num.ensures)

pub returns-in-WriteAlpha : goal.returns-in-WriteAlpha
unfolding on_console
returns-in-WriteAlpha g c = rw (c.in-WriteAlpha.is, c.typewriter_outcome-in-WriteAlpha.ensures) (pair_typing_acts g.row.M c.args.self.now _ _ _ refl refl refl refl refl refl (λ core. write_alphameric core c.args.p) c.args.regs c.write_alpha.result c.requires.regs c.write_alpha.ensures)

pub returns-in-ReadNumeric : goal.returns-in-ReadNumeric
unfolding on_console
returns-in-ReadNumeric g c = rw (c.in-ReadNumeric.is, c.typewriter_outcome-in-ReadNumeric.ensures) (keyboard_acts g.row.M c.args.self.now _ _ _ refl c.read_num.ensures.reads_on (λ n. keyboard.read_line_numeric n c.args.p) refl refl refl c.args.regs c.read_num.result c.requires.regs c.size_law.ensures.length c.read_num.ensures.reads)

pub returns-in-ReadAlpha : goal.returns-in-ReadAlpha
unfolding on_console
returns-in-ReadAlpha g c = rw (c.in-ReadAlpha.is, c.typewriter_outcome-in-ReadAlpha.ensures) (keyboard_acts g.row.M c.args.self.now _ _ _ refl c.read_alpha.ensures.reads_on (λ n. keyboard.read_line_alphameric n c.args.p) refl refl refl c.args.regs c.read_alpha.result c.requires.regs c.size_law.ensures.length c.read_alpha.ensures.reads)
