use Rattle.std.proofs.Common.{rules, refl}
use Rattle.typewriter.proofs.LinesRead.{begins}
use Rattle.cpu_step.proofs.machine.Machine.power_on.Goals as goal

pub returns : goal.returns
returns g c = record {
  core = search rules;
  regs = refl;
  panel = c.new-2.ensures;
  arms = refl;
  hopper_in = refl;
  keys_in = c.new-3.ensures.entries;
  begins = begins c.new-3.result c.new-3.ensures.unit c.new-3.ensures.turn c.new-3.ensures.number c.new-3.ensures.tally;
  halted = refl;
}
