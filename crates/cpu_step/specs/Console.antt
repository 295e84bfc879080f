-- What an operator sees of a machine, and what its units have read.
-- Source: CPU manual, console registers, indicators and switches; the rest is this project's own.
use Rattle.std.specs.Prelude.{ℕ, ◌+◌, nat_le, List, length, take, drop, if◌then◌else◌, Option, Some, None}
use Rattle.indicators.specs.declared.Panel.{Panel}
use Rattle.branch_ops.specs.declared.Regs.{Regs}
use Rattle.card_unit.specs.declared.hopper.Hopper.{Hopper}
use Rattle.card_unit.specs.Hopper.{cards_read, bad_cards}
use Rattle.card_code.specs.declared.lines.Lines.{Lines}
use Rattle.card_code.specs.Reader.{lines_handed_out, lines_tally}
use Rattle.cpu_step.specs.declared.console.Console.{Console}
use Rattle.cpu_step.specs.declared.machine.Machine.{Machine}
use Rattle.cpu_step.specs.declared.machine.Mode.{Mode}
use Rattle.cpu_step.specs.Checks.{part_in}
use Rattle.cpu_step.specs.State.{State}

-- the twelve cells at an address, if they all lie in core
abbrev pub cells_at : List ℕ → ℕ → Option (List ℕ)
cells_at core a = if nat_le (a + 12) (length core) then Some (take 12 (drop a core)) else None

-- the console for core, registers, panel, arms and mode, and for the cards and lines that hopper and keyboard have read
abbrev pub shown_by : List ℕ → Regs → Panel → List ℕ → Mode → Hopper → Lines → Console
shown_by core regs panel arms mode hopper keyboard = record {
  regs = regs;
  cells = cells_at core regs.ir;
  panel = panel;
  arms = arms;
  part = part_in mode core;
  cards = cards_read hopper;
  bad_cards = bad_cards hopper;
  lines = lines_handed_out keyboard;
  bad_keys = lines_tally keyboard;
}

-- the console of a machine
abbrev pub shown_on : (m : ℕ) → Machine m → Console
shown_on m machine = shown_by machine.core machine.regs machine.panel machine.arms machine.mode machine.hopper machine.keys

-- WHAT A CONSOLE SHOWS of a state whose cards and lines a hopper and a keyboard have read
abbrev pub console_of : State → Hopper → Lines → Console
console_of s hopper keyboard = shown_by s.core s.regs s.panel s.arms s.mode hopper keyboard
