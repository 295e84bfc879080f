-- What one step leaves, for the two instructions of the disk.
use Rattle.std.proofs.Common.{ℕ, ◌≡◌, ◌+◌, ◌-◌, ◌*◌, ◌<◌, ◌≤◌, ◌==◌, ◌&&◌, nat_lt, true, false, List, length, slice_set, Ok, refl, arith}
use Rattle.std.proofs.lemmas.Bool.Decides.{nat_tests}
use Rattle.std.specs.Prelude.{Some, None}
use Rattle.digit_core.specs.declared.Digit.{Digit}
use Rattle.addr_indirect.specs.declared.Instr.{Instr}
use Rattle.addr_indirect.specs.Operand.{operand}
use Rattle.addr_indirect.specs.Fetch.{fetch, opcode, part}
use Rattle.branch_ops.specs.Registers.{on_at}
use Rattle.disk_1311.specs.Control.{control_field}
use Rattle.disk_1311.specs.Disk.{arm_of, cylinder_of, seek, transfer}
use Rattle.cpu_step.specs.State.{State}
use Rattle.cpu_step.specs.Rows.{row_of_code, is_device}
use Rattle.cpu_step.specs.Act.{action, on_disk}
use Rattle.cpu_step.specs.Step.{check_stop, instruction, step}
use Rattle.card_steps.proofs.CardDigits.{laid}
use Rattle.card_steps.proofs.CardsTaken.{Row}
use Rattle.disk_loader.proofs.Sectors.{after_stored, stored_outside, AllTexts, joined, sectors_read}

module _ (s : State) (i : Instr) (quiet : check_stop s.panel ≡ None) (fetched : fetch s.core s.regs.ir ≡ Ok i)
    (p : ℕ) (first : operand s.core (s.regs.ir + 6) ≡ Ok p) (console : is_device i 1 ≡ false) (drive sector count a : ℕ)
    (field : control_field s.core p (length s.arms) ≡ Ok (record { drive = drive; sector = sector; count = count; address = a })) (low : sector < 20000) where
  in_range : nat_lt sector 20000 ≡ true
  in_range = grind (arith, nat_tests)

  -- the arm moves to the sector's cylinder
  pub row_SK : opcode i ≡ Some 34 → (is_device i 7 && part i 11 == 1) ≡ true → Row s (record s { arms = slice_set s.arms (drive - 1) (cylinder_of sector); regs = on_at s.regs (s.regs.ir + 12) })
  unfolding step instruction row_of_code action on_disk seek
  row_SK o disk = record {
    steps = rw (fetched, o, console, disk, first, field, in_range, quiet) refl;
    takes = rw (fetched, o, console, disk, first, field, in_range) refl;
  }

  module _ (room : a + 100 * count ≤ length s.core) (some : a < length s.core) (there : cylinder_of sector ≡ arm_of s.arms drive)
      (digits : ℕ → List Digit) (texts : AllTexts drive (cylinder_of sector) s.sectors digits sector count) where
    inside : nat_lt a (length s.core) ≡ true
    inside = grind (arith, nat_tests)

    at_arm : (cylinder_of sector == arm_of s.arms drive) ≡ true
    at_arm = grind (arith, nat_tests)

    -- the sectors' digits are stored
    pub row_RDN : opcode i ≡ Some 36 → is_device i 5 ≡ false → is_device i 7 ≡ true → part i 11 ≡ 2 →
        Row s (record s { core = laid s.core a (joined digits sector count); regs = on_at s.regs (s.regs.ir + 12) })
    unfolding step instruction row_of_code action on_disk transfer
    row_RDN o cards disk kind =
        let read = sectors_read drive (cylinder_of sector) s.sectors digits count s.core a sector room texts in
        record {
          steps = rw (fetched, o, console, cards, disk, kind, first, field, in_range, at_arm, inside, read, after_stored (joined digits sector count) a s, quiet) refl;
          takes = rw (fetched, o, console, cards, disk, kind, first, field, in_range, at_arm, inside, read, stored_outside (joined digits sector count) a) refl;
        }
