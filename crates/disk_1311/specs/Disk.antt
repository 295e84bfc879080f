-- The rows of the disk: seek, and the transfer of sectors one by one.
-- Source: 1311 manual, seek, and read, check and write disk; all checks and their order are this project's own.
use Rattle.std.specs.Prelude.{ℕ, zero, suc, Bool, true, false, ◌+◌, ◌-◌, ◌*◌, ◌/◌, ◌==◌, ◌&&◌, nat_lt, List, length, slice_index_or, if◌then◌else◌, Ok, Err, ⊤}
use Rattle.digit_core.specs.declared.Digit.{Digit}
use Rattle.digit_core.specs.declared.TheConstants.{GROUP_MARK}
use Rattle.outside_io.specs.World.{pack_sector_text}
use Rattle.addr_indirect.specs.declared.Stop.{Stop}
use Rattle.addr_indirect.specs.declared.Stop.TheVariants.{Address}
use Rattle.addr_indirect.specs.Reading.{read_at}
use Rattle.traces.specs.Trace.{Trace, ends, does, ◌>>=◌, lift}
use Rattle.disk_1311.specs.declared.control.Control.{Control}
use Rattle.disk_1311.specs.Control.{control_field}
use Rattle.disk_1311.specs.Sector.{DiskEffect, Alters, SetsArm, alarm_first, then_with, read_sector, compare_sector, write_sector}
use Rattle.disk_1311.specs.declared.DiskKind.{DiskKind}
use Rattle.disk_1311.specs.declared.DiskKind.TheVariants.{Rdgn, Cdgn, Rdn, Cdn, Wdgn, Wdn}
use Rattle.disk_1311.specs.declared.control.TheConstants.{DRIVE_SECTORS}
use Rattle.indicators.specs.Codes.{CYLINDER_OVERFLOW, DISK_ADDRESS, DISK_LENGTH}

-- the cylinder of a sector; a cylinder has 200 sectors
abbrev pub cylinder_of : ℕ → ℕ
cylinder_of sector = sector / 200

-- the host's sector of a drive's sector
abbrev pub host_sector : ℕ → ℕ → ℕ
host_sector drive sector = DRIVE_SECTORS * (drive - 1) + sector

-- the arm of a drive
abbrev pub arm_of : List ℕ → ℕ → ℕ
arm_of arms drive = slice_index_or arms (drive - 1) 0

-- SK: the arm moves to the sector's cylinder, or 36 goes on if the sector doesn't exist
unfoldable pub seek : List ℕ → ℕ → List ℕ → Trace DiskEffect ⊤ Stop
seek core p arms = do
  c ← control_field core p (length arms)
  if nat_lt c.sector DRIVE_SECTORS
      then does (SetsArm c.drive (cylinder_of c.sector)) (ends (Ok tt))
      else alarm_first DISK_ADDRESS (ends (Ok tt))

-- the forms that look at a group mark
abbrev pub is_group : DiskKind → Bool
is_group Rdgn = true
is_group Cdgn = true
is_group Wdgn = true
is_group kind = false

-- a digit that is no group mark turns 37 on
abbrev pub mark_check : Digit → Trace DiskEffect ⊤ Stop
mark_check d = if d.value == GROUP_MARK then ends (Ok tt) else alarm_first DISK_LENGTH (ends (Ok tt))

-- 37 goes on if there is no group mark at a, or if a is past the end of core
abbrev pub mark_at : List ℕ → ℕ → Trace DiskEffect ⊤ Stop
mark_at core a =
    if nat_lt a (length core) then (read_at core a >>= mark_check) else alarm_first DISK_LENGTH (ends (Ok tt))

-- the G forms look for a group mark at a, just past the sectors moved
abbrev pub group_check : DiskKind → List ℕ → ℕ → Trace DiskEffect ⊤ Stop
group_check kind core a = if is_group kind then mark_at core a else ends (Ok tt)

-- one sector with these bytes moves: R stores them at a, C compares them with the cells at a, W writes these cells
abbrev pub move_sector : DiskKind → List ℕ → ℕ → ℕ → List ℕ → Trace DiskEffect ⊤ Stop
move_sector Rdgn core a sector bytes = lift Alters (read_sector a bytes)
move_sector Rdn core a sector bytes = lift Alters (read_sector a bytes)
move_sector Cdgn core a sector bytes = lift Alters (compare_sector core a bytes)
move_sector Cdn core a sector bytes = lift Alters (compare_sector core a bytes)
move_sector Wdgn core a sector bytes = write_sector core a sector
move_sector Wdn core a sector bytes = write_sector core a sector

-- the part of a transfer that doesn't change; `sectors` gives the bytes that the pack has of each sector
pub record Transfer : Type 0 where
  pub kind : DiskKind
  pub drive : ℕ
  pub cylinder : ℕ
  pub sectors : ℕ → List ℕ

-- t uses the cells up to a; if core has no position a, it stops
abbrev pub up_to : ℕ → List ℕ → Trace DiskEffect ⊤ Stop → Trace DiskEffect ⊤ Stop
up_to a core t = if nat_lt a (length core) then t else ends (Err Address)

-- one sector of a transfer moves, at a
abbrev pub move_one : Transfer → List ℕ → ℕ → ℕ → Trace DiskEffect ⊤ Stop
move_one t core a sector =
    move_sector t.kind core a (host_sector t.drive sector) (pack_sector_text t.sectors (host_sector t.drive sector))

-- n sectors move, one after another; at another cylinder 38 goes on, and the moving ends
unfoldable pub move_sectors : Transfer → List ℕ → ℕ → ℕ → ℕ → Trace DiskEffect ⊤ Stop
move_sectors t core a sector zero = group_check t.kind core a
move_sectors t core a sector (suc left) =
    if cylinder_of sector == t.cylinder
    then up_to (a + 99) core
    (then_with core (move_one t core a sector)
    (λ core2 _. move_sectors t core2 (a + 100) (sector + 1) left))
    else alarm_first CYLINDER_OVERFLOW (group_check t.kind core a)

-- the sector exists, and the drive's arm is at its cylinder
abbrev pub is_there : Control → List ℕ → Bool
is_there c arms = nat_lt c.sector DRIVE_SECTORS && (cylinder_of c.sector == arm_of arms c.drive)

-- the transfer that a control field asks for, over the sectors
abbrev pub transfer_of : DiskKind → Control → (ℕ → List ℕ) → Transfer
transfer_of kind c sectors = record { kind = kind; drive = c.drive; cylinder = cylinder_of c.sector; sectors = sectors }

-- the moving of a control field's sectors, over the sectors
abbrev pub transfer_trace : DiskKind → Control → List ℕ → (ℕ → List ℕ) → Trace DiskEffect ⊤ Stop
transfer_trace kind c core sectors = move_sectors (transfer_of kind c sectors) core c.address c.sector c.count

-- RDGN, CDGN, RDN, CDN, WDGN, WDN: nothing moves, and 36 goes on, if the sector doesn't exist or the arm isn't at its cylinder
unfoldable pub transfer : DiskKind → List ℕ → ℕ → List ℕ → (ℕ → List ℕ) → Trace DiskEffect ⊤ Stop
transfer kind core p arms sectors = do
  c ← control_field core p (length arms)
  if is_there c arms
      then up_to c.address core (transfer_trace kind c core sectors)
      else alarm_first DISK_ADDRESS (ends (Ok tt))
