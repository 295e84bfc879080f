-- What the parts of a transfer do.
use Rattle.std.specs.Prelude.{ℕ, ◌≡◌, ◌≤◌, List, [], length, Result, Ok, Err, option_map, ⊤}
use Rattle.outside_io.specs.{Rose, pack_sector_text, Tells}
use Rattle.outside_io.specs.declared.host.TheConstants.{SECTOR_LENGTH}
use Rattle.indicators.specs.declared.Panel.{Panel}
use Rattle.addr_indirect.specs.declared.Stop.{Stop}
use Rattle.traces.specs.Trace.{Trace}
use Rattle.disk_1311.specs.Sector.{DiskEffect}
use Rattle.disk_1311.specs.DiskCalls.{DiskMoment, DoneBetween, panel_left}
use Rattle.disk_1311.specs.declared.DiskIo.{DiskIo}
use Rattle.disk_1311.specs.declared.DiskIo.TheVariants as io

-- a text that was put together, or the stop that ended it
abbrev pub text_or_stop : List ℕ → Result ⊤ Stop → Result (List ℕ) Stop
text_or_stop text (Ok u) = Ok text
text_or_stop text (Err why) = Err why

-- one sector was moved, over its text, or over any whole text if the host doesn't reveal the sectors
pub record MovedSector (t : List ℕ → Trace DiskEffect ⊤ Stop) (sector : ℕ) (old new : DiskMoment)
    (r : Result ⊤ Stop) : Type 0 where
  pub given : List ℕ
  pub whole : SECTOR_LENGTH ≤ length given
  pub told : Tells (option_map (λ sectors. pack_sector_text sectors sector) old.seen.world.sectors) given
  pub answers : (t given).answer ≡ r
  pub all : DoneBetween (t given).effects old new

-- the host failed, and nothing was done
pub record NotMoved (old new : DiskMoment) : Type 0 where
  pub nothing : DoneBetween [] old new
  pub rose : Rose old.seen.faults new.seen.faults

-- what the move of one sector does, by its answer; t gives its trace over the sector's text
abbrev pub MovesSector : (List ℕ → Trace DiskEffect ⊤ Stop) → ℕ → DiskMoment → DiskMoment → DiskIo → Type 0
MovesSector t sector old new io.Done = MovedSector t sector old new (Ok tt)
MovesSector t sector old new (io.Stop why) = MovedSector t sector old new (Err why)
MovesSector t sector old new io.Failed = NotMoved old new

-- a group mark was looked for, and only the panel changed
pub record Looked (t : Trace DiskEffect ⊤ Stop) (panel new_panel : Panel) (r : Result ⊤ Stop) : Type 0 where
  pub answers : t.answer ≡ r
  pub panel_is : new_panel ≡ panel_left panel t.effects

-- what the look does, by its answer
abbrev pub LooksForMark : Trace DiskEffect ⊤ Stop → Panel → Panel → DiskIo → Type 0
LooksForMark t panel new_panel io.Done = Looked t panel new_panel (Ok tt)
LooksForMark t panel new_panel (io.Stop why) = Looked t panel new_panel (Err why)
LooksForMark t panel new_panel io.Failed = ⊥
