-- The sectors of an image, written to the pack.
use Rattle.std.specs.Prelude.{ℕ, zero, suc, ◌+◌, List, [], ◌∷◌, take, if◌then◌else◌, option_map}
use Rattle.outside_io.specs.World.{World, Seen, Rose, Goes, with_sector}
use Rattle.outside_io.specs.declared.whole.Sent.{Sent}
use Rattle.outside_io.specs.declared.whole.Sent.TheVariants as sent
use Rattle.disk_1311.specs.Disk.{host_sector}
use Rattle.sps_pass_two.specs.Image.{DigitRun}
use Rattle.disk_loader.specs.declared.hundreds.TheConstants.{HUNDREDS}
use Rattle.disk_loader.specs.Hundreds.{is_needed, hundred_text}

-- a sector that is written, by its number in the pack
pub record SectorText : Type 0 where
  pub sector : ℕ
  pub text : List ℕ

-- the sector of a hundred, on drive 1
abbrev pub hundred_sector : List DigitRun → ℕ → SectorText
hundred_sector image h = record { sector = host_sector 1 h; text = hundred_text image h }

-- the sectors of the needed hundreds among n hundreds from h on, rising
unfoldable pub needed_sectors : List DigitRun → ℕ → ℕ → List SectorText
needed_sectors image h zero = []
needed_sectors image h (suc n) =
    if is_needed image h then hundred_sector image h ∷ needed_sectors image (h + 1) n else needed_sectors image (h + 1) n

-- the sectors of the needed hundreds of the largest core
abbrev pub image_sectors : List DigitRun → List SectorText
image_sectors image = needed_sectors image 0 HUNDREDS

-- the pack's sectors once these were written, one after another; all others are as before
abbrev pub sectors_after : List SectorText → (ℕ → List ℕ) → ℕ → List ℕ
sectors_after [] sectors = sectors
sectors_after (w ∷ ws) sectors = sectors_after ws (with_sector w.sector w.text sectors)

-- the world after these writes: only its sectors change
abbrev pub world_after : List SectorText → World → World
world_after ws w = record w { sectors = option_map (sectors_after ws) w.sectors }

-- the host failed after it wrote a first part of the sectors
pub record WritesFirst (ws : List SectorText) (old new : Seen) : Type 0 where
  pub done : ℕ
  pub goes : Goes old new (world_after (take done ws) old.world)
  pub rose : Rose old.faults new.faults

-- the effect of writing an image's sectors, by the answer
abbrev pub WritesSectors : List SectorText → Seen → Seen → Sent → Type 0
WritesSectors ws old new sent.Done = Goes old new (world_after ws old.world)
WritesSectors ws old new sent.Failed = WritesFirst ws old new
