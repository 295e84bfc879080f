-- What the disk's calls do.
use Rattle.std.specs.Prelude.{ℕ, ◌≡◌, ◌-◌, List, [], ◌∷◌, take, slice_set, Result, Ok, Err, option_map, ⊤}
use Rattle.outside_io.specs.World.{World, Seen, Rose, Goes, with_sector}
use Rattle.outside_io.specs.Frame.{Tells}
use Rattle.indicators.specs.declared.Panel.{Panel}
use Rattle.indicators.specs.Panel.{set}
use Rattle.addr_indirect.specs.declared.Stop.{Stop}
use Rattle.traces.specs.Trace.{Trace}
use Rattle.traces.specs.Change.{StoresCell, Lights}
use Rattle.disk_1311.specs.Sector.{DiskEffect, Alters, SetsArm, Records, core_left}
use Rattle.disk_1311.specs.declared.DiskIo.{DiskIo}
use Rattle.disk_1311.specs.declared.DiskIo.TheVariants as io

-- the panel, the arms and the sectors of the pack after some effects: reading doesn't change the sectors
abbrev pub panel_left : Panel → List DiskEffect → Panel
panel_left panel [] = panel
panel_left panel (Alters (StoresCell s) ∷ es) = panel_left panel es
panel_left panel (Alters (Lights l) ∷ es) = panel_left (set l.code l.to panel) es
panel_left panel (SetsArm d c ∷ es) = panel_left panel es
panel_left panel (Records a bytes ∷ es) = panel_left panel es

abbrev pub arms_left : List ℕ → List DiskEffect → List ℕ
arms_left arms [] = arms
arms_left arms (Alters c ∷ es) = arms_left arms es
arms_left arms (SetsArm d c ∷ es) = arms_left (slice_set arms (d - 1) c) es
arms_left arms (Records a bytes ∷ es) = arms_left arms es

abbrev pub sectors_left : (ℕ → List ℕ) → List DiskEffect → ℕ → List ℕ
sectors_left sectors [] = sectors
sectors_left sectors (Alters c ∷ es) = sectors_left sectors es
sectors_left sectors (SetsArm d c ∷ es) = sectors_left sectors es
sectors_left sectors (Records a bytes ∷ es) = sectors_left (with_sector a bytes sectors) es

-- the world after some effects: only its sectors change
abbrev pub world_left : World → List DiskEffect → World
world_left w es = record w { sectors = option_map (λ sectors. sectors_left sectors es) w.sectors }

-- a seek was made: its effects lead to the new panel and arms
pub record MadeSeek (t : Trace DiskEffect ⊤ Stop) (panel : Panel) (arms : List ℕ) (new_panel : Panel)
    (new_arms : List ℕ) (r : Result ⊤ Stop) : Type 0 where
  pub answers : t.answer ≡ r
  pub panel_is : new_panel ≡ panel_left panel t.effects
  pub arms_are : new_arms ≡ arms_left arms t.effects

-- what `seek` does, by its answer
abbrev pub Seeks : Trace DiskEffect ⊤ Stop → Panel → List ℕ → Panel → List ℕ → DiskIo → Type 0
Seeks t panel arms new_panel new_arms io.Done = MadeSeek t panel arms new_panel new_arms (Ok tt)
Seeks t panel arms new_panel new_arms (io.Stop why) = MadeSeek t panel arms new_panel new_arms (Err why)
Seeks t panel arms new_panel new_arms io.Failed = ⊥

-- these effects were done
pub record Done (es : List DiskEffect) (core : List ℕ) (panel : Panel) (before : Seen) (new : List ℕ)
    (new_panel : Panel) (after : Seen) : Type 0 where
  pub core_is : new ≡ core_left core es
  pub panel_is : new_panel ≡ panel_left panel es
  pub goes : Goes before after (world_left before.world es)

-- core, the panel and what is seen outside: as a transfer finds them, or leaves them
pub record DiskMoment : Type 0 where
  pub core : List ℕ
  pub panel : Panel
  pub seen : Seen

abbrev pub disk_moment : List ℕ → Panel → Seen → DiskMoment
disk_moment core panel seen = record { core = core; panel = panel; seen = seen }

-- these effects led from one moment to another
abbrev pub DoneBetween : List DiskEffect → DiskMoment → DiskMoment → Type 0
DoneBetween es old new = Done es old.core old.panel old.seen new.core new.panel new.seen

-- all of a transfer was done, over the sectors of the pack, or over any if the host doesn't reveal them
pub record Transferred (t : (ℕ → List ℕ) → Trace DiskEffect ⊤ Stop) (old new : DiskMoment) (r : Result ⊤ Stop)
    : Type 0 where
  pub given : ℕ → List ℕ
  pub told : Tells old.seen.world.sectors given
  pub answers : (t given).answer ≡ r
  pub all : DoneBetween (t given).effects old new

-- the host failed after a first part of a transfer
pub record TransferredFirst (t : (ℕ → List ℕ) → Trace DiskEffect ⊤ Stop) (old new : DiskMoment) : Type 0 where
  pub given : ℕ → List ℕ
  pub told : Tells old.seen.world.sectors given
  pub done : ℕ
  pub part : DoneBetween (take done (t given).effects) old new
  pub rose : Rose old.seen.faults new.seen.faults

-- what `transfer` does, by its answer; t gives its trace over the sectors
abbrev pub Transfers : ((ℕ → List ℕ) → Trace DiskEffect ⊤ Stop) → DiskMoment → DiskMoment → DiskIo → Type 0
Transfers t old new io.Done = Transferred t old new (Ok tt)
Transfers t old new (io.Stop why) = Transferred t old new (Err why)
Transfers t old new io.Failed = TransferredFirst t old new
