-- Seek and transfer, once the control field is read.
use Rattle.std.proofs.Common.{◌≡◌, ℕ, ◌<◌, ◌≤◌, true, false, nat_lt, List, length, Ok, Err, arith}
use Rattle.std.proofs.lemmas.Bool.Decides.{nat_tests}
use Rattle.addr_indirect.specs.declared.Stop.{Stop}
use Rattle.addr_indirect.specs.declared.Stop.TheVariants.{Address}
use Rattle.traces.specs.Trace.{ends, does}
use Rattle.disk_1311.specs.declared.control.Control.{Control}
use Rattle.disk_1311.specs.Control.{control_field}
use Rattle.disk_1311.specs.Sector.{SetsArm, alarm_first}
use Rattle.disk_1311.specs.Disk.{seek, transfer, is_there, cylinder_of, transfer_trace}
use Rattle.disk_1311.specs.declared.control.TheConstants.{DRIVE_SECTORS}
use Rattle.disk_1311.specs.declared.DiskKind.{DiskKind}
use Rattle.indicators.specs.Codes.{DISK_ADDRESS}

module _ (core : List ℕ) (p : ℕ) (arms : List ℕ) where
  -- the control field stops
  pub seek_stops : (why : Stop) → Err why ≡ control_field core p (length arms) → seek core p arms ≡ ends (Err why)
  unfolding seek
  seek_stops why stops = rw (← stops)

  pub transfer_stops : (kind : DiskKind) (why : Stop) → Err why ≡ control_field core p (length arms) → (g : ℕ → List ℕ) → transfer kind core p arms g ≡ ends (Err why)
  unfolding transfer
  transfer_stops kind why stops g = rw (← stops)

  module _ (c : Control) (reads : Ok c ≡ control_field core p (length arms)) where
    -- the arm moves
    pub seek_moves : c.sector < DRIVE_SECTORS → seek core p arms ≡ does (SetsArm c.drive (cylinder_of c.sector)) (ends (Ok tt))
    unfolding seek
    seek_moves there = let test : nat_lt c.sector DRIVE_SECTORS ≡ true = grind (arith, nat_tests) in rw (← reads, test)

    -- there is no such sector
    pub seek_alarms : DRIVE_SECTORS ≤ c.sector → seek core p arms ≡ alarm_first DISK_ADDRESS (ends (Ok tt))
    unfolding seek
    seek_alarms over = let test : nat_lt c.sector DRIVE_SECTORS ≡ false = grind (arith, nat_tests) in rw (← reads, test)

    module _ (kind : DiskKind) where
      -- the arm is elsewhere
      pub transfer_alarms : is_there c arms ≡ false → (g : ℕ → List ℕ) → transfer kind core p arms g ≡ alarm_first DISK_ADDRESS (ends (Ok tt))
      unfolding transfer
      transfer_alarms elsewhere g = rw (← reads, elsewhere)

      module _ (there : is_there c arms ≡ true) where
        -- the core address is past the end of core
        pub transfer_out : length core ≤ c.address → (g : ℕ → List ℕ) → transfer kind core p arms g ≡ ends (Err Address)
        unfolding transfer
        transfer_out out g = let test : nat_lt c.address (length core) ≡ false = grind (arith, nat_tests) in rw (← reads, there, test)

        -- sectors move
        pub transfer_moves : c.address < length core → (g : ℕ → List ℕ) → transfer kind core p arms g ≡ transfer_trace kind c core g
        unfolding transfer
        transfer_moves within g = let test : nat_lt c.address (length core) ≡ true = grind (arith, nat_tests) in rw (← reads, there, test)
