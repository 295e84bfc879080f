-- Transfers move no arm, and seeks change neither core nor sectors.
use Rattle.std.proofs.Common.{◌≡◌, ℕ, zero, suc, ◌+◌, Bool, true, false, nat_lt, ◌==◌, List, [], ◌∷◌, ◌++◌, length, take, map, Result, Ok, Err, refl}
use Rattle.std.specs.Prelude.{if◌then◌else◌, ⊤}
use Rattle.digit_core.specs.declared.Digit.{Digit}
use Rattle.addr_indirect.specs.declared.Stop.{Stop}
use Rattle.addr_indirect.specs.declared.Stop.TheVariants.{Address}
use Rattle.addr_indirect.specs.Reading.{read_up}
use Rattle.traces.specs.Trace.{Trace, ends, does, ◌>>=◌, after_answer}
use Rattle.traces.specs.Change.{Change, StoresCell, Lights}
use Rattle.outside_io.specs.World.{pack_sector_text}
use Rattle.disk_1311.specs.declared.control.Control.{Control}
use Rattle.disk_1311.specs.Control.{control_field}
use Rattle.disk_1311.specs.Sector.{DiskEffect, Alters, SetsArm, Records, core_left, alarm_first, read_sector, compare_sector}
use Rattle.disk_1311.specs.Disk.{Transfer, seek, transfer, move_sectors, move_sector, group_check, is_there, cylinder_of, host_sector, transfer_trace}
use Rattle.disk_1311.specs.declared.control.TheConstants.{DRIVE_SECTORS}
use Rattle.disk_1311.specs.DiskCalls.{arms_left, sectors_left}
use Rattle.disk_1311.specs.declared.DiskKind.{DiskKind}
use Rattle.disk_1311.specs.declared.DiskKind.TheVariants.{Rdgn, Cdgn, Rdn, Cdn, Wdgn, Wdn}
use Rattle.disk_1311.proofs.SectorsMoved.{writing}
use Rattle.disk_1311.proofs.Effects.{IsLights}
use Rattle.disk_1311.proofs.Checks.{check_lights}
use Rattle.indicators.specs.Codes.{DISK_ADDRESS}

-- no effect moves an arm
abbrev IsStill : List DiskEffect → Type 0
IsStill [] = ⊤
IsStill (Alters c ∷ es) = IsStill es
IsStill (SetsArm d c ∷ es) = ⊥
IsStill (Records a bytes ∷ es) = IsStill es

still_append : (es fs : List DiskEffect) → IsStill es → IsStill fs → IsStill (es ++ fs)
still_append [] fs still more = more
still_append (Alters c ∷ es) fs still more = still_append es fs still more
still_append (SetsArm d c ∷ es) fs still more = absurd still
still_append (Records a bytes ∷ es) fs still more = still_append es fs still more

still_alters : (cs : List Change) → IsStill (map Alters cs)
still_alters [] = tt
still_alters (c ∷ cs) = still_alters cs

still_lights : (es : List DiskEffect) → IsLights es → IsStill es
still_lights [] lights = tt
still_lights (Alters (StoresCell s) ∷ es) lights = absurd lights
still_lights (Alters (Lights l) ∷ es) lights = still_lights es lights
still_lights (SetsArm d c ∷ es) lights = absurd lights
still_lights (Records a bytes ∷ es) lights = absurd lights

-- such effects, and a first part of them, leave the arms
arms_still : (old : List ℕ) (es : List DiskEffect) → IsStill es → arms_left old es ≡ old
arms_still old [] still = refl
arms_still old (Alters c ∷ es) still = arms_still old es still
arms_still old (SetsArm d c ∷ es) still = absurd still
arms_still old (Records a bytes ∷ es) still = arms_still old es still

first_still : (old : List ℕ) (es : List DiskEffect) (k : ℕ) → IsStill es → arms_left old (take k es) ≡ old
first_still old es zero still = refl
first_still old [] (suc k) still = refl
first_still old (Alters c ∷ es) (suc k) still = first_still old es k still
first_still old (SetsArm d c ∷ es) (suc k) still = absurd still
first_still old (Records a bytes ∷ es) (suc k) still = first_still old es k still

-- The parts of a transfer.
writing_still : (h : ℕ) (r : Result (List Digit) Stop) → IsStill (writing h r).effects
writing_still h (Ok ds) = tt
writing_still h (Err s) = tt

move_still : (kind : DiskKind) (core : List ℕ) (a h : ℕ) (bytes : List ℕ) → IsStill (move_sector kind core a h bytes).effects
move_still Rdgn core a h bytes = still_alters (read_sector a bytes).effects
move_still Rdn core a h bytes = still_alters (read_sector a bytes).effects
move_still Cdgn core a h bytes = still_alters (compare_sector core a bytes).effects
move_still Cdn core a h bytes = still_alters (compare_sector core a bytes).effects
move_still Wdgn core a h bytes = writing_still h (read_up core a 100)
move_still Wdn core a h bytes = writing_still h (read_up core a 100)

check_still : (kind : DiskKind) (core : List ℕ) (a : ℕ) → IsStill (group_check kind core a).effects
check_still kind core a = still_lights (group_check kind core a).effects (check_lights kind core a)

after_still : (es : List DiskEffect) (r : Result ⊤ Stop) (t : Trace DiskEffect ⊤ Stop) → IsStill es → IsStill t.effects → IsStill (after_answer es r (λ _. t)).effects
after_still es (Ok x) t still more = still_append es t.effects still more
after_still es (Err s) t still more = still

choice_still : (same within : Bool) (t u : Trace DiskEffect ⊤ Stop) → IsStill t.effects → IsStill u.effects → IsStill (if same then (if within then t else ends (Err Address)) else u).effects
choice_still true true t u one other = one
choice_still true false t u one other = tt
choice_still false within t u one other = other

sectors_still : (t : Transfer) (left : ℕ) (core : List ℕ) (a sector : ℕ) → IsStill (move_sectors t core a sector left).effects
unfolding move_sectors
sectors_still t zero core a sector = check_still t.kind core a
sectors_still t (suc left) core a sector =
    let h = host_sector t.drive sector in
    let one = move_sector t.kind core a h (pack_sector_text t.sectors h) in
    choice_still (cylinder_of sector == t.cylinder) (nat_lt (a + 99) (length core)) _ _
    (after_still one.effects one.answer (move_sectors t (core_left core one.effects) (a + 100) (sector + 1) left) (move_still t.kind core a h (pack_sector_text t.sectors h)) (sectors_still t left (core_left core one.effects) (a + 100) (sector + 1)))
    (check_still t.kind core a)

-- what follows the control field
abbrev after_field : DiskKind → List ℕ → List ℕ → (ℕ → List ℕ) → Control → Trace DiskEffect ⊤ Stop
after_field kind core arms sectors c =
    if is_there c arms
    then (if nat_lt c.address (length core)
    then transfer_trace kind c core sectors
    else ends (Err Address))
    else alarm_first DISK_ADDRESS (ends (Ok tt))

field_still : (kind : DiskKind) (core arms : List ℕ) (sectors : ℕ → List ℕ) (r : Result Control Stop) → IsStill (r >>= after_field kind core arms sectors).effects
field_still kind core arms sectors (Ok c) = choice_still (is_there c arms) (nat_lt c.address (length core)) (transfer_trace kind c core sectors) (alarm_first DISK_ADDRESS (ends (Ok tt))) (sectors_still _ c.count core c.address c.sector) tt
field_still kind core arms sectors (Err s) = tt

module _ (kind : DiskKind) (core : List ℕ) (p : ℕ) (arms : List ℕ) (sectors : ℕ → List ℕ) where
  still : IsStill (transfer kind core p arms sectors).effects
  unfolding transfer
  still = field_still kind core arms sectors (control_field core p (length arms))

  -- no first part of a transfer moves an arm
  pub transfer-arms : (k : ℕ) (old : List ℕ) → arms_left old (take k (transfer kind core p arms sectors).effects) ≡ old
  transfer-arms k old = first_still old (transfer kind core p arms sectors).effects k still

  -- nor does the whole
  pub transfer-arms_all : (old : List ℕ) → arms_left old (transfer kind core p arms sectors).effects ≡ old
  transfer-arms_all old = arms_still old (transfer kind core p arms sectors).effects still

-- what a seek does once the control field is read, by the test of the sector
abbrev sought : Control → Bool → Trace DiskEffect ⊤ Stop
sought c there = if there then does (SetsArm c.drive (cylinder_of c.sector)) (ends (Ok tt)) else alarm_first DISK_ADDRESS (ends (Ok tt))

abbrev after_seek : Control → Trace DiskEffect ⊤ Stop
after_seek c = sought c (nat_lt c.sector DRIVE_SECTORS)

-- Neither core nor a sector changes by it.
sought_core : (core : List ℕ) (c : Control) (there : Bool) → core_left core (sought c there).effects ≡ core
sought_core core c true = refl
sought_core core c false = refl

field_core : (core : List ℕ) (r : Result Control Stop) → core_left core (r >>= after_seek).effects ≡ core
field_core core (Ok c) = sought_core core c (nat_lt c.sector DRIVE_SECTORS)
field_core core (Err s) = refl

sought_sectors : (sectors : ℕ → List ℕ) (c : Control) (there : Bool) → sectors_left sectors (sought c there).effects ≡ sectors
sought_sectors sectors c true = refl
sought_sectors sectors c false = refl

field_sectors : (sectors : ℕ → List ℕ) (r : Result Control Stop) → sectors_left sectors (r >>= after_seek).effects ≡ sectors
field_sectors sectors (Ok c) = sought_sectors sectors c (nat_lt c.sector DRIVE_SECTORS)
field_sectors sectors (Err s) = refl

module _ (core : List ℕ) (p : ℕ) (arms : List ℕ) where
  -- a seek leaves core
  pub seek-core : (old : List ℕ) → core_left old (seek core p arms).effects ≡ old
  unfolding seek
  seek-core old = field_core old (control_field core p (length arms))

  -- and all sectors
  pub seek-sectors : (sectors : ℕ → List ℕ) → sectors_left sectors (seek core p arms).effects ≡ sectors
  unfolding seek
  seek-sectors sectors = field_sectors sectors (control_field core p (length arms))
