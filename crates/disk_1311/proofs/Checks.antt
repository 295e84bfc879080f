-- The look at the group mark, and other ends of a transfer, over sectors that may be told or not.
use Rattle.std.proofs.Common.{◌≡◌, ℕ, Bool, true, false, nat_lt, ◌==◌, List, [], length, Result, Ok, Err, refl}
use Rattle.std.specs.Prelude.{Option, Some, None, unwrap_or, if◌then◌else◌, ⊤}
use Rattle.digit_core.specs.declared.Digit.{Digit}
use Rattle.digit_core.specs.declared.TheConstants.{GROUP_MARK}
use Rattle.indicators.specs.declared.Panel.{Panel}
use Rattle.outside_io.specs.World.{Seen}
use Rattle.outside_io.specs.Frame.{Tells}
use Rattle.addr_indirect.specs.declared.Stop.{Stop}
use Rattle.addr_indirect.specs.Reading.{read_at}
use Rattle.traces.specs.Trace.{Trace, ends, ◌>>=◌}
use Rattle.disk_1311.specs.Sector.{DiskEffect, alarm_first}
use Rattle.disk_1311.specs.Disk.{is_group, group_check}
use Rattle.disk_1311.specs.DiskCalls.{disk_moment, Transfers, Transferred}
use Rattle.disk_1311.specs.Moving.{LooksForMark, Looked}
use Rattle.disk_1311.specs.declared.DiskKind.{DiskKind}
use Rattle.disk_1311.specs.declared.DiskIo.{DiskIo}
use Rattle.disk_1311.specs.declared.DiskIo.TheVariants as io
use Rattle.disk_1311.proofs.Effects.{IsLights, lights_done}
use Rattle.indicators.specs.Codes.{DISK_LENGTH}

-- the check by its tests: the form, the place, what is read, the mark
abbrev by_mark : Bool → Trace DiskEffect ⊤ Stop
by_mark b = if b then ends (Ok tt) else alarm_first DISK_LENGTH (ends (Ok tt))

abbrev by_tests : Bool → Bool → Result Digit Stop → Trace DiskEffect ⊤ Stop
by_tests looks within r = if looks then (if within then (r >>= (λ d. by_mark (d.value == GROUP_MARK))) else alarm_first DISK_LENGTH (ends (Ok tt))) else ends (Ok tt)

mark_lights : (b : Bool) → IsLights (by_mark b).effects
mark_lights true = tt
mark_lights false = tt

tests_lights : (looks within : Bool) (r : Result Digit Stop) → IsLights (by_tests looks within r).effects
tests_lights false within r = tt
tests_lights true false r = tt
tests_lights true true (Ok d) = mark_lights (d.value == GROUP_MARK)
tests_lights true true (Err s) = tt

-- it changes the panel alone
pub check_lights : (kind : DiskKind) (core : List ℕ) (a : ℕ) → IsLights (group_check kind core a).effects
check_lights kind core a = tests_lights (is_group kind) (nat_lt a (length core)) (read_at core a)

-- sectors that are the told ones, where they are told
pub told_or : {A : Type 0} (o : Option A) (x : A) → Tells o (unwrap_or o x)
told_or None x = tt
told_or (Some y) x = refl

module _ (f : (ℕ → List ℕ) → Trace DiskEffect ⊤ Stop) (core : List ℕ) (panel : Panel) (now : Seen) where
  -- the transfer is a change of the panel alone
  lights_only : (t : Trace DiskEffect ⊤ Stop) (new_panel : Panel) (r : Result ⊤ Stop) → IsLights t.effects → ((g : ℕ → List ℕ) → f g ≡ t) → Looked t panel new_panel r → Transferred f (disk_moment core panel now) (disk_moment core new_panel now) r
  lights_only t new_panel r lights is looked =
      let given = unwrap_or now.world.sectors (λ (a : ℕ). []) in
      record {
        given = given;
        told = told_or now.world.sectors (λ (a : ℕ). []);
        answers = rw (is given) looked.answers;
        all = rw (is given) (lights_done t.effects core panel new_panel now lights looked.panel_is);
      }

  pub looks_all : (t : Trace DiskEffect ⊤ Stop) (new_panel : Panel) (answer : DiskIo) → IsLights t.effects → ((g : ℕ → List ℕ) → f g ≡ t) → LooksForMark t panel new_panel answer → Transfers f (disk_moment core panel now) (disk_moment core new_panel now) answer
  looks_all t new_panel io.Done lights is looks = lights_only t new_panel (Ok tt) lights is looks
  looks_all t new_panel (io.Stop why) lights is looks = lights_only t new_panel (Err why) lights is looks
  looks_all t new_panel io.Failed lights is looks = absurd looks

  -- the transfer is another one
  same_all : (t : (ℕ → List ℕ) → Trace DiskEffect ⊤ Stop) (new : List ℕ) (new_panel : Panel) (after : Seen) (r : Result ⊤ Stop) → ((g : ℕ → List ℕ) → f g ≡ t g) → Transferred t (disk_moment core panel now) (disk_moment new new_panel after) r → Transferred f (disk_moment core panel now) (disk_moment new new_panel after) r
  same_all t new new_panel after r is all = record { given = all.given; told = all.told; answers = rw (is all.given) all.answers; all = rw (is all.given) all.all }

  pub same_transfers : (t : (ℕ → List ℕ) → Trace DiskEffect ⊤ Stop) (new : List ℕ) (new_panel : Panel) (after : Seen) (answer : DiskIo) → ((g : ℕ → List ℕ) → f g ≡ t g) → Transfers t (disk_moment core panel now) (disk_moment new new_panel after) answer → Transfers f (disk_moment core panel now) (disk_moment new new_panel after) answer
  same_transfers t new new_panel after io.Done is all = same_all t new new_panel after (Ok tt) is all
  same_transfers t new new_panel after (io.Stop why) is all = same_all t new new_panel after (Err why) is all
  same_transfers t new new_panel after io.Failed is first = record { given = first.given; told = first.told; done = first.done; part = rw (is first.given) first.part; rose = first.rose }
