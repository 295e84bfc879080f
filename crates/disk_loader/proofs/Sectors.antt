-- Sectors that are read to core.
use Rattle.std.proofs.Common.{ℕ, zero, suc, ◌≡◌, ◌+◌, ◌*◌, ◌<◌, ◌≤◌, ◌==◌, nat_lt, true, List, [], ◌∷◌, ◌++◌, length, map, refl, Ok, arith, ap}
use Rattle.std.proofs.lemmas.Bool.Decides.{nat_tests}
use Rattle.std.specs.Prelude.{⊤}
use Rattle.digit_core.specs.declared.Digit.{Digit}
use Rattle.digit_core.specs.Cell.{store}
use Rattle.outside_io.specs.World.{pack_sector_text}
use Rattle.addr_indirect.specs.declared.Stop.{Stop}
use Rattle.traces.specs.Trace.{Trace}
use Rattle.traces.specs.Change.{StoresCell}
use Rattle.card_code.specs.Characters.{object_char}
use Rattle.card_code.proofs.RoundTrips.{object_digit-object_char}
use Rattle.disk_1311.specs.Sector.{DiskEffect, Alters, read_sector, core_left}
use Rattle.disk_1311.specs.Disk.{Transfer, cylinder_of, host_sector, move_sectors}
use Rattle.disk_1311.specs.declared.DiskKind.TheVariants.{Rdn}
use Rattle.cpu_step.specs.State.{State}
use Rattle.cpu_step.specs.Effects.{after, of_disk}
use Rattle.cpu_step.specs.Outside.{all_outside}
use Rattle.card_columns.proofs.GoodDigits.{Good}
use Rattle.card_steps.proofs.CardDigits.{laid, laid_length}

-- digits stored from a upwards, as what the disk does
abbrev pub stored : ℕ → List Digit → List DiskEffect
stored a [] = []
stored a (d ∷ ds) = Alters (StoresCell (record { at = a; digit = d })) ∷ stored (a + 1) ds

-- and nothing else
abbrev pub storing : ℕ → List Digit → Trace DiskEffect ⊤ Stop
storing a ds = record { effects = stored a ds; answer = Ok tt }

-- reading a text of object characters
pub reads_stored : (ds : List Digit) (a : ℕ) → Good ds → map Alters (read_sector a (map object_char ds)).effects ≡ stored a ds
unfolding read_sector
reads_stored [] a g = refl
reads_stored (d ∷ ds) a g =
    rw (object_digit-object_char d g.0)
    (ap (λ (es : List DiskEffect). Alters (StoresCell (record { at = a; digit = d })) ∷ es) (reads_stored ds (a + 1) g.1))

pub reads_well : (ds : List Digit) (a : ℕ) → Good ds → (read_sector a (map object_char ds)).answer ≡ Ok tt
unfolding read_sector
reads_well [] a g = refl
reads_well (d ∷ ds) a g = rw (object_digit-object_char d g.0) (reads_well ds (a + 1) g.1)

pub core_stored : (ds : List Digit) (a : ℕ) (core : List ℕ) → core_left core (stored a ds) ≡ laid core a ds
unfolding laid
core_stored [] a core = refl
core_stored (d ∷ ds) a core = core_stored ds (a + 1) (store core a d)

pub after_stored : (ds : List Digit) (a : ℕ) (s : State) → after s (map of_disk (stored a ds)) ≡ record s { core = laid s.core a ds }
unfolding laid
after_stored [] a s = refl
after_stored (d ∷ ds) a s = after_stored ds (a + 1) (record s { core = store s.core a d })

-- such effects do nothing outside
pub stored_outside : (ds : List Digit) (a : ℕ) → all_outside (map of_disk (stored a ds)) ≡ []
stored_outside [] a = refl
stored_outside (d ∷ ds) a = stored_outside ds (a + 1)

stored_joined : (ds es : List Digit) (a : ℕ) → stored a ds ++ stored (a + length ds) es ≡ stored a (ds ++ es)
stored_joined [] es a = let z : a + 0 ≡ a = omega arith in rw z refl
stored_joined (d ∷ ds) es a =
    let e : a + suc (length ds) ≡ a + 1 + length ds = omega arith in
    rw e (ap (λ (rest : List DiskEffect). Alters (StoresCell (record { at = a; digit = d })) ∷ rest) (stored_joined ds es (a + 1)))

-- the digits of so many sectors
abbrev pub joined : (ℕ → List Digit) → ℕ → ℕ → List Digit
joined digits sector zero = []
joined digits sector (suc n) = digits sector ++ joined digits (sector + 1) n

-- the sectors of a transfer are the texts of such digits, and stand on its cylinder
pub record AreTexts (drive cylinder : ℕ) (sectors : ℕ → List ℕ) (digits : ℕ → List Digit) (sector : ℕ) : Type 0 where
  pub here : cylinder_of sector ≡ cylinder
  pub text : pack_sector_text sectors (host_sector drive sector) ≡ map object_char (digits sector)
  pub good : Good (digits sector)
  pub whole : length (digits sector) ≡ 100

abbrev pub AllTexts : ℕ → ℕ → (ℕ → List ℕ) → (ℕ → List Digit) → ℕ → ℕ → Type 0
AllTexts drive cylinder sectors digits sector count = (j : ℕ) → j < count → AreTexts drive cylinder sectors digits (sector + j)

module _ (drive cylinder : ℕ) (sectors : ℕ → List ℕ) (digits : ℕ → List Digit) where
  abbrev reading : Transfer
  reading = record { kind = Rdn; drive = drive; cylinder = cylinder; sectors = sectors }

  pub sectors_read : (count : ℕ) (core : List ℕ) (a sector : ℕ) → a + 100 * count ≤ length core → AllTexts drive cylinder sectors digits sector count →
      move_sectors reading core a sector count ≡ storing a (joined digits sector count)
  unfolding move_sectors
  sectors_read zero core a sector room all = refl
  sectors_read (suc count) core a sector room all =
      let z : sector + 0 ≡ sector = omega arith in
      let first : AreTexts drive cylinder sectors digits sector = rw z at (all 0 (omega arith)) in
      let here : (cylinder_of sector == cylinder) ≡ true = let e = first.here in grind (arith, nat_tests) in
      let inside : nat_lt (a + 99) (length core) ≡ true = grind (arith, nat_tests) in
      let long : length (laid core a (digits sector)) ≡ length core = laid_length (digits sector) core a in
      let more = sectors_read count (laid core a (digits sector)) (a + 100) (sector + 1) (omega arith)
      (λ j l. let e : sector + 1 + j ≡ sector + suc j = omega arith in rw e (all (suc j) (omega arith))) in
      let w : a + length (digits sector) ≡ a + 100 = let k = first.whole in omega arith in
      let split : stored a (digits sector) ++ stored (a + 100) (joined digits (sector + 1) count) ≡ stored a (digits sector ++ joined digits (sector + 1) count) =
      rw w at (stored_joined (digits sector) (joined digits (sector + 1) count) a) in
      rw (here, inside, first.text, reads_stored (digits sector) a first.good, reads_well (digits sector) a first.good, core_stored (digits sector) a core, more)
      (λ i. record { effects = split i; answer = Ok tt })
