-- Sectors that move, one after another.
use Rattle.std.proofs.Common.{◌≡◌, ◌≢◌, ℕ, zero, suc, ◌+◌, ◌-◌, ◌<◌, ◌≤◌, true, false, nat_lt, ◌==◌, List, [], length, take, Result, Ok, Err, refl, sym, ◌∙◌, ap, subst, arith}
use Rattle.std.proofs.lemmas.Bool.Decides.{nat_tests}
use Rattle.std.proofs.Math.Seq.{take-append-add}
use Rattle.std.specs.Prelude.{Option, Some, None, option_map, unwrap_or, if◌then◌else◌, ⊤}
use Rattle.digit_core.specs.declared.Digit.{Digit}
use Rattle.indicators.specs.declared.Panel.{Panel}
use Rattle.indicators.specs.Panel.{set}
use Rattle.outside_io.specs.World.{World, Seen, pack_sector_text, with_sector}
use Rattle.outside_io.specs.declared.host.TheConstants.{SECTOR_LENGTH}
use Rattle.outside_io.specs.Frame.{Tells}
use Rattle.addr_indirect.specs.declared.Stop.{Stop}
use Rattle.addr_indirect.specs.declared.Stop.TheVariants.{Address}
use Rattle.addr_indirect.specs.Reading.{read_up}
use Rattle.traces.specs.Trace.{Trace, ends, does_all, after_answer}
use Rattle.disk_1311.specs.Sector.{DiskEffect, core_left, alarm_first, read_sector, compare_sector}
use Rattle.disk_1311.specs.Disk.{cylinder_of, host_sector, move_sector, move_sectors, group_check}
use Rattle.disk_1311.specs.DiskCalls.{disk_moment, Done, sectors_left, Transfers, Transferred, TransferredFirst}
use Rattle.disk_1311.specs.Moving.{MovedSector, NotMoved, MovesSector, LooksForMark}
use Rattle.disk_1311.specs.declared.DiskKind.{DiskKind}
use Rattle.disk_1311.specs.declared.DiskKind.TheVariants.{Rdgn, Cdgn, Rdn, Cdn, Wdgn, Wdn}
use Rattle.disk_1311.specs.declared.DiskIo.{DiskIo}
use Rattle.disk_1311.specs.declared.DiskIo.TheVariants as io
use Rattle.outside_io.proofs.Packs.{whole_text}
use Rattle.disk_1311.proofs.Effects.{done_on, length_left}
use Rattle.disk_1311.proofs.SectorsMoved.{sectors_left-alters, writing}
use Rattle.disk_1311.proofs.Checks.{told_or, check_lights, looks_all}
use Rattle.indicators.specs.Codes.{CYLINDER_OVERFLOW}

-- A sector that moves leaves those behind it.
behind_written : (h k : ℕ) (s : ℕ → List ℕ) (r : Result (List Digit) Stop) → h < k → sectors_left s (writing h r).effects k ≡ s k
behind_written h k s (Ok ds) below = let other : (h == k) ≡ false = grind (arith, nat_tests) in rw other
behind_written h k s (Err why) below = refl

behind : (kind : DiskKind) (core : List ℕ) (a h : ℕ) (bytes : List ℕ) (s : ℕ → List ℕ) (k : ℕ) → h < k → sectors_left s (move_sector kind core a h bytes).effects k ≡ s k
behind Rdgn core a h bytes s k below = ap (λ (f : ℕ → List ℕ). f k) (sectors_left-alters s (read_sector a bytes).effects)
behind Rdn core a h bytes s k below = ap (λ (f : ℕ → List ℕ). f k) (sectors_left-alters s (read_sector a bytes).effects)
behind Cdgn core a h bytes s k below = ap (λ (f : ℕ → List ℕ). f k) (sectors_left-alters s (compare_sector core a bytes).effects)
behind Cdn core a h bytes s k below = ap (λ (f : ℕ → List ℕ). f k) (sectors_left-alters s (compare_sector core a bytes).effects)
behind Wdgn core a h bytes s k below = behind_written h k s (read_up core a 100) below
behind Wdn core a h bytes s k below = behind_written h k s (read_up core a 100) below

-- The sectors of a whole transfer: the told ones where they are told; else one has this text, and those behind it are as the rest of
-- the transfer has them.
record Together (o : Option (ℕ → List ℕ)) (h : ℕ) (bytes : List ℕ) (rest : ℕ → List ℕ) : Type 0 where
  given : ℕ → List ℕ
  told : Tells o given
  here : pack_sector_text given h ≡ bytes
  ahead : (k : ℕ) → h < k → given k ≡ rest k

together : (o : Option (ℕ → List ℕ)) (h : ℕ) (bytes : List ℕ) (es : List DiskEffect) (rest : ℕ → List ℕ)
    → ((s : ℕ → List ℕ) (k : ℕ) → h < k → sectors_left s es k ≡ s k) → SECTOR_LENGTH ≤ length bytes → Tells (option_map (λ sectors. pack_sector_text sectors h) o) bytes → Tells (option_map (λ sectors. sectors_left sectors es) o) rest → Together o h bytes rest
together None h bytes es rest stay whole here told = record {
  given = with_sector h bytes rest;
  told = tt;
  here = let same : (h == h) ≡ true = grind (arith, nat_tests) in rw same (whole_text 100 bytes whole);
  ahead = λ k below. let other : (h == k) ≡ false = grind (arith, nat_tests) in rw other;
}
together (Some s) h bytes es rest stay whole here told = record {
  given = s;
  told = refl;
  here = here;
  ahead = λ k below. sym (stay s k below) ∙ ap (λ (f : ℕ → List ℕ). f k) told;
}

module _ (kind : DiskKind) (drive cylinder : ℕ) where
  -- the trace of sectors that are left to move, over the sectors
  abbrev pub left_to_move : List ℕ → ℕ → ℕ → ℕ → (ℕ → List ℕ) → Trace DiskEffect ⊤ Stop
  left_to_move core a sector left g = move_sectors (record { kind = kind; drive = drive; cylinder = cylinder; sectors = g }) core a sector left

  -- it looks only at the sectors from the first one on
  same_ahead : (left : ℕ) (core : List ℕ) (a sector : ℕ) (g h : ℕ → List ℕ) → ((k : ℕ) → host_sector drive sector ≤ k → g k ≡ h k) → left_to_move core a sector left g ≡ left_to_move core a sector left h
  unfolding move_sectors
  same_ahead zero core a sector g h same = refl
  same_ahead (suc left) core a sector g h same =
      let here : g (host_sector drive sector) ≡ h (host_sector drive sector) = same (host_sector drive sector) (omega arith) in
      let moved = move_sector kind core a (host_sector drive sector) (pack_sector_text h (host_sector drive sector)) in
      rw here
      (ap (λ (t : Trace DiskEffect ⊤ Stop). if cylinder_of sector == cylinder then (if nat_lt (a + 99) (length core) then after_answer moved.effects moved.answer (λ _. t) else ends (Err Address)) else alarm_first CYLINDER_OVERFLOW (group_check kind core a))
      (same_ahead left (core_left core moved.effects) (a + 100) (sector + 1) g h (λ k below. same k (omega arith))))

  module _ (core : List ℕ) (a sector left : ℕ) (panel : Panel) (now : Seen) where
    abbrev here : ℕ
    here = host_sector drive sector

    -- no sector is left
    pub moves_none : (g : ℕ → List ℕ) → left_to_move core a sector 0 g ≡ group_check kind core a
    unfolding move_sectors
    moves_none g = refl

    -- the cylinder has ended
    pub moves_over : (cylinder_of sector == cylinder) ≡ false → (g : ℕ → List ℕ) → left_to_move core a sector (suc left) g ≡ alarm_first CYLINDER_OVERFLOW (group_check kind core a)
    unfolding move_sectors
    moves_over other g = rw other

    module _ (same : (cylinder_of sector == cylinder) ≡ true) where
      -- the cells end
      pub moves_out : length core ≤ a + 99 → (g : ℕ → List ℕ) → left_to_move core a sector (suc left) g ≡ ends (Err Address)
      unfolding move_sectors
      moves_out out g = let past : nat_lt (a + 99) (length core) ≡ false = grind (arith, nat_tests) in rw (same, past)

      module _ (room : a + 99 < length core) where
        -- one sector moves
        moves_first : (g : ℕ → List ℕ) (t : Trace DiskEffect ⊤ Stop) → move_sector kind core a here (pack_sector_text g here) ≡ t
            → left_to_move core a sector (suc left) g ≡ after_answer t.effects t.answer (λ _. left_to_move (core_left core t.effects) (a + 100) (sector + 1) left g)
        unfolding move_sectors
        moves_first g t is = let within : nat_lt (a + 99) (length core) ≡ true = grind (arith, nat_tests) in rw (same, within, is)

        -- and stops
        pub stops_within : (new : List ℕ) (new_panel : Panel) (after : Seen) (why : Stop) → MovedSector (move_sector kind core a here) here (disk_moment core panel now) (disk_moment new new_panel after) (Err why)
            → Transferred (left_to_move core a sector (suc left)) (disk_moment core panel now) (disk_moment new new_panel after) (Err why)
        stops_within new new_panel after why moved =
            let t = move_sector kind core a here moved.given in
            let whole = together now.world.sectors here moved.given t.effects (unwrap_or (option_map (λ sectors. sectors_left sectors t.effects) now.world.sectors) (λ (a : ℕ). [])) (behind kind core a here moved.given) moved.whole moved.told (told_or (option_map (λ sectors. sectors_left sectors t.effects) now.world.sectors) (λ (a : ℕ). [])) in
            let is = moves_first whole.given t (ap (λ (bytes : List ℕ). move_sector kind core a here bytes) whole.here) in
            let stops = moved.answers in
            record { given = whole.given; told = whole.told; answers = rw (is, stops); all = rw (is, stops) moved.all }

        -- or the host fails
        pub fails_within : (new : List ℕ) (new_panel : Panel) (after : Seen) → NotMoved (disk_moment core panel now) (disk_moment new new_panel after) → TransferredFirst (left_to_move core a sector (suc left)) (disk_moment core panel now) (disk_moment new new_panel after)
        fails_within new new_panel after not = record {
          given = unwrap_or now.world.sectors (λ (a : ℕ). []);
          told = told_or now.world.sectors (λ (a : ℕ). []);
          done = 0;
          part = not.nothing;
          rose = not.rose;
        }

        -- and either ends the moving
        pub ends_within : (new : List ℕ) (new_panel : Panel) (after : Seen) (answer : DiskIo) → answer ≢ io.Done → MovesSector (move_sector kind core a here) here (disk_moment core panel now) (disk_moment new new_panel after) answer
            → Transfers (left_to_move core a sector (suc left)) (disk_moment core panel now) (disk_moment new new_panel after) answer
        ends_within new new_panel after io.Done other moved = absurd (other refl)
        ends_within new new_panel after (io.Stop why) other moved = stops_within new new_panel after why moved
        ends_within new new_panel after io.Failed other not = fails_within new new_panel after not

        module _ (mid_core : List ℕ) (mid_panel : Panel) (mid : Seen) (moved : MovedSector (move_sector kind core a here) here (disk_moment core panel now) (disk_moment mid_core mid_panel mid) (Ok tt)) where
          abbrev one : Trace DiskEffect ⊤ Stop
          one = move_sector kind core a here moved.given

          abbrev rest_of : (ℕ → List ℕ) → Trace DiskEffect ⊤ Stop
          rest_of = left_to_move mid_core (a + 100) (sector + 1) left

          -- the sectors of the rest make those of the whole
          whole_of : (g : ℕ → List ℕ) → Tells mid.world.sectors g → Together now.world.sectors here moved.given g
          whole_of g told =
              let left_so = subst (λ (w : World). Tells w.sectors g) moved.all.goes.world told in
              together now.world.sectors here moved.given one.effects g (behind kind core a here moved.given) moved.whole moved.told left_so

          -- and the whole is the sector, and then the rest
          whole_is : (g : ℕ → List ℕ) (whole : Together now.world.sectors here moved.given g) → left_to_move core a sector (suc left) whole.given ≡ does_all one.effects (rest_of g)
          whole_is g whole =
              let is = moves_first whole.given one (ap (λ (bytes : List ℕ). move_sector kind core a here bytes) whole.here) in
              let goes_on = moved.answers in
              is
              ∙ ap (λ (r : Result ⊤ Stop). after_answer one.effects r (λ _. left_to_move (core_left core one.effects) (a + 100) (sector + 1) left whole.given)) goes_on
              ∙ ap (λ (t : Trace DiskEffect ⊤ Stop). does_all one.effects t)
              (ap (λ (c : List ℕ). left_to_move c (a + 100) (sector + 1) left whole.given) (sym moved.all.core_is)
              ∙ same_ahead left mid_core (a + 100) (sector + 1) whole.given g (λ k below. whole.ahead k (omega arith)))

          all_on : (new : List ℕ) (new_panel : Panel) (after : Seen) (r : Result ⊤ Stop) → Transferred rest_of (disk_moment mid_core mid_panel mid) (disk_moment new new_panel after) r → Transferred (left_to_move core a sector (suc left)) (disk_moment core panel now) (disk_moment new new_panel after) r
          all_on new new_panel after r rest =
              let whole = whole_of rest.given rest.told in
              let is = whole_is rest.given whole in
              record {
                given = whole.given;
                told = whole.told;
                answers = ap (λ (t : Trace DiskEffect ⊤ Stop). t.answer) is ∙ rest.answers;
                all = subst (λ (t : Trace DiskEffect ⊤ Stop). Done t.effects core panel now new new_panel after) (sym is) (done_on one.effects (rest_of rest.given).effects core panel now mid_core mid_panel mid new new_panel after moved.all rest.all);
              }

          -- the rest follows one sector
          pub moves_on : (new : List ℕ) (new_panel : Panel) (after : Seen) (answer : DiskIo) → Transfers rest_of (disk_moment mid_core mid_panel mid) (disk_moment new new_panel after) answer → Transfers (left_to_move core a sector (suc left)) (disk_moment core panel now) (disk_moment new new_panel after) answer
          moves_on new new_panel after io.Done rest = all_on new new_panel after (Ok tt) rest
          moves_on new new_panel after (io.Stop why) rest = all_on new new_panel after (Err why) rest
          moves_on new new_panel after io.Failed rest =
              let whole = whole_of rest.given rest.told in
              let is = whole_is rest.given whole in
              let part = take-append-add one.effects (rest_of rest.given).effects rest.done in
              record {
                given = whole.given;
                told = whole.told;
                done = length one.effects + rest.done;
                part = subst (λ (t : Trace DiskEffect ⊤ Stop). Done (take (length one.effects + rest.done) t.effects) core panel now new new_panel after) (sym is)
                    (subst (λ (es : List DiskEffect). Done es core panel now new new_panel after) (sym part) (done_on one.effects (take rest.done (rest_of rest.given).effects) core panel now mid_core mid_panel mid new new_panel after moved.all rest.part));
                rose = omega (arith, moved.all.goes.later, rest.rose);
              }

-- Who moves the rest t from here on has moved the whole from the start.
pub record Onward (t : (ℕ → List ℕ) → Trace DiskEffect ⊤ Stop) (core : List ℕ) (panel : Panel) (now : Seen) (whole : (ℕ → List ℕ) → Trace DiskEffect ⊤ Stop) (start : List ℕ) (start_panel : Panel) (first : Seen) : Type 0 where
  pub by : (new : List ℕ) (new_panel : Panel) (after : Seen) (answer : DiskIo) → Transfers t (disk_moment core panel now) (disk_moment new new_panel after) answer → Transfers whole (disk_moment start start_panel first) (disk_moment new new_panel after) answer

pub onward_start : (t : (ℕ → List ℕ) → Trace DiskEffect ⊤ Stop) (core : List ℕ) (panel : Panel) (now : Seen) → Onward t core panel now t core panel now
onward_start t core panel now = record { by = λ new new_panel after answer rest. rest }

-- an alarm, and then a check
alarmed : (t : Trace DiskEffect ⊤ Stop) (panel new_panel : Panel) (answer : DiskIo) → LooksForMark t (set CYLINDER_OVERFLOW true panel) new_panel answer → LooksForMark (alarm_first CYLINDER_OVERFLOW t) panel new_panel answer
alarmed t panel new_panel io.Done looks = record { answers = looks.answers; panel_is = looks.panel_is }
alarmed t panel new_panel (io.Stop why) looks = record { answers = looks.answers; panel_is = looks.panel_is }
alarmed t panel new_panel io.Failed looks = looks

-- a move leaves core as long as it was
pub still_long : (t : List ℕ → Trace DiskEffect ⊤ Stop) (sector : ℕ) (core : List ℕ) (panel : Panel) (before : Seen) (new : List ℕ) (new_panel : Panel) (after : Seen) (r : Result ⊤ Stop) → MovedSector t sector (disk_moment core panel before) (disk_moment new new_panel after) r → length new ≡ length core
still_long t sector core panel before new new_panel after r moved = ap (λ (c : List ℕ). length c) moved.all.core_is ∙ length_left core (t moved.given).effects

-- Sectors up to an end are left to move.
module _ (kind : DiskKind) (drive cylinder end : ℕ) (core : List ℕ) (a sector : ℕ) (panel : Panel) (now : Seen) (whole : (ℕ → List ℕ) → Trace DiskEffect ⊤ Stop) (start : List ℕ) (start_panel : Panel) (first : Seen) where
  abbrev pub Going : Type 0
  Going = Onward (left_to_move kind drive cylinder core a sector (end - sector)) core panel now whole start start_panel first

  -- none is left
  pub none_left : end ≤ sector → Going → (new_panel : Panel) (answer : DiskIo) → LooksForMark (group_check kind core a) panel new_panel answer → Transfers whole (disk_moment start start_panel first) (disk_moment core new_panel now) answer
  none_left all going new_panel answer looks =
      let none : end - sector ≡ 0 = omega arith in
      let onward = rw none at going in
      onward.by core new_panel now answer (looks_all (left_to_move kind drive cylinder core a sector 0) core panel now (group_check kind core a) new_panel answer (check_lights kind core a) (moves_none kind drive cylinder core a sector 0 panel now) looks)

  module _ (below : sector < end) where
    abbrev behind_it : ℕ
    behind_it = end - (sector + 1)

    one_more : end - sector ≡ suc behind_it
    one_more = omega arith

    -- the cylinder has ended
    pub over : cylinder_of sector ≢ cylinder → Going → (new_panel : Panel) (answer : DiskIo) → LooksForMark (group_check kind core a) (set CYLINDER_OVERFLOW true panel) new_panel answer → Transfers whole (disk_moment start start_panel first) (disk_moment core new_panel now) answer
    over other going new_panel answer looks =
        let onward = rw one_more at going in
        let test : (cylinder_of sector == cylinder) ≡ false = grind (arith, nat_tests) in
        onward.by core new_panel now answer
        (looks_all (left_to_move kind drive cylinder core a sector (suc behind_it)) core panel now (alarm_first CYLINDER_OVERFLOW (group_check kind core a)) new_panel answer (check_lights kind core a) (moves_over kind drive cylinder core a sector behind_it panel now test)
        (alarmed (group_check kind core a) panel new_panel answer looks))

    module _ (same : cylinder_of sector ≡ cylinder) where
      test : (cylinder_of sector == cylinder) ≡ true
      test = grind (arith, nat_tests)

      -- the cells end
      pub out : length core < a + 100 → Going → Transferred whole (disk_moment start start_panel first) (disk_moment core panel now) (Err Address)
      out past going =
          let onward = rw one_more at going in
          onward.by core panel now (io.Stop Address)
          (looks_all (left_to_move kind drive cylinder core a sector (suc behind_it)) core panel now (ends (Err Address)) panel (io.Stop Address) tt (moves_out kind drive cylinder core a sector behind_it panel now test (omega arith)) (record { answers = refl; panel_is = refl }))

      module _ (room : a + 100 ≤ length core) where
        -- a sector ends the moving
        pub ended : Going → (new : List ℕ) (new_panel : Panel) (after : Seen) (answer : DiskIo) → answer ≢ io.Done → MovesSector (move_sector kind core a (host_sector drive sector)) (host_sector drive sector) (disk_moment core panel now) (disk_moment new new_panel after) answer
            → Transfers whole (disk_moment start start_panel first) (disk_moment new new_panel after) answer
        ended going new new_panel after answer other moved =
            let onward = rw one_more at going in
            onward.by new new_panel after answer (ends_within kind drive cylinder core a sector behind_it panel now test (omega arith) new new_panel after answer other moved)

        -- a sector moves, and the moving goes on
        pub moved_on : Going → (mid_core : List ℕ) (mid_panel : Panel) (mid : Seen) → MovedSector (move_sector kind core a (host_sector drive sector)) (host_sector drive sector) (disk_moment core panel now) (disk_moment mid_core mid_panel mid) (Ok tt)
            → Onward (left_to_move kind drive cylinder mid_core (a + 100) (sector + 1) behind_it) mid_core mid_panel mid whole start start_panel first
        moved_on going mid_core mid_panel mid moved =
            let onward = rw one_more at going in
            record { by = λ new new_panel after answer rest. onward.by new new_panel after answer (moves_on kind drive cylinder core a sector behind_it panel now test (omega arith) mid_core mid_panel mid moved new new_panel after answer rest) }
