-- One sector, as it moves.
use Rattle.std.proofs.Common.{◌≡◌, ℕ, ◌≤◌, ◌⊎◌, inl, inr, List, [], ◌∷◌, length, replicate, map, Result, Ok, Err, refl, sym, ◌∙◌, ap, subst, arith}
use Rattle.std.specs.Prelude.{Option, Some, None, option_map, IfSome, ⊤}
use Rattle.digit_core.specs.declared.Digit.{Digit}
use Rattle.digit_core.specs.Cell.{store}
use Rattle.indicators.specs.declared.Panel.{Panel}
use Rattle.indicators.specs.Panel.{set}
use Rattle.outside_io.specs.World.{World, Seen, Goes, GetsSector, zero_character, pack_sector_text, with_sector_written}
use Rattle.outside_io.specs.declared.host.TheConstants.{SECTOR_LENGTH}
use Rattle.outside_io.specs.Frame.{Tells}
use Rattle.addr_indirect.specs.declared.Stop.{Stop}
use Rattle.addr_indirect.specs.Reading.{read_up}
use Rattle.traces.specs.Trace.{Trace, ends, does, ◌>>=◌, lift, map_answer}
use Rattle.traces.specs.Change.{Change, StoresCell, Lights, Changed, core_after_changes, panel_after_changes}
use Rattle.card_code.specs.Characters.{object_char}
use Rattle.outside_io.proofs.Packs.{filled_text}
use Rattle.disk_1311.specs.Sector.{DiskEffect, Alters, Records, core_left, read_sector, compare_sector, write_sector}
use Rattle.disk_1311.specs.DiskCalls.{disk_moment, panel_left, sectors_left, world_left}
use Rattle.disk_1311.specs.Disk.{move_sector}
use Rattle.disk_1311.specs.Moving.{MovedSector}
use Rattle.disk_1311.specs.declared.DiskKind.{DiskKind}
use Rattle.disk_1311.specs.declared.DiskKind.TheVariants.{Rdgn, Cdgn, Rdn, Cdn, Wdgn, Wdn}

-- Changes of core and panel alone, as effects.
core_left-alters : (core : List ℕ) (cs : List Change) → core_left core (map Alters cs) ≡ core_after_changes core cs
core_left-alters core [] = refl
core_left-alters core (StoresCell s ∷ cs) = core_left-alters (store core s.at s.digit) cs
core_left-alters core (Lights l ∷ cs) = core_left-alters core cs

panel_left-alters : (panel : Panel) (cs : List Change) → panel_left panel (map Alters cs) ≡ panel_after_changes panel cs
panel_left-alters panel [] = refl
panel_left-alters panel (StoresCell s ∷ cs) = panel_left-alters panel cs
panel_left-alters panel (Lights l ∷ cs) = panel_left-alters (set l.code l.to panel) cs

pub sectors_left-alters : (sectors : ℕ → List ℕ) (cs : List Change) → sectors_left sectors (map Alters cs) ≡ sectors
sectors_left-alters sectors [] = refl
sectors_left-alters sectors (c ∷ cs) = sectors_left-alters sectors cs

-- They leave the outside as it is.
told_stay : (o : Option (ℕ → List ℕ)) (cs : List Change) → option_map (λ sectors. sectors_left sectors (map Alters cs)) o ≡ o
told_stay None cs = refl
told_stay (Some sectors) cs = ap (λ (x : ℕ → List ℕ). Some x) (sectors_left-alters sectors cs)

world_stays : (w : World) (cs : List Change) → w ≡ world_left w (map Alters cs)
world_stays w cs = ap (λ (o : Option (ℕ → List ℕ)). record w { sectors = o }) (sym (told_stay w.sectors cs))

-- a whole text of a sector, which is the told one where the sectors are told
record Text (o : Option (ℕ → List ℕ)) (a : ℕ) : Type 0 where
  given : List ℕ
  whole : SECTOR_LENGTH ≤ length given
  told : Tells (option_map (λ sectors. pack_sector_text sectors a) o) given

a_text : (o : Option (ℕ → List ℕ)) (a : ℕ) → Text o a
a_text None a = record { given = replicate 100 zero_character; whole = omega arith; told = tt }
a_text (Some sectors) a = record { given = pack_sector_text sectors a; whole = filled_text 100 (sectors a); told = refl }

-- a sector's text is the told one where the sectors are told
told_sector : (o : Option (ℕ → List ℕ)) (a : ℕ) (bytes : List ℕ) → IfSome o (λ sectors. bytes ≡ pack_sector_text sectors a) → Tells (option_map (λ sectors. pack_sector_text sectors a) o) bytes
told_sector None a bytes are = tt
told_sector (Some sectors) a bytes are = sym are

module _ (a sector : ℕ) (core : List ℕ) (panel : Panel) (before : Seen) (new : List ℕ) (new_panel : Panel) (after : Seen) (r : Result ⊤ Stop) where
  -- the sector was read, and core and panel changed
  moved_by : (t : List ℕ → Trace Change ⊤ Stop) (bytes : List ℕ) → SECTOR_LENGTH ≤ length bytes → Changed core panel (t bytes) new new_panel r → GetsSector before after sector bytes → MovedSector (λ bytes. lift Alters (t bytes)) sector (disk_moment core panel before) (disk_moment new new_panel after) r
  moved_by t bytes whole changed gets = record {
    given = bytes;
    whole = whole;
    told = told_sector before.world.sectors sector bytes gets.bytes_are;
    answers = sym changed.answers;
    all = record {
      core_is = changed.leaves ∙ sym (core_left-alters core (t bytes).effects);
      panel_is = changed.shows ∙ sym (panel_left-alters panel (t bytes).effects);
      goes = subst (λ (w : World). Goes before after w) (world_stays before.world (t bytes).effects) gets.goes;
    };
  }

  -- R and C
  pub moved_in : (kind : DiskKind) (bytes : List ℕ) → SECTOR_LENGTH ≤ length bytes → (kind ≡ Rdgn) ⊎ (kind ≡ Rdn) → Changed core panel (read_sector a bytes) new new_panel r → GetsSector before after sector bytes → MovedSector (move_sector kind core a sector) sector (disk_moment core panel before) (disk_moment new new_panel after) r
  moved_in kind bytes whole (inl is) changed gets = subst (λ (k : DiskKind). MovedSector (move_sector k core a sector) sector (disk_moment core panel before) (disk_moment new new_panel after) r) (sym is) (moved_by (read_sector a) bytes whole changed gets)
  moved_in kind bytes whole (inr is) changed gets = subst (λ (k : DiskKind). MovedSector (move_sector k core a sector) sector (disk_moment core panel before) (disk_moment new new_panel after) r) (sym is) (moved_by (read_sector a) bytes whole changed gets)

  pub moved_beside : (kind : DiskKind) (bytes : List ℕ) → SECTOR_LENGTH ≤ length bytes → (kind ≡ Cdgn) ⊎ (kind ≡ Cdn) → Changed core panel (compare_sector core a bytes) new new_panel r → GetsSector before after sector bytes → MovedSector (move_sector kind core a sector) sector (disk_moment core panel before) (disk_moment new new_panel after) r
  moved_beside kind bytes whole (inl is) changed gets = subst (λ (k : DiskKind). MovedSector (move_sector k core a sector) sector (disk_moment core panel before) (disk_moment new new_panel after) r) (sym is) (moved_by (compare_sector core a) bytes whole changed gets)
  moved_beside kind bytes whole (inr is) changed gets = subst (λ (k : DiskKind). MovedSector (move_sector k core a sector) sector (disk_moment core panel before) (disk_moment new new_panel after) r) (sym is) (moved_by (compare_sector core a) bytes whole changed gets)

-- the writing of characters that were read
abbrev pub writing : ℕ → Result (List Digit) Stop → Trace DiskEffect ⊤ Stop
writing sector r = r >>= (λ ds. does (Records sector (map object_char ds)) (ends (Ok tt)))

text_written : (sector : ℕ) (text : List ℕ) (r : Result (List Digit) Stop) → Ok text ≡ map_answer (map object_char) r → writing sector r ≡ does (Records sector text) (ends (Ok tt))
text_written sector text (Ok ds) is = let same : text ≡ map object_char ds = cc in rw same
text_written sector text (Err s) is = cc

no_text : (sector : ℕ) (why : Stop) (r : Result (List Digit) Stop) → Err why ≡ map_answer (map object_char) r → writing sector r ≡ ends (Err why)
no_text sector why (Ok ds) is = cc
no_text sector why (Err s) is = let same : why ≡ s = cc in rw same

module _ (a sector : ℕ) (core : List ℕ) (panel : Panel) (before after : Seen) where
  here : Text before.world.sectors sector
  here = a_text before.world.sectors sector

  -- the sector was written
  out : (text : List ℕ) → Ok text ≡ map_answer (map object_char) (read_up core a 100) → Goes before after (with_sector_written sector text before.world) → MovedSector (λ bytes. write_sector core a sector) sector (disk_moment core panel before) (disk_moment core panel after) (Ok tt)
  out text is goes = rw (text_written sector text (read_up core a 100) is) (record {
    given = here.given;
    whole = here.whole;
    told = here.told;
    answers = refl;
    all = record { core_is = refl; panel_is = refl; goes = goes };
  })

  -- a cell was bad, and nothing was done
  stopped : (why : Stop) → Err why ≡ map_answer (map object_char) (read_up core a 100) → MovedSector (λ bytes. write_sector core a sector) sector (disk_moment core panel before) (disk_moment core panel before) (Err why)
  stopped why is = rw (no_text sector why (read_up core a 100) is) (record {
    given = here.given;
    whole = here.whole;
    told = here.told;
    answers = refl;
    all = record { core_is = refl; panel_is = refl; goes = record { later = omega arith; world = world_stays before.world [] } };
  })

  -- W
  pub moved_out : (kind : DiskKind) (text : List ℕ) → (kind ≡ Wdgn) ⊎ (kind ≡ Wdn) → Ok text ≡ map_answer (map object_char) (read_up core a 100) → Goes before after (with_sector_written sector text before.world) → MovedSector (move_sector kind core a sector) sector (disk_moment core panel before) (disk_moment core panel after) (Ok tt)
  moved_out kind text (inl is) reads goes = subst (λ (k : DiskKind). MovedSector (move_sector k core a sector) sector (disk_moment core panel before) (disk_moment core panel after) (Ok tt)) (sym is) (out text reads goes)
  moved_out kind text (inr is) reads goes = subst (λ (k : DiskKind). MovedSector (move_sector k core a sector) sector (disk_moment core panel before) (disk_moment core panel after) (Ok tt)) (sym is) (out text reads goes)

  pub stopped_out : (kind : DiskKind) (why : Stop) → (kind ≡ Wdgn) ⊎ (kind ≡ Wdn) → Err why ≡ map_answer (map object_char) (read_up core a 100) → MovedSector (move_sector kind core a sector) sector (disk_moment core panel before) (disk_moment core panel before) (Err why)
  stopped_out kind why (inl is) stops = subst (λ (k : DiskKind). MovedSector (move_sector k core a sector) sector (disk_moment core panel before) (disk_moment core panel before) (Err why)) (sym is) (stopped why stops)
  stopped_out kind why (inr is) stops = subst (λ (k : DiskKind). MovedSector (move_sector k core a sector) sector (disk_moment core panel before) (disk_moment core panel before) (Err why)) (sym is) (stopped why stops)
