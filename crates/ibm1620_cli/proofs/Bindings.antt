-- Files are bound to the units in their order.
use Rattle.std.proofs.Common.{◌≡◌, ℕ, zero, suc, ◌+◌, ◌<◌, List, [], ◌∷◌, length, take, get_or, Bool, true, false, ◌&&◌, not, refl, sym, ◌∙◌, ap, arith}
use Rattle.std.specs.Prelude.{Option, Some, None, IfSome, option_map, if◌then◌else◌}
use Rattle.std.specs.List.{list_all, range_with_len}
use Rattle.std.proofs.lemmas.List.FromFn.{get_or-range_with_len}
use Rattle.std.proofs.lemmas.List.Sums.{AllPass-from_list_all}
use Rattle.outside_io.specs.declared.host.Unit as unit
use Rattle.outside_io.specs.declared.host.Unit.TheVariants as units
use Rattle.outside_io.specs.declared.host.TheConstants.{UNIT_COUNT}
use Rattle.outside_io.specs.declared.host.Bound.{Bound}
use Rattle.outside_io.specs.declared.host.Bound.TheVariants as bound
use Rattle.outside_io.specs.World.{World, Seen, Goes, Binds, HasNoText, IsFree, same_unit, is_output, at, is_input, world_after_binding, is_pack, sectors_after_binding, all_units}
use Rattle.outside_io.proofs.InMemory.{same_unit-eq}
use Rattle.outside_io.proofs.Worlds.{same_unit-refl}
use Rattle.command_line.specs.Words.{Names}
use Rattle.ibm1620_cli.specs.Binding.{bound_if, each_bound, first_bound, all_bound, BindsIf}

-- a binding is one by a name
pub binds_if_some : (old new : Seen) (u : unit.Unit) (name : List ℕ) (answer : Bound) → Binds old new u name answer → BindsIf old new u (Some name) answer
binds_if_some old new u name bound.Yes binds = binds
binds_if_some old new u name bound.Failed binds = binds

-- one unit after another
each_more : (us : List unit.Unit) (n : ℕ) (d : unit.Unit) (names : Names) (w : World) → n < length us → each_bound (take (n + 1) us) names w ≡ bound_if (get_or us n d) (names (get_or us n d)) (each_bound (take n us) names w)
each_more [] n d names w h = absurd (omega arith)
each_more (u ∷ us) zero d names w h = refl
each_more (u ∷ us) (suc n) d names w h =
    let k : suc n + 1 ≡ suc (n + 1) = omega arith in
    rw k (each_more us n d names (bound_if u (names u) w) (omega arith))

pub first_more : (n : ℕ) (names : Names) (w : World) → n < UNIT_COUNT → first_bound (n + 1) names w ≡ bound_if (get_or all_units n units.Source) (names (get_or all_units n units.Source)) (first_bound n names w)
first_more n names w h = each_more all_units n units.Source names w h

-- The units of a list that another one is not among.
abbrev IsNotIn : unit.Unit → List unit.Unit → Bool
IsNotIn v us = list_all (λ u. not (same_unit u v)) us

in_use_by : (same : Bool) (was : Bool) → not same ≡ true → (if same then true else was) ≡ was
in_use_by true was other = cc
in_use_by false was other = refl

if_true : (same was : Bool) → was ≡ true → (if same then true else was) ≡ true
if_true true was used = refl
if_true false was used = used

bound_in_use : (u : unit.Unit) (name : Option (List ℕ)) (w : World) (v : unit.Unit) → not (same_unit u v) ≡ true → (bound_if u name w).in_use v ≡ w.in_use v
bound_in_use u None w v other = refl
bound_in_use u (Some name) w v other = in_use_by (same_unit u v) (w.in_use v) other

both : (a b : Bool) → (a && b) ≡ true → (a ≡ true) × (b ≡ true)
both true b h = (refl, h)
both false b h = cc

each_in_use : (us : List unit.Unit) (names : Names) (w : World) (v : unit.Unit) → IsNotIn v us ≡ true → (each_bound us names w).in_use v ≡ w.in_use v
each_in_use [] names w v other = refl
each_in_use (u ∷ us) names w v other =
    let two = both (not (same_unit u v)) (IsNotIn v us) other in
    each_in_use us names (bound_if u (names u) w) v two.1 ∙ bound_in_use u (names u) w v two.0

-- a unit is not among those in front of it
all_later : list_all (λ n. IsNotIn (get_or all_units n units.Source) (take n all_units)) (range_with_len 0 UNIT_COUNT) ≡ true
all_later = refl

pub not_yet : (n : ℕ) → n < UNIT_COUNT → IsNotIn (get_or all_units n units.Source) (take n all_units) ≡ true
not_yet n h =
    let at : get_or (range_with_len 0 UNIT_COUNT) n 0 ≡ n = get_or-range_with_len 0 UNIT_COUNT n 0 h ∙ omega arith in
    ap (λ (k : ℕ). IsNotIn (get_or all_units k units.Source) (take k all_units)) (sym at)
    ∙ AllPass-from_list_all (λ k. IsNotIn (get_or all_units k units.Source) (take k all_units)) (range_with_len 0 UNIT_COUNT) all_later n 0 h

-- so it is free when its turn comes
pub free_yet : (n : ℕ) (names : Names) (w : World) → n < UNIT_COUNT → IsFree w → (first_bound n names w).in_use (get_or all_units n units.Source) ≡ false
free_yet n names w h free = each_in_use (take n all_units) names w (get_or all_units n units.Source) (not_yet n h) ∙ free (get_or all_units n units.Source)

-- No text has a byte where files are bound.
none_same : (same : Bool) (o : Option (List ℕ)) → IfSome o (λ text. text ≡ []) → IfSome (if same then option_map (λ _. []) o else o) (λ text. text ≡ [])
none_same true None none = tt
none_same true (Some text) none = refl
none_same false o none = none

none_by : (output : Bool) (v : unit.Unit) (w : World) → HasNoText w → (u : unit.Unit) → IfSome ((if output then at v (option_map (λ _. [])) w.written else w.written) u) (λ text. text ≡ [])
none_by true v w none u = none_same (same_unit v u) (w.written u) (none u)
none_by false v w none u = none u

bound_none : (v : unit.Unit) (name : Option (List ℕ)) (w : World) → HasNoText w → HasNoText (bound_if v name w)
bound_none v None w none = none
bound_none v (Some name) w none = none_by (is_output v) v w none

each_none : (us : List unit.Unit) (names : Names) (w : World) → HasNoText w → HasNoText (each_bound us names w)
each_none [] names w none = none
each_none (u ∷ us) names w none = each_none us names (bound_if u (names u) w) (bound_none u (names u) w none)

pub first_none : (n : ℕ) (names : Names) (w : World) → HasNoText w → HasNoText (first_bound n names w)
first_none n names w none = each_none (take n all_units) names w none

-- the unit at a place was bound, where there is a name for it
pub bound_here : (n : ℕ) (names : Names) (start now next : Seen) (u : unit.Unit) (name : Option (List ℕ)) → n < UNIT_COUNT → u ≡ get_or all_units n units.Source → name ≡ names u → Goes start now (first_bound n names start.world) → Goes now next (bound_if u name now.world) → Goes start next (first_bound (n + 1) names start.world)
bound_here n names start now next u name h here named so_far goes = record {
  later = omega (arith, so_far.later, goes.later);
  world = goes.world
      ∙ ap (λ (w : World). bound_if u name w) so_far.world
      ∙ ap (λ (o : Option (List ℕ)). bound_if u o (first_bound n names start.world)) named
      ∙ ap (λ (v : unit.Unit). bound_if v (names v) (first_bound n names start.world)) here
      ∙ sym (first_more n names start.world h);
}

-- bindings ask no unit
bound_asked : (u : unit.Unit) (name : Option (List ℕ)) (w : World) → (bound_if u name w).asked ≡ w.asked
bound_asked u None w = refl
bound_asked u (Some name) w = refl

each_asked : (us : List unit.Unit) (names : Names) (w : World) → (each_bound us names w).asked ≡ w.asked
each_asked [] names w = refl
each_asked (u ∷ us) names w = each_asked us names (bound_if u (names u) w) ∙ bound_asked u (names u) w

pub first_asked : (n : ℕ) (names : Names) (w : World) → (first_bound n names w).asked ≡ w.asked
first_asked n names w = each_asked (take n all_units) names w

-- WHAT THE INPUTS HAVE

-- in a world that came of another by bindings of these names: a unit has the bytes of its file, where one is bound, and else what it had
record IsOf (names : Names) (w v : World) (u : unit.Unit) : Type 0 where
  file : v.file ≡ w.file
  left : v.left u ≡ (if v.in_use u then (bound_if u (names u) w).left u else w.left u)

abbrev Left : World → Option (List ℕ) → unit.Unit → Option (List ℕ)
Left w o u = (bound_if u o w).left u

other_left : (input same : Bool) (to was : Option (List ℕ)) → same ≡ false → (if input then (if same then to else was) else was) ≡ was
other_left false same to was other = refl
other_left true true to was other = cc
other_left true false to was other = refl

left_at : (input : Bool) (v : unit.Unit) (to : Option (List ℕ)) (texts : unit.Unit → Option (List ℕ)) (u : unit.Unit) → (if input then at v (λ _. to) texts else texts) u ≡ (if input then (if same_unit v u then to else texts u) else texts u)
left_at true v to texts u = refl
left_at false v to texts u = refl

either_way : (b : Bool) (x y z : Option (List ℕ)) → y ≡ z → x ≡ (if b then y else z) → x ≡ z
either_way true x y z same is = is ∙ same
either_way false x y z same is = is

same_left : (input : Bool) (to was had from : Option (List ℕ)) → to ≡ from → (input ≡ false → was ≡ had) → (if input then to else was) ≡ (if input then from else had)
same_left true to was had from is other = is
same_left false to was had from is other = other refl

not_input : (input : Bool) (from had : Option (List ℕ)) → input ≡ false → (if input then from else had) ≡ had
not_input true from had none = cc
not_input false from had none = refl

own_left : (u : unit.Unit) (name : List ℕ) (w : World) → (world_after_binding u name w).left u ≡ (if is_input u then w.file name else w.left u)
own_left u name w =
    left_at (is_input u) u (w.file name) w.left u ∙ ap (λ (b : Bool). if is_input u then (if b then w.file name else w.left u) else w.left u) (same_unit-refl u)

bound_of : (names : Names) (w v : World) (u x : unit.Unit) (o : Option (List ℕ)) (b : Bool) → names x ≡ o → same_unit x u ≡ b → IsOf names w v u → IsOf names w (bound_if x o v) u
bound_of names w v u x None b named same of = of
bound_of names w v u x (Some name) false named other of = record {
  file = of.file;
  left = left_at (is_input x) x (v.file name) v.left u
      ∙ other_left (is_input x) (same_unit x u) (v.file name) (v.left u) other
      ∙ of.left
      ∙ ap (λ (b : Bool). if (if b then true else v.in_use u) then Left w (names u) u else w.left u) (sym other);
}
bound_of names w v u x (Some name) true named same of =
    let is : x ≡ u = same_unit-eq x u same in
    let named_here : names u ≡ Some name = ap names (sym is) ∙ named in
    let here : (world_after_binding u name w).left u ≡ Left w (names u) u = ap (λ (o : Option (List ℕ)). Left w o u) (sym named_here) in
    record {
      file = of.file;
      left = ap (λ (y : unit.Unit). (world_after_binding y name v).left u) is
          ∙ own_left u name v
          ∙ same_left (is_input u) (v.file name) (v.left u) (w.left u) (w.file name) (ap (λ (f : List ℕ → Option (List ℕ)). f name) of.file)
          (λ none. either_way (v.in_use u) (v.left u) (Left w (names u) u) (w.left u) (sym here ∙ own_left u name w ∙ not_input (is_input u) (w.file name) (w.left u) none) of.left)
          ∙ sym (own_left u name w)
          ∙ here
          ∙ ap (λ (b : Bool). if (if b then true else v.in_use u) then Left w (names u) u else w.left u) (sym same);
    }

each_of : (us : List unit.Unit) (names : Names) (w v : World) (u : unit.Unit) → IsOf names w v u → IsOf names w (each_bound us names v) u
each_of [] names w v u of = of
each_of (x ∷ us) names w v u of = each_of us names w (bound_if x (names x) v) u (bound_of names w v u x (names x) (same_unit x u) refl refl of)

-- what is in use stays so
stays_used : (x : unit.Unit) (o : Option (List ℕ)) (v : World) (u : unit.Unit) → v.in_use u ≡ true → (bound_if x o v).in_use u ≡ true
stays_used x None v u used = used
stays_used x (Some name) v u used = if_true (same_unit x u) (v.in_use u) used

each_used : (us : List unit.Unit) (names : Names) (v : World) (u : unit.Unit) → v.in_use u ≡ true → (each_bound us names v).in_use u ≡ true
each_used [] names v u used = used
each_used (x ∷ us) names v u used = each_used us names (bound_if x (names x) v) u (stays_used x (names x) v u used)

first_used : (n : ℕ) (us : List unit.Unit) (names : Names) (v : World) (u : unit.Unit) → (each_bound (take n us) names v).in_use u ≡ true → (each_bound us names v).in_use u ≡ true
first_used zero us names v u used = each_used us names v u used
first_used (suc n) [] names v u used = used
first_used (suc n) (x ∷ us) names v u used = first_used n us names (bound_if x (names x) v) u used

by_use : {A : Type 0} (b c : Bool) (x y z t : A) → (b ≡ true → c ≡ true) → x ≡ (if b then y else z) → t ≡ (if c then y else z) → x ≡ (if b then t else z)
by_use true c x y z t both first whole = first ∙ sym (whole ∙ ap (λ (d : Bool). if d then y else z) (both refl))
by_use false c x y z t both first whole = first

-- once some of the files are bound each unit with a file has its bytes, as once all are, and the others what they had
pub bound_left : (n : ℕ) (names : Names) (w : World) (u : unit.Unit) → w.in_use u ≡ false → (first_bound n names w).left u ≡ (if (first_bound n names w).in_use u then (all_bound names w).left u else w.left u)
bound_left n names w u free =
    let start : IsOf names w w u = record { file = refl; left = ap (λ (b : Bool). if b then Left w (names u) u else w.left u) (sym free) } in
    let some = each_of (take n all_units) names w w u start in
    let whole = each_of (take UNIT_COUNT all_units) names w w u start in
    by_use ((first_bound n names w).in_use u) ((all_bound names w).in_use u) ((first_bound n names w).left u) (Left w (names u) u) (w.left u) ((all_bound names w).left u) (first_used n all_units names w u) some.left whole.left

-- WHAT THE PACK HAS

-- likewise the pack: the sectors of its file, where one is bound, and else those that it had
record IsPackOf (names : Names) (w v : World) : Type 0 where
  file : v.file ≡ w.file
  sectors : v.sectors ≡ (if v.in_use units.Pack then (bound_if units.Pack (names units.Pack) w).sectors else w.sectors)

not_pack : (x : unit.Unit) → same_unit x units.Pack ≡ false → is_pack x ≡ false
not_pack units.Pack other = cc
not_pack x other = refl

packed_twice : (file : Option (List ℕ)) (s : Option (ℕ → List ℕ)) → sectors_after_binding file (sectors_after_binding file s) ≡ sectors_after_binding file s
packed_twice file None = refl
packed_twice None (Some s) = refl
packed_twice (Some bytes) (Some s) = refl

either_pack : (b : Bool) (file : Option (List ℕ)) (s z : Option (ℕ → List ℕ)) → z ≡ (if b then sectors_after_binding file s else s) → sectors_after_binding file z ≡ sectors_after_binding file s
either_pack true file s z is = ap (sectors_after_binding file) is ∙ packed_twice file s
either_pack false file s z is = ap (sectors_after_binding file) is

pack_of : (names : Names) (w v : World) (x : unit.Unit) (o : Option (List ℕ)) (b : Bool) → names x ≡ o → same_unit x units.Pack ≡ b → IsPackOf names w v → IsPackOf names w (bound_if x o v)
pack_of names w v x None b named same of = of
pack_of names w v x (Some name) false named other of = record {
  file = of.file;
  sectors = ap (λ (p : Bool). if p then sectors_after_binding (v.file name) v.sectors else v.sectors) (not_pack x other)
      ∙ of.sectors
      ∙ ap (λ (c : Bool). if (if c then true else v.in_use units.Pack) then (bound_if units.Pack (names units.Pack) w).sectors else w.sectors) (sym other);
}
pack_of names w v x (Some name) true named same of =
    let is : x ≡ units.Pack = same_unit-eq x units.Pack same in
    let here : names units.Pack ≡ Some name = ap names (sym is) ∙ named in
    record {
      file = of.file;
      sectors = ap (λ (y : unit.Unit). (world_after_binding y name v).sectors) is
          ∙ either_pack (v.in_use units.Pack) (v.file name) w.sectors v.sectors
          (of.sectors
          ∙ ap (λ (o : Option (List ℕ)). if v.in_use units.Pack then (bound_if units.Pack o w).sectors else w.sectors) here
          ∙ ap (λ (f : List ℕ → Option (List ℕ)). if v.in_use units.Pack then sectors_after_binding (f name) w.sectors else w.sectors) (sym of.file))
          ∙ ap (λ (f : List ℕ → Option (List ℕ)). sectors_after_binding (f name) w.sectors) of.file
          ∙ ap (λ (o : Option (List ℕ)). (bound_if units.Pack o w).sectors) (sym here)
          ∙ ap (λ (c : Bool). if (if c then true else v.in_use units.Pack) then (bound_if units.Pack (names units.Pack) w).sectors else w.sectors) (sym same);
    }

each_pack : (us : List unit.Unit) (names : Names) (w v : World) → IsPackOf names w v → IsPackOf names w (each_bound us names v)
each_pack [] names w v of = of
each_pack (x ∷ us) names w v of = each_pack us names w (bound_if x (names x) v) (pack_of names w v x (names x) (same_unit x units.Pack) refl refl of)

-- once some of the files are bound the pack has what it has once all are, where its file is one of them, and else what it had
pub bound_sectors : (n : ℕ) (names : Names) (w : World) → w.in_use units.Pack ≡ false → (first_bound n names w).sectors ≡ (if (first_bound n names w).in_use units.Pack then (all_bound names w).sectors else w.sectors)
bound_sectors n names w free =
    let start : IsPackOf names w w = record { file = refl; sectors = ap (λ (b : Bool). if b then (bound_if units.Pack (names units.Pack) w).sectors else w.sectors) (sym free) } in
    let some = each_pack (take n all_units) names w w start in
    let whole = each_pack (take UNIT_COUNT all_units) names w w start in
    by_use ((first_bound n names w).in_use units.Pack) ((all_bound names w).in_use units.Pack) (first_bound n names w).sectors (bound_if units.Pack (names units.Pack) w).sectors w.sectors (all_bound names w).sectors (first_used n all_units names w units.Pack) some.sectors whole.sectors
