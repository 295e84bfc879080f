-- What is done outside, one list behind the other, and first parts of a list.
use Rattle.std.proofs.Common.{◌≡◌, ℕ, ◌+◌, ◌≤◌, Bool, true, if◌then◌else◌, List, [], ◌∷◌, ◌++◌, refl, sym, ◌∙◌, ap, subst, arith, append_assoc}
use Rattle.std.proofs.lemmas.List.{map-append}
use Rattle.std.specs.Prelude.{Option, option_map}
use Rattle.outside_io.specs.declared.host.Unit as unit
use Rattle.outside_io.specs.World.{World, Readings, Seen, Rose, at, same_unit, kept_name, is_output, is_pack, sectors_after_binding, limits_after_put, world_after_put, world_after_take}
use Rattle.outside_io.specs.Whole.{Stops}
use Rattle.outside_io.specs.Events.{Event, BindFile, WriteByte, WriteSector, TakeCard, TakeLine, after_event, after_events, cards_in, lines_in, text_events, IsFirstPart, SameOutside, DidAll, DidPart}
use Rattle.outside_io.proofs.Worlds.{added_to-nil, added_to-append}

-- WORLDS

pub same_of : (w v : World) → w ≡ v → SameOutside w v
same_of w v is = record {
  file = ap (λ (x : World). x.file) is;
  in_use = ap (λ (x : World). x.in_use) is;
  names = ap (λ (x : World). x.names) is;
  written = ap (λ (x : World). x.written) is;
  sectors = ap (λ (x : World). x.sectors) is;
  limits = ap (λ (x : World). x.limits) is;
}

pub same_on : (w v u : World) → SameOutside w v → SameOutside v u → SameOutside w u
same_on w v u first second = record {
  file = first.file ∙ second.file;
  in_use = first.in_use ∙ second.in_use;
  names = first.names ∙ second.names;
  written = first.written ∙ second.written;
  sectors = first.sectors ∙ second.sectors;
  limits = first.limits ∙ second.limits;
}

pub same_sym : (w v : World) → SameOutside w v → SameOutside v w
same_sym w v same = record { file = sym same.file; in_use = sym same.in_use; names = sym same.names; written = sym same.written; sectors = sym same.sectors; limits = sym same.limits }

same_event : (d : Event) (w v : World) → SameOutside w v → SameOutside (after_event w d) (after_event v d)
same_event (BindFile u name) w v same = record {
  file = same.file;
  in_use = ap (λ (f : unit.Unit → Bool). λ x. if same_unit u x then true else f x) same.in_use;
  names = ap (λ (f : unit.Unit → Option (List ℕ)). λ x. if same_unit u x then kept_name name else f x) same.names;
  written = ap (λ (f : unit.Unit → Option (List ℕ)). if is_output u then at u (option_map (λ _. [])) f else f) same.written;
  sectors = λ i. if is_pack u then sectors_after_binding (same.file i name) (same.sectors i) else same.sectors i;
  limits = same.limits;
}
same_event (WriteByte u byte) w v same = record {
  file = same.file;
  in_use = same.in_use;
  names = same.names;
  written = ap (at u (option_map (λ text. text ++ (byte ∷ [])))) same.written;
  sectors = same.sectors;
  limits = λ i. option_map (limits_after_put u (byte ∷ []) (same.written i)) (same.limits i);
}
same_event (WriteSector a bytes) w v same = record {
  file = same.file;
  in_use = same.in_use;
  names = same.names;
  written = same.written;
  sectors = ap (λ (s : Option (ℕ → List ℕ)). (after_event (record w { sectors = s }) (WriteSector a bytes)).sectors) same.sectors;
  limits = same.limits;
}
same_event TakeCard w v same = same
same_event TakeLine w v same = same

pub same_events : (ds : List Event) (w v : World) → SameOutside w v → SameOutside (after_events w ds) (after_events v ds)
same_events [] w v same = same
same_events (d ∷ ds) w v same = same_events ds (after_event w d) (after_event v d) (same_event d w v same)

pub after_append : (ds es : List Event) (w : World) → after_events w (ds ++ es) ≡ after_events (after_events w ds) es
after_append [] es w = refl
after_append (d ∷ ds) es w = after_append ds es (after_event w d)

-- one list behind the other
pub did_on : (ds es : List Event) (a b c : World) → DidAll ds a b → DidAll es b c → DidAll (ds ++ es) a c
did_on ds es a b c first second =
    subst (λ (w : World). SameOutside c w) (sym (after_append ds es a))
    (same_on c (after_events b es) (after_events (after_events a ds) es) second (same_events es b (after_events a ds) first))

pub after_text : (u : unit.Unit) (text : List ℕ) (w : World) → after_events w (text_events u text) ≡ world_after_put u text w
after_text u [] w = sym (added_to-nil u w)
after_text u (b ∷ bs) w = after_text u bs (world_after_put u (b ∷ []) w) ∙ added_to-append u (b ∷ []) bs w

pub did_none : (w : World) → DidAll [] w w
did_none w = same_of w w refl

pub did_text : (u : unit.Unit) (text : List ℕ) (w v : World) → v ≡ world_after_put u text w → DidAll (text_events u text) w v
did_text u text w v is = same_of v (after_events w (text_events u text)) (is ∙ sym (after_text u text w))

-- bytes were taken
pub did_taken : (u : unit.Unit) (gone : Readings) (w v : World) → v ≡ world_after_take u gone w → DidAll [] w v
did_taken u gone w v is = record {
  file = ap (λ (x : World). x.file) is;
  in_use = ap (λ (x : World). x.in_use) is;
  names = ap (λ (x : World). x.names) is;
  written = ap (λ (x : World). x.written) is;
  sectors = ap (λ (x : World). x.sectors) is;
  limits = ap (λ (x : World). x.limits) is;
}

-- CARDS AND LINES OF KEYS

pub cards_append : (ds es : List Event) → cards_in (ds ++ es) ≡ cards_in ds + cards_in es
cards_append [] es = omega arith
cards_append (BindFile u name ∷ ds) es = cards_append ds es
cards_append (WriteByte u byte ∷ ds) es = cards_append ds es
cards_append (WriteSector a bytes ∷ ds) es = cards_append ds es
cards_append (TakeCard ∷ ds) es = let h = cards_append ds es in omega arith
cards_append (TakeLine ∷ ds) es = cards_append ds es

pub lines_append : (ds es : List Event) → lines_in (ds ++ es) ≡ lines_in ds + lines_in es
lines_append [] es = omega arith
lines_append (BindFile u name ∷ ds) es = lines_append ds es
lines_append (WriteByte u byte ∷ ds) es = lines_append ds es
lines_append (WriteSector a bytes ∷ ds) es = lines_append ds es
lines_append (TakeCard ∷ ds) es = lines_append ds es
lines_append (TakeLine ∷ ds) es = let h = lines_append ds es in omega arith

-- a text takes none
pub cards_text : (u : unit.Unit) (text : List ℕ) → cards_in (text_events u text) ≡ 0
cards_text u [] = refl
cards_text u (b ∷ bs) = cards_text u bs

pub lines_text : (u : unit.Unit) (text : List ℕ) → lines_in (text_events u text) ≡ 0
lines_text u [] = refl
lines_text u (b ∷ bs) = lines_text u bs

-- FIRST PARTS

pub first_none : (all : List Event) → IsFirstPart [] all
first_none all = (all, refl)

pub first_on : (before ds all : List Event) → IsFirstPart ds all → IsFirstPart (before ++ ds) (before ++ all)
first_on before ds all first = (first.0, append_assoc before ds first.0 ∙ ap (λ (x : List Event). before ++ x) first.1)

pub first_more : (ds all more : List Event) → IsFirstPart ds all → IsFirstPart ds (all ++ more)
first_more ds all more first = (first.0 ++ more, sym (append_assoc ds first.0 more) ∙ ap (λ (x : List Event). x ++ more) first.1)

pub first_text : (u : unit.Unit) (written rest text : List ℕ) → written ++ rest ≡ text → IsFirstPart (text_events u written) (text_events u text)
first_text u written rest text parts = (text_events u rest, sym (map-append (WriteByte u) written rest) ∙ ap (text_events u) parts)

-- the host failed within a list: faults rose, and a first part of it was done
pub record FailsWithin (all : List Event) (old new : Seen) : Type 0 where
  pub rose : Rose old.faults new.faults
  pub part : DidPart all old.world new.world

-- within a text
pub text_fails : (u : unit.Unit) (text : List ℕ) (old new : Seen) → Stops old new u text → FailsWithin (text_events u text) old new
text_fails u text old new stops = record {
  rose = stops.rose;
  part = record {
    done = text_events u stops.written;
    part = first_text u stops.written stops.rest text stops.parts;
    did = did_text u stops.written old.world new.world stops.goes.world;
  };
}

-- so it failed within a longer one, be it behind what was done before or before what would follow
pub fails_behind : (before all : List Event) (old mid new : Seen) → old.faults ≤ mid.faults → DidAll before old.world mid.world → FailsWithin all mid new → FailsWithin (before ++ all) old new
fails_behind before all old mid new later did fails = record {
  rose = omega (arith, later, fails.rose);
  part = record {
    done = before ++ fails.part.done;
    part = first_on before fails.part.done all fails.part.part;
    did = did_on before fails.part.done old.world mid.world new.world did fails.part.did;
  };
}

pub fails_before : (all more : List Event) (old new : Seen) → FailsWithin all old new → FailsWithin (all ++ more) old new
fails_before all more old new fails = record {
  rose = fails.rose;
  part = record { done = fails.part.done; part = first_more fails.part.done all more fails.part.part; did = fails.part.did };
}
