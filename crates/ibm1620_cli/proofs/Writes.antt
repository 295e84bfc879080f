-- Events that bind no file: what they leave as it is, and the bytes that they write.
use Rattle.std.proofs.Common.{◌≡◌, ℕ, zero, suc, Bool, true, false, List, [], ◌∷◌, ◌++◌, refl, sym, ◌∙◌, ap, subst, arith, append_assoc}
use Rattle.std.proofs.lemmas.List.{append-nil}
use Rattle.std.specs.Prelude.{⊤, Option, Some, None, IfSome, option_map, if◌then◌else◌}
use Rattle.outside_io.specs.declared.host.Unit as unit
use Rattle.outside_io.specs.declared.host.Unit.TheVariants as units
use Rattle.outside_io.specs.declared.whole.Sent.{Sent}
use Rattle.outside_io.specs.declared.whole.Sent.TheVariants as sent
use Rattle.outside_io.specs.World.{World, Seen, Goes, same_unit}
use Rattle.outside_io.specs.Whole.{Sends}
use Rattle.outside_io.specs.Events.{Event, BindFile, WriteByte, WriteSector, TakeCard, TakeLine, after_event, after_events, text_events}
use Rattle.outside_io.proofs.EventLemmas.{after_append, after_text, same_of, first_text, first_on, first_more, FailsWithin}
use Rattle.cpu_step.specs.Effects.{Effect, CellStored, Light, Arm, Written, Sector, CardTaken, LineTaken}
use Rattle.cpu_step.specs.State.{State}
use Rattle.cpu_step.specs.Step.{instruction}
use Rattle.cpu_step.specs.Load.{state_for_load, load_trace}
use Rattle.cpu_step.specs.Outside.{all_outside}
use Rattle.operator_script.specs.declared.script.Action.{Action}
use Rattle.operator_script.specs.declared.script.ScriptLine.{ScriptLine}
use Rattle.operator_script.specs.Turn.{RunPlace, Turning, Acted, Stepped, Ended, turn}
use Rattle.operator_script.specs.TurnEvents.{action_events, front_events, step_events, events_within}
use Rattle.operator_script.proofs.Actions.{of_action}
use Rattle.ibm1620_cli.specs.Inputs.{reads_pack}
use Rattle.ibm1620_cli.specs.Promise.{Unasked}
use Rattle.ibm1620_cli.specs.Headline.{bytes_in}
use Rattle.ibm1620_cli.specs.Parts.{StopsWithin, EventsOccur, LeavesUnread}
use Rattle.ibm1620_cli.proofs.TakenInputs.{goes_unasked}
use Rattle.ibm1620_cli.proofs.KeptPromises.{once_same}

-- no file is bound; sectors are written only where the pack is worked with
abbrev pub AreWritesOf : (unit.Unit → Bool) → List Event → Type 0
AreWritesOf r [] = ⊤
AreWritesOf r (BindFile u name ∷ ds) = ⊥
AreWritesOf r (WriteByte u byte ∷ ds) = AreWritesOf r ds
AreWritesOf r (WriteSector a bytes ∷ ds) = (r units.Pack ≡ true) × AreWritesOf r ds
AreWritesOf r (TakeCard ∷ ds) = AreWritesOf r ds
AreWritesOf r (TakeLine ∷ ds) = AreWritesOf r ds

abbrev pub AreWrites : List Event → Type 0
AreWrites ds = AreWritesOf reads_pack ds

pub writes_both : (r : unit.Unit → Bool) (ds es : List Event) → AreWritesOf r ds → AreWritesOf r es → AreWritesOf r (ds ++ es)
writes_both r [] es a b = b
writes_both r (BindFile u name ∷ ds) es a b = absurd a
writes_both r (WriteByte u byte ∷ ds) es a b = writes_both r ds es a b
writes_both r (WriteSector a bytes ∷ ds) es c b = (c.0, writes_both r ds es c.1 b)
writes_both r (TakeCard ∷ ds) es a b = writes_both r ds es a b
writes_both r (TakeLine ∷ ds) es a b = writes_both r ds es a b

writes_front : (r : unit.Unit → Bool) (ds es : List Event) → AreWritesOf r (ds ++ es) → AreWritesOf r ds
writes_front r [] es are = tt
writes_front r (BindFile u name ∷ ds) es are = are
writes_front r (WriteByte u byte ∷ ds) es are = writes_front r ds es are
writes_front r (WriteSector a bytes ∷ ds) es are = (are.0, writes_front r ds es are.1)
writes_front r (TakeCard ∷ ds) es are = writes_front r ds es are
writes_front r (TakeLine ∷ ds) es are = writes_front r ds es are

pub writes_text : (r : unit.Unit → Bool) (u : unit.Unit) (text : List ℕ) → AreWritesOf r (text_events u text)
writes_text r u [] = tt
writes_text r u (b ∷ bs) = writes_text r u bs

-- WHAT THEY LEAVE

no_both : {A : Type 0} (b : Bool) → b ≡ true → b ≡ false → A
no_both true is none = cc
no_both false is none = cc

pub bound_as : (r : unit.Unit → Bool) (ds : List Event) (w : World) → AreWritesOf r ds → LeavesUnread r w (after_events w ds)
bound_as r [] w are = record { in_use = refl; names = refl; left = λ u unread. refl; sectors = λ none. refl; asked = λ u unread. refl; once = λ u fed. once_same (w.asked u) (w.asked u) refl }
bound_as r (BindFile u name ∷ ds) w are = absurd are
bound_as r (WriteByte u byte ∷ ds) w are = let rest = bound_as r ds (after_event w (WriteByte u byte)) are in record { in_use = rest.in_use; names = rest.names; left = rest.left; sectors = rest.sectors; asked = rest.asked; once = rest.once }
bound_as r (WriteSector a bytes ∷ ds) w are =
    let rest = bound_as r ds (after_event w (WriteSector a bytes)) are.1 in
    record { in_use = rest.in_use; names = rest.names; left = rest.left; sectors = λ none. no_both (r units.Pack) are.0 none; asked = rest.asked; once = rest.once }
bound_as r (TakeCard ∷ ds) w are = bound_as r ds w are
bound_as r (TakeLine ∷ ds) w are = bound_as r ds w are

-- what is bound stays so, and nothing is read, whether all of them were done or not
pub does_binds : (r : unit.Unit → Bool) (ds : List Event) (old new : Seen) (how : Sent) → AreWritesOf r ds → EventsOccur ds old new how → LeavesUnread r old.world new.world
does_binds r ds old new sent.Done are goes = subst (LeavesUnread r old.world) (sym goes.world) (bound_as r ds old.world are)
does_binds r ds old new sent.Failed are stops =
    subst (LeavesUnread r old.world) (sym stops.goes.world) (bound_as r stops.done old.world (writes_front r stops.done stops.part.0 (subst (AreWritesOf r) (sym stops.part.1) are)))

-- ONE BEHIND THE OTHER

-- a text, byte by byte
pub text_does : (u : unit.Unit) (text : List ℕ) (old new : Seen) (how : Sent) → Sends old new u text how → EventsOccur (text_events u text) old new how
text_does u text old new sent.Done goes = record { later = goes.later; world = goes.world ∙ sym (after_text u text old.world) }
text_does u text old new sent.Failed stops = record {
  done = text_events u stops.written;
  part = first_text u stops.written stops.rest text stops.parts;
  rose = stops.rose;
  goes = record { later = stops.goes.later; world = stops.goes.world ∙ sym (after_text u stops.written old.world) };
}

-- the host failed before what would follow
pub stops_before : (ds es : List Event) (old new : Seen) → StopsWithin ds old new → StopsWithin (ds ++ es) old new
stops_before ds es old new stops = record { done = stops.done; part = first_more stops.done ds es stops.part; rose = stops.rose; goes = stops.goes }

-- what follows is done
pub does_behind : (ds es : List Event) (old mid new : Seen) (how : Sent) → Goes old mid (after_events old.world ds) → EventsOccur es mid new how → EventsOccur (ds ++ es) old new how
does_behind ds es old mid new sent.Done first second = record {
  later = omega (arith, first.later, second.later);
  world = second.world ∙ ap (λ (w : World). after_events w es) first.world ∙ sym (after_append ds es old.world);
}
does_behind ds es old mid new sent.Failed first stops = record {
  done = ds ++ stops.done;
  part = first_on ds stops.done es stops.part;
  rose = omega (arith, first.later, stops.rose);
  goes = record {
    later = omega (arith, first.later, stops.goes.later);
    world = stops.goes.world ∙ ap (λ (w : World). after_events w stops.done) first.world ∙ sym (after_append ds stops.done old.world);
  };
}

pub stops_fails : (ds : List Event) (old new : Seen) → StopsWithin ds old new → FailsWithin ds old new
stops_fails ds old new stops = record { rose = stops.rose; part = record { done = stops.done; part = stops.part; did = same_of new.world (after_events old.world stops.done) stops.goes.world } }

-- no input of a machine was asked
pub stops_asked : (ds : List Event) (old new : Seen) → StopsWithin ds old new → Unasked old.world new.world
stops_asked ds old new stops = goes_unasked stops.done old new stops.goes

-- WHAT THE TURNS OF A RUN DO

writes_effects : (es : List Effect) → AreWrites (all_outside es)
writes_effects [] = tt
writes_effects (CellStored s ∷ es) = writes_effects es
writes_effects (Light l ∷ es) = writes_effects es
writes_effects (Arm drive cylinder ∷ es) = writes_effects es
writes_effects (Written u byte ∷ es) = writes_effects es
writes_effects (Sector a bytes ∷ es) = (refl, writes_effects es)
writes_effects (CardTaken ∷ es) = writes_effects es
writes_effects (LineTaken ∷ es) = writes_effects es

writes_action : (a : Action) (s : State) → AreWrites (action_events a s)
writes_action = of_action (λ f events. (s : State) → AreWrites (events s)) (λ s. writes_effects (load_trace (state_for_load s)).effects) (λ change s. tt)

writes_front_line : (lines : List ScriptLine) (s : State) → AreWrites (front_events lines s)
writes_front_line [] s = tt
writes_front_line (line ∷ rest) s = writes_action line.action s

writes_on : (limit n : ℕ) (p : RunPlace) (t : Turning) → ((q : RunPlace) → AreWrites (events_within limit n q))
    → AreWrites (elim t [ Acted q ↦ front_events p.script p.state ++ events_within limit n q | Stepped q ↦ step_events p ++ events_within limit n q | Ended how ↦ [] ])
writes_on limit n p (Acted q) rest = writes_both reads_pack (front_events p.script p.state) (events_within limit n q) (writes_front_line p.script p.state) (rest q)
writes_on limit n p (Stepped q) rest = writes_both reads_pack (step_events p) (events_within limit n q) (writes_effects (instruction p.state).effects) (rest q)
writes_on limit n p (Ended how) rest = tt

pub writes_within : (limit n : ℕ) (p : RunPlace) → AreWrites (events_within limit n p)
unfolding events_within
writes_within limit zero p = tt
writes_within limit (suc n) p = writes_on limit n p (turn limit p) (writes_within limit n)

-- THE BYTES OF A UNIT

byte_by : (same : Bool) (o : Option (List ℕ)) (byte : ℕ) (rest : List ℕ) → option_map (λ t. t ++ rest) (if same then option_map (λ t. t ++ (byte ∷ [])) o else o) ≡ option_map (λ t. t ++ (if same then byte ∷ rest else rest)) o
byte_by true None byte rest = refl
byte_by true (Some t) byte rest = ap (λ (x : List ℕ). Some x) (append_assoc t (byte ∷ []) rest)
byte_by false o byte rest = refl

none_by : (o : Option (List ℕ)) → o ≡ option_map (λ t. t ++ []) o
none_by None = refl
none_by (Some t) = ap (λ (x : List ℕ). Some x) (sym (append-nil t))

-- each told text has gained the bytes that they write on its unit
pub written_as : (u : unit.Unit) (ds : List Event) (w : World) → AreWrites ds → (after_events w ds).written u ≡ option_map (λ t. t ++ bytes_in u ds) (w.written u)
written_as u [] w are = none_by (w.written u)
written_as u (BindFile v name ∷ ds) w are = absurd are
written_as u (WriteByte v byte ∷ ds) w are = written_as u ds (after_event w (WriteByte v byte)) are ∙ byte_by (same_unit v u) (w.written u) byte (bytes_in u ds)
written_as u (WriteSector a bytes ∷ ds) w are = written_as u ds (after_event w (WriteSector a bytes)) are.1
written_as u (TakeCard ∷ ds) w are = written_as u ds w are
written_as u (TakeLine ∷ ds) w are = written_as u ds w are

pub only_those : (o : Option (List ℕ)) (bytes : List ℕ) → IfSome o (λ t. t ≡ []) → IfSome (option_map (λ t. t ++ bytes) o) (λ t. t ≡ bytes)
only_those None bytes none = tt
only_those (Some t) bytes none = ap (λ (x : List ℕ). x ++ bytes) none
