-- What is left of a host's limits after events.
use Rattle.std.proofs.Common.{◌≡◌, ℕ, ◌+◌, ◌-◌, ◌≤◌, Bool, true, false, List, [], ◌∷◌, ◌++◌, refl, ◌∙◌, ap, subst, arith, if◌then◌else◌}
use Rattle.std.specs.Prelude.{Option, Some, None, option_map, is_some}
use Rattle.outside_io.specs.declared.host.Unit as unit
use Rattle.outside_io.specs.World.{World, Limits, at, same_unit, is_output, room_after, limits_after_put}
use Rattle.outside_io.specs.Events.{Event, BindFile, WriteByte, WriteSector, TakeCard, TakeLine, after_event, after_events, bytes_written, IsFirstPart, DidAll}
use Rattle.outside_io.proofs.Worlds.{Texts}

-- the host reveals the texts of all outputs
abbrev pub TellsTexts : World → Type 0
TellsTexts w = (u : unit.Unit) → is_some (w.written u) ≡ true

-- the limits that are left of these after so many bytes were written on each unit: the same calls are to fail, and the bytes took room
pub record LeavesLimits (bytes : unit.Unit → ℕ) (before : Limits) (now : World) : Type 0 where
  pub limits : Limits
  pub told : now.limits ≡ Some limits
  pub failing : limits.failing ≡ before.failing
  pub room : (u : unit.Unit) → limits.room u ≡ before.room u - bytes u

told_map : (f : List ℕ → List ℕ) (b : Bool) (t : Option (List ℕ)) → is_some t ≡ true → is_some (if b then option_map f t else t) ≡ true
told_map f true (Some text) told = refl
told_map f true None told = told
told_map f false t told = told

told_bound : (output : Bool) (u v : unit.Unit) (texts : Texts) → is_some (texts v) ≡ true → is_some ((if output then at u (option_map (λ _. [])) texts else texts) v) ≡ true
told_bound true u v texts told = told_map (λ _. []) (same_unit u v) (texts v) told
told_bound false u v texts told = told

one_byte : (same : Bool) (byte room n : ℕ) (t : Option (List ℕ)) → is_some t ≡ true → (if same then room_after (byte ∷ []) t room else room) - n ≡ room - ((if same then 1 else 0) + n)
one_byte true byte room n (Some text) told = omega arith
one_byte true byte room n None told = cc
one_byte false byte room n t told = omega arith

after : (ds : List Event) (w : World) (l : Limits) → w.limits ≡ Some l → TellsTexts w → LeavesLimits (λ u. bytes_written u ds) l (after_events w ds)
after [] w l is tells = record { limits = l; told = is; failing = refl; room = λ u. omega arith }
after (BindFile u name ∷ ds) w l is tells = after ds (after_event w (BindFile u name)) l is (λ v. told_bound (is_output u) u v w.written (tells v))
after (WriteByte u byte ∷ ds) w l is tells =
    let rest = after ds (after_event w (WriteByte u byte)) (limits_after_put u (byte ∷ []) w.written l) (ap (option_map (limits_after_put u (byte ∷ []) w.written)) is) (λ v. told_map (λ text. text ++ (byte ∷ [])) (same_unit u v) (w.written v) (tells v)) in
    record { limits = rest.limits; told = rest.told; failing = rest.failing; room = λ v. rest.room v ∙ one_byte (same_unit u v) byte (l.room v) (bytes_written v ds) (w.written v) (tells v) }
after (WriteSector a bytes ∷ ds) w l is tells = after ds (after_event w (WriteSector a bytes)) l is tells
after (TakeCard ∷ ds) w l is tells = after ds w l is tells
after (TakeLine ∷ ds) w l is tells = after ds w l is tells

-- what is left of a host's limits after all of these events
pub limits_left : (ds : List Event) (old new : World) (l : Limits) → DidAll ds old new → old.limits ≡ Some l → TellsTexts old → LeavesLimits (λ u. bytes_written u ds) l new
limits_left ds old new l did is tells =
    let left = after ds old l is tells in
    record { limits = left.limits; told = did.limits ∙ left.told; failing = left.failing; room = left.room }

-- a first part of them writes no more
written_on : (u : unit.Unit) (ds es : List Event) → bytes_written u ds ≤ bytes_written u (ds ++ es)
written_on u [] es = omega arith
written_on u (BindFile v name ∷ ds) es = written_on u ds es
written_on u (WriteByte v byte ∷ ds) es = let rest = written_on u ds es in omega (arith, rest)
written_on u (WriteSector a bytes ∷ ds) es = written_on u ds es
written_on u (TakeCard ∷ ds) es = written_on u ds es
written_on u (TakeLine ∷ ds) es = written_on u ds es

pub part_writes : (u : unit.Unit) (ds all : List Event) → IsFirstPart ds all → bytes_written u ds ≤ bytes_written u all
part_writes u ds all first = subst (λ (es : List Event). bytes_written u ds ≤ bytes_written u es) first.1 (written_on u ds first.0)
