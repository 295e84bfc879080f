-- Parts of a session one after another, and what each of them stands on.
use Rattle.std.proofs.Common.{◌≡◌, ◌∙◌, ℕ, suc, ◌+◌, ◌-◌, ◌≤◌, max, Bool, true, false, ◌||◌, List, [], ◌∷◌, ◌++◌, refl, sym, ap, subst, append_assoc, arith}
use Rattle.std.specs.Prelude.{Some, option_map, is_some}
use Rattle.outside_io.specs.declared.host.Unit as unit
use Rattle.outside_io.specs.declared.host.Unit.TheVariants as units
use Rattle.outside_io.specs.declared.whole.Sent.{Sent}
use Rattle.outside_io.specs.declared.whole.Sent.TheVariants as sent
use Rattle.outside_io.specs.World.{World, Seen, Rose, Goes, world_after_put, same_unit}
use Rattle.outside_io.specs.Whole.{Sends}
use Rattle.outside_io.specs.Frame.{Keeps}
use Rattle.outside_io.specs.Events.{text_events}
use Rattle.outside_io.proofs.Frames.{keeps_added}
use Rattle.outside_io.proofs.EventLemmas.{did_on, did_text, first_text}
use Rattle.card_unit.specs.Hopper.{hopper_left}
use Rattle.card_unit.proofs.ReadSame.{read_same}
use Rattle.typewriter.specs.Keys.{keys_left}
use Rattle.typewriter.proofs.ReadSame.{read_same as keys_same_read}
use Rattle.cpu_step.specs.declared.machine.Machine.{Machine}
use Rattle.cpu_step.specs.State.{State}
use Rattle.cpu_step.specs.Machine.{Frames, is_read, is_written, state_with, over_all}
use Rattle.cpu_step.proofs.Readers.{hopper_same}
use Rattle.cpu_step.proofs.ShownStates.{frames_same}
use Rattle.cpu_step.proofs.ExactCards.{state_is, frames_both}
use Rattle.cpu_step.proofs.Texts.{texts_other}
use Rattle.cpu_step.proofs.InputsTaken.{HasTaken, taken_on}
use Rattle.operator_script.specs.Turn.{RunPlace, IsCutTurn}
use Rattle.operator_script.specs.Run.{RunState, place_with, place_of}
use Rattle.operator_script.proofs.Running.{place_is}
use Rattle.sps_pass_two.specs.Assembled.{PlacedText}
use Rattle.console_debug.specs.Session.{Course, Act, PrintsLine, MakesTurn, Session, nth_place, place_as_seen, says, goes_to, turns_from, session_events}
use Rattle.console_debug.specs.CursorStates.{CursorState, IsOn, IsFit, IsLed}
use Rattle.console_debug.specs.Debugs.{Attends, is_said}
use Rattle.console_debug.specs.Carries.{DebuggerState, debugger_state, StandsIn, StopsIn, IsCourseOver, Does, FailsInPart, CarriesPart, PartsUnderway}
use Rattle.console_debug.proofs.Stepping.{count_told}
use Rattle.console_debug.proofs.Acts.{turns_append, turns_line, turns_of, turns_take, text_takes, did_turns, did_cut, acts_on, act_on, part_on, acts_take, act_takes, part_takes}
use Rattle.console_debug.proofs.Onward.{Onward, MakesTurns, next_turn}

-- What stays.

none_of : (a b : Bool) → (a || b) ≡ false → a ≡ false
none_of false b neither = refl
none_of true b neither = cc

pub attends_frames : (m : ℕ) (old new : Machine m) (before after : Seen) → Frames m old new before after → Attends m old new before after
attends_frames m old new before after frames = record {
  later = frames.later;
  keeps = record {
    file = frames.keeps.file;
    in_use = frames.keeps.in_use;
    names = frames.keeps.names;
    sectors = frames.keeps.sectors;
    left = frames.keeps.left;
    written = λ u neither. frames.keeps.written u (none_of (is_written u) (same_unit units.Report u) neither);
    asked = frames.keeps.asked;
    room = frames.keeps.room;
  };
  told = frames.told;
  told_keys = frames.told_keys;
  told_sectors = frames.told_sectors;
  own = frames.own;
  cards = frames.cards;
  lines = frames.lines;
}

right_true : (a b : Bool) → b ≡ true → (a || b) ≡ true
right_true false b is = is
right_true true b is = refl

report_said : (u : unit.Unit) → same_unit units.Report u ≡ true → is_said u ≡ true
report_said u is = right_true (is_written u) (same_unit units.Report u) is

hopper_said : (m : ℕ) (machine : Machine m) (text : List ℕ) (w : World) → hopper_left machine.hopper (world_after_put units.Report text w) ≡ hopper_left machine.hopper w
hopper_said m machine text w = hopper_same machine.hopper (world_after_put units.Report text w) w refl refl

pub attends_said : (m : ℕ) (machine : Machine m) (before after : Seen) (text : List ℕ) → Goes before after (world_after_put units.Report text before.world) → Attends m machine machine before after
attends_said m machine before after text goes = record {
  later = goes.later;
  keeps = subst (Keeps is_read is_said true before.world) (sym goes.world) (keeps_added is_read is_said true units.Report text before.world report_said);
  told = ap (λ (w : World). is_some (hopper_left machine.hopper w)) goes.world ∙ ap is_some (hopper_said m machine text before.world);
  told_keys = ap (λ (w : World). is_some (keys_left machine.keys w)) goes.world;
  told_sectors = ap (λ (w : World). is_some w.sectors) goes.world;
  own = refl;
  cards = read_same machine.hopper before.world after.world (ap (λ (w : World). w.left units.Deck) goes.world) (ap (λ (w : World). w.left units.Data) goes.world) (ap (λ (w : World). w.asked units.Deck) goes.world) (ap (λ (w : World). w.asked units.Data) goes.world);
  lines = keys_same_read machine.keys before.world after.world (ap (λ (w : World). w.left units.Keys) goes.world) (ap (λ (w : World). w.asked units.Keys) goes.world);
}

place_said : (m : ℕ) (x : RunState m) (text : List ℕ) (w : World) → place_of m x (world_after_put units.Report text w) ≡ place_of m x w
place_said m x text w =
    λ i. option_map (place_with m x) (over_all (λ es ks pack. record (state_with m x.machine w es ks pack) { written = texts_other units.Report text w refl i }) (hopper_said m x.machine text w i) (keys_left x.machine.keys w) w.sectors)

-- what a session has taken of the cards and the lines of the keyboard
stands_taken : (m : ℕ) (c : Course) (x : DebuggerState m) (start : World) (s : Session) → StandsIn m c x start s → HasTaken c.first.state (nth_place c s.furthest).state (session_events c s.acts)
stands_taken m c x start s stands = record { cards = stands.cards; lines = stands.lines }

-- A LINE ON REPORT

module _ (m limit : ℕ) (placed : List PlacedText) (x : CursorState m) (set : List ℕ) (after : Seen) where
  abbrev here : DebuggerState m
  here = debugger_state m x set

  abbrev after_line : DebuggerState m
  after_line = debugger_state m (record x { seen = after }) set

  stays_there : (text : List ℕ) → Goes x.seen after (world_after_put units.Report text x.seen.world) → (p : RunPlace) → place_of m x.at x.seen.world ≡ Some p → place_of m x.at after.world ≡ Some p
  stays_there text goes p is = ap (λ (w : World). place_of m x.at w) goes.world ∙ place_said m x.at text x.seen.world ∙ is

  pub still_on : (text : List ℕ) → Goes x.seen after (world_after_put units.Report text x.seen.world) → (c : Course) (n f : ℕ) → IsOn m c n f x → IsOn m c n f (record x { seen = after })
  still_on text goes c n f on_it = record {
    told = stays_there text goes (place_as_seen (nth_place c n) (nth_place c f)) on_it.told;
    reached = on_it.reached;
    number = on_it.number;
    count = on_it.count;
    kept = on_it.kept;
  }

  still_fit : IsFit m limit x → IsFit m limit (record x { seen = after })
  still_fit fit = record { within = fit.within; sound = fit.sound; lines = fit.lines; few = fit.few; most = fit.most; kept = fit.kept; tip = fit.tip; core = fit.core }

  -- a session that says a line, and a host that takes it, or fails
  pub said : (f : Course → Session → Session) (line : List ℕ) (how : Sent) → IsFit m limit x
      → ((c : Course) → IsCourseOver limit placed c → (start : World) (s : Session) → StandsIn m c here start s → f c s ≡ says line s)
      → Sends x.seen after units.Report line how → CarriesPart m limit placed f here after_line how
  said f line sent.Done fit same goes = record {
    told = λ c over start s stands.
        let furthest = (nth_place c s.furthest).state in
        let taken = act_takes c s.acts (PrintsLine s.at line) c.first.state furthest furthest (stands_taken m c here start s stands) (text_takes line furthest) in
        subst (StandsIn m c after_line start) (sym (same c over start s stands)) (record {
          on_it = still_on line goes c s.at s.furthest stands.on_it;
          breaks_are = stands.breaks_are;
          turns = turns_line s.acts s.at line ∙ stands.turns;
          did = act_on c s.acts (PrintsLine s.at line) start x.seen.world after.world stands.did (did_text units.Report line x.seen.world after.world goes.world);
          cards = taken.cards;
          lines = taken.lines;
        });
    fit = still_fit fit;
    frames = attends_said m x.at.machine x.seen after line goes;
  }
  said f line sent.Failed fit same stops = record {
    told = λ c over start s stands.
        let furthest = (nth_place c s.furthest).state in
        let part = text_events units.Report stops.written in
        let taken = taken_on (session_events c s.acts) part c.first.state furthest furthest (stands_taken m c here start s stands) (text_takes stops.written furthest) in
        subst (StopsIn m c after_line start) (sym (same c over start s stands)) (record {
          done = s.acts;
          next = PrintsLine s.at line;
          rest = [];
          parts = refl;
          place = place_as_seen (nth_place c s.at) (nth_place c s.furthest);
          place_is = stays_there stops.written stops.goes (place_as_seen (nth_place c s.at) (nth_place c s.furthest)) stands.on_it.told;
          within = ap (λ f. place_as_seen (nth_place c s.at) (nth_place c f)) (sym stands.turns);
          part = part;
          first = first_text units.Report stops.written stops.rest line stops.parts;
          did = did_on (session_events c s.acts) part start x.seen.world after.world stands.did (did_text units.Report stops.written x.seen.world after.world stops.goes.world);
          cards = taken.cards;
          lines = taken.lines;
        });
    rose = stops.rose;
    frames = attends_said m x.at.machine x.seen after stops.written stops.goes;
  }

-- what the machine shows of the place where it stands
module _ (m : ℕ) (c : Course) (n f : ℕ) (x : CursorState m) (on_it : IsOn m c n f x) where
  of_state : (place_as_seen (nth_place c n) (nth_place c f)).state ≡ state_with m x.at.machine x.seen.world (nth_place c f).state.hopper (nth_place c f).state.keys (nth_place c f).state.sectors
  of_state = state_is m x.at.machine x.seen.world (place_as_seen (nth_place c n) (nth_place c f)).state (place_is m x.at x.seen.world (place_as_seen (nth_place c n) (nth_place c f)) on_it.told).0

  pub ir_here : (nth_place c n).state.regs.ir ≡ x.at.machine.regs.ir
  ir_here = ap (λ (s : State). s.regs.ir) of_state

  pub mode_here : (nth_place c n).state.mode ≡ x.at.machine.mode
  mode_here = ap (λ (s : State). s.mode) of_state

  pub core_here : (nth_place c n).state.core ≡ x.at.machine.core
  core_here = ap (λ (s : State). s.core) of_state

  pub steps_here : (nth_place c n).steps ≡ x.at.steps
  steps_here = count_told m x.at x.seen.world (nth_place c n) (nth_place c f) on_it.told

-- One part after another.

-- within a move the host failed, in a turn behind so many others from the furthest place on, all of which the function makes
pub record IsBroken (m : ℕ) (c : Course) (f : Course → Session → Session) (s : Session) (x : CursorState m) : Type 0 where
  pub turns : ℕ
  pub makes : MakesTurns s (suc turns) (f c s)
  pub place : RunPlace
  pub place_is : place_of m x.at x.seen.world ≡ Some place
  pub is_cut : IsCutTurn c.limit (nth_place c (s.furthest + turns)) place

module _ (m limit : ℕ) (placed : List PlacedText) where
  -- in the turn from a place on
  pub broken_at : (f : Course → Session → Session) (x : CursorState m) (c : Course) → IsCourseOver limit placed c → (s : Session) (n : ℕ) → s.furthest ≤ s.at + n
      → (q : RunPlace) × (place_of m x.at x.seen.world ≡ Some q) × IsCutTurn limit (nth_place c (s.at + n)) q
      → MakesTurns s (suc (s.at + n - s.furthest)) (f c s) → IsBroken m c f s x
  broken_at f x c over s n far cut makes =
      let from : s.at + n ≡ s.furthest + (s.at + n - s.furthest) = omega (arith, far) in
      record {
        turns = s.at + n - s.furthest;
        makes = makes;
        place = cut.0;
        place_is = cut.1;
        is_cut = subst (λ j. IsCutTurn j (nth_place c (s.furthest + (s.at + n - s.furthest))) cut.0) (sym over.limit_is)
            (subst (λ i. IsCutTurn limit (nth_place c i) cut.0) from cut.2);
      }

  pub begins : (f g : Course → Session → Session) (x : DebuggerState m) → ((c : Course) (s : Session) → f c s ≡ g c s) → IsFit m limit x.cursor_state → PartsUnderway m limit placed f g x x
  begins f g x same fit = record {
    told = λ c over start s stands. (s, stands, same c s);
    fit = fit;
    frames = frames_same m x.cursor_state.at.machine x.cursor_state.at.machine x.cursor_state.seen refl refl;
  }

  pub goes_on : (f g h : Course → Session → Session) (a b d : DebuggerState m) → PartsUnderway m limit placed f g a b → PartsUnderway m limit placed g h b d → PartsUnderway m limit placed f h a d
  goes_on f g h a b d first second = record {
    told = λ c over start s stands.
        let one = first.told c over start s stands in
        let two = second.told c over start one.0 one.1 in
        (two.0, two.1, one.2 ∙ two.2);
    fit = second.fit;
    frames = frames_both m a.cursor_state.at.machine b.cursor_state.at.machine d.cursor_state.at.machine a.cursor_state.seen b.cursor_state.seen d.cursor_state.seen first.frames second.frames;
  }

  -- a whole part is done, and another is left
  pub does_first : (f g h : Course → Session → Session) (a b : DebuggerState m) → ((c : Course) (s : Session) → f c s ≡ g c (h c s)) → Does m limit placed h a b → PartsUnderway m limit placed f g a b
  does_first f g h a b same does = record {
    told = λ c over start s stands. (h c s, does.told c over start s stands, same c s);
    fit = does.fit;
    frames = does.frames;
  }

  -- what is left is done, or broken off, and so is the whole
  pub ends_with : (f g : Course → Session → Session) (a b d : DebuggerState m) (how : Sent) → PartsUnderway m limit placed f g a b → CarriesPart m limit placed g b d how → CarriesPart m limit placed f a d how
  ends_with f g a b d sent.Done under does = record {
    told = λ c over start s stands.
        let left = under.told c over start s stands in
        subst (StandsIn m c d start) (sym left.2) (does.told c over start left.0 left.1);
    fit = does.fit;
    frames = frames_both m a.cursor_state.at.machine b.cursor_state.at.machine d.cursor_state.at.machine a.cursor_state.seen b.cursor_state.seen d.cursor_state.seen under.frames does.frames;
  }
  ends_with f g a b d sent.Failed under fails = record {
    told = λ c over start s stands.
        let left = under.told c over start s stands in
        subst (StopsIn m c d start) (sym left.2) (fails.told c over start left.0 left.1);
    rose = omega (arith, under.frames.later, fails.rose);
    frames = frames_both m a.cursor_state.at.machine b.cursor_state.at.machine d.cursor_state.at.machine a.cursor_state.seen b.cursor_state.seen d.cursor_state.seen under.frames fails.frames;
  }

  -- a function that gives the same over each of these courses
  pub carried_same : (f g : Course → Session → Session) (a b : DebuggerState m) (how : Sent) → ((c : Course) → IsCourseOver limit placed c → (s : Session) → f c s ≡ g c s) → CarriesPart m limit placed g a b how → CarriesPart m limit placed f a b how
  carried_same f g a b sent.Done same does = record {
    told = λ c over start s stands. subst (StandsIn m c b start) (sym (same c over s)) (does.told c over start s stands);
    fit = does.fit;
    frames = does.frames;
  }
  carried_same f g a b sent.Failed same fails = record {
    told = λ c over start s stands. subst (StopsIn m c b start) (sym (same c over s)) (fails.told c over start s stands);
    rose = fails.rose;
    frames = fails.frames;
  }

  -- nothing is left
  pub all_done : (f : Course → Session → Session) (a b : DebuggerState m) → PartsUnderway m limit placed f (λ c s. s) a b → Does m limit placed f a b
  all_done f a b under = record {
    told = λ c over start s stands.
        let left = under.told c over start s stands in
        subst (StandsIn m c b start) (sym left.2) left.1;
    fit = under.fit;
    frames = under.frames;
  }

  -- a move over the places, behind which the second function is left
  pub moved : (f g : Course → Session → Session) (old new : CursorState m) (set : List ℕ) → Frames m old.at.machine new.at.machine old.seen new.seen → IsFit m limit new
      → ((c : Course) → IsCourseOver limit placed c → (s : Session) → set ≡ s.breaks → IsOn m c s.at s.furthest old → (turns : ℕ) × IsLed m c s.at s.furthest turns new × (f c s ≡ g c (goes_to (s.at + turns) s)))
      → PartsUnderway m limit placed f g (debugger_state m old set) (debugger_state m new set)
  moved f g old new set frames fit leads = record {
    told = λ c over start s stands.
        let led = leads c over s stands.breaks_are stands.on_it in
        let n = s.at + led.0 in
        let k = n - s.furthest in
        let far : max s.furthest n ≡ s.furthest + k = omega arith in
        let taken = acts_take c s.acts (turns_from s.furthest k) c.first.state (nth_place c s.furthest).state (nth_place c (s.furthest + k)).state (stands_taken m c (debugger_state m old set) start s stands) (turns_take c s.furthest k) in (
          goes_to n s,
          record {
            on_it = led.1;
            breaks_are = stands.breaks_are;
            turns =
                let all = turns_append s.acts (turns_from s.furthest k) in
                let made = turns_of s.furthest k in
                omega (arith, all, made, stands.turns, far);
            did = acts_on c s.acts (turns_from s.furthest k) start old.seen.world new.seen.world stands.did
                (did_turns m c s.at s.furthest old.at new.at old.seen new.seen frames stands.on_it.told n (max s.furthest n) k far led.1.told);
            cards = ap (λ i. (nth_place c i).state.hopper) far ∙ taken.cards;
            lines = ap (λ i. (nth_place c i).state.keys) far ∙ taken.lines;
          },
          led.2,
        );
    fit = fit;
    frames = attends_frames m old.at.machine new.at.machine old.seen new.seen frames;
  }

  -- the host failed in such a move
  pub broke : (f : Course → Session → Session) (old new : CursorState m) (set : List ℕ) → Frames m old.at.machine new.at.machine old.seen new.seen → Rose old.seen.faults new.seen.faults
      → ((c : Course) → IsCourseOver limit placed c → (s : Session) → set ≡ s.breaks → IsOn m c s.at s.furthest old → IsBroken m c f s new)
      → FailsInPart m limit placed f (debugger_state m old set) (debugger_state m new set)
  broke f old new set frames rose breaks_off = record {
    told = λ c over start s stands.
        let at = breaks_off c over s stands.breaks_are stands.on_it in
        let made = turns_from s.furthest at.turns in
        let cut = did_cut m c s.at s.furthest old.at new.at old.seen new.seen frames stands.on_it.told at.turns at.place at.is_cut at.place_is in
        let taken = part_takes c s.acts made cut.0 c.first.state (nth_place c s.furthest).state at.place.state (stands_taken m c (debugger_state m old set) start s stands) cut.3 in
        record {
          done = s.acts ++ made;
          next = MakesTurn (s.furthest + at.turns);
          rest = at.makes.more;
          parts = next_turn s (f c s) at.turns at.makes;
          place = at.place;
          place_is = at.place_is;
          within = at.is_cut;
          part = cut.0;
          first = cut.1;
          did = part_on c s.acts made cut.0 start old.seen.world new.seen.world stands.did cut.2;
          cards = taken.cards;
          lines = taken.lines;
        };
    rose = rose;
    frames = attends_frames m old.at.machine new.at.machine old.seen new.seen frames;
  }

-- what stops within some acts stops within more
stops_before : (m : ℕ) (c : Course) (x : DebuggerState m) (start : World) (s t : Session) → Onward s t → StopsIn m c x start s → StopsIn m c x start t
stops_before m c x start s t on stops = record {
  done = stops.done;
  next = stops.next;
  rest = stops.rest ++ on.more;
  parts = sym (append_assoc stops.done (stops.next ∷ stops.rest) on.more) ∙ ap (λ (acts : List Act). acts ++ on.more) stops.parts ∙ sym on.grows;
  place = stops.place;
  place_is = stops.place_is;
  within = stops.within;
  part = stops.part;
  first = stops.first;
  did = stops.did;
  cards = stops.cards;
  lines = stops.lines;
}

-- what breaks off the first of two parts breaks off both
pub fails_first : (m limit : ℕ) (placed : List PlacedText) (f g h : Course → Session → Session) (a b : DebuggerState m) → ((c : Course) (s : Session) → f c s ≡ g c (h c s)) → ((c : Course) (s : Session) → Onward s (g c s))
    → FailsInPart m limit placed h a b → FailsInPart m limit placed f a b
fails_first m limit placed f g h a b same onward fails = record {
  told = λ c over start s stands. subst (StopsIn m c b start) (sym (same c s)) (stops_before m c b start (h c s) (g c (h c s)) (onward c (h c s)) (fails.told c over start s stands));
  rose = fails.rose;
  frames = fails.frames;
}
