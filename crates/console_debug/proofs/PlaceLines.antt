-- The lines of the place where a session stands, and what GO and BACK come to.
use Rattle.std.proofs.Common.{◌≡◌, ◌∙◌, ℕ, suc, ◌+◌, ◌-◌, ◌<◌, ◌≤◌, nat_le, nat_lt, inl, inr, Bool, true, false, ◌&&◌, List, length, refl, sym, ap, subst, arith}
use Rattle.std.proofs.lemmas.Bool.{cases_lt}
use Rattle.std.proofs.lemmas.Bool.Decides.{nat_tests}
use Rattle.std.specs.Prelude.{Option, Some, None, if◌then◌else◌}
use Rattle.outside_io.specs.declared.host.Unit.TheVariants as units
use Rattle.outside_io.specs.declared.whole.Sent.{Sent}
use Rattle.outside_io.specs.World.{Seen}
use Rattle.outside_io.specs.Events.{DidAll}
use Rattle.outside_io.specs.Whole.{Sends}
use Rattle.operator_script.specs.declared.turns.Ending.{Ending}
use Rattle.operator_script.specs.Turn.{ending_at}
use Rattle.sps_pass_two.specs.Assembled.{PlacedText}
use Rattle.rewind_log.specs.Kept.{most_places}
use Rattle.console_debug.specs.Lines.{at_line, break_line, ending_line, no_back_line}
use Rattle.console_debug.specs.Places.{turns_to_stop}
use Rattle.console_debug.specs.Session.{Course, Session, nth_place, places_ahead, says, place_line, end_line, to_stop, go, back, session_events}
use Rattle.console_debug.specs.CursorStates.{CursorState, IsFit, ToAStop, ToTheEnd, BreaksOnTheWay, GoesBack, StaysThere}
use Rattle.console_debug.specs.Carries.{debugger_state, IsCourseOver, FailsInPart, CarriesPart}
use Rattle.console_debug.proofs.Onward.{MakesTurns, stop_makes}
use Rattle.console_debug.proofs.DebuggerStates.{attends_frames, said, ir_here, mode_here, steps_here, ends_with, moved, broke, broken_at}

-- the line of a step's place, of a breakpoint there, and of the ending there
abbrev pub says_at : Course → Session → Session
says_at c s = says (place_line (nth_place c s.at)) s

abbrev pub says_break : Course → Session → Session
says_break c s = says (break_line c.placed (nth_place c s.at).state.regs.ir (nth_place c s.at).steps) s

abbrev pub says_end : Course → Session → Session
says_end c s = says (end_line (nth_place c s.at)) s

-- the machine says them by its own registers, mode and count
module _ (m limit : ℕ) (placed : List PlacedText) (x : CursorState m) (set : List ℕ) (after : Seen) (fit : IsFit m limit x) where
  pub at_said : (how : Sent) → Sends x.seen after units.Report (at_line x.at.machine.regs.ir x.at.steps) how → CarriesPart m limit placed says_at (debugger_state m x set) (debugger_state m (record x { seen = after }) set) how
  at_said how sends = said m limit placed x set after says_at (at_line x.at.machine.regs.ir x.at.steps) how fit
      (λ c over start s stands.
      let ir = ir_here m c s.at s.furthest x stands.on_it in
      let steps = steps_here m c s.at s.furthest x stands.on_it in
      ap (λ (line : List ℕ). says line s) (ap (λ i. at_line i (nth_place c s.at).steps) ir ∙ ap (at_line x.at.machine.regs.ir) steps))
      sends

  pub break_said : (how : Sent) → Sends x.seen after units.Report (break_line placed x.at.machine.regs.ir x.at.steps) how → CarriesPart m limit placed says_break (debugger_state m x set) (debugger_state m (record x { seen = after }) set) how
  break_said how sends = said m limit placed x set after says_break (break_line placed x.at.machine.regs.ir x.at.steps) how fit
      (λ c over start s stands.
      let ir = ir_here m c s.at s.furthest x stands.on_it in
      let steps = steps_here m c s.at s.furthest x stands.on_it in
      ap (λ (line : List ℕ). says line s) (ap (λ (p : List PlacedText). break_line p (nth_place c s.at).state.regs.ir (nth_place c s.at).steps) over.placed_is
      ∙ ap (λ i. break_line placed i (nth_place c s.at).steps) ir ∙ ap (λ n. break_line placed x.at.machine.regs.ir n) steps))
      sends

  pub end_said : (ends : Ending) (how : Sent) → ends ≡ ending_at x.at.machine.mode x.at.machine.regs.ir → Sends x.seen after units.Report (ending_line ends x.at.steps) how
      → CarriesPart m limit placed says_end (debugger_state m x set) (debugger_state m (record x { seen = after }) set) how
  end_said ends how is sends = said m limit placed x set after says_end (ending_line ends x.at.steps) how fit
      (λ c over start s stands.
      let ir = ir_here m c s.at s.furthest x stands.on_it in
      let mode = mode_here m c s.at s.furthest x stands.on_it in
      let steps = steps_here m c s.at s.furthest x stands.on_it in
      ap (λ (line : List ℕ). says line s) (ap (λ e. ending_line e (nth_place c s.at).steps) (ap (λ o. ending_at o (nth_place c s.at).state.regs.ir) mode ∙ ap (ending_at x.at.machine.mode) ir ∙ sym is)
      ∙ ap (ending_line ends) steps))
      sends

-- GO

module _ (m limit : ℕ) (placed : List PlacedText) (set : List ℕ) (old mid : CursorState m) where
  -- what GO does by what lies ahead
  go_by : (c : Course) → IsCourseOver limit placed c → (s : Session) → set ≡ s.breaks → (o : Option ℕ) → turns_to_stop placed set (places_ahead c s.at) ≡ o → go c s ≡ to_stop c s o
  go_by c over s are o is =
      ap (to_stop c s) (ap (λ (p : List PlacedText). turns_to_stop p s.breaks (places_ahead c s.at)) over.placed_is ∙ ap (λ (b : List ℕ). turns_to_stop placed b (places_ahead c s.at)) (sym are) ∙ is)

  -- the line of the stop
  pub stopped : (after : Seen) (how : Sent) → ToAStop m limit placed set old mid → Sends mid.seen after units.Report (break_line placed mid.at.machine.regs.ir mid.at.steps) how
      → CarriesPart m limit placed go (debugger_state m old set) (debugger_state m (record mid { seen = after }) set) how
  stopped after how to sends =
      ends_with m limit placed go says_break (debugger_state m old set) (debugger_state m mid set) (debugger_state m (record mid { seen = after }) set) how
      (moved m limit placed go says_break old mid set to.frames to.fit
      (λ c over s are on_it. let led = to.told c s.at s.furthest over.limit_is on_it in (led.0, led.2, go_by c over s are (Some led.0) led.1)))
      (break_said m limit placed mid set after to.fit how sends)

  -- the line of the end, by its ending
  pub ran_out : (ends : Ending) (after : Seen) (how : Sent) → ToTheEnd m limit (turns_to_stop placed set) ends old mid → Sends mid.seen after units.Report (ending_line ends mid.at.steps) how
      → CarriesPart m limit placed go (debugger_state m old set) (debugger_state m (record mid { seen = after }) set) how
  ran_out ends after how to sends =
      ends_with m limit placed go says_end (debugger_state m old set) (debugger_state m mid set) (debugger_state m (record mid { seen = after }) set) how
      (moved m limit placed go says_end old mid set to.frames to.fit
      (λ c over s are on_it. let led = to.told c s.at s.furthest over.limit_is on_it in (length (places_ahead c s.at), led.1, go_by c over s are None led.0)))
      (end_said m limit placed mid set after to.fit ends how to.ending sends)

  -- the host failed before
  pub broke_off : BreaksOnTheWay m limit (turns_to_stop placed set) old mid → FailsInPart m limit placed go (debugger_state m old set) (debugger_state m mid set)
  broke_off fails = broke m limit placed go old mid set fails.frames fails.rose
      (λ c over s are on_it.
      let at = fails.told c s.at s.furthest over.limit_is on_it in
      let o = turns_to_stop placed set (places_ahead c s.at) in
      let k = s.at + at.0 - s.furthest in
      broken_at m limit placed go mid c over s at.0 at.2 at.3
      (subst (MakesTurns s (suc k)) (sym (go_by c over s are o refl)) (stop_makes c s o (suc k) (omega (arith, at.1, at.2)))))

-- BACK

can_go_back : (k at furthest : ℕ) → k ≤ at → furthest - (at - k) < most_places → (nat_le k at && nat_lt (furthest - (at - k)) most_places) ≡ true
can_go_back k at furthest as_many still = grind (arith, nat_tests, as_many, still)

cannot_go_back : (k at furthest : ℕ) → (k ≤ at → most_places ≤ furthest - (at - k)) → (nat_le k at && nat_lt (furthest - (at - k)) most_places) ≡ false
cannot_go_back k at furthest none = elim (cases_lt at k) [
  | inl more ↦ grind (arith, nat_tests, more)
  | inr as_many ↦ let past : most_places ≤ furthest - (at - k) = none as_many in grind (arith, nat_tests, as_many, past)
]

module _ (m limit : ℕ) (placed : List PlacedText) (k : ℕ) (set : List ℕ) (old mid : CursorState m) (after : Seen) where
  -- it went there, and its line is that of the place
  pub went_back : (how : Sent) → mid.seen ≡ old.seen → GoesBack m limit k old mid → Sends mid.seen after units.Report (at_line mid.at.machine.regs.ir mid.at.steps) how
      → CarriesPart m limit placed (back k) (debugger_state m old set) (debugger_state m (record mid { seen = after }) set) how
  went_back how same goes sends =
      ends_with m limit placed (back k) says_at (debugger_state m old set) (debugger_state m mid set) (debugger_state m (record mid { seen = after }) set) how
      (record {
        told = λ c over start s stands.
            let at = goes.told c s.at s.furthest over.limit_is stands.on_it in
            let test = can_go_back k s.at s.furthest at.0 at.1 in (
              record s { at = s.at - k },
              record {
                on_it = at.2;
                breaks_are = stands.breaks_are;
                turns = stands.turns;
                did = subst (λ (seen : Seen). DidAll (session_events c s.acts) start seen.world) (sym same) stands.did;
                cards = stands.cards;
                lines = stands.lines;
              },
              ap (λ (b : Bool). if b then says (place_line (nth_place c (s.at - k))) (record s { at = s.at - k }) else says (no_back_line k) s) test,
            );
        fit = goes.fit;
        frames = attends_frames m old.at.machine mid.at.machine old.seen mid.seen goes.frames;
      })
      (at_said m limit placed mid set after goes.fit how sends)

  -- or it stayed, and says so
  pub stayed : (how : Sent) → IsFit m limit old → StaysThere m limit k old mid → Sends mid.seen after units.Report (no_back_line k) how
      → CarriesPart m limit placed (back k) (debugger_state m old set) (debugger_state m (record mid { seen = after }) set) how
  stayed how fit stays sends =
      let stands_still : Sends old.seen after units.Report (no_back_line k) how = subst (λ (x : CursorState m). Sends x.seen after units.Report (no_back_line k) how) stays.same sends in
      subst (λ (x : CursorState m). CarriesPart m limit placed (back k) (debugger_state m old set) (debugger_state m (record x { seen = after }) set) how) (sym stays.same)
      (said m limit placed old set after (back k) (no_back_line k) how fit
      (λ c over start s stands.
      let test = cannot_go_back k s.at s.furthest (stays.told c s.at s.furthest over.limit_is stands.on_it) in
      ap (λ (b : Bool). if b then says (place_line (nth_place c (s.at - k))) (record s { at = s.at - k }) else says (no_back_line k) s) test)
      stands_still)
