-- What each command does to a debugger state.
use Rattle.std.proofs.Common.{◌≡◌, ℕ, Bool, true, false, List, refl, sym, ap, subst}
use Rattle.std.specs.Prelude.{if◌then◌else◌}
use Rattle.outside_io.specs.declared.host.Unit.TheVariants as units
use Rattle.outside_io.specs.declared.whole.Sent.{Sent}
use Rattle.outside_io.specs.declared.whole.Sent.TheVariants as sent
use Rattle.outside_io.specs.World.{Seen}
use Rattle.outside_io.specs.Whole.{Sends}
use Rattle.cpu_step.proofs.ShownStates.{frames_same}
use Rattle.sps_pass_two.specs.Assembled.{PlacedText}
use Rattle.console_debug.specs.declared.commands.DebugCommand.{DebugCommand}
use Rattle.console_debug.specs.declared.commands.DebugCommand.TheVariants as command
use Rattle.console_debug.specs.Lines.{no_statement_line, show_line}
use Rattle.console_debug.specs.Places.{is_instruction_at}
use Rattle.console_debug.specs.Session.{Course, Session, says, go, steps, back, set_break, clear_break, with_break, without_break, session_after}
use Rattle.console_debug.specs.CursorStates.{CursorState, IsFit}
use Rattle.console_debug.specs.Carries.{DebuggerState, debugger_state, Does, CarriesPart, marks, SetsIf, Sets}
use Rattle.console_debug.proofs.DebuggerStates.{begins, all_done, core_here, said, carried_same}

module _ (m limit : ℕ) (placed : List PlacedText) where
  -- said of a command that is this one
  of_command : (what given : DebugCommand) (a b : DebuggerState m) (how : Sent) → what ≡ given → CarriesPart m limit placed (session_after given) a b how → CarriesPart m limit placed (session_after what) a b how
  of_command what given a b how is carries = subst (λ (x : DebugCommand). CarriesPart m limit placed (session_after x) a b how) (sym is) carries

  -- those that move along the run
  pub go_carried : (what : DebugCommand) (a b : DebuggerState m) (how : Sent) → what ≡ command.Go → CarriesPart m limit placed go a b how → CarriesPart m limit placed (session_after what) a b how
  unfolding session_after
  go_carried what a b how is carries = of_command what command.Go a b how is carries

  pub step_carried : (what : DebugCommand) (n : ℕ) (a b : DebuggerState m) (how : Sent) → what ≡ command.Step n → CarriesPart m limit placed (steps n) a b how → CarriesPart m limit placed (session_after what) a b how
  unfolding session_after
  step_carried what n a b how is carries = of_command what (command.Step n) a b how is carries

  pub back_carried : (what : DebugCommand) (n : ℕ) (a b : DebuggerState m) (how : Sent) → what ≡ command.Back n → CarriesPart m limit placed (back n) a b how → CarriesPart m limit placed (session_after what) a b how
  unfolding session_after
  back_carried what n a b how is carries = of_command what (command.Back n) a b how is carries

  -- QUIT
  pub quit_carried : (what : DebugCommand) (x : DebuggerState m) → what ≡ command.Quit → IsFit m limit x.cursor_state → Does m limit placed (session_after what) x x
  unfolding session_after
  quit_carried what x is fit = of_command what command.Quit x x sent.Done is (all_done m limit placed (session_after command.Quit) x x (begins m limit placed (session_after command.Quit) (λ c s. s) x (λ c s. refl) fit))

  module _ (x : CursorState m) (fit : IsFit m limit x) (after : Seen) (how : Sent) where
    abbrev later : CursorState m
    later = record x { seen = after }

    -- SHOW
    pub show_carried : (what : DebugCommand) (set : List ℕ) (at count : ℕ) → what ≡ command.Show at count → Sends x.seen after units.Report (show_line x.at.machine.core at count) how
        → CarriesPart m limit placed (session_after what) (debugger_state m x set) (debugger_state m later set) how
    unfolding session_after
    show_carried what set at count is sends = of_command what (command.Show at count) (debugger_state m x set) (debugger_state m later set) how is
        (said m limit placed x set after (session_after (command.Show at count)) (show_line x.at.machine.core at count) how fit
        (λ c over start s stands. ap (λ core. says (show_line core at count) s) (core_here m c s.at s.furthest x stands.on_it))
        sends)

    -- other breakpoints, or a line
    abbrev sets_or_says : Bool → ℕ → (List ℕ → List ℕ) → Course → Session → Session
    sets_or_says b n change c s = if b then record s { breaks = change s.breaks } else says (no_statement_line n) s

    set_does : (n : ℕ) (old : List ℕ) (change : List ℕ → List ℕ) → Does m limit placed (sets_or_says true n change) (debugger_state m x old) (debugger_state m x (change old))
    set_does n old change = record {
      told = λ c over start s stands. record { on_it = stands.on_it; breaks_are = ap change stands.breaks_are; turns = stands.turns; did = stands.did; cards = stands.cards; lines = stands.lines };
      fit = fit;
      frames = frames_same m x.at.machine x.at.machine x.seen refl refl;
    }

    set_carried : (b : Bool) (n : ℕ) (old new : List ℕ) (change : List ℕ → List ℕ) → SetsIf b n change (marks old x.seen) (marks new after) how
        → CarriesPart m limit placed (sets_or_says b n change) (debugger_state m x old) (debugger_state m later new) how
    set_carried true n old new change sets = rw (sets.0, sets.1, sets.2) (set_does n old change)
    set_carried false n old new change sets = rw sets.0
        (said m limit placed x old after (sets_or_says false n change) (no_statement_line n) how fit (λ c over start s stands. refl) sets.1)

    sets_over : (f : Course → Session → Session) (n : ℕ) (change : List ℕ → List ℕ) (a b : DebuggerState m) → ((c : Course) → c.placed ≡ placed → (s : Session) → f c s ≡ sets_or_says (is_instruction_at placed n) n change c s)
        → CarriesPart m limit placed (sets_or_says (is_instruction_at placed n) n change) a b how → CarriesPart m limit placed f a b how
    sets_over f n change a b same carries = carried_same m limit placed f (sets_or_says (is_instruction_at placed n) n change) a b how (λ c over s. same c over.placed_is s) carries

    -- BREAK and CLEAR
    pub break_carried : (what : DebugCommand) (n : ℕ) (old new : List ℕ) → what ≡ command.Break n → Sets placed n (with_break n) (marks old x.seen) (marks new after) how
        → CarriesPart m limit placed (session_after what) (debugger_state m x old) (debugger_state m later new) how
    unfolding session_after
    break_carried what n old new is sets = of_command what (command.Break n) (debugger_state m x old) (debugger_state m later new) how is
        (sets_over (λ c s. set_break c.placed n s) n (with_break n) (debugger_state m x old) (debugger_state m later new) (λ c is s. ap (λ (p : List PlacedText). set_break p n s) is)
        (set_carried (is_instruction_at placed n) n old new (with_break n) sets))

    pub clear_carried : (what : DebugCommand) (n : ℕ) (old new : List ℕ) → what ≡ command.Clear n → Sets placed n (without_break n) (marks old x.seen) (marks new after) how
        → CarriesPart m limit placed (session_after what) (debugger_state m x old) (debugger_state m later new) how
    unfolding session_after
    clear_carried what n old new is sets = of_command what (command.Clear n) (debugger_state m x old) (debugger_state m later new) how is
        (sets_over (λ c s. clear_break c.placed n s) n (without_break n) (debugger_state m x old) (debugger_state m later new) (λ c is s. ap (λ (p : List PlacedText). clear_break p n s) is)
        (set_carried (is_instruction_at placed n) n old new (without_break n) sets))

-- by whether the statement is an instruction
pub none_set : (placed : List PlacedText) (n : ℕ) (change : List ℕ → List ℕ) (old : List ℕ) (before after : Seen) (how : Sent) → is_instruction_at placed n ≡ false → Sends before after units.Report (no_statement_line n) how
    → Sets placed n change (marks old before) (marks old after) how
none_set placed n change old before after how none sends = subst (λ (b : Bool). SetsIf b n change (marks old before) (marks old after) how) (sym none) (refl, sends)

pub all_set : (placed : List PlacedText) (n : ℕ) (change : List ℕ → List ℕ) (old new : List ℕ) (before : Seen) → is_instruction_at placed n ≡ true → new ≡ change old → Sets placed n change (marks old before) (marks new before) sent.Done
all_set placed n change old new before some same = subst (λ (b : Bool). SetsIf b n change (marks old before) (marks new before) sent.Done) (sym some) (same, refl, refl)

-- none of them changed where the statement is no instruction
pub same_set : (placed : List PlacedText) (n : ℕ) (change : List ℕ → List ℕ) (old new : List ℕ) (before after : Seen) (how : Sent) → is_instruction_at placed n ≡ false → new ≡ old → Sends before after units.Report (no_statement_line n) how
    → Sets placed n change (marks old before) (marks new after) how
same_set placed n change old new before after how none same sends = subst (λ (set : List ℕ). Sets placed n change (marks old before) (marks set after) how) (sym same) (none_set placed n change old before after how none sends)
