-- The first place is kept before the first command, and the breakpoints that are set behind the last.
use Rattle.std.proofs.Common.{◌≡◌, ℕ, ◌∷◌, All, List, [], count_by, lit<, rules, sym, ap, subst, arith}
use Rattle.std.proofs.lemmas.Grind.{common_steps}
use Rattle.digit_core.specs.Size.{size}
use Rattle.outside_io.specs.declared.whole.Sent.TheVariants as sent
use Rattle.outside_io.specs.World.{Seen}
use Rattle.cpu_step.specs.declared.machine.Machine.{Machine}
use Rattle.operator_script.specs.declared.script.Script.{Script}
use Rattle.operator_script.specs.Run.{Moment}
use Rattle.sps_listing.specs.Listing.{placed_texts}
use Rattle.rewind_log.specs.Kept.{Kept, place_of_machine}
use Rattle.console_debug.specs.CommandLists.{IsCommand, command_list}
use Rattle.console_debug.specs.Grammar.{is_break}
use Rattle.console_debug.specs.CursorStates.{IsFit, cursor_state}
use Rattle.console_debug.specs.Carries.{debugger_state_of}
use Rattle.console_debug.specs.Debugs.{SessionTask, without_count, EndsSession, BreaksSession}
use Rattle.console_debug.proofs.WholeSessions.{first_kept, first_fit, from_first, session_ended, session_broke}
use Rattle.console_debug.proofs.debugger.session.Goals as goal

-- machine, script and breakpoints at the end are those of the debugger
ends_as : (m : ℕ) (t : SessionTask) (old : Moment m) (machine given : Machine m) (script told : Script) (seen : Seen) (set breaks : List ℕ) → given ≡ machine → told ≡ script → breaks ≡ set
    → EndsSession m t old (without_count m machine script seen) set → EndsSession m t old (without_count m given told seen) breaks
ends_as m t old machine given script told seen set breaks same lines are ends = rw (same, lines, are) ends

breaks_as : (m : ℕ) (t : SessionTask) (old : Moment m) (machine given : Machine m) (script told : Script) (seen : Seen) → given ≡ machine → told ≡ script
    → BreaksSession m t old (without_count m machine script seen) → BreaksSession m t old (without_count m given told seen)
breaks_as m t old machine given script told seen same lines fails = rw (same, lines) fails

pub carry_out_all-sent-requires : goal.carry_out_all-sent-requires
carry_out_all-sent-requires g c =
    let m = g.row.M in
    let limit = c.args.limit in
    let machine = c.args.machine.now in
    let script = c.args.script.now in
    let seen = g.H.Host.seen c.args.host.now in
    let cleared = c.clear_all.ensures in
    let list = c.deref.ensures.value in
    let count = ap (count_by is_break) list in
    let one : c.keep.new.self ≡ place_of_machine m machine 0 ∷ [] = first_kept m machine _ _ c.keep.ensures c.requires.empty in (
      lit< tt,
      (
        record {
          fit = subst (λ (ks : List Kept). IsFit m limit (cursor_state m machine script 0 ks 0 seen)) (sym one)
              (first_fit m limit (placed_texts c.args.assembled.now) machine script seen c.requires.mode c.requires.lines);
          tables = cleared.tables;
          room = (
            omega (arith, count, cleared.none_logged, cleared.room.0, c.requires.room.0),
            omega (arith, count, cleared.none_logged, cleared.room.1, c.requires.room.1),
            omega (arith, cleared.room.2, c.requires.room.2),
            omega (arith, cleared.room.3, c.requires.room.3),
          );
        },
        subst (All (IsCommand (size m))) (sym list) c.requires.fits,
      ),
    )

pub returns-in-Done-clause-does : goal.returns-in-Done-clause-does
returns-in-Done-clause-does g c =
    let next = debugger_state_of g.row.M c.carry_out_all-sent.new.self (g.H.Host.seen c.carry_out_all-sent.new.host) in
    let kept = c.carry_out_all-sent.ensures.same in
    ends_as g.row.M _ _ next.cursor_state.at.machine _ next.cursor_state.at.script _ next.cursor_state.seen next.breaks _
    (first_of (search (rules, kept.0.0.0), cc, assumption kept.0.0.0, grind (arith, common_steps, kept.0.0.0)))
    (first_of (search (rules, kept.0.0.1), cc, assumption kept.0.0.1, grind (arith, common_steps, kept.0.0.1)))
    c.settle.ensures.statements
    (session_ended g.row.M c.args.limit (placed_texts c.args.assembled.now) c.args.machine.now c.args.script.now (g.H.Host.seen c.args.host.now) (command_list c.args.commands.now) next.cursor_state next.breaks
    (from_first _ _ _ _ _ _ _ _ _ _ next sent.Done (first_kept g.row.M c.args.machine.now _ _ c.keep.ensures c.requires.empty) c.clear_all.ensures.none_set c.deref.ensures.value c.in-Done.ensures.carries))

pub returns-in-Failed-clause-does : goal.returns-in-Failed-clause-does
returns-in-Failed-clause-does g c =
    let next = debugger_state_of g.row.M c.carry_out_all-sent.new.self (g.H.Host.seen c.carry_out_all-sent.new.host) in
    let kept = c.carry_out_all-sent.ensures.same in
    breaks_as g.row.M _ _ next.cursor_state.at.machine _ next.cursor_state.at.script _ next.cursor_state.seen
    (first_of (search (rules, kept.0.0.0), cc, assumption kept.0.0.0, grind (arith, common_steps, kept.0.0.0)))
    (first_of (search (rules, kept.0.0.1), cc, assumption kept.0.0.1, grind (arith, common_steps, kept.0.0.1)))
    (session_broke g.row.M c.args.limit (placed_texts c.args.assembled.now) c.args.machine.now c.args.script.now (g.H.Host.seen c.args.host.now) (command_list c.args.commands.now) next.cursor_state next.breaks
    (from_first _ _ _ _ _ _ _ _ _ _ next sent.Failed (first_kept g.row.M c.args.machine.now _ _ c.keep.ensures c.requires.empty) c.clear_all.ensures.none_set c.deref.ensures.value c.in-Failed.ensures.carries))
