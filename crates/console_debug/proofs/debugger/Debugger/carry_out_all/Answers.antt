-- One command after another.
use Rattle.std.proofs.Common.{◌∙◌, ◌+◌, drop, count_by, vec_len, vec_capacity, refl, sym, arith}
use Rattle.std.proofs.lemmas.List.{drop_more, drop_all}
use Rattle.sps_listing.specs.Listing.{placed_texts}
use Rattle.console_debug.specs.declared.commands.DebugCommand.{DebugCommand}
use Rattle.console_debug.specs.Grammar.{is_break}
use Rattle.console_debug.specs.Session.{session_of}
use Rattle.console_debug.specs.Carries.{debugger_state_of}
use Rattle.console_debug.proofs.DebuggerStates.{begins}
use Rattle.console_debug.proofs.WholeSessions.{command_done, command_failed, command_quits, none_left, room_left}
use Rattle.console_debug.proofs.debugger.Debugger.carry_out_all.Goals as goal

pub loop-command-init : goal.loop-command-init
loop-command-init g c =
    let m = g.row.M in
    let all = session_of c.args.list.now in
    record {
      same = (((refl, refl, refl), refl), refl, refl);
      ready = c.requires.ready;
      len = omega arith;
      capacity = (refl, refl, refl, refl);
      under = begins m c.args.self.now.cursor.run.limit (placed_texts c.args.self.now.assembled.now) all all (debugger_state_of m c.args.self.now (g.H.Host.seen c.args.host.now)) (λ x s. refl) c.requires.ready.fit;
    }

pub returns-then-is_quit-clause-carries : goal.returns-then-is_quit-clause-carries
returns-then-is_quit-clause-carries g c =
    let m = g.row.M in
    let list = c.args.list.now in
    let i = c.loop-command.command-index in
    let first = debugger_state_of m c.args.self.now (g.H.Host.seen c.args.host.now) in
    let now = debugger_state_of m c.loop-command.self (g.H.Host.seen c.loop-command.host) in
    command_quits m c.args.self.now.cursor.run.limit (placed_texts c.args.self.now.assembled.now) (session_of list) first now _ (drop (i + 1) list) (drop i list)
    (drop_more list i _ c.loop-command-test.true) (sym c.is_quit.ensures ∙ c.if-is_quit.true) c.loop-command.invariant.under

pub returns-in-Failed-clause-carries : goal.returns-in-Failed-clause-carries
returns-in-Failed-clause-carries g c =
    let m = g.row.M in
    let list = c.args.list.now in
    let i = c.loop-command.command-index in
    let first = debugger_state_of m c.args.self.now (g.H.Host.seen c.args.host.now) in
    let now = debugger_state_of m c.loop-command.self (g.H.Host.seen c.loop-command.host) in
    let next = debugger_state_of m c.carry_out.new.self (g.H.Host.seen c.carry_out.new.host) in
    let same = c.loop-command.invariant.same in
    command_failed m c.args.self.now.cursor.run.limit (placed_texts c.args.self.now.assembled.now) (session_of list) first now _ (drop (i + 1) list) (drop i list) next
    (drop_more list i _ c.loop-command-test.true) (sym c.is_quit.ensures ∙ c.if-is_quit.false) c.loop-command.invariant.under
    (rw (same.0.0.2, same.1) at c.in-Failed.ensures.carries)

pub returns-in-Failed-clause-len : goal.returns-in-Failed-clause-len
returns-in-Failed-clause-len g c =
    let list = c.args.list.now in
    let i = c.loop-command.command-index in
    let all = vec_len c.args.self.now.breaks.now.log + count_by is_break list in
    let left = room_left (vec_len c.loop-command.self.breaks.now.log) (vec_len c.carry_out.new.self.breaks.now.log) all all _ (drop (i + 1) list) (drop i list)
    (drop_more list i _ c.loop-command-test.true) c.loop-command.invariant.len c.in-Failed.ensures.len refl in
    omega (arith, left)

pub loop-command-preserved : goal.loop-command-preserved
loop-command-preserved g c =
    let m = g.row.M in
    let list = c.args.list.now in
    let i = c.loop-command.command-index in
    let first = debugger_state_of m c.args.self.now (g.H.Host.seen c.args.host.now) in
    let now = debugger_state_of m c.loop-command.self (g.H.Host.seen c.loop-command.host) in
    let next = debugger_state_of m c.carry_out.new.self (g.H.Host.seen c.carry_out.new.host) in
    let rest = drop (i + 1) list in
    let front = λ (d : DebugCommand). drop_more list i d c.loop-command-test.true in
    let kept = c.loop-command.invariant in
    let same = kept.same in
    let carried = c.in-Done.ensures in
    let on = carried.same in
    let breaks = c.loop-command.self.breaks.now in
    let after = c.carry_out.new.self.breaks.now in
    let all = vec_len c.args.self.now.breaks.now.log + count_by is_break list in
    record {
      same = (((on.0.0.0 ∙ same.0.0.0, on.0.0.1 ∙ same.0.0.1, on.0.0.2 ∙ same.0.0.2), on.0.1 ∙ same.0.1), on.1 ∙ same.1, on.2 ∙ same.2);
      ready = record {
        fit = rw (on.0.0.2) carried.carries.fit;
        tables = rw (on.1) carried.tables;
        room = (
          room_left (vec_len breaks.log) (vec_len after.log) (vec_capacity breaks.statements) (vec_capacity after.statements) _ rest (drop i list) (front _) kept.ready.room.0 carried.len carried.room.0,
          room_left (vec_len breaks.log) (vec_len after.log) (vec_capacity breaks.log) (vec_capacity after.log) _ rest (drop i list) (front _) kept.ready.room.1 carried.len carried.room.1,
          omega (arith, carried.room.2, kept.ready.room.2),
          omega (arith, carried.room.3, kept.ready.room.3),
        );
      };
      len = room_left (vec_len breaks.log) (vec_len after.log) all all _ rest (drop i list) (front _) kept.len carried.len refl;
      capacity = (carried.room.0 ∙ kept.capacity.0, carried.room.1 ∙ kept.capacity.1, carried.room.2 ∙ kept.capacity.2, carried.room.3 ∙ kept.capacity.3);
      under = command_done m c.args.self.now.cursor.run.limit (placed_texts c.args.self.now.assembled.now) (session_of list) first now _ rest (drop i list) next
          (front _) (sym c.is_quit.ensures ∙ c.if-is_quit.false) kept.under (rw (same.0.0.2, same.1) at carried.carries);
    }

pub returns-clause-carries : goal.returns-clause-carries
returns-clause-carries g c =
    let m = g.row.M in
    let list = c.args.list.now in
    let i = c.loop-command.command-index in
    let first = debugger_state_of m c.args.self.now (g.H.Host.seen c.args.host.now) in
    let now = debugger_state_of m c.loop-command.self (g.H.Host.seen c.loop-command.host) in
    none_left m c.args.self.now.cursor.run.limit (placed_texts c.args.self.now.assembled.now) (session_of list) first now (drop i list) (drop_all i list c.loop-command-test.false) c.loop-command.invariant.under
