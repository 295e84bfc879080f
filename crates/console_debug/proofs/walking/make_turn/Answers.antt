-- A turn, and its place.
use Rattle.std.proofs.Common.{lit<, refl}
use Rattle.operator_script.specs.declared.turns.TurnEnd.TheVariants as end
use Rattle.operator_script.specs.Run.{run_state, standing_of}
use Rattle.console_debug.specs.CursorStates.{cursor_state_at}
use Rattle.console_debug.proofs.Looking.{advances_from, newest_stored, acted_kept, stepped_kept}
use Rattle.console_debug.proofs.Stepping.{over_on}
use Rattle.console_debug.proofs.walking.make_turn.Goals as goal

pub keep_step-requires : goal.keep_step-requires
keep_step-requires g c =
    let m = g.row.M in
    let old = cursor_state_at m (standing_of m c.args.run.now) c.args.rewind.now 0 (g.H.Host.seen c.args.host.now) in
    let within = newest_stored m old c.stores-stores.new.self c.turn.new.self.machine.now (g.H.Host.seen c.turn.new.host) c.stores-stores.result c.stores-stores.ensures.same (c.requires.core refl) c.stores-stores.ensures.within c.in-Stepped.ensures.stepped in
    (lit< tt, (lit< tt, (c.requires.few, (c.stores-stores.ensures.below, within))))

pub returns-in-Acted-clause-advances : goal.returns-in-Acted-clause-advances
returns-in-Acted-clause-advances g c =
    let m = g.row.M in
    acted_kept m c.args.run.now.limit (cursor_state_at m (standing_of m c.args.run.now) c.args.rewind.now 0 (g.H.Host.seen c.args.host.now)) c.stores-stores.new.self c.stores-stores.ensures.same c.requires refl
    (standing_of m c.turn.new.self) (g.H.Host.seen c.turn.new.host) c.keep.new.self c.keep.ensures c.in-Acted.ensures.turns

pub returns-in-Stepped-clause-advances : goal.returns-in-Stepped-clause-advances
returns-in-Stepped-clause-advances g c =
    let m = g.row.M in
    stepped_kept m c.args.run.now.limit (cursor_state_at m (standing_of m c.args.run.now) c.args.rewind.now 0 (g.H.Host.seen c.args.host.now)) c.stores-stores.new.self c.stores-stores.ensures.same c.requires refl
    (standing_of m c.turn.new.self) (g.H.Host.seen c.turn.new.host) c.keep_step.new.rewind c.keep_step.ensures c.in-Stepped.ensures.turns

pub returns-in-Ended-clause-advances : goal.returns-in-Ended-clause-advances
returns-in-Ended-clause-advances g c =
    let m = g.row.M in
    let limit = c.args.run.now.limit in
    let seen = g.H.Host.seen c.args.host.now in
    let after = g.H.Host.seen c.turn.new.host in
    let first = cursor_state_at m (standing_of m c.args.run.now) c.args.rewind.now 0 seen in
    let old = cursor_state_at m (run_state m c.stores-stores.new.self c.args.run.now.script.now c.args.run.now.steps) c.args.rewind.now 0 seen in
    let new = standing_of m c.turn.new.self in
    advances_from m limit first (cursor_state_at m new c.args.rewind.now 0 after) c.stores-stores.new.self c.stores-stores.ensures.same (end.Ended c.in-Ended.how)
    (over_on m limit old new after refl c.requires.within c.in-Ended.how c.in-Ended.ensures.turns)
