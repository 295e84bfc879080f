use Rattle.std.proofs.Common.{ℕ, suc, ◌≤◌, ◌∙◌, refl, sym, subst, arith}
use Rattle.operator_script.specs.declared.turns.TurnEnd.TheVariants as end
use Rattle.operator_script.specs.Run.{standing_of, moment_at, Turns}
use Rattle.operator_script.proofs.Running.{starts, moved_by, ended_on}
use Rattle.operator_script.proofs.runs.Run.to_end.Goals as goal

fewer_yet : (a b c : ℕ) → suc a ≤ b → b ≤ c → suc a ≤ c
fewer_yet a b c less fewer = omega (arith, less, fewer)

pub loop-count-init : goal.loop-count-init
loop-count-init g c = record {
  same = (refl, refl, refl);
  under = starts g.row.M c.args.self.now.limit (standing_of g.row.M c.args.self.now) (g.H.Host.seen c.args.host.now) c.requires.within c.requires.sound c.requires.lines;
}

pub steps_to-requires : goal.steps_to-requires
steps_to-requires g c =
    let under = c.loop-count.invariant.under in
    (omega arith, (record { within = under.within; sound = under.sound; lines = under.lines }, (c.quiet_up_to-count.ensures.runs, (c.quiet_up_to-count.ensures.limit, c.quiet_up_to-count.ensures.quiet))))

pub returns-then-steps_to-clause-runs : goal.returns-then-steps_to-clause-runs
returns-then-steps_to-clause-runs g c =
    rw (sym c.loop-count.invariant.same.2)
    (c.steps_to.ensures.fails c.if-steps_to.true (standing_of g.row.M c.args.self.now) (g.H.Host.seen c.args.host.now) c.loop-count.invariant.under)

pub turn-requires : goal.turn-requires
turn-requires g c =
    let on = (c.steps_to.ensures.goes c.if-steps_to.false (standing_of g.row.M c.args.self.now) (g.H.Host.seen c.args.host.now) c.loop-count.invariant.under).0 in
    (omega arith, record { within = rw (c.steps_to.ensures.same.2) on.within; sound = on.sound; lines = on.lines })

pub loop-count-preserved : goal.loop-count-preserved
loop-count-preserved g c =
    let same = c.loop-count.invariant.same in
    let stepped = c.steps_to.ensures.same in
    let next = c.turn.ensures.same in
    let on = (c.steps_to.ensures.goes c.if-steps_to.false (standing_of g.row.M c.args.self.now) (g.H.Host.seen c.args.host.now) c.loop-count.invariant.under).0 in
    record {
      same = (next.0 ∙ stepped.0 ∙ same.0, next.1 ∙ stepped.1 ∙ same.1, next.2 ∙ stepped.2 ∙ same.2);
      under = rw (next.2, stepped.2)
          (moved_by g.row.M c.loop-count.self.limit (standing_of g.row.M c.args.self.now) (g.H.Host.seen c.args.host.now) (standing_of g.row.M c.steps_to.new.self) (g.H.Host.seen c.steps_to.new.host) on
          c.turn.result (standing_of g.row.M c.turn.new.self) (g.H.Host.seen c.turn.new.host) c.in-Acted.is (rw (stepped.2) at c.turn.ensures.turns)).0;
    }

pub loop-count-smaller : goal.loop-count-smaller
loop-count-smaller g c =
    let stepped = c.steps_to.ensures.same in
    let on = c.steps_to.ensures.goes c.if-steps_to.false (standing_of g.row.M c.args.self.now) (g.H.Host.seen c.args.host.now) c.loop-count.invariant.under in
    rw (c.turn.ensures.same.2, stepped.2)
    (fewer_yet _ _ _ (moved_by g.row.M c.loop-count.self.limit (standing_of g.row.M c.args.self.now) (g.H.Host.seen c.args.host.now) (standing_of g.row.M c.steps_to.new.self) (g.H.Host.seen c.steps_to.new.host) on.0
    c.turn.result (standing_of g.row.M c.turn.new.self) (g.H.Host.seen c.turn.new.host) c.in-Acted.is (rw (stepped.2) at c.turn.ensures.turns)).1 on.1)

pub returns-in-Ended-clause-runs : goal.returns-in-Ended-clause-runs
returns-in-Ended-clause-runs g c =
    let on = (c.steps_to.ensures.goes c.if-steps_to.false (standing_of g.row.M c.args.self.now) (g.H.Host.seen c.args.host.now) c.loop-count.invariant.under).0 in
    rw (sym c.loop-count.invariant.same.2)
    (ended_on g.row.M c.loop-count.self.limit (standing_of g.row.M c.args.self.now) (g.H.Host.seen c.args.host.now) (standing_of g.row.M c.steps_to.new.self) (g.H.Host.seen c.steps_to.new.host) on
    c.in-Ended.how (standing_of g.row.M c.turn.new.self) (g.H.Host.seen c.turn.new.host)
    (subst (λ k. Turns g.row.M k (moment_at g.row.M (standing_of g.row.M c.steps_to.new.self) (g.H.Host.seen c.steps_to.new.host)) (moment_at g.row.M (standing_of g.row.M c.turn.new.self) (g.H.Host.seen c.turn.new.host)) (end.Ended c.in-Ended.how)) c.steps_to.ensures.same.2 c.in-Ended.ensures.turns))
