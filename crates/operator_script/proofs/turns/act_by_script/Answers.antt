use Rattle.std.proofs.Common.{refl, sym, arith}
use Rattle.digit_core.specs.Size.{size}
use Rattle.operator_script.proofs.Turning.{due_fits, drop_one}
use Rattle.operator_script.proofs.Moving.{acts_turn, acts_stepped}
use Rattle.operator_script.proofs.turns.act_by_script.Goals as goal

pub act-requires : goal.act-requires
act-requires g c = (omega arith, (due_fits (size g.row.M) c.args.machine.now.mode c.args.steps _ c.in-Some.action (sym c.in-Some.ensures.is) c.requires.lines, c.requires.mode))

pub returns-in-Some-clause-turns : goal.returns-in-Some-clause-turns
returns-in-Some-clause-turns g c = λ limit within. acts_turn g.row.M limit _ _ _ _ c.in-Some.action c.requires.go (sym c.in-Some.ensures.is) within c.act.result refl (drop_one c.args.script.now.front c.args.script.now.lines.items) c.act.ensures

pub returns-in-Some-clause-stepped : goal.returns-in-Some-clause-stepped
returns-in-Some-clause-stepped g c = acts_stepped g.row.M c.in-Some.action _ _ _ _ c.act.result c.act.ensures
