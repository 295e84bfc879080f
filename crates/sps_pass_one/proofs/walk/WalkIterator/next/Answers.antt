use Rattle.std.proofs.Common.{refl, ap, length, ◌+◌, ◌<◌, arith, rules}
use Rattle.sps_pass_one.specs.Walk.{source_lines_left, WalkText}
use Rattle.sps_pass_one.proofs.Walking.{lines_front, one_less}
use Rattle.sps_pass_one.proofs.walk.WalkIterator.next.Goals as goal

pub returns-clause-steps : goal.returns-clause-steps
returns-clause-steps c =
    let i = c.self.inside in
    let e = c.in_ok-text.ensures in
    rw (← c.self.view_is) (record {
      line = lines_front i.number i.rest.now c.in_ok-text.text.now c.in_ok-text.behind.now (omega arith) (omega (arith, e.shorter)) e.line e.behind;
      number = refl;
      further = refl;
    })

pub returns-clause-goes : goal.returns-clause-goes
returns-clause-goes c =
    let i = c.self.inside in
    let e = c.in_ok-text.ensures in
    let front = lines_front i.number i.rest.now c.in_ok-text.text.now c.in_ok-text.behind.now (omega arith) (omega (arith, e.shorter)) e.line e.behind in
    let before = ap (λ (w : WalkText). length w.lines) c.self.view_is in
    let shorter = one_less _ _ _ front in
    let less : length (source_lines_left (i.number + 1) c.in_ok-text.behind.now) < length c.args.self.now.lines = omega (arith, before, shorter) in
    search rules
