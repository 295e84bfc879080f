use Rattle.std.proofs.Common.{◌≡◌, ◌∙◌, sym, arith, w64, to_z, pos}
use Rattle.std.proofs.lemmas.Int.{ints}
use Rattle.sps_scan.specs.Statement.{statement_text}
use Rattle.sps_pass_one.specs.Measure.{measure, form_of}
use Rattle.sps_pass_one.specs.Layout.{earlier_symbols}
use Rattle.sps_pass_one.proofs.BrokenLayouts.{good_layout, bad_layout}
use Rattle.sps_pass_one.proofs.placing.declarative_placing.Goals as goal

pub returns-in-None-clause-is : goal.returns-in-None-clause-is
returns-in-None-clause-is c =
    let here : to_z w64 c.args.at ≡ pos c.args.at = omega (arith, ints) in
    let m = c.measure-m.ensures in
    let n = rw (here, c.form_of.ensures.is) at m.n in
    let k = rw (here, c.form_of.ensures.is) at m.k in
    let a = rw (here, c.form_of.ensures.is) at m.a in
    let w = rw (here, c.form_of.ensures.is) at m.worst in
    c.field_placing.ensures.is ∙ good_layout c.args.d c.args.at _ _ c.measure-m.result.n c.count_of.result c.measure-m.result.k c.measure-m.result.a n c.count_of.ensures.is k a (sym w ∙ c.in-None.is)

pub returns-in-Some-clause-is : goal.returns-in-Some-clause-is
returns-in-Some-clause-is c =
    let here : to_z w64 c.args.at ≡ pos c.args.at = omega (arith, ints) in
    let w = rw (here, c.form_of.ensures.is) at c.measure-m.ensures.worst in
    c.nothing_at.ensures ∙ bad_layout c.args.d c.args.at (statement_text c.args.s.now) (measure (earlier_symbols c.args.head c.args.symbols.now c.args.at) (statement_text c.args.s.now) (form_of c.args.d)) c.in-Some.field-0 (sym w ∙ c.in-Some.is)
