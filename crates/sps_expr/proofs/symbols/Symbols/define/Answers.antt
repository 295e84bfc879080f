use Rattle.std.proofs.Common.{◌≡◌, refl, length, is_none, is_some, rules, sym, ap, ◌∙◌, w64, arith}
use Rattle.std.proofs.lemmas.Int.{to_z-of_z}
use Rattle.sps_expr.specs.Symbol.{find}
use Rattle.sps_expr.specs.SymbolList.{entries_of_symbols}
use Rattle.sps_expr.proofs.OneEntry.{once-push}
use Rattle.sps_expr.proofs.Finding.{entries-append, length-entries}
use Rattle.sps_expr.proofs.Places.{not_found_by_place, found_somewhere, has_places-push, on_error}
use Rattle.sps_expr.proofs.symbols.Symbols.define.Goals as goal

-- the name is there
pub returns-then-is_some-clause-is_new : goal.returns-then-is_some-clause-is_new
returns-then-is_some-clause-is_new c =
    found_somewhere c.args.name.now (search rules) c.self.inside.places c.self.inside.entries.items c.self.invariant.1 (c.if-is_some.ensures ∙ ap is_some c.place.ensures) ∙ ap (λ es. is_none (find c.args.name.now es)) c.self.view_is

-- the name is new, whatever then wants memory
pub returns-in_err-owned-clause-grew : goal.returns-in_err-owned-clause-grew
returns-in_err-owned-clause-grew c =
    let absent = not_found_by_place c.args.name.now (search rules) c.self.inside.places c.self.inside.entries.items c.self.invariant.1 (c.if-is_some.ensures ∙ ap is_some c.place.ensures) in
    on_error c.from_residual.result (ap is_none (ap (find c.args.name.now) (sym c.self.view_is) ∙ absent))

pub returns-in_err-reserve-clause-grew : goal.returns-in_err-reserve-clause-grew
returns-in_err-reserve-clause-grew c =
    let absent = not_found_by_place c.args.name.now (search rules) c.self.inside.places c.self.inside.entries.items c.self.invariant.1 (c.if-is_some.ensures ∙ ap is_some c.place.ensures) in
    on_error c.from_residual-in_err-reserve.result (ap is_none (ap (find c.args.name.now) (sym c.self.view_is) ∙ absent))

pub returns-in_err-add-clause-grew : goal.returns-in_err-add-clause-grew
returns-in_err-add-clause-grew c =
    let absent = not_found_by_place c.args.name.now (search rules) c.self.inside.places c.self.inside.entries.items c.self.invariant.1 (c.if-is_some.ensures ∙ ap is_some c.place.ensures) in
    on_error c.from_residual-in_err-add.result (ap is_none (ap (find c.args.name.now) (sym c.self.view_is) ∙ absent))

-- and stands behind the others
pub returns-clause-is_new : goal.returns-clause-is_new
returns-clause-is_new c =
    let absent = not_found_by_place c.args.name.now (search rules) c.self.inside.places c.self.inside.entries.items c.self.invariant.1 (c.if-is_some.ensures ∙ ap is_some c.place.ensures) in
    sym (ap is_none (ap (find c.args.name.now) (sym c.self.view_is) ∙ absent))

pub returns-clause-ok : goal.returns-clause-ok
returns-clause-ok c =
    rw (c.push_reserved.ensures.items, entries-append, c.in_ok-reserve.ensures.items, to_z-of_z w64 c.args.value c.ranges.value, c.in_ok-owned.ensures.items, c.self.view_is)

pub invariant_of-self-2 : goal.invariant_of-self-2
invariant_of-self-2 c =
    let es = entries_of_symbols c.self.inside.entries.items in
    let absent = not_found_by_place c.args.name.now (search rules) c.self.inside.places c.self.inside.entries.items c.self.invariant.1 (c.if-is_some.ensures ∙ ap is_some c.place.ensures) in
    let last : c.len.result ≡ length es = omega (arith, c.len.ensures, c.in_ok-reserve.ensures.len, c.self.inside.entries.ok.0, length-entries c.self.inside.entries.items) in
    rw (c.push_reserved.ensures.items, entries-append, c.in_ok-reserve.ensures.items, c.in_ok-owned.ensures.items)
    (once-push es _ c.self.invariant.0 absent, has_places-push c.self.inside.places c.add.new.self es _ c.len.result c.self.invariant.1 absent c.in_ok-add.ensures.ok last)

pub invariant_of-self : goal.invariant_of-self
invariant_of-self c = rw c.reserve.ensures.items c.self.invariant

pub returns-then-is_some-clause-ok : goal.returns-then-is_some-clause-ok
returns-then-is_some-clause-ok c = refl
