use Rattle.std.proofs.Common.{is_some, rules, w64, SFits, ap, ◌∙◌, sym, arith}
use Rattle.std.proofs.lemmas.Int.{to_z-of_z}
use Rattle.sps_expr.specs.Symbol.{find}
use Rattle.sps_expr.specs.SymbolList.{AreBytes}
use Rattle.sps_expr.proofs.OneEntry.{IfSome-find, only_find}
use Rattle.sps_expr.proofs.Places.{place_fits, found_by_place, not_found_by_place}
use Rattle.sps_expr.proofs.symbols.Symbols.find.Goals as goal

-- no place at the name: it is not found
pub returns-in_err-place-clause-is : goal.returns-in_err-place-clause-is
returns-in_err-place-clause-is c =
    let bytes : AreBytes c.args.name.now = search rules in
    let none = not_found_by_place c.args.name.now bytes c.self.inside.places c.self.inside.entries.items c.self.invariant.1 (ap is_some c.in_err-place.ensures) in
    c.from_residual.ensures ∙ (sym none ∙ ap (find c.args.name.now) c.self.view_is)

pub returns-in_err-place-clause-only : goal.returns-in_err-place-clause-only
returns-in_err-place-clause-only c = only_find c.args.name.now c.args.self.now _ (returns-in_err-place-clause-is c) (rw (← c.self.view_is) c.self.invariant.0)

-- a place: it is that of the symbol that is found
pub index-symbol-requires : goal.index-symbol-requires
index-symbol-requires c =
    let bytes : AreBytes c.args.name.now = search rules in
    let fits = place_fits c.args.name.now bytes c.self.inside.places c.self.inside.entries.items c.self.invariant.1 c.in_ok-place.place c.in_ok-place.ensures in
    omega (arith, fits, c.self.inside.entries.ok.0)

pub returns-clause-is : goal.returns-clause-is
returns-clause-is c =
    let fits : SFits w64 c.index-symbol.result.now.value = search rules in
    let bytes : AreBytes c.args.name.now = search rules in
    let found = found_by_place c.args.name.now bytes c.self.inside.places c.self.inside.entries.items c.self.invariant.1 c.in_ok-place.place c.index-symbol.result.now c.in_ok-place.ensures c.index-symbol.ensures in
    rw (to_z-of_z w64 c.index-symbol.result.now.value fits) (found ∙ ap (find c.args.name.now) c.self.view_is)

pub returns-clause-there : goal.returns-clause-there
returns-clause-there c = IfSome-find c.args.name.now c.args.self.now _ (returns-clause-is c)

pub returns-clause-only : goal.returns-clause-only
returns-clause-only c = only_find c.args.name.now c.args.self.now _ (returns-clause-is c) (rw (← c.self.view_is) c.self.invariant.0)
