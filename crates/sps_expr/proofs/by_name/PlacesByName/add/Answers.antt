-- One of the two maps has one name more, or the entries that it had.
use Rattle.std.proofs.Common.{◌≡◌, ◌≤◌, false, length, nat_le, rules, arith}
use Rattle.std.proofs.lemmas.Bool.Decides.{nat_tests}
use Rattle.sps_expr.specs.SymbolList.{AreBytes}
use Rattle.sps_expr.proofs.Maps.{short_more, long_more, short_same, long_same}
use Rattle.sps_expr.proofs.Places.{on_error}
use Rattle.sps_expr.proofs.by_name.PlacesByName.add.Goals as goal

pub returns-in_err-insert-clause-err : goal.returns-in_err-insert-clause-err
returns-in_err-insert-clause-err c =
    on_error c.from_residual.result (short_same c.args.self.now.short c.insert.new.self c.args.self.now.long c.in_err-insert.ensures.err)

pub returns-in_err-insert-2-clause-err : goal.returns-in_err-insert-2-clause-err
returns-in_err-insert-2-clause-err c =
    on_error c.from_residual-in_err-insert-2.result (long_same c.args.self.now.short c.args.self.now.long c.insert-else-name-le-SHORT_KEY.new.self c.in_err-insert-2.ensures.err)

pub returns-in_ok-insert-clause-ok : goal.returns-in_ok-insert-clause-ok
returns-in_ok-insert-clause-ok c =
    let bytes : AreBytes c.args.name.now = search rules in
    let few : length c.args.name.now ≤ 7 = omega (arith, c.if-name-le-SHORT_KEY.true) in
    short_more c.args.self.now.short c.insert.new.self c.args.self.now.long c.args.name.now c.args.place bytes few (rw c.short_key.ensures at c.in_ok-insert.ensures.updates)

pub returns-in_ok-insert-2-clause-ok : goal.returns-in_ok-insert-2-clause-ok
returns-in_ok-insert-2-clause-ok c =
    let long = c.insert-else-name-le-SHORT_KEY.new.self in
    let many : nat_le (length c.in_ok-key.key.items) 7 ≡ false = rw c.in_ok-key.ensures.items (grind (arith, nat_tests)) in
    let more = long_more c.args.self.now.short c.args.self.now.long long c.in_ok-key.key c.args.place many c.in_ok-insert-2.ensures.updates in
    rw (← c.in_ok-key.ensures.items) more
