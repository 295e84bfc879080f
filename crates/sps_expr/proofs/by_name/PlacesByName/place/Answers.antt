-- By the map that the length of the name says.
use Rattle.std.proofs.Common.{◌≡◌, ◌∙◌, true, false, length, nat_le, sym, arith}
use Rattle.std.proofs.lemmas.Bool.Decides.{nat_tests}
use Rattle.sps_expr.proofs.Maps.{place_of_short, place_of_long}
use Rattle.sps_expr.proofs.by_name.PlacesByName.place.Goals as goal

pub returns-then-name-le-SHORT_KEY : goal.returns-then-name-le-SHORT_KEY
returns-then-name-le-SHORT_KEY c =
    let few : nat_le (length c.args.name.now) 7 ≡ true = grind (arith, nat_tests) in
    c.copied.ensures ∙ (rw c.short_key.ensures at c.get.ensures.value ∙ sym (place_of_short c.args.self.now.short c.args.self.now.long c.args.name.now few))

pub returns-else-name-le-SHORT_KEY : goal.returns-else-name-le-SHORT_KEY
returns-else-name-le-SHORT_KEY c =
    let many : nat_le (length c.args.name.now) 7 ≡ false = grind (arith, nat_tests) in
    c.copied-else-name-le-SHORT_KEY.ensures ∙ (c.get-else-name-le-SHORT_KEY.ensures.value ∙ sym (place_of_long c.args.self.now.short c.args.self.now.long c.args.name.now many))
