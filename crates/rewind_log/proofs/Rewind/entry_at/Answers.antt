-- The entry of a place by its number, and the place of that entry.
use Rattle.std.proofs.Common.{◌≡◌, ◌-◌, length, List, sym, ◌∙◌, ap, arith}
use Rattle.std.proofs.Common.{refl}
use Rattle.std.specs.Prelude.{Some, slice_get}
use Rattle.rewind_log.specs.Kept.{Kept}
use Rattle.rewind_log.specs.Entries.{place_of_entry}
use Rattle.rewind_log.proofs.Places.{length_places, place_with, not_past}
use Rattle.rewind_log.proofs.Rewind.entry_at.Goals as goal

pub overflow_sub-len : goal.overflow_sub-len
overflow_sub-len g c =
    let n : length c.args.self.now ≡ length c.self.inside.entries.items = rw (← c.self.view_is) (length_places g.row.M c.self.inside.latest c.self.inside.entries.items) in
    omega (arith, n, c.len.ensures.len, c.requires)

pub overflow_sub-len-2 : goal.overflow_sub-len-2
overflow_sub-len-2 g c =
    let n : length c.args.self.now ≡ length c.self.inside.entries.items = rw (← c.self.view_is) (length_places g.row.M c.self.inside.latest c.self.inside.entries.items) in
    omega (arith, n, c.len.ensures.len, c.requires)

pub unreachable-requires : goal.unreachable-requires
unreachable-requires g c =
    let n : length c.args.self.now ≡ length c.self.inside.entries.items = rw (← c.self.view_is) (length_places g.row.M c.self.inside.latest c.self.inside.entries.items) in
    not_past c.self.inside.entries.items (c.len.result - 1 - c.args.i) (omega (arith, n, c.len.ensures.len, c.requires)) (c.in-None.ensures)

pub returns : goal.returns
returns g c =
    let m = g.row.M in
    let es = c.self.inside.entries.items in
    let n : length c.args.self.now ≡ length es = rw (← c.self.view_is) (length_places m c.self.inside.latest es) in
    let there = place_with m c.self.inside.latest es (c.len.result - 1 - c.args.i) c.args.i c.in-Some.entry.now (sym c.in-Some.ensures) (omega (arith, n, c.len.ensures.len, c.requires)) in
    let is : slice_get c.args.self.now c.args.i ≡ Some (place_of_entry m there.0 c.in-Some.entry.now) = sym (ap (λ (ks : List Kept). slice_get ks c.args.i) c.self.view_is) ∙ there.1 in
    rw is refl
