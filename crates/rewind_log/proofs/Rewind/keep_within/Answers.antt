-- The newest core is that of the newest place.
use Rattle.std.proofs.Common.{◌*◌, ◌<◌, List, length, sym, subst, lit<}
use Rattle.std.specs.Prelude.{IfSome}
use Rattle.digit_core.specs.{AgreeOutside}
use Rattle.rewind_log.specs.Kept.{Kept, newest}
use Rattle.rewind_log.proofs.Places.{newest_core}
use Rattle.rewind_log.proofs.Rewind.keep_within.Goals as goal

pub push-requires : goal.push-requires
push-requires g c =
    let same : AgreeOutside c.self.inside.latest c.args.machine.now.core (10 * c.args.from) (10 * c.args.to) =
    newest_core g.row.M c.self.inside.latest c.args.machine.now.core c.self.inside.entries.items (10 * c.args.from) (10 * c.args.to)
    (subst (λ (ks : List Kept). 0 < length ks) (sym c.self.view_is) c.requires.some)
    (subst (λ (ks : List Kept). IfSome (newest ks) (λ k. AgreeOutside k.core c.args.machine.now.core (10 * c.args.from) (10 * c.args.to))) (sym c.self.view_is) c.requires.same) in
    (lit< tt, (lit< tt, (lit< tt, (lit< tt, (c.self.invariant, (c.requires.order, (c.requires.room, same)))))))
