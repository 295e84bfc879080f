-- The place's entry has it.
use Rattle.std.proofs.Common.{◌≡◌, sym, ap}
use Rattle.std.specs.Prelude.{slice_get}
use Rattle.rewind_log.specs.Kept.{Kept}
use Rattle.rewind_log.specs.Entries.{place_of_entry}
use Rattle.rewind_log.proofs.Places.{some_too}
use Rattle.rewind_log.proofs.Rewind.count_at.Goals as goal

pub returns : goal.returns
returns g c =
    let e = c.entry_at.result.now in
    some_too (λ k. k ≡ place_of_entry g.row.M k.core e) (λ k. e.steps ≡ k.steps) (slice_get c.args.self.now c.args.i) (λ k is. sym (ap (λ (x : Kept). x.steps) is)) c.entry_at.ensures
