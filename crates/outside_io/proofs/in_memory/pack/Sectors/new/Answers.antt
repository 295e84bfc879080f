use Rattle.std.proofs.Common.{◌-◌, List, ap, ◌∙◌, get_or, vec_len, ℕ}
use Rattle.std.specs.Prelude.{Option, None}
use Rattle.outside_io.proofs.Packs.{filled_nowhere}
use Rattle.outside_io.proofs.in_memory.pack.Sectors.new.Goals as goal

pub returns : goal.returns
returns c =
    let before = c.in_ok-written.written in
    λ a. ap (λ (items : List (Option (List ℕ))). get_or items a None) c.in_ok-resize.ensures.items ∙ filled_nowhere before.items 80000 (80000 - vec_len before) a c.in_ok-written.ensures.items
