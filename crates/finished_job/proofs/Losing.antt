-- The cards that a host has counted are those that are lost, where it tells what was punched.
use Rattle.std.proofs.Common.{◌≡◌, ℕ, Bool, List, refl, sym, ◌∙◌, ap}
use Rattle.std.specs.Prelude.{Option, Some, None, IfSome}
use Rattle.std.specs.Option.{ForSome}
use Rattle.finished_job.specs.Lost.{lost_bytes, cards_in_bytes}

pub counted_lost : (told : Option (List ℕ)) (bytes cards : ℕ) (is_bound in_use : Bool) → in_use ≡ is_bound → ForSome told (λ text. bytes ≡ lost_bytes is_bound text) → cards ≡ cards_in_bytes bytes
    → IfSome told (λ text. cards ≡ cards_in_bytes (lost_bytes in_use text))
counted_lost None bytes cards is_bound in_use same counted is = tt
counted_lost (Some text) bytes cards is_bound in_use same counted is =
    is ∙ ap cards_in_bytes (counted text refl) ∙ ap (λ (bound : Bool). cards_in_bytes (lost_bytes bound text)) (sym same)
