-- Cards that are punched to no file.
use Rattle.std.specs.Prelude.{◌≡◌, ℕ, ◌/◌, Bool, List, length, IfSome, if◌then◌else◌, min}
use Rattle.outside_io.specs.declared.host.Unit.TheVariants.{Punched}
use Rattle.outside_io.specs.World.{World, most_faults}
use Rattle.finished_job.specs.declared.counting.TheConstants.{CARD_BYTES}

-- how many bytes of the text of Punched are lost, up to the greatest count; none if a file is bound to Punched
abbrev pub lost_bytes : Bool → List ℕ → ℕ
lost_bytes is_bound text = if is_bound then 0 else min (length text) most_faults

-- how many whole cards these bytes are: a punched card has its 80 columns and a line feed
abbrev pub cards_in_bytes : ℕ → ℕ
cards_in_bytes bytes = bytes / CARD_BYTES

-- this many cards are lost in this world, if it reveals the punched text
abbrev pub LosesCards : World → ℕ → Type 0
LosesCards w cards = IfSome (w.written Punched) (λ text. cards ≡ cards_in_bytes (lost_bytes (w.in_use Punched) text))
