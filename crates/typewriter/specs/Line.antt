-- A line of characters that wait to be typed together.
use Rattle.std.specs.Prelude.{ℕ, ◌≡◌, List, [], ◌∷◌, ◌++◌, Option, Some, None}
use Rattle.indicators.specs.declared.Panel.{Panel}
use Rattle.outside_io.specs.declared.host.Unit.TheVariants as units
use Rattle.outside_io.specs.declared.whole.Sent.{Sent}
use Rattle.outside_io.specs.declared.whole.Sent.TheVariants as sent
use Rattle.outside_io.specs.{Seen, Goes, world_after_put, Stops}
use Rattle.card_code.specs.TextOut.{panel_after_pair}

-- one more character waits: the first of all characters are typed, and the others are the line
pub record HasOneMore (old : List ℕ) (c : ℕ) (new : List ℕ) (before after : Seen) : Type 0 where
  pub gone : List ℕ
  pub parts : gone ++ new ≡ old ++ c ∷ []
  pub goes : Goes before after (world_after_put units.Typed gone before.world)

-- what the adding of a character does
abbrev pub AddsChar : List ℕ → ℕ → List ℕ → Seen → Seen → Sent → Type 0
AddsChar old c new before after sent.Done = HasOneMore old c new before after
AddsChar old c new before after sent.Failed = Stops before after units.Typed old

-- some more characters wait
pub record HasMoreWaiting (old cs new : List ℕ) (before after : Seen) : Type 0 where
  pub gone : List ℕ
  pub parts : gone ++ new ≡ old ++ cs
  pub goes : Goes before after (world_after_put units.Typed gone before.world)

-- what the adding of some characters does
abbrev pub AddsAll : List ℕ → List ℕ → List ℕ → Seen → Seen → Sent → Type 0
AddsAll old cs new before after sent.Done = HasMoreWaiting old cs new before after
AddsAll old cs new before after sent.Failed = Stops before after units.Typed old

-- a bad pair's blank waits alone
pub record HasBlank (old : List ℕ) (panel : Panel) (new : List ℕ) (new_panel : Panel) (before after : Seen)
    : Type 0 where
  pub blank : new ≡ 32 ∷ []
  pub seen : new_panel ≡ panel_after_pair None panel
  pub goes : Goes before after (world_after_put units.Typed old before.world)

-- what the adding of a pair's character does, also to the panel
abbrev pub AddsPair : Option ℕ → List ℕ → Panel → List ℕ → Panel → Seen → Seen → Sent → Type 0
AddsPair (Some c) old panel new new_panel before after answer = AddsChar old c new before after answer × (new_panel ≡ panel)
AddsPair None old panel new new_panel before after sent.Done = HasBlank old panel new new_panel before after
AddsPair None old panel new new_panel before after sent.Failed =
    Stops before after units.Typed old × (new_panel ≡ panel)
