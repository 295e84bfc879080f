-- What a call does that writes a text to a unit.
use Rattle.std.specs.Prelude.{ℕ, ◌≡◌, List, take, Result, ⊤}
use Rattle.indicators.specs.declared.Panel.{Panel}
use Rattle.indicators.specs.Lamps.{panel_after}
use Rattle.outside_io.specs.declared.host.Unit as unit
use Rattle.outside_io.specs.World.{Seen, Rose, Goes, world_after_put}
use Rattle.addr_indirect.specs.declared.Stop.{Stop}
use Rattle.traces.specs.Trace.{Trace}
use Rattle.card_code.specs.TextOut.{Output, bytes_out, lamps_of}

-- all bytes were written, with this answer
pub record Wrote (u : unit.Unit) (t : Trace ℕ ⊤ Stop) (before after : Seen) (answer : Result ⊤ Stop) : Type 0 where
  pub answers : t.answer ≡ answer
  pub goes : Goes before after (world_after_put u t.effects before.world)

-- the host failed after the first bytes
pub record WroteFirst (u : unit.Unit) (t : Trace ℕ ⊤ Stop) (before after : Seen) : Type 0 where
  pub done : ℕ
  pub goes : Goes before after (world_after_put u (take done t.effects) before.world)
  pub rose : Rose before.faults after.faults

-- these effects were carried out on the unit and on the panel
pub record CarriedOut (u : unit.Unit) (es : List Output) (panel : Panel) (before : Seen) (new_panel : Panel)
    (after : Seen) : Type 0 where
  pub goes : Goes before after (world_after_put u (bytes_out es) before.world)
  pub shows : new_panel ≡ panel_after panel (lamps_of es)

-- all pairs were written, with this answer
pub record WrotePairs (u : unit.Unit) (t : Trace Output ⊤ Stop) (panel : Panel) (before : Seen)
    (new_panel : Panel) (after : Seen) (answer : Result ⊤ Stop) : Type 0 where
  pub answers : t.answer ≡ answer
  pub puts : CarriedOut u t.effects panel before new_panel after

-- the host failed after the first effects
pub record WroteFirstPairs (u : unit.Unit) (t : Trace Output ⊤ Stop) (panel : Panel) (before : Seen)
    (new_panel : Panel) (after : Seen) : Type 0 where
  pub done : ℕ
  pub puts : CarriedOut u (take done t.effects) panel before new_panel after
  pub rose : Rose before.faults after.faults
