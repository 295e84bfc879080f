-- When the lines of the keyboard stay, and when it stays in turn.
use Rattle.std.proofs.Common.{◌≡◌, ◌++◌, List, ℕ, sym, ◌∙◌, ap, subst}
use Rattle.std.specs.Prelude.{Option, option_map, IfSome}
use Rattle.outside_io.specs.declared.host.Unit as unit
use Rattle.outside_io.specs.declared.host.Unit.TheVariants as units
use Rattle.outside_io.specs.World.{World, Asked}
use Rattle.card_code.specs.declared.lines.Lines.{Lines}
use Rattle.card_code.specs.Reader.{unit_of, lines_handed_out, bytes_held, AsksInTurn, IsInTurn}
use Rattle.card_code.specs.Entries.{entries_of_unit}
use Rattle.typewriter.specs.Keys.{keys_left}

module _ (k : Lines) (v w : World) (of_keys : unit_of k ≡ units.Keys) where
  -- they stay where the unit's bytes do
  pub keys_same : w.left units.Keys ≡ v.left units.Keys → keys_left k w ≡ keys_left k v
  keys_same same =
      let left : w.left (unit_of k) ≡ v.left (unit_of k) = ap (λ (u : unit.Unit). w.left u) of_keys ∙ same ∙ sym (ap (λ (u : unit.Unit). v.left u) of_keys) in
      ap (λ (o : Option (List ℕ)). option_map (entries_of_unit (unit_of k) (lines_handed_out k)) (option_map (λ rest. bytes_held k ++ rest) o)) left

  -- it stays in turn where Keys is asked as it was
  pub turn_same : w.asked units.Keys ≡ v.asked units.Keys → IsInTurn k v → IsInTurn k w
  turn_same same turn =
      let asked : w.asked (unit_of k) ≡ v.asked (unit_of k) = ap (λ (u : unit.Unit). w.asked u) of_keys ∙ same ∙ sym (ap (λ (u : unit.Unit). v.asked u) of_keys) in
      subst (λ (o : Option Asked). IfSome o (AsksInTurn (bytes_held k))) (sym asked) turn
