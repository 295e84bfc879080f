use Rattle.std.proofs.Common.{ℕ, ap, ◌∙◌, get_or, set}
use Rattle.std.specs.Prelude.{Some, None, option_copied}
use Rattle.command_line.specs.declared.options.Slot.{Slot}
use Rattle.command_line.specs.Options.{slot_place}
use Rattle.command_line.proofs.Maps.{text_set}
use Rattle.command_line.proofs.values.Values.with.Goals as goal

pub returns : goal.returns
returns c =
    ap (λ (n : ℕ). λ (t : Slot). option_copied (get_or (set c.args.self.texts n (Some c.args.text)) (slot_place t) None)) c.place.ensures.is
    ∙ text_set c.args.self.texts c.args.slot c.args.text c.args.self.whole
