use Rattle.std.proofs.Common.{sym, ◌∙◌}
use Rattle.sps_listing.proofs.Characters.{blank_char}
use Rattle.sps_listing.proofs.columns.shown_char.Goals as goal

pub returns-else-is_value : goal.returns-else-is_value
returns-else-is_value c = sym (blank_char c.args.digit (sym c.is_value.ensures ∙ c.if-is_value.false))
