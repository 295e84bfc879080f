use Rattle.std.proofs.Common.{◌≡◌, ℕ, List, ◌++◌, ◌∙◌, codes, append_assoc}
use Rattle.messages.specs.Console.{operands_words, place_text}
use Rattle.messages.proofs.console.push_action.Goals as goal

three : (old a b c : List ℕ) → ((old ++ a) ++ b) ++ c ≡ old ++ (a ++ (b ++ c))
three old a b c = append_assoc (old ++ a) b c ∙ append_assoc old a (b ++ c)

pub returns-clause-bytes : goal.returns-clause-bytes
returns-clause-bytes c =
    rw (c.push_operands.ensures.bytes, c.push_place.ensures.bytes, c.push_str.ensures.bytes)
    (three c.args.line.now.bytes (codes " PART ACTION AT ") (place_text c.args.cell) (operands_words c.args.p c.args.q))
