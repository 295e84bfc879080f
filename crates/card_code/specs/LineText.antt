-- The text of a line that was handed out.
use Rattle.std.specs.Prelude.{ℕ, List, take}
use Rattle.card_code.specs.declared.text.Line.{Line}

-- the bytes of the line
abbrev pub text_of_line : Line → List ℕ
text_of_line line = take line.len line.text
