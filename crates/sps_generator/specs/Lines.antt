-- The lines of a source deck.
use Rattle.std.specs.Prelude.{ℕ, ◌-◌, List, [], ◌∷◌, ◌++◌, length, replicate}

-- a text, filled with blanks to `width` columns
abbrev pub text_to_width : ℕ → List ℕ → List ℕ
text_to_width width text = text ++ replicate (width - length text) 32

-- the operation from column 12, and the operands from column 16; without operands no blank follows the operation
abbrev pub operation_and_operands : List ℕ → List ℕ → List ℕ
operation_and_operands operation [] = operation
operation_and_operands operation (b ∷ bs) = text_to_width 4 operation ++ b ∷ bs

-- A LINE: the label from column 6, the operation and the operands
abbrev pub line : List ℕ → List ℕ → List ℕ → List ℕ
line label operation operands = replicate 5 32 ++ (text_to_width 6 label ++ operation_and_operands operation operands)
