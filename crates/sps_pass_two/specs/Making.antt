-- What a statement adds to the result of the statements before it.
use Rattle.std.specs.Prelude.{ℕ, ◌≡◌, Bool, not, ◌&&◌, Option, List, [], ◌∷◌, ◌++◌, map, nat_abs, if◌then◌else◌}
use Rattle.digit_core.specs.declared.Digit.{Digit}
use Rattle.sps_scan.specs.Statement.{StatementText}
use Rattle.sps_expr.specs.Symbol.{SymbolEntry}
use Rattle.sps_pass_one.specs.declared.place.Place.{Place}
use Rattle.sps_pass_one.specs.Measure.{answer}
use Rattle.sps_pass_one.specs.Layout.{counts_if, ends_if}
use Rattle.sps_pass_two.specs.declared.assembled.Placed.{Placed}
use Rattle.sps_pass_two.specs.Operands.{operand_ask, value_or_0}
use Rattle.sps_pass_two.specs.Broken.{anywhere}
use Rattle.sps_pass_two.specs.Assembled.{PlacedText, counts_as_instruction}

-- the text of a placed statement
abbrev pub text_of_placed : Placed → PlacedText
text_of_placed p = record { address = p.address; instruction = p.instruction; digits = p.digits }

-- whether a statement or one before it is a DEND that counts
abbrev pub stands_behind_end : Bool → StatementText → Bool
stands_behind_end ended s = ends_if ended (counts_if ended s.shape) s

-- the start that a DEND gives: the value of its operand without the sign, or 0 if it has none
abbrev pub start_value : Option ℕ → List SymbolEntry → Place → StatementText → ℕ
start_value head symbols place s =
    nat_abs (value_or_0 (answer (anywhere head symbols place.location) s (operand_ask 0)).value)

-- the start after a statement: the first DEND gives it
abbrev pub start_after : Bool → ℕ → Option ℕ → List SymbolEntry → Place → StatementText → ℕ
start_after ended start head symbols place s =
    if stands_behind_end ended s && not ended then start_value head symbols place s else start

-- the placed statement with its digits
abbrev pub placed_with : Bool → Place → StatementText → List Digit → PlacedText
placed_with ended place s digits = record {
  address = place.label;
  instruction = counts_as_instruction ended s;
  digits = digits;
}

-- a list of placed statements has one more at its end
abbrev pub IsPlacedOn : List Placed → PlacedText → List Placed → Type 0
IsPlacedOn before one after = map text_of_placed after ≡ map text_of_placed before ++ one ∷ []
