-- Source decks by numbers.
use Rattle.std.specs.Prelude.{ℕ, zero, suc, ◌+◌, ◌-◌, ◌*◌, ◌/◌, ◌%◌, ◌==◌, if◌then◌else◌, List, [], ◌∷◌, ◌++◌, codes, decimal, map, flat_map}
use Rattle.std.specs.List.{range_with_len}
use Rattle.sps_generator.specs.declared.operations.MadeOperation.{MadeOperation}
use Rattle.sps_generator.specs.declared.operations.MadeOperation.TheVariants.{AddImmediate, SubtractImmediate, CompareImmediate}
use Rattle.outside_io.specs.Lines.{with_line_feed}
use Rattle.sps_generator.specs.Lines.{line}

-- The draws of a number.

-- the state that follows a state
abbrev pub next_state : ℕ → ℕ
next_state x = (1103515245 * x + 12345) % 2147483648

-- the state of a number at a statement, counted from 1; before the first it is the number itself
unfoldable pub state_at : ℕ → ℕ → ℕ
state_at number zero = number
state_at number (suc i) = next_state (state_at number i)

-- the draw of a state
abbrev pub draw_of : ℕ → ℕ
draw_of x = x / 65536

-- the draw of a number for a statement
abbrev pub draw_at : ℕ → ℕ → ℕ
draw_at number i = draw_of (state_at number i)

-- The generated statements.

-- the operation of a draw
abbrev pub operation_of_draw : ℕ → MadeOperation
operation_of_draw u = if (u % 3) == 2 then CompareImmediate else if (u % 3) == 1 then SubtractImmediate else AddImmediate

-- the value of a draw, 0 to 999
abbrev pub draw_value : ℕ → ℕ
draw_value u = (u / 3) % 1000

-- the mnemonic of an operation
abbrev pub mnemonic_of : MadeOperation → List ℕ
mnemonic_of AddImmediate = codes "AM"
mnemonic_of SubtractImmediate = codes "SM"
mnemonic_of CompareImmediate = codes "CM"

-- the first statement has the label of the program's start; the others have no label
abbrev pub label_of : ℕ → List ℕ
label_of i = if i == 1 then codes "START" else []

-- the sum, and a value
abbrev pub sum_and : ℕ → List ℕ
sum_and value = codes "SUM," ++ decimal value

-- the line of a statement by its draw
abbrev pub line_of_draw : ℕ → ℕ → List ℕ
line_of_draw i u = line (label_of i) (mnemonic_of (operation_of_draw u)) (sum_and (draw_value u))

-- the line of a statement by the number
abbrev pub statement_line : ℕ → ℕ → List ℕ
statement_line number i = line_of_draw i (draw_at number i)

-- The deck.

-- the first `count` generated lines
abbrev pub statement_lines : ℕ → ℕ → List (List ℕ)
statement_lines number count = map (statement_line number) (range_with_len 1 count)

-- the lines after the generated ones: they type the sum, halt, and declare the sum, the record mark and the start
abbrev pub closing_lines : List (List ℕ)
closing_lines =
    line [] (codes "CF") (codes "SUM-9") ∷
    line [] (codes "WNTY") (codes "SUM-9") ∷
    line [] (codes "RCTY") [] ∷
    line [] (codes "H") [] ∷
    line (codes "SUM") (codes "DC") (codes "10,0") ∷
    line [] (codes "DSC") (codes "1,@") ∷
    line [] (codes "DEND") (codes "START") ∷ []

-- THE SOURCE DECK of `statements` statements by a number
abbrev pub source_deck : ℕ → ℕ → List ℕ
source_deck statements number = flat_map with_line_feed (statement_lines number (statements - 7) ++ closing_lines)
