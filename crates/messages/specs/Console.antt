-- What the console of a machine shows, as one line of fixed form.
use Rattle.std.specs.Prelude.{ℕ, Bool, true, false, List, [], ◌∷◌, ◌++◌, codes, decimal, map, Option, None, Some, Result, Ok, Err}
use Rattle.std.specs.List.{flat_map, filter_map}
use Rattle.digit_core.specs.declared.Digit.{Digit}
use Rattle.digit_core.specs.declared.CellFault.{CellFault}
use Rattle.digit_core.specs.Cell.{read_cell}
use Rattle.card_code.specs.Characters.{object_char}
use Rattle.report_lines.specs.Numbers.{digits_to_width}
use Rattle.indicators.specs.declared.Panel.{Panel}
use Rattle.cpu_step.specs.declared.checks.CheckPart.{CheckPart}
use Rattle.cpu_step.specs.declared.checks.CheckPart.TheVariants.{Instruction, P, Q, Action}
use Rattle.cpu_step.specs.declared.console.Console.{Console}

-- the code of a lamp that is on, and the codes of all lamps that are on
abbrev pub code_if_on : ℕ × Bool → Option ℕ
code_if_on (code, true) = Some code
code_if_on (code, false) = None

abbrev pub those_on : List (ℕ × Bool) → List ℕ
those_on lamps = filter_map code_if_on lamps

-- numbers in at least `width` digits, a comma before each, or between two
abbrev pub further_numbers : ℕ → List ℕ → List ℕ
further_numbers width ns = flat_map (λ n. codes "," ++ digits_to_width width n) ns

abbrev pub numbers_text : ℕ → List ℕ → List ℕ
numbers_text width [] = []
numbers_text width (n ∷ ns) = digits_to_width width n ++ further_numbers width ns

-- codes in two digits; a hyphen if there is no code
abbrev pub codes_text : List ℕ → List ℕ
codes_text [] = codes "-"
codes_text (c ∷ cs) = numbers_text 2 (c ∷ cs)

-- the object character of the digit that a cell holds, and a question mark for a bad cell
abbrev pub char_read : Result Digit CellFault → ℕ
char_read (Ok d) = object_char d
char_read (Err fault) = 63

abbrev pub cell_char : ℕ → ℕ
cell_char c = char_read (read_cell c)

-- the twelve cells; a hyphen if they don't all lie in core
abbrev pub cells_text : Option (List ℕ) → List ℕ
cells_text None = codes "-"
cells_text (Some cells) = map cell_char cells

-- an address, in five digits; a hyphen if there is no address
abbrev pub address_text : ℕ → List ℕ
address_text a = digits_to_width 5 a

unfoldable pub place_text : Option ℕ → List ℕ
place_text None = codes "-"
place_text (Some a) = address_text a

-- the part of an instruction that a check is about: its address, and for an action also P and Q; a hyphen if there is no cell or no Q
unfoldable pub operands_words : ℕ → Option ℕ → List ℕ
operands_words p q = codes " P " ++ address_text p ++ codes " Q " ++ place_text q

abbrev pub action_words : ℕ → Option ℕ → Option ℕ → List ℕ
action_words p q cell = codes " PART ACTION AT " ++ place_text cell ++ operands_words p q

abbrev pub part_words : Option CheckPart → List ℕ
part_words None = []
part_words (Some (Instruction cell)) = codes " PART INSTRUCTION AT " ++ address_text cell
part_words (Some (P units)) = codes " PART P AT " ++ address_text units
part_words (Some (Q units)) = codes " PART Q AT " ++ address_text units
part_words (Some (Action p q cell)) = action_words p q cell

-- the indicators and the program switches, by their codes, and whether each is on
abbrev pub indicators_of : Panel → List (ℕ × Bool)
indicators_of p =
    (6, p.read_check) ∷ (7, p.write_check) ∷ (9, p.last_card) ∷ (11, p.high) ∷ (12, p.equal) ∷ (14, p.overflow)
    ∷ (16, p.even_parity) ∷ (17, p.odd_parity) ∷ (36, p.disk_address) ∷ (37, p.disk_length)
    ∷ (38, p.cylinder_overflow) ∷ []

abbrev pub switches_of : Panel → List (ℕ × Bool)
switches_of p = (1, p.switch_1) ∷ (2, p.switch_2) ∷ (3, p.switch_3) ∷ (4, p.switch_4) ∷ []

-- the check switches at STOP: the switch for overflow, and the switch for input and output
abbrev pub stops_of : Bool → Bool → List ℕ
stops_of false false = codes "-"
stops_of true false = codes "OVERFLOW"
stops_of false true = codes "IO"
stops_of true true = codes "OVERFLOW,IO"

-- the indicators and switches that are on, and the check switches at STOP
unfoldable pub lamps_words : Panel → List ℕ
lamps_words p =
    codes " ON " ++ codes_text (those_on (indicators_of p))
    ++ codes " SWITCHES " ++ codes_text (those_on (switches_of p))
    ++ codes " STOPS " ++ stops_of p.overflow_stops p.in_out_stops

-- the cylinders of the arms, how many cards and lines were read, and the part that a check is about
unfoldable pub reached_words : Console → List ℕ
reached_words c =
    codes " ARMS " ++ numbers_text 3 c.arms
    ++ codes " DECK " ++ decimal c.cards.of_deck ++ codes " DATA " ++ decimal c.cards.of_data
    ++ codes " KEYS " ++ decimal c.lines ++ part_words c.part

-- THE CONSOLE'S LINE, with the program's name and an LF: the registers and the cells at IR, what is on, the arms, what was read, and the part
abbrev pub console_line : Console → List ℕ
console_line c =
    codes "ibm1620: CONSOLE IR " ++ address_text c.regs.ir ++ codes " CELLS " ++ cells_text c.cells
    ++ codes " IR2 " ++ address_text c.regs.ir2 ++ lamps_words c.panel ++ reached_words c ++ codes "\n"
