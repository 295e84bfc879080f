-- Digits of a card: by their number, and of addresses and instructions.
use Rattle.std.specs.Prelude.{ℕ, ◌/◌, ◌%◌, List, ◌∷◌, slice_index_or}
use Rattle.digit_core.specs.declared.Digit.{Digit}
use Rattle.digit_core.specs.Cell.{unflagged_digit}

-- digit number i
abbrev pub nth : List Digit → ℕ → Digit
nth ds i = slice_index_or ds i (unflagged_digit 0)

-- how many addresses five digits have
abbrev pub address_count : ℕ
address_count = 100000

-- the digit of a number at a place, by the place's worth: 1, 10, 100 and so on
abbrev pub at_place : ℕ → ℕ → Digit
at_place worth a = unflagged_digit (a / worth % 10)

-- the five digits of an address, and what follows
abbrev pub address : ℕ → List Digit → List Digit
address a ds = at_place 10000 a ∷ at_place 1000 a ∷ at_place 100 a ∷ at_place 10 a ∷ unflagged_digit (a % 10) ∷ ds

-- an instruction by its two opcode digits and two addresses, and what follows
abbrev pub order : ℕ → ℕ → ℕ → ℕ → List Digit → List Digit
order o0 o1 p q ds = unflagged_digit o0 ∷ unflagged_digit o1 ∷ address p (address q ds)

-- an instruction by its opcode and two addresses, and what follows
abbrev pub instruction_columns : ℕ → ℕ → ℕ → List Digit → List Digit
instruction_columns opcode p q ds = order (opcode / 10) (opcode % 10) p q ds
