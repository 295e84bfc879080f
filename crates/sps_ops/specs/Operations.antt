-- The tables of operations, to be compared with the manual; the table of the instructions is `named_instructions` of `instruction_table`.
-- Source: SPS manual, operation codes and declarative operations; which operations there are, those of the disk, and
-- which get a flag on Q7 are this project's own.
use Rattle.std.specs.Prelude.{ℕ, ◌+◌, ◌/◌, ◌%◌, false, List, [], ◌∷◌, ◌++◌, map, Option, Some, None}
use Prim.Native.String.{String}
use Rattle.line_words.specs.Blanks.{trimmed}
use Rattle.instruction_table.specs.declared.InstructionRow.{InstructionRow}
use Rattle.instruction_table.specs.Table.{named_instructions, code_of, uses_of, takes_field}
use Rattle.sps_ops.specs.declared.operation.Operation.{Operation}
use Rattle.sps_ops.specs.declared.operation.Operation.TheVariants.{Instruction, Declare}
use Rattle.sps_ops.specs.declared.operation.Declarative.{Declarative}
use Rattle.sps_ops.specs.declared.operation.Declarative.TheVariants.{Ds, Dss, Das, Dc, Dsc, Dac, Dsa, Dsb, Dnb, Dgm, Dda, Dorg, Dend, Head}
use Rattle.sps_ops.specs.declared.table.TheConstants.{UNIQUE_MNEMONICS, DECLARATIVES}
use Rattle.line_words.specs.Rows.{NameRow, row, with_values, value_by_name}

-- the instructions of the machine, by their mnemonics
abbrev pub mnemonics : List (NameRow InstructionRow)
mnemonics = map (λ r. record { name = r.0; value = r.1 }) named_instructions

-- a unique mnemonic: opcode and whole Q
abbrev pub unique_row : ℕ → ℕ → String → NameRow (ℕ × ℕ)
unique_row opcode q mnemonic = row mnemonic (opcode, q)

-- the unique mnemonics
abbrev pub unique_mnemonics : List (NameRow (ℕ × ℕ))
unique_mnemonics =
    -- branches by a result
    unique_row 46 01100 "BH" ∷
    unique_row 46 01100 "BP" ∷
    unique_row 47 01100 "BNH" ∷
    unique_row 47 01100 "BNP" ∷
    unique_row 46 01200 "BE" ∷
    unique_row 46 01200 "BZ" ∷
    unique_row 47 01200 "BNE" ∷
    unique_row 47 01200 "BNZ" ∷
    unique_row 46 01300 "BNL" ∷
    unique_row 46 01300 "BNN" ∷
    unique_row 47 01300 "BL" ∷
    unique_row 47 01300 "BN" ∷
    unique_row 46 01400 "BV" ∷
    unique_row 47 01400 "BNV" ∷
    -- branches by a check, a switch or the last card
    unique_row 46 01900 "BA" ∷
    unique_row 47 01900 "BNA" ∷
    unique_row 46 00100 "BC1" ∷
    unique_row 46 00200 "BC2" ∷
    unique_row 46 00300 "BC3" ∷
    unique_row 46 00400 "BC4" ∷
    unique_row 47 00100 "BNC1" ∷
    unique_row 47 00200 "BNC2" ∷
    unique_row 47 00300 "BNC3" ∷
    unique_row 47 00400 "BNC4" ∷
    unique_row 46 00900 "BLC" ∷
    unique_row 47 00900 "BNLC" ∷
    -- the typewriter
    unique_row 35 00100 "DNTY" ∷
    unique_row 36 00100 "RNTY" ∷
    unique_row 37 00100 "RATY" ∷
    unique_row 38 00100 "WNTY" ∷
    unique_row 39 00100 "WATY" ∷
    unique_row 34 00101 "SPTY" ∷
    unique_row 34 00102 "RCTY" ∷
    unique_row 34 00108 "TBTY" ∷
    -- cards
    unique_row 36 00500 "RNCD" ∷
    unique_row 37 00500 "RACD" ∷
    unique_row 35 00400 "DNCD" ∷
    unique_row 38 00400 "WNCD" ∷
    unique_row 39 00400 "WACD" ∷
    -- the disk
    unique_row 34 00701 "SK" ∷
    unique_row 36 00700 "RDGN" ∷
    unique_row 36 00701 "CDGN" ∷
    unique_row 36 00702 "RDN" ∷
    unique_row 36 00703 "CDN" ∷
    unique_row 38 00700 "WDGN" ∷
    unique_row 38 00702 "WDN" ∷
    []

-- the declaratives
abbrev pub declaratives : List (NameRow Declarative)
declaratives =
    row "DS" Ds ∷
    row "DSS" Dss ∷
    row "DAS" Das ∷
    row "DC" Dc ∷
    row "DSC" Dsc ∷
    row "DAC" Dac ∷
    row "DSA" Dsa ∷
    row "DSB" Dsb ∷
    row "DNB" Dnb ∷
    row "DGM" Dgm ∷
    row "DDA" Dda ∷
    row "DORG" Dorg ∷
    row "DEND" Dend ∷
    row "HEAD" Head ∷
    []

-- the tables of the code
abbrev pub unique_in_code : List (NameRow (ℕ × ℕ))
unique_in_code = map (λ r. record { name = r.0.now; value = r.1 }) UNIQUE_MNEMONICS

abbrev pub declared_in_code : List (NameRow Declarative)
declared_in_code = map (λ r. record { name = r.0.now; value = r.1 }) DECLARATIVES

-- the characters of a number below 100
abbrev pub two_digit_text : ℕ → List ℕ
two_digit_text n = (48 + n / 10) ∷ (48 + n % 10) ∷ []

-- an instruction's row, named by the two digits of its opcode
abbrev pub by_digits : NameRow InstructionRow → NameRow InstructionRow
by_digits r = record { name = two_digit_text (code_of r.value); value = r.value }

-- the instructions, by their mnemonics and by their opcodes in digits
abbrev pub opcodes : List (NameRow InstructionRow)
opcodes = mnemonics ++ map by_digits mnemonics

-- the operation of an instruction's row; it is immediate, so that its Q7 gets a flag, if Q is a field in the instruction itself
abbrev pub plain_operation : InstructionRow → Operation
plain_operation r = Instruction (code_of r) None (takes_field (uses_of r))

-- the operation of a unique mnemonic, with its opcode and its whole Q; it is never immediate
abbrev pub whole : ℕ × ℕ → Operation
whole u = Instruction u.0 (Some u.1) false

-- a declarative as an operation
abbrev pub declared : Declarative → Operation
declared d = Declare d

-- the operations
abbrev pub operations : List (NameRow Operation)
operations =
    with_values plain_operation opcodes
    ++ (with_values whole unique_mnemonics
    ++ with_values declared declaratives)

-- the operation of a name, blanks at both ends ignored
abbrev pub lookup : List ℕ → Option Operation
lookup op = value_by_name operations (trimmed op)
