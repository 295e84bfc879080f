-- The table of instructions, to be compared with the manual.
-- Source: CPU manual, operation codes; the special features, and which codes get a flag on Q7, are this project's own.
use Rattle.std.specs.Prelude.{ℕ, ◌≡◌, ◌==◌, not, true, false, ◌&&◌, Bool, List, [], ◌∷◌, map, codes, Option, Some, None, if◌then◌else◌, bytes_eq}
use Rattle.std.specs.List.{list_any}
use Prim.Native.String.{String}
use Rattle.instruction_table.specs.declared.InstructionRow.{InstructionRow}
use Rattle.instruction_table.specs.declared.Op.{Op}
use Rattle.instruction_table.specs.declared.Op.TheVariants.{A, S, C, Move, Feature, Branch, K, Dn, Rn, Ra, Wn, Wa, Nop, H}
use Rattle.instruction_table.specs.declared.MoveOp.TheVariants.{Td, Tf, Tr, Sf, Cf}
use Rattle.instruction_table.specs.declared.FeatureOp.TheVariants.{Mf, Tns, Tnf}
use Rattle.instruction_table.specs.declared.BranchOp.TheVariants.{Bt, Bb, Bd, Bnf, Bnr, Bng, Bi, Bni, B}
use Rattle.instruction_table.specs.declared.MayStore.{MayStore}
use Rattle.instruction_table.specs.declared.MayStore.TheVariants.{Nothing, Cell, Down, DownBelow, DownFromQ, Up, Anywhere, ByDevice}
use Rattle.instruction_table.specs.declared.OperandUse.{OperandUse}
use Rattle.instruction_table.specs.declared.OperandUse.TheVariants.{Both, OddBoth, Field, Digit, Indicator, First, OddFirst, Neither, FirstByDevice}

-- a row: code, mnemonic, operation, the operands that it uses, and the cells that it may store
abbrev pub table_row : ℕ → String → Op → OperandUse → MayStore → List ℕ × InstructionRow
table_row code mnemonic op uses stores = (codes mnemonic, record { 0 = code; 1 = op; 2 = uses; 3 = stores })

-- the instructions, each under its mnemonic, in the order of the manual
abbrev pub named_instructions : List (List ℕ × InstructionRow)
named_instructions =
    table_row 21 "A" A Both Down ∷
    table_row 11 "AM" A Field Down ∷
    table_row 22 "S" S Both Down ∷
    table_row 12 "SM" S Field Down ∷
    table_row 24 "C" C Both Nothing ∷
    table_row 14 "CM" C Field Nothing ∷
    table_row 25 "TD" (Move Td) Both Cell ∷
    table_row 15 "TDM" (Move Td) Digit Cell ∷
    table_row 26 "TF" (Move Tf) Both Down ∷
    table_row 16 "TFM" (Move Tf) Field Down ∷
    table_row 27 "BT" (Branch Bt) Both DownBelow ∷
    table_row 17 "BTM" (Branch Bt) Field DownBelow ∷
    table_row 31 "TR" (Move Tr) Both Up ∷
    table_row 32 "SF" (Move Sf) First Cell ∷
    table_row 33 "CF" (Move Cf) First Cell ∷
    table_row 34 "K" K FirstByDevice ByDevice ∷
    table_row 35 "DN" Dn First Nothing ∷
    table_row 36 "RN" Rn First Anywhere ∷
    table_row 37 "RA" Ra OddFirst Anywhere ∷
    table_row 38 "WN" Wn First ByDevice ∷
    table_row 39 "WA" Wa OddFirst Nothing ∷
    table_row 41 "NOP" Nop Neither Nothing ∷
    table_row 42 "BB" (Branch Bb) Neither Nothing ∷
    table_row 43 "BD" (Branch Bd) Both Nothing ∷
    table_row 44 "BNF" (Branch Bnf) Both Nothing ∷
    table_row 45 "BNR" (Branch Bnr) Both Nothing ∷
    table_row 55 "BNG" (Branch Bng) Both Nothing ∷
    table_row 46 "BI" (Branch Bi) Indicator Nothing ∷
    table_row 47 "BNI" (Branch Bni) Indicator Nothing ∷
    table_row 48 "H" H Neither Nothing ∷
    table_row 49 "B" (Branch B) First Nothing ∷
    table_row 71 "MF" (Feature Mf) Both Anywhere ∷
    table_row 72 "TNS" (Feature Tns) OddBoth DownFromQ ∷
    table_row 73 "TNF" (Feature Tnf) OddBoth Down ∷
    []

-- the rows
abbrev pub instructions : List InstructionRow
instructions = map (λ r. r.1) named_instructions

-- the parts of a row
abbrev pub code_of : InstructionRow → ℕ
code_of r = r.0

abbrev pub op_of : InstructionRow → Op
op_of r = r.1

abbrev pub uses_of : InstructionRow → OperandUse
uses_of r = r.2

abbrev pub stores_of : InstructionRow → MayStore
stores_of r = r.3

-- the row of a code: the first that has it
abbrev pub row_in : List InstructionRow → ℕ → Option InstructionRow
row_in [] code = None
row_in (r ∷ rs) code = if code_of r == code then Some r else row_in rs code

abbrev pub instruction_of : ℕ → Option InstructionRow
instruction_of code = row_in instructions code

-- no element of a list occurs twice
abbrev pub once : {A : Type 0} → (A → A → Bool) → List A → Bool
once same [] = true
once same (x ∷ xs) = not (list_any (same x) xs) && once same xs

-- no code and no mnemonic occurs twice
abbrev pub codes_once : Type 0
codes_once = once (λ a b. a == b) (map code_of instructions) ≡ true

abbrev pub mnemonics_once : Type 0
mnemonics_once = once bytes_eq (map (λ r. r.0) named_instructions) ≡ true

-- Q is a field in the instruction itself
abbrev pub takes_field : OperandUse → Bool
takes_field Both = false
takes_field OddBoth = false
takes_field Field = true
takes_field Digit = false
takes_field Indicator = false
takes_field First = false
takes_field OddFirst = false
takes_field Neither = false
takes_field FirstByDevice = false

-- the codes of the instructions whose Q is a field in the instruction itself
abbrev codes_in : List InstructionRow → List ℕ
codes_in [] = []
codes_in (r ∷ rs) = if takes_field (uses_of r) then code_of r ∷ codes_in rs else codes_in rs

abbrev pub codes_with_a_field_in_q : List ℕ
codes_with_a_field_in_q = codes_in instructions

-- the codes that get a flag on Q7 if the flag operand is empty: AM, SM, CM, TFM and BTM
abbrev pub flagged_by_the_assembler : List ℕ
flagged_by_the_assembler = 11 ∷ 12 ∷ 14 ∷ 16 ∷ 17 ∷ []
