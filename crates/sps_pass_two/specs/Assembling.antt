-- The answer of the second pass.
use Rattle.std.specs.Prelude.{ℕ, ◌+◌, ◌≡◌, ◌≤◌, ⊤, List, map, Some, None, option_map, Result, Ok, Err}
use Rattle.std.specs.List.{All}
use Rattle.sps_pass_one.specs.declared.fault.Fault.{Fault}
use Rattle.sps_pass_two.specs.declared.assembled.Assembled.{Assembled}
use Rattle.sps_pass_two.specs.declared.assembled.AsmFault.{AsmFault}
use Rattle.sps_pass_two.specs.declared.assembled.AsmFault.TheVariants as fault
use Rattle.sps_pass_two.specs.Broken.{refusal_of, statement_and_fault}
use Rattle.sps_pass_two.specs.Kept.{IsRunBelow}
use Rattle.sps_pass_two.specs.Assembled.{assembled_text}
use Rattle.sps_pass_two.specs.Making.{text_of_placed}

-- the source breaks no rule, and this program results from it
pub record IsAssembled (positions : ℕ) (source : List ℕ) (a : Assembled) : Type 0 where
  pub good : refusal_of positions source ≡ None
  pub pieces_are : a.image.pieces ≡ (assembled_text positions source).pieces
  pub start_is : a.start ≡ (assembled_text positions source).start
  pub placed_are : map text_of_placed a.placed ≡ (assembled_text positions source).placed

-- the source is refused for this statement and this fault
abbrev pub IsRefused : ℕ → List ℕ → ℕ → Fault → Type 0
IsRefused positions source statement fault =
    option_map statement_and_fault (refusal_of positions source) ≡ Some (statement, fault)

-- the program, or the first statement that breaks a rule with its least rule and the first part that breaks it, or no memory
abbrev pub Assembles : ℕ → List ℕ → Result Assembled AsmFault → Type 0
Assembles positions source (Ok a) = IsAssembled positions source a
Assembles positions source (Err (fault.Broken statement rule part)) =
    IsRefused positions source statement (record { rule = rule; part = part })
Assembles positions source (Err fault.Memory) = ⊤

-- the pieces lie within a core with this number of positions, and so does an instruction at the start
pub record LiesWithin (positions : ℕ) (a : Assembled) : Type 0 where
  pub pieces : All (IsRunBelow positions) a.image.pieces
  pub start : a.start + 12 ≤ positions
