-- The places of a run after one of them, and how many turns lead to the first stop and to the first step.
use Rattle.std.specs.Prelude.{ℕ, zero, suc, Bool, true, false, ◌&&◌, ◌==◌, List, [], ◌∷◌, Option, Some, None, is_some, option_map, if◌then◌else◌, nat_abs}
use Rattle.std.specs.List.{list_any}
use Rattle.cpu_step.specs.declared.machine.Mode.{Mode}
use Rattle.cpu_step.specs.Machine.{is_running}
use Rattle.operator_script.specs.Turn.{RunPlace, Acted, Stepped, Ended, turn, most_turns}
use Rattle.sps_pass_two.specs.Assembled.{PlacedText}

-- a place, and whether the turn that led there was a step
pub record Reached : Type 0 where
  pub place : RunPlace
  pub by_step : Bool

-- the places after a place, at most n
unfoldable pub later_within : ℕ → ℕ → RunPlace → List Reached
later_within limit zero p = []
later_within limit (suc n) p = elim (turn limit p) [
  | Acted q ↦ record { place = q; by_step = false } ∷ later_within limit n q
  | Stepped q ↦ record { place = q; by_step = true } ∷ later_within limit n q
  | Ended how ↦ []
]

-- the places of the run after a place, up to the last
abbrev pub later : ℕ → RunPlace → List Reached
later limit p = later_within limit (most_turns limit p) p

-- Breakpoints are statements; the first statement has number 1.

-- the address of a placed statement that is an instruction
abbrev pub instruction_address : PlacedText → Option ℕ
instruction_address p = if p.instruction then Some (nat_abs p.address) else None

-- the address of the statement with this number, if it is an instruction
unfoldable pub statement_address : List PlacedText → ℕ → Option ℕ
statement_address [] s = None
statement_address (p ∷ ps) zero = None
statement_address (p ∷ ps) (suc zero) = instruction_address p
statement_address (p ∷ ps) (suc (suc n)) = statement_address ps (suc n)

abbrev pub is_instruction_at : List PlacedText → ℕ → Bool
is_instruction_at placed s = is_some (statement_address placed s)

abbrev pub is_at : ℕ → Option ℕ → Bool
is_at ir None = false
is_at ir (Some address) = address == ir

-- one of these statements is at the address
abbrev pub has_break : List PlacedText → List ℕ → ℕ → Bool
has_break placed breaks ir = list_any (λ s. is_at ir (statement_address placed s)) breaks

-- a machine with this mode and this IR runs at the address of a statement with a breakpoint
abbrev pub is_at_break : List PlacedText → List ℕ → Mode → ℕ → Bool
is_at_break placed breaks mode ir = is_running mode && has_break placed breaks ir

-- a stop: a place at a breakpoint after a step
abbrev pub is_stop : List PlacedText → List ℕ → Reached → Bool
is_stop placed breaks r = r.by_step && is_at_break placed breaks r.place.state.mode r.place.state.regs.ir

-- how many turns lead to the first of these places that is a stop
unfoldable pub turns_to_stop : List PlacedText → List ℕ → List Reached → Option ℕ
turns_to_stop placed breaks [] = None
turns_to_stop placed breaks (r ∷ rs) =
    if is_stop placed breaks r then Some 1 else option_map suc (turns_to_stop placed breaks rs)

-- how many turns lead from the place before these places to the first place whose turn is a step
unfoldable pub turns_to_step : List Reached → Option ℕ
turns_to_step [] = None
turns_to_step (r ∷ rs) = if r.by_step then Some 0 else option_map suc (turns_to_step rs)
