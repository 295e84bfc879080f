-- Which calls fail.
use Rattle.std.specs.Prelude.{◌≡◌, ◌≤◌, Bool, true, [], ◌==◌}
use Rattle.std.specs.List.{list_any}
use Rattle.outside_io.specs.declared.in_memory.mem.Calls.{Calls}
use Rattle.outside_io.specs.declared.host.Unit as unit
use Rattle.outside_io.specs.declared.in_memory.texts.OutputTexts.{OutputTexts}
use Rattle.outside_io.specs.World.{Limits, one_more, is_output}
use Rattle.outside_io.specs.Texts.{spare_of}

-- the next call is to fail
abbrev pub next_fails : Calls → Bool
next_fails calls = list_any (λ n. n == one_more calls.made) calls.failing.items

-- one more call is counted, and faults don't fall
pub record CountsCall (old new : Calls) : Type 0 where
  pub made : new.made ≡ one_more old.made
  pub failing : new.failing ≡ old.failing
  pub later : old.faults ≤ new.faults

-- the calls that are to fail, and the room that is left
abbrev pub limits_of : OutputTexts → Calls → Limits
limits_of texts calls = record { failing = calls.failing.items; room = spare_of texts }

-- no call is to fail, and each output has room
pub record FailsNowhere (l : Limits) : Type 0 where
  pub failing : l.failing ≡ []
  pub room : (u : unit.Unit) → is_output u ≡ true → 1 ≤ l.room u

-- if no call is to fail and each output has room, no fault was counted
abbrev pub FaultsHaveCauses : OutputTexts → Calls → Type 0
FaultsHaveCauses texts calls = FailsNowhere (limits_of texts calls) → calls.faults ≡ 0
