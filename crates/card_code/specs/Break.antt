-- Why an instruction, or the Load key, isn't completed.
use Rattle.std.specs.Prelude.{ℕ, Result}
use Rattle.outside_io.specs.declared.host.Unit as unit
use Rattle.addr_indirect.specs.declared.Stop.{Stop}
use Rattle.traces.specs.Trace.{Trace, map_reason, with_reason}

-- a stop, no card, no line of keys, or a line that is too long, with its number in its unit
pub data Break : Type 0 where
  StopsBy : (why : Stop) → Break
  Empty : Break
  NoKeys : Break
  JamsAt : (from : unit.Unit) (line : ℕ) → Break

-- a result, and an action, that ends early only by a stop
abbrev pub or_break : {A : Type 0} → Result A Stop → Result A Break
or_break r = map_reason StopsBy r

abbrev pub stop_as_break : {F A : Type 0} → Trace F A Stop → Trace F A Break
stop_as_break t = with_reason StopsBy t
