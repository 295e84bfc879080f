-- Moves of flags, and conversions of numbers between one digit per position and digits with zones.
use Rattle.std.specs.Prelude.{ℕ, zero, suc, Bool, true, false, ◌+◌, ◌-◌, ◌*◌, ◌/◌, ◌==◌, List, if◌then◌else◌, Ok, Err, ⊤}
use Rattle.digit_core.specs.Cell.{unflagged_digit, store, with_flag}
use Rattle.addr_indirect.specs.declared.Stop.{Stop}
use Rattle.addr_indirect.specs.declared.Stop.TheVariants.{Address}
use Rattle.addr_indirect.specs.Reading.{read_at}
use Rattle.instruction_table.specs.declared.FeatureOp.{FeatureOp}
use Rattle.instruction_table.specs.declared.FeatureOp.TheVariants.{Mf, Tns, Tnf}
use Rattle.traces.specs.Trace.{Trace, ends, ◌>>=◌}
use Rattle.traces.specs.Stored.{Stored, stores}

-- the zone of a number's digit, and the zone at the units of a negative number
abbrev pub NUMBER_ZONE : ℕ
NUMBER_ZONE = 7

abbrev pub NEGATIVE_ZONE : ℕ
NEGATIVE_ZONE = 5

-- MF: the digit at P gets the flag of the digit at Q, which loses it
abbrev pub move_flag : List ℕ → ℕ → ℕ → Trace Stored ⊤ Stop
move_flag core p q = do
  from ← read_at core q
  to ← read_at core p
  stores p (with_flag from.flag to) (stores q (with_flag false from) (ends (Ok tt)))

-- the cycles of a strip after the units, with given numbers of pairs of P and positions of Q left: a digit of P
-- replaces a digit of Q and gets its flag; a flagged digit is the last
unfoldable pub strip_cycles : List ℕ → ℕ → ℕ → Trace Stored ⊤ Stop
strip_cycles core zero q = ends (Err Address)
strip_cycles core (suc pairs) zero = ends (Err Address)
strip_cycles core (suc pairs) (suc q) = do
  from ← read_at core (2 * pairs + 1)
  to ← read_at core q
  stores q (with_flag to.flag from)
      (if to.flag then ends (Ok tt) else strip_cycles (store core q (with_flag to.flag from)) pairs q)

-- TNS: the pairs at P, an odd address, are stored in the field at Q without their zones; the zone of the units gives the sign
abbrev pub strip : List ℕ → ℕ → ℕ → Trace Stored ⊤ Stop
strip core p q = do
  zone ← read_at core (p - 1)
  from ← read_at core p
  to ← read_at core q
  let units = with_flag (zone.value == NEGATIVE_ZONE) from in
      stores q units (strip_cycles (store core q units) (p / 2) q)

-- core after a digit is stored directly above a place, and then its zone at this place
abbrev pub core_with_pair : List ℕ → ℕ → ℕ → ℕ → List ℕ
core_with_pair core at zone value = store (store core (at + 1) (unflagged_digit value)) at (unflagged_digit zone)

-- these two stores, and then the rest, which gets the core after them
abbrev pub pair_first : {A E : Type 0} → List ℕ → ℕ → ℕ → ℕ → (List ℕ → Trace Stored A E) → Trace Stored A E
pair_first core at zone value rest =
    stores (at + 1) (unflagged_digit value) (stores at (unflagged_digit zone) (rest (core_with_pair core at zone value)))

-- the cycles of a fill after the units, likewise: a digit of Q without its flag, and the zone of numbers below it,
-- replace a pair of P; a flagged digit is the last
unfoldable pub fill_cycles : List ℕ → ℕ → ℕ → Trace Stored ⊤ Stop
fill_cycles core zero q = ends (Err Address)
fill_cycles core (suc pairs) zero = ends (Err Address)
fill_cycles core (suc pairs) (suc q) = do
  d ← read_at core q
  pair_first core (2 * pairs) NUMBER_ZONE d.value (λ new. if d.flag then ends (Ok tt) else fill_cycles new pairs q)

-- TNF: the field at Q is stored as pairs at P, an odd address; the zone of the units gives the sign
abbrev pub fill : List ℕ → ℕ → ℕ → Trace Stored ⊤ Stop
fill core p q = do
  d ← read_at core q
  pair_first core (p - 1) (if d.flag then NEGATIVE_ZONE else NUMBER_ZONE) d.value (λ new. fill_cycles new (p / 2) q)

-- the effects of each operation of the special features on its operands
abbrev pub feature_of : FeatureOp → List ℕ → ℕ → ℕ → Trace Stored ⊤ Stop
feature_of Mf core p q = move_flag core p q
feature_of Tns core p q = strip core p q
feature_of Tnf core p q = fill core p q

-- whether P has to be the units of a pair, an odd address
abbrev pub takes_pairs : FeatureOp → Bool
takes_pairs Mf = false
takes_pairs Tns = true
takes_pairs Tnf = true
