-- Texts of cards and keys that are stored in core.
-- Source: 1622 manual, numerical reading and alphameric reading; that the digits of pairs have no flag, what a bad
-- character is stored as, and the order, are this project's own.
use Rattle.std.specs.Prelude.{ℕ, ◌+◌, nat_lt, List, [], ◌∷◌, if◌then◌else◌, Option, Some, None, Ok, Err, ⊤}
use Rattle.digit_core.specs.declared.Digit.{Digit}
use Rattle.digit_core.specs.Cell.{unflagged_digit, store}
use Rattle.indicators.specs.declared.Panel.{Panel}
use Rattle.indicators.specs.Panel.{set}
use Rattle.addr_indirect.specs.declared.Stop.{Stop}
use Rattle.addr_indirect.specs.declared.Stop.TheVariants.{Address}
use Rattle.traces.specs.Trace.{Trace, ends}
use Rattle.traces.specs.Change.{Change, StoresCell, Lights, store_first, light_first}
use Rattle.card_code.specs.Characters.{num_of}
use Rattle.card_code.specs.Pairs.{Pair, alpha_of}
use Rattle.card_code.specs.Entries.{Entry, behind}
use Rattle.indicators.specs.Codes.{READ_CHECK}

-- the effects of reading a text: it is taken from its unit, and then core and panel change
pub data Intake : Type 0 where
  TakesText : Intake
  Changes : (c : Change) → Intake

-- a digit is stored at a, if core has this position; otherwise stop 2
abbrev pub store_in : ℕ → ℕ → Digit → Trace Change ⊤ Stop → Trace Change ⊤ Stop
store_in n a d t = if nat_lt a n then store_first a d t else ends (Err Address)

-- a bad character's digit is a zero, and the read check goes on as it is stored
abbrev pub store_digit : ℕ → ℕ → Option Digit → Trace Change ⊤ Stop → Trace Change ⊤ Stop
store_digit n a (Some d) t = store_in n a d t
store_digit n a None t = store_in n a (unflagged_digit 0) (light_first READ_CHECK t)

-- a bad character's pair is 00, and the read check goes on as its first digit is stored
abbrev pub store_pair : ℕ → ℕ → Option Pair → Trace Change ⊤ Stop → Trace Change ⊤ Stop
store_pair n a (Some p) t = store_in n a (unflagged_digit p.zone) (store_in n (a + 1) (unflagged_digit p.number) t)
store_pair n a None t = store_in n a (unflagged_digit 0) (light_first READ_CHECK (store_in n (a + 1) (unflagged_digit 0) t))

-- the digits of a text are stored from a upwards, in a core of n positions
unfoldable pub store_digits : ℕ → ℕ → List ℕ → Trace Change ⊤ Stop
store_digits n a [] = ends (Ok tt)
store_digits n a (c ∷ cs) = store_digit n a (num_of c) (store_digits n (a + 1) cs)

-- the pairs of a text are stored from a upwards, the zone first
unfoldable pub store_pairs : ℕ → ℕ → List ℕ → Trace Change ⊤ Stop
store_pairs n a [] = ends (Ok tt)
store_pairs n a (c ∷ cs) = store_pair n a (alpha_of c) (store_pairs n (a + 2) cs)

-- one character's digit, and one character's pair, are stored at a
abbrev pub digit_trace : ℕ → ℕ → ℕ → Trace Change ⊤ Stop
digit_trace n a c = store_digits n a (c ∷ [])

abbrev pub pair_trace : ℕ → ℕ → ℕ → Trace Change ⊤ Stop
pair_trace n a c = store_pair n a (alpha_of c) (ends (Ok tt))

-- core, panel and what is left to be read
pub record Desk : Type 0 where
  pub core : List ℕ
  pub panel : Panel
  pub left : List Entry

-- a desk after one effect of a reading
abbrev pub desk_after_one : Desk → Intake → Desk
desk_after_one d TakesText = record d { left = behind d.left }
desk_after_one d (Changes (StoresCell s)) = record d { core = store d.core s.at s.digit }
desk_after_one d (Changes (Lights l)) = record d { panel = set l.code l.to d.panel }

-- a desk after some effects of a reading
abbrev pub desk_after : Desk → List Intake → Desk
desk_after d [] = d
desk_after d (e ∷ es) = desk_after (desk_after_one d e) es
