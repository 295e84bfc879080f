-- Reading cards into core.
-- Source: 1622 manual, read numerically, read alphamerically and last card; the order of the parts is this project's
-- own.
use Rattle.std.specs.Prelude.{ℕ, ◌-◌, List, if◌then◌else◌, ⊤}
use Rattle.addr_indirect.specs.declared.Stop.{Stop}
use Rattle.traces.specs.Trace.{Trace}
use Rattle.traces.specs.Change.{Change, light_first}
use Rattle.card_code.specs.Break.{Break}
use Rattle.card_code.specs.{Entry, Taken, next_card, take_next, Intake, store_digits, store_pairs}
use Rattle.indicators.specs.Codes.{LAST_CARD}

-- a card's text is stored, after the last-card indicator goes on if the card is the last
abbrev pub store_card : (List ℕ → Trace Change ⊤ Stop) → Taken → Trace Change ⊤ Stop
store_card stored card = if card.last then light_first LAST_CARD (stored card.text) else stored card.text

-- a card is taken, and then stored
abbrev pub take_card : List Entry → (List ℕ → Trace Change ⊤ Stop) → Trace Intake ⊤ Break
take_card hopper stored = take_next next_card hopper (store_card stored)

-- RN from a card: its 80 digits go from P upwards, in a core of n positions
abbrev pub read_card_numeric : ℕ → ℕ → List Entry → Trace Intake ⊤ Break
read_card_numeric n p hopper = take_card hopper (store_digits n p)

-- RA from a card: its 80 pairs go from P-1 upwards
abbrev pub read_card_alphameric : ℕ → ℕ → List Entry → Trace Intake ⊤ Break
read_card_alphameric n p hopper = take_card hopper (store_pairs n (p - 1))
