-- How many cards were read.
use Rattle.std.specs.Prelude.{ℕ, ◌-◌, min}
use Rattle.outside_io.specs.declared.host.Unit as unit
use Rattle.outside_io.specs.declared.host.Unit.TheVariants as units
use Rattle.outside_io.specs.World.{one_more}
use Rattle.card_code.specs.Readings.{counted}
use Rattle.card_unit.specs.declared.counts.CardsRead.{CardsRead}

-- the counts after one more card of a unit was read
abbrev pub one_more_read : unit.Unit → CardsRead → CardsRead
one_more_read units.Data read = record { of_deck = read.of_deck; of_data = one_more read.of_data }
one_more_read u read = record { of_deck = one_more read.of_deck; of_data = read.of_data }

-- the number in its unit of the card that was read last
abbrev pub last_card_number : unit.Unit → CardsRead → ℕ
last_card_number units.Data read = read.of_data
last_card_number u read = read.of_deck

-- the counts after `taken` cards were read from a pile of `pile` cards and then from Data
abbrev pub counted_cards : ℕ → ℕ → CardsRead
counted_cards pile taken = record { of_deck = counted (min taken pile); of_data = counted (taken - pile) }
