-- What the reading of a card does to core, panel and hopper, and what the punching does outside.
use Rattle.std.specs.Prelude.{ℕ, ◌≡◌, Bool, true, List, [], ◌∷◌, ◌++◌, if◌then◌else◌, Option, Some, None, Result, Ok, Err, ⊤}
use Rattle.indicators.specs.declared.Panel.{Panel}
use Rattle.indicators.specs.Panel.{set}
use Rattle.outside_io.specs.declared.host.Unit.TheVariants as units
use Rattle.outside_io.specs.World.{World, Seen}
use Rattle.addr_indirect.specs.declared.Stop.{Stop}
use Rattle.traces.specs.Trace.{Trace}
use Rattle.card_code.specs.Break.{Break, StopsBy, Empty, JamsAt}
use Rattle.card_code.specs.{Entry, Intake, Output, Wrote, WroteFirst, WrotePairs, WroteFirstPairs}
use Rattle.card_code.specs.declared.tally.ReadAs.{ReadAs}
use Rattle.card_code.specs.Readings.{Reading, bad_from, with_bad}
use Rattle.card_unit.specs.declared.hopper.Hopper.{Hopper}
use Rattle.card_unit.specs.declared.reader.CardIo.{CardIo}
use Rattle.card_unit.specs.declared.reader.CardIo.TheVariants as io
use Rattle.card_unit.specs.Hopper.{hopper_feed, line_read, Start, HasReadCardsBy}
use Rattle.card_code.specs.Feed.{Station, ReadsIn}
use Rattle.indicators.specs.Codes.{LAST_CARD}

-- the panel after a card was taken: the last-card indicator goes on if the card was the last, and otherwise stays
abbrev pub panel_after_card : Bool → Panel → Panel
panel_after_card last panel = if last then set LAST_CARD true panel else panel

-- how a reading ended; None if the host failed
abbrev pub card_reading_ending : CardIo → Option (Result ⊤ Break)
card_reading_ending io.Done = Some (Ok tt)
card_reading_ending (io.Stop why) = Some (Err (StopsBy why))
card_reading_ending io.Empty = Some (Err Empty)
card_reading_ending (io.Jam u n) = Some (Err (JamsAt u n))
card_reading_ending io.Failed = None

-- what a reading with the trace t does
abbrev pub ReadsCardBy : (List Entry → Trace Intake ⊤ Break) → Station Hopper → Station Hopper → CardIo → Type 0
ReadsCardBy t old new answer = ReadsIn hopper_feed t old new (card_reading_ending answer)

-- one more card was read, as `how` says, and core had room for `room` characters
abbrev pub HasReadOneCard : ReadAs → ℕ → Start → List Reading → Hopper → World → Type 0
HasReadOneCard how room start readings h w =
    (r : Reading) × (r.how ≡ how) × (r.room ≡ room) × HasReadCardsBy start (readings ++ r ∷ []) h w

-- one more card was read if the reading was done or stopped, and otherwise no card
abbrev pub HasReadCardAsSaid : ReadAs → ℕ → Start → List Reading → Hopper → World → CardIo → Type 0
HasReadCardAsSaid how room start readings h w io.Done = HasReadOneCard how room start readings h w
HasReadCardAsSaid how room start readings h w (io.Stop why) = HasReadOneCard how room start readings h w
HasReadCardAsSaid how room start readings h w io.Empty = HasReadCardsBy start readings h w
HasReadCardAsSaid how room start readings h w (io.Jam u n) = HasReadCardsBy start readings h w
HasReadCardAsSaid how room start readings h w io.Failed = HasReadCardsBy start readings h w

-- how a call adds to the readings of the hopper
abbrev pub ReadsCardAsSaid : ReadAs → ℕ → Hopper → Hopper → Seen → Seen → CardIo → Type 0
ReadsCardAsSaid how room old new before after answer = (start : Start) (readings : List Reading)
    → HasReadCardsBy start readings old before.world → HasReadCardAsSaid how room start readings new after.world answer

-- the hopper after the bad characters among those stored of the last card were tallied
abbrev pub with_taken_up : ReadAs → List ℕ → Hopper → Hopper
with_taken_up how stored h = record h { bad = with_bad (bad_from h.from (line_read h) how 1 stored) h.bad }

-- the answer of a reading, by the result of storing its card
abbrev pub card_stored_ending : Result ⊤ Stop → CardIo
card_stored_ending (Ok done) = io.Done
card_stored_ending (Err why) = io.Stop why

-- what the punching of these bytes does; it reads no card, so it answers neither Empty nor Jam
abbrev pub Punches : Trace ℕ ⊤ Stop → Seen → Seen → CardIo → Type 0
Punches t before after io.Done = Wrote units.Punched t before after (Ok tt)
Punches t before after (io.Stop why) = Wrote units.Punched t before after (Err why)
Punches t before after io.Empty = ⊥
Punches t before after (io.Jam u n) = ⊥
Punches t before after io.Failed = WroteFirst units.Punched t before after

-- what the punching of these pairs does, also to the panel; it answers neither Empty nor Jam
abbrev pub PunchesPairs : Trace Output ⊤ Stop → Panel → Seen → Panel → Seen → CardIo → Type 0
PunchesPairs t panel before new_panel after io.Done = WrotePairs units.Punched t panel before new_panel after (Ok tt)
PunchesPairs t panel before new_panel after (io.Stop why) =
    WrotePairs units.Punched t panel before new_panel after (Err why)
PunchesPairs t panel before new_panel after io.Empty = ⊥
PunchesPairs t panel before new_panel after (io.Jam u n) = ⊥
PunchesPairs t panel before new_panel after io.Failed = WroteFirstPairs units.Punched t panel before new_panel after
