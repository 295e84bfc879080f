pub mod Break
pub mod Characters
pub mod Pairs
pub mod Words
pub mod Entries
pub mod LineText
pub mod Reader
pub mod Holding
pub mod TextIn
pub mod Feed
pub mod TextOut
pub mod Written
pub mod Readings
-- what the crates above cite
pub use Rattle.card_code.specs.Characters.{object_char, object_digit, punch_num}
pub use Rattle.card_code.specs.Pairs.{alpha_of, digits}
pub use Rattle.card_code.specs.Entries.{Entry, Long, Taken, Text, behind, entries_of_unit, text_as_card, hopper_of, has_none_left, next_card, next_keys, unit_entries}
pub use Rattle.card_code.specs.LineText.{text_of_line}
pub use Rattle.card_code.specs.Reader.{HasNone, HasWhole, MoreEntries, NextEntry, TakesNeeded, entries_left, bytes_held, unit_of}
pub use Rattle.card_code.specs.TextIn.{Changes, Intake, TakesText, store_digits, store_pairs}
pub use Rattle.card_code.specs.Feed.{FailsToTake, Lacks, ReadsIn, Station, Stays, TakesNext, station, take_next}
pub use Rattle.card_code.specs.TextOut.{Output, Warns, WritesByte, lamps_of, pair_char, panel_after_pair, with_pair}
pub use Rattle.card_code.specs.Written.{Wrote, WroteFirst, WroteFirstPairs, WrotePairs}
