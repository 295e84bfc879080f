pub mod World
pub mod Frame
pub mod Whole
pub mod Files
pub mod Names
pub mod Rooms
pub mod Texts
pub mod CallCounts
pub mod Pack
pub mod Mem
pub mod Quiet
pub mod Scratch
pub mod Old
pub mod Real
pub mod Lines
pub mod Events
-- what the crates above cite
pub use Rattle.outside_io.specs.World.{Fails, Goes, HasNoText, IsFree, IsFresh, Rose, Seen, world_after_put, all_units, world_after_binding, is_input, is_output, one_more, place, same_unit, pack_sector_text, Asked, Readings, asked_after, both_readings, no_readings, one_reading, world_after_take, unit_word, with_sector}
pub use Rattle.outside_io.specs.Frame.{ToldValue, Keeps, Tells}
pub use Rattle.outside_io.specs.Whole.{Sends, Stops, whole_readings}
pub use Rattle.outside_io.specs.Mem.{mem_seen}
pub use Rattle.outside_io.specs.Lines.{HasNoEnd, behind_line, first_text, texts_of, without_return}
