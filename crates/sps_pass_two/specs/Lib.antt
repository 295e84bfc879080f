pub mod SourceCharacters
pub mod PartNames
pub mod Digits
pub mod DigitList
pub mod Operands
pub mod Broken
pub mod Image
pub mod Kept
pub mod Types
pub mod Writing
pub mod Assembled
pub mod Making
pub mod Made
pub mod Assembling
pub mod Tasks
-- definitions that the crates above cite
pub use Rattle.sps_pass_two.specs.Broken.{refusal_of}
pub use Rattle.sps_pass_two.specs.Image.{DigitRun}
pub use Rattle.sps_pass_two.specs.Kept.{IsRunBelow, IsImage, IsPiece, digit_count, lowest_declared}
pub use Rattle.sps_pass_two.specs.Types.{run_of}
pub use Rattle.sps_pass_two.specs.Assembled.{AssembledText, PlacedText, assembled_text}
pub use Rattle.sps_pass_two.specs.Making.{text_of_placed}
pub use Rattle.sps_pass_two.specs.Assembling.{IsAssembled}
