-- The effects of writing the texts.
use Rattle.std.specs.Prelude.{ℕ, List, Option}
use Rattle.outside_io.specs.declared.host.Unit.TheVariants as units
use Rattle.outside_io.specs.declared.whole.Sent.{Sent}
use Rattle.outside_io.specs.{Seen, Sends}
use Rattle.digit_core.specs.declared.Digit.{Digit}
use Rattle.sps_ops.specs.declared.rule.Rule.{Rule}
use Rattle.sps_pass_two.specs.declared.assembled.Assembled.{Assembled}
use Rattle.sps_pass_two.specs.declared.assembled.Placed.{Placed}
use Rattle.sps_pass_two.specs.{DigitRun, text_of_placed}
use Rattle.sps_listing.specs.Texts.{image_line, piece_text, image_text, refusal_line}
use Rattle.sps_listing.specs.Listing.{listing_line, listing_text, placed_texts}

-- a line of the image, a piece of it and all its pieces are written on Image
abbrev pub SendsImageLine : Seen → Seen → ℕ → List Digit → Sent → Type 0
SendsImageLine old new address digits sent = Sends old new units.Image (image_line address digits) sent

abbrev pub SendsPiece : Seen → Seen → DigitRun → Sent → Type 0
SendsPiece old new piece sent = Sends old new units.Image (piece_text piece) sent

abbrev pub SendsImage : Seen → Seen → List DigitRun → Sent → Type 0
SendsImage old new pieces sent = Sends old new units.Image (image_text pieces) sent

-- a line of the listing and the whole listing of a source are written on Listing
abbrev pub SendsLine : Seen → Seen → ℕ → List ℕ → Placed → Sent → Type 0
SendsLine old new number line placed sent =
    Sends old new units.Listing (listing_line number line (text_of_placed placed)) sent

abbrev pub SendsListing : Seen → Seen → List ℕ → Assembled → Sent → Type 0
SendsListing old new source program sent = Sends old new units.Listing (listing_text source (placed_texts program)) sent

-- the line of a refusal, of a statement for a rule, is written on Report
abbrev pub Refuses : Seen → Seen → List ℕ → ℕ → Rule → Option ℕ → Sent → Type 0
Refuses old new source statement rule part sent =
    Sends old new units.Report (refusal_line source statement rule part) sent
