-- A piece as contracts see it.
use Rattle.sps_pass_two.specs.declared.image.Piece.{Piece}
use Rattle.sps_pass_two.specs.Image.{DigitRun}

-- a piece as a run
abbrev pub run_of : Piece → DigitRun
run_of piece = record { from = piece.from; digits = piece.digits }
