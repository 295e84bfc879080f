-- The pieces that a sink in memory reveals.
use Rattle.std.specs.Prelude.{ℕ, List, Option, Some, None, Vec, map, if◌then◌else◌}
use Rattle.std.specs.declared.alloc.Global.{Global}
use Rattle.finished_job.specs.declared.sink.MemorySink.{MemorySink}

-- the bytes of each piece
abbrev pub bytes_of_pieces : List (Vec ℕ Global) → List (List ℕ)
bytes_of_pieces pieces = map (λ piece. piece.items) pieces

-- the pieces that were written, unless memory for one was lacking
abbrev pub said_pieces : MemorySink → Option (List (List ℕ))
said_pieces said = if said.tells then Some (bytes_of_pieces said.pieces.items) else None
