-- The pieces that are written on a sink.
use Rattle.std.specs.Prelude.{◌≡◌, ℕ, List, [], ◌∷◌, ◌++◌, Option, Some, option_map, IfSome}

-- a piece is written: if the sink still reveals its pieces, it revealed them before, and this piece comes after them
abbrev pub Says : Option (List (List ℕ)) → Option (List (List ℕ)) → List ℕ → Type 0
Says old new piece = IfSome new (λ now. option_map (λ before. before ++ piece ∷ []) old ≡ Some now)
