-- The blanks at the ends of a text. A blank is byte 32.
use Rattle.std.specs.Prelude.{ℕ, List, [], ◌∷◌, ◌==◌, if◌then◌else◌}

-- the blanks in front removed
abbrev pub without_front : List ℕ → List ℕ
without_front [] = []
without_front (b ∷ bs) = if b == 32 then without_front bs else b ∷ bs

-- a byte before a text; a blank alone is nothing
abbrev pub onto_front : ℕ → List ℕ → List ℕ
onto_front b [] = if b == 32 then [] else b ∷ []
onto_front b (c ∷ cs) = b ∷ c ∷ cs

-- the blanks at the end removed
abbrev pub without_back : List ℕ → List ℕ
without_back [] = []
without_back (b ∷ bs) = onto_front b (without_back bs)

-- the blanks at both ends removed
abbrev pub trimmed : List ℕ → List ℕ
trimmed text = without_back (without_front text)
