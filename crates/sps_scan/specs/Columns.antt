-- The columns of a line, and the blanks and commas of a text.
use Rattle.std.specs.Prelude.{ℕ, ◌+◌, ◌-◌, Bool, List, [], ◌∷◌, take, drop, ◌==◌, if◌then◌else◌}
use Rattle.std.specs.List.{list_all, list_any}

-- the columns from one to another, counted from 1, both included, as far as the line has them
abbrev pub columns : ℕ → ℕ → List ℕ → List ℕ
columns from to line = take (to + 1 - from) (drop (from - 1) line)

-- a text has only blanks
abbrev pub is_blank : List ℕ → Bool
is_blank text = list_all (λ b. b == 32) text

-- the text before the first comma, or the whole text
abbrev pub before_comma : List ℕ → List ℕ
before_comma [] = []
before_comma (b ∷ bs) = if b == 44 then [] else b ∷ before_comma bs

-- the text after the first comma, or nothing
abbrev pub after_comma : List ℕ → List ℕ
after_comma [] = []
after_comma (b ∷ bs) = if b == 44 then bs else after_comma bs

-- the text has a comma
abbrev pub has_comma : List ℕ → Bool
has_comma text = list_any (λ b. b == 44) text
