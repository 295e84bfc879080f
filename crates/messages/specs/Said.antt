-- The lines of a message.
use Rattle.std.specs.Prelude.{ℕ, ◌≡◌, ◌≤◌, ◌<◌, ◌+◌, Bool, true, ◌==◌, List, [], ◌∷◌, ◌++◌, length}

-- whole lines: nothing, or a text that ends in an LF
unfoldable pub is_whole : List ℕ → Bool
is_whole [] = true
is_whole (b ∷ []) = b == 10
is_whole (b ∷ c ∷ bs) = is_whole (c ∷ bs)

-- a name and a line are added to a text of n bytes at most; they are left out only if they have no room
pub record PushesLine (n : ℕ) (name line old new : List ℕ) : Type 0 where
  pub added : length old + (length name + length line) < n → new ≡ old ++ (name ++ (line ++ 10 ∷ []))
  pub left : n ≤ length old + (length name + length line) → new ≡ old
