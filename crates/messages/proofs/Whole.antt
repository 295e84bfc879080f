-- A text that ends in an LF is whole lines.
use Rattle.std.proofs.Common.{◌≡◌, ℕ, true, List, [], ◌∷◌, ◌++◌, refl}
use Rattle.messages.specs.Said.{is_whole}

pub whole_end : (text : List ℕ) → is_whole (text ++ 10 ∷ []) ≡ true
unfolding is_whole
whole_end [] = refl
whole_end (b ∷ []) = refl
whole_end (b ∷ c ∷ rest) = whole_end (c ∷ rest)

-- whole lines after whole lines are whole lines
pub whole_behind : (a b : List ℕ) → is_whole a ≡ true → is_whole b ≡ true → is_whole (a ++ b) ≡ true
unfolding is_whole
whole_behind [] b wa wb = wb
whole_behind (x ∷ []) [] wa wb = wa
whole_behind (x ∷ []) (y ∷ ys) wa wb = wb
whole_behind (x ∷ y ∷ a) b wa wb = whole_behind (y ∷ a) b wa wb

pub whole_none : is_whole [] ≡ true
unfolding is_whole
whole_none = refl
