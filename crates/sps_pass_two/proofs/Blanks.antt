-- A text in which no blank stands.
use Rattle.std.proofs.Common.{◌≡◌, ℕ, true, false, not, ◌||◌, ◌==◌, List, [], ◌∷◌, if◌then◌else◌, refl, ap}
use Rattle.std.specs.List.{list_any}
use Rattle.sps_expr.specs.Reading.{without_blanks}

-- no blank is removed from it
pub without_none : (text : List ℕ) → list_any (λ b. b == 32) text ≡ false → without_blanks text ≡ text
without_none [] none = refl
without_none (b ∷ bs) none =
    let step = elim (b == 32) as (λ t. (t || list_any (λ b. b == 32) bs) ≡ false → (if not t then b ∷ without_blanks bs else without_blanks bs) ≡ b ∷ bs) [
      | true ↦ λ h. cc
      | false ↦ λ h. ap (λ l. b ∷ l) (without_none bs h)
    ] in
    step none
