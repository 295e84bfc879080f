-- What a check is about: the cells and the fields that are gone through.
use Rattle.std.proofs.Common.{ℕ, suc, ap, ◌∙◌, ◌≡◌, ◌+◌, ◌-◌, ◌<◌, ◌≤◌, true, false, List, length, get_or, Some, None, Ok, Err, arith}
use Rattle.std.specs.Prelude.{nat_lt}
use Rattle.std.proofs.lemmas.Bool.Decides.{nat_tests}
use Rattle.digit_core.specs.declared.Digit.{Digit}
use Rattle.digit_core.specs.Search.{first_down, first_up}
use Rattle.digit_core.proofs.Passing.{down_here, down_next, down_none, up_here, up_next, up_none}
use Rattle.addr_indirect.specs.declared.Stop.{Stop}
use Rattle.addr_indirect.specs.Reading.{read_at}
use Rattle.cpu_step.specs.Checks.{first_unread, field_after, chain_end, is_over_nine}

module _ (n i : ℕ) (core : List ℕ) (u : ℕ) where
  -- the field leads on to v
  pub chain_on : i < n → (v : ℕ) → field_after core u ≡ Some v → chain_end (n - i) core u ≡ chain_end (n - (i + 1)) core v
  unfolding chain_end
  chain_on more v on = let one_more : n - i ≡ suc (n - (i + 1)) = omega arith in rw (one_more, on)

  -- it leads nowhere
  pub chain_stays : i < n → field_after core u ≡ None → chain_end (n - i) core u ≡ u
  unfolding chain_end
  chain_stays more none = let one_more : n - i ≡ suc (n - (i + 1)) = omega arith in rw (one_more, none)

  -- no field is left
  pub chain_over : n ≤ i → chain_end (n - i) core u ≡ u
  unfolding chain_end
  chain_over none = let none_left : n - i ≡ 0 = omega arith in rw none_left

-- past the end of core no cell can be read
pub unread_past : (core : List ℕ) (a : ℕ) → length core ≤ a → first_unread core a 12 ≡ a
unfolding first_unread read_at
unread_past core a past = let outside : nat_lt a (length core) ≡ false = grind (arith, nat_tests) in rw outside

module _ (core : List ℕ) (a k : ℕ) where
  -- the next cell can't be read
  pub unread_here : k < 12 → (why : Stop) → read_at core (a + k) ≡ Err why → first_unread core (a + k) (12 - k) ≡ a + k
  unfolding first_unread
  unread_here more why stops = let one_more : 12 - k ≡ suc (12 - (k + 1)) = omega arith in rw (one_more, stops)

  -- it can
  pub unread_on : k < 12 → (d : Digit) → read_at core (a + k) ≡ Ok d → first_unread core (a + k) (12 - k) ≡ first_unread core (a + (k + 1)) (12 - (k + 1))
  unfolding first_unread
  unread_on more d reads =
      let one_more : 12 - k ≡ suc (12 - (k + 1)) = omega arith in
      let next : a + k + 1 ≡ a + (k + 1) = omega arith in
      rw (one_more, reads, next)

  -- none is left
  pub unread_over : 12 ≤ k → k ≤ 12 → first_unread core (a + k) (12 - k) ≡ a + 12
  unfolding first_unread
  unread_over none all = let none_left : 12 - k ≡ 0 = omega arith in let at : a + k ≡ a + 12 = omega arith in rw none_left at

module _ (core : List ℕ) (a n k : ℕ) where
  -- downwards: the next digit is over 9, or not, or none is left
  pub down_found : k < n → n ≤ a + 1 → is_over_nine (get_or core (a - k) 0) ≡ true → first_down is_over_nine core (a + 1 - k) (n - k) ≡ Some (a - k)
  down_found more room is =
      let at : a + 1 - k - 1 ≡ a - k = omega arith in
      down_here is_over_nine core (a + 1 - k) (n - k) (omega arith) (ap (λ x. is_over_nine (get_or core x 0)) at ∙ is) ∙ ap Some at

  pub down_on : k < n → n ≤ a + 1 → is_over_nine (get_or core (a - k) 0) ≡ false → first_down is_over_nine core (a + 1 - k) (n - k) ≡ first_down is_over_nine core (a + 1 - (k + 1)) (n - (k + 1))
  down_on more room isnt =
      let at : a + 1 - k - 1 ≡ a - k = omega arith in
      let next : a + 1 - k - 1 ≡ a + 1 - (k + 1) = omega arith in
      let left : n - k - 1 ≡ n - (k + 1) = omega arith in
      down_next is_over_nine core (a + 1 - k) (n - k) (omega arith) (ap (λ x. is_over_nine (get_or core x 0)) at ∙ isnt)
      ∙ ap (λ x. first_down is_over_nine core x (n - k - 1)) next ∙ ap (λ x. first_down is_over_nine core (a + 1 - (k + 1)) x) left

  pub down_over : n ≤ k → first_down is_over_nine core (a + 1 - k) (n - k) ≡ None
  down_over none = down_none is_over_nine core (a + 1 - k) (n - k) (omega arith)

  -- upwards, likewise
  pub up_found : k < n → is_over_nine (get_or core (a + k) 0) ≡ true → first_up is_over_nine core (a + k) (n - k) ≡ Some (a + k)
  up_found more is = up_here is_over_nine core (a + k) (n - k) (omega arith) is

  pub up_on : k < n → is_over_nine (get_or core (a + k) 0) ≡ false → first_up is_over_nine core (a + k) (n - k) ≡ first_up is_over_nine core (a + (k + 1)) (n - (k + 1))
  up_on more isnt =
      let next : a + k + 1 ≡ a + (k + 1) = omega arith in
      let left : n - k - 1 ≡ n - (k + 1) = omega arith in
      up_next is_over_nine core (a + k) (n - k) (omega arith) isnt
      ∙ ap (λ x. first_up is_over_nine core x (n - k - 1)) next ∙ ap (λ x. first_up is_over_nine core (a + (k + 1)) x) left

  pub up_over : n ≤ k → first_up is_over_nine core (a + k) (n - k) ≡ None
  up_over none = up_none is_over_nine core (a + k) (n - k) (omega arith)
