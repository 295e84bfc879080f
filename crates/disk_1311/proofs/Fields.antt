-- A control field, digit by digit.
use Rattle.std.proofs.Common.{◌≡◌, ℕ, suc, ◌+◌, ◌-◌, ◌<◌, ◌≤◌, List, [], ◌∷◌, ◌++◌, length, take, set, Result, Ok, Err, refl, sym, ap, arith, append_assoc, ◌⊎◌, inl, inr}
use Rattle.std.proofs.lemmas.Bool.Decides.{nat_tests}
use Rattle.std.proofs.lemmas.List.{take_more_set, append-nil, take_all}
use Rattle.digit_core.specs.declared.Digit.{Digit}
use Rattle.addr_indirect.specs.declared.Stop.{Stop}
use Rattle.addr_indirect.specs.declared.Stop.TheVariants.{Device}
use Rattle.disk_1311.specs.declared.control.Control.{Control}
use Rattle.addr_indirect.specs.Steps.{◌>>=◌}
use Rattle.addr_indirect.specs.Reading.{decimal_at, decimals_up}
use Rattle.disk_1311.specs.Control.{control_field, control_of, on_drives}

-- values that were read, and those that a further reading gives
abbrev pub joined : List ℕ → Result (List ℕ) Stop → Result (List ℕ) Stop
joined xs r = r >>= (λ vs. Ok (xs ++ vs))

-- where nothing was read yet, all is in the further reading
pub joined_nil : (r : Result (List ℕ) Stop) → joined [] r ≡ r
joined_nil (Ok vs) = refl
joined_nil (Err s) = refl

-- one value goes from the further reading to those that were read
joined_one : (xs : List ℕ) (v : ℕ) (r : Result (List ℕ) Stop) → joined xs (r >>= (λ vs. Ok (v ∷ vs))) ≡ joined (xs ++ v ∷ []) r
joined_one xs v (Ok vs) = ap Ok (sym (append_assoc xs (v ∷ []) vs))
joined_one xs v (Err s) = refl

module _ (core : List ℕ) (at k : ℕ) (digits : List ℕ) (below : k < 14) where
  -- there is a digit left to read
  more : 14 - k ≡ suc (14 - (k + 1))
  more = omega arith

  -- a stop at the next digit is the whole reading's
  pub field_stop : (s : Stop) → decimal_at core (at + k) ≡ Err s → joined (take k digits) (decimals_up core (at + k) (14 - k)) ≡ Err s
  unfolding decimals_up
  field_stop s stops = rw (more, stops)

  -- the next digit is read, and the reading goes on
  pub field_on : (d : Digit) → decimal_at core (at + k) ≡ Ok d → length digits ≡ 14 →
      joined (take k digits) (decimals_up core (at + k) (14 - k)) ≡ joined (take (k + 1) (set digits k d.value)) (decimals_up core (at + (k + 1)) (14 - (k + 1)))
  unfolding decimals_up
  field_on d reads all =
      let next : at + k + 1 ≡ at + (k + 1) = omega arith in
      rw (more, reads, take_more_set digits k d.value (omega arith), next) (joined_one (take k digits) d.value _)

-- after all of them nothing is left to read
pub field_all : (core : List ℕ) (at k : ℕ) (digits : List ℕ) → 14 ≤ k → length digits ≡ 14 → joined (take k digits) (decimals_up core (at + k) (14 - k)) ≡ Ok digits
unfolding decimals_up
field_all core at k digits all long =
    let none_left : 14 - k ≡ 0 = omega arith in
    rw (none_left, take_all k digits (omega arith), append-nil digits)

-- what is made of the digits
pub field_stops : (core : List ℕ) (at drives : ℕ) (s : Stop) → decimals_up core at 14 ≡ Err s → control_field core at drives ≡ Err s
unfolding control_field
field_stops core at drives s stops = rw stops

pub field_reads : (core : List ℕ) (at drives : ℕ) (digits : List ℕ) → decimals_up core at 14 ≡ Ok digits → control_field core at drives ≡ on_drives drives (control_of digits)
unfolding control_field
field_reads core at drives digits reads = rw reads

-- the drive is looked at
module _ (drives : ℕ) (c : Control) where
  pub drive_there : 1 ≤ c.drive → c.drive ≤ drives → Ok c ≡ on_drives drives c
  drive_there some within = grind (arith, nat_tests)

  pub no_drive : (c.drive < 1) ⊎ (drives < c.drive) → Err Device ≡ on_drives drives c
  no_drive (inl none) = grind (arith, nat_tests)
  no_drive (inr over) = grind (arith, nat_tests)
