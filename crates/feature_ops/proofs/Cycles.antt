-- What is left of a strip or a fill, against the whole of it.
use Rattle.std.proofs.Common.{refl, ℕ, suc, ◌≡◌, ◌+◌, ◌-◌, ◌*◌, ◌<◌, ◌≤◌, inl, inr, min, true, false, List, Ok, Err, arith}
use Rattle.std.proofs.lemmas.Bool.{cases_lt}
use Rattle.std.specs.Prelude.{⊤}
use Rattle.digit_core.specs.declared.Digit.{Digit}
use Rattle.digit_core.specs.Cell.{store, with_flag}
use Rattle.addr_indirect.specs.declared.Stop.{Stop}
use Rattle.addr_indirect.specs.declared.Stop.TheVariants.{Address}
use Rattle.addr_indirect.specs.Reading.{read_at}
use Rattle.traces.specs.Trace.{Trace}
use Rattle.traces.specs.Stored.{Stored, Did, Rest}
use Rattle.feature_ops.specs.Feature.{NUMBER_ZONE, move_flag, strip_cycles, fill_cycles, core_with_pair}

-- the number of positions left behind so many cycles
pub left_more : (a i : ℕ) → i < a → a - i ≡ suc (a - i - 1)
left_more a i l = omega arith

pub left_none : (a i : ℕ) → a ≤ i → a - i ≡ 0
left_none a i l = omega arith

pub left_next : (a i : ℕ) → a - (i + 1) ≡ a - i - 1
left_next a i = omega arith

module _ (core : List ℕ) (p q : ℕ) where
  pub flag_unread : (s : Stop) → read_at core q ≡ Err s → Did core (move_flag core p q) core (Err s)
  flag_unread s stops = rw stops (record { leaves = refl; answers = refl })

  pub flag_unplaced : (from : Digit) (s : Stop) → read_at core q ≡ Ok from → read_at core p ≡ Err s → Did core (move_flag core p q) core (Err s)
  flag_unplaced from s reads stops = rw (reads, stops) (record { leaves = refl; answers = refl })

  pub flag_moved : (from to : Digit) → read_at core q ≡ Ok from → read_at core p ≡ Ok to →
      Did core (move_flag core p q) (store (store core p (with_flag from.flag to)) q (with_flag false from)) (Ok tt)
  flag_moved from to reads places = rw (reads, places) (record { leaves = refl; answers = refl })

module _ (core core0 : List ℕ) (t0 : Trace Stored ⊤ Stop) (pairs q i : ℕ) where
  -- a strip's cycles, behind so many of them
  abbrev pub StripGoing : Type 0
  StripGoing = Rest core (strip_cycles core (pairs - i) (q - i)) core0 t0

  abbrev pub FillGoing : Type 0
  FillGoing = Rest core (fill_cycles core (pairs - i) (q - i)) core0 t0

  -- no pair of P or position of Q is left
  pub strip_out : min pairs q ≤ i → StripGoing → Did core0 t0 core (Err Address)
  unfolding strip_cycles
  strip_out none going =
      elim (cases_lt i pairs) [
        | inl l ↦
            let none_q : q - i ≡ 0 = omega arith in
            let left = rw (left_more pairs i l, none_q) at going in record { leaves = left.leaves; answers = left.answers }
        | inr l ↦
            let left = rw (left_none pairs i l) at going in record { leaves = left.leaves; answers = left.answers }
      ]

  pub fill_out : min pairs q ≤ i → FillGoing → Did core0 t0 core (Err Address)
  unfolding fill_cycles
  fill_out none going =
      elim (cases_lt i pairs) [
        | inl l ↦
            let none_q : q - i ≡ 0 = omega arith in
            let left = rw (left_more pairs i l, none_q) at going in record { leaves = left.leaves; answers = left.answers }
        | inr l ↦
            let left = rw (left_none pairs i l) at going in record { leaves = left.leaves; answers = left.answers }
      ]

  module _ (more : i < min pairs q) where
    more_pairs : pairs - i ≡ suc (pairs - i - 1)
    more_pairs = omega arith

    more_q : q - i ≡ suc (q - i - 1)
    more_q = omega arith

    pub strip_from_stop : (s : Stop) → read_at core (2 * (pairs - i - 1) + 1) ≡ Err s → StripGoing → Did core0 t0 core (Err s)
    unfolding strip_cycles
    strip_from_stop s stops going = let left = rw (more_pairs, more_q, stops) at going in record { leaves = left.leaves; answers = left.answers }

    module _ (from : Digit) (reads : read_at core (2 * (pairs - i - 1) + 1) ≡ Ok from) where
      pub strip_to_stop : (s : Stop) → read_at core (q - i - 1) ≡ Err s → StripGoing → Did core0 t0 core (Err s)
      unfolding strip_cycles
      strip_to_stop s stops going = let left = rw (more_pairs, more_q, reads, stops) at going in record { leaves = left.leaves; answers = left.answers }

      pub strip_end : (to : Digit) → read_at core (q - i - 1) ≡ Ok to → to.flag ≡ true → StripGoing → Did core0 t0 (store core (q - i - 1) (with_flag to.flag from)) (Ok tt)
      unfolding strip_cycles
      strip_end to olds flagged going = let left = rw (more_pairs, more_q, reads, olds, flagged) at going in rw flagged (record { leaves = left.leaves; answers = left.answers })

      pub strip_on : (to : Digit) → read_at core (q - i - 1) ≡ Ok to → to.flag ≡ false → StripGoing →
          Rest (store core (q - i - 1) (with_flag to.flag from)) (strip_cycles (store core (q - i - 1) (with_flag to.flag from)) (pairs - i - 1) (q - i - 1)) core0 t0
      unfolding strip_cycles
      strip_on to olds plain_to going = let left = rw (more_pairs, more_q, reads, olds, plain_to) at going in rw plain_to (record { leaves = left.leaves; answers = left.answers })

    pub fill_stop : (s : Stop) → read_at core (q - i - 1) ≡ Err s → FillGoing → Did core0 t0 core (Err s)
    unfolding fill_cycles
    fill_stop s stops going = let left = rw (more_pairs, more_q, stops) at going in record { leaves = left.leaves; answers = left.answers }

    pub fill_end : (d : Digit) → read_at core (q - i - 1) ≡ Ok d → d.flag ≡ true → FillGoing → Did core0 t0 (core_with_pair core (2 * (pairs - i - 1)) NUMBER_ZONE d.value) (Ok tt)
    unfolding fill_cycles
    fill_end d reads flagged going = let left = rw (more_pairs, more_q, reads, flagged) at going in record { leaves = left.leaves; answers = left.answers }

    pub fill_on : (d : Digit) → read_at core (q - i - 1) ≡ Ok d → d.flag ≡ false → FillGoing →
        Rest (core_with_pair core (2 * (pairs - i - 1)) NUMBER_ZONE d.value) (fill_cycles (core_with_pair core (2 * (pairs - i - 1)) NUMBER_ZONE d.value) (pairs - i - 1) (q - i - 1)) core0 t0
    unfolding fill_cycles
    fill_on d reads plain_d going = let left = rw (more_pairs, more_q, reads, plain_d) at going in record { leaves = left.leaves; answers = left.answers }
