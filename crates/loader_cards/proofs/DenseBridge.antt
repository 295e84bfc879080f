-- The bridge card: it turns the loop's jump into the buffer, where a self-loading card is read and entered.
use Rattle.std.proofs.Common.{take, drop, ℕ, zero, suc, ◌≡◌, ◌≢◌, ◌+◌, ◌<◌, ◌≤◌, ◌⊎◌, inl, inr, true, false, List, [], ◌∷◌, ◌++◌, length, replicate, get_or, refl, arith, ◌∙◌, length-take, length-drop}
use Rattle.std.proofs.lemmas.List.{get_or-append-add, get_or-take, get_or-drop}
use Rattle.std.specs.Prelude.{None}
use Rattle.digit_core.specs.declared.Digit.{Digit}
use Rattle.digit_core.specs.Cell.{IsGood, cell, unflagged_digit, with_flag}
use Rattle.branch_ops.specs.Registers.{on_at}
use Rattle.card_code.specs.Entries.{Entry, has_none_left}
use Rattle.card_unit.specs.CardCalls.{panel_after_card}
use Rattle.cpu_step.specs.declared.machine.Mode.TheVariants.{Running}
use Rattle.cpu_step.specs.State.{State}
use Rattle.cpu_step.specs.Step.{check_stop}
use Rattle.card_columns.specs.Orders.{address, order, nth}
use Rattle.deck_punch.specs.Dense.{loader_digits, bridge_digits}
use Rattle.card_columns.proofs.GoodDigits.{Good, IsCard, good_by, good_zeros, good_order}
use Rattle.card_steps.proofs.HeldDigits.{Holds, part_held, same_held, cons_held, fetch_held, first_operand}
use Rattle.card_steps.proofs.CardsTaken.{Row}
use Rattle.card_steps.proofs.Leading.{Leads, leads_none, leads_on, leads_then}
use Rattle.card_steps.proofs.CardDigits.{laid, laid_length, laid_elsewhere}
use Rattle.card_steps.proofs.Rows.{row_RN, row_B}
use Rattle.card_steps.proofs.Lamps.{still_quiet}
use Rattle.card_steps.proofs.NextCard.{next_state}
use Rattle.loader_cards.proofs.DenseHeld.{fetch_digits, flagged_112_held}
use Rattle.loader_cards.proofs.DenseSteps.{at_ir, moving_card, card_entry, IsMoving, Moves, three_steps}

-- the address that the bridge card's field is
abbrev into_buffer : List Digit
into_buffer = with_flag true (unflagged_digit 0) ∷ unflagged_digit 0 ∷ unflagged_digit 1 ∷ unflagged_digit 1 ∷ unflagged_digit 2 ∷ []

-- what stands before it behind the card's first 11 columns
abbrev before_field : List Digit
before_field = unflagged_digit 0 ∷ order 3 6 0 500 (order 4 9 0 0 (replicate 39 (unflagged_digit 0)))

abbrev bridge_part : List Digit
bridge_part = before_field ++ into_buffer

into_good : (i : ℕ) → i < 5 → IsGood (nth into_buffer i)
into_good zero l = refl
into_good (suc zero) l = refl
into_good (suc (suc zero)) l = refl
into_good (suc (suc (suc zero))) l = refl
into_good (suc (suc (suc (suc zero)))) l = refl
into_good (suc (suc (suc (suc (suc i))))) l = absurd (omega arith)

into_plain : (i : ℕ) → 0 < i → i + 1 < 5 → (nth into_buffer i).flag ≡ false
into_plain zero z l = absurd (omega arith)
into_plain (suc zero) z l = refl
into_plain (suc (suc zero)) z l = refl
into_plain (suc (suc (suc zero))) z l = refl
into_plain (suc (suc (suc (suc i)))) z l = absurd (omega arith)

bridge_good : Good bridge_part
bridge_good = (
  refl,
  good_order 3 6 0 500 (order 4 9 0 0 (replicate 39 (unflagged_digit 0) ++ into_buffer)) (omega arith) (omega arith)
      (good_order 4 9 0 0 (replicate 39 (unflagged_digit 0) ++ into_buffer) (omega arith) (omega arith) (good_zeros 39 into_buffer (good_by into_buffer into_good))),
)

bridge_moving : (n : ℕ) → 180 ≤ n → IsMoving n 42 110 (unflagged_digit 0) bridge_part into_buffer
bridge_moving n room = record {
  whole = refl;
  good = bridge_good;
  digit = refl;
  to = omega arith;
  at = omega arith;
  some = omega arith;
  most = omega arith;
  ends = λ i l. get_or-append-add before_field into_buffer i (unflagged_digit 0);
  fine = into_good;
  low = refl;
  others = into_plain;
  apart = inr (omega arith);
  clear = omega arith;
}

-- the bridge card and the two steps in the buffer: the next card stands in 00000 to 00079, and all else but the buffer is as before
pub record BridgeLoads (s : State) (core : List ℕ) (next : List Digit) (rest : List Entry) : Type 0 where
  pub new : List ℕ
  pub leads : Leads 6 (at_ir s core (card_entry bridge_digits ∷ card_entry next ∷ rest) 0) (next_state s new next rest)
  pub others : (a : ℕ) → 80 ≤ a → (a < 100) ⊎ (180 ≤ a) → get_or new a 0 ≡ get_or core a 0
  pub long : length new ≡ length core

-- a part of what stands in core, by its cells
held_part : (core : List ℕ) (a : ℕ) (ds : List Digit) (k n : ℕ) → k + n ≤ length ds → a + k + n ≤ length core →
    ((i : ℕ) → i < n → get_or core (a + (k + i)) 0 ≡ cell (nth ds (k + i))) → Holds core (a + k) (take n (drop k ds))
held_part core a ds k n le fits same =
    let l : length (take n (drop k ds)) ≡ n = simp (length-take, length-drop) (omega arith) in
    record {
      inside = rw l fits;
      cells = λ i lt.
          let lt2 : i < n = rw l at lt in
          let e : a + k + i ≡ a + (k + i) = omega arith in
          rw (get_or-take, get_or-drop, e) (same i lt2);
    }

-- the turned jump
abbrev turned : List Digit
turned = unflagged_digit 4 ∷ unflagged_digit 9 ∷ into_buffer ++ address 0 []

module _ (s : State) (core : List ℕ) (next : List Digit) (rest : List Entry) (running : s.mode ≡ Running) (quiet : check_stop s.panel ≡ None) (small : length core < 100000) (room : 180 ≤ length core)
    (loader : Holds core 0 loader_digits) (card : IsCard next) where
  m : Moves s core (card_entry next) rest 42 110 (unflagged_digit 0) bridge_part into_buffer
  m = three_steps s core (card_entry next) rest 42 110 (unflagged_digit 0) bridge_part into_buffer running quiet small room loader (bridge_moving (length core) room)

  long : length m.new ≡ length core
  long = m.long

  whole : length next ≡ 80
  whole = card.whole

  -- the loader's cells about the address
  kept : (a : ℕ) → a < 80 → (a + 5 ≤ 42) ⊎ (42 < a) → get_or m.new a 0 ≡ cell (nth loader_digits a)
  unfolding loader_digits
  kept a l free =
      let z : 0 + a ≡ a = omega arith in
      m.outside a (inl (omega arith)) free (omega arith) ∙ rw z at (loader.cells a l)

  moved : (a i : ℕ) → i < 5 → a + 5 ≡ 43 + i → get_or m.new a 0 ≡ cell (nth into_buffer i)
  moved a i l sum = m.there a i l sum (omega arith)

  jump : Holds m.new 36 turned
  unfolding loader_digits
  jump =
      cons_held m.new 36 (unflagged_digit 4) (unflagged_digit 9 ∷ into_buffer ++ address 0 []) (kept 36 (omega arith) (inl (omega arith)))
      (cons_held m.new 37 (unflagged_digit 9) (into_buffer ++ address 0 []) (kept 37 (omega arith) (inl (omega arith)))
      (cons_held m.new 38 (with_flag true (unflagged_digit 0)) (unflagged_digit 0 ∷ unflagged_digit 1 ∷ unflagged_digit 1 ∷ unflagged_digit 2 ∷ address 0 []) (moved 38 0 (omega arith) (omega arith))
      (cons_held m.new 39 (unflagged_digit 0) (unflagged_digit 1 ∷ unflagged_digit 1 ∷ unflagged_digit 2 ∷ address 0 []) (moved 39 1 (omega arith) (omega arith))
      (cons_held m.new 40 (unflagged_digit 1) (unflagged_digit 1 ∷ unflagged_digit 2 ∷ address 0 []) (moved 40 2 (omega arith) (omega arith))
      (cons_held m.new 41 (unflagged_digit 1) (unflagged_digit 2 ∷ address 0 []) (moved 41 3 (omega arith) (omega arith))
      (cons_held m.new 42 (unflagged_digit 2) (address 0 []) (moved 42 4 (omega arith) (omega arith))
      (cons_held m.new 43 (unflagged_digit 0) (unflagged_digit 0 ∷ unflagged_digit 0 ∷ unflagged_digit 0 ∷ unflagged_digit 0 ∷ []) (kept 43 (omega arith) (inr (omega arith)))
      (cons_held m.new 44 (unflagged_digit 0) (unflagged_digit 0 ∷ unflagged_digit 0 ∷ unflagged_digit 0 ∷ []) (kept 44 (omega arith) (inr (omega arith)))
      (cons_held m.new 45 (unflagged_digit 0) (unflagged_digit 0 ∷ unflagged_digit 0 ∷ []) (kept 45 (omega arith) (inr (omega arith)))
      (cons_held m.new 46 (unflagged_digit 0) (unflagged_digit 0 ∷ []) (kept 46 (omega arith) (inr (omega arith)))
      (cons_held m.new 47 (unflagged_digit 0) [] (kept 47 (omega arith) (inr (omega arith)))
      (record { inside = omega (arith, long, room); cells = λ i l. absurd (omega arith) }))))))))))))

  step4 : Row (at_ir s m.new (card_entry next ∷ rest) 36) (at_ir s m.new (card_entry next ∷ rest) 112)
  step4 =
      row_B (at_ir s m.new (card_entry next ∷ rest) 36) (record { at = 36; cells = turned }) quiet
      (fetch_digits m.new 36 turned jump (refl, (refl, (refl, (refl, (refl, (refl, (refl, (refl, (refl, (refl, (refl, (refl, tt)))))))))))) refl refl)
      112 (flagged_112_held m.new 38 (part_held jump 2 5 (omega arith)) (omega (arith, long, room))) refl

  -- the two instructions in the buffer
  buffer : Holds m.new 112 (order 3 6 0 500 (order 4 9 0 0 []))
  buffer =
      held_part m.new 100 (moving_card 42 110 (unflagged_digit 0) bridge_part) 12 24 (omega arith) (omega (arith, long, room))
      (λ i l. m.buffer (12 + i) (omega arith) (inr (omega arith)) (omega arith))

  abbrev c5 : List ℕ
  c5 = laid m.new 0 next

  l5 : length c5 ≡ length core
  l5 = laid_length next m.new 0 ∙ long

  -- the state behind the reading
  abbrev read_state : State
  read_state = record s { core = c5; hopper = rest; panel = panel_after_card (has_none_left rest) s.panel; regs = on_at s.regs 124 }

  quiet5 : check_stop (panel_after_card (has_none_left rest) s.panel) ≡ None
  quiet5 = still_quiet s (has_none_left rest) quiet

  step5 : Row (at_ir s m.new (card_entry next ∷ rest) 112) read_state
  step5 =
      let i = part_held buffer 0 12 (omega arith) in
      row_RN (at_ir s m.new (card_entry next ∷ rest) 112) (record { at = 112; cells = order 3 6 0 500 [] }) quiet (fetch_held m.new 112 3 6 0 500 i (omega arith) (omega arith) refl)
      0 (first_operand m.new 112 3 6 0 500 i (omega (arith, long, room)) (omega arith))
      refl refl refl next rest card.whole card.good (omega (arith, long, room)) refl quiet5

  step6 : Row read_state (next_state s m.new next rest)
  step6 =
      let i = same_held (part_held buffer 12 12 (omega arith)) c5 (laid_length next m.new 0) (λ b z l. laid_elsewhere next m.new 0 b (inr (omega (arith, whole)))) in
      row_B read_state (record { at = 124; cells = order 4 9 0 0 [] }) quiet5 (fetch_held c5 124 4 9 0 0 i (omega arith) (omega arith) refl)
      0 (first_operand c5 124 4 9 0 0 i (omega (arith, l5, room)) (omega arith)) refl

  pub bridge_loads : BridgeLoads s core next rest
  unfolding bridge_digits
  bridge_loads = record {
    new = m.new;
    leads = leads_then 3 3 (at_ir s core (card_entry bridge_digits ∷ card_entry next ∷ rest) 0) (at_ir s m.new (card_entry next ∷ rest) 36) (next_state s m.new next rest) m.leads
        (leads_on 2 (at_ir s m.new (card_entry next ∷ rest) 36) (at_ir s m.new (card_entry next ∷ rest) 112) (next_state s m.new next rest) running step4
        (leads_on 1 (at_ir s m.new (card_entry next ∷ rest) 112) read_state (next_state s m.new next rest) running step5
        (leads_on 0 read_state (next_state s m.new next rest) (next_state s m.new next rest) running step6 (leads_none (next_state s m.new next rest) running))));
    others = λ a low far.
        m.outside a far (inr (omega arith)) (elim far as (λ _. a ≢ 110) [ inl l ↦ omega arith | inr l ↦ omega arith ]);
    long = m.long;
  }
