-- The first three steps of the loader's loop: a card is read into the buffer, its field moves, and its repair digit moves.
use Rattle.std.proofs.Common.{ℕ, ◌≡◌, ◌≢◌, ◌+◌, ◌-◌, ◌<◌, ◌≤◌, ◌⊎◌, inl, inr, true, false, List, [], ◌∷◌, length, map, get_or, refl, arith, ap, ◌∙◌}
use Rattle.std.proofs.lemmas.List.{get_or-set_other, get_or-set_same, length-set}
use Rattle.std.specs.Prelude.{None}
use Rattle.digit_core.specs.declared.Digit.{Digit}
use Rattle.digit_core.specs.Cell.{IsGood, cell, store, unflagged_digit}
use Rattle.branch_ops.specs.Registers.{on_at}
use Rattle.card_code.specs.Characters.{object_char}
use Rattle.card_code.specs.Entries.{Entry, Text}
use Rattle.cpu_step.specs.declared.machine.Mode.TheVariants.{Running}
use Rattle.cpu_step.specs.State.{State}
use Rattle.cpu_step.specs.Step.{check_stop}
use Rattle.field_moves.specs.Whole.{ReadsFirstDown}
use Rattle.card_columns.specs.Orders.{address, order, nth}
use Rattle.deck_punch.specs.Dense.{indirect, loader_digits}
use Rattle.card_columns.proofs.GoodDigits.{Good, good_address}
use Rattle.card_steps.proofs.HeldDigits.{Holds, part_held, rest_held, same_held, read_held, fetch_held, first_operand, operand_held}
use Rattle.loader_cards.proofs.DenseHeld.{fetch_digits, indirect_held}
use Rattle.card_steps.proofs.CardsTaken.{Row}
use Rattle.card_steps.proofs.Leading.{Leads, leads_none, leads_on}
use Rattle.card_steps.proofs.CardDigits.{laid, laid_length, laid_there, laid_elsewhere}
use Rattle.loader_cards.proofs.SegmentMoves.{Field, MovesUp, core_moved, moves}
use Rattle.card_steps.proofs.Rows.{row_TF, row_TD, row_RN}

-- a state with another core, hopper and IR
abbrev pub at_ir : State → List ℕ → List Entry → ℕ → State
at_ir s core hopper ir = record s { core = core; hopper = hopper; regs = on_at s.regs ir }

-- a card of the dense deck: where its field goes, where its repair digit goes, that digit, and the rest of the card
abbrev pub moving_card : ℕ → ℕ → Digit → List Digit → List Digit
moving_card p r x part = address p (address r (x ∷ part))

-- the entry of a card's digits
abbrev pub card_entry : List Digit → Entry
card_entry ds = Text (map object_char ds)

-- such a card, for a core of so many positions: the rest of it ends with a field fs, which goes beside the buffer's first 11 cells and
-- the loader's first three instructions
pub record IsMoving (positions p r : ℕ) (x : Digit) (part fs : List Digit) : Type 0 where
  pub whole : length part ≡ 69
  pub good : Good part
  pub digit : IsGood x
  pub to : p < positions
  pub at : r < positions
  pub some : 2 ≤ length fs
  pub most : length fs ≤ 69
  pub ends : (i : ℕ) → i < length fs → nth part (69 - length fs + i) ≡ nth fs i
  pub fine : (i : ℕ) → i < length fs → IsGood (nth fs i)
  pub low : (nth fs 0).flag ≡ true
  pub others : (i : ℕ) → 0 < i → i + 1 < length fs → (nth fs i).flag ≡ false
  pub apart : (179 ≤ p) ⊎ (p + length fs ≤ 100)
  pub clear : 35 + length fs ≤ p

-- what the three steps leave: the field at its place, the repair digit at its own, the card in the buffer, and all else as before
pub record Moves (s : State) (core : List ℕ) (e : Entry) (es : List Entry) (p r : ℕ) (x : Digit) (part fs : List Digit) : Type 0 where
  pub new : List ℕ
  pub leads : Leads 3 (at_ir s core (card_entry (moving_card p r x part) ∷ e ∷ es) 0) (at_ir s new (e ∷ es) 36)
  pub there : (a i : ℕ) → i < length fs → a + length fs ≡ p + 1 + i → a ≢ r → get_or new a 0 ≡ cell (nth fs i)
  pub repaired : get_or new r 0 ≡ cell x
  pub outside : (a : ℕ) → (a < 100) ⊎ (180 ≤ a) → (a + length fs ≤ p) ⊎ (p < a) → a ≢ r → get_or new a 0 ≡ get_or core a 0
  pub buffer : (i : ℕ) → i < 80 → (100 + i + length fs ≤ p) ⊎ (p < 100 + i) → 100 + i ≢ r → get_or new (100 + i) 0 ≡ cell (nth (moving_card p r x part) i)
  pub long : length new ≡ length core

loader_length : length loader_digits ≡ 80
unfolding loader_digits
loader_length = refl

module _ (s : State) (core : List ℕ) (e : Entry) (es : List Entry) (p r : ℕ) (x : Digit) (part fs : List Digit)
    (running : s.mode ≡ Running) (quiet : check_stop s.panel ≡ None) (small : length core < 100000) (room : 180 ≤ length core)
    (loader : Holds core 0 loader_digits) (is : IsMoving (length core) p r x part fs) where
  abbrev card : List Digit
  card = moving_card p r x part

  abbrev n : ℕ
  n = length fs

  abbrev c1 : List ℕ
  c1 = laid core 100 (moving_card p r x part)

  abbrev c2 : List ℕ
  c2 = core_moved c1 p 179

  abbrev c3 : List ℕ
  c3 = store c2 r x

  card_length : length card ≡ 80
  card_length = let k : length part ≡ 69 = is.whole in rw k

  card_good : Good card
  card_good = good_address p (address r (x ∷ part)) (good_address r (x ∷ part) (is.digit, is.good))

  l1 : length c1 ≡ length core
  l1 = laid_length card core 100

  loader1 : Holds c1 0 loader_digits
  loader1 = same_held loader c1 l1 (λ b z l. let l2 : b < 0 + 80 = rw loader_length at l in laid_elsewhere card core 100 b (inl (omega arith)))

  buffer1 : Holds c1 100 card
  buffer1 = laid_there card core 100 (rw card_length room)

  step1 : Row (at_ir s core (card_entry card ∷ e ∷ es) 0) (at_ir s c1 (e ∷ es) 12)
  unfolding loader_digits
  step1 =
      let i = part_held loader 0 12 (omega arith) in
      row_RN (at_ir s core (card_entry card ∷ e ∷ es) 0) (record { at = 0; cells = order 3 6 100 500 [] }) quiet (fetch_held core 0 3 6 100 500 i (omega arith) (omega arith) refl)
      100 (first_operand core 0 3 6 100 500 i (omega (arith, room)) (omega arith))
      refl refl refl card (e ∷ es) card_length card_good (omega (arith, room)) refl quiet

  some : 2 ≤ n
  some = is.some

  most : n ≤ 69
  most = is.most

  clear : 35 + n ≤ p
  clear = is.clear

  part_at : (i : ℕ) → i < n → get_or c1 (180 - n + i) 0 ≡ cell (nth fs i)
  part_at i l =
      let h : Holds c1 111 part = rest_held buffer1 11 (rw card_length (omega arith)) in
      let w : length part ≡ 69 = is.whole in
      let a : 111 + (69 - n + i) ≡ 180 - n + i = omega (arith, most) in
      rw a at (h.cells (69 - n + i) (omega (arith, most))) ∙ ap cell (is.ends i l)

  field : Field c1 (180 - n) n fs
  field = record {
    some = is.some;
    inside = omega (arith, most, l1, room);
    cells = part_at;
    good = is.fine;
    low = is.low;
    others = is.others;
  }

  reads_first : ReadsFirstDown p 179 n
  reads_first = elim is.apart [ inl h ↦ inl h | inr h ↦ inr (omega arith) ]

  move : MovesUp c1 p 179 (p + 1 - n) n fs
  move = moves c1 (180 - n) (p + 1 - n) n p 179 fs (omega (arith, most)) (omega (arith, clear)) reads_first (let t : p < length core = is.to in omega (arith, l1)) field

  step2 : Row (at_ir s c1 (e ∷ es) 12) (at_ir s c2 (e ∷ es) 24)
  unfolding loader_digits
  step2 =
      let i = part_held loader1 12 12 (omega arith) in
      let t : p < length core = is.to in
      row_TF (at_ir s c1 (e ∷ es) 12) (record { at = 12; cells = unflagged_digit 2 ∷ unflagged_digit 6 ∷ indirect 4 (address 179 []) }) quiet
      (fetch_digits c1 12 (unflagged_digit 2 ∷ unflagged_digit 6 ∷ indirect 4 (address 179 [])) i (refl, (refl, (refl, (refl, (refl, (refl, (refl, (good_address 179 [] tt)))))))) refl refl)
      p (indirect_held c1 14 4 p (omega arith) (part_held loader1 14 5 (omega arith)) (part_held buffer1 0 5 (rw card_length (omega arith))) (omega (arith, l1)) (omega (arith, small)))
      179 (operand_held c1 19 179 (part_held loader1 19 5 (omega arith)) (omega (arith, l1, room)) (omega arith))
      refl move.answer

  l2 : length c2 ≡ length core
  l2 = move.long ∙ l1

  -- the buffer's first 11 cells stay
  front_same : (b : ℕ) → 100 ≤ b → b < 111 → get_or c2 b 0 ≡ get_or c1 b 0
  front_same b low high = move.others b (elim is.apart [ inl h ↦ inl (omega (arith, most)) | inr h ↦ inr (omega (arith, clear)) ])

  -- and so do the loader's first three instructions
  loader_same : (b : ℕ) → b < 36 → get_or c2 b 0 ≡ get_or c1 b 0
  loader_same b l = move.others b (inl (omega (arith, clear)))

  at_110 : get_or c2 110 0 ≡ cell x
  at_110 = front_same 110 (omega arith) (omega arith) ∙ buffer1.cells 10 (rw card_length (omega arith))

  step3 : Row (at_ir s c2 (e ∷ es) 24) (at_ir s c3 (e ∷ es) 36)
  unfolding loader_digits
  step3 =
      let k = same_held (part_held loader1 24 12 (omega arith)) c2 move.long (λ b z l. loader_same b (omega arith)) in
      let h = same_held (part_held buffer1 5 5 (rw card_length (omega arith))) c2 move.long (λ b z l. front_same b (omega arith) (omega arith)) in
      let t : r < length core = is.at in
      row_TD (at_ir s c2 (e ∷ es) 24) (record { at = 24; cells = unflagged_digit 2 ∷ unflagged_digit 5 ∷ indirect 9 (address 110 []) }) quiet
      (fetch_digits c2 24 (unflagged_digit 2 ∷ unflagged_digit 5 ∷ indirect 9 (address 110 [])) k (refl, (refl, (refl, (refl, (refl, (refl, (refl, (good_address 110 [] tt)))))))) refl refl)
      r (indirect_held c2 26 9 r (omega arith) (part_held k 2 5 (omega arith)) h (omega (arith, l2)) (omega (arith, small)))
      110 (operand_held c2 31 110 (part_held k 7 5 (omega arith)) (omega (arith, l2, room)) (omega arith))
      refl x (read_held c2 110 x (omega (arith, l2, room)) at_110 is.digit)

  stored_else : (a : ℕ) → a ≢ r → get_or c3 a 0 ≡ get_or c2 a 0
  stored_else a ne = get_or-set_other c2 r a (cell x) 0 ne

  moved_else : (a : ℕ) → (a + n ≤ p) ⊎ (p < a) → get_or c2 a 0 ≡ get_or c1 a 0
  moved_else a h = move.others a (elim h [ inl l ↦ inl (omega arith) | inr l ↦ inr (omega (arith, clear)) ])

  pub three_steps : Moves s core e es p r x part fs
  three_steps = record {
    new = c3;
    leads = leads_on 2 (at_ir s core (card_entry card ∷ e ∷ es) 0) (at_ir s c1 (e ∷ es) 12) (at_ir s c3 (e ∷ es) 36) running step1
        (leads_on 1 (at_ir s c1 (e ∷ es) 12) (at_ir s c2 (e ∷ es) 24) (at_ir s c3 (e ∷ es) 36) running step2
        (leads_on 0 (at_ir s c2 (e ∷ es) 24) (at_ir s c3 (e ∷ es) 36) (at_ir s c3 (e ∷ es) 36) running step3 (leads_none (at_ir s c3 (e ∷ es) 36) running)));
    there = λ a i l sum ne. stored_else a ne ∙ (let b : p + 1 - n + i ≡ a = omega (arith, clear) in rw b at (move.there i l));
    repaired = get_or-set_same c2 r (cell x) 0 (let t : r < length core = is.at in omega (arith, l2));
    outside = λ a far free ne. stored_else a ne ∙ moved_else a free ∙ laid_elsewhere card core 100 a (elim far [ inl l ↦ inl l | inr l ↦ inr (rw card_length l) ]);
    buffer = λ i l free ne. stored_else (100 + i) ne ∙ moved_else (100 + i) free ∙ buffer1.cells i (rw card_length l);
    long = length-set c2 r (cell x) ∙ l2;
  }
