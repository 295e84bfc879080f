-- The four steps of a card.
use Rattle.std.proofs.Common.{ℕ, zero, suc, ◌≡◌, ◌≢◌, ◌+◌, ◌-◌, ◌<◌, ◌≤◌, inl, inr, Bool, true, false, List, [], ◌∷◌, length, get_or, replicate, refl, arith, length-append, sym, ap, ◌∙◌}
use Rattle.std.proofs.lemmas.List.{get_or-append-add, length-replicate, get_or-set_other, get_or-set_same, length-set}
use Rattle.std.proofs.lemmas.Bool.{cases_eq}
use Rattle.digit_core.specs.declared.Digit.{Digit}
use Rattle.digit_core.specs.Cell.{IsGood, cell, store, unflagged_digit, with_flag}
use Rattle.branch_ops.specs.Registers.{on_at}
use Rattle.card_code.specs.Entries.{Entry}
use Rattle.cpu_step.specs.declared.machine.Mode.TheVariants.{Running}
use Rattle.cpu_step.specs.State.{State}
use Rattle.sps_pass_two.specs.Image.{DigitRun}
use Rattle.card_columns.specs.Orders.{order, nth}
use Rattle.deck_punch.specs.Cards.{read_and_go, right_part, unflagging, segment_digits}
use Rattle.card_steps.proofs.HeldDigits.{Holds, part_held, rest_held, same_held, read_held, fetch_held, first_operand, second_operand}
use Rattle.card_steps.proofs.CardsTaken.{Row, row_to}
use Rattle.card_steps.proofs.Leading.{Leads, leads_on}
use Rattle.loader_cards.proofs.SegmentMoves.{Field, MovesUp, core_moved, moves_up}
use Rattle.card_steps.proofs.Rows.{row_TF, row_TD, row_CF, row_NOP}
use Rattle.loader_cards.proofs.Segments.{IsSegment, Puts}
use Rattle.card_steps.proofs.NextCard.{next_state, Ready, read_and_jump}

-- the right part has 32 digits
pub right_length : (ds : List Digit) → length ds ≤ 32 → length (right_part ds) ≡ 32
right_length ds h = let a = length-append (replicate (32 - length ds) (unflagged_digit 0)) ds in let b = length-replicate (32 - length ds) (unflagged_digit 0) in omega arith

-- the digits of the right part, as they stand in core
right_cells : (core : List ℕ) (ds : List Digit) → length ds ≤ 32 → Holds core 48 (right_part ds) → (i : ℕ) → i < length ds → get_or core (80 - length ds + i) 0 ≡ cell (nth ds i)
right_cells core ds le h i l =
    let pad : List Digit = replicate (32 - length ds) (unflagged_digit 0) in
    let n : length pad ≡ 32 - length ds = length-replicate (32 - length ds) (unflagged_digit 0) in
    let all = right_length ds le in
    let e : 48 + (length pad + i) ≡ 80 - length ds + i = omega arith in
    rw (e, get_or-append-add pad ds i (unflagged_digit 0)) at (h.cells (length pad + i) (omega arith))

-- a segment stands in core, the next card in 00000 to 00079, and the machine is at 00000 again
pub record CardLoads (s : State) (g : DigitRun) (next : List Digit) (rest : List Entry) : Type 0 where
  pub core : List ℕ
  pub puts : Puts s.core core g.from g.digits
  pub leads : Leads 4 s (next_state s core next rest)

-- two steps that put the segment, and then the reading and the jump
then_read : (s s1 : State) (core : List ℕ) (g : DigitRun) (next : List Digit) (rest : List Entry) → s.regs.ir ≡ 0 → s1.mode ≡ Running → Ready s next rest → Puts s.core core g.from g.digits →
    Row s s1 → Row s1 (record s { core = core; regs = on_at s.regs 24 }) → Holds core 24 (order 3 6 0 500 []) → CardLoads s g next rest
then_read s s1 core g next rest at running r p one two i =
    let long : length core ≡ length s.core = p.long in
    let small : length s.core < 100000 = r.small in
    let room : 80 ≤ length s.core = r.room in
    let s2 : State = record s { core = core; regs = on_at s.regs 24 } in
    let r2 : Ready s2 next rest = record { running = r.running; quiet = r.quiet; small = omega arith; room = omega arith; hopper = r.hopper; card = r.card } in
    let last = read_and_jump s2 next rest refl r2 i in
    record {
      core = core;
      puts = p;
      leads = leads_on 3 s s1 (next_state s core next rest) r.running one (leads_on 2 s1 s2 (next_state s core next rest) running two last);
    }

-- the card of one digit
digit_loads : (s : State) (low : ℕ) (d : Digit) (next : List Digit) (rest : List Entry) → s.regs.ir ≡ 0 → Ready s next rest → IsSegment (length s.core) (record { from = low; digits = d ∷ [] }) →
    Holds s.core 0 (segment_digits low (d ∷ [])) → CardLoads s (record { from = low; digits = d ∷ [] }) next rest
unfolding segment_digits
digit_loads s low d next rest at r seg h =
    let small : length s.core < 100000 = r.small in
    let room : 80 ≤ length s.core = r.room in
    let above : 100 ≤ low = seg.low in
    let high : low + 1 ≤ length s.core = seg.high in
    let i0 = part_held h 0 12 (omega arith) in
    let e79 : get_or s.core 79 0 ≡ cell d = h.cells 79 (omega arith) in
    let l1 : length (store s.core low d) ≡ length s.core = length-set s.core low (cell d) in
    let good : IsGood d = seg.good 0 (omega arith) in
    let s1 : State = record s { core = store s.core low d; regs = on_at s.regs 12 } in
    let step1 : Row s s1 =
    row_to s (record s { core = store s.core low d; regs = on_at s.regs (s.regs.ir + 12) }) s1 (row_TD s (record { at = 0; cells = order 2 5 low 79 [] }) r.quiet (rw at (fetch_held s.core 0 2 5 low 79 i0 (omega arith) (omega arith) refl))
    low (rw at (first_operand s.core 0 2 5 low 79 i0 (omega arith) (omega arith)))
    79 (rw at (second_operand s.core 0 2 5 low 79 i0 (omega arith) (omega arith)))
    refl d (read_held s.core 79 d (omega arith) e79 good))
    (ap (λ (x : ℕ). record s { core = store s.core low d; regs = on_at s.regs (x + 12) }) at) in
    let other : (b : ℕ) → b ≢ low → get_or (store s.core low d) b 0 ≡ get_or s.core b 0 = λ b ne. get_or-set_other s.core low b (cell d) 0 ne in
    let k : Holds (store s.core low d) 0 (segment_digits low (d ∷ [])) = same_held h (store s.core low d) l1 (λ b p l. other b (omega arith)) in
    let i1 = part_held k 12 12 (omega arith) in
    let step2 : Row s1 (record s { core = store s.core low d; regs = on_at s.regs 24 }) =
    row_NOP s1 (record { at = 12; cells = order 4 1 0 0 [] }) r.quiet (fetch_held (store s.core low d) 12 4 1 0 0 i1 (omega arith) (omega arith) refl) refl in
    then_read s s1 (store s.core low d) (record { from = low; digits = d ∷ [] }) next rest at r.running r
    (record {
      there = λ i l.
          let z : i ≡ 0 = omega arith in
          let a : low + 0 ≡ low = omega arith in
          rw (z, a) (get_or-set_same s.core low (cell d) 0 (omega arith));
      others = λ a o. other a (elim o as (λ _. a ≢ low) [ inl l ↦ omega arith | inr l ↦ omega arith ]);
      long = l1;
    }) step1 step2 (part_held k 24 12 (omega arith))

-- the card of two digits or more
module _ (s : State) (low : ℕ) (d e : Digit) (ds : List Digit) (next : List Digit) (rest : List Entry) (at : s.regs.ir ≡ 0) (r : Ready s next rest)
    (seg : IsSegment (length s.core) (record { from = low; digits = d ∷ e ∷ ds })) where
  abbrev n : ℕ
  n = suc (suc (length ds))

  abbrev high : ℕ
  high = low + suc (length ds)

  abbrev top : Digit
  top = with_flag true d

  abbrev fs : List Digit
  fs = top ∷ e ∷ ds

  abbrev the_segment : DigitRun
  the_segment = record { from = low; digits = d ∷ e ∷ ds }

  abbrev card : ℕ → ℕ → ℕ → List Digit
  card o0 o1 p = order 2 6 high 79 (order o0 o1 p 0 (read_and_go (right_part fs)))

  abbrev c1 : List ℕ
  c1 = core_moved s.core high 79

  abbrev s1 : State
  s1 = record s { core = c1; regs = on_at s.regs 12 }

  above : 100 ≤ low
  above = seg.low

  fits : low + n ≤ length s.core
  fits = seg.high

  few : n ≤ 32
  few = seg.most

  small : length s.core < 100000
  small = r.small

  good_at : (i : ℕ) → i < n → IsGood (nth fs i)
  good_at zero l = seg.good 0 (omega arith)
  good_at (suc i) l = seg.good (suc i) l

  plain_at : (i : ℕ) → 0 < i → i + 1 < n → (nth fs i).flag ≡ false
  plain_at zero p l = absurd (omega arith)
  plain_at (suc i) p l = seg.inside (suc i) (omega arith) l

  -- above the lowest digit the card has the segment's own
  above_first : (i : ℕ) → 0 < i → cell (nth fs i) ≡ cell (nth (d ∷ e ∷ ds) i)
  above_first zero p = absurd (omega arith)
  above_first (suc i) p = refl

  card_length : (o0 o1 p : ℕ) → length (card o0 o1 p) ≡ 80
  card_length o0 o1 p = let k : length (right_part fs) ≡ 32 = right_length fs few in rw k

  module _ (o0 o1 p : ℕ) (h : Holds s.core 0 (card o0 o1 p)) where
    right : Holds s.core 48 (right_part fs)
    right = rest_held h 48 (rw card_length (omega arith))

    field : Field s.core (80 - n) n fs
    field = record {
      some = omega arith;
      inside = let room : 80 ≤ length s.core = r.room in omega (arith, few);
      cells = λ i l. right_cells s.core fs few right i l;
      good = good_at;
      low = refl;
      others = plain_at;
    }

    move : MovesUp s.core high 79 low n fs
    move = moves_up s.core (80 - n) low n high 79 fs (omega (arith, few)) (omega arith) (omega (arith, above)) (omega (arith, fits)) field

    step1 : Row s s1
    step1 =
        let i = part_held h 0 12 (omega arith) in
        let room : 80 ≤ length s.core = r.room in
        row_to s (record s { core = c1; regs = on_at s.regs (s.regs.ir + 12) }) s1 (row_TF s (record { at = 0; cells = order 2 6 high 79 [] }) r.quiet (rw at (fetch_held s.core 0 2 6 high 79 i (omega arith) (omega arith) refl))
        high (rw at (first_operand s.core 0 2 6 high 79 i (omega (arith, fits)) (omega (arith, fits, small))))
        79 (rw at (second_operand s.core 0 2 6 high 79 i (omega arith) (omega arith)))
        refl move.answer)
        (ap (λ (x : ℕ). record s { core = c1; regs = on_at s.regs (x + 12) }) at)

    kept : Holds c1 0 (card o0 o1 p)
    kept = same_held h c1 move.long (λ b z l. move.others b (inl (let l2 : b < 0 + 80 = rw card_length at l in omega (arith, above))))

  -- with the second instruction 41, where the lowest digit has a flag
  flagged_card : d.flag ≡ true → Holds s.core 0 (card 4 1 0) → CardLoads s the_segment next rest
  flagged_card on h =
      let m = move 4 1 0 h in
      let k = kept 4 1 0 h in
      let long = card_length 4 1 0 in
      let l1 : length c1 ≡ length s.core = m.long in
      let room : 80 ≤ length s.core = r.room in
      let i = part_held k 12 12 (omega arith) in
      let step2 : Row s1 (record s { core = c1; regs = on_at s.regs 24 }) =
      row_NOP s1 (record { at = 12; cells = order 4 1 0 0 [] }) r.quiet (fetch_held c1 12 4 1 0 0 i (omega arith) (omega arith) refl) refl in
      let same : top ≡ d = λ i. record { flag = sym on i; value = d.value } in
      then_read s s1 c1 the_segment next rest at r.running r
      (record { there = λ i l. m.there i l ∙ ap (λ (x : Digit). cell (nth (x ∷ e ∷ ds) i)) same; others = m.others; long = m.long })
      (step1 4 1 0 h) step2 (part_held k 24 12 (omega arith))

  -- with the second instruction 33, where it has none
  plain_card : d.flag ≡ false → Holds s.core 0 (card 3 3 low) → CardLoads s the_segment next rest
  plain_card off h =
      let m = move 3 3 low h in
      let k = kept 3 3 low h in
      let long = card_length 3 3 low in
      let l1 : length c1 ≡ length s.core = m.long in
      let room : 80 ≤ length s.core = r.room in
      let i = part_held k 12 12 (omega arith) in
      let z : low + 0 ≡ low = omega arith in
      let low_is : get_or c1 low 0 ≡ cell top = rw z at (m.there 0 (omega arith)) in
      let same : with_flag false top ≡ d = λ i. record { flag = sym off i; value = d.value } in
      let c2 : List ℕ = store c1 low d in
      let step2 : Row s1 (record s { core = store c1 low d; regs = on_at s.regs 24 }) =
      row_to s1 (record s { core = store c1 low (with_flag false top); regs = on_at s.regs 24 }) (record s { core = store c1 low d; regs = on_at s.regs 24 }) (row_CF s1 (record { at = 12; cells = order 3 3 low 0 [] }) r.quiet (fetch_held c1 12 3 3 low 0 i (omega arith) (omega arith) refl)
      low (first_operand c1 12 3 3 low 0 i (omega (arith, fits)) (omega (arith, fits, small)))
      refl top (read_held c1 low top (omega (arith, fits)) low_is (good_at 0 (omega arith))))
      (ap (λ (x : Digit). record s { core = store c1 low x; regs = on_at s.regs 24 }) same) in
      let l2 : length (store c1 low d) ≡ length c1 = length-set c1 low (cell d) in
      let other : (b : ℕ) → b ≢ low → get_or (store c1 low d) b 0 ≡ get_or c1 b 0 = λ b ne. get_or-set_other c1 low b (cell d) 0 ne in
      let k2 : Holds (store c1 low d) 0 (card 3 3 low) = same_held k (store c1 low d) l2 (λ b p l. other b (let l3 : b < 0 + 80 = rw card_length at l in omega (arith, above))) in
      then_read s s1 (store c1 low d) the_segment next rest at r.running r
      (record {
        there = λ i l. elim (cases_eq i 0) [
          | inl e0 ↦ rw (e0, z) (get_or-set_same c1 low (cell d) 0 (omega (arith, fits)))
          | inr ne ↦ other (low + i) (omega arith) ∙ m.there i l ∙ above_first i (omega arith)
        ];
        others = λ a o. other a (elim o as (λ _. a ≢ low) [ inl l ↦ omega arith | inr l ↦ omega arith ]) ∙ m.others a o;
        long = l2 ∙ l1;
      })
      (step1 3 3 low h) step2 (part_held k2 24 12 (omega arith))

  by_flag : (b : Bool) → d.flag ≡ b → Holds s.core 0 (order 2 6 high 79 (unflagging b low (read_and_go (right_part fs)))) → CardLoads s the_segment next rest
  by_flag true is h = flagged_card is h
  by_flag false is h = plain_card is h

  many_load : Holds s.core 0 (segment_digits low (d ∷ e ∷ ds)) → CardLoads s the_segment next rest
  unfolding segment_digits
  many_load h = by_flag d.flag refl h

by_digits : (s : State) (low : ℕ) (ds : List Digit) (next : List Digit) (rest : List Entry) → s.regs.ir ≡ 0 → Ready s next rest → IsSegment (length s.core) (record { from = low; digits = ds }) →
    Holds s.core 0 (segment_digits low ds) → CardLoads s (record { from = low; digits = ds }) next rest
by_digits s low [] next rest at r seg h = let some : 1 ≤ 0 = seg.some in absurd (omega arith)
by_digits s low (d ∷ []) next rest at r seg h = digit_loads s low d next rest at r seg h
by_digits s low (d ∷ e ∷ ds) next rest at r seg h = many_load s low d e ds next rest at r seg h

-- the card of a segment in 00000 to 00079: four steps, and the segment stands in core
pub card_loads : (s : State) (g : DigitRun) (next : List Digit) (rest : List Entry) → s.regs.ir ≡ 0 → Ready s next rest → IsSegment (length s.core) g → Holds s.core 0 (segment_digits g.from g.digits) → CardLoads s g next rest
card_loads s g next rest at r seg h = by_digits s g.from g.digits next rest at r seg h
