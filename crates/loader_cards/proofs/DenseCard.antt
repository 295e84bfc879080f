-- The four steps of a dense card.
use Rattle.std.proofs.Common.{ℕ, zero, suc, ◌≡◌, ◌≢◌, ◌+◌, ◌-◌, ◌<◌, ◌≤◌, ◌⊎◌, inl, inr, true, false, List, [], ◌∷◌, length, replicate, get_or, refl, arith, sym, ap, ◌∙◌, length-append}
use Rattle.std.proofs.lemmas.List.{get_or-append-add, length-replicate}
use Rattle.std.proofs.lemmas.Bool.{cases_eq}
use Rattle.std.specs.Prelude.{None}
use Rattle.digit_core.specs.declared.Digit.{Digit}
use Rattle.digit_core.specs.Cell.{IsGood, cell, unflagged_digit, with_flag}
use Rattle.card_code.specs.Entries.{Entry}
use Rattle.cpu_step.specs.declared.machine.Mode.TheVariants.{Running}
use Rattle.cpu_step.specs.State.{State}
use Rattle.cpu_step.specs.Step.{check_stop}
use Rattle.card_columns.specs.Orders.{order, nth}
use Rattle.deck_punch.specs.Dense.{Repair, repair_of, dense_part, dense_digits, loader_digits}
use Rattle.card_steps.proofs.HeldDigits.{Holds, part_held, same_held, fetch_held, first_operand}
use Rattle.card_steps.proofs.CardsTaken.{Row}
use Rattle.card_steps.proofs.Leading.{Leads, leads_none, leads_on, leads_then}
use Rattle.card_steps.proofs.Rows.{row_B}
use Rattle.card_columns.proofs.GoodDigits.{good_by, good_zeros}
use Rattle.loader_cards.proofs.DenseParts.{IsDense, IsSegmentAt}
use Rattle.loader_cards.proofs.DenseRepair.{Repairs, repairs}
use Rattle.loader_cards.proofs.DenseSteps.{at_ir, moving_card, card_entry, IsMoving, Moves, three_steps}

-- the part of a card behind its first 11 columns
pub part_length : (ds : List Digit) → length ds ≤ 69 → length (dense_part ds) ≡ 69
part_length ds h = let a = length-append (replicate (69 - length ds) (unflagged_digit 0)) ds in let b = length-replicate (69 - length ds) (unflagged_digit 0) in omega arith

part_ends : (ds : List Digit) (i : ℕ) → nth (dense_part ds) (69 - length ds + i) ≡ nth ds i
part_ends ds i =
    let n = length-replicate (69 - length ds) (unflagged_digit 0) in
    ap (λ (k : ℕ). nth (dense_part ds) (k + i)) (sym n) ∙ get_or-append-add (replicate (69 - length ds) (unflagged_digit 0)) ds i (unflagged_digit 0)

-- the whole loop, where the field goes above the buffer and the digit does not go below it
module _ (s : State) (core : List ℕ) (e : Entry) (es : List Entry) (p r : ℕ) (x : Digit) (part fs : List Digit)
    (running : s.mode ≡ Running) (quiet : check_stop s.panel ≡ None) (small : length core < 100000) (room : 180 ≤ length core)
    (loader : Holds core 0 loader_digits) (is : IsMoving (length core) p r x part fs) (up : 179 ≤ p) (far : 100 ≤ r) where
  m : Moves s core e es p r x part fs
  m = three_steps s core e es p r x part fs running quiet small room loader is

  below_same : (a : ℕ) → a < 100 → get_or m.new a 0 ≡ get_or core a 0
  below_same a l = m.outside a (inl l) (inl (let most : length fs ≤ 69 = is.most in omega (arith, up))) (omega (arith, far))

  step4 : Row (at_ir s m.new (e ∷ es) 36) (at_ir s m.new (e ∷ es) 0)
  unfolding loader_digits
  step4 =
      let long : length m.new ≡ length core = m.long in
      let i = same_held (part_held loader 36 12 (omega arith)) m.new m.long (λ b z l. below_same b (omega arith)) in
      row_B (at_ir s m.new (e ∷ es) 36) (record { at = 36; cells = order 4 9 0 0 [] }) quiet (fetch_held m.new 36 4 9 0 0 i (omega arith) (omega arith) refl)
      0 (first_operand m.new 36 4 9 0 0 i (omega (arith, room)) (omega arith)) refl

  four_steps : Leads 4 (at_ir s core (card_entry (moving_card p r x part) ∷ e ∷ es) 0) (at_ir s m.new (e ∷ es) 0)
  four_steps = leads_then 3 1 (at_ir s core (card_entry (moving_card p r x part) ∷ e ∷ es) 0) (at_ir s m.new (e ∷ es) 36) (at_ir s m.new (e ∷ es) 0) m.leads
      (leads_on 0 (at_ir s m.new (e ∷ es) 36) (at_ir s m.new (e ∷ es) 0) (at_ir s m.new (e ∷ es) 0) running step4 (leads_none (at_ir s m.new (e ∷ es) 0) running))

-- a card of the dense deck puts its digits in their place in four steps, and leaves all else but the buffer
pub record SegmentLoads (s : State) (core : List ℕ) (e : Entry) (es : List Entry) (low : ℕ) (ds : List Digit) : Type 0 where
  pub new : List ℕ
  pub leads : Leads 4 (at_ir s core (card_entry (dense_digits low ds) ∷ e ∷ es) 0) (at_ir s new (e ∷ es) 0)
  pub there : (i : ℕ) → i < length ds → get_or new (low + i) 0 ≡ cell (nth ds i)
  pub others : (a : ℕ) → (a < 100) ⊎ (180 ≤ a) → (a < low) ⊎ (low + length ds ≤ a) → get_or new a 0 ≡ get_or core a 0
  pub long : length new ≡ length core

module _ (s : State) (core : List ℕ) (e : Entry) (es : List Entry) (low : ℕ) (d : Digit)
    (running : s.mode ≡ Running) (quiet : check_stop s.panel ≡ None) (small : length core < 100000) (room : 180 ≤ length core) (loader : Holds core 0 loader_digits) where
  -- the field of two zeros
  abbrev zeros : List Digit
  zeros = with_flag true (unflagged_digit 0) ∷ unflagged_digit 0 ∷ []

  zeros_good : (i : ℕ) → i < 2 → IsGood (nth zeros i)
  zeros_good zero l = refl
  zeros_good (suc zero) l = refl
  zeros_good (suc (suc i)) l = absurd (omega arith)

  one_moving : IsDense (length core) low d [] → IsMoving (length core) 179 low d (dense_part zeros) zeros
  one_moving is =
      let high : low + 1 ≤ length core = is.high in
      record {
        whole = part_length zeros (omega arith);
        good = good_zeros 67 zeros (good_by zeros zeros_good);
        digit = is.first;
        to = omega (arith, room);
        at = omega arith;
        some = omega arith;
        most = omega arith;
        ends = λ i l. part_ends zeros i;
        fine = zeros_good;
        low = refl;
        others = λ i z l. absurd (omega arith);
        apart = inl (omega arith);
        clear = omega arith;
      }

  one_loads : IsDense (length core) low d [] → SegmentLoads s core e es low (d ∷ [])
  unfolding dense_digits
  one_loads is =
      let above : 400 ≤ low = is.low in
      let c = one_moving is in
      let k = m s core e es 179 low d (dense_part zeros) zeros running quiet small room loader c (omega arith) (omega arith) in
      record {
        new = k.new;
        leads = four_steps s core e es 179 low d (dense_part zeros) zeros running quiet small room loader c (omega arith) (omega arith);
        there = λ i l.
            let z : i ≡ 0 = omega arith in
            let a : low + 0 ≡ low = omega arith in
            rw (z, a) k.repaired;
        others = λ a far free.
            k.outside a far (elim far [ inl l ↦ inl (omega arith) | inr l ↦ inr (omega arith) ])
            (elim free as (λ _. a ≢ low) [ inl l ↦ omega arith | inr l ↦ omega arith ]);
        long = k.long;
      }

  -- two digits or more
  module _ (f : Digit) (ds : List Digit) (is : IsDense (length core) low d (f ∷ ds)) where
    abbrev fix : Repair
    fix = repair_of low d (f ∷ ds)

    abbrev fs : List Digit
    fs = with_flag true d ∷ fix.punched

    abbrev high : ℕ
    high = low + suc (length ds)

    rep : Repairs low d (f ∷ ds) fix
    rep = repairs low d (f ∷ ds) is.low is.flags is.first is.good

    above : 400 ≤ low
    above = is.low

    fits : low + suc (suc (length ds)) ≤ length core
    fits = is.high

    few : suc (length ds) ≤ 68
    few = is.flags.most

    long : length fs ≡ suc (suc (length ds))
    long = ap suc rep.long

    fs_good : (i : ℕ) → i < length fs → IsGood (nth fs i)
    fs_good zero l = is.first
    fs_good (suc i) l = rep.good i (omega (arith, long))

    fs_others : (i : ℕ) → 0 < i → i + 1 < length fs → (nth fs i).flag ≡ false
    fs_others zero z l = absurd (omega arith)
    fs_others (suc i) z l = rep.inner i (omega (arith, long))

    -- the repair digit's place
    at_high : fix.at < length core
    at_high = elim rep.place as (λ _. fix.at < length core) [
      | inl h ↦ let a : fix.at ≡ 110 = h.0 in omega (arith, room)
      | inr h ↦ let a : fix.at < low + suc (suc (length ds)) = h.1 in omega (arith, fits)
    ]

    at_low : 100 ≤ fix.at
    at_low = elim rep.place as (λ _. 100 ≤ fix.at) [
      | inl h ↦ let a : fix.at ≡ 110 = h.0 in omega arith
      | inr h ↦ let a : low ≤ fix.at = h.0 in omega (arith, above)
    ]

    at_inside : (a : ℕ) → (a < 100) ⊎ (180 ≤ a) → (a < low) ⊎ (low + suc (suc (length ds)) ≤ a) → a ≢ fix.at
    at_inside a far free = elim rep.place as (λ _. a ≢ fix.at) [
      | inl h ↦ let k : fix.at ≡ 110 = h.0 in elim far as (λ _. a ≢ fix.at) [ inl l ↦ omega arith | inr l ↦ omega arith ]
      | inr h ↦
          let b : low ≤ fix.at = h.0 in
          let c : fix.at < low + suc (suc (length ds)) = h.1 in
          elim free as (λ _. a ≢ fix.at) [ inl l ↦ omega arith | inr l ↦ omega arith ]
    ]

    many_moving : IsMoving (length core) high fix.at fix.digit (dense_part fs) fs
    many_moving = record {
      whole = part_length fs (omega (arith, long, few));
      good = good_zeros (69 - length fs) fs (good_by fs fs_good);
      digit = rep.digit;
      to = omega (arith, fits);
      at = at_high;
      some = omega (arith, long);
      most = omega (arith, long, few);
      ends = λ i l. part_ends fs i;
      fine = fs_good;
      low = refl;
      others = fs_others;
      apart = inl (omega (arith, above));
      clear = omega (arith, above, long, few);
    }

    many_load : SegmentLoads s core e es low (d ∷ f ∷ ds)
    unfolding dense_digits
    many_load =
        let k = m s core e es high fix.at fix.digit (dense_part fs) fs running quiet small room loader many_moving (omega (arith, above)) at_low in
        record {
          new = k.new;
          leads = four_steps s core e es high fix.at fix.digit (dense_part fs) fs running quiet small room loader many_moving (omega (arith, above)) at_low;
          there = λ i l. elim (cases_eq fix.at (low + i)) [
            | inl same ↦ ap (λ (a : ℕ). get_or k.new a 0) (sym same) ∙ k.repaired ∙ ap cell (rep.right i same)
            | inr ne ↦ k.there (low + i) i (omega (arith, long)) (omega (arith, long)) (omega arith) ∙ ap cell (rep.others i (omega arith))
          ];
          others = λ a far free.
              k.outside a far (elim free [ inl l ↦ inl (omega (arith, long)) | inr l ↦ inr (omega arith) ]) (at_inside a far free);
          long = k.long;
        }

-- the card of a dense segment
pub segment_loads : (s : State) (core : List ℕ) (e : Entry) (es : List Entry) (low : ℕ) (ds : List Digit) → s.mode ≡ Running → check_stop s.panel ≡ None → length core < 100000 → 180 ≤ length core →
    Holds core 0 loader_digits → IsSegmentAt (length core) low ds → SegmentLoads s core e es low ds
segment_loads s core e es low [] running quiet small room loader is = absurd is
segment_loads s core e es low (d ∷ []) running quiet small room loader is = one_loads s core e es low d running quiet small room loader is
segment_loads s core e es low (d ∷ f ∷ ds) running quiet small room loader is = many_load s core e es low d running quiet small room loader f ds is
