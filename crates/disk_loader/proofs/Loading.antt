-- The cards of a bootstrap deck, one after another.
use Rattle.std.proofs.Common.{ℕ, ◌≡◌, ◌+◌, ◌-◌, ◌*◌, ◌/◌, ◌%◌, ◌<◌, ◌≤◌, inl, inr, Bool, true, false, List, [], length, replicate, get_or, slice_set, refl, arith, sym, ◌∙◌, ap, All}
use Rattle.std.proofs.lemmas.List.{get_or-set_same, length-set}
use Rattle.std.proofs.lemmas.Bool.{cases_lt}
use Rattle.std.proofs.lemmas.Bool.Decides.{nat_tests}
use Rattle.std.specs.Prelude.{if◌then◌else◌}
use Rattle.digit_core.specs.declared.Digit.{Digit}
use Rattle.digit_core.specs.Cell.{cell, unflagged_digit}
use Rattle.branch_ops.specs.Registers.{on_at}
use Rattle.card_code.specs.Entries.{Entry}
use Rattle.disk_1311.specs.Disk.{arm_of, cylinder_of}
use Rattle.cpu_step.specs.State.{State}
use Rattle.sps_pass_two.specs.Image.{DigitRun}
use Rattle.sps_pass_two.specs.Kept.{IsPiece}
use Rattle.card_columns.specs.Orders.{order, address}
use Rattle.deck_punch.specs.Cards.{read_and_go}
use Rattle.card_columns.proofs.GoodDigits.{Good, decimal_is_good, good_address, IsCard, good_order, good_zeros}
use Rattle.card_steps.proofs.HeldDigits.{Holds, part_held, same_held, fetch_held, first_operand}
use Rattle.card_steps.proofs.CardsTaken.{Row, row_to}
use Rattle.card_steps.proofs.Leading.{Leads, leads_on}
use Rattle.card_steps.proofs.CardDigits.{laid, laid_length, laid_there, laid_elsewhere}
use Rattle.card_steps.proofs.NextCard.{Ready, next_state, read_and_jump}
use Rattle.disk_loader.specs.Hundreds.{hundred_of, digit_on_disk}
use Rattle.disk_loader.specs.declared.deck.Stretch.{Stretch}
use Rattle.disk_loader.specs.Bootstrap.{three, control_field_of, stretch_digits}
use Rattle.disk_loader.specs.DiskLoads.{HasSectors}
use Rattle.disk_loader.proofs.Fields.{control_held}
use Rattle.disk_loader.proofs.Sectors.{AllTexts, joined}
use Rattle.disk_loader.proofs.DiskRows.{row_SK, row_RDN}
use Rattle.disk_loader.proofs.LoadedDigits.{hundred_digits, hundred_length, hundred_good, joined_length, joined_digit}
use Rattle.disk_loader.specs.Cover.{IsStretch, in_stretch}

-- the card of a stretch is a card
good_three : (c : ℕ) (ds : List Digit) → Good ds → Good (three c ds)
good_three c ds g = (decimal_is_good (c / 100 % 10) (omega arith), (decimal_is_good (c / 10 % 10) (omega arith), (decimal_is_good (c % 10) (omega arith), g)))

good_control : (h c a : ℕ) (ds : List Digit) → Good ds → Good (control_field_of 1 h c a ds)
good_control h c a ds g = (decimal_is_good 1 (omega arith), good_address h (three c (address a ds)) (good_three c (address a ds) (good_address a ds g)))

pub stretch_is_card : (s : Stretch) → IsCard (stretch_digits s)
unfolding stretch_digits
stretch_is_card s =
    let field : List Digit = control_field_of 1 s.from s.count (100 * s.from) (replicate 18 (unflagged_digit 0)) in
    let g : Good field = good_control s.from s.count (100 * s.from) (replicate 18 (unflagged_digit 0)) (good_zeros 18 [] tt) in
    record {
      whole = refl;
      good = good_order 3 4 48 701 (order 3 6 48 702 (read_and_go field)) (omega arith) (omega arith)
          (good_order 3 6 48 702 (read_and_go field) (omega arith) (omega arith)
          (good_order 3 6 0 500 (order 4 9 0 0 field) (omega arith) (omega arith) (good_order 4 9 0 0 field (omega arith) (omega arith) g)));
      jump = refl;
    }

-- the most that a stretch can have: a cylinder
level_few : (image : List DigitRun) (first past : ℕ) (s : Stretch) → IsStretch image first past s → s.count ≤ 200
level_few image first past s is =
    let some : 1 ≤ s.count = is.some in
    let last : (s.from + (s.count - 1)) / 200 ≡ s.from / 200 = is.level (s.count - 1) (omega arith) in
    omega arith

-- the cell at an address in a core to which a stretch, or some of them, was loaded
abbrev pub in_cell : List DigitRun → Bool → ℕ → ℕ → ℕ
in_cell image inside a before = if inside then cell (digit_on_disk image a) else before

-- the stretch stands in core, the next card in 00000 to 00079, and the machine is at 00000 again
pub record StretchLoads (image : List DigitRun) (s : State) (st : Stretch) (next : List Digit) (rest : List Entry) : Type 0 where
  pub core : List ℕ
  pub cells : (a : ℕ) → get_or core a 0 ≡ in_cell image (in_stretch st (hundred_of a)) a (get_or s.core a 0)
  pub long : length core ≡ length s.core
  pub leads : Leads 4 s (next_state (record s { arms = slice_set s.arms 0 (cylinder_of st.from) }) core next rest)

module _ (image : List DigitRun) (each : All IsPiece image) where
  -- the cells once the digits of a stretch are laid
  stretch_cells : (core : List ℕ) (st : Stretch) → 100 * (st.from + st.count) ≤ length core → (a : ℕ) →
      get_or (laid core (100 * st.from) (joined (hundred_digits image each) st.from st.count)) a 0 ≡ in_cell image (in_stretch st (hundred_of a)) a (get_or core a 0)
  stretch_cells core st room a =
      let ds : List Digit = joined (hundred_digits image each) st.from st.count in
      let w : length ds ≡ 100 * st.count = joined_length image each st.count st.from in
      elim (cases_lt a (100 * st.from)) [
        | inl low ↦
            let t : in_stretch st (hundred_of a) ≡ false = grind (arith, nat_tests) in
            rw t (laid_elsewhere ds core (100 * st.from) a (inl low))
        | inr high ↦ elim (cases_lt a (100 * st.from + 100 * st.count)) [
          | inl there ↦
              let t : in_stretch st (hundred_of a) ≡ true = grind (arith, nat_tests) in
              let i : ℕ = a - 100 * st.from in
              let e : 100 * st.from + (a - 100 * st.from) ≡ a = omega arith in
              let held = (laid_there ds core (100 * st.from) (omega arith)).cells (a - 100 * st.from) (omega arith) in
              let d = joined_digit image each st.count st.from (a - 100 * st.from) (omega arith) in
              rw t (rw e at held ∙ ap cell (rw e at d))
          | inr past ↦
              let t : in_stretch st (hundred_of a) ≡ false = grind (arith, nat_tests) in
              rw t (laid_elsewhere ds core (100 * st.from) a (inr (omega arith)))
        ]
      ]

  module _ (s : State) (st : Stretch) (next : List Digit) (rest : List Entry) (at : s.regs.ir ≡ 0) (r : Ready s next rest)
      (armed : 1 ≤ length s.arms) (sectors : HasSectors image s.sectors) (past : ℕ) (most : past ≤ 600) (fits : 100 * past ≤ length s.core) (is : IsStretch image 1 past st)
      (held : Holds s.core 0 (stretch_digits st)) where
    room : 80 ≤ length s.core
    room = r.room

    small : length s.core < 100000
    small = r.small

    few : st.count ≤ 200
    few = level_few image 1 past st is

    some : 1 ≤ st.count
    some = is.some

    low : 1 ≤ st.from
    low = is.low

    high : st.from + st.count ≤ past
    high = is.high

    abbrev cylinder : ℕ
    cylinder = cylinder_of st.from

    abbrev arms : List ℕ
    arms = slice_set s.arms 0 (cylinder_of st.from)

    abbrev ds : List Digit
    ds = joined (hundred_digits image each) st.from st.count

    abbrev core2 : List ℕ
    core2 = laid s.core (100 * st.from) (joined (hundred_digits image each) st.from st.count)

    abbrev s1 : State
    s1 = record s { arms = arms; regs = on_at s.regs 12 }

    abbrev s2 : State
    s2 = record s { arms = arms; core = core2; regs = on_at s.regs 24 }

    armed1 : 1 ≤ length arms
    armed1 = let l = length-set s.arms 0 (cylinder_of st.from) in omega (arith, armed)

    long2 : length core2 ≡ length s.core
    long2 = laid_length ds s.core (100 * st.from)

    held2 : Holds core2 0 (stretch_digits st)
    held2 =
        let w : length (stretch_digits st) ≡ 80 = (stretch_is_card st).whole in
        same_held held core2 long2 (λ b p l. laid_elsewhere ds s.core (100 * st.from) b (inl (omega (arith, low, w))))

    step1 : Row s s1
    unfolding stretch_digits
    step1 =
        let i = part_held held 0 12 (omega arith) in
        let f = control_held 1 st.from st.count (100 * st.from) (omega arith) (omega (arith, high, most)) (omega (arith, few)) (omega (arith, high, most, some, low)) s.core 48 (length s.arms) (part_held held 48 14 (omega arith)) (omega arith) armed in
        row_to s (record s { arms = arms; regs = on_at s.regs (s.regs.ir + 12) }) s1
        (row_SK s (record { at = 0; cells = order 3 4 48 701 [] }) r.quiet (rw at (fetch_held s.core 0 3 4 48 701 i (omega arith) (omega arith) refl))
        48 (rw at (first_operand s.core 0 3 4 48 701 i (omega (arith, room)) (omega arith))) refl 1 st.from st.count (100 * st.from) f (omega (arith, high, most)) refl refl)
        (ap (λ (x : ℕ). record s { arms = arms; regs = on_at s.regs (x + 12) }) at)

    texts : AllTexts 1 (cylinder_of st.from) s.sectors (hundred_digits image each) st.from st.count
    texts j l = record {
      here = is.level j l;
      text = sectors (st.from + j) (omega (arith, high, most)) (is.needed j l);
      good = hundred_good image each (st.from + j);
      whole = hundred_length image each (st.from + j);
    }

    at_arm : cylinder_of st.from ≡ arm_of arms 1
    at_arm = sym (get_or-set_same s.arms 0 (cylinder_of st.from) 0 (omega (arith, armed)))

    step2 : Row s1 s2
    unfolding stretch_digits
    step2 =
        let i = part_held held 12 12 (omega arith) in
        let f = control_held 1 st.from st.count (100 * st.from) (omega arith) (omega (arith, high, most)) (omega (arith, few)) (omega (arith, high, most, some, low)) s.core 48 (length arms) (part_held held 48 14 (omega arith)) (omega arith) armed1 in
        row_RDN s1 (record { at = 12; cells = order 3 6 48 702 [] }) r.quiet (fetch_held s.core 12 3 6 48 702 i (omega arith) (omega arith) refl)
        48 (first_operand s.core 12 3 6 48 702 i (omega (arith, room)) (omega arith)) refl 1 st.from st.count (100 * st.from) f (omega (arith, high, most))
        (omega (arith, high, fits)) (omega (arith, high, fits, some)) at_arm (hundred_digits image each) texts refl refl refl refl

    pub stretch_loads : StretchLoads image s st next rest
    unfolding stretch_digits
    stretch_loads =
        let r2 : Ready s2 next rest = record { running = r.running; quiet = r.quiet; small = omega (arith, long2, small); room = omega (arith, long2, room); hopper = r.hopper; card = r.card } in
        let last = read_and_jump s2 next rest refl r2 (part_held held2 24 12 (omega arith)) in
        record {
          core = core2;
          cells = stretch_cells s.core st (omega (arith, high, fits));
          long = long2;
          leads = leads_on 3 s s1 (next_state (record s { arms = arms }) core2 next rest) r.running step1
              (leads_on 2 s1 s2 (next_state (record s { arms = arms }) core2 next rest) r.running step2 last);
        }
