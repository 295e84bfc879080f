-- The deck loads its image from disk over any core.
use Rattle.std.proofs.Common.{ℕ, ◌≡◌, ◌+◌, ◌*◌, ◌/◌, ◌<◌, ◌≤◌, inl, inr, nat_lt, Bool, true, false, List, [], ◌∷◌, ◌++◌, length, map, get_or, slice_set, refl, sym, ◌∙◌, ap, arith, length-append, All}
use Rattle.std.proofs.lemmas.List.{ext_get_or, length-map}
use Rattle.std.proofs.lemmas.List.FromFn.{get_or-map-range_with_len, length-map-range_with_len}
use Rattle.std.proofs.lemmas.Bool.{cases_lt}
use Rattle.std.proofs.lemmas.Bool.Decides.{nat_tests}
use Rattle.digit_core.specs.declared.Digit.{Digit}
use Rattle.digit_core.specs.Size.{IsSize, size}
use Rattle.indicators.specs.Panel.{set}
use Rattle.indicators.specs.Lamps.{panel_for_load}
use Rattle.indicators.specs.Codes.{LAST_CARD}
use Rattle.branch_ops.specs.Registers.{on_at}
use Rattle.card_code.specs.Entries.{Entry, Text, has_none_left}
use Rattle.card_unit.specs.CardCalls.{panel_after_card}
use Rattle.card_unit.specs.Reader.{read_card_numeric}
use Rattle.disk_1311.specs.declared.TheConstants.{DRIVES}
use Rattle.cpu_step.specs.declared.machine.Mode.TheVariants.{Running}
use Rattle.cpu_step.specs.State.{State}
use Rattle.cpu_step.specs.Load.{state_for_load, load_key}
use Rattle.sps_pass_two.specs.Image.{DigitRun}
use Rattle.sps_pass_two.specs.Kept.{IsPiece, IsRunBelow}
use Rattle.deck_punch.specs.Cards.{transfer_card, transfer_digits}
use Rattle.deck_punch.specs.Deck.{self_loading_steps}
use Rattle.card_steps.specs.Steps.{after_steps}
use Rattle.card_steps.proofs.Leading.{deck_takes}
use Rattle.card_steps.proofs.CardDigits.{laid, laid_length, laid_there, laid_elsewhere, ReadsCard, card_read}
use Rattle.card_columns.proofs.GoodDigits.{IsCard}
use Rattle.card_steps.proofs.Lamps.{lamp_first, lamp_twice, quiet_first}
use Rattle.disk_loader.specs.Hundreds.{hundred_of, is_needed}
use Rattle.disk_loader.specs.declared.deck.Stretch.{Stretch}
use Rattle.disk_loader.specs.Stretches.{stretches}
use Rattle.disk_loader.specs.Bootstrap.{stretch_card, bootstrap}
use Rattle.disk_loader.specs.DiskOverlay.{disk_cell, disk_overlay}
use Rattle.disk_loader.specs.DiskLoads.{HasSectors, last_cylinder, state_from_disk, DiskLoadsOver, DiskLoads}
use Rattle.disk_loader.specs.Cover.{in_any}
use Rattle.disk_loader.proofs.Loading.{in_cell}
use Rattle.disk_loader.proofs.Decks.{front, behind, front_card, deck_hopper, arms_after, Begins, Ends, deck_loads}
use Rattle.disk_loader.proofs.Fits.{IsLowest, needed_some, all_fit, in_needed, arm_stands}

-- a core that is the overlay cell by cell is the overlay
overlay_is : (image : List DigitRun) (start : ℕ) (core new : List ℕ) → length new ≡ length core → ((a : ℕ) → get_or new a 0 ≡ disk_cell image start a (get_or core a 0)) → new ≡ disk_overlay core image start
unfolding disk_overlay
overlay_is image start core new long each =
    let f : ℕ → ℕ = λ a. disk_cell image start a (get_or core a 0) in
    let k = length-map-range_with_len f 0 (length core) in
    ext_get_or 0 new _ (long ∙ sym k) (λ i l. each i ∙ sym (get_or-map-range_with_len f 0 (length core) i i 0 (omega arith) (omega arith)))

module _ (image : List DigitRun) (start m : ℕ) (s : State) (rest : List Entry) (sized : IsSize m) (long : length s.core ≡ size m) (armed : length s.arms ≡ DRIVES)
    (each : All IsPiece image) (lowest : All IsLowest image) (under : All (IsRunBelow (size m)) image) (below_end : start < size m) (sectors : HasSectors image s.sectors)
    (hopper : s.hopper ≡ map Text (bootstrap image start) ++ rest) where
  abbrev ss : List Stretch
  ss = stretches image

  abbrev card : List Digit
  card = front start (stretches image)

  abbrev later : List Entry
  later = behind start (stretches image) rest

  abbrev past : ℕ
  past = size m / 100

  enough : 20000 ≤ length s.core
  enough = let a : 1 ≤ m = sized.0 in omega (arith, long)

  small : length s.core < 100000
  small = let a : m ≤ 3 = sized.1 in omega (arith, long)

  four : 400 ≤ size m
  four = omega (arith, enough, long)

  hundreds : 100 * past ≡ size m
  hundreds = omega arith

  largest : size m ≤ 60000
  largest = let a : m ≤ 3 = sized.1 in omega arith

  is_card : IsCard card
  is_card = front_card start ss

  -- the state that the Load key leaves
  abbrev s0 : State
  s0 = record s { core = laid s.core 0 card; regs = on_at s.regs 0; panel = panel_after_card (has_none_left later) (panel_for_load s.panel); hopper = later; mode = Running }

  first_read : ReadsCard (state_for_load s) (read_card_numeric (length s.core) 0 s.hopper) (laid s.core 0 card) later
  first_read = card_read later (state_for_load s) 0 card is_card.whole is_card.good (omega (arith, enough)) (hopper ∙ deck_hopper start ss rest)

  key_pressed : load_key s ≡ s0
  unfolding load_key
  key_pressed = rw (first_read.state, first_read.answer) refl

  carded : length (laid s.core 0 card) ≡ length s.core
  carded = laid_length card s.core 0

  begins : Begins image start past ss (panel_for_load s.panel) s0 rest
  begins = record {
    at = refl;
    running = refl;
    quiet = quiet_first s.panel (has_none_left later);
    small = omega (arith, small, carded);
    room = omega (arith, enough, carded);
    fits = omega (arith, carded, long, hundreds);
    armed = omega (arith, armed);
    sectors = sectors;
    stretches = all_fit image (size m) four hundreds lowest under;
    hopper = refl;
    lamp = lamp_first s.panel (has_none_left later);
    card = laid_there card s.core 0 (let w : length card ≡ 80 = is_card.whole in omega (arith, enough));
  }

  ends : Ends image start ss (panel_for_load s.panel) (4 * length ss + 1) s0 rest start
  ends = deck_loads image each past (omega (arith, largest)) ss start (panel_for_load s.panel) s0 rest (omega (arith, carded, long, below_end)) begins

  has : (k : ℕ) → in_any ss k ≡ is_needed image k
  has k = in_needed image (size m) four hundreds lowest under largest k

  none_first : (b : Bool) → is_needed image 0 ≡ b → is_needed image 0 ≡ false
  none_first true is = let no : 1 ≤ 0 = needed_some image (size m) four hundreds lowest under 0 is in absurd (omega arith)
  none_first false is = is

  -- each cell
  at_low : (a : ℕ) → a < 80 → get_or ends.core a 0 ≡ disk_cell image start a (get_or s.core a 0)
  unfolding transfer_digits
  at_low a l =
      let e : hundred_of a ≡ 0 = omega arith in
      let t : nat_lt a 80 ≡ true = grind (arith, nat_tests) in
      let z : 0 + a ≡ a = omega arith in
      rw (e, none_first (is_needed image 0) refl, t) (rw z at (ends.transfer.cells a l))

  at_high : (a : ℕ) → 80 ≤ a → get_or ends.core a 0 ≡ disk_cell image start a (get_or s.core a 0)
  at_high a h =
      let t : nat_lt a 80 ≡ false = grind (arith, nat_tests) in
      rw t (ends.cells a h
      ∙ ap (λ (b : Bool). in_cell image b a (get_or (laid s.core 0 card) a 0)) (has (hundred_of a))
      ∙ ap (in_cell image (is_needed image (hundred_of a)) a) (laid_elsewhere card s.core 0 a (inr (let w : length card ≡ 80 = is_card.whole in omega arith))))

  at_each : (a : ℕ) → get_or ends.core a 0 ≡ disk_cell image start a (get_or s.core a 0)
  at_each a = elim (cases_lt a 80) [ inl l ↦ at_low a l | inr h ↦ at_high a h ]

  core_is : ends.core ≡ disk_overlay s.core image start
  core_is = overlay_is image start s.core ends.core (ends.long ∙ carded) at_each

  arms_are : arms_after s.arms ss ≡ slice_set s.arms 0 (last_cylinder 0 (stretches image))
  arms_are = arm_stands image s.arms (has 1)

  steps_are : self_loading_steps (length (bootstrap image start)) ≡ 4 * length ss + 1
  steps_are =
      let a = length-append (map stretch_card ss) (transfer_card start ∷ []) in
      let b : length (map stretch_card ss) ≡ length ss = length-map ss stretch_card in
      omega arith

  -- the state that the deck leaves, by the state before the Load key
  abbrev loaded_state : State
  loaded_state = record s { core = disk_overlay s.core image start; regs = on_at s.regs start; panel = set LAST_CARD (has_none_left rest) (panel_for_load s.panel); hopper = rest; mode = Running; arms = slice_set s.arms 0 (last_cylinder 0 (stretches image)) }

  steps_made : after_steps (4 * length ss + 1) s0 ≡ loaded_state
  steps_made = ends.leads.there ∙ (λ i. record s { core = core_is i; regs = on_at s.regs start; panel = set LAST_CARD (has_none_left rest) (panel_for_load s.panel); hopper = rest; mode = Running; arms = arms_are i })

  leads_there : after_steps (self_loading_steps (length (bootstrap image start))) (load_key s) ≡ loaded_state
  leads_there = ap (after_steps (self_loading_steps (length (bootstrap image start)))) key_pressed ∙ ap (λ (n : ℕ). after_steps n s0) steps_are ∙ steps_made

  is_entered : loaded_state ≡ state_from_disk (load_key s) image start s.core rest
  is_entered =
      (λ i. record s { core = disk_overlay s.core image start; regs = on_at s.regs start; panel = sym (lamp_twice (panel_for_load s.panel) (has_none_left rest) (has_none_left later)) i; hopper = rest; mode = Running; arms = slice_set s.arms 0 (last_cylinder 0 (stretches image)) })
      ∙ ap (λ (x : State). state_from_disk x image start s.core rest) (sym key_pressed)

  loads_over : DiskLoadsOver (bootstrap image start) image start (self_loading_steps (length (bootstrap image start))) s rest
  loads_over = record {
    running = λ n h. ap (λ (x : State). (after_steps n x).mode) key_pressed ∙ ends.leads.running n (omega (arith, steps_are));
    loaded = leads_there ∙ is_entered;
    takes = rw steps_are (deck_takes (bootstrap image start) (4 * length ss + 1) s s0 _ hopper key_pressed first_read.takes ends.leads);
  }

-- for each image of good digits that stand from 00100 on, and each start
pub disk_loads : (image : List DigitRun) (start : ℕ) → All IsPiece image → All IsLowest image → DiskLoads (bootstrap image start) image start (self_loading_steps (length (bootstrap image start)))
disk_loads image start each lowest m s rest sized long armed under below_end sectors hopper = loads_over image start m s rest sized long armed each lowest under below_end sectors hopper

-- the state that the deck leaves
pub disk_loaded_from : (image : List DigitRun) (start m : ℕ) (s : State) (rest : List Entry) → All IsPiece image → All IsLowest image → IsSize m → length s.core ≡ size m → length s.arms ≡ DRIVES → All (IsRunBelow (size m)) image → start < size m → HasSectors image s.sectors
    → s.hopper ≡ map Text (bootstrap image start) ++ rest
    → after_steps (self_loading_steps (length (bootstrap image start))) (load_key s)
    ≡ record s { core = disk_overlay s.core image start; regs = on_at s.regs start; panel = set LAST_CARD (has_none_left rest) (panel_for_load s.panel); hopper = rest; mode = Running; arms = slice_set s.arms 0 (last_cylinder 0 (stretches image)) }
disk_loaded_from image start m s rest each lowest sized long armed under below_end sectors hopper = leads_there image start m s rest sized long armed each lowest under below_end sectors hopper
