-- The dense deck loads its image over any core.
use Rattle.std.proofs.Common.{ℕ, ◌≡◌, ◌+◌, suc, ◌*◌, ◌<◌, ◌≤◌, ◌⊎◌, inl, inr, false, List, [], ◌∷◌, ◌++◌, length, map, replicate, get_or, Option, None, refl, sym, ◌∙◌, ap, arith, length-append, append_assoc, All}
use Rattle.std.proofs.lemmas.List.{length-map}
use Rattle.digit_core.specs.declared.Digit.{Digit}
use Rattle.digit_core.specs.Cell.{unflagged_digit}
use Rattle.digit_core.specs.Size.{IsSize, size}
use Rattle.indicators.specs.Panel.{set}
use Rattle.indicators.specs.Lamps.{panel_for_load}
use Rattle.branch_ops.specs.Registers.{on_at}
use Rattle.card_code.specs.Entries.{Entry, Text, has_none_left}
use Rattle.indicators.specs.Codes.{LAST_CARD}
use Rattle.card_unit.specs.Reader.{read_card_numeric}
use Rattle.cpu_step.specs.declared.machine.Mode.TheVariants.{Running}
use Rattle.cpu_step.specs.State.{State}
use Rattle.cpu_step.specs.Step.{check_stop}
use Rattle.cpu_step.specs.Load.{state_for_load, load_key}
use Rattle.sps_pass_two.specs.Image.{DigitRun, digit_at, declared_digit}
use Rattle.sps_pass_two.specs.Kept.{IsPiece, IsRunBelow, lowest_declared}
use Rattle.deck_punch.specs.declared.form.DeckForm.TheVariants.{SelfLoading, Dense}
use Rattle.deck_punch.specs.Cut.{cut, cut_dense}
use Rattle.card_columns.specs.Orders.{address, order}
use Rattle.deck_punch.specs.Cards.{card_of, transfer_card}
use Rattle.deck_punch.specs.Tables.{table_piece, other_pieces}
use Rattle.deck_punch.specs.Dense.{indirect, dense_digits, dense_card_of, loader_digits, loader_card, bridge_digits, bridge_card, dense_deck, dense_steps}
use Rattle.deck_punch.proofs.Declaring.{cut_declares}
use Rattle.deck_punch.proofs.WithTables.{table_there, others_each, others_behind, others_below}
use Rattle.deck_punch.specs.Overlay.{cell_or, overlay}
use Rattle.card_steps.specs.Steps.{after_steps}
use Rattle.loader_cards.specs.Loads.{state_at_start, LoadsOver, Loads}
use Rattle.card_columns.proofs.GoodDigits.{Good, good_address, IsCard, good_zeros, good_order}
use Rattle.card_steps.proofs.HeldDigits.{Holds, same_held}
use Rattle.card_steps.proofs.Leading.{Leads, leads_none, leads_then, deck_takes}
use Rattle.card_steps.proofs.CardDigits.{laid, laid_length, laid_there, laid_elsewhere, ReadsCard, card_read}
use Rattle.loader_cards.proofs.Segments.{AreSegments, segment_cells, cell_twice, cut_segments}
use Rattle.card_steps.proofs.NextCard.{next_state}
use Rattle.loader_cards.proofs.Decks.{front, behind, front_card, deck_hopper, Begins, Ends, deck_loads}
use Rattle.card_steps.proofs.Lamps.{lamp_first, lamp_twice, quiet_first}
use Rattle.loader_cards.proofs.DeckOverlay.{table_low}
use Rattle.loader_cards.proofs.OverlayByCells.{table_beside, overlaid_by}
use Rattle.loader_cards.proofs.DenseParts.{AreDense, dense_segments, segment_low}
use Rattle.loader_cards.proofs.DenseSteps.{at_ir, card_entry}
use Rattle.loader_cards.proofs.DenseCard.{segment_loads}
use Rattle.loader_cards.proofs.DenseBridge.{BridgeLoads, bridge_loads}

-- what stands first in the hopper, and what behind it, where the cards of these segments stand before an entry and more
abbrev pub first_of : List DigitRun → Entry → Entry
first_of [] b = b
first_of (g ∷ gs) b = card_entry (dense_digits g.from g.digits)

abbrev pub rest_of : List DigitRun → Entry → List Entry → List Entry
rest_of [] b more = more
rest_of (g ∷ gs) b more = first_of gs b ∷ rest_of gs b more

-- the dense segments stand in core, the loader in 00000 to 00079, and all else but the buffer is as before
pub record DenseLoads (s : State) (core : List ℕ) (gs : List DigitRun) (b : Entry) (more : List Entry) : Type 0 where
  pub new : List ℕ
  pub leads : Leads (4 * length gs) (at_ir s core (first_of gs b ∷ rest_of gs b more) 0) (at_ir s new (b ∷ more) 0)
  pub loader : Holds new 0 loader_digits
  pub cells : (a : ℕ) → (a < 100) ⊎ (180 ≤ a) → get_or new a 0 ≡ cell_or (declared_digit gs a) (get_or core a 0)
  pub long : length new ≡ length core

loader_length : length loader_digits ≡ 80
unfolding loader_digits
loader_length = refl

-- one card, and then the others
pub segments_load : (gs : List DigitRun) (s : State) (core : List ℕ) (b : Entry) (more : List Entry) → s.mode ≡ Running → check_stop s.panel ≡ None → length core < 100000 → 180 ≤ length core →
    Holds core 0 loader_digits → AreDense (length core) gs → DenseLoads s core gs b more
unfolding declared_digit
segments_load [] s core b more running quiet small room loader are = record {
  new = core;
  leads = leads_none (at_ir s core (b ∷ more) 0) running;
  loader = loader;
  cells = λ a far. refl;
  long = refl;
}
segments_load (g ∷ gs) s core b more running quiet small room loader are =
    let one = segment_loads s core (first_of gs b) (rest_of gs b more) g.from g.digits running quiet small room loader are.0 in
    let l : length one.new ≡ length core = one.long in
    let low : 400 ≤ g.from = segment_low (length core) g.from g.digits are.0 in
    let kept : Holds one.new 0 loader_digits = same_held loader one.new one.long (λ a z h. let h2 : a < 0 + 80 = rw loader_length at h in one.others a (inl (omega arith)) (inl (omega arith))) in
    let then = segments_load gs s one.new b more running quiet (omega arith) (omega arith) kept (rw l are.1) in
    let e : 4 + 4 * length gs ≡ 4 * suc (length gs) = omega arith in
    record {
      new = then.new;
      leads = rw (← e) (leads_then 4 (4 * length gs) (at_ir s core (first_of (g ∷ gs) b ∷ rest_of (g ∷ gs) b more) 0) (at_ir s one.new (first_of gs b ∷ rest_of gs b more) 0) (at_ir s then.new (b ∷ more) 0) one.leads then.leads);
      loader = then.loader;
      cells = λ a far.
          then.cells a far ∙ ap (cell_or (declared_digit gs a)) (segment_cells core one.new g a one.there (one.others a far))
          ∙ cell_twice (declared_digit gs a) (digit_at g a) (get_or core a 0);
      long = then.long ∙ l;
    }

-- the loader card's digits are good
loader_good : Good loader_digits
unfolding loader_digits
loader_good =
    let last : Good (order 4 9 0 0 (replicate 32 (unflagged_digit 0))) = good_order 4 9 0 0 (replicate 32 (unflagged_digit 0)) (omega arith) (omega arith) (good_zeros 32 [] tt) in
    let digit : Good (unflagged_digit 2 ∷ unflagged_digit 5 ∷ indirect 9 (address 110 (order 4 9 0 0 (replicate 32 (unflagged_digit 0))))) =
    (refl, (refl, (refl, (refl, (refl, (refl, (refl, good_address 110 (order 4 9 0 0 (replicate 32 (unflagged_digit 0))) last))))))) in
    let after : List Digit = unflagged_digit 2 ∷ unflagged_digit 5 ∷ indirect 9 (address 110 (order 4 9 0 0 (replicate 32 (unflagged_digit 0)))) in
    let field : Good (unflagged_digit 2 ∷ unflagged_digit 6 ∷ indirect 4 (address 179 after)) = (refl, (refl, (refl, (refl, (refl, (refl, (refl, good_address 179 after digit))))))) in
    good_order 3 6 100 500 (unflagged_digit 2 ∷ unflagged_digit 6 ∷ indirect 4 (address 179 after)) (omega arith) (omega arith) field

-- the hopper of the dense cards, before other cards
dense_hopper : (gs : List DigitRun) (b : List ℕ) (later : List (List ℕ)) (rest : List Entry) → map Text (map dense_card_of gs ++ b ∷ later) ++ rest ≡ first_of gs (Text b) ∷ rest_of gs (Text b) (map Text later ++ rest)
dense_hopper [] b later rest = refl
dense_hopper (g ∷ gs) b later rest = ap (λ (es : List Entry). Text (dense_card_of g) ∷ es) (dense_hopper gs b later rest)

-- the deck by its parts, one behind the other
pub deck_is : (image : List DigitRun) (start : ℕ) → dense_deck image start ≡ loader_card ∷ (map dense_card_of (cut_dense (other_pieces image)) ++ (bridge_card ∷ (map card_of (cut (table_piece image ∷ [])) ++ (transfer_card start ∷ []))))
deck_is image start = ap (λ (texts : List (List ℕ)). loader_card ∷ texts) (append_assoc (map dense_card_of (cut_dense (other_pieces image))) (bridge_card ∷ map card_of (cut (table_piece image ∷ []))) (transfer_card start ∷ []))

-- what the table piece's segments declare
tables_declare : (image : List DigitRun) (a : ℕ) → declared_digit (cut (table_piece image ∷ [])) a ≡ digit_at (table_piece image) a
unfolding declared_digit
tables_declare image a = cut_declares SelfLoading (table_piece image ∷ []) a

module _ (image : List DigitRun) (start m : ℕ) (s : State) (rest : List Entry) (sized : IsSize m) (long : length s.core ≡ size m) (each : All IsPiece image) (lowest : All (λ r. lowest_declared ≤ r.from) image) (under : All (IsRunBelow (size m)) image) (below_end : start < size m)
    (hopper : s.hopper ≡ map Text (dense_deck image start) ++ rest) where
  abbrev gs : List DigitRun
  gs = cut_dense (other_pieces image)

  abbrev ts : List DigitRun
  ts = cut (table_piece image ∷ [])

  -- the first self-loading card, and what stands behind it
  abbrev next : List Digit
  next = front start ts

  abbrev later : List Entry
  later = behind start ts rest

  abbrev bridge : Entry
  bridge = card_entry bridge_digits

  enough : 20000 ≤ length s.core
  enough = let a : 1 ≤ m = sized.0 in omega (arith, long)

  small : length s.core < 100000
  small = let a : m ≤ 3 = sized.1 in omega (arith, long)

  are_dense : AreDense (length s.core) gs
  are_dense = rw long (dense_segments (size m) (other_pieces image) (others_each image each) (others_behind image) (others_below (size m) image under))

  are_segments : AreSegments (length s.core) ts
  are_segments = cut_segments (length s.core) (table_piece image ∷ []) (table_low (length s.core) image (omega (arith, enough)) each, tt)

  next_card : IsCard next
  next_card = front_card (length s.core) start ts are_segments

  -- the hopper behind the loader card
  hopper_is : s.hopper ≡ Text loader_card ∷ first_of gs bridge ∷ rest_of gs bridge (card_entry next ∷ later)
  hopper_is =
      hopper
      ∙ ap (λ (texts : List (List ℕ)). map Text texts ++ rest) (deck_is image start)
      ∙ ap (λ (es : List Entry). Text loader_card ∷ es) (dense_hopper gs bridge_card (map card_of ts ++ (transfer_card start ∷ [])) rest)
      ∙ ap (λ (es : List Entry). Text loader_card ∷ first_of gs bridge ∷ rest_of gs bridge es) (deck_hopper start ts rest)

  -- the state that the Load key leaves
  abbrev base : State
  base = record s { panel = panel_for_load s.panel; mode = Running }

  abbrev core0 : List ℕ
  core0 = laid s.core 0 loader_digits

  abbrev s0 : State
  s0 = at_ir base core0 (first_of gs bridge ∷ rest_of gs bridge (card_entry next ∷ later)) 0

  first_read : ReadsCard (state_for_load s) (read_card_numeric (length s.core) 0 s.hopper) core0 (first_of gs bridge ∷ rest_of gs bridge (card_entry next ∷ later))
  first_read = card_read (first_of gs bridge ∷ rest_of gs bridge (card_entry next ∷ later)) (state_for_load s) 0 loader_digits loader_length loader_good (omega (arith, enough)) hopper_is

  key_pressed : load_key s ≡ s0
  unfolding load_key
  key_pressed = rw (first_read.state, first_read.answer) refl

  quiet : check_stop base.panel ≡ None
  quiet = quiet_first s.panel false

  long0 : length core0 ≡ length s.core
  long0 = laid_length loader_digits s.core 0

  one : DenseLoads base core0 gs bridge (card_entry next ∷ later)
  one = segments_load gs base core0 bridge (card_entry next ∷ later) refl quiet (omega (arith, small, long0)) (omega (arith, enough, long0))
      (laid_there loader_digits s.core 0 (rw loader_length (omega (arith, enough)))) (rw long0 are_dense)

  long1 : length one.new ≡ length s.core
  long1 = one.long ∙ long0

  two : BridgeLoads base one.new next later
  two = bridge_loads base one.new next later refl quiet (omega (arith, small, long1)) (omega (arith, enough, long1)) one.loader next_card

  long2 : length (laid two.new 0 next) ≡ length s.core
  long2 = laid_length next two.new 0 ∙ two.long ∙ long1

  whole : length next ≡ 80
  whole = next_card.whole

  -- the state in which the self-loading cards begin
  abbrev s2 : State
  s2 = next_state base two.new next later

  begins : Begins start ts (panel_for_load s.panel) s2 rest
  begins = record {
    at = refl;
    running = refl;
    quiet = quiet_first s.panel (has_none_left later);
    small = omega (arith, small, long2);
    room = omega (arith, enough, long2);
    segments = rw long2 are_segments;
    hopper = refl;
    lamp = lamp_first s.panel (has_none_left later);
    card = laid_there next two.new 0 (omega (arith, enough, whole, long1, two.long));
  }

  ends : Ends start ts (panel_for_load s.panel) (4 * length ts + 1) s2 rest start
  ends = deck_loads ts start (panel_for_load s.panel) s2 rest (omega (arith, long2, long, below_end)) begins

  -- above the transfer card the table piece stands over what the bridge left
  over : (a : ℕ) → 80 ≤ a → get_or ends.core a 0 ≡ cell_or (digit_at (table_piece image) a) (get_or two.new a 0)
  over a h =
      ends.cells a h ∙ ap (λ (o : Option Digit). cell_or o (get_or s2.core a 0)) (tables_declare image a)
      ∙ ap (cell_or (digit_at (table_piece image) a)) (laid_elsewhere next two.new 0 a (inr (omega (arith, whole))))

  -- and beside the buffer the other pieces' digits over what was there
  under_it : (a : ℕ) → 80 ≤ a → (a < 100) ⊎ (180 ≤ a) → get_or two.new a 0 ≡ cell_or (declared_digit (other_pieces image) a) (get_or s.core a 0)
  under_it a h far =
      two.others a h far ∙ one.cells a far ∙ ap (λ (o : Option Digit). cell_or o (get_or core0 a 0)) (cut_declares Dense (other_pieces image) a)
      ∙ ap (cell_or (declared_digit (other_pieces image) a)) (laid_elsewhere loader_digits s.core 0 a (inr (rw loader_length (omega arith))))

  core_is : ends.core ≡ overlay s.core image start
  core_is =
      overlaid_by image start s.core ends.core lowest (ends.long ∙ long2) ends.transfer
      (λ a low high. rw (table_there image a low high) at (over a (omega arith)))
      (λ a h far. (rw (table_beside image a far) at (over a h)) ∙ under_it a h (elim far [ inl l ↦ inl l | inr u ↦ inr (omega arith) ]))

  -- all the steps
  abbrev steps : ℕ
  steps = 4 * length gs + (6 + (4 * length ts + 1))

  abbrev last : State
  last = record s { core = ends.core; hopper = rest; panel = set LAST_CARD (has_none_left rest) (panel_for_load s.panel); regs = on_at s.regs start; mode = Running }

  leads_all : Leads steps s0 last
  leads_all =
      leads_then (4 * length gs) (6 + (4 * length ts + 1)) s0 (at_ir base one.new (bridge ∷ card_entry next ∷ later) 0) last one.leads
      (leads_then 6 (4 * length ts + 1) (at_ir base one.new (bridge ∷ card_entry next ∷ later) 0) s2 last two.leads ends.leads)

  steps_are : dense_steps (length (dense_deck image start)) ≡ steps
  steps_are =
      let a = length-append (map dense_card_of gs) (bridge_card ∷ (map card_of ts ++ (transfer_card start ∷ []))) in
      let b : length (map dense_card_of gs) ≡ length gs = length-map gs dense_card_of in
      let c = length-append (map card_of ts) (transfer_card start ∷ []) in
      let d : length (map card_of ts) ≡ length ts = length-map ts card_of in
      ap (λ (texts : List (List ℕ)). dense_steps (length texts)) (deck_is image start) ∙ omega (arith, a, b, c, d)

  -- the state that the deck leaves, by the state before the Load key
  abbrev loaded_state : State
  loaded_state = record s { core = overlay s.core image start; regs = on_at s.regs start; panel = set LAST_CARD (has_none_left rest) (panel_for_load s.panel); hopper = rest; mode = Running }

  steps_made : after_steps steps s0 ≡ loaded_state
  steps_made = leads_all.there ∙ (λ i. record s { core = core_is i; regs = on_at s.regs start; panel = set LAST_CARD (has_none_left rest) (panel_for_load s.panel); hopper = rest; mode = Running })

  leads_there : after_steps (dense_steps (length (dense_deck image start))) (load_key s) ≡ loaded_state
  leads_there = ap (after_steps (dense_steps (length (dense_deck image start)))) key_pressed ∙ ap (λ (n : ℕ). after_steps n s0) steps_are ∙ steps_made

  is_entered : loaded_state ≡ state_at_start (load_key s) image start s.core rest
  is_entered =
      (λ i. record s { core = overlay s.core image start; regs = on_at s.regs start; panel = sym (lamp_twice (panel_for_load s.panel) (has_none_left rest) false) i; hopper = rest; mode = Running })
      ∙ ap (λ (x : State). state_at_start x image start s.core rest) (sym key_pressed)

  loads_over : LoadsOver (dense_deck image start) image start (dense_steps (length (dense_deck image start))) s rest
  loads_over = record {
    running = λ n h. ap (λ (x : State). (after_steps n x).mode) key_pressed ∙ leads_all.running n (omega (arith, steps_are));
    loaded = leads_there ∙ is_entered;
    takes = rw steps_are (deck_takes (dense_deck image start) steps s s0 last hopper key_pressed first_read.takes leads_all);
  }

-- for each image whose digits are good and stand from 00100 on, and each start
pub dense_loads : (image : List DigitRun) (start : ℕ) → All IsPiece image → All (λ r. lowest_declared ≤ r.from) image → Loads (dense_deck image start) image start (dense_steps (length (dense_deck image start)))
dense_loads image start each lowest m s rest sized long under below_end hopper = loads_over image start m s rest sized long each lowest under below_end hopper

-- the state that the deck leaves
pub dense_loaded_from : (image : List DigitRun) (start m : ℕ) (s : State) (rest : List Entry) → All IsPiece image → All (λ r. lowest_declared ≤ r.from) image → IsSize m → length s.core ≡ size m → All (IsRunBelow (size m)) image → start < size m
    → s.hopper ≡ map Text (dense_deck image start) ++ rest
    → after_steps (dense_steps (length (dense_deck image start))) (load_key s) ≡ record s { core = overlay s.core image start; regs = on_at s.regs start; panel = set LAST_CARD (has_none_left rest) (panel_for_load s.panel); hopper = rest; mode = Running }
dense_loaded_from image start m s rest each lowest sized long under below_end hopper = leads_there image start m s rest sized long each lowest under below_end hopper
