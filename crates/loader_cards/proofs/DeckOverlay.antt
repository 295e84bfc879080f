-- The deck loads its image over any core.
use Rattle.std.proofs.Common.{ℕ, ◌≡◌, ◌+◌, ◌*◌, ◌<◌, ◌≤◌, inr, List, [], ◌∷◌, ◌++◌, length, map, get_or, Option, refl, sym, ◌∙◌, ap, arith, length-append, All}
use Rattle.std.proofs.lemmas.List.{length-map}
use Rattle.digit_core.specs.declared.Digit.{Digit}
use Rattle.digit_core.specs.Cell.{unflagged_digit}
use Rattle.digit_core.specs.Size.{IsSize, size}
use Rattle.indicators.specs.Panel.{set}
use Rattle.indicators.specs.Lamps.{panel_for_load}
use Rattle.branch_ops.specs.Registers.{on_at}
use Rattle.card_code.specs.Entries.{Entry, Text, has_none_left}
use Rattle.indicators.specs.Codes.{LAST_CARD}
use Rattle.card_unit.specs.CardCalls.{panel_after_card}
use Rattle.card_unit.specs.Reader.{read_card_numeric}
use Rattle.cpu_step.specs.declared.machine.Mode.TheVariants.{Running}
use Rattle.cpu_step.specs.State.{State}
use Rattle.cpu_step.specs.Load.{state_for_load, load_key}
use Rattle.sps_pass_two.specs.Image.{DigitRun, digit_at, declared_digit, or_else}
use Rattle.sps_pass_two.specs.Kept.{IsPiece, IsRunBelow, lowest_declared}
use Rattle.deck_punch.specs.declared.form.DeckForm.TheVariants.{SelfLoading}
use Rattle.deck_punch.specs.Cards.{card_of, transfer_card}
use Rattle.deck_punch.specs.Tables.{table_piece, other_pieces, with_tables}
use Rattle.deck_punch.specs.Deck.{segments, deck, self_loading_steps}
use Rattle.deck_punch.proofs.Declaring.{cut_declares, or_none}
use Rattle.deck_punch.proofs.WithTables.{table_from, table_length, table_good, table_there, others_low, others_each, others_behind, others_below}
use Rattle.deck_punch.specs.Overlay.{cell_or, overlay}
use Rattle.card_steps.specs.Steps.{after_steps}
use Rattle.loader_cards.specs.Loads.{state_at_start, LoadsOver, Loads}
use Rattle.card_steps.proofs.Leading.{deck_takes}
use Rattle.card_steps.proofs.CardDigits.{laid, laid_length, laid_there, laid_elsewhere, ReadsCard, card_read}
use Rattle.loader_cards.proofs.Segments.{AreSegments, IsLow, cut_segments, pieces_low}
use Rattle.loader_cards.proofs.OverlayByCells.{table_beside, overlaid_by}
use Rattle.card_columns.proofs.GoodDigits.{IsCard}
use Rattle.loader_cards.proofs.Decks.{front, behind, front_card, deck_hopper, Begins, Ends, deck_loads}
use Rattle.card_steps.proofs.Lamps.{lamp_first, lamp_twice, quiet_first}

-- the table piece is a run from 00100 on
pub table_low : (n : ℕ) (image : List DigitRun) → 400 ≤ n → All IsPiece image → IsLow n (table_piece image)
table_low n image h each = record {
  low = omega (arith, table_from image);
  high = omega (arith, table_from image, table_length image);
  good = λ i l. table_good image each i (unflagged_digit 0) l;
}

-- the segments of a deck
deck_segments : (n : ℕ) (image : List DigitRun) → 400 ≤ n → All IsPiece image → All (IsRunBelow n) image → AreSegments n (segments image)
deck_segments n image h each under = cut_segments n (with_tables image) (table_low n image h each, pieces_low n (other_pieces image) (others_each image each) (others_behind image) (others_below n image under))

deck_declares : (image : List DigitRun) (a : ℕ) → declared_digit (segments image) a ≡ or_else (declared_digit (other_pieces image) a) (digit_at (table_piece image) a)
unfolding declared_digit
deck_declares image a = cut_declares SelfLoading (with_tables image) a

module _ (image : List DigitRun) (start m : ℕ) (s : State) (rest : List Entry) (sized : IsSize m) (long : length s.core ≡ size m) (each : All IsPiece image) (lowest : All (λ r. lowest_declared ≤ r.from) image) (under : All (IsRunBelow (size m)) image) (below_end : start < size m)
    (hopper : s.hopper ≡ map Text (deck image start) ++ rest) where
  abbrev gs : List DigitRun
  gs = segments image

  abbrev card : List Digit
  card = front start gs

  abbrev later : List Entry
  later = behind start gs rest

  enough : 20000 ≤ length s.core
  enough = let a : 1 ≤ m = sized.0 in omega (arith, long)

  small : length s.core < 100000
  small = let a : m ≤ 3 = sized.1 in omega (arith, long)

  are : AreSegments (length s.core) gs
  are = rw long (deck_segments (size m) image (omega (arith, enough, long)) each under)

  is_card : IsCard card
  is_card = front_card (length s.core) start gs are

  -- the state that the Load key leaves
  abbrev s0 : State
  s0 = record s { core = laid s.core 0 card; regs = on_at s.regs 0; panel = panel_after_card (has_none_left later) (panel_for_load s.panel); hopper = later; mode = Running }

  first_read : ReadsCard (state_for_load s) (read_card_numeric (length s.core) 0 s.hopper) (laid s.core 0 card) later
  first_read = card_read later (state_for_load s) 0 card is_card.whole is_card.good (omega (arith, enough)) (hopper ∙ deck_hopper start gs rest)

  key_pressed : load_key s ≡ s0
  unfolding load_key
  key_pressed = rw (first_read.state, first_read.answer) refl

  carded : length (laid s.core 0 card) ≡ length s.core
  carded = laid_length card s.core 0

  begins : Begins start gs (panel_for_load s.panel) s0 rest
  begins = record {
    at = refl;
    running = refl;
    quiet = quiet_first s.panel (has_none_left later);
    small = omega (arith, small, carded);
    room = omega (arith, enough, carded);
    segments = rw carded are;
    hopper = refl;
    lamp = lamp_first s.panel (has_none_left later);
    card = laid_there card s.core 0 (let w : length card ≡ 80 = is_card.whole in omega (arith, enough));
  }

  ends : Ends start gs (panel_for_load s.panel) (4 * length gs + 1) s0 rest start
  ends = deck_loads gs start (panel_for_load s.panel) s0 rest (omega (arith, carded, long, below_end)) begins

  -- each cell above the transfer card
  over : (a : ℕ) → 80 ≤ a → get_or ends.core a 0 ≡ cell_or (or_else (declared_digit (other_pieces image) a) (digit_at (table_piece image) a)) (get_or s.core a 0)
  over a h =
      ends.cells a h ∙ ap (cell_or (declared_digit gs a)) (laid_elsewhere card s.core 0 a (inr (let w : length card ≡ 80 = is_card.whole in omega arith)))
      ∙ ap (λ (o : Option Digit). cell_or o (get_or s.core a 0)) (deck_declares image a)

  core_is : ends.core ≡ overlay s.core image start
  core_is =
      overlaid_by image start s.core ends.core lowest (ends.long ∙ carded) ends.transfer
      (λ a low high. rw (others_low image a high, table_there image a low high) at (over a (omega arith)))
      (λ a h far. rw (table_beside image a far, or_none) at (over a h))

  steps_are : self_loading_steps (length (deck image start)) ≡ 4 * length gs + 1
  steps_are =
      let a = length-append (map card_of gs) (transfer_card start ∷ []) in
      let b : length (map card_of gs) ≡ length gs = length-map gs card_of in
      omega arith

  -- the state that the deck leaves, by the state before the Load key
  abbrev loaded_state : State
  loaded_state = record s { core = overlay s.core image start; regs = on_at s.regs start; panel = set LAST_CARD (has_none_left rest) (panel_for_load s.panel); hopper = rest; mode = Running }

  steps_made : after_steps (4 * length gs + 1) s0 ≡ loaded_state
  steps_made = ends.leads.there ∙ (λ i. record s { core = core_is i; regs = on_at s.regs start; panel = set LAST_CARD (has_none_left rest) (panel_for_load s.panel); hopper = rest; mode = Running })

  leads_there : after_steps (self_loading_steps (length (deck image start))) (load_key s) ≡ loaded_state
  leads_there = ap (after_steps (self_loading_steps (length (deck image start)))) key_pressed ∙ ap (λ (n : ℕ). after_steps n s0) steps_are ∙ steps_made

  is_entered : loaded_state ≡ state_at_start (load_key s) image start s.core rest
  is_entered =
      (λ i. record s { core = overlay s.core image start; regs = on_at s.regs start; panel = sym (lamp_twice (panel_for_load s.panel) (has_none_left rest) (has_none_left later)) i; hopper = rest; mode = Running })
      ∙ ap (λ (x : State). state_at_start x image start s.core rest) (sym key_pressed)

  loads_over : LoadsOver (deck image start) image start (self_loading_steps (length (deck image start))) s rest
  loads_over = record {
    running = λ n h. ap (λ (x : State). (after_steps n x).mode) key_pressed ∙ ends.leads.running n (omega (arith, steps_are));
    loaded = leads_there ∙ is_entered;
    takes = rw steps_are (deck_takes (deck image start) (4 * length gs + 1) s s0 _ hopper key_pressed first_read.takes ends.leads);
  }

-- for each image whose digits are good and stand from 00100 on, and each start
pub loads : (image : List DigitRun) (start : ℕ) → All IsPiece image → All (λ r. lowest_declared ≤ r.from) image → Loads (deck image start) image start (self_loading_steps (length (deck image start)))
loads image start each lowest m s rest sized long under below_end hopper = loads_over image start m s rest sized long each lowest under below_end hopper

-- the state that the deck leaves
pub loaded_from : (image : List DigitRun) (start m : ℕ) (s : State) (rest : List Entry) → All IsPiece image → All (λ r. lowest_declared ≤ r.from) image → IsSize m → length s.core ≡ size m → All (IsRunBelow (size m)) image → start < size m
    → s.hopper ≡ map Text (deck image start) ++ rest
    → after_steps (self_loading_steps (length (deck image start))) (load_key s) ≡ record s { core = overlay s.core image start; regs = on_at s.regs start; panel = set LAST_CARD (has_none_left rest) (panel_for_load s.panel); hopper = rest; mode = Running }
loaded_from image start m s rest each lowest sized long under below_end hopper = leads_there image start m s rest sized long each lowest under below_end hopper
