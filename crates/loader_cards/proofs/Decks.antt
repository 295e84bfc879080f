-- The cards of a deck, one after another.
use Rattle.std.proofs.Common.{ℕ, suc, ◌≡◌, ◌+◌, ◌-◌, ◌*◌, ◌<◌, ◌≤◌, inr, Bool, true, false, List, [], ◌∷◌, ◌++◌, length, map, get_or, refl, arith, sym, ◌∙◌, ap, subst}
use Rattle.std.specs.Prelude.{None}
use Rattle.digit_core.specs.declared.Digit.{Digit}
use Rattle.digit_core.specs.Cell.{with_flag}
use Rattle.indicators.specs.declared.Panel.{Panel}
use Rattle.indicators.specs.Panel.{set}
use Rattle.branch_ops.specs.Registers.{on_at}
use Rattle.card_code.specs.Characters.{object_char}
use Rattle.card_code.specs.Entries.{Entry, Text, has_none_left}
use Rattle.indicators.specs.Codes.{LAST_CARD}
use Rattle.card_unit.specs.CardCalls.{panel_after_card}
use Rattle.cpu_step.specs.declared.machine.Mode.TheVariants.{Running}
use Rattle.cpu_step.specs.State.{State}
use Rattle.cpu_step.specs.Step.{check_stop}
use Rattle.sps_pass_two.specs.Image.{DigitRun, digit_at, declared_digit}
use Rattle.card_columns.specs.Orders.{order}
use Rattle.deck_punch.specs.Cards.{read_and_go, right_part, unflagging, segment_digits, transfer_digits, card_of, transfer_card}
use Rattle.deck_punch.specs.Overlay.{cell_or}
use Rattle.card_columns.proofs.GoodDigits.{Good, IsCard, good_by, good_order, good_zeros}
use Rattle.card_steps.proofs.HeldDigits.{Holds, part_held, fetch_held, first_operand}
use Rattle.card_steps.proofs.CardsTaken.{Row}
use Rattle.card_steps.proofs.Leading.{Leads, leads_none, leads_on, leads_then}
use Rattle.card_steps.proofs.CardDigits.{laid, laid_length, laid_there, laid_elsewhere}
use Rattle.card_steps.proofs.Rows.{row_B}
use Rattle.loader_cards.proofs.Segments.{IsSegment, AreSegments, puts_at, cell_twice}
use Rattle.loader_cards.proofs.Card.{right_length, card_loads}
use Rattle.card_steps.proofs.Lamps.{still_quiet, last_set}
use Rattle.card_steps.proofs.NextCard.{next_state}
use Rattle.deck_punch.proofs.TransferCard.{start_card}

good_read : (ds : List Digit) → Good ds → Good (read_and_go ds)
good_read ds g = good_order 3 6 0 500 (order 4 9 0 0 ds) (omega arith) (omega arith) (good_order 4 9 0 0 ds (omega arith) (omega arith) g)

-- the card of two digits or more, by its lowest digit's flag
many_card : (b : Bool) (low high : ℕ) (ds : List Digit) → length ds ≤ 32 → Good ds → IsCard (order 2 6 high 79 (unflagging b low (read_and_go (right_part ds))))
many_card true low high ds few g =
    let r = good_read (right_part ds) (good_zeros (32 - length ds) ds g) in
    let k : length (right_part ds) ≡ 32 = right_length ds few in
    record { whole = rw k; good = good_order 2 6 high 79 (order 4 1 0 0 (read_and_go (right_part ds))) (omega arith) (omega arith) (good_order 4 1 0 0 (read_and_go (right_part ds)) (omega arith) (omega arith) r); jump = refl }
many_card false low high ds few g =
    let r = good_read (right_part ds) (good_zeros (32 - length ds) ds g) in
    let k : length (right_part ds) ≡ 32 = right_length ds few in
    record { whole = rw k; good = good_order 2 6 high 79 (order 3 3 low 0 (read_and_go (right_part ds))) (omega arith) (omega arith) (good_order 3 3 low 0 (read_and_go (right_part ds)) (omega arith) (omega arith) r); jump = refl }

by_digits : (n low : ℕ) (ds : List Digit) → IsSegment n (record { from = low; digits = ds }) → IsCard (segment_digits low ds)
unfolding segment_digits
by_digits n low [] seg = let some : 1 ≤ 0 = seg.some in absurd (omega arith)
by_digits n low (d ∷ []) seg =
    let one : Good (d ∷ []) = (seg.good 0 (omega arith), tt) in
    let r = good_read (right_part (d ∷ [])) (good_zeros 31 (d ∷ []) one) in
    record { whole = refl; good = good_order 2 5 low 79 (order 4 1 0 0 (read_and_go (right_part (d ∷ [])))) (omega arith) (omega arith) (good_order 4 1 0 0 (read_and_go (right_part (d ∷ []))) (omega arith) (omega arith) r); jump = refl }
by_digits n low (d ∷ e ∷ ds) seg =
    let most : suc (suc (length ds)) ≤ 32 = seg.most in
    let above = good_by (e ∷ ds) (λ i l. seg.good (suc i) (omega arith)) in
    many_card d.flag low (low + suc (length ds)) (with_flag true d ∷ e ∷ ds) most (seg.good 0 (omega arith), above)

-- the card of a segment is a card
segment_card : (n : ℕ) (g : DigitRun) → IsSegment n g → IsCard (segment_digits g.from g.digits)
segment_card n g seg = by_digits n g.from g.digits seg

-- the first card of a deck of these segments, and what stands behind it in the hopper
abbrev pub front : ℕ → List DigitRun → List Digit
front start [] = transfer_digits start
front start (g ∷ gs) = segment_digits g.from g.digits

abbrev pub behind : ℕ → List DigitRun → List Entry → List Entry
behind start [] rest = rest
behind start (g ∷ gs) rest = Text (map object_char (front start gs)) ∷ behind start gs rest

pub front_card : (n start : ℕ) (gs : List DigitRun) → AreSegments n gs → IsCard (front start gs)
front_card n start [] segs = start_card start
front_card n start (g ∷ gs) segs = segment_card n g segs.0

-- the hopper of the deck
pub deck_hopper : (start : ℕ) (gs : List DigitRun) (rest : List Entry) → map Text (map card_of gs ++ transfer_card start ∷ []) ++ rest ≡ Text (map object_char (front start gs)) ∷ behind start gs rest
deck_hopper start [] rest = refl
deck_hopper start (g ∷ gs) rest = ap (λ (es : List Entry). Text (card_of g) ∷ es) (deck_hopper start gs rest)

-- a deck is in the hopper but for its first card, which stands in 00000 to 00079, and the machine is at 00000
pub record Begins (start : ℕ) (gs : List DigitRun) (panel : Panel) (s : State) (rest : List Entry) : Type 0 where
  pub at : s.regs.ir ≡ 0
  pub running : s.mode ≡ Running
  pub quiet : check_stop s.panel ≡ None
  pub small : length s.core < 100000
  pub room : 80 ≤ length s.core
  pub segments : AreSegments (length s.core) gs
  pub hopper : s.hopper ≡ behind start gs rest
  pub lamp : s.panel ≡ set LAST_CARD (has_none_left (behind start gs rest)) panel
  pub card : Holds s.core 0 (front start gs)

-- the segments stand in core, and the transfer card in 00000 to 00079
pub record Ends (start : ℕ) (gs : List DigitRun) (panel : Panel) (steps : ℕ) (s : State) (rest : List Entry) (ir : ℕ) : Type 0 where
  pub core : List ℕ
  pub leads : Leads steps s (record s { core = core; hopper = rest; panel = set LAST_CARD (has_none_left rest) panel; regs = on_at s.regs ir })
  pub transfer : Holds core 0 (transfer_digits start)
  pub cells : (a : ℕ) → 80 ≤ a → get_or core a 0 ≡ cell_or (declared_digit gs a) (get_or s.core a 0)
  pub long : length core ≡ length s.core

pub cards_load : (gs : List DigitRun) (start : ℕ) (panel : Panel) (s : State) (rest : List Entry) → Begins start gs panel s rest → Ends start gs panel (4 * length gs) s rest 0
unfolding declared_digit
cards_load [] start panel s rest b = record {
  core = s.core;
  leads = subst (λ (t : State). Leads 0 s t) (λ i. record s { hopper = b.hopper i; panel = b.lamp i; regs = record { ir = b.at i; ir2 = s.regs.ir2 } }) (leads_none s b.running);
  transfer = b.card;
  cells = λ a h. refl;
  long = refl;
}
cards_load (g ∷ gs) start panel s rest b =
    let small : length s.core < 100000 = b.small in
    let room : 80 ≤ length s.core = b.room in
    let next : List Digit = front start gs in
    let later : List Entry = behind start gs rest in
    let card : IsCard (front start gs) = front_card (length s.core) start gs b.segments.1 in
    let whole : length (front start gs) ≡ 80 = card.whole in
    let one = card_loads s g next later b.at (record { running = b.running; quiet = b.quiet; small = b.small; room = b.room; hopper = b.hopper; card = card }) b.segments.0 b.card in
    let p : length one.core ≡ length s.core = one.puts.long in
    let l : length (laid one.core 0 next) ≡ length s.core = laid_length next one.core 0 ∙ p in
    let s4 : State = next_state s one.core next later in
    let lamp : panel_after_card (has_none_left later) s.panel ≡ set LAST_CARD (has_none_left later) panel = ap (panel_after_card (has_none_left later)) b.lamp ∙ last_set panel (has_none_left later) in
    let more = cards_load gs start panel s4 rest (record {
      at = refl;
      running = b.running;
      quiet = still_quiet s (has_none_left later) b.quiet;
      small = omega arith;
      room = omega arith;
      segments = rw l b.segments.1;
      hopper = refl;
      lamp = lamp;
      card = laid_there next one.core 0 (omega arith);
    }) in
    let e : 4 + 4 * length gs ≡ 4 * suc (length gs) = omega arith in
    let last : State = record s { core = more.core; hopper = rest; panel = set LAST_CARD (has_none_left rest) panel; regs = on_at s.regs 0 } in
    record {
      core = more.core;
      leads = rw (← e) (leads_then 4 (4 * length gs) s s4 last one.leads more.leads);
      transfer = more.transfer;
      cells = λ a h.
          more.cells a h ∙ ap (cell_or (declared_digit gs a)) (laid_elsewhere next one.core 0 a (inr (omega arith)) ∙ puts_at s.core one.core g a one.puts)
          ∙ cell_twice (declared_digit gs a) (digit_at g a) (get_or s.core a 0);
      long = more.long ∙ l;
    }

-- the whole deck: its cards, and the jump to the start
pub deck_loads : (gs : List DigitRun) (start : ℕ) (panel : Panel) (s : State) (rest : List Entry) → start < length s.core → Begins start gs panel s rest → Ends start gs panel (4 * length gs + 1) s rest start
unfolding transfer_digits set
deck_loads gs start panel s rest below b =
    let small : length s.core < 100000 = b.small in
    let d = cards_load gs start panel s rest b in
    let n : length d.core ≡ length s.core = d.long in
    let end : State = record s { core = d.core; hopper = rest; panel = set LAST_CARD (has_none_left rest) panel; regs = on_at s.regs 0 } in
    let quiet : check_stop panel ≡ None = ap check_stop (sym b.lamp) ∙ b.quiet in
    let i = part_held d.transfer 0 12 (omega arith) in
    let entered_at : State = record s { core = d.core; hopper = rest; panel = set LAST_CARD (has_none_left rest) panel; regs = on_at s.regs start } in
    let jump : Row end entered_at =
    row_B end (record { at = 0; cells = order 4 9 start 0 [] }) quiet (fetch_held d.core 0 4 9 start 0 i (omega arith) (omega arith) refl)
    start (first_operand d.core 0 4 9 start 0 i (omega arith) (omega arith)) refl in
    record {
      core = d.core;
      leads = leads_then (4 * length gs) 1 s end entered_at d.leads (leads_on 0 end entered_at entered_at b.running jump (leads_none entered_at b.running));
      transfer = d.transfer;
      cells = d.cells;
      long = d.long;
    }
