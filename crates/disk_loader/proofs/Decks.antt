-- The induction over the cards of a bootstrap deck.
use Rattle.std.proofs.Common.{ℕ, suc, ◌≡◌, ◌+◌, ◌*◌, ◌<◌, ◌≤◌, inr, Bool, true, false, List, [], ◌∷◌, ◌++◌, length, map, get_or, slice_set, refl, arith, sym, ◌∙◌, ap, subst, All}
use Rattle.std.proofs.lemmas.List.{length-set}
use Rattle.std.specs.Prelude.{None, ◌||◌}
use Rattle.digit_core.specs.declared.Digit.{Digit}
use Rattle.indicators.specs.declared.Panel.{Panel}
use Rattle.indicators.specs.Panel.{set}
use Rattle.indicators.specs.Codes.{LAST_CARD}
use Rattle.branch_ops.specs.Registers.{on_at}
use Rattle.card_code.specs.Characters.{object_char}
use Rattle.card_code.specs.Entries.{Entry, Text, has_none_left}
use Rattle.card_unit.specs.CardCalls.{panel_after_card}
use Rattle.disk_1311.specs.Disk.{cylinder_of}
use Rattle.cpu_step.specs.declared.machine.Mode.TheVariants.{Running}
use Rattle.cpu_step.specs.State.{State}
use Rattle.cpu_step.specs.Step.{check_stop}
use Rattle.sps_pass_two.specs.Image.{DigitRun}
use Rattle.sps_pass_two.specs.Kept.{IsPiece}
use Rattle.card_columns.specs.Orders.{order}
use Rattle.deck_punch.specs.Cards.{transfer_card, transfer_digits}
use Rattle.card_steps.proofs.HeldDigits.{Holds, part_held, fetch_held, first_operand}
use Rattle.card_steps.proofs.CardsTaken.{Row}
use Rattle.card_steps.proofs.Leading.{Leads, leads_none, leads_on, leads_then}
use Rattle.card_steps.proofs.CardDigits.{laid, laid_length, laid_there, laid_elsewhere}
use Rattle.card_steps.proofs.Rows.{row_B}
use Rattle.card_columns.proofs.GoodDigits.{IsCard}
use Rattle.card_steps.proofs.NextCard.{next_state}
use Rattle.card_steps.proofs.Lamps.{still_quiet, last_set}
use Rattle.deck_punch.proofs.TransferCard.{start_card}
use Rattle.disk_loader.specs.Hundreds.{hundred_of}
use Rattle.disk_loader.specs.declared.deck.Stretch.{Stretch}
use Rattle.disk_loader.specs.Bootstrap.{stretch_digits, stretch_card}
use Rattle.disk_loader.specs.DiskLoads.{HasSectors}
use Rattle.disk_loader.specs.Cover.{AreStretches, in_stretch, in_any}
use Rattle.disk_loader.proofs.Loading.{stretch_is_card, in_cell, stretch_loads}

-- the first card of a deck of these stretches, and what stands behind it in the hopper
abbrev pub front : ℕ → List Stretch → List Digit
front start [] = transfer_digits start
front start (s ∷ ss) = stretch_digits s

abbrev pub behind : ℕ → List Stretch → List Entry → List Entry
behind start [] rest = rest
behind start (s ∷ ss) rest = Text (map object_char (front start ss)) ∷ behind start ss rest

pub front_card : (start : ℕ) (ss : List Stretch) → IsCard (front start ss)
front_card start [] = start_card start
front_card start (s ∷ ss) = stretch_is_card s

-- the hopper of the deck
pub deck_hopper : (start : ℕ) (ss : List Stretch) (rest : List Entry) → map Text (map stretch_card ss ++ transfer_card start ∷ []) ++ rest ≡ Text (map object_char (front start ss)) ∷ behind start ss rest
deck_hopper start [] rest = refl
deck_hopper start (s ∷ ss) rest = ap (λ (es : List Entry). Text (stretch_card s) ∷ es) (deck_hopper start ss rest)

-- the arms once the stretches were sought
abbrev pub arms_after : List ℕ → List Stretch → List ℕ
arms_after arms [] = arms
arms_after arms (s ∷ ss) = arms_after (slice_set arms 0 (cylinder_of s.from)) ss

-- a deck is in the hopper but for its first card, which stands in 00000 to 00079, and the machine is at 00000
pub record Begins (image : List DigitRun) (start past : ℕ) (ss : List Stretch) (panel : Panel) (s : State) (rest : List Entry) : Type 0 where
  pub at : s.regs.ir ≡ 0
  pub running : s.mode ≡ Running
  pub quiet : check_stop s.panel ≡ None
  pub small : length s.core < 100000
  pub room : 80 ≤ length s.core
  pub fits : 100 * past ≤ length s.core
  pub armed : 1 ≤ length s.arms
  pub sectors : HasSectors image s.sectors
  pub stretches : AreStretches image 1 past ss
  pub hopper : s.hopper ≡ behind start ss rest
  pub lamp : s.panel ≡ set LAST_CARD (has_none_left (behind start ss rest)) panel
  pub card : Holds s.core 0 (front start ss)

-- the stretches stand in core, and the transfer card in 00000 to 00079
pub record Ends (image : List DigitRun) (start : ℕ) (ss : List Stretch) (panel : Panel) (steps : ℕ) (s : State) (rest : List Entry) (ir : ℕ) : Type 0 where
  pub core : List ℕ
  pub leads : Leads steps s (record s { core = core; hopper = rest; panel = set LAST_CARD (has_none_left rest) panel; regs = on_at s.regs ir; arms = arms_after s.arms ss })
  pub transfer : Holds core 0 (transfer_digits start)
  pub cells : (a : ℕ) → 80 ≤ a → get_or core a 0 ≡ in_cell image (in_any ss (hundred_of a)) a (get_or s.core a 0)
  pub long : length core ≡ length s.core

cell_twice : (image : List DigitRun) (b c : Bool) (a before : ℕ) → in_cell image c a (in_cell image b a before) ≡ in_cell image (b || c) a before
cell_twice image true true a before = refl
cell_twice image true false a before = refl
cell_twice image false c a before = refl

module _ (image : List DigitRun) (each : All IsPiece image) (past : ℕ) (most : past ≤ 600) where
  pub cards_load : (ss : List Stretch) (start : ℕ) (panel : Panel) (s : State) (rest : List Entry) → Begins image start past ss panel s rest → Ends image start ss panel (4 * length ss) s rest 0
  cards_load [] start panel s rest b = record {
    core = s.core;
    leads = subst (λ (t : State). Leads 0 s t) (λ i. record s { hopper = b.hopper i; panel = b.lamp i; regs = record { ir = b.at i; ir2 = s.regs.ir2 } }) (leads_none s b.running);
    transfer = b.card;
    cells = λ a h. refl;
    long = refl;
  }
  cards_load (st ∷ ss) start panel s rest b =
      let small : length s.core < 100000 = b.small in
      let room : 80 ≤ length s.core = b.room in
      let fits : 100 * past ≤ length s.core = b.fits in
      let next : List Digit = front start ss in
      let later : List Entry = behind start ss rest in
      let card : IsCard (front start ss) = front_card start ss in
      let whole : length (front start ss) ≡ 80 = card.whole in
      let one = stretch_loads image each s st next later b.at (record { running = b.running; quiet = b.quiet; small = b.small; room = b.room; hopper = b.hopper; card = card })
      b.armed b.sectors past most b.fits b.stretches.0 b.card in
      let p : length one.core ≡ length s.core = one.long in
      let l : length (laid one.core 0 next) ≡ length s.core = laid_length next one.core 0 ∙ p in
      let sought : State = record s { arms = slice_set s.arms 0 (cylinder_of st.from) } in
      let s4 : State = next_state sought one.core next later in
      let armed : 1 ≤ length (slice_set s.arms 0 (cylinder_of st.from)) = let n = length-set s.arms 0 (cylinder_of st.from) in let m : 1 ≤ length s.arms = b.armed in omega arith in
      let lamp : panel_after_card (has_none_left later) s.panel ≡ set LAST_CARD (has_none_left later) panel = ap (panel_after_card (has_none_left later)) b.lamp ∙ last_set panel (has_none_left later) in
      let more = cards_load ss start panel s4 rest (record {
        at = refl;
        running = b.running;
        quiet = still_quiet s (has_none_left later) b.quiet;
        small = omega arith;
        room = omega arith;
        fits = omega arith;
        armed = armed;
        sectors = b.sectors;
        stretches = b.stretches.1;
        hopper = refl;
        lamp = lamp;
        card = laid_there next one.core 0 (omega arith);
      }) in
      let e : 4 + 4 * length ss ≡ 4 * suc (length ss) = omega arith in
      let last : State = record s { core = more.core; hopper = rest; panel = set LAST_CARD (has_none_left rest) panel; regs = on_at s.regs 0; arms = arms_after s.arms (st ∷ ss) } in
      record {
        core = more.core;
        leads = rw (← e) (leads_then 4 (4 * length ss) s s4 last one.leads more.leads);
        transfer = more.transfer;
        cells = λ a h.
            more.cells a h ∙ ap (in_cell image (in_any ss (hundred_of a)) a) (laid_elsewhere next one.core 0 a (inr (omega arith)) ∙ one.cells a)
            ∙ cell_twice image (in_stretch st (hundred_of a)) (in_any ss (hundred_of a)) a (get_or s.core a 0);
        long = more.long ∙ l;
      }

  -- the whole deck: its cards, and the jump to the start
  pub deck_loads : (ss : List Stretch) (start : ℕ) (panel : Panel) (s : State) (rest : List Entry) → start < length s.core → Begins image start past ss panel s rest → Ends image start ss panel (4 * length ss + 1) s rest start
  unfolding transfer_digits set
  deck_loads ss start panel s rest below b =
      let small : length s.core < 100000 = b.small in
      let d = cards_load ss start panel s rest b in
      let n : length d.core ≡ length s.core = d.long in
      let end : State = record s { core = d.core; hopper = rest; panel = set LAST_CARD (has_none_left rest) panel; regs = on_at s.regs 0; arms = arms_after s.arms ss } in
      let quiet : check_stop panel ≡ None = ap check_stop (sym b.lamp) ∙ b.quiet in
      let i = part_held d.transfer 0 12 (omega arith) in
      let entered_at : State = record s { core = d.core; hopper = rest; panel = set LAST_CARD (has_none_left rest) panel; regs = on_at s.regs start; arms = arms_after s.arms ss } in
      let jump : Row end entered_at =
      row_B end (record { at = 0; cells = order 4 9 start 0 [] }) quiet (fetch_held d.core 0 4 9 start 0 i (omega arith) (omega arith) refl)
      start (first_operand d.core 0 4 9 start 0 i (omega arith) (omega arith)) refl in
      record {
        core = d.core;
        leads = leads_then (4 * length ss) 1 s end entered_at d.leads (leads_on 0 end entered_at entered_at b.running jump (leads_none entered_at b.running));
        transfer = d.transfer;
        cells = d.cells;
        long = d.long;
      }
