-- The last two steps of a card: the next card is read over it, and the machine is at 00000 again.
use Rattle.std.proofs.Common.{ℕ, ◌≡◌, ◌+◌, ◌<◌, ◌≤◌, List, [], ◌∷◌, length, map, refl, arith}
use Rattle.std.specs.Prelude.{None}
use Rattle.digit_core.specs.declared.Digit.{Digit}
use Rattle.branch_ops.specs.Registers.{on_at}
use Rattle.card_code.specs.Characters.{object_char}
use Rattle.card_code.specs.Entries.{Entry, Text, has_none_left}
use Rattle.card_unit.specs.CardCalls.{panel_after_card}
use Rattle.card_columns.specs.Orders.{order}
use Rattle.card_columns.proofs.GoodDigits.{IsCard}
use Rattle.cpu_step.specs.declared.machine.Mode.TheVariants.{Running}
use Rattle.cpu_step.specs.State.{State}
use Rattle.cpu_step.specs.Step.{check_stop}
use Rattle.card_steps.proofs.HeldDigits.{Holds, part_held, fetch_held, first_operand}
use Rattle.card_steps.proofs.CardsTaken.{Row}
use Rattle.card_steps.proofs.Leading.{Leads, leads_none, leads_on}
use Rattle.card_steps.proofs.CardDigits.{laid, laid_length, laid_there}
use Rattle.card_steps.proofs.Rows.{row_RN, row_B}
use Rattle.card_steps.proofs.Lamps.{still_quiet}

-- the state with the next card in 00000 to 00079, at 00000
abbrev pub next_state : State → List ℕ → List Digit → List Entry → State
next_state s core next rest = record s { core = laid core 0 next; hopper = rest; panel = panel_after_card (has_none_left rest) s.panel; regs = on_at s.regs 0 }

-- what is asked of the state in which a card is carried out
pub record Ready (s : State) (next : List Digit) (rest : List Entry) : Type 0 where
  pub running : s.mode ≡ Running
  pub quiet : check_stop s.panel ≡ None
  pub small : length s.core < 100000
  pub room : 80 ≤ length s.core
  pub hopper : s.hopper ≡ Text (map object_char next) ∷ rest
  pub card : IsCard next

-- the third and the fourth step of a card
pub read_and_jump : (s : State) (next : List Digit) (rest : List Entry) → s.regs.ir ≡ 24 → Ready s next rest → Holds s.core 24 (order 3 6 0 500 []) → Leads 2 s (next_state s s.core next rest)
read_and_jump s next rest at r i =
    let room : 80 ≤ length s.core = r.room in
    let small : length s.core < 100000 = r.small in
    let whole : length next ≡ 80 = r.card.whole in
    let s3 : State = record s { core = laid s.core 0 next; hopper = rest; panel = panel_after_card (has_none_left rest) s.panel; regs = on_at s.regs (s.regs.ir + 12) } in
    let l : length (laid s.core 0 next) ≡ length s.core = laid_length next s.core 0 in
    let quiet3 = still_quiet s (has_none_left rest) r.quiet in
    let a : Row s s3 =
    row_RN s (record { at = 24; cells = order 3 6 0 500 [] }) r.quiet (rw at (fetch_held s.core 24 3 6 0 500 i (omega arith) (omega arith) refl))
    0 (rw at (first_operand s.core 24 3 6 0 500 i (omega arith) (omega arith)))
    refl refl refl next rest whole r.card.good (omega arith) r.hopper quiet3 in
    let j = rw (r.card.jump) at (part_held (laid_there next s.core 0 (omega arith)) 36 12 (omega arith)) in
    let b : Row s3 (next_state s s.core next rest) =
    row_B s3 (record { at = 36; cells = order 4 9 0 0 [] }) quiet3 (rw at (fetch_held (laid s.core 0 next) 36 4 9 0 0 j (omega arith) (omega arith) refl))
    0 (rw at (first_operand (laid s.core 0 next) 36 4 9 0 0 j (omega arith) (omega arith))) refl in
    leads_on 1 s s3 (next_state s s.core next rest) r.running a
    (leads_on 0 s3 (next_state s s.core next rest) (next_state s s.core next rest) r.running b (leads_none (next_state s s.core next rest) r.running))
