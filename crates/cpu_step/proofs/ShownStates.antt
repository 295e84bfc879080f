-- States that a machine shows.
use Rattle.std.proofs.Common.{◌≡◌, ℕ, List, [], ◌∷◌, take, refl, sym, ◌∙◌, ap, subst, arith}
use Rattle.std.specs.Prelude.{◌-◌, Bool, true, slice_set, Option, Some, None, is_some, ⊤, Result, Ok, Err}
use Rattle.addr_indirect.specs.declared.Stop.{Stop}
use Rattle.addr_indirect.specs.declared.Instr.{Instr}
use Rattle.addr_indirect.specs.Fetch.{fetch}
use Rattle.outside_io.specs.declared.host.Unit as unit
use Rattle.outside_io.specs.World.{World, Seen, at, with_sector}
use Rattle.outside_io.specs.Frame.{Tells, ToldValue}
use Rattle.outside_io.proofs.Frames.{keeps_all}
use Rattle.traces.specs.Trace.{Trace, ends}
use Rattle.card_code.specs.Break.{Break, StopsBy}
use Rattle.digit_core.specs.Cell.{store}
use Rattle.indicators.specs.Panel.{set}
use Rattle.card_code.specs.Entries.{Entry, behind}
use Rattle.card_unit.specs.Hopper.{hopper_left, own_cards, HasReadCards}
use Rattle.card_unit.proofs.ReadSame.{reads_kept}
use Rattle.typewriter.specs.Keys.{keys_left}
use Rattle.typewriter.specs.Keys as keyboard
use Rattle.typewriter.proofs.ReadSame.{reads_kept as keys_kept}
use Rattle.cpu_step.specs.declared.machine.Machine.{Machine}
use Rattle.cpu_step.specs.declared.machine.Mode.TheVariants as mode
use Rattle.cpu_step.specs.declared.machine.Outcome.{Outcome}
use Rattle.cpu_step.specs.declared.machine.Outcome.TheVariants as outcome
use Rattle.cpu_step.specs.declared.machine.Turned.{Turned}
use Rattle.cpu_step.specs.declared.machine.Turned.TheVariants as turned
use Rattle.cpu_step.specs.declared.rows.Row.{Row}
use Rattle.branch_ops.specs.declared.fields.Operands.{Operands}
use Rattle.cpu_step.specs.declared.rows.Found.{Found}
use Rattle.branch_ops.specs.declared.fields.Fields.{Fields}
use Rattle.cpu_step.specs.Rows.{instruction_row}
use Rattle.branch_ops.specs.Fields.{fields_operands, HoldOperands}
use Rattle.cpu_step.specs.State.{State}
use Rattle.cpu_step.specs.Effects.{Effect, CellStored, Light, Arm, Written, Sector, CardTaken, LineTaken, with_bytes, after}
use Rattle.cpu_step.specs.Act.{Next, operands, act, act_with, act_over}
use Rattle.cpu_step.specs.Step.{instruction_trace, instruction, with_parity, state_after_stop, check_stop, state_after_check, settle, step, partial_step}
use Rattle.cpu_step.specs.Machine.{state_with, Shows, Frames, FramesBut, Makes, DidAction, DidFirst, Acts, StopsShort, Steps, is_read}

-- a value that is the told one, where one is told
pub whatever : {A : Type 0} (o : Option A) (x : A) → ToldValue o (λ y. ⊤)
whatever None x = record { given = x; told = tt; holds = tt }
whatever (Some y) x = record { given = y; told = refl; holds = tt }

module _ (m : ℕ) (machine : Machine m) (w : World) where
  -- a state that the machine shows
  abbrev pub some_state : State
  some_state = state_with m machine w (whatever (hopper_left machine.hopper w) []).given (whatever (keys_left machine.keys w) []).given (whatever w.sectors (λ a. [])).given

  pub some_shown : Shows m machine w some_state
  some_shown = record { is = refl; hopper = (whatever (hopper_left machine.hopper w) []).told; keys = (whatever (keys_left machine.keys w) []).told; sectors = (whatever w.sectors (λ a. [])).told }

-- nothing outside changed
pub frames_same : {may_write : unit.Unit → Bool} (m : ℕ) (old new : Machine m) (before : Seen) → new.hopper ≡ old.hopper → new.keys ≡ old.keys → FramesBut may_write m old new before before
frames_same {may_write} m old new before same same_keys = record {
  later = omega arith;
  keeps = keeps_all is_read may_write true before.world;
  told = ap (λ h. is_some (hopper_left h before.world)) same;
  told_keys = ap (λ k. is_some (keys_left k before.world)) same_keys;
  told_sectors = refl;
  own = ap own_cards same;
  cards = reads_kept old.hopper new.hopper before before same refl refl refl refl;
  lines = keys_kept old.keys new.keys before before same_keys refl refl;
}

-- an action that does nothing but answer
pub did_nothing : (m : ℕ) (machine : Machine m) (before : Seen) (r : Result Next Break) → DidAction m (λ s. ends r) machine machine before before r
did_nothing m machine before r = record {
  state = some_state m machine before.world;
  shown = some_shown m machine before.world;
  answers = refl;
  made = some_shown m machine before.world;
  frames = frames_same m machine machine before refl refl;
}

-- no effect changes the mode
after_mode : (es : List Effect) (s : State) → (after s es).mode ≡ s.mode
after_mode [] s = refl
after_mode (CellStored d ∷ es) s = after_mode es (record s { core = store s.core d.at d.digit })
after_mode (Light l ∷ es) s = after_mode es (record s { panel = set l.code l.to s.panel })
after_mode (Arm d c ∷ es) s = after_mode es (record s { arms = slice_set s.arms (d - 1) c })
after_mode (Sector a bytes ∷ es) s = after_mode es (record s { sectors = with_sector a bytes s.sectors })
after_mode (Written u b ∷ es) s = after_mode es (record s { written = at u (with_bytes (b ∷ [])) s.written })
after_mode (LineTaken ∷ es) s = after_mode es (record s { keys = behind s.keys })
after_mode (CardTaken ∷ es) s = after_mode es (record s { hopper = behind s.hopper })

-- so an action leaves the mode as it was
pub did_mode : (m : ℕ) (t : State → Trace Effect Next Break) (old new : Machine m) (before later : Seen) (r : Result Next Break) → DidAction m t old new before later r → new.mode ≡ old.mode
did_mode m t old new before later r did =
    sym (ap (λ (x : State). x.mode) did.made.is) ∙ after_mode (t did.state).effects did.state ∙ ap (λ (x : State). x.mode) did.shown.is

-- the same action, at every state that the machine shows
module _ (m : ℕ) (t u : State → Trace Effect Next Break) (old new : Machine m) (before later : Seen) (same : (s : State) → Shows m old before.world s → u s ≡ t s) where
  pub did_as : (r : Result Next Break) → DidAction m t old new before later r → DidAction m u old new before later r
  did_as r did =
      let e = same did.state did.shown in
      record {
        state = did.state;
        shown = did.shown;
        answers = ap (λ (x : Trace Effect Next Break). x.answer) e ∙ did.answers;
        made = subst (λ (x : Trace Effect Next Break). Shows m new later.world (after did.state x.effects)) (sym e) did.made;
        frames = did.frames;
      }

  pub acts_as : (o : Outcome) → Acts m t old new before later o → Acts m u old new before later o
  acts_as (outcome.Goes regs) did = did_as _ did
  acts_as (outcome.Halts regs) did = did_as _ did
  acts_as (outcome.Stops why) did = did_as _ did
  acts_as outcome.Empty did = did_as _ did
  acts_as outcome.NoKeys did = did_as _ did
  acts_as (outcome.Jam u n) did = did_as _ did
  acts_as outcome.Fails did =
      let e = same did.makes.state did.makes.shown in
      record {
        done = did.done;
        makes = record {
          state = did.makes.state;
          shown = did.makes.shown;
          made = subst (λ (x : Trace Effect Next Break). Shows m new later.world (after did.makes.state (take did.done x.effects))) (sym e) did.makes.made;
          frames = did.makes.frames;
        };
        rose = did.rose;
      }

-- what a machine's fetch, row and operands are, at every state that it shows
module _ (m : ℕ) (machine : Machine m) (w : World) (s : State) (shown : Shows m machine w s) where
  fetch_shown : (r : Result Instr Stop) → r ≡ fetch machine.core machine.regs.ir → fetch s.core s.regs.ir ≡ r
  fetch_shown r is = ap (λ (x : State). fetch x.core x.regs.ir) shown.is ∙ sym is

  pub fetch_stops : (why : Stop) → Err why ≡ fetch machine.core machine.regs.ir → instruction s ≡ ends (Err (StopsBy why))
  unfolding instruction
  fetch_stops why is = rw (fetch_shown (Err why) is) refl

  pub fetched : (i : Instr) → Ok i ≡ fetch machine.core machine.regs.ir → instruction s ≡ instruction_trace i s
  unfolding instruction
  fetched i is = rw (fetch_shown (Ok i) is) refl

  pub row_stops : (i : Instr) (why : Stop) → Ok i ≡ fetch machine.core machine.regs.ir → Err why ≡ instruction_row i → instruction s ≡ ends (Err (StopsBy why))
  row_stops i why is no_row = fetched i is ∙ rw (sym no_row) refl

  pub row_acts : (i : Instr) (f : Found) → Ok i ≡ fetch machine.core machine.regs.ir → Ok f ≡ instruction_row i → instruction s ≡ act f s
  row_acts i f is found = fetched i is ∙ rw (sym found) refl

  -- over the operands that are worked out, and over the fields that hold them
  pub operands_act : (f : Found) (r : Result Operands Stop) → r ≡ operands f.uses machine.core machine.regs.ir → act f s ≡ act_with f.row r s
  operands_act f r is = ap (λ (x : State). act_with f.row (operands f.uses x.core x.regs.ir) s) shown.is ∙ ap (λ (x : Result Operands Stop). act_with f.row x s) (sym is)

  pub fields_act : (row : Row) (x : Fields) (r : Result Operands Stop) → r ≡ fields_operands x machine.core machine.regs.ir → act_over row x s ≡ act_with row r s
  fields_act row x r is = ap (λ (y : State). act_with row (fields_operands x y.core y.regs.ir) s) shown.is ∙ ap (λ (y : Result Operands Stop). act_with row y s) (sym is)

  pub held_act : (f : Found) (x : Fields) → HoldOperands f.uses machine.core machine.regs.ir x → act f s ≡ act_over f.row x s
  held_act f x hold = operands_act f _ hold ∙ sym (fields_act f.row x _ refl)

-- what follows an action changes neither hopper nor keyboard
module _ (m : ℕ) (g : State → State) (mid new : Machine m) (hopper : new.hopper ≡ mid.hopper) (keys : new.keys ≡ mid.keys) (same : (w : World) (h k : List Entry) (p : ℕ → List ℕ) → g (state_with m mid w h k p) ≡ state_with m new w h k p) where
  pub settles : (w : World) (x : State) → Shows m mid w x → Shows m new w (g x)
  settles w x shown =
      let is : g x ≡ state_with m new w x.hopper x.keys x.sectors = ap g shown.is ∙ same w x.hopper x.keys x.sectors in
      let h : (g x).hopper ≡ x.hopper = ap (λ (y : State). y.hopper) is in
      let k : (g x).keys ≡ x.keys = ap (λ (y : State). y.keys) is in
      let p : (g x).sectors ≡ x.sectors = ap (λ (y : State). y.sectors) is in
      record {
        is = is ∙ sym (λ i. state_with m new w (h i) (k i) (p i));
        hopper = subst (λ hp. Tells (hopper_left hp w) (g x).hopper) (sym hopper) (subst (λ (y : List Entry). Tells (hopper_left mid.hopper w) y) (sym h) shown.hopper);
        keys = subst (λ ks. Tells (keys_left ks w) (g x).keys) (sym keys) (subst (λ (y : List Entry). Tells (keys_left mid.keys w) y) (sym k) shown.keys);
        sectors = subst (λ (y : ℕ → List ℕ). Tells w.sectors y) (sym p) shown.sectors;
      }

  pub frames_on : (old : Machine m) (before later : Seen) → Frames m old mid before later → Frames m old new before later
  frames_on old before later f = record {
    later = f.later;
    keeps = f.keeps;
    told = ap (λ hp. is_some (hopper_left hp later.world)) hopper ∙ f.told;
    told_keys = ap (λ ks. is_some (keys_left ks later.world)) keys ∙ f.told_keys;
    told_sectors = f.told_sectors;
    own = ap own_cards hopper ∙ f.own;
    cards = λ start read. subst (λ hp. HasReadCards start hp later.world) (sym hopper) (f.cards start read);
    lines = λ start read. subst (λ ks. keyboard.HasReadLines start ks later.world) (sym keys) (f.lines start read);
  }

-- a step, from its action and what follows it
pub step_made : (m : ℕ) (old mid new : Machine m) (before later : Seen) (r : Result Next Break) → DidAction m instruction old mid before later r → new.hopper ≡ mid.hopper → new.keys ≡ mid.keys
    → ((w : World) (h k : List Entry) (p : ℕ → List ℕ) → settle (state_with m mid w h k p) r ≡ state_with m new w h k p) → Makes m step old new before later
unfolding step
step_made m old mid new before later r did hopper keys same = record {
  state = did.state;
  shown = did.shown;
  made = subst (λ (x : Result Next Break). Shows m new later.world (settle (after did.state (instruction did.state).effects) x)) (sym did.answers)
      (settles m (λ x. settle x r) mid new hopper keys same later.world (after did.state (instruction did.state).effects) did.made);
  frames = frames_on m (λ x. settle x r) mid new hopper keys same old before later did.frames;
}

-- a step in which the host failed
pub step_fails : (m : ℕ) (old mid new : Machine m) (before later : Seen) → DidFirst m instruction old mid before later → new.hopper ≡ mid.hopper → new.keys ≡ mid.keys
    → ((w : World) (h k : List Entry) (p : ℕ → List ℕ) → record (state_with m mid w h k p) { mode = mode.Faulted } ≡ state_with m new w h k p) → StopsShort m partial_step old new before later
unfolding partial_step
step_fails m old mid new before later did hopper keys same = record {
  done = did.done;
  makes = record {
    state = did.makes.state;
    shown = did.makes.shown;
    made = settles m (λ x. record x { mode = mode.Faulted }) mid new hopper keys same later.world _ did.makes.made;
    frames = frames_on m (λ x. record x { mode = mode.Faulted }) mid new hopper keys same old before later did.makes.frames;
  };
  rose = did.rose;
}

-- a step that stops
pub step_stops : (m : ℕ) (old mid new : Machine m) (before later : Seen) (r : Result Next Break) (why : Stop) (answer : Turned) → DidAction m instruction old mid before later r
    → ((w : World) (h k : List Entry) (p : ℕ → List ℕ) → settle (state_with m mid w h k p) r ≡ state_after_stop (state_with m mid w h k p) why)
    → answer ≡ turned.Stop why → new ≡ record mid { panel = with_parity why mid.panel; mode = mode.Stopped why mid.regs.ir } → Steps m old new before later answer
step_stops m old mid new before later r why answer did same answer_is new_is =
    rw (answer_is, new_is) (record { answers = refl; makes = step_made m old mid (record mid { panel = with_parity why mid.panel; mode = mode.Stopped why mid.regs.ir }) before later r did refl refl same })

-- what follows a completed action, by the stop of a check switch
pub checked_by : (m : ℕ) (mid : Machine m) (n : Next) (o : Option Stop) → o ≡ check_stop mid.panel → (w : World) (h k : List Entry) (p : ℕ → List ℕ) → settle (state_with m mid w h k p) (Ok n) ≡ state_after_check o (state_with m mid w h k p) n
checked_by m mid n o is w h k p = ap (λ (x : Option Stop). state_after_check x (state_with m mid w h k p) n) (sym is)
