-- What is left of the inputs of a machine, and what its console shows.
use Rattle.std.proofs.Common.{◌≡◌, ℕ, Bool, List, drop, refl, sym, ◌∙◌, ap, subst}
use Rattle.std.specs.Prelude.{Option, Some, None, IfSome}
use Rattle.outside_io.specs.declared.host.Unit as unit
use Rattle.outside_io.specs.declared.host.Unit.TheVariants as units
use Rattle.outside_io.specs.World.{World, Seen, Goes, world_after_put}
use Rattle.outside_io.specs.Events.{Event, cards_in, lines_in}
use Rattle.card_code.specs.Entries.{Entry}
use Rattle.card_unit.specs.declared.hopper.Hopper.{Hopper}
use Rattle.card_unit.specs.Hopper.{hopper_left, deck_left, own_cards, HasReadCards, IsNewHopper}
use Rattle.typewriter.specs.Keys.{keys_left}
use Rattle.typewriter.specs.Keys as keyboard
use Rattle.cpu_step.specs.declared.machine.Machine.{Machine}
use Rattle.cpu_step.specs.declared.console.Console.{Console}
use Rattle.cpu_step.specs.State.{State}
use Rattle.cpu_step.specs.Machine.{state_with, over_all, state_of, IsPowered, FramesBut}
use Rattle.cpu_step.specs.Console.{shown_on, console_of}
use Rattle.cpu_step.proofs.ExactCards.{state_is}
use Rattle.cpu_step.proofs.InputsTaken.{HasTaken}
use Rattle.ibm1620_cli.specs.Ways.{Way}
use Rattle.ibm1620_cli.specs.Promise.{MachineEnd, HasLeft, LeavesMachine, StandsSomewhere, AsksForInputs, asked}
use Rattle.ibm1620_cli.proofs.TakenInputs.{left_as, left_same}

-- what a told state tells of the cards and of the lines
cards_with : (f : List Entry → List Entry → (ℕ → List ℕ) → State) (same : (es ks : List Entry) (pack : ℕ → List ℕ) → (f es ks pack).hopper ≡ es)
    (o p : Option (List Entry)) (q : Option (ℕ → List ℕ)) (s : State) → over_all f o p q ≡ Some s → o ≡ Some s.hopper
cards_with f same None p q s is = cc
cards_with f same (Some es) None q s is = cc
cards_with f same (Some es) (Some ks) None s is = cc
cards_with f same (Some es) (Some ks) (Some pack) s is = let e : f es ks pack ≡ s = cc in ap Some (sym (same es ks pack) ∙ ap (λ (t : State). t.hopper) e)

lines_with : (f : List Entry → List Entry → (ℕ → List ℕ) → State) (same : (es ks : List Entry) (pack : ℕ → List ℕ) → (f es ks pack).keys ≡ ks)
    (o p : Option (List Entry)) (q : Option (ℕ → List ℕ)) (s : State) → over_all f o p q ≡ Some s → p ≡ Some s.keys
lines_with f same None p q s is = cc
lines_with f same (Some es) None q s is = cc
lines_with f same (Some es) (Some ks) None s is = cc
lines_with f same (Some es) (Some ks) (Some pack) s is = let e : f es ks pack ≡ s = cc in ap Some (sym (same es ks pack) ∙ ap (λ (t : State). t.keys) e)

-- the cards and the lines of a machine that shows a state
machine_cards : (m : ℕ) (machine : Machine m) (w : World) (s : State) → state_of m machine w ≡ Some s → hopper_left machine.hopper w ≡ Some s.hopper
machine_cards m machine w s is = cards_with (state_with m machine w) (λ es ks pack. refl) (hopper_left machine.hopper w) (keys_left machine.keys w) w.sectors s is

machine_lines : (m : ℕ) (machine : Machine m) (w : World) (s : State) → state_of m machine w ≡ Some s → keys_left machine.keys w ≡ Some s.keys
machine_lines m machine w s is = lines_with (state_with m machine w) (λ es ks pack. refl) (hopper_left machine.hopper w) (keys_left machine.keys w) w.sectors s is

-- what a machine had at power on: the cards that were put into its reader's pile, the entries of that pile, all cards of its reader, and its lines
pub record Supply : Type 0 where
  pub own : Option (List (List ℕ))
  pub pile : List Entry
  pub cards : List Entry
  pub keys : List Entry

-- where a machine ends that had this at power on
abbrev pub rest_at : Supply → State → MachineEnd
rest_at had s = record { state = s; own = had.own; pile = had.pile; cards = had.cards; keys = had.keys }

-- a machine's reader and keyboard have read what they have since it had this at power on
pub record HasReadOf (m : ℕ) (had : Supply) (machine : Machine m) (w : World) : Type 0 where
  pub own_is : own_cards machine.hopper ≡ had.own
  pub cards : HasReadCards (record { pile = had.pile; all = had.cards }) machine.hopper w
  pub lines : keyboard.HasReadLines had.keys machine.keys w

-- so it is at power on, and stays so over a call and over a session
pub powered_reads : (m : ℕ) (own : Option (List (List ℕ))) (pile : List Entry) (hopper : Hopper) (machine : Machine m) (w : World) (s : State) → own_cards hopper ≡ own → IsNewHopper hopper → IfSome (deck_left hopper w) (λ left. pile ≡ left)
    → IsPowered m hopper machine → state_of m machine w ≡ Some s → HasReadOf m (record { own = own; pile = pile; cards = s.hopper; keys = s.keys }) machine w
powered_reads m own pile hopper machine w s own_is begins told powered is =
    let cards : hopper_left hopper w ≡ Some s.hopper = ap (λ (h : Hopper). hopper_left h w) (sym powered.hopper_in) ∙ machine_cards m machine w s is in
    record {
      own_is = ap own_cards powered.hopper_in ∙ own_is;
      cards = subst (λ (h : Hopper). HasReadCards (record { pile = pile; all = s.hopper }) h w) (sym powered.hopper_in)
          (begins (record { pile = pile; all = s.hopper }) w told (subst (λ (o : Option (List Entry)). IfSome o (λ left. s.hopper ≡ left)) (sym cards) refl));
      lines = powered.begins s.keys w (subst (λ (o : Option (List Entry)). IfSome o (λ left. s.keys ≡ left)) (sym (machine_lines m machine w s is)) refl);
    }

pub frames_read : {may_write : unit.Unit → Bool} (m : ℕ) (had : Supply) (old new : Machine m) (before after : Seen) → FramesBut may_write m old new before after → HasReadOf m had old before.world → HasReadOf m had new after.world
frames_read m had old new before after frames has = record { own_is = frames.own ∙ has.own_is; cards = frames.cards (record { pile = had.pile; all = had.cards }) has.cards; lines = frames.lines had.keys has.lines }

-- a machine that shows a state has its cards and its lines left, and its console is that of the state
pub machine_has : (m : ℕ) (had : Supply) (machine : Machine m) (w : World) (s last : State) (shown : Option Console) → state_of m machine w ≡ Some s → HasReadOf m had machine w → shown ≡ Some (shown_on m machine) → HasLeft (rest_at had last) s.hopper s.keys s shown w
machine_has m had machine w s last shown is has shows = record {
  hopper = machine.hopper;
  keyboard = machine.keys;
  own_is = has.own_is;
  cards_are = machine_cards m machine w s is;
  lines_are = machine_lines m machine w s is;
  read = has.cards;
  typed = has.lines;
  shows = shows ∙ ap (λ (t : State). Some (console_of t machine.hopper machine.keys)) (sym (state_is m machine w s is));
}

-- and where its job stops the inputs are as it has them
pub machine_asks : (m : ℕ) (had : Supply) (machine : Machine m) (way : Way) (from last : State) (done : List Event) (old w : World) (s : State) (shown : Option Console) → state_of m machine w ≡ Some s → HasTaken from s done → from.hopper ≡ had.cards → from.keys ≡ had.keys
    → HasReadOf m had machine w → shown ≡ Some (shown_on m machine) → StandsSomewhere (rest_at had last) (Some way) s → AsksForInputs (Some (rest_at had last)) (Some way) done shown old w
machine_asks m had machine way from last done old w s shown is taken cards keys has shows stands =
    asked (rest_at had last) refl s stands
    (left_as (rest_at had last) s.hopper s.keys (drop (cards_in done) had.cards) (drop (lines_in done) had.keys) s shown w
    (taken.cards ∙ ap (λ (es : List Entry). drop (cards_in done) es) cards) (taken.lines ∙ ap (λ (es : List Entry). drop (lines_in done) es) keys) (machine_has m had machine w s last shown is has shows))

-- the inputs of a machine that ended, and what its console shows, are so as long as nothing is taken of them, and none is asked
pub rest_same : (o : Option MachineEnd) (shown : Option Console) (w v : World) → v.left ≡ w.left → v.asked ≡ w.asked → LeavesMachine o shown w → LeavesMachine o shown v
rest_same None shown w v same still leaves = leaves
rest_same (Some r) shown w v same still leaves = left_same r r.state.hopper r.state.keys r.state shown w v same still leaves

-- so a line leaves them
pub rest_reported : (o : Option MachineEnd) (shown : Option Console) (mid new : Seen) (line : List ℕ) → Goes mid new (world_after_put units.Report line mid.world) → LeavesMachine o shown mid.world → LeavesMachine o shown new.world
rest_reported o shown mid new line goes leaves = rest_same o shown mid.world new.world (ap (λ (w : World). w.left) goes.world) (ap (λ (w : World). w.asked) goes.world) leaves
