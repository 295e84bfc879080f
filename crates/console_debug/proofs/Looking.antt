-- A machine of which only the memory of decoded instructions has changed stands where it stood.
use Rattle.std.proofs.Common.{◌≡◌, ◌∙◌, ℕ, suc, ◌≤◌, Bool, true, false, List, refl, sym, ap, subst}
use Rattle.std.specs.Prelude.{Option, Some, None, IfSome, is_some}
use Rattle.outside_io.specs.declared.host.Unit as unit
use Rattle.outside_io.specs.World.{Seen}
use Rattle.card_unit.specs.Hopper.{hopper_left, own_cards, HasReadCards}
use Rattle.typewriter.specs.Keys.{keys_left}
use Rattle.typewriter.specs.Keys as keyboard
use Rattle.cpu_step.specs.declared.machine.Machine.{Machine}
use Rattle.cpu_step.specs.declared.stores.Stores.{Stores}
use Rattle.cpu_step.specs.Machine.{is_faulted, Frames, FramesBut, Makes}
use Rattle.cpu_step.specs.Step.{step}
use Rattle.cpu_step.specs.Stores.{ShowsTheSame, StepStores, StoresWithin}
use Rattle.cpu_step.proofs.StoredWords.{step_stored}
use Rattle.operator_script.specs.declared.turns.Ending.{Ending}
use Rattle.operator_script.specs.declared.turns.TurnEnd.{TurnEnd}
use Rattle.operator_script.specs.declared.turns.TurnEnd.TheVariants as end
use Rattle.operator_script.specs.Turn.{RunPlace, Turning, Acted, Stepped}
use Rattle.operator_script.specs.Run.{RunState, place_of, moment_at, Moves}
use Rattle.rewind_log.specs.Kept.{Kept, place_of_machine, places_with, newest}
use Rattle.operator_script.proofs.ByEnding.{by_ending}
use Rattle.operator_script.proofs.Running.{Underway, turns_left, starts, acted_on, stepped_on}
use Rattle.console_debug.specs.Session.{Course}
use Rattle.console_debug.specs.CursorStates.{CursorState, cursor_state_at, with_machine, IsOn, IsFit, MovesOn, StaysOn, BreaksOn, Advances}
use Rattle.console_debug.proofs.Courses.{led_by}
use Rattle.console_debug.proofs.Stepping.{made_on_it}

module _ (m : ℕ) (x : CursorState m) (machine : Machine m) (same : ShowsTheSame m x.at.machine machine) where
  pub looked_on : (c : Course) (n f : ℕ) → IsOn m c n f x → IsOn m c n f (with_machine m x machine)
  looked_on c n f on_it = record {
    told = ap (λ (y : Machine m). place_of m (record x.at { machine = y }) x.seen.world) same ∙ on_it.told;
    reached = on_it.reached;
    number = on_it.number;
    count = on_it.count;
    kept = on_it.kept;
  }

  pub looked_fit : (limit : ℕ) → IsFit m limit x → IsFit m limit (with_machine m x machine)
  looked_fit limit fit = record {
    within = fit.within;
    sound = ap (λ (y : Machine m). is_faulted y.mode) same ∙ fit.sound;
    lines = fit.lines;
    few = fit.few;
    most = fit.most;
    kept = fit.kept;
    tip = fit.tip;
    core = λ at_tip. subst (λ (y : Machine m). IfSome (newest x.kept) (λ (k : Kept). k.core ≡ y.core)) (sym same) (fit.core at_tip);
  }

  looked_to : {may_write : unit.Unit → Bool} (first : Machine m) (before : Seen) → FramesBut may_write m first x.at.machine before x.seen → FramesBut may_write m first machine before x.seen
  looked_to first before frames = record {
    later = frames.later;
    keeps = frames.keeps;
    told = ap (λ (y : Machine m). is_some (hopper_left y.hopper x.seen.world)) same ∙ frames.told;
    told_keys = ap (λ (y : Machine m). is_some (keys_left y.keys x.seen.world)) same ∙ frames.told_keys;
    told_sectors = frames.told_sectors;
    own = ap (λ (y : Machine m). own_cards y.hopper) same ∙ frames.own;
    cards = λ start read. subst (λ (y : Machine m). HasReadCards start y.hopper x.seen.world) (sym same) (frames.cards start read);
    lines = λ start read. subst (λ (y : Machine m). keyboard.HasReadLines start y.keys x.seen.world) (sym same) (frames.lines start read);
  }

  looked_from : (new : Machine m) (after : Seen) → Frames m machine new x.seen after → Frames m x.at.machine new x.seen after
  looked_from new after frames = record {
    later = frames.later;
    keeps = frames.keeps;
    told = frames.told ∙ ap (λ (y : Machine m). is_some (hopper_left y.hopper x.seen.world)) same;
    told_keys = frames.told_keys ∙ ap (λ (y : Machine m). is_some (keys_left y.keys x.seen.world)) same;
    told_sectors = frames.told_sectors;
    own = frames.own ∙ ap (λ (y : Machine m). own_cards y.hopper) same;
    cards = λ start read. frames.cards start (subst (λ (y : Machine m). HasReadCards start y.hopper x.seen.world) (sym same) read);
    lines = λ start read. frames.lines start (subst (λ (y : Machine m). keyboard.HasReadLines start y.keys x.seen.world) (sym same) read);
  }

-- Where the run is over.

module _ (m limit : ℕ) (how : Ending) (old new : CursorState m) (stays : StaysOn m limit how old new) where
  pub stays_on : (c : Course) (n f : ℕ) → IsOn m c n f old → IsOn m c n f new
  stays_on c n f on_it = subst (IsOn m c n f) (sym stays.same) (looked_on m old new.at.machine stays.shows c n f on_it)

  pub stays_fit : IsFit m limit old → IsFit m limit new
  stays_fit fit = subst (IsFit m limit) (sym stays.same) (looked_fit m old new.at.machine stays.shows limit fit)

  seen_is : new.seen ≡ old.seen
  seen_is = ap (λ (x : CursorState m). x.seen) stays.same

  pub stays_frames : {may_write : unit.Unit → Bool} (first : Machine m) (before : Seen) → FramesBut may_write m first old.at.machine before old.seen → FramesBut may_write m first new.at.machine before new.seen
  stays_frames {may_write} first before frames = subst (FramesBut may_write m first new.at.machine before) (sym seen_is) (looked_to m old new.at.machine stays.shows first before frames)

-- What a move does that begins with a look.

module _ (m limit : ℕ) (old new : CursorState m) (machine : Machine m) (same : ShowsTheSame m old.at.machine machine) where
  abbrev looked : CursorState m
  looked = with_machine m old machine

  moves_from : (leads : RunPlace → Turning) → MovesOn m limit leads looked new → MovesOn m limit leads old new
  moves_from leads moves = record {
    told = λ c n f within on_it. moves.told c n f within (looked_on m old machine same c n f on_it);
    fit = moves.fit;
    frames = looked_from m old machine same new.at.machine new.seen moves.frames;
    fewer = moves.fewer;
  }

  stays_from : (how : Ending) → StaysOn m limit how looked new → StaysOn m limit how old new
  stays_from how stays = record {
    told = λ c n f within on_it. stays.told c n f within (looked_on m old machine same c n f on_it);
    shows = stays.shows ∙ ap (λ (y : Machine m). record y { memo = new.at.machine.memo }) same;
    same = stays.same;
    ending = stays.ending;
  }

  breaks_from : BreaksOn m limit looked new → BreaksOn m limit old new
  breaks_from breaks = record {
    told = λ c n f within on_it. breaks.told c n f within (looked_on m old machine same c n f on_it);
    within = breaks.within;
    rose = breaks.rose;
    frames = looked_from m old machine same new.at.machine new.seen breaks.frames;
  }

  pub advances_from : (r : TurnEnd) → Advances m limit looked new r → Advances m limit old new r
  advances_from end.Acted moves = moves_from _ moves
  advances_from end.Stepped moves = moves_from _ moves
  advances_from (end.Ended how) over = by_ending (BreaksOn m limit looked new) (BreaksOn m limit old new) (λ e. StaysOn m limit e looked new) (λ e. StaysOn m limit e old new) breaks_from stays_from how over

-- A turn behind a look, from the furthest place on, that is kept.

module _ (m limit : ℕ) (old : CursorState m) (machine : Machine m) (same : ShowsTheSame m old.at.machine machine) (fit : IsFit m limit old) (tip : old.behind ≡ 0)
    (new : RunState m) (after : Seen) (ks : List Kept) (kept : ks ≡ places_with old.kept (place_of_machine m new.machine new.steps)) where
  abbrev from : CursorState m
  from = with_machine m old machine

  abbrev made : CursorState m
  made = cursor_state_at m new ks 0 after

  abbrev Leads : (RunPlace → Turning) → Type 0
  Leads leads = Moves m limit leads (moment_at m from.at from.seen) (moment_at m new after)

  from_fit : IsFit m limit from
  from_fit = looked_fit m old machine same limit fit

  begun : Underway m limit from.at from.seen from.at from.seen
  begun = starts m limit from.at from.seen from_fit.within from_fit.sound from_fit.lines

  turn_kept : (leads : RunPlace → Turning) (by_step : Bool) → ((p : RunPlace) → leads p ≡ led_by by_step p) → Leads leads
      → Underway m limit from.at from.seen new after × (suc (turns_left limit m new) ≤ turns_left limit m from.at) → MovesOn m limit leads old made
  turn_kept leads by_step is_led moves under =
      moves_from m limit old made machine same leads
      (subst (λ (xs : List Kept). MovesOn m limit leads from (cursor_state_at m new xs 0 after)) (sym kept) (made_on_it m limit leads by_step is_led from new after tip from_fit moves under.0 under.1))

  pub acted_kept : Leads Acted → MovesOn m limit Acted old made
  acted_kept moves = turn_kept Acted false (λ p. refl) moves (acted_on m limit from.at from.seen from.at from.seen begun new after moves)

  pub stepped_kept : Leads Stepped → MovesOn m limit Stepped old made
  stepped_kept moves = turn_kept Stepped true (λ p. refl) moves (stepped_on m limit from.at from.seen from.at from.seen begun new after moves)

-- What a step may have stored.

some_also : {A : Type 0} (P Q : A → Type 0) (o : Option A) → ((x : A) → P x → Q x) → IfSome o P → IfSome o Q
some_also P Q None also holds = tt
some_also P Q (Some x) also holds = also x holds

-- behind a step core differs from that of the newest place in nothing but what was said before it
pub newest_stored : (m : ℕ) (old : CursorState m) (machine new : Machine m) (after : Seen) (stores : Stores) → ShowsTheSame m old.at.machine machine → IfSome (newest old.kept) (λ (k : Kept). k.core ≡ old.at.machine.core)
    → StepStores old.at.machine.core old.at.machine.regs.ir stores → Makes m step machine new old.seen after → IfSome (newest old.kept) (λ (k : Kept). StoresWithin stores k.core new.core)
newest_stored m old machine new after stores same core says makes =
    let here : StepStores machine.core machine.regs.ir stores = subst (λ (y : Machine m). StepStores y.core y.regs.ir stores) (sym same) says in
    let stored : StoresWithin stores machine.core new.core = step_stored m machine new old.seen after stores here makes in
    let from : StoresWithin stores old.at.machine.core new.core = subst (λ (y : Machine m). StoresWithin stores y.core new.core) same stored in
    some_also (λ (k : Kept). k.core ≡ old.at.machine.core) (λ (k : Kept). StoresWithin stores k.core new.core) (newest old.kept) (λ k is. rw is from) core
