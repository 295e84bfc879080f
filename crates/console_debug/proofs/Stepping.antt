-- A move by one place: a kept place is gone to, or a turn is made and kept.
use Rattle.std.proofs.Common.{◌≡◌, ℕ, zero, suc, ◌+◌, ◌-◌, ◌<◌, ◌≤◌, inl, inr, ◌==◌, max, nat_lt, Bool, true, false, All, List, [], ◌∷◌, ◌++◌, length, drop, refl, sym, ◌∙◌, ap, subst, arith}
use Rattle.std.specs.Prelude.{Option, Some, None, IfSome, option_map, is_some, slice_get}
use Rattle.std.proofs.lemmas.Bool.Decides.{nat_tests}
use Rattle.std.proofs.lemmas.Option.{get_or_from_slice_get}
use Rattle.std.proofs.lemmas.Bool.{cases_lt}
use Rattle.std.proofs.lemmas.List.Elements.{All-append, All-drop}
use Rattle.outside_io.specs.World.{World, Seen}
use Rattle.outside_io.proofs.Frames.{keeps_all}
use Rattle.card_code.specs.Entries.{Entry}
use Rattle.card_unit.specs.Hopper.{hopper_left, own_cards}
use Rattle.card_unit.proofs.ReadSame.{reads_kept}
use Rattle.typewriter.specs.Keys.{keys_left}
use Rattle.typewriter.proofs.ReadSame.{reads_kept as keys_kept}
use Rattle.cpu_step.specs.declared.machine.Machine.{Machine}
use Rattle.cpu_step.specs.State.{State}
use Rattle.cpu_step.specs.Machine.{is_faulted, is_read, is_written, Frames, state_with, over_all}
use Rattle.cpu_step.specs.Stores.{ShowsTheSame}
use Rattle.cpu_step.proofs.ExactCards.{state_is}
use Rattle.operator_script.specs.declared.turns.Ending.{Ending}
use Rattle.operator_script.specs.declared.turns.TurnEnd.TheVariants as end
use Rattle.operator_script.specs.Turn.{RunPlace, Turning, turn, place_after, IsCutTurn, ending_at, ending_of}
use Rattle.operator_script.specs.Run.{RunState, run_state, moment_at, place_with, place_of, StandsAt, Moves, Rests, BreaksTurn, Turns}
use Rattle.operator_script.proofs.Turning.{Follows, turn_follows}
use Rattle.operator_script.proofs.LastPlace.{on, turn_on}
use Rattle.operator_script.proofs.Running.{Underway, turns_left, place_told, place_is, places_told, the_told}
use Rattle.rewind_log.specs.Kept.{Kept, place_of_machine, places_with, machine_at, newest, most_places}
use Rattle.rewind_log.proofs.Places.{element}
use Rattle.operator_script.proofs.ByEnding.{by_ending}
use Rattle.console_debug.specs.Session.{Course, nth_place, place_as_seen}
use Rattle.console_debug.specs.CursorStates.{CursorState, cursor_state, with_machine, kept_at_place, newest_count, AreAllOrLast, IsOn, IsFitPlace, IsFit, MovesOn, StaysOn, BreaksOn, Advances, IsAtKept, GoesBack}
use Rattle.console_debug.proofs.Courses.{led_by, after_last, turn_between, led_by_count}

some_same : {A : Type 0} (x y : A) → Some x ≡ Some y → x ≡ y
some_same x y e = cc

-- A KEPT PLACE IS GONE TO.

-- the machine at a place, all else being as it was
abbrev moved_to : (m : ℕ) → RunState m → RunPlace → RunState m
moved_to m x p = run_state m (machine_at m (kept_at_place p) x.machine) x.script p.steps

restored_by : (m : ℕ) (x : RunState m) (w : World) (here furthest there : RunPlace) (o p : Option (List Entry)) (q : Option (ℕ → List ℕ))
    → option_map (place_with m x) (over_all (state_with m x.machine w) o p q) ≡ Some (place_as_seen here furthest)
    → option_map (place_with m (moved_to m x there)) (over_all (state_with m (machine_at m (kept_at_place there) x.machine) w) o p q) ≡ Some (place_as_seen there furthest)
restored_by m x w here furthest there None p q is = cc
restored_by m x w here furthest there (Some es) None q is = cc
restored_by m x w here furthest there (Some es) (Some ks) None is = cc
restored_by m x w here furthest there (Some es) (Some ks) (Some pack) is =
    let e : place_with m x (state_with m x.machine w es ks pack) ≡ place_as_seen here furthest = some_same _ _ is in
    ap (λ (p : RunPlace). Some (place_as_seen there p)) e

pub place_restored : (m : ℕ) (x : RunState m) (w : World) (here furthest there : RunPlace) → place_of m x w ≡ Some (place_as_seen here furthest) → place_of m (moved_to m x there) w ≡ Some (place_as_seen there furthest)
place_restored m x w here furthest there is = restored_by m x w here furthest there (hopper_left x.machine.hopper w) (keys_left x.machine.keys w) w.sectors is

-- the count of a told place
pub count_told : (m : ℕ) (x : RunState m) (w : World) (here furthest : RunPlace) → place_of m x w ≡ Some (place_as_seen here furthest) → here.steps ≡ x.steps
count_told m x w here furthest is = (place_is m x w (place_as_seen here furthest) is).1

fit_place : (limit : ℕ) (ks : List Kept) (i : ℕ) (k : Kept) → All (IsFitPlace limit) ks → i < length ks → slice_get ks i ≡ Some k → IsFitPlace limit k
fit_place limit ks i k all inside is = subst (IsFitPlace limit) (get_or_from_slice_get ks i k k is) (all i k inside)

pub if_some : {A : Type 0} (P : A → Type 0) (o : Option A) (x : A) → o ≡ Some x → IfSome o P → P x
if_some {A = A} P o x is holds = subst (λ (p : Option A). IfSome p P) is holds

pub some_holds : {A : Type 0} (P : A → Type 0) (o : Option A) (x : A) → o ≡ Some x → P x → IfSome o P
some_holds {A = A} P o x is holds = subst (λ (p : Option A). IfSome p P) (sym is) holds

newest_is : (ks : List Kept) (k : Kept) → slice_get ks (length ks - 1) ≡ Some k → newest_count ks ≡ k.steps
newest_is ks k is = ap (λ (o : Option Kept). elim o [ None ↦ 0 | Some x ↦ x.steps ]) is

-- the one behind which so many are kept
module _ (m limit : ℕ) (old : CursorState m) (machine : Machine m) (steps behind : ℕ) (fit : IsFit m limit old) (few : behind < length old.kept)
    (there : IfSome (slice_get old.kept (length old.kept - 1 - behind)) (IsAtKept m old.at.machine machine steps)) where
  abbrev new : CursorState m
  new = cursor_state m machine old.at.script steps old.kept behind old.seen

  abbrev at : ℕ
  at = length old.kept - 1 - behind

  inside : at < length old.kept
  inside = omega (arith, few)

  abbrev k : Kept
  k = (element old.kept at inside).0

  k_is : slice_get old.kept at ≡ Some k
  k_is = (element old.kept at inside).1

  gone : IsAtKept m old.at.machine machine steps k
  gone = if_some (IsAtKept m old.at.machine machine steps) (slice_get old.kept at) k k_is there

  kept_fits : IsFitPlace limit k
  kept_fits = fit_place limit old.kept at k fit.kept inside k_is

  newest_here : behind ≡ 0 → newest old.kept ≡ Some k
  newest_here tip = let last : at ≡ length old.kept - 1 = omega (arith, tip) in ap (λ j. slice_get old.kept j) (sym last) ∙ k_is

  new_fits : IsFit m limit new
  new_fits = record {
    within = subst (λ n. n ≤ limit) (sym gone.count_is) kept_fits.within;
    sound = ap (λ (x : Machine m). is_faulted x.mode) gone.machine ∙ kept_fits.sound;
    lines = fit.lines;
    few = few;
    most = fit.most;
    kept = fit.kept;
    tip = λ tip. newest_is old.kept k (newest_here tip) ∙ sym gone.count_is;
    core = λ tip. some_holds (λ (x : Kept). x.core ≡ machine.core) (newest old.kept) k (newest_here tip) (sym (ap (λ (x : Machine m). x.core) gone.machine));
  }

  new_frames : Frames m old.at.machine machine old.seen old.seen
  new_frames = record {
    later = omega arith;
    keeps = keeps_all is_read is_written true old.seen.world;
    told = ap (λ (x : Machine m). is_some (hopper_left x.hopper old.seen.world)) gone.machine;
    told_keys = ap (λ (x : Machine m). is_some (keys_left x.keys old.seen.world)) gone.machine;
    told_sectors = refl;
    own = ap (λ (x : Machine m). own_cards x.hopper) gone.machine;
    cards = reads_kept old.at.machine.hopper machine.hopper old.seen old.seen (ap (λ (x : Machine m). x.hopper) gone.machine) refl refl refl refl;
    lines = keys_kept old.at.machine.keys machine.keys old.seen old.seen (ap (λ (x : Machine m). x.keys) gone.machine) refl refl;
  }

  -- it is the place with this number
  module _ (c : Course) (n f number : ℕ) (on_it : IsOn m c n f old) (furthest : f ≡ number + behind) where
    abbrev p : RunPlace
    p = nth_place c number

    long_enough : length old.kept ≤ suc f
    long_enough = elim on_it.count [ inl all ↦ omega (arith, all) | inr last ↦ omega (arith, last.0, last.1) ]

    number_is : suc f - length old.kept + at ≡ number
    number_is = omega (arith, long_enough, furthest, few)

    kept_is : k ≡ kept_at_place p
    kept_is = some_same k (kept_at_place p) (sym k_is ∙ on_it.kept at inside ∙ ap (λ j. Some (kept_at_place (nth_place c j))) number_is)

    standing_is : run_state m machine old.at.script steps ≡ moved_to m old.at p
    standing_is =
        let place : machine ≡ machine_at m (kept_at_place p) old.at.machine = gone.machine ∙ ap (λ (x : Kept). machine_at m x old.at.machine) kept_is in
        let count : steps ≡ p.steps = gone.count_is ∙ ap (λ (x : Kept). x.steps) kept_is in
        ap (λ (x : Machine m). run_state m x old.at.script steps) place ∙ ap (λ j. run_state m (machine_at m (kept_at_place p) old.at.machine) old.at.script j) count

    new_on : IsOn m c number f new
    new_on = record {
      told = ap (λ (x : RunState m). place_of m x old.seen.world) standing_is ∙ place_restored m old.at old.seen.world (nth_place c n) (nth_place c f) p on_it.told;
      reached = on_it.reached;
      number = furthest;
      count = on_it.count;
      kept = on_it.kept;
    }

-- the next one, and whether its count is the greater one
module _ (m limit : ℕ) (old : CursorState m) (machine : Machine m) (steps behind : ℕ) (stepped : Bool) (fit : IsFit m limit old) (next : behind + 1 ≡ old.behind)
    (there : IfSome (slice_get old.kept (length old.kept - 1 - behind)) (IsAtKept m old.at.machine machine steps)) (by_count : stepped ≡ nat_lt old.at.steps steps) where
  few_behind : behind < length old.kept
  few_behind = omega (arith, fit.few, next)

  abbrev on_there : CursorState m
  on_there = cursor_state m machine old.at.script steps old.kept behind old.seen

  module _ (c : Course) (n f : ℕ) (within : c.limit ≡ limit) (on_it : IsOn m c n f old) where
    abbrev q : RunPlace
    q = nth_place c (suc n)

    is_next : IsOn m c (suc n) f on_there
    is_next = new_on m limit old machine steps behind fit few_behind there c n f (suc n) on_it (omega (arith, on_it.number, next))

    turn_is : turn limit (nth_place c n) ≡ led_by stepped q
    turn_is =
        let led = turn_between c f on_it.reached n (omega (arith, on_it.number, next)) in
        let here : (nth_place c n).steps ≡ old.at.steps = count_told m old.at old.seen.world (nth_place c n) (nth_place c f) on_it.told in
        let count : q.steps ≡ steps = count_told m on_there.at old.seen.world q (nth_place c f) is_next.told in
        let which : led.0 ≡ stepped = led_by_count c.limit (nth_place c n) q led.0 led.1 ∙ ap (λ j. nat_lt j q.steps) here ∙ ap (nat_lt old.at.steps) count ∙ sym by_count in
        subst (λ j. turn j (nth_place c n) ≡ led_by stepped q) within (led.1 ∙ ap (λ b. led_by b q) which)

    moved_there : (turn limit (nth_place c n) ≡ led_by stepped q) × IsOn m c (suc n) (max f (suc n)) on_there
    moved_there =
        let furthest : f ≡ max f (suc n) = omega (arith, on_it.number, next) in
        (turn_is, subst (λ j. IsOn m c (suc n) j on_there) furthest is_next)

  pub gone_on : MovesOn m limit (led_by stepped) old on_there
  gone_on = record { told = moved_there; fit = new_fits m limit old machine steps behind fit few_behind there; frames = new_frames m limit old machine steps behind fit few_behind there; fewer = omega (arith, next) }

-- BACK: the one so many before.
module _ (m limit j : ℕ) (old : CursorState m) (machine : Machine m) (steps : ℕ) (fit : IsFit m limit old) (enough : old.behind + j < length old.kept)
    (there : IfSome (slice_get old.kept (length old.kept - 1 - (old.behind + j))) (IsAtKept m old.at.machine machine steps)) where
  abbrev earlier : CursorState m
  earlier = cursor_state m machine old.at.script steps old.kept (old.behind + j) old.seen

  module _ (c : Course) (n f : ℕ) (on_it : IsOn m c n f old) where
    as_many : j ≤ n
    as_many = elim on_it.count [ inl all ↦ omega (arith, all, enough, on_it.number) | inr last ↦ omega (arith, last.0, last.1, enough, on_it.number) ]

    still_kept : f - (n - j) < most_places
    still_kept = omega (arith, on_it.number, as_many, enough, fit.most)

    earlier_on : IsOn m c (n - j) f earlier
    earlier_on = new_on m limit old machine steps (old.behind + j) fit enough there c n f (n - j) on_it (omega (arith, on_it.number, as_many))

  pub went_back : GoesBack m limit j old earlier
  went_back = record {
    told = λ c n f within on_it. (as_many c n f on_it, still_kept c n f on_it, earlier_on c n f on_it);
    fit = new_fits m limit old machine steps (old.behind + j) fit enough there;
    frames = new_frames m limit old machine steps (old.behind + j) fit enough there;
  }

-- A TURN IS MADE, AND KEPT.

more_full : (ks : List Kept) (k : Kept) → length ks ≡ most_places → places_with ks k ≡ drop 1 ks ++ k ∷ []
more_full ks k full =
    let t : (length ks == most_places) ≡ true = grind (arith, nat_tests) in
    rw t refl

more_room : (ks : List Kept) (k : Kept) → length ks < most_places → places_with ks k ≡ ks ++ k ∷ []
more_room ks k room =
    let t : (length ks == most_places) ≡ false = grind (arith, nat_tests) in
    rw t refl

get_in : (ks : List Kept) (k : Kept) (i : ℕ) → i < length ks → slice_get (ks ++ k ∷ []) i ≡ slice_get ks i
get_in [] k i inside = absurd (omega (arith, inside))
get_in (x ∷ xs) k zero inside = refl
get_in (x ∷ xs) k (suc i) inside = get_in xs k i (omega (arith, inside))

get_end : (ks : List Kept) (k : Kept) (i : ℕ) → i ≡ length ks → slice_get (ks ++ k ∷ []) i ≡ Some k
get_end [] k zero is = refl
get_end [] k (suc i) is = absurd (omega (arith, is))
get_end (x ∷ xs) k zero is = absurd (omega (arith, is))
get_end (x ∷ xs) k (suc i) is = get_end xs k i (omega (arith, is))

length_one_more : (ks : List Kept) (k : Kept) → length (ks ++ k ∷ []) ≡ suc (length ks)
length_one_more [] k = refl
length_one_more (x ∷ xs) k = ap suc (length_one_more xs k)

length_behind : (ks : List Kept) → length (drop 1 ks) ≡ length ks - 1
length_behind [] = refl
length_behind (x ∷ xs) = omega arith

get_behind : (ks : List Kept) (i : ℕ) → slice_get (drop 1 ks) i ≡ slice_get ks (suc i)
get_behind [] i = refl
get_behind (x ∷ xs) i = refl

newest_end : (ks : List Kept) (k : Kept) → slice_get (ks ++ k ∷ []) (length (ks ++ k ∷ []) - 1) ≡ Some k
newest_end ks k = get_end ks k (length (ks ++ k ∷ []) - 1) (omega (arith, length_one_more ks k))

newest_more : (ks : List Kept) (k : Kept) → length ks ≤ most_places → slice_get (places_with ks k) (length (places_with ks k) - 1) ≡ Some k
newest_more ks k most = elim (cases_lt (length ks) most_places) [
  | inl room ↦ subst (λ (xs : List Kept). slice_get xs (length xs - 1) ≡ Some k) (sym (more_room ks k room)) (newest_end ks k)
  | inr over ↦ let full : length ks ≡ most_places = omega (arith, over, most) in subst (λ (xs : List Kept). slice_get xs (length xs - 1) ≡ Some k) (sym (more_full ks k full)) (newest_end (drop 1 ks) k)
]

-- what is kept is kept of the last places
abbrev pub KeptOf : Course → ℕ → List Kept → Type 0
KeptOf c f ks = AreAllOrLast f (length ks) × ((i : ℕ) → i < length ks → slice_get ks i ≡ Some (kept_at_place (nth_place c (suc f - length ks + i))))

module _ (c : Course) (n : ℕ) (ks : List Kept) (k : Kept) (count : AreAllOrLast n (length ks)) (most : length ks ≤ most_places)
    (are : (i : ℕ) → i < length ks → slice_get ks i ≡ Some (kept_at_place (nth_place c (suc n - length ks + i)))) (is : k ≡ kept_at_place (nth_place c (suc n))) where
  abbrev at_number : ℕ → Option Kept
  at_number j = Some (kept_at_place (nth_place c j))

  in_room : length ks < most_places → KeptOf c (suc n) (ks ++ k ∷ [])
  in_room room =
      let long : length ks ≡ suc n = elim count [ inl all ↦ all | inr last ↦ absurd (omega (arith, last.0, room)) ] in
      let more = length_one_more ks k in (
        inl (omega (arith, more, long)),
        λ i inside.
            elim (cases_lt i (length ks)) [
              | inl l ↦ get_in ks k i l ∙ are i l ∙ ap at_number (omega (arith, more, long))
              | inr g ↦
                  let end : i ≡ length ks = omega (arith, inside, more, g) in
                  get_end ks k i end ∙ ap Some is ∙ ap at_number (omega (arith, more, long, end))
            ],
      )

  when_full : length ks ≡ most_places → KeptOf c (suc n) (drop 1 ks ++ k ∷ [])
  when_full full =
      let enough : most_places ≤ suc n = elim count [ inl all ↦ omega (arith, all, full) | inr last ↦ last.1 ] in
      let one_less = length_behind ks in
      let more = length_one_more (drop 1 ks) k in
      let same : length (drop 1 ks ++ k ∷ []) ≡ most_places = omega (arith, more, one_less, full) in (
        inr (same, omega (arith, enough)),
        λ i inside.
            elim (cases_lt i (length (drop 1 ks))) [
              | inl l ↦
                  get_in (drop 1 ks) k i l ∙ get_behind ks i ∙ are (suc i) (omega (arith, l, one_less))
                  ∙ ap at_number (omega (arith, same, full, enough))
              | inr g ↦
                  let end : i ≡ length (drop 1 ks) = omega (arith, inside, more, g) in
                  get_end (drop 1 ks) k i end ∙ ap Some is ∙ ap at_number (omega (arith, same, full, enough, end, one_less))
            ],
      )

  pub kept_next : KeptOf c (suc n) (places_with ks k)
  kept_next = elim (cases_lt (length ks) most_places) [
    | inl room ↦ subst (KeptOf c (suc n)) (sym (more_room ks k room)) (in_room room)
    | inr over ↦ let full : length ks ≡ most_places = omega (arith, over, most) in subst (KeptOf c (suc n)) (sym (more_full ks k full)) (when_full full)
  ]

-- whatever is told, there is a place more or as many, and all can go on
abbrev pub FitKept : ℕ → List Kept → Type 0
FitKept limit xs = (0 < length xs) × ((length xs ≤ most_places) × All (IsFitPlace limit) xs)

module _ (limit : ℕ) (ks : List Kept) (k : Kept) (most : length ks ≤ most_places) (all : All (IsFitPlace limit) ks) (fits : IsFitPlace limit k) where
  one_fits : All (IsFitPlace limit) (k ∷ [])
  one_fits zero d inside = fits
  one_fits (suc i) d inside = absurd (omega (arith, inside))

  pub more_fits : FitKept limit (places_with ks k)
  more_fits = elim (cases_lt (length ks) most_places) [
    | inl room ↦
        let long = length_one_more ks k in
        subst (FitKept limit) (sym (more_room ks k room)) (omega (arith, long), (omega (arith, long, room), All-append (IsFitPlace limit) ks (k ∷ []) all one_fits))
    | inr over ↦
        let full : length ks ≡ most_places = omega (arith, over, most) in
        let long = length_one_more (drop 1 ks) k in
        let one_less = length_behind ks in
        subst (FitKept limit) (sym (more_full ks k full)) (omega (arith, long), (omega (arith, long, one_less, full), All-append (IsFitPlace limit) (drop 1 ks) (k ∷ []) (All-drop (IsFitPlace limit) 1 ks all) one_fits))
  ]

on_led : (limit : ℕ) (by_step : Bool) (q : RunPlace) → on limit 0 (led_by by_step q) ≡ Some q
unfolding place_after
on_led limit true q = refl
on_led limit false q = refl

-- what is kept of a machine is what is kept of its place
pub kept_told : (m : ℕ) (x : RunState m) (w : World) (p : RunPlace) → place_of m x w ≡ Some p → place_of_machine m x.machine x.steps ≡ kept_at_place p
kept_told m x w p is =
    let here = place_is m x w p is in
    let e = state_is m x.machine w p.state here.0 in
    sym (ap (λ (s : State). kept_at_place (record p { state = s })) e ∙ ap (λ n. place_of_machine m x.machine n) here.1)

module _ (m limit : ℕ) (leads : RunPlace → Turning) (by_step : Bool) (is_led : (p : RunPlace) → leads p ≡ led_by by_step p) (old : CursorState m) (new : RunState m) (after : Seen)
    (tip : old.behind ≡ 0) (fit : IsFit m limit old) (moves : Moves m limit leads (moment_at m old.at old.seen) (moment_at m new after))
    (under : Underway m limit old.at old.seen new after) (fewer : suc (turns_left limit m new) ≤ turns_left limit m old.at) where
  abbrev kept_now : Kept
  kept_now = place_of_machine m new.machine new.steps

  abbrev made : CursorState m
  made = record { at = new; kept = places_with old.kept kept_now; behind = 0; seen = after }

  fits_now : FitKept limit (places_with old.kept kept_now)
  fits_now = more_fits limit old.kept kept_now fit.most fit.kept (record { within = under.within; sound = under.sound })

  newest_kept : newest_count (places_with old.kept kept_now) ≡ new.steps
  newest_kept = newest_is (places_with old.kept kept_now) kept_now (newest_more old.kept kept_now fit.most)

  made_fits : IsFit m limit made
  made_fits = record {
    within = under.within;
    sound = under.sound;
    lines = under.lines;
    few = fits_now.0;
    most = fits_now.1.0;
    kept = fits_now.1.1;
    tip = λ at_tip. newest_kept;
    core = λ at_tip. some_holds (λ (x : Kept). x.core ≡ new.machine.core) (newest (places_with old.kept kept_now)) kept_now (newest_more old.kept kept_now fit.most) refl;
  }

  module _ (c : Course) (n f : ℕ) (within : c.limit ≡ limit) (on_it : IsOn m c n f old) where
    at_tip : f ≡ n
    at_tip = omega (arith, on_it.number, tip)

    here : place_of m old.at old.seen.world ≡ Some (nth_place c n)
    here = on_it.told ∙ ap (λ j. Some (place_as_seen (nth_place c n) (nth_place c j))) at_tip

    turn_made : turn limit (nth_place c n) ≡ leads moves.to
    turn_made =
        let from_is : nth_place c n ≡ moves.from = some_same _ _ (sym here ∙ the_told (place_of m old.at old.seen.world) moves.from (place_told m old.at old.seen.world moves.from moves.stands) (ap is_some here)) in
        ap (turn limit) from_is ∙ moves.turned

    now_there : place_of m new after.world ≡ Some moves.to
    now_there = the_told (place_of m new after.world) moves.to (place_told m new after.world moves.to moves.there) (places_told m old.at new old.seen after moves.frames ∙ ap is_some here)

    reached_here : place_after c.limit n c.first ≡ Some (nth_place c n)
    reached_here = subst (λ j. place_after c.limit j c.first ≡ Some (nth_place c j)) at_tip on_it.reached

    reached_next : place_after c.limit (suc n) c.first ≡ Some moves.to
    reached_next =
        turn_on c.limit n c.first (nth_place c n) moves.to (leads moves.to) reached_here (subst (λ j. turn j (nth_place c n) ≡ leads moves.to) (sym within) turn_made)
        (ap (on c.limit 0) (is_led moves.to) ∙ on_led c.limit by_step moves.to)

    number_now : nth_place c (suc n) ≡ moves.to
    number_now = after_last c.limit (suc n) c.first moves.to reached_next

    kept_on : KeptOf c (suc n) (places_with old.kept kept_now)
    kept_on = kept_next c n old.kept kept_now (subst (λ j. AreAllOrLast j (length old.kept)) at_tip on_it.count) fit.most
        (λ i inside. on_it.kept i inside ∙ ap (λ j. Some (kept_at_place (nth_place c (suc j - length old.kept + i)))) at_tip)
        (kept_told m new after.world moves.to now_there ∙ ap kept_at_place (sym number_now))

    made_on : IsOn m c (suc n) (suc n) made
    made_on = record {
      told = now_there ∙ ap Some (sym number_now);
      reached = reached_next ∙ ap Some (sym number_now);
      number = omega arith;
      count = kept_on.0;
      kept = kept_on.1;
    }

    pub made_there : (turn limit (nth_place c n) ≡ leads (nth_place c (suc n))) × IsOn m c (suc n) (max f (suc n)) made
    made_there =
        let furthest : suc n ≡ max f (suc n) = omega (arith, at_tip) in
        (turn_made ∙ ap leads (sym number_now), subst (λ j. IsOn m c (suc n) j made) furthest made_on)

  pub made_on_it : MovesOn m limit leads old made
  made_on_it = record {
    told = made_there;
    fit = made_fits;
    frames = moves.frames;
    fewer =
        let before : newest_count old.kept ≡ old.at.steps = fit.tip tip in
        rw (before, newest_kept, tip) (omega (arith, fewer));
  }

-- THE RUN IS OVER, OR THE HOST FAILED.

module _ (m limit : ℕ) (old : CursorState m) (new : RunState m) (after : Seen) (tip : old.behind ≡ 0) (within_it : old.at.steps ≤ limit) where
  abbrev ended : CursorState m
  ended = record { at = new; kept = old.kept; behind = 0; seen = after }

  tip_here : (c : Course) (n f : ℕ) → IsOn m c n f old → place_of m old.at old.seen.world ≡ Some (nth_place c n)
  tip_here c n f on_it =
      let at_tip : f ≡ n = omega (arith, on_it.number, tip) in
      on_it.told ∙ ap (λ j. Some (place_as_seen (nth_place c n) (nth_place c j))) at_tip

  from_here : (c : Course) (n f : ℕ) (p : RunPlace) → IsOn m c n f old → StandsAt m old.at old.seen.world p → nth_place c n ≡ p
  from_here c n f p on_it stands =
      let here = tip_here c n f on_it in
      some_same _ _ (sym here ∙ the_told (place_of m old.at old.seen.world) p (place_told m old.at old.seen.world p stands) (ap is_some here))

  rests_on : (how : Ending) → Rests m limit (moment_at m old.at old.seen) (moment_at m new after) how → StaysOn m limit how old ended
  rests_on how rests = record {
    told = λ c n f within on_it. ap (turn limit) (from_here c n f rests.from on_it rests.stands) ∙ rests.turned;
    shows = subst (ShowsTheSame m old.at.machine) (sym (ap (λ (x : RunState m). x.machine) rests.same)) refl;
    same = ap (λ (x : RunState m). record { at = x; kept = old.kept; behind = 0; seen = after }) rests.same ∙ ap (λ (s : Seen). record { at = old.at; kept = old.kept; behind = 0; seen = s }) rests.outside
        ∙ ap (λ j. record { at = old.at; kept = old.kept; behind = j; seen = old.seen }) (sym tip) ∙ ap (with_machine m old) (sym (ap (λ (x : RunState m). x.machine) rests.same));
    ending =
        let follows : how ≡ ending_of rests.from.state = subst (Follows limit rests.from) rests.turned (turn_follows limit rests.from (subst (λ k. k ≤ limit) (sym rests.stands.steps) within_it)) in
        follows ∙ ap (λ s. ending_at s.mode s.regs.ir) rests.stands.state.is ∙ ap (λ (x : RunState m). ending_at x.machine.mode x.machine.regs.ir) (sym rests.same);
  }

  breaks_on : BreaksTurn m limit (moment_at m old.at old.seen) (moment_at m new after) → BreaksOn m limit old ended
  breaks_on broke = record {
    told = λ c n f within on_it.
        let at_tip : n ≡ f = omega (arith, on_it.number, tip) in
        let here = tip_here c n f on_it in
        let from_is : broke.from ≡ nth_place c f = sym (from_here c n f broke.from on_it broke.stands) ∙ ap (nth_place c) at_tip in
        (at_tip, (broke.to, the_told (place_of m new after.world) broke.to (place_told m new after.world broke.to broke.there) (places_told m old.at new old.seen after broke.frames ∙ ap is_some here), subst (λ (p : RunPlace). IsCutTurn limit p broke.to) from_is broke.is_cut));
    within = broke.within;
    rose = broke.rose;
    frames = broke.frames;
  }

  pub over_on : (how : Ending) → Turns m limit (moment_at m old.at old.seen) (moment_at m new after) (end.Ended how) → Advances m limit old ended (end.Ended how)
  over_on how over = by_ending (BreaksTurn m limit (moment_at m old.at old.seen) (moment_at m new after)) (BreaksOn m limit old ended) (Rests m limit (moment_at m old.at old.seen) (moment_at m new after)) (λ e. StaysOn m limit e old ended) breaks_on rests_on how over
