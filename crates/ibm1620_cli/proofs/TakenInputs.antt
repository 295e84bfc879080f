-- The cards and the lines of Keys that some events take, and what is said of the inputs of a machine where a job stops.
use Rattle.std.proofs.Common.{◌≡◌, ℕ, ◌+◌, List, [], ◌∷◌, ◌++◌, drop, refl, sym, ◌∙◌, ap, subst, arith}
use Rattle.std.specs.Prelude.{Option, Some, None}
use Rattle.outside_io.specs.declared.host.Unit as unit
use Rattle.outside_io.specs.declared.host.Unit.TheVariants as units
use Rattle.outside_io.specs.World.{World, Asked, Seen, Goes}
use Rattle.outside_io.specs.Events.{Event, BindFile, WriteByte, WriteSector, TakeCard, TakeLine, after_event, after_events, cards_in, lines_in, text_events, IsFirstPart, DidPart}
use Rattle.outside_io.proofs.EventLemmas.{cards_append, lines_append, cards_text, lines_text, first_more}
use Rattle.card_code.specs.Entries.{Entry}
use Rattle.card_unit.proofs.ReadSame as hoppers
use Rattle.command_line.specs.Words.{Names}
use Rattle.typewriter.proofs.Keyboards.{keys_same}
use Rattle.typewriter.proofs.ReadSame as keyboards
use Rattle.cpu_step.specs.State.{State}
use Rattle.cpu_step.specs.declared.console.Console.{Console}
use Rattle.cpu_step.proofs.InputsTaken.{HasTaken, taken_on}
use Rattle.cpu_step.proofs.Readers.{hopper_same}
use Rattle.ibm1620_cli.specs.Makings.{AreMakings}
use Rattle.ibm1620_cli.specs.Job.{bind_event, bind_events}
use Rattle.ibm1620_cli.specs.Ways.{Way}
use Rattle.ibm1620_cli.specs.Promise.{MachineEnd, Job, HasLeft, TakesNone, Unasked, AsksForInputs, unasked, asked, StopsAt}

-- HOW MANY

-- one list takes as many as another
abbrev pub TakesSame : List Event → List Event → Type 0
TakesSame ds es = (cards_in ds ≡ cards_in es) × (lines_in ds ≡ lines_in es)

-- a first part of what takes none takes none
pub first_takes : (ds all : List Event) → IsFirstPart ds all → TakesNone all → TakesNone ds
first_takes ds all part none =
    let cards : cards_in (ds ++ part.0) ≡ cards_in ds + cards_in part.0 = cards_append ds part.0 in
    let all_cards : cards_in (ds ++ part.0) ≡ cards_in all = ap cards_in part.1 in
    let no_card : cards_in all ≡ 0 = none.0 in
    let lines : lines_in (ds ++ part.0) ≡ lines_in ds + lines_in part.0 = lines_append ds part.0 in
    let all_lines : lines_in (ds ++ part.0) ≡ lines_in all = ap lines_in part.1 in
    let no_line : lines_in all ≡ 0 = none.1 in
    (omega (arith, cards, all_cards, no_card), omega (arith, lines, all_lines, no_line))

-- what takes none in front
pub takes_behind : (before ds : List Event) → TakesNone before → TakesSame (before ++ ds) ds
takes_behind before ds none =
    let cards = cards_append before ds in
    let no_card : cards_in before ≡ 0 = none.0 in
    let lines = lines_append before ds in
    let no_line : lines_in before ≡ 0 = none.1 in
    (omega (arith, cards, no_card), omega (arith, lines, no_line))

-- a text behind
pub takes_before : (ds : List Event) (u : unit.Unit) (text : List ℕ) → TakesSame (ds ++ text_events u text) ds
takes_before ds u text =
    let cards = cards_append ds (text_events u text) in
    let no_card = cards_text u text in
    let lines = lines_append ds (text_events u text) in
    let no_line = lines_text u text in
    (omega (arith, cards, no_card), omega (arith, lines, no_line))

-- two lists that take none
pub takes_neither : (ds es : List Event) → TakesNone ds → TakesNone es → TakesNone (ds ++ es)
takes_neither ds es first second = let behind = takes_behind ds es first in (behind.0 ∙ second.0, behind.1 ∙ second.1)

-- a text takes none
pub text_takes : (u : unit.Unit) (text : List ℕ) → TakesNone (text_events u text)
text_takes u text = (cards_text u text, lines_text u text)

-- the texts that are made before a machine is powered on take none
pub makings_take : (ds : List Event) → AreMakings ds → TakesNone ds
makings_take [] are = (refl, refl)
makings_take (BindFile u name ∷ ds) are = makings_take ds are.1
makings_take (WriteByte u byte ∷ ds) are = makings_take ds are.1
makings_take (WriteSector a bytes ∷ ds) are = makings_take ds are.1
makings_take (TakeCard ∷ ds) are = absurd are.0
makings_take (TakeLine ∷ ds) are = absurd are.0

-- nor do bindings
one_takes : (u : unit.Unit) (name : Option (List ℕ)) → TakesNone (bind_event u name)
one_takes u None = (refl, refl)
one_takes u (Some name) = (refl, refl)

pub binds_take : (us : List unit.Unit) (names : Names) → TakesNone (bind_events us names)
binds_take [] names = (refl, refl)
binds_take (u ∷ us) names = takes_neither (bind_event u (names u)) (bind_events us names) (one_takes u (names u)) (binds_take us names)

-- WHAT IS LEFT WITHOUT THEM

-- behind what takes none
pub taken_behind : (before ds : List Event) (s t : State) → TakesNone before → HasTaken s t ds → HasTaken s t (before ++ ds)
taken_behind before ds s t none taken =
    taken_on before ds s s t (record { cards = ap (λ (n : ℕ). drop n s.hopper) (sym none.0); lines = ap (λ (n : ℕ). drop n s.keys) (sym none.1) }) taken

-- inputs that have these cards and lines left have them left by any other name
pub left_as : (r : MachineEnd) (cards keys more_cards more_keys : List Entry) (s : State) (shown : Option Console) (w : World) → cards ≡ more_cards → keys ≡ more_keys → HasLeft r cards keys s shown w → HasLeft r more_cards more_keys s shown w
left_as r cards keys more_cards more_keys s shown w same_cards same_keys has = record {
  hopper = has.hopper;
  keyboard = has.keyboard;
  own_is = has.own_is;
  cards_are = has.cards_are ∙ ap (λ (es : List Entry). Some es) same_cards;
  lines_are = has.lines_are ∙ ap (λ (es : List Entry). Some es) same_keys;
  read = has.read;
  typed = has.typed;
  shows = has.shows;
}

-- inputs are left so as long as nothing is taken of them, and none is asked
pub left_same : (r : MachineEnd) (cards keys : List Entry) (s : State) (shown : Option Console) (w v : World) → v.left ≡ w.left → v.asked ≡ w.asked → HasLeft r cards keys s shown w → HasLeft r cards keys s shown v
left_same r cards keys s shown w v left still has =
    let left_at : (u : unit.Unit) → v.left u ≡ w.left u = λ u. ap (λ (f : unit.Unit → Option (List ℕ)). f u) left in
    let asked_at : (u : unit.Unit) → v.asked u ≡ w.asked u = λ u. ap (λ (f : unit.Unit → Option Asked). f u) still in
    record {
      hopper = has.hopper;
      keyboard = has.keyboard;
      own_is = has.own_is;
      cards_are = hopper_same has.hopper v w (left_at units.Deck) (left_at units.Data) ∙ has.cards_are;
      lines_are = keys_same has.keyboard w v has.typed.by.unit (left_at units.Keys) ∙ has.lines_are;
      read = hoppers.read_same has.hopper w v (left_at units.Deck) (left_at units.Data) (asked_at units.Deck) (asked_at units.Data) (record { pile = r.pile; all = r.cards }) has.read;
      typed = keyboards.read_same has.keyboard w v (left_at units.Keys) (asked_at units.Keys) r.keys has.typed;
      shows = has.shows;
    }

-- HOW THE INPUTS ARE ASKED

pub unasked_on : (a b c : World) → Unasked a b → Unasked b c → Unasked a c
unasked_on a b c first second u read = second u read ∙ first u read

-- events ask no unit
events_asked : (ds : List Event) (w : World) → (after_events w ds).asked ≡ w.asked
events_asked [] w = refl
events_asked (BindFile u name ∷ ds) w = events_asked ds (after_event w (BindFile u name))
events_asked (WriteByte u byte ∷ ds) w = events_asked ds (after_event w (WriteByte u byte))
events_asked (WriteSector a bytes ∷ ds) w = events_asked ds (after_event w (WriteSector a bytes))
events_asked (TakeCard ∷ ds) w = events_asked ds w
events_asked (TakeLine ∷ ds) w = events_asked ds w

pub goes_unasked : (ds : List Event) (old new : Seen) → Goes old new (after_events old.world ds) → Unasked old.world new.world
goes_unasked ds old new goes u read = ap (λ (w : World). w.asked u) goes.world ∙ ap (λ (f : unit.Unit → Option Asked). f u) (events_asked ds old.world)

-- WHERE A JOB STOPS

-- as the inputs were left and asked, so they stay
pub asks_on : (rest : Option MachineEnd) (way : Option Way) (done more : List Event) (shown : Option Console) (old mid new : World) → TakesSame more done → new.left ≡ mid.left → new.asked ≡ mid.asked → AsksForInputs rest way done shown old mid
    → AsksForInputs rest way more shown old new
asks_on rest way done more shown old mid new same left still (unasked none before dark) = unasked (same.0 ∙ none.0, same.1 ∙ none.1) (λ u read. ap (λ (f : unit.Unit → Option Asked). f u) still ∙ before u read) dark
asks_on rest way done more shown old mid new same left still (asked r is s stands has) =
    asked r is s stands
    (left_same r (drop (cards_in more) r.cards) (drop (lines_in more) r.keys) s shown mid new left still
    (left_as r (drop (cards_in done) r.cards) (drop (lines_in done) r.keys) (drop (cards_in more) r.cards) (drop (lines_in more) r.keys) s shown mid
    (ap (λ (n : ℕ). drop n r.cards) (sym same.0)) (ap (λ (n : ℕ). drop n r.keys) (sym same.1)) has))

-- behind what takes none, and asks for none
pub asks_behind : (rest : Option MachineEnd) (way : Option Way) (before done : List Event) (shown : Option Console) (old mid new : World) → TakesNone before → Unasked old mid → AsksForInputs rest way done shown mid new
    → AsksForInputs rest way (before ++ done) shown old new
asks_behind rest way before done shown old mid new none still (unasked none_more more dark) = unasked (takes_neither before done none none_more) (unasked_on old mid new still more) dark
asks_behind rest way before done shown old mid new none still (asked r is s stands has) =
    let same = takes_behind before done none in
    asked r is s stands
    (left_as r (drop (cards_in done) r.cards) (drop (lines_in done) r.keys) (drop (cards_in (before ++ done)) r.cards) (drop (lines_in (before ++ done)) r.keys) s shown new
    (ap (λ (n : ℕ). drop n r.cards) (sym same.0)) (ap (λ (n : ℕ). drop n r.keys) (sym same.1)) has)

-- a job stopped within events that it begins with and that take none, and no input was asked: nothing is shown
pub stops_unasked : (j : Job) (before more : List Event) (old new : World) → j.events ≡ before ++ more → TakesNone before → Unasked old new → DidPart before old new → StopsAt j None old new
stops_unasked j before more old new is none still d = record {
  did = record { done = d.done; part = subst (IsFirstPart d.done) (sym is) (first_more d.done before more d.part); did = d.did };
  inputs = unasked (first_takes d.done before d.part none) still refl;
}
