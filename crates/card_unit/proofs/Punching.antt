-- Cards as they go out.
use Rattle.std.proofs.Common.{◌≡◌, ℕ, ◌+◌, List, [], ◌∷◌, ◌++◌, length, map, take, Ok, Err, refl, sym, ◌∙◌, ap, subst, arith}
use Rattle.std.proofs.lemmas.List.{append-nil, take-map}
use Rattle.std.proofs.Math.Seq.{take-append-add}
use Rattle.std.specs.Prelude.{Result, ⊤}
use Rattle.indicators.specs.declared.Panel.{Panel}
use Rattle.indicators.specs.Lamps.{Lamp, panel_after}
use Rattle.outside_io.specs.declared.host.Unit.TheVariants as units
use Rattle.outside_io.specs.World.{Seen, Goes, world_after_put}
use Rattle.outside_io.specs.Whole.{Stops}
use Rattle.outside_io.proofs.Worlds.{added_to-nil, adds_on}
use Rattle.addr_indirect.specs.declared.Stop.{Stop}
use Rattle.traces.specs.Trace.{Trace, ends, after_answer, lift}
use Rattle.card_code.specs.TextOut.{Output, WritesByte, bytes_out, lamps_of}
use Rattle.card_code.specs.Written.{Wrote, WroteFirst, CarriedOut, WrotePairs, WroteFirstPairs}
use Rattle.card_code.proofs.TextsOut.{bytes_of-append, lamps_of-append, part_of, writes_bytes, writes_no_lamp}
use Rattle.card_unit.specs.declared.reader.CardIo.{CardIo}
use Rattle.card_unit.specs.declared.reader.CardIo.TheVariants as io
use Rattle.card_unit.specs.Punch.{punch_card}
use Rattle.card_unit.specs.CardCalls.{Punches}

-- nothing went out
pub stays : (now : Seen) → Goes now now (world_after_put units.Punched [] now.world)
stays now = record { later = omega arith; world = sym (added_to-nil units.Punched now.world) }

pub ended_now : (now : Seen) (answer : Result ⊤ Stop) → Wrote units.Punched (ends answer) now now answer
ended_now now answer = record { answers = refl; goes = stays now }

-- the line of a card
abbrev pub line : List ℕ → List ℕ
line text = text ++ 10 ∷ []

-- a card went out, and then the rest
pub card_sent : (text : List ℕ) (t : Trace ℕ ⊤ Stop) (now mid after : Seen) (answer : CardIo) → Goes now mid (world_after_put units.Punched (line text) now.world) → Punches t mid after answer → Punches (punch_card text t) now after answer
card_sent text t now mid after io.Done sent rest = record { answers = rest.answers; goes = adds_on now mid after units.Punched (line text) t.effects sent rest.goes }
card_sent text t now mid after (io.Stop why) sent rest = record { answers = rest.answers; goes = adds_on now mid after units.Punched (line text) t.effects sent rest.goes }
card_sent text t now mid after io.Empty sent rest = rest
card_sent text t now mid after (io.Jam u n) sent rest = rest
card_sent text t now mid after io.Failed sent rest = record {
  done = length (line text) + rest.done;
  goes = subst (λ (bytes : List ℕ). Goes now after (world_after_put units.Punched bytes now.world)) (sym (take-append-add (line text) t.effects rest.done)) (adds_on now mid after units.Punched (line text) (take rest.done t.effects) sent rest.goes);
  rose = omega (arith, sent.later, rest.rose);
}

-- the host failed within a card
pub card_broken : (text : List ℕ) (t : Trace ℕ ⊤ Stop) (now after : Seen) → Stops now after units.Punched (line text) → WroteFirst units.Punched (punch_card text t) now after
card_broken text t now after stops = record {
  done = length stops.written;
  goes = subst (λ (bytes : List ℕ). Goes now after (world_after_put units.Punched bytes now.world)) (sym (part_of stops.written stops.rest (line text) t.effects stops.parts)) stops.goes;
  rose = stops.rose;
}

take_writes : (n : ℕ) (bytes : List ℕ) → take n (map WritesByte bytes) ≡ map WritesByte (take n bytes)
take_writes n bytes = take-map WritesByte n bytes

-- Pairs were read, with these changes of the panel, and then these bytes went out.
module _ (es : List Output) (panel new_panel : Panel) (silent : bytes_out es ≡ []) (seen : new_panel ≡ panel_after panel (lamps_of es)) where
  put_all : (bytes : List ℕ) (now after : Seen) → Goes now after (world_after_put units.Punched bytes now.world) → CarriedOut units.Punched (es ++ map WritesByte bytes) panel now new_panel after
  put_all bytes now after goes =
      let all : bytes_out (es ++ map WritesByte bytes) ≡ bytes = bytes_of-append es (map WritesByte bytes) ∙ ap (λ (x : List ℕ). x ++ bytes_out (map WritesByte bytes)) silent ∙ writes_bytes bytes in
      let lamps : lamps_of (es ++ map WritesByte bytes) ≡ lamps_of es = lamps_of-append es (map WritesByte bytes) ∙ ap (λ (x : List Lamp). lamps_of es ++ x) (writes_no_lamp bytes) ∙ append-nil (lamps_of es) in
      record {
        goes = subst (λ (x : List ℕ). Goes now after (world_after_put units.Punched x now.world)) (sym all) goes;
        shows = seen ∙ ap (λ (x : List Lamp). panel_after panel x) (sym lamps);
      }

  -- what follows the reading of the pairs
  abbrev pub then_card : Result (List ℕ) Stop → Trace Output ⊤ Stop
  then_card text = after_answer es text (λ text. lift WritesByte (punch_card text (ends (Ok tt))))

  -- a stop, and no card goes out
  pub pairs_stopped : (r : Result (List ℕ) Stop) (why : Stop) (now : Seen) → Err why ≡ r → WrotePairs units.Punched (then_card r) panel now new_panel now (Err why)
  pairs_stopped r why now is =
      subst (λ (r : Result (List ℕ) Stop). WrotePairs units.Punched (then_card r) panel now new_panel now (Err why)) is
      (record { answers = refl; puts = record { goes = subst (λ (x : List ℕ). Goes now now (world_after_put units.Punched x now.world)) (sym silent) (stays now); shows = seen } })

  -- the card went out
  pub pairs_sent : (r : Result (List ℕ) Stop) (text : List ℕ) (now after : Seen) → Ok text ≡ r → Goes now after (world_after_put units.Punched (line text) now.world) → WrotePairs units.Punched (then_card r) panel now new_panel after (Ok tt)
  pairs_sent r text now after is sent =
      subst (λ (r : Result (List ℕ) Stop). WrotePairs units.Punched (then_card r) panel now new_panel after (Ok tt)) is
      (record { answers = refl; puts = put_all (line text ++ []) now after (subst (λ (x : List ℕ). Goes now after (world_after_put units.Punched x now.world)) (sym (append-nil (line text))) sent) })

  -- the host failed within the card
  pub pairs_broken : (r : Result (List ℕ) Stop) (text : List ℕ) (now after : Seen) → Ok text ≡ r → Stops now after units.Punched (line text) → WroteFirstPairs units.Punched (then_card r) panel now new_panel after
  pairs_broken r text now after is stops =
      let first : take (length es + length stops.written) (es ++ map WritesByte (line text ++ [])) ≡ es ++ map WritesByte stops.written =
      take-append-add es (map WritesByte (line text ++ [])) (length stops.written)
      ∙ ap (λ (x : List Output). es ++ x) (take_writes (length stops.written) (line text ++ []) ∙ ap (λ (x : List ℕ). map WritesByte x) (part_of stops.written stops.rest (line text) [] stops.parts)) in
      subst (λ (r : Result (List ℕ) Stop). WroteFirstPairs units.Punched (then_card r) panel now new_panel after) is
      (record {
        done = length es + length stops.written;
        puts = subst (λ (x : List Output). CarriedOut units.Punched x panel now new_panel after) (sym first) (put_all stops.written now after stops.goes);
        rose = stops.rose;
      })

-- Who punches the rest t from now on has punched the whole from the first.
pub record Onward (t : Trace ℕ ⊤ Stop) (now : Seen) (whole : Trace ℕ ⊤ Stop) (first : Seen) : Type 0 where
  pub by : (after : Seen) (answer : CardIo) → Punches t now after answer → Punches whole first after answer

pub onward_start : (t : Trace ℕ ⊤ Stop) (now : Seen) → Onward t now t now
onward_start t now = record { by = λ after answer rest. rest }

-- a card of the rest went out
pub onward_card : (text : List ℕ) (t : Trace ℕ ⊤ Stop) (now mid : Seen) (whole : Trace ℕ ⊤ Stop) (first : Seen) → Onward (punch_card text t) now whole first → Goes now mid (world_after_put units.Punched (line text) now.world) → Onward t mid whole first
onward_card text t now mid whole first onward sent = record { by = λ after answer rest. onward.by after answer (card_sent text t now mid after answer sent rest) }
