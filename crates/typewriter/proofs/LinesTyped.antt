-- What waits in a line, and then the rest, is typed.
use Rattle.std.proofs.Common.{ℕ, suc, ◌≡◌, ◌+◌, List, [], ◌∷◌, ◌++◌, length, map, take, Some, None, sym, ◌∙◌, ap, subst, arith, append_assoc}
use Rattle.std.proofs.lemmas.List.{map-append, take-map}
use Rattle.std.proofs.Math.Seq.{take-append-add}
use Rattle.std.specs.Prelude.{⊤, Result, Option}
use Rattle.indicators.specs.declared.Panel.{Panel}
use Rattle.indicators.specs.Lamps.{Lamp, panel_after}
use Rattle.outside_io.specs.declared.host.Unit.TheVariants as units
use Rattle.outside_io.specs.declared.whole.Sent.TheVariants as sent
use Rattle.outside_io.specs.World.{Seen, Goes, world_after_put}
use Rattle.outside_io.specs.Whole.{Stops}
use Rattle.outside_io.proofs.Worlds.{adds_on}
use Rattle.addr_indirect.specs.declared.Stop.{Stop}
use Rattle.traces.specs.Trace.{Trace, ends, does, does_all}
use Rattle.card_code.specs.TextOut.{Output, WritesByte, panel_after_pair}
use Rattle.card_code.specs.Written.{CarriedOut}
use Rattle.card_code.proofs.TextsOut.{put_on, part_of, writes_bytes, writes_no_lamp}
use Rattle.typewriter.specs.declared.typing.TypeIo.{TypeIo}
use Rattle.typewriter.specs.declared.typing.TypeIo.TheVariants as io
use Rattle.typewriter.specs.Typing.{Types, TypesPairs}
use Rattle.typewriter.specs.Line.{HasOneMore, HasMoreWaiting, AddsPair}
use Rattle.typewriter.proofs.PairsTyped.{pair_first}

-- the first characters are typed, and then the rest
gone_first : (gone : List ℕ) (t : Trace ℕ ⊤ Stop) (now mid after : Seen) (answer : TypeIo) → Goes now mid (world_after_put units.Typed gone now.world) → Types t mid after answer → Types (does_all gone t) now after answer
gone_first gone t now mid after io.Done goes rest = record { answers = rest.answers; goes = adds_on now mid after units.Typed gone t.effects goes rest.goes }
gone_first gone t now mid after (io.Stop s) goes rest = record { answers = rest.answers; goes = adds_on now mid after units.Typed gone t.effects goes rest.goes }
gone_first gone t now mid after io.NoKeys goes rest = rest
gone_first gone t now mid after (io.Jam n) goes rest = rest
gone_first gone t now mid after io.Failed goes rest = record {
  done = length gone + rest.done;
  goes = subst (λ (bytes : List ℕ). Goes now after (world_after_put units.Typed bytes now.world)) (sym (take-append-add gone t.effects rest.done)) (adds_on now mid after units.Typed gone (take rest.done t.effects) goes rest.goes);
  rose = omega (arith, goes.later, rest.rose);
}

-- one character more waits
pub typed_one_more : (old : List ℕ) (c : ℕ) (new : List ℕ) (t : Trace ℕ ⊤ Stop) (now mid after : Seen) (answer : TypeIo) → HasOneMore old c new now mid → Types (does_all new t) mid after answer → Types (does_all old (does c t)) now after answer
typed_one_more old c new t now mid after answer more rest =
    let same : more.gone ++ (new ++ t.effects) ≡ old ++ c ∷ t.effects =
    sym (append_assoc more.gone new t.effects) ∙ ap (λ (x : List ℕ). x ++ t.effects) more.parts ∙ append_assoc old (c ∷ []) t.effects in
    subst (λ (x : List ℕ). Types (record { effects = x; answer = t.answer }) now after answer) same (gone_first more.gone (does_all new t) now mid after answer more.goes rest)

-- some more wait
pub some_more : (old cs new : List ℕ) (t : Trace ℕ ⊤ Stop) (now mid after : Seen) (answer : TypeIo) → HasMoreWaiting old cs new now mid → Types (does_all new t) mid after answer → Types (does_all old (does_all cs t)) now after answer
some_more old cs new t now mid after answer more rest =
    let same : more.gone ++ (new ++ t.effects) ≡ old ++ (cs ++ t.effects) =
    sym (append_assoc more.gone new t.effects) ∙ ap (λ (x : List ℕ). x ++ t.effects) more.parts ∙ append_assoc old cs t.effects in
    subst (λ (x : List ℕ). Types (record { effects = x; answer = t.answer }) now after answer) same (gone_first more.gone (does_all new t) now mid after answer more.goes rest)

-- the host failed within the line
pub line_failed : (line : List ℕ) (t : Trace ℕ ⊤ Stop) (now after : Seen) → Stops now after units.Typed line → Types (does_all line t) now after io.Failed
line_failed line t now after stops = record {
  done = length stops.written;
  goes = subst (λ (bytes : List ℕ). Goes now after (world_after_put units.Typed bytes now.world)) (sym (part_of stops.written stops.rest line t.effects stops.parts)) stops.goes;
  rose = stops.rose;
}

put_bytes : (bytes : List ℕ) (panel : Panel) (now after : Seen) → Goes now after (world_after_put units.Typed bytes now.world) → CarriedOut units.Typed (map WritesByte bytes) panel now panel after
put_bytes bytes panel now after goes = record {
  goes = subst (λ (x : List ℕ). Goes now after (world_after_put units.Typed x now.world)) (sym (writes_bytes bytes)) goes;
  shows = ap (λ (x : List Lamp). panel_after panel x) (sym (writes_no_lamp bytes));
}

-- The same of pairs.
gone_pairs : (gone : List ℕ) (t : Trace Output ⊤ Stop) (panel new_panel : Panel) (now mid after : Seen) (answer : TypeIo) → Goes now mid (world_after_put units.Typed gone now.world)
    → TypesPairs t panel mid new_panel after answer → TypesPairs (does_all (map WritesByte gone) t) panel now new_panel after answer
gone_pairs gone t panel new_panel now mid after io.Done goes rest = record { answers = rest.answers; puts = put_on units.Typed (map WritesByte gone) t.effects panel panel new_panel now mid after (put_bytes gone panel now mid goes) rest.puts }
gone_pairs gone t panel new_panel now mid after (io.Stop s) goes rest = record { answers = rest.answers; puts = put_on units.Typed (map WritesByte gone) t.effects panel panel new_panel now mid after (put_bytes gone panel now mid goes) rest.puts }
gone_pairs gone t panel new_panel now mid after io.NoKeys goes rest = rest
gone_pairs gone t panel new_panel now mid after (io.Jam n) goes rest = rest
gone_pairs gone t panel new_panel now mid after io.Failed goes rest = record {
  done = length (map WritesByte gone) + rest.done;
  puts = subst (λ (x : List Output). CarriedOut units.Typed x panel now new_panel after) (sym (take-append-add (map WritesByte gone) t.effects rest.done)) (put_on units.Typed (map WritesByte gone) (take rest.done t.effects) panel panel new_panel now mid after (put_bytes gone panel now mid goes) rest.puts);
  rose = omega (arith, goes.later, rest.rose);
}

-- the write check goes on, and then the rest
check_on : (t : Trace Output ⊤ Stop) (panel new_panel : Panel) (now after : Seen) (answer : TypeIo) → TypesPairs (does (WritesByte 32) t) (panel_after_pair None panel) now new_panel after answer → TypesPairs (pair_first None t) panel now new_panel after answer
check_on t panel new_panel now after io.Done rest = record { answers = rest.answers; puts = record { goes = rest.puts.goes; shows = rest.puts.shows } }
check_on t panel new_panel now after (io.Stop s) rest = record { answers = rest.answers; puts = record { goes = rest.puts.goes; shows = rest.puts.shows } }
check_on t panel new_panel now after io.NoKeys rest = rest
check_on t panel new_panel now after (io.Jam n) rest = rest
check_on t panel new_panel now after io.Failed rest = record { done = suc rest.done; puts = record { goes = rest.puts.goes; shows = rest.puts.shows }; rose = rest.rose }

-- the character of one pair more waits
pub pair_more : (char : Option ℕ) (old : List ℕ) (panel : Panel) (new : List ℕ) (mid_panel new_panel : Panel) (t : Trace Output ⊤ Stop) (now mid after : Seen) (answer : TypeIo) → AddsPair char old panel new mid_panel now mid sent.Done
    → TypesPairs (does_all (map WritesByte new) t) mid_panel mid new_panel after answer → TypesPairs (does_all (map WritesByte old) (pair_first char t)) panel now new_panel after answer
pair_more (Some c) old panel new mid_panel new_panel t now mid after answer adds rest =
    let more = adds.0 in
    let same : map WritesByte more.gone ++ (map WritesByte new ++ t.effects) ≡ map WritesByte old ++ WritesByte c ∷ t.effects =
    sym (append_assoc (map WritesByte more.gone) (map WritesByte new) t.effects)
    ∙ ap (λ (x : List Output). x ++ t.effects) (sym (map-append WritesByte more.gone new) ∙ ap (λ (x : List ℕ). map WritesByte x) more.parts ∙ map-append WritesByte old (c ∷ []))
    ∙ append_assoc (map WritesByte old) (WritesByte c ∷ []) t.effects in
    let on : TypesPairs (does_all (map WritesByte new) t) panel mid new_panel after answer = subst (λ (p : Panel). TypesPairs (does_all (map WritesByte new) t) p mid new_panel after answer) adds.1 rest in
    subst (λ (x : List Output). TypesPairs (record { effects = x; answer = t.answer }) panel now new_panel after answer) same
    (gone_pairs more.gone (does_all (map WritesByte new) t) panel new_panel now mid after answer more.goes on)
pair_more None old panel new mid_panel new_panel t now mid after answer adds rest =
    let on : TypesPairs (does_all (map WritesByte (32 ∷ [])) t) (panel_after_pair None panel) mid new_panel after answer = rw (adds.blank, adds.seen) at rest in
    gone_pairs old (pair_first None t) panel new_panel now mid after answer adds.goes (check_on t panel new_panel mid after answer on)

-- the host failed within the line; the panel is as it was
pub pairs_failed : (line : List ℕ) (t : Trace Output ⊤ Stop) (panel : Panel) (now after : Seen) → Stops now after units.Typed line → TypesPairs (does_all (map WritesByte line) t) panel now panel after io.Failed
pairs_failed line t panel now after stops =
    let parts : map WritesByte stops.written ++ map WritesByte stops.rest ≡ map WritesByte line = sym (map-append WritesByte stops.written stops.rest) ∙ ap (λ (x : List ℕ). map WritesByte x) stops.parts in
    record {
      done = length (map WritesByte stops.written);
      puts = subst (λ (x : List Output). CarriedOut units.Typed x panel now panel after) (sym (part_of (map WritesByte stops.written) (map WritesByte stops.rest) (map WritesByte line) t.effects parts)) (put_bytes stops.written panel now after stops.goes);
      rose = stops.rose;
    }

-- which is so of whatever pair was to be added
pub pair_failed : (char : Option ℕ) (old : List ℕ) (panel : Panel) (new : List ℕ) (new_panel : Panel) (t : Trace Output ⊤ Stop) (now after : Seen) → AddsPair char old panel new new_panel now after sent.Failed
    → TypesPairs (does_all (map WritesByte old) t) panel now new_panel after io.Failed
pair_failed (Some c) old panel new new_panel t now after adds = subst (λ (p : Panel). TypesPairs (does_all (map WritesByte old) t) panel now p after io.Failed) (sym adds.1) (pairs_failed old t panel now after adds.0)
pair_failed None old panel new new_panel t now after adds = subst (λ (p : Panel). TypesPairs (does_all (map WritesByte old) t) panel now p after io.Failed) (sym adds.1) (pairs_failed old t panel now after adds.0)

-- bytes that were typed are those of pairs
pub as_pairs : (line : List ℕ) (r : Result ⊤ Stop) (panel : Panel) (now after : Seen) (answer : TypeIo) → Types (does_all line (ends r)) now after answer → TypesPairs (does_all (map WritesByte line) (ends r)) panel now panel after answer
as_pairs line r panel now after io.Done typed = record { answers = typed.answers; puts = subst (λ (x : List Output). CarriedOut units.Typed x panel now panel after) (map-append WritesByte line []) (put_bytes (line ++ []) panel now after typed.goes) }
as_pairs line r panel now after (io.Stop s) typed = record { answers = typed.answers; puts = subst (λ (x : List Output). CarriedOut units.Typed x panel now panel after) (map-append WritesByte line []) (put_bytes (line ++ []) panel now after typed.goes) }
as_pairs line r panel now after io.NoKeys typed = typed
as_pairs line r panel now after (io.Jam n) typed = typed
as_pairs line r panel now after io.Failed typed =
    let same : map WritesByte (take typed.done (line ++ [])) ≡ take typed.done (map WritesByte line ++ []) =
    sym (take-map WritesByte typed.done (line ++ [])) ∙ ap (λ (x : List Output). take typed.done x) (map-append WritesByte line []) in
    record {
      done = typed.done;
      puts = subst (λ (x : List Output). CarriedOut units.Typed x panel now panel after) same (put_bytes (take typed.done (line ++ [])) panel now after typed.goes);
      rose = typed.rose;
    }
