-- Texts that are sent one after another.
use Rattle.std.proofs.Common.{◌≡◌, ℕ, ◌≤◌, List, [], ◌++◌, sym, ap, ◌∙◌, arith}
use Rattle.outside_io.specs.declared.host.Unit as unit
use Rattle.outside_io.specs.declared.whole.Sent.{Sent}
use Rattle.outside_io.specs.declared.whole.Sent.TheVariants as sent
use Rattle.outside_io.specs.World.{Seen, Rose, Goes, world_after_put}
use Rattle.outside_io.specs.Whole.{Sends}
use Rattle.std.proofs.lemmas.List.{append-nil, append_assoc}
use Rattle.outside_io.proofs.Worlds.{adds_on, added_to-nil}

rose_later : (a b c : ℕ) → a ≤ b → Rose b c → Rose a c
rose_later a b c h r = omega (arith, r)

-- a first part of a text was sent, and this is left
pub record Sending (start now : Seen) (u : unit.Unit) (rest whole : List ℕ) : Type 0 where
  pub done : List ℕ
  pub parts : done ++ rest ≡ whole
  pub goes : Goes start now (world_after_put u done start.world)

-- nothing was sent yet
pub begins_as : (start : Seen) (u : unit.Unit) (rest whole : List ℕ) → rest ≡ whole → Sending start start u rest whole
begins_as start u rest whole e = record { done = []; parts = e; goes = record { later = omega arith; world = sym (added_to-nil u start.world) } }

-- the next piece was sent
pub more_sent : (start now next : Seen) (u : unit.Unit) (piece rest whole : List ℕ) → Sending start now u (piece ++ rest) whole → Sends now next u piece sent.Done → Sending start next u rest whole
more_sent start now next u piece rest whole s g = record { done = s.done ++ piece; parts = append_assoc s.done piece rest ∙ s.parts; goes = adds_on start now next u s.done piece s.goes g }

-- the next piece was cut off
pub cut_off : (start now next : Seen) (u : unit.Unit) (piece rest whole : List ℕ) → Sending start now u (piece ++ rest) whole → Sends now next u piece sent.Failed → Sends start next u whole sent.Failed
cut_off start now next u piece rest whole s b = record {
  written = s.done ++ b.written;
  rest = b.rest ++ rest;
  parts = append_assoc s.done b.written (b.rest ++ rest) ∙ (ap (λ (text : List ℕ). s.done ++ text) (sym (append_assoc b.written b.rest rest) ∙ ap (λ (text : List ℕ). text ++ rest) b.parts) ∙ s.parts);
  rose = rose_later start.faults now.faults next.faults s.goes.later b.rose;
  goes = adds_on start now next u s.done b.written s.goes b.goes;
}

-- nothing is left
pub all_sent : (start now : Seen) (u : unit.Unit) (whole : List ℕ) → Sending start now u [] whole → Sends start now u whole sent.Done
all_sent start now u whole s = rw (← s.parts, append-nil s.done) s.goes

-- what is left, written otherwise
pub left_as : (start now : Seen) (u : unit.Unit) (rest other whole : List ℕ) → rest ≡ other → Sending start now u rest whole → Sending start now u other whole
left_as start now u rest other whole e s = rw (← e) s

-- a text was sent, and another one behind it in whole or in part
pub sends_on : (start now next : Seen) (u : unit.Unit) (first second : List ℕ) (how : Sent) → Sends start now u first sent.Done → Sends now next u second how → Sends start next u (first ++ second) how
sends_on start now next u first second sent.Done a b = adds_on start now next u first second a b
sends_on start now next u first second sent.Failed a b = record {
  written = first ++ b.written;
  rest = b.rest;
  parts = append_assoc first b.written b.rest ∙ ap (λ (text : List ℕ). first ++ text) b.parts;
  rose = rose_later start.faults now.faults next.faults a.later b.rose;
  goes = adds_on start now next u first b.written a b.goes;
}

-- a text was cut off, and so is all that begins with it
pub cut_short : (start now : Seen) (u : unit.Unit) (first second : List ℕ) → Sends start now u first sent.Failed → Sends start now u (first ++ second) sent.Failed
cut_short start now u first second a = record {
  written = a.written;
  rest = a.rest ++ second;
  parts = sym (append_assoc a.written a.rest second) ∙ ap (λ (text : List ℕ). text ++ second) a.parts;
  rose = a.rose;
  goes = a.goes;
}

-- a text that was sent, written otherwise
pub sends_as : (start now : Seen) (u : unit.Unit) (text other : List ℕ) (how : Sent) → text ≡ other → Sends start now u text how → Sends start now u other how
sends_as start now u text other how e s = rw (← e) s
