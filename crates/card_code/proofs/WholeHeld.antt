-- Whether what is held shows the next line, and that the host is asked only while it doesn't.
use Rattle.std.proofs.Common.{◌≡◌, ◌≢◌, ℕ, suc, ◌+◌, ◌<◌, Bool, true, false, List, [], ◌∷◌, ◌++◌, length, take, refl, sym, ◌∙◌, ap, subst, arith, length-append, inl, inr}
use Rattle.std.proofs.lemmas.Bool.Decides.{nat_tests}
use Rattle.std.specs.Prelude.{◌||◌, ◌==◌, Option, Some, None}
use Rattle.outside_io.specs.Lines.{HasNoEnd}
use Rattle.outside_io.specs.World.{Readings, no_readings, one_reading, Seen, Goes, Gets, Ends, Fails, world_after_take}
use Rattle.outside_io.proofs.Worlds.{Read, read_on, read_end, read_stays, taken_from-nil}
use Rattle.card_code.specs.declared.lines.Lines.{Lines}
use Rattle.card_code.specs.Reader.{unit_of, bytes_held, has_end, HasWhole, with_last_reading, TakesNeeded, takes_none, takes_some, AsksOnce, asks_one}
use Rattle.card_code.proofs.Readers.{Reads, all_held}

-- a LF stays where more bytes stand behind it
end_on : (b : Bool) (held more : List ℕ) → ((has_end held ≡ true) → has_end (held ++ more) ≡ true) → ((b || has_end held) ≡ true) → (b || has_end (held ++ more)) ≡ true
end_on true held more rest is = refl
end_on false held more rest is = rest is

has_end-append : (held more : List ℕ) → has_end held ≡ true → has_end (held ++ more) ≡ true
has_end-append [] more is = cc
has_end-append (b ∷ held) more is = end_on (b == 10) held more (has_end-append held more) is

-- with more bytes it shows the line too
pub whole_on : (held more : List ℕ) → HasWhole held → HasWhole (held ++ more)
whole_on held more (inl is) = inl (has_end-append held more is)
whole_on held more (inr much) = inr (omega (arith, length-append held more))

-- bytes without LF have no end
no_end : (held : List ℕ) → HasNoEnd held → has_end held ≡ false
no_end [] none = refl
no_end (b ∷ held) none =
    let first : (b == 10) ≡ false = let other : b ≢ 10 = none 0 (omega arith) in grind (arith, nat_tests) in
    rw first (no_end held (λ k within. none (suc k) (omega (arith, within))))

-- fewer than 82 bytes without LF show no line
not_shown : (held : List ℕ) → HasNoEnd held → length held < 82 → HasWhole held → ⊥
not_shown held none few (inl is) = let never : false ≡ true = sym (no_end held none) ∙ is in cc
not_shown held none few (inr much) = omega (arith, few, much)

-- nor does a reader that has used up its piece, and has room
pub none_whole : (now : Lines) → now.start ≡ now.end → length now.held.items ≢ 82 → HasWhole (bytes_held now) → ⊥
none_whole now over room whole =
    not_shown now.held.items now.no_end (omega (arith, now.in_room, room)) (subst HasWhole (all_held now.held.items now.piece now.start now.end over) whole)

-- where the line is held at the start, the host is as it was
pub still_held : (start : Lines) (before after : Seen) → TakesNeeded start before after → HasWhole (bytes_held start) → after ≡ before
still_held start before after (takes_none same) whole = same
still_held start before after (takes_some asks) whole = absurd (asks.lacks (whole_on (bytes_held start) asks.earlier.bytes whole))

-- The host was asked by a reader that doesn't hold the line, and has found no end so far.
module _ (start now : Lines) (before after later : Seen) (reads : Reads start now before after) (lacks : HasWhole (bytes_held now) → ⊥) (some : reads.taken.ends ≡ 0) where
  needs_last : (last : Option (List ℕ)) → Read before later (unit_of start) (with_last_reading reads.taken last) → TakesNeeded start before later
  needs_last last read = takes_some (record {
    earlier = reads.taken;
    last = last;
    some = some;
    lacks = λ whole. lacks (subst HasWhole reads.parts whole);
    begins = read.begins;
    goes = read.goes;
  })

  -- these bytes came
  pub needs_got : (buf : List ℕ) (n : ℕ) → Gets after later (unit_of now) buf n → TakesNeeded start before later
  needs_got buf n gets = needs_last (Some (take n buf)) (read_on before after later (unit_of start) reads.taken buf n reads.read (subst (λ u. Gets after later u buf n) reads.unit gets))

  -- or it found no more
  pub needs_end : Ends after later (unit_of now) → TakesNeeded start before later
  needs_end ends = needs_last (Some []) (read_end before after later (unit_of start) reads.taken reads.read (subst (λ u. Goes after later (world_after_take u (one_reading []) after.world)) reads.unit ends.goes))

  -- or it failed
  pub needs_failed : Fails after later → TakesNeeded start before later
  needs_failed fails = needs_last None (read_stays before after later (unit_of start) reads.taken reads.read (record { later = fails.later; world = fails.world }))

one_alone : (piece : List ℕ) → one_reading piece ≡ with_last_reading no_readings (Some piece)
one_alone piece =
    let ends : (one_reading piece).ends ≡ 0 + (one_reading piece).ends = omega arith in
    λ i. record (one_reading piece) { ends = ends i }

-- a reading is one
pub once_got : (now : Lines) (before after : Seen) (piece : List ℕ) → Goes before after (world_after_take (unit_of now) (one_reading piece) before.world) → AsksOnce now before after
once_got now before after piece goes = asks_one (record { last = Some piece; goes = subst (λ (r : Readings). Goes before after (world_after_take (unit_of now) r before.world)) (one_alone piece) goes })

-- and a failed one
pub once_failed : (now : Lines) (before after : Seen) → Fails before after → AsksOnce now before after
once_failed now before after fails = asks_one (record { last = None; goes = record { later = fails.later; world = fails.world ∙ sym (taken_from-nil (unit_of now) before.world) } })

-- where a byte is pending, one is held or stands ahead
pub none_pending : (now : Lines) → now.held.items ≡ [] → now.start ≡ now.end → 0 < length (bytes_held now) → ⊥
none_pending now none over some = let empty : bytes_held now ≡ [] = all_held now.held.items now.piece now.start now.end over ∙ none in omega (arith, some, ap length empty)
