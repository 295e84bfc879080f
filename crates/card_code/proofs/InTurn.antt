-- That a reader of lines stays in turn.
use Rattle.std.proofs.Common.{◌≡◌, ◌≢◌, ℕ, zero, suc, ◌+◌, ◌-◌, ◌<◌, ◌≤◌, Bool, true, false, List, [], ◌∷◌, ◌++◌, length, take, drop, refl, sym, ◌∙◌, ap, subst, arith, inl, inr, length-append}
use Rattle.std.proofs.lemmas.List.{append-nil, length-take}
use Rattle.std.proofs.lemmas.Option.{IfSome_then}
use Rattle.std.specs.Prelude.{Option, Some, None, option_map, IfSome, ◌⊎◌, ◌||◌, ◌==◌, if◌then◌else◌, get_or}
use Rattle.outside_io.specs.declared.host.Unit as unit
use Rattle.outside_io.specs.World.{World, Asked, Readings, one_reading, asked_after, Seen, Goes, Gets, Ends, world_after_take}
use Rattle.outside_io.specs.Lines.{first_line_of, behind_line, first_text, without_return, HasNoEnd}
use Rattle.outside_io.proofs.Worlds.{same_unit-refl}
use Rattle.outside_io.proofs.LineLemmas.{line_of-append, behind_line-append, length-without_return}
use Rattle.card_code.specs.declared.lines.Lines.{Lines}
use Rattle.card_code.specs.declared.lines.LineAnswer.{LineAnswer}
use Rattle.card_code.specs.declared.lines.LineAnswer.TheVariants as answer
use Rattle.card_code.specs.Reader.{unit_of, lines_tally, bytes_held, has_end, HasWhole, AsksInTurn, IsInTurn, AsksOneAhead, IsOneAhead}
use Rattle.card_code.specs.Holding.{HoldsMore, HandsOut}
use Rattle.card_code.proofs.Readers.{step_ahead, all_held}
use Rattle.card_code.proofs.WholeHeld.{none_whole}

-- While a reader looks for a line it is nearly in turn: what the last reading gave may all be held, but not all behind the first line.
abbrev pub AsksNearTurn : List ℕ → Asked → Type 0
AsksNearTurn held asked =
    (asked.last ≡ 0) ⊎ ((length (behind_line held) < asked.last) ⊎ ((HasWhole held → ⊥) ⊎ (80 < length (first_text held))))

abbrev pub IsNearTurn : Lines → World → Type 0
IsNearTurn lines w = IfSome (w.asked (unit_of lines)) (AsksNearTurn (bytes_held lines))

-- what is behind a line is no longer than all
cut_fits : (ends : Bool) (bytes behind : List ℕ) → length behind ≤ length bytes → length (if ends then bytes else behind) ≤ length bytes
cut_fits true bytes behind fits = omega arith
cut_fits false bytes behind fits = fits

behind_fits : (bytes : List ℕ) → length (behind_line bytes) ≤ length bytes
behind_fits [] = omega arith
behind_fits (b ∷ bytes) = let fits = cut_fits (b == 10) bytes (behind_line bytes) (behind_fits bytes) in omega (arith, fits)

-- and shorter than some
behind_shorter : (bytes : List ℕ) → 0 < length bytes → length (behind_line bytes) < length bytes
behind_shorter [] some = absurd (omega (arith, some))
behind_shorter (b ∷ bytes) some = let fits = cut_fits (b == 10) bytes (behind_line bytes) (behind_fits bytes) in omega (arith, fits)

-- a reader in turn is one ahead at most
turn_ahead : (held : List ℕ) (asked : Asked) → AsksInTurn held asked → AsksOneAhead held asked
turn_ahead held asked (inl none) = inl none
turn_ahead held asked (inr (inl few)) = inr (inl (omega (arith, few)))
turn_ahead held asked (inr (inr more)) = inr (inr more)

pub is_ahead : (lines : Lines) (w : World) → IsInTurn lines w → IsOneAhead lines w
is_ahead lines w turn = IfSome_then (w.asked (unit_of lines)) turn (turn_ahead (bytes_held lines))

-- such a reader is nearly in turn
few_behind : (held : List ℕ) (last : ℕ) → length held ≤ last → (last ≡ 0) ⊎ (length (behind_line held) < last)
few_behind [] zero few = inl refl
few_behind [] (suc n) few = inr (omega arith)
few_behind (b ∷ held) last few = inr (omega (arith, few, behind_shorter (b ∷ held) (omega arith)))

near_turn : (held : List ℕ) (asked : Asked) → AsksOneAhead held asked → AsksNearTurn held asked
near_turn held asked (inl none) = inl none
near_turn held asked (inr (inl few)) = elim (few_behind held asked.last few) [ inl none ↦ inl none | inr less ↦ inr (inl less) ]
near_turn held asked (inr (inr more)) = inr (inr more)

pub turn_starts : (lines : Lines) (w : World) → IsOneAhead lines w → IsNearTurn lines w
turn_starts lines w ahead = IfSome_then (w.asked (unit_of lines)) ahead (near_turn (bytes_held lines))

-- how a unit is asked by readings
asked-taken_from : (u : unit.Unit) (r : Readings) (w : World) → (world_after_take u r w).asked u ≡ option_map (asked_after r) (w.asked u)
asked-taken_from u r w = ap (λ (b : Bool). if b then option_map (asked_after r) (w.asked u) else w.asked u) (same_unit-refl u)

one_asked : (piece : List ℕ) (P : Asked → Type 0) (told : Option Asked) → ((a : Asked) → a.last ≡ length piece → P a) → IfSome (option_map (asked_after (one_reading piece)) told) P
one_asked piece P None holds = tt
one_asked piece P (Some a) holds = holds (asked_after (one_reading piece) a) refl

-- by one reading it was asked last
asked_last : (u : unit.Unit) (before after : Seen) (piece : List ℕ) (P : Asked → Type 0) → Goes before after (world_after_take u (one_reading piece) before.world) → ((a : Asked) → a.last ≡ length piece → P a) → IfSome (after.world.asked u) P
asked_last u before after piece P goes holds =
    let told : after.world.asked u ≡ option_map (asked_after (one_reading piece)) (before.world.asked u) = ap (λ (w : World). w.asked u) goes.world ∙ asked-taken_from u (one_reading piece) before.world in
    subst (λ (o : Option Asked). IfSome o P) (sym told) (one_asked piece P (before.world.asked u) holds)

-- A reader held more of its piece.
pub turn_held : (last now : Lines) (w : World) (ends : Bool) → HoldsMore last now ends → IsNearTurn last w → IsNearTurn now w
turn_held last now w ends holds turn =
    subst (λ (u : unit.Unit). IfSome (w.asked u) (AsksNearTurn (bytes_held now))) (sym holds.unit)
    (subst (λ (held : List ℕ). IfSome (w.asked (unit_of last)) (AsksNearTurn held)) (sym holds.same) turn)

-- Bytes came behind what is held, in which no LF stands: what is behind the first line is among them.
pub turn_got : (now : Lines) (before after : Seen) (buf : List ℕ) (n : ℕ) → Gets before after (unit_of now) buf n → IfSome (after.world.asked (unit_of now)) (AsksNearTurn (now.held.items ++ take (n - 0) (drop 0 buf)))
turn_got now before after buf n gets =
    let whole : n - 0 ≡ n = omega arith in
    let behind : behind_line (now.held.items ++ take (n - 0) (drop 0 buf)) ≡ behind_line (take n buf) = ap (λ (k : ℕ). behind_line (now.held.items ++ take k buf)) whole ∙ behind_line-append now.held.items (take n buf) now.no_end in
    let some : 0 < length (take n buf) = omega (arith, length-take n buf, gets.some, gets.fits) in
    asked_last (unit_of now) before after (take n buf) _ gets.goes (λ a is. inr (inl (omega (arith, is, ap length behind, behind_shorter (take n buf) some))))

-- No more bytes came.
pub turn_ended : (u : unit.Unit) (before after : Seen) (held : List ℕ) → Ends before after u → IfSome (after.world.asked u) (AsksInTurn held)
turn_ended u before after held ends = asked_last u before after [] (AsksInTurn held) ends.goes (λ a is. inl is)

-- what holds of each value holds of one that is told
each_told : (told : Option Asked) (P : Asked → Type 0) → ((a : Asked) → P a) → IfSome told P
each_told None P holds = tt
each_told (Some a) P holds = holds a

-- No bytes came, and what is held doesn't show the line.
pub turn_failed : (now : Lines) (piece : List ℕ) (told : Option Asked) → now.start ≡ now.end → length now.held.items ≢ 82 → IfSome told (AsksInTurn (now.held.items ++ take (now.end - now.start) (drop now.start piece)))
turn_failed now piece told over room =
    let same = all_held now.held.items piece now.start now.end over ∙ sym (all_held now.held.items now.piece now.start now.end over) in
    each_told told _ (λ a. inr (inr (inl (λ whole. none_whole now over room (subst HasWhole same whole)))))

-- It shows that the line is too long.
turn_long : (new : Lines) (w : World) → 80 < length (first_text (bytes_held new)) → IsInTurn new w
turn_long new w long = each_told (w.asked (unit_of new)) _ (λ a. inr (inr (inr long)))

-- a LF stands behind some bytes
or_true : (b c : Bool) → c ≡ true → (b || c) ≡ true
or_true true c is = refl
or_true false c is = is

end_behind : (held ahead : List ℕ) → has_end (held ++ 10 ∷ ahead) ≡ true
end_behind [] ahead = refl
end_behind (b ∷ held) ahead = or_true (b == 10) (has_end (held ++ 10 ∷ ahead)) (end_behind held ahead)

-- A LF stands behind what is held without one.
module _ (held ahead : List ℕ) (none : HasNoEnd held) where
  -- that is the first line
  first_held : first_text (held ++ 10 ∷ ahead) ≡ without_return held
  first_held = ap without_return (line_of-append held (10 ∷ ahead) none ∙ append-nil held)

  -- once it is handed out a reader is in turn that was nearly so
  handed_turn : (asked : Asked) → length (without_return held) ≤ 80 → AsksNearTurn (held ++ 10 ∷ ahead) asked → AsksInTurn ahead asked
  handed_turn asked short (inl is) = inl is
  handed_turn asked short (inr (inl few)) = inr (inl (omega (arith, few, ap length (behind_line-append held (10 ∷ ahead) none))))
  handed_turn asked short (inr (inr (inl lacks))) = absurd (lacks (inl (end_behind held ahead)))
  handed_turn asked short (inr (inr (inr long))) = absurd (omega (arith, short, long, ap length first_held))

-- what is ahead of a LF that stands next
next_parts : (now : Lines) → now.start < now.end → get_or now.piece now.start 0 ≡ 10 → now.start < length now.piece → now.held.items ++ 10 ∷ take (now.end - (now.start + 1)) (drop (now.start + 1) now.piece) ≡ bytes_held now
next_parts now more next within =
    let ahead : List ℕ = take (now.end - (now.start + 1)) (drop (now.start + 1) now.piece) in
    ap (λ (b : ℕ). now.held.items ++ b ∷ ahead) (sym next) ∙ ap (λ (x : List ℕ). now.held.items ++ x) (sym (step_ahead now.piece now.start now.end more within))

-- What is held was handed out, up to the LF that stands next, or is too long.
turn_next : (now new : Lines) (w : World) (got : LineAnswer) → now.start < now.end → get_or now.piece now.start 0 ≡ 10 → now.start < length now.piece → HandsOut now new true got → IsNearTurn now w → IsInTurn new w
turn_next now new w (answer.Line line) more next within gives turn =
    let parts = next_parts now more next within in
    let ahead : List ℕ = take (now.end - (now.start + 1)) (drop (now.start + 1) now.piece) in
    let short : length (without_return now.held.items) ≤ 80 = omega (arith, gives.short, ap length gives.text) in
    let near : IfSome (w.asked (unit_of now)) (AsksNearTurn (now.held.items ++ 10 ∷ ahead)) = subst (λ (held : List ℕ). IfSome (w.asked (unit_of now)) (AsksNearTurn held)) (sym parts) turn in
    let given : IfSome (w.asked (unit_of now)) (AsksInTurn ahead) = IfSome_then (w.asked (unit_of now)) near (λ a. handed_turn now.held.items ahead now.no_end a short) in
    subst (λ (u : unit.Unit). IfSome (w.asked u) (AsksInTurn (bytes_held new))) (sym gives.unit)
    (subst (λ (held : List ℕ). IfSome (w.asked (unit_of now)) (AsksInTurn held)) (sym gives.left) given)
turn_next now new w (answer.Jam number) more next within jams turn =
    let parts = next_parts now more next within in
    let ahead : List ℕ = take (now.end - (now.start + 1)) (drop (now.start + 1) now.piece) in
    let first : first_text (bytes_held now) ≡ without_return now.held.items = ap first_text (sym parts) ∙ first_held now.held.items ahead now.no_end in
    subst (λ (lines : Lines). IsInTurn lines w) (sym jams.same) (turn_long now w (omega (arith, ap length first, jams.long)))
turn_next now new w answer.End more next within never turn = absurd never
turn_next now new w answer.Failed more next within never turn = absurd never

-- A reader held more of its piece, up to a LF, and handed that out.
pub turn_end : (last now new : Lines) (w : World) (ends : Bool) (got : LineAnswer) → HoldsMore last now ends → ends ≡ true → HandsOut now new true got → IsNearTurn last w → IsInTurn new w
turn_end last now new w ends got holds is handed turn =
    let within : now.start < now.end = holds.ends_next.within is in
    turn_next now new w got within (holds.ends_next.next is) (omega (arith, now.in_piece, within, holds.size)) handed (turn_held last now w ends holds turn)

-- more is held than a line can have
over_first : (held more : List ℕ) → HasNoEnd held → 82 ≤ length held → 80 < length (first_text (held ++ more))
over_first held more none much = omega (arith, ap length (line_of-append held more none), length-append held (first_line_of more), length-without_return (first_line_of (held ++ more)))

-- There are too many bytes.
pub turn_over : (now new : Lines) (w : World) (got : LineAnswer) → length now.held.items ≡ 82 → HandsOut now new false got → IsInTurn new w
turn_over now new w (answer.Line line) full gives = absurd (omega (arith, full, gives.short, ap length gives.text, length-without_return now.held.items))
turn_over now new w (answer.Jam number) full jams =
    subst (λ (lines : Lines). IsInTurn lines w) (sym jams.same) (turn_long now w (over_first now.held.items _ now.no_end (omega (arith, full))))
turn_over now new w answer.End full never = absurd never
turn_over now new w answer.Failed full never = absurd never

-- what is handed out keeps the unit
handed_unit : (now new : Lines) (ends : Bool) (got : LineAnswer) → HandsOut now new ends got → unit_of new ≡ unit_of now
handed_unit now new ends (answer.Line line) gives = gives.unit
handed_unit now new ends (answer.Jam number) jams = ap unit_of jams.same
handed_unit now new ends answer.End never = absurd never
handed_unit now new ends answer.Failed never = absurd never

-- and the tally
pub handed_tally : (now new : Lines) (ends : Bool) (got : LineAnswer) → HandsOut now new ends got → lines_tally new ≡ lines_tally now
handed_tally now new ends (answer.Line line) gives = gives.tally
handed_tally now new ends (answer.Jam number) jams = ap lines_tally jams.same
handed_tally now new ends answer.End never = absurd never
handed_tally now new ends answer.Failed never = absurd never

-- No more bytes came, and what is held was handed out as the last line, or is too long.
pub turn_last : (now new : Lines) (before after : Seen) (ends : Bool) (got : LineAnswer) → Ends before after (unit_of now) → HandsOut now new ends got → IsInTurn new after.world
turn_last now new before after ends got ended handed =
    subst (λ (u : unit.Unit). IfSome (after.world.asked u) (AsksInTurn (bytes_held new))) (sym (handed_unit now new ends got handed)) (turn_ended (unit_of now) before after (bytes_held new) ended)
