use Rattle.std.proofs.Common.{◌≡◌, ◌≢◌, ℕ, ◌-◌, ◌<◌, ◌≤◌, false, List, [], ◌++◌, length, take, drop, refl, ◌∙◌, ap, arith, length-append}
use Rattle.std.specs.Bool.{◌==◌}
use Rattle.std.proofs.lemmas.List.{length-take}
use Rattle.std.proofs.lemmas.Bool.Decides.{nat_tests}
use Rattle.card_code.specs.declared.lines.Lines.{Lines}
use Rattle.card_code.specs.Reader.{bytes_held, takes_none}
use Rattle.card_code.specs.declared.lines.LineAnswer.TheVariants as answer
use Rattle.card_code.proofs.Readers.{start_ends, held_ends, more_ends, reads_start, reads_held, reads_more, next_end, next_over, over_held, piece_whole, nil_from_length, ended_empty, ended_last, read_failed, short}
use Rattle.card_code.proofs.WholeHeld.{needs_got, needs_end, needs_failed, none_whole, still_held}
use Rattle.card_code.proofs.InTurn.{turn_starts, turn_got, turn_end, turn_over, turn_ended, turn_last, turn_failed, handed_tally}
use Rattle.card_code.proofs.LineEntries.{next_entry}
use Rattle.card_code.proofs.lines.Lines.next_line.Goals as goal

not_full : (n : ℕ) → false ≡ (n == 82) → n ≢ 82
not_full n test = grind (arith, nat_tests)

-- a piece of a byte or more behind what is held leaves less room
grows : (now : Lines) (piece : List ℕ) (n : ℕ) (last : List ℕ) → bytes_held now ≡ last → now.start ≡ now.end → 1 ≤ n → n ≤ length piece →
    4096 - length (now.held.items ++ take (n - 0) (drop 0 piece)) < 4096 - length last
grows now piece n last same over some fits = omega (
  arith,
  ap length same,
  over,
  some,
  fits,
  now.in_room,
  now.in_piece,
  length-append now.held.items (take (now.end - now.start) (drop now.start now.piece)),
  length-take (now.end - now.start) (drop now.start now.piece),
  length-append now.held.items (take (n - 0) piece),
  length-take (n - 0) piece,
)

pub loop-self-init : goal.loop-self-init
loop-self-init g c = record { reads = reads_start _ _; some = start_ends _ _; needs = takes_none refl; turn = λ turn. turn_starts c.args.self.now (g.H.Host.seen c.args.host.now).world turn; tally = refl }

pub returns-then-hold_more-clause-line : goal.returns-then-hold_more-clause-line
returns-then-hold_more-clause-line g c = next_end _ _ _ _ _ c.loop-self.invariant.reads _ c.hold_more.ensures _ _ c.if-hold_more.true c.hand_out.ensures

pub returns-then-hold_more-clause-entry : goal.returns-then-hold_more-clause-entry
returns-then-hold_more-clause-entry g c = next_entry _ c.hand_out.new.self _ _ c.hand_out.result (returns-then-hold_more-clause-line g c)

pub returns-then-is_full-clause-line : goal.returns-then-is_full-clause-line
returns-then-is_full-clause-line g c =
    let full : length c.hold_more.new.self.held.items ≡ 82 = let test = c.if-is_full.ensures.value in grind (arith, nat_tests) in
    next_over _ _ _ _ _ c.loop-self.invariant.reads _ c.hold_more.ensures _ _ full c.hand_out-then-is_full.ensures

pub returns-then-is_full-clause-entry : goal.returns-then-is_full-clause-entry
returns-then-is_full-clause-entry g c = next_entry _ c.hand_out-then-is_full.new.self _ _ c.hand_out-then-is_full.result (returns-then-is_full-clause-line g c)

pub loop-self-preserved : goal.loop-self-preserved
loop-self-preserved g c =
    let now = c.hold_more.new.self in
    let room : length now.held.items ≢ 82 = not_full _ c.if-is_full.ensures.value in
    let over : now.start ≡ now.end = over_held _ now c.hold_more.result c.hold_more.ensures c.if-hold_more.false room in
    let held = reads_held _ _ now _ _ c.loop-self.invariant.reads _ c.hold_more.ensures in
    let some = held_ends _ _ now _ _ c.loop-self.invariant.reads _ c.hold_more.ensures c.loop-self.invariant.some in
    let more = reads_more _ now _ _ held _ refl refl _ c.take.new.buf c.in-Got.n (piece_whole now.held.items c.take.new.buf now.piece c.in-Got.n now.start now.end over) c.in-Got.ensures in
    record {
      reads = more;
      some = more_ends _ now _ _ held _ refl refl _ c.take.new.buf c.in-Got.n (piece_whole now.held.items c.take.new.buf now.piece c.in-Got.n now.start now.end over) c.in-Got.ensures some;
      needs = needs_got _ now _ _ _ held (none_whole now over room) some c.take.new.buf c.in-Got.n c.in-Got.ensures;
      turn = λ turn. turn_got now _ (g.H.Host.seen c.take.new.self) c.take.new.buf c.in-Got.n c.in-Got.ensures;
      tally = c.hold_more.ensures.tally ∙ c.loop-self.invariant.tally;
    }

pub returns-then-is_empty-clause-line : goal.returns-then-is_empty-clause-line
returns-then-is_empty-clause-line g c =
    let now = c.hold_more.new.self in
    let room : length now.held.items ≢ 82 = not_full _ c.if-is_full.ensures.value in
    let over : now.start ≡ now.end = over_held _ now c.hold_more.result c.hold_more.ensures c.if-hold_more.false room in
    let none : now.held.items ≡ [] = nil_from_length now.held.items (let test = c.if-is_empty.ensures in grind (arith, nat_tests)) in
    ended_empty _ now _ _ _ _ (reads_held _ _ now _ _ c.loop-self.invariant.reads _ c.hold_more.ensures) (record { unit = refl; number = refl; held = refl; over = over; next_over = over }) none c.in-End.ensures

pub returns-then-is_empty-clause-entry : goal.returns-then-is_empty-clause-entry
returns-then-is_empty-clause-entry g c = next_entry _ _ _ _ answer.End (returns-then-is_empty-clause-line g c)

pub returns-in-End-clause-line : goal.returns-in-End-clause-line
returns-in-End-clause-line g c =
    let now = c.hold_more.new.self in
    let room : length now.held.items ≢ 82 = not_full _ c.if-is_full.ensures.value in
    let over : now.start ≡ now.end = over_held _ now c.hold_more.result c.hold_more.ensures c.if-hold_more.false room in
    let some : 0 < length now.held.items = let test = c.if-is_empty.ensures in grind (arith, nat_tests) in
    ended_last _ now _ _ _ _ (reads_held _ _ now _ _ c.loop-self.invariant.reads _ c.hold_more.ensures) (record { unit = refl; number = refl; held = refl; over = over; next_over = over }) _ _ some c.in-End.ensures c.hand_out-in-End.ensures

pub returns-in-End-clause-entry : goal.returns-in-End-clause-entry
returns-in-End-clause-entry g c = next_entry _ c.hand_out-in-End.new.self _ _ c.hand_out-in-End.result (returns-in-End-clause-line g c)

pub returns-in-Failed-clause-line : goal.returns-in-Failed-clause-line
returns-in-Failed-clause-line g c =
    let now = c.hold_more.new.self in
    let room : length now.held.items ≢ 82 = not_full _ c.if-is_full.ensures.value in
    let over : now.start ≡ now.end = over_held _ now c.hold_more.result c.hold_more.ensures c.if-hold_more.false room in
    read_failed _ now _ _ _ _ (reads_held _ _ now _ _ c.loop-self.invariant.reads _ c.hold_more.ensures) (record { unit = refl; number = refl; held = refl; over = over; next_over = over }) c.in-Failed.ensures

pub returns-in-Failed-clause-entry : goal.returns-in-Failed-clause-entry
returns-in-Failed-clause-entry g c = next_entry _ _ _ _ answer.Failed (returns-in-Failed-clause-line g c)

pub returns-then-hold_more-clause-needed : goal.returns-then-hold_more-clause-needed
returns-then-hold_more-clause-needed g c = c.loop-self.invariant.needs

pub returns-then-hold_more-clause-still : goal.returns-then-hold_more-clause-still
returns-then-hold_more-clause-still g c = still_held _ _ _ c.loop-self.invariant.needs

pub returns-then-is_full-clause-needed : goal.returns-then-is_full-clause-needed
returns-then-is_full-clause-needed g c = c.loop-self.invariant.needs

pub returns-then-is_full-clause-still : goal.returns-then-is_full-clause-still
returns-then-is_full-clause-still g c = still_held _ _ _ c.loop-self.invariant.needs

pub returns-then-is_empty-clause-needed : goal.returns-then-is_empty-clause-needed
returns-then-is_empty-clause-needed g c =
    let now = c.hold_more.new.self in
    let room : length now.held.items ≢ 82 = not_full _ c.if-is_full.ensures.value in
    let over : now.start ≡ now.end = over_held _ now c.hold_more.result c.hold_more.ensures c.if-hold_more.false room in
    needs_end _ now _ _ _ (reads_held _ _ now _ _ c.loop-self.invariant.reads _ c.hold_more.ensures) (none_whole now over room) (held_ends _ _ now _ _ c.loop-self.invariant.reads _ c.hold_more.ensures c.loop-self.invariant.some) c.in-End.ensures

pub returns-then-is_empty-clause-still : goal.returns-then-is_empty-clause-still
returns-then-is_empty-clause-still g c = still_held _ _ _ (returns-then-is_empty-clause-needed g c)

pub returns-in-End-clause-needed : goal.returns-in-End-clause-needed
returns-in-End-clause-needed g c =
    let now = c.hold_more.new.self in
    let room : length now.held.items ≢ 82 = not_full _ c.if-is_full.ensures.value in
    let over : now.start ≡ now.end = over_held _ now c.hold_more.result c.hold_more.ensures c.if-hold_more.false room in
    needs_end _ now _ _ _ (reads_held _ _ now _ _ c.loop-self.invariant.reads _ c.hold_more.ensures) (none_whole now over room) (held_ends _ _ now _ _ c.loop-self.invariant.reads _ c.hold_more.ensures c.loop-self.invariant.some) c.in-End.ensures

pub returns-in-End-clause-still : goal.returns-in-End-clause-still
returns-in-End-clause-still g c = still_held _ _ _ (returns-in-End-clause-needed g c)

pub returns-in-Failed-clause-needed : goal.returns-in-Failed-clause-needed
returns-in-Failed-clause-needed g c =
    let now = c.hold_more.new.self in
    let room : length now.held.items ≢ 82 = not_full _ c.if-is_full.ensures.value in
    let over : now.start ≡ now.end = over_held _ now c.hold_more.result c.hold_more.ensures c.if-hold_more.false room in
    needs_failed _ now _ _ _ (reads_held _ _ now _ _ c.loop-self.invariant.reads _ c.hold_more.ensures) (none_whole now over room) (held_ends _ _ now _ _ c.loop-self.invariant.reads _ c.hold_more.ensures c.loop-self.invariant.some) c.in-Failed.ensures

pub returns-in-Failed-clause-still : goal.returns-in-Failed-clause-still
returns-in-Failed-clause-still g c = still_held _ _ _ (returns-in-Failed-clause-needed g c)

pub returns-then-hold_more-clause-held : goal.returns-then-hold_more-clause-held
returns-then-hold_more-clause-held g c = let new = c.hand_out.new.self in short new.held.items new.piece new.start new.end new.in_room new.in_piece

pub returns-then-is_full-clause-held : goal.returns-then-is_full-clause-held
returns-then-is_full-clause-held g c = let new = c.hand_out-then-is_full.new.self in short new.held.items new.piece new.start new.end new.in_room new.in_piece

pub returns-then-is_empty-clause-held : goal.returns-then-is_empty-clause-held
returns-then-is_empty-clause-held g c = let now = c.hold_more.new.self in short now.held.items c.take.new.buf now.start now.end now.in_room now.in_piece

pub returns-in-End-clause-held : goal.returns-in-End-clause-held
returns-in-End-clause-held g c = let new = c.hand_out-in-End.new.self in short new.held.items new.piece new.start new.end new.in_room new.in_piece

pub returns-in-Failed-clause-held : goal.returns-in-Failed-clause-held
returns-in-Failed-clause-held g c = let now = c.hold_more.new.self in short now.held.items c.take.new.buf now.start now.end now.in_room now.in_piece

pub loop-self-smaller : goal.loop-self-smaller
loop-self-smaller g c =
    let now = c.hold_more.new.self in
    let over : now.start ≡ now.end = over_held _ now c.hold_more.result c.hold_more.ensures c.if-hold_more.false (not_full _ c.if-is_full.ensures.value) in
    grows now c.take.new.buf c.in-Got.n _ c.hold_more.ensures.same over c.in-Got.ensures.some c.in-Got.ensures.fits

pub returns-then-hold_more-clause-turn : goal.returns-then-hold_more-clause-turn
returns-then-hold_more-clause-turn g c =
    λ turn. turn_end _ c.hold_more.new.self c.hand_out.new.self (g.H.Host.seen c.loop-self.host).world _ _ c.hold_more.ensures c.if-hold_more.true c.hand_out.ensures (c.loop-self.invariant.turn turn)

pub returns-then-is_full-clause-turn : goal.returns-then-is_full-clause-turn
returns-then-is_full-clause-turn g c =
    let full : length c.hold_more.new.self.held.items ≡ 82 = let test = c.if-is_full.ensures.value in grind (arith, nat_tests) in
    λ turn. turn_over c.hold_more.new.self c.hand_out-then-is_full.new.self (g.H.Host.seen c.loop-self.host).world _ full c.hand_out-then-is_full.ensures

pub returns-then-is_empty-clause-turn : goal.returns-then-is_empty-clause-turn
returns-then-is_empty-clause-turn g c =
    let now = c.hold_more.new.self in
    λ turn. turn_ended _ _ (g.H.Host.seen c.take.new.self) (now.held.items ++ take (now.end - now.start) (drop now.start c.take.new.buf)) c.in-End.ensures

pub returns-in-End-clause-turn : goal.returns-in-End-clause-turn
returns-in-End-clause-turn g c =
    λ turn. turn_last _ c.hand_out-in-End.new.self _ (g.H.Host.seen c.take.new.self) _ _ c.in-End.ensures c.hand_out-in-End.ensures

pub returns-in-Failed-clause-turn : goal.returns-in-Failed-clause-turn
returns-in-Failed-clause-turn g c =
    let now = c.hold_more.new.self in
    let room : length now.held.items ≢ 82 = not_full _ c.if-is_full.ensures.value in
    let over : now.start ≡ now.end = over_held _ now c.hold_more.result c.hold_more.ensures c.if-hold_more.false room in
    λ turn. turn_failed now c.take.new.buf ((g.H.Host.seen c.take.new.self).world.asked now.unit) over room

pub returns-then-hold_more-clause-tally : goal.returns-then-hold_more-clause-tally
returns-then-hold_more-clause-tally g c = handed_tally _ c.hand_out.new.self _ c.hand_out.result c.hand_out.ensures ∙ c.hold_more.ensures.tally ∙ c.loop-self.invariant.tally

pub returns-then-is_full-clause-tally : goal.returns-then-is_full-clause-tally
returns-then-is_full-clause-tally g c = handed_tally _ c.hand_out-then-is_full.new.self _ c.hand_out-then-is_full.result c.hand_out-then-is_full.ensures ∙ c.hold_more.ensures.tally ∙ c.loop-self.invariant.tally

pub returns-in-End-clause-tally : goal.returns-in-End-clause-tally
returns-in-End-clause-tally g c = handed_tally _ c.hand_out-in-End.new.self _ c.hand_out-in-End.result c.hand_out-in-End.ensures ∙ c.hold_more.ensures.tally ∙ c.loop-self.invariant.tally

pub returns-then-is_empty-clause-tally : goal.returns-then-is_empty-clause-tally
returns-then-is_empty-clause-tally g c = c.hold_more.ensures.tally ∙ c.loop-self.invariant.tally

pub returns-in-Failed-clause-tally : goal.returns-in-Failed-clause-tally
returns-in-Failed-clause-tally g c = c.hold_more.ensures.tally ∙ c.loop-self.invariant.tally
