-- A reader of lines as it goes on.
use Rattle.std.proofs.Common.{◌≡◌, ◌≢◌, ℕ, ◌+◌, ◌-◌, ◌<◌, ◌≤◌, Bool, true, false, List, [], ◌∷◌, ◌++◌, length, take, drop, get_or, refl, sym, ◌∙◌, ap, subst, arith, append_assoc, length-append, suc, add-one, drop-cons, inl, inr}
use Rattle.std.proofs.lemmas.List.{append-nil, length-take, length-drop}
use Rattle.std.specs.Prelude.{Option, option_map, IfSome, ◌⊎◌, if◌then◌else◌}
use Rattle.outside_io.specs.World.{World, Readings, no_readings, one_reading, both_readings, Seen, Goes, Gets, Ends, Fails, one_more, world_after_take}
use Rattle.outside_io.proofs.Worlds.{Read, some_ends, read_none, read_on, read_end, read_stays, left-taken_from, left-end}
use Rattle.card_code.specs.declared.lines.Lines.{Lines}
use Rattle.card_code.specs.declared.lines.LineAnswer.{LineAnswer}
use Rattle.card_code.specs.declared.lines.LineAnswer.TheVariants as answer
use Rattle.card_code.specs.LineText.{text_of_line}
use Rattle.outside_io.specs.Lines.{behind_line, first_text, without_return, HasNoEnd}
use Rattle.card_code.specs.Reader.{unit_of, lines_handed_out, bytes_held, lines_rest, Stays, NextLine, HasEnded, HostFails, IsLeft}
use Rattle.card_code.specs.Holding.{HoldsMore, HandsOut}
use Rattle.outside_io.proofs.LineLemmas.{length-without_return}
use Rattle.card_code.proofs.FirstLine.{rest_moves, end_some, end_text, end_behind, last_some, last_text, last_behind, nothing_left, over_text, long_told, text_told}

-- some bytes were taken, and stand behind those that were pending: taken before, and not handed out
pub record Reads (start now : Lines) (before after : Seen) : Type 0 where
  pub unit : unit_of now ≡ unit_of start
  pub number : lines_handed_out now ≡ lines_handed_out start
  pub taken : Readings
  pub parts : bytes_held start ++ taken.bytes ≡ bytes_held now
  pub read : Read before after (unit_of start) taken

-- the next byte of the piece, and those behind it
pub step_ahead : (piece : List ℕ) (start end : ℕ) → start < end → start < length piece → take (end - start) (drop start piece) ≡ get_or piece start 0 ∷ take (end - (start + 1)) (drop (start + 1) piece)
step_ahead piece start end more within =
    let count : end - start ≡ suc (end - (start + 1)) = omega arith in
    ap (λ (n : ℕ). take n (drop start piece)) count
    ∙ ap (λ (xs : List ℕ). take (suc (end - (start + 1))) xs) (drop-cons piece start 0 within)
    ∙ ap (λ (n : ℕ). get_or piece start 0 ∷ take (end - (start + 1)) (drop n piece)) (sym (add-one start))

-- a byte goes over to what is held
pub hold_step : (held piece : List ℕ) (start end byte : ℕ) (more : List ℕ) → start < end → start < length piece → byte ≡ get_or piece start 0 → more ≡ held ++ byte ∷ []
    → more ++ take (end - (start + 1)) (drop (start + 1) piece) ≡ held ++ take (end - start) (drop start piece)
hold_step held piece start end byte more ahead within is held_is =
    ap (λ (h : List ℕ). h ++ take (end - (start + 1)) (drop (start + 1) piece)) held_is
    ∙ append_assoc held (byte ∷ []) (take (end - (start + 1)) (drop (start + 1) piece))
    ∙ ap (λ (b : ℕ). held ++ b ∷ take (end - (start + 1)) (drop (start + 1) piece)) is
    ∙ ap (λ (xs : List ℕ). held ++ xs) (sym (step_ahead piece start end ahead within))

-- a reader at its start
pub reads_start : (start : Lines) (before : Seen) → Reads start start before before
reads_start start before = record {
  unit = refl;
  number = refl;
  taken = no_readings;
  parts = append-nil (bytes_held start);
  read = read_none before (unit_of start);
}

module _ (start now : Lines) (before after : Seen) (reads : Reads start now before after) where
  -- the bytes that are left are the same
  pub rest_same : lines_rest now after.world ≡ lines_rest start before.world
  rest_same =
      ap (λ u. option_map (λ l. bytes_held now ++ l) (after.world.left u)) reads.unit
      ∙ ap (λ (w : World). option_map (λ l. bytes_held now ++ l) (w.left (unit_of start))) reads.read.goes.world
      ∙ ap (λ (left : Option (List ℕ)). option_map (λ l. bytes_held now ++ l) left) (left-taken_from (unit_of start) reads.taken before.world)
      ∙ rest_moves (bytes_held start) (bytes_held now) reads.taken.bytes (before.world.left (unit_of start)) reads.parts reads.read.begins

  -- so nothing of the meaning changed
  pub stays_of : Stays start now before after
  stays_of = record { moves = record { unit = reads.unit; taken = reads.taken; goes = reads.read.goes }; rest = rest_same; number = reads.number }

  -- what holds of the rest now held of it at the start
  back : (P : List ℕ → Type 0) → IfSome (lines_rest now after.world) P → IfSome (lines_rest start before.world) P
  back P holds = subst (λ (rest : Option (List ℕ)). IfSome rest P) rest_same holds

  -- another reader of the same unit and number
  module _ (next : Lines) (unit_is : unit_of next ≡ unit_of now) (number_is : lines_handed_out next ≡ lines_handed_out now) where
    -- with the same pending bytes it has the same meaning
    pub reads_kept : bytes_held next ≡ bytes_held now → Reads start next before after
    reads_kept same = record {
      unit = unit_is ∙ reads.unit;
      number = number_is ∙ reads.number;
      taken = reads.taken;
      parts = reads.parts ∙ sym same;
      read = reads.read;
    }

    -- or more bytes stand behind them
    pub reads_more : (later : Seen) (buf : List ℕ) (n : ℕ) → bytes_held next ≡ bytes_held now ++ take n buf → Gets after later (unit_of now) buf n → Reads start next before later
    reads_more later buf n more gets = record {
      unit = unit_is ∙ reads.unit;
      number = number_is ∙ reads.number;
      taken = both_readings reads.taken (one_reading (take n buf));
      parts = sym (append_assoc (bytes_held start) reads.taken.bytes (take n buf)) ∙ ap (λ (x : List ℕ). x ++ take n buf) reads.parts ∙ sym more;
      read = read_on before after later (unit_of start) reads.taken buf n reads.read (subst (λ u. Gets after later u buf n) reads.unit gets);
    }

    -- or the host was asked, and found no more
    reads_end : bytes_held next ≡ bytes_held now → (later : Seen) → Goes after later (world_after_take (unit_of now) (one_reading []) after.world) → Reads start next before later
    reads_end same later goes = record {
      unit = unit_is ∙ reads.unit;
      number = number_is ∙ reads.number;
      taken = both_readings reads.taken (one_reading []);
      parts = ap (λ (x : List ℕ). bytes_held start ++ x) (append-nil reads.taken.bytes) ∙ reads.parts ∙ sym same;
      read = read_end before after later (unit_of start) reads.taken reads.read (subst (λ u. Goes after later (world_after_take u (one_reading []) after.world)) reads.unit goes);
    }

    -- or it was asked, and changed nothing in the world
    reads_later : bytes_held next ≡ bytes_held now → (later : Seen) → Goes after later after.world → Reads start next before later
    reads_later same later goes = record {
      unit = unit_is ∙ reads.unit;
      number = number_is ∙ reads.number;
      taken = reads.taken;
      parts = reads.parts ∙ sym same;
      read = read_stays before after later (unit_of start) reads.taken reads.read goes;
    }

-- What is handed out by a reader that went on from a start.
pub record Ready (start now : Lines) (before after : Seen) (left : List ℕ) : Type 0 where
  pub reads : Reads start now before after
  pub some : IfSome (lines_rest now after.world) (λ rest. 0 < length rest)
  pub text : IfSome (lines_rest now after.world) (λ rest. without_return now.held.items ≡ first_text rest)
  pub behind : option_map (λ l. left ++ l) (after.world.left (unit_of now)) ≡ option_map behind_line (lines_rest now after.world)

-- what is held is the first line
pub next_from : (start now new : Lines) (before after : Seen) (ends : Bool) (left : List ℕ) (got : LineAnswer) → left ≡ take (now.end - (now.start + (if ends then 1 else 0))) (drop (now.start + (if ends then 1 else 0)) now.piece)
    → Ready start now before after left → HandsOut now new ends got → NextLine start new before after got
next_from start now new before after ends left (answer.Line line) is ready gives = record {
  moves = record { unit = gives.unit ∙ ready.reads.unit; taken = ready.reads.taken; goes = ready.reads.read.goes };
  short = gives.short;
  some = back start now before after ready.reads _ ready.some;
  is_text = back start now before after ready.reads _ (text_told (lines_rest now after.world) (without_return now.held.items) (text_of_line line) gives.text ready.text);
  rest = ap (λ u. option_map (λ l. bytes_held new ++ l) (after.world.left u)) gives.unit ∙ ap (λ (p : List ℕ). option_map (λ l. p ++ l) (after.world.left (unit_of now))) (gives.left ∙ sym is) ∙ ready.behind ∙ ap (λ (rest : Option (List ℕ)). option_map behind_line rest) (rest_same start now before after ready.reads);
  number = gives.number ∙ ap one_more ready.reads.number;
}
next_from start now new before after ends left (answer.Jam number) is ready jams = record {
  stays = subst (λ (lines : Lines). Stays start lines before after) (sym jams.same) (stays_of start now before after ready.reads);
  number_is = jams.number_is ∙ ap one_more ready.reads.number;
  long = back start now before after ready.reads _ (long_told (lines_rest now after.world) (without_return now.held.items) jams.long ready.text);
}
next_from start now new before after ends left answer.End is ready never = absurd never
next_from start now new before after ends left answer.Failed is ready never = absurd never

-- all that is pending is held, where the piece is over
pub all_held : (held piece : List ℕ) (start end : ℕ) → start ≡ end → held ++ take (end - start) (drop start piece) ≡ held
all_held held piece start end same =
    let none : end - start ≡ 0 = omega (arith, same) in
    ap (λ (n : ℕ). held ++ take n (drop start piece)) none ∙ append-nil held

-- a new piece stands behind what was pending
pub piece_whole : (held piece old : List ℕ) (n start end : ℕ) → start ≡ end → held ++ take (n - 0) (drop 0 piece) ≡ (held ++ take (end - start) (drop start old)) ++ take n piece
piece_whole held piece old n start end same =
    let whole : n - 0 ≡ n = omega arith in
    ap (λ (k : ℕ). held ++ take k piece) whole ∙ ap (λ (h : List ℕ). h ++ take n piece) (sym (all_held held old start end same))

-- one of two ends, of which the second is not so
not_full : (start end held : ℕ) → (start ≡ end) ⊎ (held ≡ 82) → held ≢ 82 → start ≡ end
not_full start end held (inl same) room = same
not_full start end held (inr full) room = absurd (room full)

-- where no LF stands next and there is room, the piece is over
pub over_held : (last now : Lines) (ends : Bool) → HoldsMore last now ends → ends ≡ false → length now.held.items ≢ 82 → now.start ≡ now.end
over_held last now ends holds is room = not_full now.start now.end (length now.held.items) (holds.goes_on is) room

-- a LF stands next
pub ready_end : (start now : Lines) (before after : Seen) → Reads start now before after → now.start < now.end → get_or now.piece now.start 0 ≡ 10 → now.start < length now.piece → HasNoEnd now.held.items
    → Ready start now before after (take (now.end - (now.start + 1)) (drop (now.start + 1) now.piece))
ready_end start now before after reads more next within none =
    let ahead : List ℕ = take (now.end - (now.start + 1)) (drop (now.start + 1) now.piece) in
    let parts : now.held.items ++ 10 ∷ ahead ≡ bytes_held now = ap (λ (b : ℕ). now.held.items ++ b ∷ ahead) (sym next) ∙ ap (λ (x : List ℕ). now.held.items ++ x) (sym (step_ahead now.piece now.start now.end more within)) in
    let left : Option (List ℕ) = after.world.left (unit_of now) in
    record {
      reads = reads;
      some = subst (λ (p : List ℕ). IfSome (option_map (λ l. p ++ l) left) (λ rest. 0 < length rest)) parts (end_some now.held.items ahead left);
      text = subst (λ (p : List ℕ). IfSome (option_map (λ l. p ++ l) left) (λ rest. without_return now.held.items ≡ first_text rest)) parts (end_text now.held.items ahead left none);
      behind = subst (λ (p : List ℕ). option_map (λ l. ahead ++ l) left ≡ option_map behind_line (option_map (λ l. p ++ l) left)) parts (end_behind now.held.items ahead left none);
    }

-- what is held is all that is left
ready_last : (start now : Lines) (before after : Seen) (behind : List ℕ) → Reads start now before after → now.start ≡ now.end → behind ≡ [] → 0 < length now.held.items → HasNoEnd now.held.items → IfSome (after.world.left (unit_of now)) (λ all. all ≡ [])
    → Ready start now before after behind
ready_last start now before after behind reads same is some none empty =
    let parts : now.held.items ≡ bytes_held now = sym (all_held now.held.items now.piece now.start now.end same) in
    let left : Option (List ℕ) = after.world.left (unit_of now) in
    record {
      reads = reads;
      some = subst (λ (p : List ℕ). IfSome (option_map (λ l. p ++ l) left) (λ rest. 0 < length rest)) parts (last_some now.held.items left some);
      text = subst (λ (p : List ℕ). IfSome (option_map (λ l. p ++ l) left) (λ rest. without_return now.held.items ≡ first_text rest)) parts (last_text now.held.items left none empty);
      behind = subst (λ (p : List ℕ). option_map (λ l. behind ++ l) left ≡ option_map behind_line (option_map (λ l. p ++ l) left)) parts (last_behind now.held.items behind left is none empty);
    }

-- more is held than a line can have
pub next_full : (start now new : Lines) (before after : Seen) (got : LineAnswer) → Reads start now before after → 82 ≤ length now.held.items → HasNoEnd now.held.items → HandsOut now new false got → NextLine start new before after got
next_full start now new before after (answer.Line line) reads much none gives = absurd (omega (arith, gives.short, ap length gives.text, length-without_return now.held.items))
next_full start now new before after (answer.Jam number) reads much none jams = record {
  stays = subst (λ (lines : Lines). Stays start lines before after) (sym jams.same) (stays_of start now before after reads);
  number_is = jams.number_is ∙ ap one_more reads.number;
  long = back start now before after reads _ (over_text now.held.items (take (now.end - now.start) (drop now.start now.piece)) (after.world.left (unit_of now)) none much);
}
next_full start now new before after answer.End reads much none never = absurd never
next_full start now new before after answer.Failed reads much none never = absurd never

-- the reader's buffer has room for 4,096 bytes
pub short : (held piece : List ℕ) (start end : ℕ) → length held ≤ 82 → end ≤ 4014 → length (held ++ take (end - start) (drop start piece)) ≤ 4096
short held piece start end few within = omega (arith, length-append held (take (end - start) (drop start piece)), length-take (end - start) (drop start piece))

-- a reader with another piece, of which nothing is pending
pub record Emptied (now next : Lines) : Type 0 where
  pub unit : unit_of next ≡ unit_of now
  pub number : lines_handed_out next ≡ lines_handed_out now
  pub held : next.held.items ≡ now.held.items
  pub over : now.start ≡ now.end
  pub next_over : next.start ≡ next.end

-- all that is pending is held
held_all : (lines : Lines) → lines.start ≡ lines.end → bytes_held lines ≡ lines.held.items
held_all lines over = all_held lines.held.items lines.piece lines.start lines.end over

-- The host was asked by a reader that has used up its piece.
module _ (start now next : Lines) (before after later : Seen) (reads : Reads start now before after) (emptied : Emptied now next) where
  -- the same bytes are pending
  same_pending : bytes_held next ≡ bytes_held now
  same_pending = held_all next emptied.next_over ∙ emptied.held ∙ sym (held_all now emptied.over)

  -- the unit has no more bytes
  left_ended : Ends after later (unit_of now) → IfSome (later.world.left (unit_of next)) (λ all. all ≡ [])
  left_ended ends = subst (λ (left : Option (List ℕ)). IfSome left (λ all. all ≡ [])) (sym (ap (λ (w : World). w.left (unit_of next)) ends.goes.world ∙ ap (λ u. (world_after_take (unit_of now) (one_reading []) after.world).left u) emptied.unit ∙ left-end (unit_of now) after.world)) ends.empty

  -- the meaning is the same
  goes_on : Goes after later after.world → Reads start next before later
  goes_on goes = reads_later start now before after reads next emptied.unit emptied.number same_pending later goes

  ended_on : Ends after later (unit_of now) → Reads start next before later
  ended_on ends = reads_end start now before after reads next emptied.unit emptied.number same_pending later ends.goes

  -- nothing is left
  pub ended_empty : now.held.items ≡ [] → Ends after later (unit_of now) → HasEnded start next before later
  ended_empty none ends = record {
    stays = stays_of start next before later (ended_on ends);
    none = back start next before later (ended_on ends) _ (nothing_left (bytes_held next) (later.world.left (unit_of next)) (held_all next emptied.next_over ∙ emptied.held ∙ none) (left_ended ends));
  }

  -- what is held is the last line
  pub ended_last : (new : Lines) (got : LineAnswer) → 0 < length now.held.items → Ends after later (unit_of now) → HandsOut next new false got → NextLine start new before later got
  ended_last new got some ends handed =
      let behind : take (next.end - (next.start + 0)) (drop (next.start + 0) next.piece) ≡ [] =
      let count : next.end - (next.start + 0) ≡ 0 = omega (arith, emptied.next_over) in ap (λ (n : ℕ). take n (drop (next.start + 0) next.piece)) count in
      let some_next : 0 < length next.held.items = omega (arith, some, ap length emptied.held) in
      next_from start next new before later false (take (next.end - (next.start + 0)) (drop (next.start + 0) next.piece)) got refl
      (ready_last start next before later _ (ended_on ends) emptied.next_over behind some_next next.no_end (left_ended ends)) handed

  -- the host failed
  pub read_failed : Fails after later → HostFails start next before later
  read_failed fails = record {
    stays = stays_of start next before later (goes_on (record { later = fails.later; world = fails.world }));
    rose = omega (arith, reads.read.goes.later, fails.rose);
  }

-- A reader held more of its piece.
module _ (start last now : Lines) (before after : Seen) (reads : Reads start last before after) (ends : Bool) (holds : HoldsMore last now ends) where
  -- the meaning is the same
  pub reads_held : Reads start now before after
  reads_held = reads_kept start last before after reads now holds.unit holds.number holds.same

  -- a LF stands next
  pub next_end : (new : Lines) (got : LineAnswer) → ends ≡ true → HandsOut now new true got → NextLine start new before after got
  next_end new got is handed =
      let within : now.start < now.end = holds.ends_next.within is in
      next_from start now new before after true _ got refl (ready_end start now before after reads_held within (holds.ends_next.next is) (omega (arith, now.in_piece, within, holds.size)) now.no_end) handed

  -- there are too many bytes
  pub next_over : (new : Lines) (got : LineAnswer) → length now.held.items ≡ 82 → HandsOut now new false got → NextLine start new before after got
  next_over new got full handed = next_full start now new before after got reads_held (omega (arith, full)) now.no_end handed

-- a list of length 0 is empty
pub nil_from_length : (xs : List ℕ) → length xs ≡ 0 → xs ≡ []
nil_from_length [] none = refl
nil_from_length (x ∷ xs) none = absurd (omega (arith, none))

-- where a byte is held, or stands ahead, one is pending
pub some_held : (lines : Lines) → 0 < length lines.held.items → 0 < length (bytes_held lines)
some_held lines some = omega (arith, some, length-append lines.held.items (take (lines.end - lines.start) (drop lines.start lines.piece)))

pub some_ahead : (lines : Lines) → lines.start < lines.end → length lines.piece ≡ 4014 → 0 < length (bytes_held lines)
some_ahead lines some size =
    omega (arith, some, size, lines.in_piece, length-append lines.held.items (take (lines.end - lines.start) (drop lines.start lines.piece)), length-take (lines.end - lines.start) (drop lines.start lines.piece), length-drop lines.start lines.piece)

-- then a byte is left
pub more_pending : (start now : Lines) (before after : Seen) → Reads start now before after → 0 < length (bytes_held now) → IsLeft start now before after
more_pending start now before after reads some = record {
  stays = stays_of start now before after reads;
  some = back start now before after reads _ (last_some (bytes_held now) (after.world.left (unit_of now)) some);
}

-- WHETHER AN END WAS FOUND

-- by none at the start
pub start_ends : (start : Lines) (before : Seen) → (reads_start start before).taken.ends ≡ 0
unfolding reads_start
start_ends start before = refl

-- by none where more of the piece is held
pub held_ends : (start last now : Lines) (before after : Seen) (reads : Reads start last before after) (ends : Bool) (holds : HoldsMore last now ends) → reads.taken.ends ≡ 0
    → (reads_held start last now before after reads ends holds).taken.ends ≡ 0
unfolding reads_held reads_kept
held_ends start last now before after reads ends holds some = some

-- nor where some bytes came
pub more_ends : (start now : Lines) (before after : Seen) (reads : Reads start now before after) (next : Lines) (unit_is : unit_of next ≡ unit_of now) (number_is : lines_handed_out next ≡ lines_handed_out now) (later : Seen) (buf : List ℕ) (n : ℕ)
    (more : bytes_held next ≡ bytes_held now ++ take n buf) (gets : Gets after later (unit_of now) buf n) → reads.taken.ends ≡ 0 → (reads_more start now before after reads next unit_is number_is later buf n more gets).taken.ends ≡ 0
unfolding reads_more
more_ends start now before after reads next unit_is number_is later buf n more gets some = some_ends reads.taken buf n gets.some gets.fits some
