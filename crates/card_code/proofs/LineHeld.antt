-- A reader that holds bytes of its piece, up to the first LF and as many as there is room for.
use Rattle.std.proofs.Common.{◌≡◌, ℕ, ◌+◌, ◌-◌, ◌<◌, ◌≤◌, Bool, true, false, List, ◌++◌, length, take, drop, get_or, sym, ◌∙◌, ap, arith, append_assoc, length-append, inl, inr, ⊎_elim}
use Rattle.std.proofs.Math.Seq.{take-add}
use Rattle.std.proofs.lemmas.Bool.{cases_lt}
use Rattle.std.proofs.lemmas.Bool.Decides.{nat_tests}
use Rattle.std.proofs.lemmas.List.{length-take, length-drop, get_or-take, get_or-drop, take-take, drop-drop}
use Rattle.std.specs.Prelude.{Option, Some, None, Result, Ok, Err, ◌⊎◌, min}
use Rattle.std.specs.Option.{is_some, unwrap_or}
use Rattle.std.specs.Result.{IsOk, OnOk}
use Rattle.memchr.specs.Find.{IsFirstByte, is_byte}
use Rattle.card_code.specs.declared.lines.Lines.{Lines}
use Rattle.card_code.specs.Reader.{unit_of, lines_handed_out, lines_tally, bytes_held}
use Rattle.card_code.specs.Holding.{HoldsMore}

-- what was appended, where all of it has room
pub told_ok : {T E P : Type 0} (r : Result T E) → IsOk r → OnOk r P → P
told_ok (Ok x) is p = p
told_ok (Err e) is p = cc

-- the first of some bytes, and then those behind them
parts_joined : (n m : ℕ) (xs : List ℕ) → n ≤ m → take n xs ++ take (m - n) (drop n xs) ≡ take m xs
parts_joined n m xs few = let whole : n + (m - n) ≡ m = omega arith in sym (take-add n (m - n) xs) ∙ ap (λ (k : ℕ). take k xs) whole

-- the same, where the first are taken from those that are there
held_on : (held piece : List ℕ) (start end n count : ℕ) → n ≤ end - start → count ≤ n
    → (held ++ take count (take n (take (end - start) (drop start piece)))) ++ take (end - (start + count)) (drop (start + count) piece) ≡ held ++ take (end - start) (drop start piece)
held_on held piece start end n count few within =
    let left : end - (start + count) ≡ end - start - count = omega arith in
    append_assoc held _ _
    ∙ ap (λ (xs : List ℕ). held ++ (xs ++ take (end - (start + count)) (drop (start + count) piece))) (take-take count n (take (end - start) (drop start piece)) within ∙ take-take count (end - start) (drop start piece) (omega arith))
    ∙ ap (λ (m : ℕ). held ++ (take count (drop start piece) ++ take m (drop (start + count) piece))) left
    ∙ ap (λ (xs : List ℕ). held ++ (take count (drop start piece) ++ take (end - start - count) xs)) (sym (drop-drop count start piece))
    ∙ ap (λ (xs : List ℕ). held ++ xs) (parts_joined count (end - start) (drop start piece) (omega arith))

-- A LF is looked for in the next `n` bytes, and what stands before it is held.
module _ (old new : Lines) (piece ahead : List ℕ) (n room : ℕ) (fits : room + length old.held.items ≡ 82) (size : length old.piece ≡ 4014) (whole : piece ≡ old.piece)
    (ahead_is : ahead ≡ take n (take (old.end - old.start) (drop old.start piece))) (few : n ≡ min (length (take (old.end - old.start) (drop old.start piece))) room)
    (unit_is : unit_of new ≡ unit_of old) (number_is : lines_handed_out new ≡ lines_handed_out old) (tally_is : lines_tally new ≡ lines_tally old) (piece_is : new.piece ≡ old.piece) (end_is : new.end ≡ old.end) where
  -- how many bytes they are
  count_next : n ≡ min (old.end - old.start) room
  count_next = omega (arith, few, size, ap length whole, old.in_piece, old.in_order, length-take (old.end - old.start) (drop old.start piece), length-drop old.start piece)

  count_ahead : length ahead ≡ n
  count_ahead = omega (
    arith,
    count_next,
    size,
    ap length whole,
    ap length ahead_is,
    old.in_piece,
    old.in_order,
    length-take n (take (old.end - old.start) (drop old.start piece)),
    length-take (old.end - old.start) (drop old.start piece),
    length-drop old.start piece,
  )

  -- all that is pending is the same
  kept : (count : ℕ) → count ≤ length ahead → new.start ≡ old.start + count → new.held.items ≡ old.held.items ++ take count ahead → bytes_held new ≡ bytes_held old
  kept count within start_is held_is =
      rw (held_is, ahead_is, piece_is, end_is, start_is, whole)
      (held_on old.held.items old.piece old.start old.end n count (omega (arith, count_next)) (omega (arith, within, count_ahead)))

  -- the bytes that come next are those of the piece
  next_is : (k : ℕ) → k < length ahead → get_or ahead k 0 ≡ get_or old.piece (old.start + k) 0
  next_is k within =
      ap (λ (xs : List ℕ). get_or xs k 0) ahead_is
      ∙ get_or-take n (take (old.end - old.start) (drop old.start piece)) k 0 (omega (arith, within, count_ahead))
      ∙ get_or-take (old.end - old.start) (drop old.start piece) k 0 (omega (arith, within, count_ahead, count_next))
      ∙ get_or-drop old.start piece k 0
      ∙ ap (λ (xs : List ℕ). get_or xs (old.start + k) 0) whole

  -- where no LF was found, the piece is over or all room is taken
  over_or_full : new.start ≡ old.start + n → length new.held.items ≡ length old.held.items + n → (new.start ≡ new.end) ⊎ (length new.held.items ≡ 82)
  over_or_full start_is held_is =
      ⊎_elim
      (λ (all : old.end - old.start < room). inl (omega (arith, start_is, count_next, end_is, all, old.in_order)))
      (λ (full : room ≤ old.end - old.start). inr (omega (arith, held_is, count_next, fits, full)))
      (cases_lt (old.end - old.start) room)

  pub holds : (found : Option ℕ) (count : ℕ) (ends : Bool) → IsFirstByte (is_byte 10) ahead found → count ≡ unwrap_or found (length ahead) → ends ≡ is_some found
      → new.start ≡ old.start + count → new.held.items ≡ old.held.items ++ take count ahead → HoldsMore old new ends
  holds None count ends never count_is ends_is start_is held_is = record {
    unit = unit_is;
    number = number_is;
    tally = tally_is;
    same = kept count (omega (arith, count_is)) start_is held_is;
    size = ap length piece_is ∙ size;
    ends_next = record { within = λ is. (let no : false ≡ true = sym ends_is ∙ is in cc); next = λ is. (let no : false ≡ true = sym ends_is ∙ is in cc) };
    goes_on = λ _. over_or_full (omega (arith, start_is, count_is, count_ahead)) (omega (arith, ap length held_is, length-append old.held.items (take count ahead), length-take count ahead, count_is, count_ahead));
  }
  holds (Some k) count ends at count_is ends_is start_is held_is =
      let within : k < length ahead = at.0.high in
      let lf : get_or ahead k 0 ≡ 10 = let test = at.1 in grind (arith, nat_tests) in
      record {
        unit = unit_is;
        number = number_is;
        tally = tally_is;
        same = kept count (omega (arith, count_is, within)) start_is held_is;
        size = ap length piece_is ∙ size;
        ends_next = record {
          within = λ _. omega (arith, count_is, start_is, end_is, within, count_ahead, count_next);
          next = λ _. ap (λ (xs : List ℕ). get_or xs new.start 0) piece_is ∙ ap (λ (i : ℕ). get_or old.piece i 0) (omega (arith, start_is, count_is)) ∙ sym (next_is k within) ∙ lf;
        };
        goes_on = λ is. (let no : true ≡ false = sym ends_is ∙ is in cc);
      }
