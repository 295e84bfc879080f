-- The characters of a sector's cells, ten at a time.
use Rattle.std.proofs.Common.{◌≡◌, ℕ, ◌+◌, ◌-◌, ◌≤◌, List, ◌++◌, length, map, take, Bool, true, false, Ok, Err, sym, ◌∙◌, ap, arith}
use Rattle.std.proofs.lemmas.Slice.{take-put_mid, take-put_mid_below}
use borrow.Rule.Slice.PartMut.{put_mid}
use Rattle.digit_core.specs.declared.Digit.{Digit}
use Rattle.addr_indirect.specs.declared.Stop.{Stop}
use Rattle.addr_indirect.specs.Reading.{read_up}
use Rattle.traces.specs.Trace.{map_answer}
use Rattle.card_code.specs.Characters.{object_char}
use Rattle.card_code.specs.Words.{AreChars, PutsChars}
use Rattle.card_code.proofs.CellTexts.{both, up_parts, go_over, stop_over, put_long}
use Rattle.disk_1311.proofs.SectorsRead.{joined}

-- characters that were put into a text
pub are_put : (f : Digit → ℕ) (w : ℕ) (chars : List ℕ) (all : Bool) → all ≡ true → PutsChars f w chars all → AreChars f w chars
are_put f w chars true is puts = puts
are_put f w chars false is puts = cc

module _ (core : List ℕ) (a k : ℕ) (text : List ℕ) (room : k + 10 ≤ 100) where
  parts : read_up core (a + k) (100 - k) ≡ both (read_up core (a + k) 10) (read_up core (a + (k + 10)) (100 - (k + 10)))
  parts =
      let e : 100 - k ≡ 10 + (100 - (k + 10)) = omega arith in
      let f : a + k + 10 ≡ a + (k + 10) = omega arith in
      rw (e, ← f) (up_parts core 10 (100 - (k + 10)) (a + k))

  -- ten characters more
  pub text_next : (n : ℕ) (chars : List ℕ) → length chars ≡ 10 → length text ≡ 100 → Ok chars ≡ map_answer (map object_char) (read_up core (a + k) 10)
      → joined (take k text) (read_up core (a + k) (100 - k)) ≡ joined (take (k + 10) (put_mid k n text chars)) (read_up core (a + (k + 10)) (100 - (k + 10)))
  text_next n chars ten long is =
      let t : take (k + 10) (put_mid k n text chars) ≡ take k text ++ chars = take-put_mid k n text chars (k + 10) (omega arith) (omega arith) in
      rw (parts, t) (go_over object_char (take k text) chars (read_up core (a + k) 10) (read_up core (a + (k + 10)) (100 - (k + 10))) (sym is))

  -- or a bad cell ends it
  pub text_ends : (s : Stop) → Err s ≡ map_answer (map object_char) (read_up core (a + k) 10) → joined (take k text) (read_up core (a + k) (100 - k)) ≡ Err s
  text_ends s is = rw parts (stop_over object_char (take k text) s (read_up core (a + k) 10) (read_up core (a + (k + 10)) (100 - (k + 10))) (sym is))

-- ten characters more, over others that were put there
pub text_again : (core : List ℕ) (a k : ℕ) (text : List ℕ) → k + 10 ≤ 100 → (m n : ℕ) (put chars : List ℕ) → m ≡ 10 → length put ≡ 10 → length chars ≡ 10 → length text ≡ 100
    → Ok chars ≡ map_answer (map object_char) (read_up core (a + k) 10)
    → joined (take k text) (read_up core (a + k) (100 - k)) ≡ joined (take (k + 10) (put_mid k n (put_mid k m text put) chars)) (read_up core (a + (k + 10)) (100 - (k + 10)))
text_again core a k text room m n put chars ten put_ten chars_ten long is =
    let first = take-put_mid_below k m text put k (omega arith) (omega arith) in
    let next = text_next core a k (put_mid k m text put) room n chars chars_ten (put_long k m text put ten (omega arith) put_ten ∙ long) is in
    ap (λ (xs : List ℕ). joined xs (read_up core (a + k) (100 - k))) (sym first) ∙ next
