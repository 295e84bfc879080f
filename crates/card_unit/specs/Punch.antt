-- Punching cards: 80 bytes and a LF, after all their digits were read.
-- Source: 1622 manual, write numerically, write alphamerically and dump numerically; when a card goes out, and that the
-- last one is filled with blanks, are this project's own.
use Rattle.std.specs.Prelude.{ℕ, zero, suc, false, ◌≡◌, ◌<◌, ◌≤◌, ◌+◌, ◌-◌, ◌==◌, List, [], ◌∷◌, ◌++◌, length, map, drop, slice_index, if◌then◌else◌, Result, Ok, ⊤}
use Rattle.digit_core.specs.{read_cell, six, is_bad_cell}
use Rattle.addr_indirect.specs.declared.Stop.{Stop}
use Rattle.addr_indirect.specs.Reading.{read_at, read_up, or_stop}
use Rattle.traces.specs.Trace.{Trace, ends, does_all, ◌>>=◌, and_then, with_answer, lift, map_answer}
use Rattle.card_code.specs.declared.Card.{Card}
use Rattle.card_code.specs.{punch_num, text_as_card, Output, WritesByte, with_pair, pair_char}

-- the line of a card's text
abbrev pub card_line : List ℕ → List ℕ
card_line text = text ++ 10 ∷ []

-- a card is punched, and then the rest
abbrev pub punch_card : List ℕ → Trace ℕ ⊤ Stop → Trace ℕ ⊤ Stop
punch_card text t = does_all (card_line text) t

-- WN on a card: the 80 digits from P
abbrev pub punch_numeric : List ℕ → ℕ → Trace ℕ ⊤ Stop
punch_numeric core p = do
  ds ← read_up core p 80
  punch_card (map punch_num ds) (ends (Ok tt))

-- the characters of n pairs from a upwards
unfoldable pub pair_text : List ℕ → ℕ → ℕ → Trace Output (List ℕ) Stop
pair_text core a zero = ends (Ok [])
pair_text core a (suc n) = do
  zone ← read_at core a
  number ← read_at core (a + 1)
  with_pair (pair_char zone number) (λ c. with_answer (λ cs. c ∷ cs) (pair_text core (a + 2) n))

-- WA on a card: the 80 pairs from P-1 and P
abbrev pub punch_alphameric : List ℕ → ℕ → Trace Output ⊤ Stop
punch_alphameric core p = and_then (pair_text core (p - 1) 80) (λ text. lift WritesByte (punch_card text (ends (Ok tt))))

-- cells from a upwards, 80 on a card, after the text that the card has so far
unfoldable pub dump_card_cells : ℕ → List ℕ → List ℕ → Trace ℕ ⊤ Stop
dump_card_cells a [] [] = ends (Ok tt)
dump_card_cells a [] (c ∷ cs) = punch_card (text_as_card (c ∷ cs)) (ends (Ok tt))
dump_card_cells a (cell ∷ cells) text = do
  d ← or_stop a (read_cell cell)
  if length text == 79
      then punch_card (text ++ punch_num d ∷ []) (dump_card_cells (a + 1) cells [])
      else dump_card_cells (a + 1) cells (text ++ punch_num d ∷ [])

-- DN on cards: the cells from P to the end of core
abbrev pub punch_dump : List ℕ → ℕ → Trace ℕ ⊤ Stop
punch_dump core p = dump_card_cells p (drop p core) []

-- the text of a card that is to be punched
abbrev pub card_text : Result Card Stop → Result (List ℕ) Stop
card_text result = map_answer (λ card. card.0) result

-- the columns of n digits from a upwards, and the card that they fill
abbrev pub columns_text : List ℕ → ℕ → ℕ → Result (List ℕ) Stop
columns_text core a n = map_answer (λ ds. text_as_card (map punch_num ds)) (read_up core a n)

-- the word w has the ten cells from a upwards, and each of them holds a digit
pub record HasGoodTen (core : List ℕ) (a w : ℕ) : Type 0 where
  pub room : a + 10 ≤ length core
  pub cells : (j : ℕ) → j < 10 → six w j ≡ slice_index core (a + j)
  pub good : (j : ℕ) → j < 10 → is_bad_cell (six w j) ≡ false
