-- What is punched, once the text of a card was read.
use Rattle.std.proofs.Common.{◌≡◌, ℕ, zero, suc, ◌+◌, ◌-◌, ◌<◌, ◌≤◌, ◌==◌, ◌≢◌, ◌⊎◌, inl, inr, Bool, true, false, nat_lt, min, List, [], ◌∷◌, ◌++◌, length, map, drop, replicate, Result, Ok, Err, refl, sym, ◌∙◌, ap, arith, append_assoc, length-append}
use Rattle.std.proofs.lemmas.List.{length-map, append-nil, drop_more, drop_all}
use Rattle.std.proofs.lemmas.Bool.Decides.{nat_tests}
use Rattle.std.specs.Prelude.{if◌then◌else◌, ⊤}
use Rattle.digit_core.specs.declared.Digit.{Digit}
use Rattle.addr_indirect.specs.declared.Stop.{Stop}
use Rattle.addr_indirect.specs.Reading.{read_at, read_up}
use Rattle.traces.specs.Trace.{Trace, ends, ◌>>=◌, map_answer, with_answer}
use Rattle.card_code.specs.Characters.{punch_num}
use Rattle.card_code.specs.Entries.{text_as_card}
use Rattle.card_code.specs.TextOut.{Output, with_pair, pair_char, bytes_out}
use Rattle.card_code.proofs.TextsOut.{pair_bytes}
use Rattle.card_unit.specs.Punch.{punch_card, punch_numeric, pair_text, dump_card_cells}
use Rattle.card_unit.proofs.CardsPunched.{in_front, each_up}

-- the length of what was read, its text, and its stop
abbrev count_of : Result (List Digit) Stop → ℕ
count_of (Ok ds) = length ds
count_of (Err s) = 0

abbrev text_of : Result (List ℕ) Stop → List ℕ
text_of (Ok text) = text
text_of (Err s) = []

abbrev end_of : Result (List ℕ) Stop → Trace ℕ ⊤ Stop
end_of (Ok text) = ends (Ok tt)
end_of (Err s) = ends (Err s)

-- as many digits are read as were asked for
length_on : (r : Result Digit Stop) (more : Result (List Digit) Stop) (n : ℕ) → ((ds : List Digit) → more ≡ Ok ds → length ds ≡ n) → (ds : List Digit) → each_up r more ≡ Ok ds → length ds ≡ suc n
length_on (Ok d) (Ok rest) n counts ds is = omega (arith, ap count_of is, counts rest refl)
length_on (Ok d) (Err s) n counts ds is = cc
length_on (Err s) more n counts ds is = cc

pub read_up_length : (n : ℕ) (core : List ℕ) (a : ℕ) (ds : List Digit) → read_up core a n ≡ Ok ds → length ds ≡ n
unfolding read_up
read_up_length zero core a ds is = sym (ap count_of is)
read_up_length (suc n) core a ds is = length_on (read_at core a) (read_up core (a + 1) n) n (read_up_length n core (a + 1)) ds is

-- a full text has no blanks behind it
filled_whole : (text : List ℕ) → length text ≡ 80 → text_as_card text ≡ text
filled_whole text full =
    let none : 80 - length text ≡ 0 = omega (arith, full) in
    ap (λ (n : ℕ). text ++ replicate n 32) none ∙ append-nil text

-- the card of some digits
abbrev card_of : List Digit → List ℕ
card_of ds = text_as_card (map punch_num ds)

-- 80 digits are punched as they are
numeric_of : (r : Result (List Digit) Stop) (text : List ℕ) → ((ds : List Digit) → r ≡ Ok ds → length ds ≡ 80) → Ok text ≡ map_answer card_of r → (r >>= (λ ds. punch_card (map punch_num ds) (ends (Ok tt)))) ≡ punch_card text (ends (Ok tt))
numeric_of (Ok ds) text full is =
    let size : length (map punch_num ds) ≡ 80 = length-map ds punch_num ∙ full ds refl in
    ap (λ (x : List ℕ). punch_card x (ends (Ok tt))) (sym (filled_whole (map punch_num ds) size) ∙ sym (ap text_of is))
numeric_of (Err s) text full is = cc

pub numeric_card : (core : List ℕ) (p : ℕ) (text : List ℕ) → Ok text ≡ map_answer card_of (read_up core p 80) → punch_numeric core p ≡ punch_card text (ends (Ok tt))
numeric_card core p text is = numeric_of (read_up core p 80) text (read_up_length 80 core p) is

-- reading pairs writes nothing
silent_pair : (zone number : Result Digit Stop) (t : Trace Output (List ℕ) Stop) → bytes_out t.effects ≡ [] → bytes_out (zone >>= (λ z. number >>= (λ n. with_pair (pair_char z n) (λ c. with_answer (λ cs. c ∷ cs) t)))).effects ≡ []
silent_pair (Ok z) (Ok n) t silent = pair_bytes (λ c. with_answer (λ cs. c ∷ cs) t) (pair_char z n) ∙ silent
silent_pair (Ok z) (Err s) t silent = refl
silent_pair (Err s) number t silent = refl

pub pair_text_silent : (n : ℕ) (core : List ℕ) (a : ℕ) → bytes_out (pair_text core a n).effects ≡ []
unfolding pair_text
pair_text_silent zero core a = refl
pair_text_silent (suc n) core a = silent_pair (read_at core a) (read_at core (a + 1)) (pair_text core (a + 2) n) (pair_text_silent n core (a + 2))

-- Cards of a dump.
-- what is punched once the digits of a card were read behind its text so far
abbrev punched : List ℕ → Trace ℕ ⊤ Stop → Result (List Digit) Stop → Trace ℕ ⊤ Stop
punched text t r = r >>= (λ ds. punch_card (text_as_card (text ++ map punch_num ds)) t)

-- one digit goes over to the text
one_over : (text : List ℕ) (t : Trace ℕ ⊤ Stop) (d : Digit) (more : Result (List Digit) Stop) → punched (text ++ punch_num d ∷ []) t more ≡ punched text t (in_front d more)
one_over text t d (Ok ds) = ap (λ (x : List ℕ). punch_card (text_as_card x) t) (append_assoc text (punch_num d ∷ []) (map punch_num ds))
one_over text t d (Err s) = refl

-- so it does where the digit is read
each_over : (text : List ℕ) (t : Trace ℕ ⊤ Stop) (r : Result Digit Stop) (more : Result (List Digit) Stop) (f : Digit → Trace ℕ ⊤ Stop)
    → ((d : Digit) → f d ≡ punched (text ++ punch_num d ∷ []) t more) → (r >>= f) ≡ punched text t (each_up r more)
each_over text t (Ok d) more f on = on d ∙ one_over text t d more
each_over text t (Err s) more f on = refl

-- as many digits go on a card of a dump as it has columns, or as core has left
last_or_full : (b : Bool) (n a size : ℕ) → nat_lt (size - a) 80 ≡ b → n ≡ min 80 (size - a) → a ≤ size → (n ≡ 80) ⊎ (a + n ≡ size)
last_or_full true n a size less is within = inr (let few : size - a < 80 = grind (arith, nat_tests) in omega (arith, is, few, within))
last_or_full false n a size less is within = inl (let many : 80 ≤ size - a = grind (arith, nat_tests) in omega (arith, is, many))

card_ends : (n a size : ℕ) → n ≡ min 80 (size - a) → a ≤ size → (n ≡ 80) ⊎ (a + n ≡ size)
card_ends n a size is within = last_or_full (nat_lt (size - a) 80) n a size refl is within

module _ (core : List ℕ) where
  -- what a dump punches from a on
  abbrev pub dumped : ℕ → List ℕ → Trace ℕ ⊤ Stop
  dumped a text = dump_card_cells a (drop a core) text

  -- a digit goes onto the card, which is punched where it's full
  abbrev onto_card : ℕ → List ℕ → Digit → Trace ℕ ⊤ Stop
  onto_card a text d = if length text == 79 then punch_card (text ++ punch_num d ∷ []) (dumped (a + 1) []) else dumped (a + 1) (text ++ punch_num d ∷ [])

  dump_more : (a : ℕ) (text : List ℕ) → a < length core → dumped a text ≡ (read_at core a >>= onto_card a text)
  unfolding dump_card_cells read_at
  dump_more a text more =
      let within : nat_lt a (length core) ≡ true = grind (arith, nat_tests) in
      rw (drop_more core a 0 more, within) refl

  -- at the end of core what is on the card is punched
  dump_last : (a c : ℕ) (cs : List ℕ) → length core ≤ a → dumped a (c ∷ cs) ≡ punched (c ∷ cs) (dumped (a + 0) []) (read_up core a 0)
  unfolding dump_card_cells read_up
  dump_last a c cs out =
      let here : a + 0 ≡ a = omega arith in
      rw (here, drop_all a core out, append-nil cs) refl

  -- nothing more goes onto a full card
  card_full : (a n : ℕ) (text : List ℕ) (d : Digit) → length text ≡ 79 → n ≡ 0 → punch_card (text ++ punch_num d ∷ []) (dumped (a + 1) []) ≡ punched (text ++ punch_num d ∷ []) (dumped (a + suc n) []) (read_up core (a + 1) n)
  unfolding read_up
  card_full a n text d full none =
      let next : a + 1 ≡ a + suc 0 = omega arith in
      let size : length (text ++ punch_num d ∷ []) ≡ 80 = length-append text (punch_num d ∷ []) ∙ omega (arith, full) in
      rw (none, append-nil (text ++ punch_num d ∷ []), filled_whole (text ++ punch_num d ∷ []) size, next) refl

  -- a digit goes onto the card, and then the n behind it
  onto_then : (b : Bool) (a n : ℕ) (text : List ℕ) (d : Digit) → (length text == 79) ≡ b → suc n + length text ≤ 80
      → (length (text ++ punch_num d ∷ []) < 80 → dumped (a + 1) (text ++ punch_num d ∷ []) ≡ punched (text ++ punch_num d ∷ []) (dumped (a + 1 + n) []) (read_up core (a + 1) n))
      → onto_card a text d ≡ punched (text ++ punch_num d ∷ []) (dumped (a + suc n) []) (read_up core (a + 1) n)
  onto_then true a n text d is fits rest =
      let full : length text ≡ 79 = grind (arith, nat_tests) in
      rw is (card_full a n text d full (omega (arith, full, fits)))
  onto_then false a n text d is fits rest =
      let other : length text ≢ 79 = grind (arith, nat_tests) in
      let next : a + 1 + n ≡ a + suc n = omega arith in
      rw (is, ← next) (rest (omega (arith, other, fits, length-append text (punch_num d ∷ []))))

  -- the next card is that of the digits up to a full one, or up to the end of core
  dump_part : (n a : ℕ) (text : List ℕ) → length text < 80 → 0 < n + length text → n + length text ≤ 80 → a + n ≤ length core → (n + length text ≡ 80) ⊎ (a + n ≡ length core)
      → dumped a text ≡ punched text (dumped (a + n) []) (read_up core a n)
  unfolding read_up
  dump_part zero a [] room some fits within ends_there = absurd (omega (arith, some))
  dump_part zero a (c ∷ cs) room some fits within ends_there = dump_last a c cs (elim ends_there [ inl full ↦ absurd (omega (arith, full, room)) | inr out ↦ omega (arith, out) ])
  dump_part (suc n) a text room some fits within ends_there =
      dump_more a text (omega (arith, within))
      ∙ each_over text (dumped (a + suc n) []) (read_at core a) (read_up core (a + 1) n) (onto_card a text) (λ d.
      let one = length-append text (punch_num d ∷ []) in
      onto_then (length text == 79) a n text d refl fits (λ less.
      dump_part n (a + 1) (text ++ punch_num d ∷ []) less (omega (arith, one)) (omega (arith, one, fits)) (omega (arith, within)) (elim ends_there [ inl full ↦ inl (omega (arith, one, full)) | inr out ↦ inr (omega (arith, out)) ])))

  -- As many digits as go on a card are one.
  module _ (a n size : ℕ) (long : length core ≡ size) (more : a < size) (is : n ≡ min 80 (size - a)) where
    part : dumped a [] ≡ punched [] (dumped (a + n) []) (read_up core a n)
    part =
        dump_part n a [] (omega arith) (omega (arith, is, more)) (omega (arith, is)) (omega (arith, is, more, long))
        (elim (card_ends n a size is (omega (arith, more))) [ inl full ↦ inl (omega (arith, full)) | inr out ↦ inr (omega (arith, out, long)) ])

    read_card : (r : Result (List Digit) Stop) (text : List ℕ) (t : Trace ℕ ⊤ Stop) → Ok text ≡ map_answer card_of r → punched [] t r ≡ punch_card text t
    read_card (Ok ds) text t is = ap (λ (x : List ℕ). punch_card x t) (sym (ap text_of is))
    read_card (Err s) text t is = cc

    read_stop : (r : Result (List Digit) Stop) (why : Stop) (t : Trace ℕ ⊤ Stop) → Err why ≡ map_answer card_of r → punched [] t r ≡ ends (Err why)
    read_stop (Ok ds) why t is = cc
    read_stop (Err s) why t is = sym (ap end_of is)

    -- it is punched, and then the cells behind it
    pub dump_card : (text : List ℕ) → Ok text ≡ map_answer card_of (read_up core a n) → dumped a [] ≡ punch_card text (dumped (a + n) [])
    dump_card text is = part ∙ read_card (read_up core a n) text (dumped (a + n) []) is

    -- or a cell stops
    pub dump_stop : (why : Stop) → Err why ≡ map_answer card_of (read_up core a n) → dumped a [] ≡ ends (Err why)
    dump_stop why is = part ∙ read_stop (read_up core a n) why (dumped (a + n) []) is

  -- at the end of core nothing is left to punch
  pub dump_done : (a : ℕ) → length core ≤ a → dumped a [] ≡ ends (Ok tt)
  unfolding dump_card_cells
  dump_done a out = rw (drop_all a core out) refl
