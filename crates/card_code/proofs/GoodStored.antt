-- A text that was stored while the read check is off behind it has no bad character: 06 goes on at each bad character, and no change of a
-- store turns it off.
use Rattle.std.proofs.Common.{◌≡◌, ℕ, zero, suc, ◌+◌, Bool, true, false, nat_lt, List, [], ◌∷◌, take, Ok, refl, sym, ◌∙◌, ap}
use Rattle.std.specs.Prelude.{Option, Some, None, is_none, ⊤, if◌then◌else◌}
use Rattle.digit_core.specs.declared.Digit.{Digit}
use Rattle.indicators.specs.declared.Panel.{Panel}
use Rattle.indicators.specs.Panel.{set}
use Rattle.indicators.specs.Codes.{READ_CHECK}
use Rattle.outside_io.specs.declared.host.Unit as unit
use Rattle.addr_indirect.specs.declared.Stop.{Stop}
use Rattle.traces.specs.Trace.{Trace}
use Rattle.traces.specs.Change.{Change, Changed, panel_after_changes}
use Rattle.card_code.specs.Characters.{num_of}
use Rattle.card_code.specs.Pairs.{Pair, alpha_of}
use Rattle.card_code.specs.TextIn.{store_digit, store_digits, store_pair, store_pairs}
use Rattle.card_code.specs.declared.tally.ReadAs.{ReadAs}
use Rattle.card_code.specs.declared.tally.ReadAs.TheVariants as as_read
use Rattle.card_code.specs.declared.tally.BadCharacter.{BadCharacter}
use Rattle.card_code.specs.Readings.{bad_from, is_bad}

-- 06, as an action leaves it
abbrev read_check_after : Panel → Trace Change ⊤ Stop → Bool
read_check_after panel t = (panel_after_changes panel t.effects).read_check

-- once it is on, an action leaves it on
abbrev KeepsOn : Trace Change ⊤ Stop → Type 0
KeepsOn t = (panel : Panel) → panel.read_check ≡ true → read_check_after panel t ≡ true

lit : (panel : Panel) → (set READ_CHECK true panel).read_check ≡ true
unfolding set
lit panel = refl

digit_keeps : (n a : ℕ) (within : Bool) → nat_lt a n ≡ within → (o : Option Digit) (t : Trace Change ⊤ Stop) → KeepsOn t → KeepsOn (store_digit n a o t)
digit_keeps n a true test (Some d) t keeps = λ panel is. rw test (keeps panel is)
digit_keeps n a true test None t keeps = λ panel is. rw test (keeps (set READ_CHECK true panel) (lit panel))
digit_keeps n a false test (Some d) t keeps = λ panel is. rw test is
digit_keeps n a false test None t keeps = λ panel is. rw test is

digits_keep : (text : List ℕ) (n a : ℕ) → KeepsOn (store_digits n a text)
unfolding store_digits
digits_keep [] n a = λ panel is. is
digits_keep (c ∷ cs) n a = digit_keeps n a (nat_lt a n) refl (num_of c) (store_digits n (a + 1) cs) (digits_keep cs n (a + 1))

pair_keeps : (n a : ℕ) (first second : Bool) → nat_lt a n ≡ first → nat_lt (a + 1) n ≡ second → (o : Option Pair) (t : Trace Change ⊤ Stop) → KeepsOn t → KeepsOn (store_pair n a o t)
pair_keeps n a true true in_first in_second (Some p) t keeps = λ panel is. rw (in_first, in_second) (keeps panel is)
pair_keeps n a true true in_first in_second None t keeps = λ panel is. rw (in_first, in_second) (keeps (set READ_CHECK true panel) (lit panel))
pair_keeps n a true false in_first in_second (Some p) t keeps = λ panel is. rw (in_first, in_second) is
pair_keeps n a true false in_first in_second None t keeps = λ panel is. rw (in_first, in_second) (lit panel)
pair_keeps n a false second in_first in_second (Some p) t keeps = λ panel is. rw in_first is
pair_keeps n a false second in_first in_second None t keeps = λ panel is. rw in_first is

pairs_keep : (text : List ℕ) (n a : ℕ) → KeepsOn (store_pairs n a text)
unfolding store_pairs
pairs_keep [] n a = λ panel is. is
pairs_keep (c ∷ cs) n a = pair_keeps n a (nat_lt a n) (nat_lt (a + 1) n) refl refl (alpha_of c) (store_pairs n (a + 2) cs) (pairs_keep cs n (a + 2))

-- it was completed, and 06 is off behind it
record EndsOff (panel : Panel) (t : Trace Change ⊤ Stop) : Type 0 where
  ok : t.answer ≡ Ok tt
  off : read_check_after panel t ≡ false

-- then the first character is good, and so it is with the others
record GoodFirst (none : Bool) (panel : Panel) (t : Trace Change ⊤ Stop) : Type 0 where
  good : none ≡ false
  rest : EndsOff panel t

good_digit : (n a : ℕ) (within : Bool) → nat_lt a n ≡ within → (o : Option Digit) (t : Trace Change ⊤ Stop) → KeepsOn t → (panel : Panel) → EndsOff panel (store_digit n a o t) → GoodFirst (is_none o) panel t
good_digit n a true test (Some d) t keeps panel ends = record { good = refl; rest = record { ok = rw test at ends.ok; off = rw test at ends.off } }
good_digit n a true test None t keeps panel ends = let off = rw test at ends.off in let on = keeps (set READ_CHECK true panel) (lit panel) in absurd (cc (on, off))
good_digit n a false test (Some d) t keeps panel ends = let no = rw test at ends.ok in absurd (cc no)
good_digit n a false test None t keeps panel ends = let no = rw test at ends.ok in absurd (cc no)

good_pair : (n a : ℕ) (first second : Bool) → nat_lt a n ≡ first → nat_lt (a + 1) n ≡ second → (o : Option Pair) (t : Trace Change ⊤ Stop) → KeepsOn t → (panel : Panel) → EndsOff panel (store_pair n a o t) → GoodFirst (is_none o) panel t
good_pair n a true true in_first in_second (Some p) t keeps panel ends = record { good = refl; rest = record { ok = rw (in_first, in_second) at ends.ok; off = rw (in_first, in_second) at ends.off } }
good_pair n a true true in_first in_second None t keeps panel ends = let off = rw (in_first, in_second) at ends.off in let on = keeps (set READ_CHECK true panel) (lit panel) in absurd (cc (on, off))
good_pair n a true false in_first in_second (Some p) t keeps panel ends = let no = rw (in_first, in_second) at ends.ok in absurd (cc no)
good_pair n a true false in_first in_second None t keeps panel ends = let no = rw (in_first, in_second) at ends.ok in absurd (cc no)
good_pair n a false second in_first in_second (Some p) t keeps panel ends = let no = rw in_first at ends.ok in absurd (cc no)
good_pair n a false second in_first in_second None t keeps panel ends = let no = rw in_first at ends.ok in absurd (cc no)

-- where none of some is bad, the first isn't, nor is one of the others
record NoneOf (first : Bool) (rest : List BadCharacter) : Type 0 where
  good : first ≡ false
  others : rest ≡ []

none_of : (first : Bool) (bad : BadCharacter) (rest : List BadCharacter) → (if first then bad ∷ rest else rest) ≡ [] → NoneOf first rest
none_of true bad rest none = absurd (cc none)
none_of false bad rest none = record { good = refl; others = none }

module _ (u : unit.Unit) (line : ℕ) (how : ReadAs) where
  -- behind a good character the bad ones are those of the others
  good_on : (k c : ℕ) (cs : List ℕ) → is_bad how c ≡ false → bad_from u line how k (c ∷ cs) ≡ bad_from u line how (k + 1) cs
  unfolding bad_from
  good_on k c cs good = rw good refl

  -- where a text has none, its first characters have none
  pub none_in_first : (m : ℕ) (text : List ℕ) (k : ℕ) → bad_from u line how k text ≡ [] → bad_from u line how k (take m text) ≡ []
  unfolding bad_from
  none_in_first zero text k none = refl
  none_in_first (suc m) [] k none = refl
  none_in_first (suc m) (c ∷ cs) k none =
      let parts = none_of (is_bad how c) (record { unit = u; line = line; column = k; byte = c }) (bad_from u line how (k + 1) cs) none in
      good_on k c (take m cs) parts.good ∙ none_in_first m cs (k + 1) parts.others

module _ (u : unit.Unit) (line : ℕ) where
  digits_good : (text : List ℕ) (n a k : ℕ) (panel : Panel) → EndsOff panel (store_digits n a text) → bad_from u line as_read.Digit k text ≡ []
  unfolding store_digits bad_from
  digits_good [] n a k panel ends = refl
  digits_good (c ∷ cs) n a k panel ends =
      let first = good_digit n a (nat_lt a n) refl (num_of c) (store_digits n (a + 1) cs) (digits_keep cs n (a + 1)) panel ends in
      good_on u line as_read.Digit k c cs first.good ∙ digits_good cs n (a + 1) (k + 1) panel first.rest

  pairs_good : (text : List ℕ) (n a k : ℕ) (panel : Panel) → EndsOff panel (store_pairs n a text) → bad_from u line as_read.Pair k text ≡ []
  unfolding store_pairs bad_from
  pairs_good [] n a k panel ends = refl
  pairs_good (c ∷ cs) n a k panel ends =
      let first = good_pair n a (nat_lt a n) (nat_lt (a + 1) n) refl refl (alpha_of c) (store_pairs n (a + 2) cs) (pairs_keep cs n (a + 2)) panel ends in
      good_on u line as_read.Pair k c cs first.good ∙ pairs_good cs n (a + 2) (k + 1) panel first.rest

  module _ (core new : List ℕ) (panel new_panel : Panel) (n a : ℕ) (text : List ℕ) (off : new_panel.read_check ≡ false) (k : ℕ) where
    -- of digits that were stored none is bad
    pub no_bad_digit : Changed core panel (store_digits n a text) new new_panel (Ok tt) → bad_from u line as_read.Digit k text ≡ []
    no_bad_digit changed = digits_good text n a k panel (record { ok = sym changed.answers; off = ap (λ (p : Panel). p.read_check) (sym changed.shows) ∙ off })

    -- nor of pairs
    pub no_bad_pair : Changed core panel (store_pairs n a text) new new_panel (Ok tt) → bad_from u line as_read.Pair k text ≡ []
    no_bad_pair changed = pairs_good text n a k panel (record { ok = sym changed.answers; off = ap (λ (p : Panel). p.read_check) (sym changed.shows) ∙ off })
