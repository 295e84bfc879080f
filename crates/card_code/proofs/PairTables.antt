-- The pairs and the characters that the tables have.
use Rattle.std.proofs.Common.{◌≡◌, ℕ, ◌<◌, Bool, true, false, List, [], ◌∷◌, get_or, refl, sym, ◌∙◌, ap, None, Some, arith}
use Rattle.std.proofs.lemmas.Bool.{false≢true}
use Rattle.std.proofs.lemmas.Bool.Decides.{nat_tests}
use Rattle.std.proofs.lemmas.Nat.{div-mul-add, mod-mul-add}
use Rattle.std.specs.Prelude.{◌+◌, ◌*◌, ◌/◌, ◌%◌, ◌==◌, ◌&&◌, nat_lt, Option, IfSome, option_map}
use Rattle.digit_core.specs.Cell.{is_cell_value}
use Rattle.digit_core.proofs.Below.{same_below}
use Rattle.card_code.specs.Pairs.{PairEntry, IsGoodPair, alpha_of, punch_alpha, pair_in, pair_table, digits, pair_char_in}
use Rattle.card_code.specs.Words.{char_of_entry, pair_entry, pair_char_entry}
use Rattle.card_code.specs.declared.tables.TheConstants.{PAIR_CELLS, PAIR_CHARS}

-- the cells of the table are the pairs
pair_is : (c : ℕ) → c < 256 → pair_entry PAIR_CELLS c ≡ option_map digits (alpha_of c)
unfolding pair_in
pair_is c below = same_below (pair_entry PAIR_CELLS) (λ c. option_map digits (alpha_of c)) 256 c None refl below

pub pair_found : (c : ℕ) (o : Option (ℕ × ℕ)) → c < 256 → o ≡ pair_entry PAIR_CELLS c → o ≡ option_map digits (alpha_of c)
pair_found c o below is = is ∙ pair_is c below

-- and cells can hold them
abbrev is_good : Option (ℕ × ℕ) → Bool
is_good (Some pair) = is_cell_value pair.0 && is_cell_value pair.1
is_good None = true

first_true : (a b : Bool) → (a && b) ≡ true → a ≡ true
first_true true b both = refl
first_true false b both = both

second_true : (a b : Bool) → (a && b) ≡ true → b ≡ true
second_true true b both = both
second_true false b both = absurd (false≢true both)

good_of : (o : Option (ℕ × ℕ)) → is_good o ≡ true → IfSome o IsGoodPair
good_of (Some pair) good = (first_true (is_cell_value pair.0) (is_cell_value pair.1) good, second_true (is_cell_value pair.0) (is_cell_value pair.1) good)
good_of None good = tt

pub pair_good : (c : ℕ) (o : Option (ℕ × ℕ)) → c < 256 → o ≡ pair_entry PAIR_CELLS c → IfSome o IsGoodPair
pair_good c o below is = good_of o (ap is_good is ∙ same_below (λ c. is_good (pair_entry PAIR_CELLS c)) (λ c. true) 256 c true refl below)

-- no entry has a zone over 7 or a number over 15
abbrev fits : PairEntry → Bool
fits e = nat_lt e.pair.zone 8 && nat_lt e.pair.number 16

abbrev all_fit : List PairEntry → Bool
all_fit [] = true
all_fit (e ∷ es) = fits e && all_fit es

-- so a pair that isn't inside is none of theirs
abbrev pub inside : ℕ → ℕ → Bool
inside z n = nat_lt z 8 && nat_lt n 16

one_outside : (e : PairEntry) (es : List PairEntry) (z n : ℕ) → fits e ≡ true → inside z n ≡ false → pair_char_in es z n ≡ None → pair_char_in (e ∷ es) z n ≡ None
unfolding pair_char_in
one_outside e es z n fit out rest =
    let other : (e.pair.zone == z && e.pair.number == n) ≡ false = grind (arith, nat_tests) in
    rw other rest

pub outside : (es : List PairEntry) (z n : ℕ) → all_fit es ≡ true → inside z n ≡ false → pair_char_in es z n ≡ None
unfolding pair_char_in
outside [] z n fit out = refl
outside (e ∷ es) z n fit out = one_outside e es z n (first_true (fits e) (all_fit es) fit) out (outside es z n (second_true (fits e) (all_fit es) fit) out)

-- the characters of the table are those of pairs
within : (z n : ℕ) → z < 8 → n < 16 → char_of_entry (get_or PAIR_CHARS (16 * z + n) 0) ≡ punch_alpha z n
unfolding pair_char_in
within z n zone number =
    let all = same_below (λ k. char_of_entry (get_or PAIR_CHARS k 0)) (λ k. punch_alpha (k / 16) (k % 16)) 128 (z * 16 + n) None refl (omega arith) in
    let e : 16 * z + n ≡ z * 16 + n = omega arith in
    rw e (rw (div-mul-add z 16 n number, mod-mul-add z 16 n number) at all)

-- within or not
either : (b : Bool) (z n : ℕ) → inside z n ≡ b → pair_char_entry PAIR_CHARS z n ≡ punch_alpha z n
either true z n is = rw is (within z n (grind (arith, nat_tests)) (grind (arith, nat_tests)))
either false z n is = rw is (sym (outside pair_table z n refl is))

pub pair_char_found : (z n : ℕ) → pair_char_entry PAIR_CHARS z n ≡ punch_alpha z n
pair_char_found z n = either (inside z n) z n refl
