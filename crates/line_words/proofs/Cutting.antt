-- The first word of a text, by the place of its first blank.
use Rattle.std.proofs.Common.{◌≡◌, ℕ, zero, suc, ◌+◌, ◌-◌, ◌<◌, ◌≤◌, Bool, true, false, List, [], ◌∷◌, length, take, drop, get_or, refl, sym, ap, add-one, length-drop, arith}
use Rattle.std.proofs.lemmas.Grind.{common_steps}
use Rattle.std.proofs.lemmas.List.{take_all}
use Rattle.std.proofs.lemmas.List.Quantifiers.{position-Some}
use Rattle.std.proofs.lemmas.List.Sums.{fails_before_first}
use Rattle.std.specs.Prelude.{◌==◌, Some, None, if◌then◌else◌, position}
use Rattle.line_words.specs.Words.{onto_word, words_of}

-- whether a byte is a blank
abbrev pub is_blank : ℕ → Bool
is_blank b = b == 32

-- the first word ends before its blank, and the other words begin after
cut_at : (text : List ℕ) (i : ℕ) → i < length text → is_blank (get_or text i 0) ≡ true → ((k : ℕ) → k < i → is_blank (get_or text k 0) ≡ false)
    → words_of text ≡ take i text ∷ words_of (drop (suc i) text)
unfolding words_of
cut_at [] i within ends none = absurd (omega arith)
cut_at (b ∷ text) zero within ends none = rw ends refl
cut_at (b ∷ text) (suc i) within ends none =
    let goes_on : is_blank b ≡ false = none 0 (omega arith) in
    rw goes_on (ap (λ (words : List (List ℕ)). onto_word b words) (cut_at text i (omega arith) ends (λ k below. none (suc k) (omega arith))))

-- without a blank the text is one word
uncut : (text : List ℕ) → ((k : ℕ) → k < length text → is_blank (get_or text k 0) ≡ false) → words_of text ≡ text ∷ []
unfolding words_of
uncut [] none = refl
uncut (b ∷ text) none =
    let goes_on : is_blank b ≡ false = none 0 (omega arith) in
    rw goes_on (ap (λ (words : List (List ℕ)). onto_word b words) (uncut text (λ k below. none (suc k) (omega arith))))

-- where a blank was found, the word stands before it and the other words behind it
pub words_cut : (text : List ℕ) (i : ℕ) → position is_blank text ≡ Some i → words_of text ≡ take i text ∷ words_of (take (length text - (i + 1)) (drop (i + 1) text))
words_cut text i found =
    let at = position-Some is_blank text i 0 found in
    let fits : length (drop (i + 1) text) ≤ length text - (i + 1) = omega (arith, length-drop (i + 1) text) in
    rw (take_all (length text - (i + 1)) (drop (i + 1) text) fits) (rw add-one (cut_at text i at.0 at.1 at.2))

-- where none was found, the text is one word
pub words_uncut : (text : List ℕ) → position is_blank text ≡ None → words_of text ≡ text ∷ []
words_uncut text none = uncut text (λ k below. fails_before_first is_blank text k 0 (grind (arith, common_steps)))

-- a word that a byte was put onto
onto_some : (ends : Bool) (b : ℕ) (words more : List (List ℕ)) → 0 < length words → (if ends then [] ∷ words else onto_word b words) ≡ more → 0 < length more
onto_some true b words more some is = omega (arith, ap length (sym is))
onto_some false b [] more some is = absurd (omega (arith, some))
onto_some false b (word ∷ words) more some is = omega (arith, ap length (sym is))

-- a text has a word at least, be it empty
pub some_word : (text : List ℕ) → 0 < length (words_of text)
unfolding words_of
some_word [] = omega arith
some_word (b ∷ text) = onto_some (is_blank b) b (words_of text) _ (some_word text) refl
