-- What stands behind a word is a word at least.
use Rattle.std.proofs.Common.{◌≡◌, ◌∙◌, ℕ, ◌<◌, List, [], ◌∷◌, length, Bor, refl, ap, arith}
use Rattle.std.specs.Prelude.{Option, Some, None}
use Rattle.std.specs.Option.{option_copied}
use Rattle.line_words.specs.Words.{words_behind, words_of}
use Rattle.line_words.specs.Arguments.{alone, one_word}
use Rattle.line_words.proofs.Cutting.{some_word}

-- then an item is not alone
some_behind : {A : Type 0} (item : A) (words : List (List ℕ)) → 0 < length words → alone item words ≡ None
some_behind item [] some = absurd (omega (arith, some))
some_behind item (word ∷ words) some = refl

pub not_alone : {A : Type 0} (item : A) (behind : Option (Bor (List ℕ))) (text : Bor (List ℕ)) → behind ≡ Some text → alone item (words_behind (option_copied behind)) ≡ None
not_alone item behind text is = ap (λ o. alone item (words_behind (option_copied o))) is ∙ some_behind item (words_of text.now) (some_word text.now)

-- and what stands behind the first word is too much for one word
some_more : (word : List ℕ) (words : List (List ℕ)) → 0 < length words → one_word (word ∷ words) ≡ None
some_more word [] some = absurd (omega (arith, some))
some_more word (next ∷ words) some = refl

pub not_one : (behind rest : Option (Bor (List ℕ))) (text more : Bor (List ℕ)) (word : List ℕ) → behind ≡ Some text → words_of text.now ≡ word ∷ words_behind (option_copied rest) → rest ≡ Some more
    → one_word (words_behind (option_copied behind)) ≡ None
not_one behind rest text more word is cut goes_on =
    ap (λ o. one_word (words_behind (option_copied o))) is ∙ (ap one_word cut ∙ (ap (λ o. one_word (word ∷ words_behind (option_copied o))) goes_on ∙ some_more word (words_of more.now) (some_word more.now)))
