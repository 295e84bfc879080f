-- What stands at the front of a part.
use Rattle.std.proofs.Common.{◌≡◌, ◌≢◌, ℕ, ◌-◌, ◌<◌, true, false, ◌==◌, List, [], ◌∷◌, length, slice_index, take, drop, refl, ap, ◌∙◌, None, arith}
use Rattle.std.proofs.lemmas.Bool.Decides.{nat_tests}
use Rattle.std.proofs.lemmas.Grind.{common_steps}
use Rattle.sps_expr.specs.Reading.{is_run_byte, without_blanks, Word, Mark, tokens, onto_token}
use Rattle.sps_expr.specs.Steps.{run, past_run, first_factor}
use Rattle.sps_expr.proofs.Cases.{by_bool}

abbrev pub rest_of : List ℕ → List ℕ
rest_of xs = take (length xs - 1) (drop 1 xs)

pub take_whole : (xs : List ℕ) (n : ℕ) → n ≡ length xs → take n xs ≡ xs
take_whole xs n e = grind (arith, common_steps)

pub front : (xs : List ℕ) → 0 < length xs → slice_index xs 0 ≢ 32 → without_blanks xs ≡ slice_index xs 0 ∷ without_blanks (rest_of xs)
front [] h n = absurd (omega arith)
front (x ∷ xs) h n =
    let e : (x == 32) ≡ false = grind (arith, nat_tests) in
    rw (e, take_whole xs (length (x ∷ xs) - 1) (omega arith))

pub front_is : (xs : List ℕ) (b : ℕ) → 0 < length xs → (0 < length xs → slice_index xs 0 ≢ 32) → slice_index xs 0 ≡ b → without_blanks xs ≡ b ∷ without_blanks (rest_of xs)
front_is xs b h n e = front xs h (n h) ∙ ap (λ x. x ∷ without_blanks (rest_of xs)) e

pub nothing_left : (xs : List ℕ) → length xs < 1 → without_blanks xs ≡ []
nothing_left [] h = refl
nothing_left (x ∷ xs) h = absurd (omega arith)

pub mark_tokens : (b : ℕ) (bs : List ℕ) → is_run_byte b ≡ false → tokens (b ∷ bs) ≡ Mark b ∷ tokens bs
unfolding tokens
mark_tokens b bs e = rw e

onto_word_on : (b c : ℕ) (bs : List ℕ) → is_run_byte c ≡ true → onto_token b (Word (c ∷ run bs) ∷ tokens (past_run bs)) ≡ Word (b ∷ run (c ∷ bs)) ∷ tokens (past_run (c ∷ bs))
onto_word_on b c bs e = rw e

onto_mark : (b c : ℕ) (bs : List ℕ) → is_run_byte c ≡ false → onto_token b (Mark c ∷ tokens bs) ≡ Word (b ∷ run (c ∷ bs)) ∷ tokens (past_run (c ∷ bs))
onto_mark b c bs e = rw (e, mark_tokens c bs e)

pub unfold_word : (b : ℕ) (bs : List ℕ) → is_run_byte b ≡ true → tokens (b ∷ bs) ≡ onto_token b (tokens bs)
unfolding tokens
unfold_word b bs e = rw e

pub tokens_none : tokens [] ≡ []
unfolding tokens
tokens_none = refl

onto_next : (b : ℕ) (bs : List ℕ) → onto_token b (tokens bs) ≡ Word (b ∷ run bs) ∷ tokens (past_run bs)
onto_next b [] = rw tokens_none
onto_next b (c ∷ bs) = by_bool (is_run_byte c) (λ e. ap (onto_token b) (unfold_word c bs e ∙ onto_next c bs) ∙ onto_word_on b c bs e) (λ e. ap (onto_token b) (mark_tokens c bs e) ∙ onto_mark b c bs e)

pub word_tokens : (b : ℕ) (bs : List ℕ) → is_run_byte b ≡ true → tokens (b ∷ bs) ≡ Word (b ∷ run bs) ∷ tokens (past_run bs)
word_tokens b bs e = unfold_word b bs e ∙ onto_next b bs

-- the front of a text whose first byte is no blank
module _ (text : List ℕ) (b : ℕ) (bs : List ℕ) (e : without_blanks text ≡ b ∷ bs) where
  pub first_mark : is_run_byte b ≡ false → (b == 42) ≡ false → first_factor (tokens (without_blanks text)) ≡ None
  first_mark w m = rw (e, mark_tokens b bs w, m)

  pub first_word : is_run_byte b ≡ true → tokens (without_blanks text) ≡ Word (run (without_blanks text)) ∷ tokens (past_run (without_blanks text))
  first_word w = rw (e, w, word_tokens b bs w)

pub first_nothing : (text : List ℕ) → without_blanks text ≡ [] → first_factor (tokens (without_blanks text)) ≡ None
first_nothing text e = rw (e, tokens_none)

pub rest_shorter : (xs : List ℕ) → 0 < length xs → length (rest_of xs) < length xs
rest_shorter xs h = grind (arith, common_steps)
