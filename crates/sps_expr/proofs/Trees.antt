-- The trees that `reading` gives are those of the grammar.
use Rattle.std.proofs.Common.{◌≡◌, ℕ, Bool, true, false, not, ◌&&◌, ◌==◌, List, [], ◌∷◌, ◌++◌, length, refl, sym, ap, ◌∙◌, subst, append_assoc, Option, Some, None, nat_le, arith}
use Rattle.std.specs.List.{list_all}
use Rattle.std.specs.Bool.{⊤}
use Rattle.std.proofs.lemmas.Bool.Decides.{nat_tests}
use Rattle.std.specs.Char.{is_ascii_digit}
use Rattle.sps_expr.specs.Grammar.{Factor, Here, Numeral, Name, Headed, Term, Signed, Expr, is_letter_or_digit, is_word, is_name, is_head_char, is_nothing, is_factor, headed_text, is_term, is_expr, factor_text, factors_text, term_text, terms_text, sign_byte, sign_text, expr_text, IsReading}
use Rattle.sps_expr.specs.Reading.{Token, Word, Mark, Tail, tokens, onto_token, tail_of, reading, with_mark, unsigned_expr, expr_of, with_sign, factor_of, is_run_byte, behind_dollar, plain_name, behind_first, name_factor, word_factor}
use Rattle.sps_expr.specs.Steps.{run, past_run}
use Rattle.sps_expr.proofs.Cases.{by_bool, by_option, and_parts}
use Rattle.sps_expr.proofs.Fronts.{unfold_word, mark_tokens, word_tokens, tokens_none}

abbrev token_text : Token → List ℕ
token_text (Word word) = word
token_text (Mark b) = b ∷ []

abbrev tokens_text : List Token → List ℕ
tokens_text [] = []
tokens_text (t ∷ ts) = token_text t ++ tokens_text ts

-- letters, digits and `$`, one at least
abbrev is_run : List ℕ → Bool
is_run word = not (is_nothing word) && list_all is_run_byte word

abbrev good_token : Token → Bool
good_token (Word word) = is_run word
good_token (Mark b) = true

onto_text : (b : ℕ) (ts : List Token) → tokens_text (onto_token b ts) ≡ b ∷ tokens_text ts
onto_text b [] = refl
onto_text b (Word word ∷ ts) = refl
onto_text b (Mark c ∷ ts) = refl

lossless : (bs : List ℕ) → tokens_text (tokens bs) ≡ bs
lossless [] = rw tokens_none
lossless (b ∷ bs) = by_bool (is_run_byte b) (λ w. rw (unfold_word b bs w, onto_text b (tokens bs), lossless bs)) (λ w. rw (mark_tokens b bs w, lossless bs))

and_true : (a b : Bool) → a ≡ true → b ≡ true → (a && b) ≡ true
and_true a b e f = rw (e, f)

good_onto : (b : ℕ) (ts : List Token) → is_run_byte b ≡ true → list_all good_token ts ≡ true → list_all good_token (onto_token b ts) ≡ true
good_onto b [] w g = rw w
good_onto b (Word word ∷ ts) w g =
    let p = and_parts (is_run word) (list_all good_token ts) g in
    let q = and_parts (not (is_nothing word)) (list_all is_run_byte word) p.0 in
    rw (w, q.1, p.1)
good_onto b (Mark c ∷ ts) w g = rw (w, g)

all_good : (bs : List ℕ) → list_all good_token (tokens bs) ≡ true
all_good [] = rw tokens_none
all_good (b ∷ bs) = by_bool (is_run_byte b) (λ w. rw (unfold_word b bs w) (good_onto b (tokens bs) w (all_good bs))) (λ w. rw (mark_tokens b bs w) (all_good bs))

record FactorOk (t : Token) (f : Factor) : Type 0 where
  is_good : is_factor f ≡ true
  spelled : factor_text f ≡ token_text t

-- letters and digits are what a run has but for `$`
digit_is : (b : ℕ) → is_ascii_digit b ≡ true → is_letter_or_digit b ≡ true
digit_is b d = rw d

digits_word : (word : List ℕ) → list_all is_ascii_digit word ≡ true → list_all is_letter_or_digit word ≡ true
digits_word [] d = refl
digits_word (b ∷ word) d = let p = and_parts (is_ascii_digit b) (list_all is_ascii_digit word) d in rw (digit_is b p.0, digits_word word p.1)

run_byte_is : (b : ℕ) → is_letter_or_digit b ≡ true → is_run_byte b ≡ true
run_byte_is b w = rw w

word_run : (word : List ℕ) → list_all is_letter_or_digit word ≡ true → list_all is_run_byte word ≡ true
word_run [] w = refl
word_run (b ∷ word) w = let p = and_parts (is_letter_or_digit b) (list_all is_letter_or_digit word) w in rw (run_byte_is b p.0, word_run word p.1)

no_dollar : (b : ℕ) → is_run_byte b ≡ true → (b == 36) ≡ false → is_letter_or_digit b ≡ true
no_dollar b r d = by_bool (is_letter_or_digit b) (λ w. w) (λ w. absurd (let k = rw (w, d) at r in cc))

is_no_dollar : (b : ℕ) → is_letter_or_digit b ≡ true → (b == 36) ≡ false
is_no_dollar b w = grind (arith, nat_tests)

number_ok : (word : List ℕ) → is_run word ≡ true → list_all is_ascii_digit word ≡ true → FactorOk (Word word) (Numeral word)
number_ok word g d =
    let q = and_parts (not (is_nothing word)) (list_all is_run_byte word) g in
    record { is_good = rw (q.0, digits_word word d, d); spelled = refl }

-- a name, and a name behind a `$`
plain_ok : (word : List ℕ) (f : Factor) → plain_name word ≡ Some f → FactorOk (Word word) f
plain_ok word f e = by_bool (is_name word && nat_le (length word) 6)
    (λ s. let k = rw s at e in let j : Name word ≡ f = cc in subst (FactorOk (Word word)) j (record { is_good = s; spelled = refl }))
    (λ s. absurd (let k = rw s at e in cc))

dollar_ok : (head : Option ℕ) (name word : List ℕ) (f : Factor) → is_head_char head ≡ true → headed_text head name ≡ word → behind_dollar head name ≡ Some f → FactorOk (Word word) f
dollar_ok head name word f h t e = by_bool (is_name name && nat_le (length name) 5)
    (λ s. let k = rw s at e in let j : Headed head name ≡ f = cc in subst (FactorOk (Word word)) j (record { is_good = and_true _ _ h s; spelled = t }))
    (λ s. absurd (let k = rw s at e in cc))

first_ok : (b : ℕ) (bs : List ℕ) (f : Factor) → is_letter_or_digit b ≡ true → behind_first b bs ≡ Some f → FactorOk (Word (b ∷ bs)) f
first_ok b [] f w e = plain_ok (b ∷ []) f e
first_ok b (c ∷ cs) f w e = by_bool (c == 36)
    (λ d. let i : c ≡ 36 = grind (arith, nat_tests) in dollar_ok (Some b) cs (b ∷ c ∷ cs) f w (rw i refl) (let k = rw d at e in k))
    (λ d. plain_ok (b ∷ c ∷ cs) f (let k = rw d at e in k))

name_ok : (word : List ℕ) (f : Factor) → list_all is_run_byte word ≡ true → name_factor word ≡ Some f → FactorOk (Word word) f
unfolding name_factor
name_ok [] f g e = absurd cc
name_ok (b ∷ bs) f g e =
    let p = and_parts (is_run_byte b) (list_all is_run_byte bs) g in
    by_bool (b == 36)
    (λ d. let i : b ≡ 36 = grind (arith, nat_tests) in dollar_ok None bs (b ∷ bs) f refl (rw i refl) (let k = rw d at e in k))
    (λ d. first_ok b bs f (no_dollar b p.0 d) (let k = rw d at e in k))

word_ok : (word : List ℕ) (f : Factor) → is_run word ≡ true → word_factor word ≡ Some f → FactorOk (Word word) f
word_ok word f g e = by_bool (list_all is_ascii_digit word)
    (λ d. let k = rw d at e in let j : Numeral word ≡ f = cc in subst (FactorOk (Word word)) j (number_ok word g d))
    (λ d. name_ok word f (and_parts (not (is_nothing word)) (list_all is_run_byte word) g).1 (let k = rw d at e in k))

factor_ok : (t : Token) (f : Factor) → good_token t ≡ true → factor_of t ≡ Some f → FactorOk t f
factor_ok (Word word) f g e = word_ok word f g e
factor_ok (Mark b) f g e = by_bool (b == 42)
    (λ m. let k = rw m at e in let j : Here ≡ f = cc in let i : b ≡ 42 = grind (arith, nat_tests) in subst (FactorOk (Mark b)) j (record { is_good = refl; spelled = rw i }))
    (λ m. absurd (let k = rw m at e in cc))

record TailOk (ts : List Token) (tail : Tail) : Type 0 where
  factors_good : list_all is_factor tail.factors ≡ true
  terms_good : list_all (λ s. is_term s.term) tail.terms ≡ true
  spelled : factors_text tail.factors ++ terms_text tail.terms ≡ tokens_text ts

mark_ok : (b : ℕ) (t : Token) (ts : List Token) (f : Factor) (before tail : Tail) → FactorOk t f → TailOk ts before → with_mark b f before ≡ Some tail → TailOk (Mark b ∷ t ∷ ts) tail
mark_ok b t ts f before tail g k e =
    let texts : factor_text f ++ (factors_text before.factors ++ terms_text before.terms) ≡ token_text t ++ tokens_text ts = rw (g.spelled, k.spelled) in
    by_bool (b == 42)
    (λ m. let h = rw m at e in
    let j : record { factors = f ∷ before.factors; terms = before.terms } ≡ tail = cc in
    let i : b ≡ 42 = grind (arith, nat_tests) in
    subst (TailOk (Mark b ∷ t ∷ ts)) j (record { factors_good = rw (g.is_good, k.factors_good); terms_good = k.terms_good; spelled = rw (i, append_assoc) (ap (λ x. 42 ∷ x) texts) }))
    (λ m. by_bool (b == 43)
    (λ n. let h = rw (m, n) at e in
    let j : record { factors = []; terms = record { minus = false; term = record { first = f; more = before.factors } } ∷ before.terms } ≡ tail = cc in
    let i : b ≡ 43 = grind (arith, nat_tests) in
    subst (TailOk (Mark b ∷ t ∷ ts)) j (record { factors_good = refl; terms_good = rw (g.is_good, k.factors_good, k.terms_good); spelled = rw (i, append_assoc) (ap (λ x. 43 ∷ x) texts) }))
    (λ n. by_bool (b == 45)
    (λ o. let h = rw (m, n, o) at e in
    let j : record { factors = []; terms = record { minus = true; term = record { first = f; more = before.factors } } ∷ before.terms } ≡ tail = cc in
    let i : b ≡ 45 = grind (arith, nat_tests) in
    subst (TailOk (Mark b ∷ t ∷ ts)) j (record { factors_good = refl; terms_good = rw (g.is_good, k.factors_good, k.terms_good); spelled = rw (i, append_assoc) (ap (λ x. 45 ∷ x) texts) }))
    (λ o. absurd (let h = rw (m, n, o) at e in cc))))

tail_ok : (ts : List Token) (tail : Tail) → list_all good_token ts ≡ true → tail_of ts ≡ Some tail → TailOk ts tail
unfolding tail_of
tail_ok [] tail g e = let j : record { factors = []; terms = [] } ≡ tail = cc in subst (TailOk []) j (record { factors_good = refl; terms_good = refl; spelled = refl })
tail_ok (Word word ∷ ts) tail g e = absurd cc
tail_ok (Mark b ∷ []) tail g e = absurd cc
tail_ok (Mark b ∷ t ∷ ts) tail g e =
    let p = and_parts (good_token t) (list_all good_token ts) g in
    by_option (factor_of t) (λ none. absurd (let k = rw none at e in cc)) (λ f some.
    by_option (tail_of ts) (λ none. absurd (let k = rw (some, none) at e in cc)) (λ before found.
    let k = rw (some, found) at e in
    mark_ok b t ts f before tail (factor_ok t f p.0 some) (tail_ok ts before p.1 found) k))

unsigned_ok : (sign : Option Bool) (ts : List Token) (e : Expr) → list_all good_token ts ≡ true → unsigned_expr sign ts ≡ Some e → (is_expr e ≡ true) × (expr_text e ≡ sign_text sign ++ tokens_text ts)
unsigned_ok sign [] e g u = absurd cc
unsigned_ok sign (t ∷ ts) e g u =
    let p = and_parts (good_token t) (list_all good_token ts) g in
    by_option (factor_of t) (λ none. absurd (let k = rw none at u in cc)) (λ f some.
    by_option (tail_of ts) (λ none. absurd (let k = rw (some, none) at u in cc)) (λ tail found.
    let k = rw (some, found) at u in
    let j : with_sign sign f tail ≡ e = cc in
    let a = factor_ok t f p.0 some in
    let b = tail_ok ts tail p.1 found in
    let P : Expr → Type 0 = λ x. (is_expr x ≡ true) × (expr_text x ≡ sign_text sign ++ tokens_text (t ∷ ts)) in
    subst P j (rw (a.is_good, b.factors_good, b.terms_good), rw (append_assoc, b.spelled, a.spelled))))

expr_ok : (ts : List Token) (e : Expr) → list_all good_token ts ≡ true → expr_of ts ≡ Some e → (is_expr e ≡ true) × (expr_text e ≡ tokens_text ts)
expr_ok [] e g u = absurd cc
expr_ok (Word word ∷ ts) e g u = unsigned_ok None (Word word ∷ ts) e g u
expr_ok (Mark b ∷ ts) e g u = by_bool (b == 43)
    (λ m. let i : b ≡ 43 = grind (arith, nat_tests) in rw i (unsigned_ok (Some false) ts e g (let k = rw m at u in k)))
    (λ m. by_bool (b == 45)
    (λ n. let i : b ≡ 45 = grind (arith, nat_tests) in rw i (unsigned_ok (Some true) ts e g (let k = rw (m, n) at u in k)))
    (λ n. unsigned_ok None (Mark b ∷ ts) e g (let k = rw (m, n) at u in k)))

-- what is read is an expression, and it's written as the text
pub reading_is : (text : List ℕ) (e : Expr) → reading text ≡ Some e → IsReading text e
unfolding reading
reading_is text e r = let k = expr_ok (tokens text) e (all_good text) r in record { good = k.0; spelled = k.1 ∙ lossless text }

-- no word goes on into the text
abbrev NotWord : List ℕ → Type 0
NotWord [] = ⊤
NotWord (b ∷ bs) = is_run_byte b ≡ false

run_of : (word rest : List ℕ) → list_all is_run_byte word ≡ true → NotWord rest → run (word ++ rest) ≡ word
run_of [] [] w r = refl
run_of [] (c ∷ rest) w r = rw r
run_of (b ∷ word) rest w r = let p = and_parts (is_run_byte b) (list_all is_run_byte word) w in rw (p.0, run_of word rest p.1 r)

past_run_of : (word rest : List ℕ) → list_all is_run_byte word ≡ true → NotWord rest → past_run (word ++ rest) ≡ rest
past_run_of [] [] w r = refl
past_run_of [] (c ∷ rest) w r = rw r
past_run_of (b ∷ word) rest w r = let p = and_parts (is_run_byte b) (list_all is_run_byte word) w in rw (p.0) (past_run_of word rest p.1 r)

run_then : (word rest : List ℕ) → is_run word ≡ true → NotWord rest → tokens (word ++ rest) ≡ Word word ∷ tokens rest
run_then [] rest w r = absurd cc
run_then (b ∷ word) rest w r =
    let p = and_parts (is_run_byte b) (list_all is_run_byte word) w in
    rw (word_tokens b (word ++ rest) p.0, run_of word rest p.1 r, past_run_of word rest p.1 r)

word_then : (word rest : List ℕ) → is_word word ≡ true → NotWord rest → tokens (word ++ rest) ≡ Word word ∷ tokens rest
word_then word rest w r =
    let q = and_parts (not (is_nothing word)) (list_all is_letter_or_digit word) w in
    run_then word rest (and_true _ _ q.0 (word_run word q.1)) r

record Reads (f : Factor) (rest : List ℕ) : Type 0 where
  token : Token
  front : tokens (factor_text f ++ rest) ≡ token ∷ tokens rest
  is : factor_of token ≡ Some f

not_true : (b : Bool) → not b ≡ true → b ≡ false
not_true true e = absurd cc
not_true false e = refl

and_false : (a : Bool) → (a && false) ≡ false
and_false true = refl
and_false false = refl

-- the run of a name is read as that name
name_is : (name : List ℕ) → (is_name name && nat_le (length name) 6) ≡ true → name_factor name ≡ Some (Name name)
unfolding name_factor
name_is [] g = absurd cc
name_is (b ∷ []) g =
    let p = and_parts (is_name (b ∷ [])) (nat_le 1 6) g in
    let q = and_parts (is_word (b ∷ [])) (not (list_all is_ascii_digit (b ∷ []))) p.0 in
    let w = and_parts (is_letter_or_digit b) true q.0 in
    rw (is_no_dollar b w.0, g)
name_is (b ∷ c ∷ cs) g =
    let p = and_parts (is_name (b ∷ c ∷ cs)) (nat_le (length (b ∷ c ∷ cs)) 6) g in
    let q = and_parts (is_word (b ∷ c ∷ cs)) (not (list_all is_ascii_digit (b ∷ c ∷ cs))) p.0 in
    let w = and_parts (is_letter_or_digit b) (is_letter_or_digit c && list_all is_letter_or_digit cs) q.0 in
    let v = and_parts (is_letter_or_digit c) (list_all is_letter_or_digit cs) w.1 in
    rw (is_no_dollar b w.0, is_no_dollar c v.0, g)

dollar_is : (head : Option ℕ) (name : List ℕ) → (is_name name && nat_le (length name) 5) ≡ true → name_factor (36 ∷ name) ≡ Some (Headed None name)
unfolding name_factor
dollar_is head name g = rw g

headed_is : (h : ℕ) (name : List ℕ) → is_letter_or_digit h ≡ true → (is_name name && nat_le (length name) 5) ≡ true → name_factor (h ∷ 36 ∷ name) ≡ Some (Headed (Some h) name)
unfolding name_factor
headed_is h name w g = rw (is_no_dollar h w, g)

factor_then : (f : Factor) (rest : List ℕ) → is_factor f ≡ true → NotWord rest → Reads f rest
factor_then Here rest g r = record { token = Mark 42; front = mark_tokens 42 rest refl; is = refl }
factor_then (Numeral digits) rest g r =
    let p = and_parts (is_word digits) (list_all is_ascii_digit digits) g in
    record { token = Word digits; front = word_then digits rest p.0 r; is = rw p.1 }
factor_then (Name name) rest g r =
    let p = and_parts (is_name name) (nat_le (length name) 6) g in
    let q = and_parts (is_word name) (not (list_all is_ascii_digit name)) p.0 in
    record { token = Word name; front = word_then name rest q.0 r; is = rw (not_true (list_all is_ascii_digit name) q.1) (name_is name g) }
factor_then (Headed None name) rest g r =
    let p = and_parts (is_name name) (nat_le (length name) 5) g in
    let q = and_parts (is_word name) (not (list_all is_ascii_digit name)) p.0 in
    let w = and_parts (not (is_nothing name)) (list_all is_letter_or_digit name) q.0 in
    record { token = Word (36 ∷ name); front = run_then (36 ∷ name) rest (word_run name w.1) r; is = dollar_is None name g }
factor_then (Headed (Some h) name) rest g r =
    let o = and_parts (is_letter_or_digit h) (is_name name && nat_le (length name) 5) g in
    let p = and_parts (is_name name) (nat_le (length name) 5) o.1 in
    let q = and_parts (is_word name) (not (list_all is_ascii_digit name)) p.0 in
    let w = and_parts (not (is_nothing name)) (list_all is_letter_or_digit name) q.0 in
    record { token = Word (h ∷ 36 ∷ name); front = run_then (h ∷ 36 ∷ name) rest (and_true _ _ (run_byte_is h o.0) (word_run name w.1)) r; is = rw (and_false (is_ascii_digit h)) (headed_is h name o.0 o.1) }

sign_not_word : (minus : Bool) → is_run_byte (sign_byte minus) ≡ false
sign_not_word true = refl
sign_not_word false = refl

terms_not_word : (ss : List Signed) → NotWord (terms_text ss)
terms_not_word [] = tt
terms_not_word (s ∷ ss) = sign_not_word s.minus

factors_not_word : (fs : List Factor) (ss : List Signed) → NotWord (factors_text fs ++ terms_text ss)
factors_not_word [] ss = terms_not_word ss
factors_not_word (f ∷ fs) ss = refl

factors_then : (fs : List Factor) (ss : List Signed) → list_all is_factor fs ≡ true → tail_of (tokens (terms_text ss)) ≡ Some (record { factors = []; terms = ss }) → tail_of (tokens (factors_text fs ++ terms_text ss)) ≡ Some (record { factors = fs; terms = ss })
unfolding tail_of
factors_then [] ss g e = e
factors_then (f ∷ fs) ss g e =
    let p = and_parts (is_factor f) (list_all is_factor fs) g in
    let r = factor_then f (factors_text fs ++ terms_text ss) p.0 (factors_not_word fs ss) in
    rw (mark_tokens 42 ((factor_text f ++ factors_text fs) ++ terms_text ss) refl, append_assoc, r.front, r.is, factors_then fs ss p.1 e)

signed_mark : (minus : Bool) (f : Factor) (fs : List Factor) (ss : List Signed) → with_mark (sign_byte minus) f (record { factors = fs; terms = ss }) ≡ Some (record { factors = []; terms = record { minus = minus; term = record { first = f; more = fs } } ∷ ss })
signed_mark true f fs ss = refl
signed_mark false f fs ss = refl

terms_then : (ss : List Signed) → list_all (λ s. is_term s.term) ss ≡ true → tail_of (tokens (terms_text ss)) ≡ Some (record { factors = []; terms = ss })
unfolding tail_of
terms_then [] g = rw tokens_none
terms_then (s ∷ ss) g =
    let p = and_parts (is_term s.term) (list_all (λ x. is_term x.term) ss) g in
    let q = and_parts (is_factor s.term.first) (list_all is_factor s.term.more) p.0 in
    let r = factor_then s.term.first (factors_text s.term.more ++ terms_text ss) q.0 (factors_not_word s.term.more ss) in
    rw (mark_tokens (sign_byte s.minus) (term_text s.term ++ terms_text ss) (sign_not_word s.minus), append_assoc, r.front, r.is, factors_then s.term.more ss q.1 (terms_then ss p.1)) (signed_mark s.minus s.term.first s.term.more ss)

unsigned_then : (sign : Option Bool) (t : Term) (ss : List Signed) → is_term t ≡ true → list_all (λ s. is_term s.term) ss ≡ true → unsigned_expr sign (tokens (term_text t ++ terms_text ss)) ≡ Some (record { sign = sign; first = t; more = ss })
unsigned_then sign t ss g h =
    let q = and_parts (is_factor t.first) (list_all is_factor t.more) g in
    let r = factor_then t.first (factors_text t.more ++ terms_text ss) q.0 (factors_not_word t.more ss) in
    rw (append_assoc, r.front, r.is, factors_then t.more ss q.1 (terms_then ss h))

no_sign_token : (token : Token) (ts : List Token) (f : Factor) → factor_of token ≡ Some f → expr_of (token ∷ ts) ≡ unsigned_expr None (token ∷ ts)
no_sign_token (Word word) ts f e = refl
no_sign_token (Mark b) ts f e = by_bool (b == 42)
    (λ m. let i : b ≡ 42 = grind (arith, nat_tests) in rw i)
    (λ m. absurd (let k = rw m at e in cc))

no_sign_then : (t : Term) (ss : List Signed) → is_term t ≡ true → expr_of (tokens (term_text t ++ terms_text ss)) ≡ unsigned_expr None (tokens (term_text t ++ terms_text ss))
no_sign_then t ss g =
    let q = and_parts (is_factor t.first) (list_all is_factor t.more) g in
    let r = factor_then t.first (factors_text t.more ++ terms_text ss) q.0 (factors_not_word t.more ss) in
    rw (append_assoc, r.front) (no_sign_token r.token _ t.first r.is)

expr_then : (sign : Option Bool) (t : Term) (ss : List Signed) → is_term t ≡ true → list_all (λ s. is_term s.term) ss ≡ true → expr_of (tokens (sign_text sign ++ (term_text t ++ terms_text ss))) ≡ Some (record { sign = sign; first = t; more = ss })
expr_then None t ss g h = no_sign_then t ss g ∙ unsigned_then None t ss g h
expr_then (Some true) t ss g h = rw (mark_tokens 45 (term_text t ++ terms_text ss) refl) (unsigned_then (Some true) t ss g h)
expr_then (Some false) t ss g h = rw (mark_tokens 43 (term_text t ++ terms_text ss) refl) (unsigned_then (Some false) t ss g h)

-- and each expression is read again from its text
pub is_reading : (text : List ℕ) (e : Expr) → IsReading text e → reading text ≡ Some e
unfolding reading
is_reading text e r =
    let p = and_parts (is_term e.first) (list_all (λ s. is_term s.term) e.more) r.good in
    ap (λ x. expr_of (tokens x)) (sym r.spelled) ∙ expr_then e.sign e.first e.more p.0 p.1

-- a text is written for one tree at most
pub one_reading : (text : List ℕ) (e f : Expr) → IsReading text e → IsReading text f → e ≡ f
one_reading text e f r s = let first = is_reading text e r in let second = is_reading text f s in cc
