-- What a part comes to.
use Rattle.std.proofs.Common.{◌≡◌, ℕ, ◌≤◌, ℤ, pos, ◌+ℤ◌, ◌*ℤ◌, ◌⊎◌, subst, inl, inr, Bool, true, false, ◌&&◌, ◌||◌, ◌==◌, List, [], ◌∷◌, length, take, refl, sym, ap, ◌∙◌, Option, Some, None, Err, option_map, is_none, ◌<◌, nat_le, nat_lt, arith}
use Rattle.std.proofs.lemmas.Bool.Decides.{nat_tests}
use Rattle.std.specs.List.{list_all}
use Rattle.std.specs.Char.{is_ascii_digit}
use Rattle.sps_ops.specs.declared.rule.Rule.TheVariants.{BadExpression}
use Rattle.sps_expr.specs.declared.expression.FactorResult.{FactorResult}
use Rattle.sps_expr.specs.declared.expression.PartialResult.{PartialResult}
use Rattle.sps_expr.specs.Grammar.{Factor, Signed, is_name}
use Rattle.sps_expr.specs.Reading.{is_run_byte, name_factor, behind_first, behind_dollar, plain_name, without_blanks, Token, Word, Mark, Tail, tokens, tail_of, reading, tail_with, unsigned_expr, expr_of, expr_with, factor_of, word_factor}
use Rattle.sps_expr.specs.Value.{◌>>=◌, signed_value, factor_value, is_undefined, comes_late, is_found_late, symbol_value, Scope, value_of, tree_outcome, is_minus, product, total, term_value, value_answer, number_in_range}
use Rattle.sps_expr.specs.Steps.{symbol_at, TakesFactor, first_factor, with_factor, is_operator, factor_result, plus, times, LeadingSign, plus_sign, minus_sign, no_sign, IsUnsigned, sign_of, run, past_run}
use Rattle.std.proofs.lemmas.List.{take_all}
use Rattle.sps_expr.proofs.Outcomes.{outcome_from, outcome_with}
use Rattle.sps_expr.proofs.Cases.{by_bool, by_option}
use Rattle.sps_expr.proofs.Fronts.{first_word, tokens_none, mark_tokens, word_tokens}

or-false : (b : Bool) → (b || false) ≡ b
or-false true = refl
or-false false = refl

or_assoc : (a b c : Bool) → ((a || b) || c) ≡ (a || (b || c))
or_assoc true b c = refl
or_assoc false b c = refl

or_four : (a b c d : Bool) → (a || ((b || c) || d)) ≡ ((a || b) || (c || d))
or_four true b c d = refl
or_four false true c d = refl
or_four false false c d = refl

then_some : {A : Type 0} → (o : Option A) → (o >>= (λ x. Some x)) ≡ o
then_some None = refl
then_some (Some x) = refl

abbrev nothing : {A B : Type 0} → A → Option B
nothing x = None

then_none : {A B : Type 0} → (o : Option A) → (o >>= nothing {A = A} {B = B}) ≡ None
then_none None = refl
then_none (Some x) = refl

then_then : {A B C : Type 0} → (o : Option A) (f : A → Option B) (g : B → Option C) → ((o >>= f) >>= g) ≡ (o >>= (λ x. f x >>= g))
then_then None f g = refl
then_then (Some x) f g = refl

value_at_end : (scope : Scope) (sum product : Option ℤ) (minus : Bool) → (product >>= (λ p. sum >>= (λ s. number_in_range (s +ℤ signed_value minus p) >>= (λ n. Some n)))) ≡ plus sum minus product
value_at_end scope None None minus = refl
value_at_end scope (Some s) None minus = refl
value_at_end scope None (Some p) minus = refl
value_at_end scope (Some s) (Some p) minus = then_some (number_in_range (s +ℤ signed_value minus p))

and_no : (b : Bool) → (b && false) ≡ false
and_no true = refl
and_no false = refl

-- at the end
pub comes_at_end : (scope : Scope) (p : PartialResult) (rest : List ℕ) → without_blanks rest ≡ [] → outcome_from scope p rest ≡ value_answer p.undefined p.late (plus p.sum p.minus p.product)
unfolding outcome_from tokens tail_of product total
comes_at_end scope p rest e = rw (e, or-false p.undefined, or-false p.late, value_at_end scope p.sum p.product p.minus)

no_tail_word : (scope : Scope) (p : PartialResult) (b : ℕ) (bs : List ℕ) → is_run_byte b ≡ true → outcome_with scope p (tail_of (tokens (b ∷ bs))) ≡ Err BadExpression
unfolding tail_of
no_tail_word scope p b bs e = rw (word_tokens b bs e)

not_any : (x y z : Bool) → (x || (y || z)) ≡ false → (x ≡ false) × (y ≡ false) × (z ≡ false)
not_any true y z e = absurd cc
not_any false true z e = absurd cc
not_any false false true e = absurd cc
not_any false false false e = (refl, refl, refl)

joined_no_mark : (b : ℕ) (f : Option Factor) (t : Option Tail) → is_operator b ≡ false → tail_with b f t ≡ None
joined_no_mark b None t e = refl
joined_no_mark b (Some f) None e = refl
joined_no_mark b (Some f) (Some t) e = let m = not_any (b == 42) (b == 43) (b == 45) e in rw (m.0, m.1, m.2)

no_tail_mark : (b : ℕ) (ts : List Token) → is_operator b ≡ false → tail_of (Mark b ∷ ts) ≡ None
unfolding tail_of
no_tail_mark b [] e = refl
no_tail_mark b (t ∷ ts) e = joined_no_mark b (factor_of t) (tail_of ts) e

pub comes_no_operator : (scope : Scope) (p : PartialResult) (rest after : List ℕ) (b : ℕ) → without_blanks rest ≡ b ∷ without_blanks after → is_operator b ≡ false → outcome_from scope p rest ≡ Err BadExpression
unfolding outcome_from
comes_no_operator scope p rest after b e other = rw e (by_bool (is_run_byte b) (λ w. no_tail_word scope p b (without_blanks after) w) (λ w. rw (mark_tokens b (without_blanks after) w, no_tail_mark b (tokens (without_blanks after)) other)))

neither : (x y : Bool) → (x || y) ≡ false → (x ≡ false) × (y ≡ false)
neither true y e = absurd cc
neither false true e = absurd cc
neither false false e = (refl, refl)

operator_mark : (b : ℕ) → is_operator b ≡ true → is_run_byte b ≡ false
operator_mark b h = grind (arith, nat_tests)

no_factor : (b : ℕ) (ts : List Token) → first_factor ts ≡ None → tail_of (Mark b ∷ ts) ≡ None
unfolding tail_of
no_factor b [] e = refl
no_factor b (t ∷ ts) e = rw e

pub comes_no_factor : (scope : Scope) (p : PartialResult) (rest after : List ℕ) (b : ℕ) → without_blanks rest ≡ b ∷ without_blanks after → is_operator b ≡ true → first_factor (tokens (without_blanks after)) ≡ None → outcome_from scope p rest ≡ Err BadExpression
unfolding outcome_from
comes_no_factor scope p rest after b e yes_op none = rw (e, mark_tokens b (without_blanks after) (operator_mark b yes_op), no_factor b (tokens (without_blanks after)) none)

op_is : (b : ℕ) → is_operator b ≡ true → (b ≡ 42) ⊎ ((b ≡ 43) ⊎ (b ≡ 45))
op_is b h = grind (arith, nat_tests)

abbrev rest_value : Scope → Bool → ℤ → List Signed → ℤ → Option ℤ
rest_value scope minus s ss v = number_in_range (s +ℤ signed_value minus v) >>= (λ n. total scope n ss)

value_times : (scope : Scope) (pr sum fv : Option ℤ) (minus : Bool) (fs : List Factor) (ss : List Signed) →
    (pr >>= (λ p. sum >>= (λ s. (fv >>= (λ v. number_in_range (p *ℤ v) >>= (λ n. product scope n fs))) >>= rest_value scope minus s ss)))
    ≡ (times pr fv >>= (λ p. sum >>= (λ s. product scope p fs >>= rest_value scope minus s ss)))
value_times scope None sum None minus fs ss = refl
value_times scope None sum (Some v) minus fs ss = refl
value_times scope (Some p) None None minus fs ss = refl
value_times scope (Some p) (Some s) None minus fs ss = refl
value_times scope (Some p) None (Some v) minus fs ss = sym (then_none (number_in_range (p *ℤ v)))
value_times scope (Some p) (Some s) (Some v) minus fs ss = then_then (number_in_range (p *ℤ v)) (λ n. product scope n fs) (rest_value scope minus s ss)

value_plus : (scope : Scope) (pr sum fv : Option ℤ) (old minus : Bool) (fs : List Factor) (ss : List Signed) →
    (pr >>= (λ p. sum >>= (λ s. number_in_range (s +ℤ signed_value old p) >>= (λ n. (fv >>= (λ v. product scope v fs)) >>= rest_value scope minus n ss))))
    ≡ (fv >>= (λ p. plus sum old pr >>= (λ s. product scope p fs >>= rest_value scope minus s ss)))
value_plus scope None None None old minus fs ss = refl
value_plus scope None (Some s) None old minus fs ss = refl
value_plus scope None None (Some v) old minus fs ss = refl
value_plus scope None (Some s) (Some v) old minus fs ss = refl
value_plus scope (Some p) None None old minus fs ss = refl
value_plus scope (Some p) None (Some v) old minus fs ss = refl
value_plus scope (Some p) (Some s) None old minus fs ss = then_none (number_in_range (s +ℤ signed_value old p))
value_plus scope (Some p) (Some s) (Some v) old minus fs ss = refl

step_star : (scope : Scope) (p : PartialResult) (f : Factor) (t : Tail) → outcome_with scope p (tail_with 42 (Some f) (Some t)) ≡ outcome_with scope (with_factor 42 (factor_result scope f) p) (Some t)
unfolding product total term_value
step_star scope p f t = rw (or_four p.undefined (is_undefined scope f) _ _, or_four p.late (comes_late scope f) _ _, value_times scope p.product p.sum (factor_value scope f) p.minus t.factors t.terms)

step_plus : (scope : Scope) (p : PartialResult) (f : Factor) (t : Tail) → outcome_with scope p (tail_with 43 (Some f) (Some t)) ≡ outcome_with scope (with_factor 43 (factor_result scope f) p) (Some t)
unfolding product total term_value
step_plus scope p f t = rw (or_four p.undefined (is_undefined scope f) _ _, or_four p.late (comes_late scope f) _ _, value_plus scope p.product p.sum (factor_value scope f) p.minus false t.factors t.terms)

step_minus : (scope : Scope) (p : PartialResult) (f : Factor) (t : Tail) → outcome_with scope p (tail_with 45 (Some f) (Some t)) ≡ outcome_with scope (with_factor 45 (factor_result scope f) p) (Some t)
unfolding product total term_value
step_minus scope p f t = rw (or_four p.undefined (is_undefined scope f) _ _, or_four p.late (comes_late scope f) _ _, value_plus scope p.product p.sum (factor_value scope f) p.minus true t.factors t.terms)

step_on : (scope : Scope) (p : PartialResult) (b : ℕ) (f : Factor) (t : Option Tail) → is_operator b ≡ true → outcome_with scope p (tail_with b (Some f) t) ≡ outcome_with scope (with_factor b (factor_result scope f) p) t
step_on scope p b f None h = refl
step_on scope p b f (Some t) h =
    let P : ℕ → Type 0 = λ x. outcome_with scope p (tail_with x (Some f) (Some t)) ≡ outcome_with scope (with_factor x (factor_result scope f) p) (Some t) in
    elim (op_is b h) [
      | inl e ↦ subst P (sym e) (step_star scope p f t)
      | inr o ↦ elim o [ inl e ↦ subst P (sym e) (step_plus scope p f t) | inr e ↦ subst P (sym e) (step_minus scope p f t) ]
    ]

pub comes_on : (scope : Scope) (p : PartialResult) (rest after behind next : List ℕ) (b : ℕ) (w : FactorResult) → without_blanks rest ≡ b ∷ without_blanks after → is_operator b ≡ true → TakesFactor scope after behind w → without_blanks next ≡ without_blanks behind → outcome_from scope p rest ≡ outcome_from scope (with_factor b w p) next
unfolding outcome_from tail_of
comes_on scope p rest after behind next b w e op k same = rw (e, mark_tokens b (without_blanks after) (operator_mark b op), k.front, k.good, same, k.comes_to) (step_on scope p b k.factor (tail_of (tokens (without_blanks behind))) op)

unsigned_none : (sign : Option Bool) (ts : List Token) → first_factor ts ≡ None → unsigned_expr sign ts ≡ None
unsigned_none sign [] e = refl
unsigned_none sign (t ∷ ts) e = rw e

-- no factor behind the sign
pub no_first_factor : (scope : Scope) (sign : Option Bool) (text : List ℕ) → first_factor (tokens (without_blanks text)) ≡ None → tree_outcome scope (unsigned_expr sign (tokens (without_blanks text))) ≡ Err BadExpression
no_first_factor scope sign text none = rw (unsigned_none sign (tokens (without_blanks text)) none)

abbrev pub started : Bool → FactorResult → PartialResult
started m f = record { undefined = f.undefined; late = f.late; sum = Some (pos 0); minus = m; product = f.value }

whole : (scope : Scope) (sign : Option Bool) (f : Factor) (t : Option Tail) → outcome_with scope (started (is_minus sign) (factor_result scope f)) t ≡ tree_outcome scope (expr_with sign (Some f) t)
unfolding total term_value
whole scope sign f None = refl
whole scope sign f (Some t) = rw (or_assoc (is_undefined scope f) _ _, or_assoc (comes_late scope f) _ _, then_then (factor_value scope f) (λ v. product scope v t.factors) (rest_value scope (is_minus sign) (pos 0) t.terms))

minus_of_sign : (minus : Bool) → is_minus (sign_of minus) ≡ minus
minus_of_sign true = refl
minus_of_sign false = refl

-- the first factor behind the sign
pub first_of_all : (scope : Scope) (minus : Bool) (text behind next : List ℕ) (f : FactorResult) → TakesFactor scope text behind f → without_blanks next ≡ without_blanks behind → outcome_from scope (started minus f) next ≡ tree_outcome scope (unsigned_expr (sign_of minus) (tokens (without_blanks text)))
unfolding outcome_from
first_of_all scope minus text behind next f k same =
    let w = whole scope (sign_of minus) k.factor (tail_of (tokens (without_blanks behind))) in
    let v = rw (minus_of_sign minus) at w in
    rw (k.front, k.good, same, k.comes_to) v

-- a plus at the front may be written or not
same_outcome : (scope : Scope) (f : Option Factor) (t : Option Tail) → tree_outcome scope (expr_with (Some false) f t) ≡ tree_outcome scope (expr_with None f t)
same_outcome scope None t = refl
same_outcome scope (Some f) None = refl
same_outcome scope (Some f) (Some t) = refl

same_unsigned : (scope : Scope) (ts : List Token) → tree_outcome scope (unsigned_expr (Some false) ts) ≡ tree_outcome scope (unsigned_expr None ts)
same_unsigned scope [] = refl
same_unsigned scope (t ∷ ts) = same_outcome scope (factor_of t) (tail_of ts)

-- a text without a sign
unsigned_text : (text : List ℕ) → IsUnsigned text → expr_of (tokens text) ≡ unsigned_expr None (tokens text)
unsigned_text [] u = rw tokens_none
unsigned_text (b ∷ bs) u = by_bool (is_run_byte b) (λ w. rw (word_tokens b bs w)) (λ w. let m = neither (b == 43) (b == 45) u in rw (mark_tokens b bs w, m.0, m.1))

-- the text behind the sign gives the value of the part
pub behind_sign : (scope : Scope) (part text : List ℕ) (minus : Bool) → LeadingSign part minus text → tree_outcome scope (unsigned_expr (sign_of minus) (tokens (without_blanks text))) ≡ value_of scope part
unfolding value_of reading
behind_sign scope part text false (plus_sign e) = rw (e, mark_tokens 43 (without_blanks text) refl) (sym (same_unsigned scope (tokens (without_blanks text))))
behind_sign scope part text true (minus_sign e) = rw (e, mark_tokens 45 (without_blanks text) refl)
behind_sign scope part text false (no_sign e u) = rw (unsigned_text (without_blanks part) u, e)

-- A NAME

-- what is found at a name says what it comes to
abbrev pub result_of : Option ℕ → Option (ℤ × ℕ) → FactorResult
result_of before found = record { undefined = is_none found; late = is_found_late before found; value = number_in_range (symbol_value found) }

abbrev AsFound : Scope → Option Factor → Type 0
AsFound scope f = option_map (factor_result scope) f ≡ option_map (result_of scope.before) (symbol_at scope f)

plain_found : (scope : Scope) (name : List ℕ) → AsFound scope (plain_name name)
plain_found scope name = by_bool (is_name name && nat_le (length name) 6) (λ t. rw t) (λ t. rw t)

dollar_found : (scope : Scope) (head : Option ℕ) (name : List ℕ) → AsFound scope (behind_dollar head name)
dollar_found scope head name = by_bool (is_name name && nat_le (length name) 5) (λ t. rw t) (λ t. rw t)

first_found : (scope : Scope) (b : ℕ) (bs : List ℕ) → AsFound scope (behind_first b bs)
first_found scope b [] = plain_found scope (b ∷ [])
first_found scope b (c ∷ cs) = by_bool (c == 36) (λ t. rw t (dollar_found scope (Some b) cs)) (λ t. rw t (plain_found scope (b ∷ c ∷ cs)))

name_found : (scope : Scope) (word : List ℕ) → AsFound scope (name_factor word)
unfolding name_factor
name_found scope [] = refl
name_found scope (b ∷ bs) = by_bool (b == 36) (λ t. rw t (dollar_found scope None bs)) (λ t. rw t (first_found scope b bs))

-- what a run comes to that is no number, by what is found at it
pub found_result : (scope : Scope) (text word : List ℕ) (found : Option (Option (ℤ × ℕ))) → list_all is_ascii_digit text ≡ false → nat_lt 7 (length text) ≡ false → word ≡ take 7 text →
    found ≡ symbol_at scope (name_factor word) → option_map (result_of scope.before) found ≡ option_map (factor_result scope) (word_factor text)
found_result scope text word found d l w f =
    let whole_name : take 7 text ≡ text = take_all 7 text (grind (arith, nat_tests)) in
    rw (d, f, w, whole_name) (sym (name_found scope text))

-- a run of more than seven characters is no name
long_plain : (word : List ℕ) → 7 < length word → plain_name word ≡ None
long_plain word l = let s : nat_le (length word) 6 ≡ false = grind (arith, nat_tests) in rw (s, and_no (is_name word))

long_dollar : (head : Option ℕ) (name : List ℕ) → 5 < length name → behind_dollar head name ≡ None
long_dollar head name l = let s : nat_le (length name) 5 ≡ false = grind (arith, nat_tests) in rw (s, and_no (is_name name))

long_first : (b : ℕ) (bs : List ℕ) → 6 < length bs → behind_first b bs ≡ None
long_first b [] l = absurd (omega arith)
long_first b (c ∷ cs) l = by_bool (c == 36) (λ t. rw t (long_dollar (Some b) cs (omega arith))) (λ t. rw t (long_plain (b ∷ c ∷ cs) (omega arith)))

long_name : (word : List ℕ) → 7 < length word → name_factor word ≡ None
unfolding name_factor
long_name [] l = refl
long_name (b ∷ bs) l = by_bool (b == 36) (λ t. rw t (long_dollar None bs (omega arith))) (λ t. rw t (long_first b bs (omega arith)))

pub long_result : (scope : Scope) (text : List ℕ) → list_all is_ascii_digit text ≡ false → nat_lt 7 (length text) ≡ true → None ≡ option_map (factor_result scope) (word_factor text)
long_result scope text d l = rw (d, long_name text (grind (arith, nat_tests)))

-- a word that is a factor, in front of a text
pub takes_word : (scope : Scope) (old text rest : List ℕ) (b : ℕ) (bs : List ℕ) (w : FactorResult) → without_blanks text ≡ without_blanks old → without_blanks text ≡ b ∷ bs → is_run_byte b ≡ true → without_blanks rest ≡ past_run (without_blanks text) → length rest ≤ length old →
    Some w ≡ option_map (factor_result scope) (word_factor (run (without_blanks text))) → TakesFactor scope old rest w
takes_word scope old text rest b bs w same e i past shorter worth =
    by_option (word_factor (run (without_blanks text)))
    (λ none. absurd (let k = rw none at worth in cc))
    (λ f some. record {
      token = Word (run (without_blanks text));
      factor = f;
      front = sym (ap tokens same) ∙ (first_word text b bs e i ∙ ap (λ ts. Word (run (without_blanks text)) ∷ tokens ts) (sym past));
      good = some;
      comes_to = (let k = rw some at worth in cc);
      shorter = shorter;
    })

pub no_word : (scope : Scope) (text : List ℕ) (b : ℕ) (bs : List ℕ) → without_blanks text ≡ b ∷ bs → is_run_byte b ≡ true → None ≡ option_map (factor_result scope) (word_factor (run (without_blanks text))) → first_factor (tokens (without_blanks text)) ≡ None
no_word scope text b bs e i none = rw (first_word text b bs e i) (by_option (word_factor (run (without_blanks text))) (λ n. n) (λ f some. absurd (let k = rw some at none in cc)))
