-- Where only the symbols of earlier statements are known, a late symbol is an undefined one, and all else is the same.
use Rattle.std.proofs.Common.{◌≡◌, ℕ, ℤ, pos, ◌+ℤ◌, ◌*ℤ◌, Bool, true, false, ◌||◌, List, [], ◌∷◌, refl, Option, Some, None, is_none, nat_le, nat_lt, arith}
use Rattle.std.specs.List.{list_any}
use Rattle.std.proofs.lemmas.Bool.Decides.{nat_tests}
use Rattle.sps_expr.specs.Symbol.{SymbolEntry, find, with_head, symbol_of}
use Rattle.sps_expr.specs.Grammar.{Factor, Here, Numeral, Name, Headed, Term, Signed, Expr}
use Rattle.sps_expr.specs.Reading.{reading, without_blanks}
use Rattle.sps_expr.specs.Value.{Scope, ◌>>=◌, number_in_range, is_found_late, is_undefined, comes_late, factor_value, product, term_value, total, signed_value, is_minus, expr_value, any_factor, value_answer, tree_outcome, value_of}
use Rattle.sps_expr.specs.Earlier.{if_earlier, AreEarlier, undefined_for_late}
use Rattle.sps_expr.proofs.Cases.{by_bool}

bind_same : {A B : Type 0} → (o : Option A) (f g : A → Option B) → ((x : A) → f x ≡ g x) → (o >>= f) ≡ (o >>= g)
bind_same None f g h = refl
bind_same (Some x) f g h = h x

or_swap : (a b c d : Bool) → ((a || b) || (c || d)) ≡ ((a || c) || (b || d))
or_swap true b c d = refl
or_swap false true true d = refl
or_swap false true false d = refl
or_swap false false c d = refl

or_parts : (a b : Bool) → (a || b) ≡ false → (a ≡ false) × (b ≡ false)
or_parts true b e = absurd cc
or_parts false b e = (refl, e)

any_both : {X : Type 0} → (r p q : X → Bool) (xs : List X) → ((x : X) → r x ≡ (p x || q x)) → list_any r xs ≡ (list_any p xs || list_any q xs)
any_both r p q [] h = refl
any_both r p q (x ∷ xs) h = rw (h x, any_both r p q xs h) (or_swap (p x) (q x) (list_any p xs) (list_any q xs))

any_none : {X : Type 0} → (r : X → Bool) (xs : List X) → ((x : X) → r x ≡ false) → list_any r xs ≡ false
any_none r [] h = refl
any_none r (x ∷ xs) h = rw (h x) (any_none r xs h)

abbrev in_term : (Factor → Bool) → Term → Bool
in_term test t = test t.first || list_any test t.more

term_both : (r p q : Factor → Bool) (t : Term) → ((f : Factor) → r f ≡ (p f || q f)) → in_term r t ≡ (in_term p t || in_term q t)
term_both r p q t h = rw (h t.first, any_both r p q t.more h) (or_swap (p t.first) (q t.first) (list_any p t.more) (list_any q t.more))

expr_both : (r p q : Factor → Bool) (e : Expr) → ((f : Factor) → r f ≡ (p f || q f)) → any_factor r e ≡ (any_factor p e || any_factor q e)
expr_both r p q e h = rw (term_both r p q e.first h, any_both (λ (s : Signed). in_term r s.term) (λ (s : Signed). in_term p s.term) (λ (s : Signed). in_term q s.term) e.more (λ s. term_both r p q s.term h)) (or_swap (in_term p e.first) (in_term q e.first) _ _)

term_none : (r : Factor → Bool) (t : Term) → ((f : Factor) → r f ≡ false) → in_term r t ≡ false
term_none r t h = rw (h t.first) (any_none r t.more h)

expr_none : (r : Factor → Bool) (e : Expr) → ((f : Factor) → r f ≡ false) → any_factor r e ≡ false
expr_none r e h = rw (term_none r e.first h) (any_none (λ (s : Signed). in_term r s.term) e.more (λ s. term_none r s.term h))

module _ (head : Option ℕ) (earlier all : List SymbolEntry) (here : ℤ) (before : ℕ) (known : AreEarlier earlier all before) where
  abbrev early : Scope
  early = record { head = head; symbols = earlier; here = here; before = None }

  abbrev late : Scope
  late = record { head = head; symbols = all; here = here; before = Some before }

  unknown : (found : Option (ℤ × ℕ)) → is_none (if_earlier before found) ≡ (is_none found || is_found_late (Some before) found)
  unknown None = refl
  unknown (Some s) = by_bool (nat_lt s.1 before)
      (λ t. let n : nat_le before s.1 ≡ false = grind (arith, nat_tests) in rw (t, n))
      (λ t. let n : nat_le before s.1 ≡ true = grind (arith, nat_tests) in rw (t, n))

  undefined_both : (f : Factor) → is_undefined early f ≡ (is_undefined late f || comes_late late f)
  undefined_both Here = refl
  undefined_both (Numeral digits) = refl
  undefined_both (Name name) = rw (known (symbol_of head name)) (unknown (find (symbol_of head name) all))
  undefined_both (Headed own name) = rw (known (with_head own name)) (unknown (find (with_head own name) all))

  not_late : (found : Option (ℤ × ℕ)) → is_found_late None found ≡ false
  not_late None = refl
  not_late (Some s) = refl

  never_late : (f : Factor) → comes_late early f ≡ false
  never_late Here = refl
  never_late (Numeral digits) = refl
  never_late (Name name) = not_late (find (symbol_of head name) earlier)
  never_late (Headed own name) = not_late (find (with_head own name) earlier)

  same_found : (found : Option (ℤ × ℕ)) → is_none (if_earlier before found) ≡ false → if_earlier before found ≡ found
  same_found None e = refl
  same_found (Some s) e = by_bool (nat_lt s.1 before) (λ t. rw t) (λ t. absurd (let k = rw t at e in cc))

  same_factor : (f : Factor) → is_undefined early f ≡ false → factor_value early f ≡ factor_value late f
  same_factor Here e = refl
  same_factor (Numeral digits) e = refl
  same_factor (Name name) e = let k = rw (known (symbol_of head name)) at e in rw (known (symbol_of head name), same_found (find (symbol_of head name) all) k)
  same_factor (Headed own name) e = let k = rw (known (with_head own name)) at e in rw (known (with_head own name), same_found (find (with_head own name) all) k)

  same_product : (fs : List Factor) (x : ℤ) → list_any (is_undefined early) fs ≡ false → product early x fs ≡ product late x fs
  unfolding product
  same_product [] x e = refl
  same_product (f ∷ fs) x e =
      let p = or_parts (is_undefined early f) (list_any (is_undefined early) fs) e in
      rw (same_factor f p.0) (bind_same (factor_value late f) _ _ (λ v. bind_same (number_in_range (x *ℤ v)) _ _ (λ n. same_product fs n p.1)))

  same_term : (t : Term) → in_term (is_undefined early) t ≡ false → term_value early t ≡ term_value late t
  unfolding term_value
  same_term t e =
      let p = or_parts (is_undefined early t.first) (list_any (is_undefined early) t.more) e in
      rw (same_factor t.first p.0) (bind_same (factor_value late t.first) _ _ (λ v. same_product t.more v p.1))

  same_total : (ss : List Signed) (x : ℤ) → list_any (λ (s : Signed). in_term (is_undefined early) s.term) ss ≡ false → total early x ss ≡ total late x ss
  unfolding total
  same_total [] x e = refl
  same_total (s ∷ ss) x e =
      let p = or_parts (in_term (is_undefined early) s.term) (list_any (λ (t : Signed). in_term (is_undefined early) t.term) ss) e in
      rw (same_term s.term p.0) (bind_same (term_value late s.term) _ _ (λ v. bind_same (number_in_range (x +ℤ signed_value s.minus v)) _ _ (λ n. same_total ss n p.1)))

  same_value : (e : Expr) → any_factor (is_undefined early) e ≡ false → expr_value early e ≡ expr_value late e
  same_value e h = same_total (record { minus = is_minus e.sign; term = e.first } ∷ e.more) (pos 0) h

  late_or_not : (uE uL lL : Bool) (vE vL : Option ℤ) → uE ≡ (uL || lL) → (uE ≡ false → vE ≡ vL) → value_answer uE false vE ≡ undefined_for_late (value_answer uL lL vL)
  late_or_not uE true lL vE vL e h = rw e
  late_or_not uE false true vE vL e h = rw e
  late_or_not uE false false vE None e h = rw (e, h e)
  late_or_not uE false false vE (Some v) e h = rw (e, h e)

  early_outcome : (e : Option Expr) → tree_outcome early e ≡ undefined_for_late (tree_outcome late e)
  early_outcome None = refl
  early_outcome (Some e) = rw (expr_none (comes_late early) e never_late) (late_or_not _ _ _ _ _ (expr_both (is_undefined early) (is_undefined late) (comes_late late) e undefined_both) (same_value e))

  pub early_value : (part : List ℕ) → value_of early part ≡ undefined_for_late (value_of late part)
  unfolding value_of
  early_value part = early_outcome (reading (without_blanks part))
