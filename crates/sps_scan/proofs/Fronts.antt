-- The operands in front of their remark have just the characters of the parts, and commas.
use Rattle.std.proofs.Common.{◌≡◌, ◌∙◌, ℕ, zero, suc, ◌+◌, ◌-◌, ◌≤◌, Bool, true, false, List, [], ◌∷◌, ◌++◌, length, take, drop, Option, Some, None, ◌==◌, ◌||◌, ◌&&◌, refl, sym, ap, subst, arith, append_assoc, length-append, if◌then◌else◌}
use Rattle.std.proofs.lemmas.List.{append-nil, take-append-drop}
use Rattle.std.proofs.lemmas.List.Folds.{list_all-append}
use Rattle.std.proofs.Math.Seq.{take-append_seam}
use Rattle.sps_scan.specs.Columns.{before_comma, after_comma, has_comma}
use Rattle.sps_scan.specs.Numbers.{short_number}
use Rattle.sps_scan.specs.Operands.{parts_of, remark_of, behind_text, behind_number, dac_operands, most_parts, has_text, operands_of}
use Rattle.sps_scan.specs.Statement.{is_allowed, all_allowed, parts_allowed, shape_of}
use Rattle.sps_scan.specs.declared.statement.Shape.TheVariants.{BadColumn, Plain}
use Rattle.sps_scan.proofs.Places.{by_test, is_comma, after_none}

-- a text is a front and the remark, and the front has a bad character where one of the parts has
record IsFronted (text : List ℕ) (parts : List (List ℕ)) (remark : List ℕ) : Type 0 where
  front : List ℕ
  whole : front ++ remark ≡ text
  same : all_allowed front ≡ parts_allowed parts

and-true : (b : Bool) → (b && true) ≡ b
and-true true = refl
and-true false = refl

-- a comma parts a text
comma_split : (text : List ℕ) → has_comma text ≡ true → before_comma text ++ 44 ∷ after_comma text ≡ text
comma_split [] h = cc
comma_split (b ∷ bs) h =
    let step = elim (b == 44) as (λ t. (b == 44) ≡ t → (t || has_comma bs) ≡ true → (if t then [] else b ∷ before_comma bs) ++ 44 ∷ (if t then bs else after_comma bs) ≡ b ∷ bs) [
      | true ↦ λ e _. ap (λ x. x ∷ bs) (sym (is_comma b e))
      | false ↦ λ _ more. ap (λ l. b ∷ l) (comma_split bs more)
    ] in
    step refl h

no_comma : (text : List ℕ) → has_comma text ≡ false → before_comma text ≡ text
no_comma [] h = refl
no_comma (b ∷ bs) h =
    let step = elim (b == 44) as (λ t. (t || has_comma bs) ≡ false → (if t then [] else b ∷ before_comma bs) ≡ b ∷ bs) [
      | true ↦ λ none. cc
      | false ↦ λ more. ap (λ l. b ∷ l) (no_comma bs more)
    ] in
    step h

-- two texts with a comma between them
both_allowed : (first second : List ℕ) → all_allowed (first ++ 44 ∷ second) ≡ (all_allowed first && all_allowed second)
unfolding is_allowed
both_allowed first second = list_all-append _ first (44 ∷ second)

-- a part that a comma ends, before others
module _ (first rest : List ℕ) (parts : List (List ℕ)) (remark : List ℕ) where
  one_more : IsFronted rest parts remark → IsFronted (first ++ 44 ∷ rest) (first ∷ parts) remark
  one_more f = record {
    front = first ++ 44 ∷ f.front;
    whole = append_assoc first (44 ∷ f.front) remark ∙ ap (λ l. first ++ 44 ∷ l) f.whole;
    same = both_allowed first f.front ∙ ap (λ t. all_allowed first && t) f.same;
  }

-- a part that is all of the text
alone : (text : List ℕ) → IsFronted text (text ∷ []) []
alone text = record { front = text; whole = append-nil text; same = sym (and-true (all_allowed text)) }

-- no part
none : (remark : List ℕ) → IsFronted remark [] remark
none remark = record { front = []; whole = refl; same = refl }

parts_fronted : (most : ℕ) (text : List ℕ) → IsFronted text (parts_of most text) (remark_of most text)
unfolding parts_of remark_of
parts_fronted zero text = none text
parts_fronted (suc n) text = by_test (has_comma text)
    (λ h. rw h (subst (λ t. IsFronted t (before_comma text ∷ parts_of n (after_comma text)) (remark_of n (after_comma text))) (comma_split text h) (one_more (before_comma text) (after_comma text) _ _ (parts_fronted n (after_comma text)))))
    (λ h. rw h (subst (λ p. IsFronted text (p ∷ []) []) (sym (no_comma text h)) (alone text)))

-- one part, and the remark behind its comma
last_fronted : (text : List ℕ) → IsFronted text (before_comma text ∷ []) (after_comma text)
last_fronted text = by_test (has_comma text)
    (λ h. subst (λ t. IsFronted t (before_comma text ∷ []) (after_comma text)) (comma_split text h) (one_more (before_comma text) (after_comma text) [] _ (none (after_comma text))))
    (λ h. rw (no_comma text h, after_none text h) (alone text))

-- the text of a DAC, and what stands behind it
second_alone : (second rest : List ℕ) → IsFronted (second ++ rest) (second ∷ []) rest
second_alone second rest = record { front = second; whole = refl; same = sym (and-true (all_allowed second)) }

text_fronted : (first second rest : List ℕ) → IsFronted (first ++ 44 ∷ (second ++ rest)) (behind_text first second rest).parts (behind_text first second rest).remark
text_fronted first second [] = one_more first (second ++ []) (second ∷ []) [] (second_alone second [])
text_fronted first second (b ∷ bs) = by_test (b == 44)
    (λ h. rw (h, is_comma b h) (one_more first (second ++ 44 ∷ bs) (second ∷ before_comma bs ∷ []) (after_comma bs) (one_more second bs (before_comma bs ∷ []) (after_comma bs) (last_fronted bs))))
    (λ h. rw h (one_more first (second ++ b ∷ bs) (second ∷ []) (b ∷ bs) (second_alone second (b ∷ bs))))

number_fronted : (first rest : List ℕ) (n : Option ℕ) → IsFronted (first ++ 44 ∷ rest) (behind_number first rest n).parts (behind_number first rest n).remark
number_fronted first rest None = one_more first rest ([] ∷ []) rest (second_alone [] rest)
number_fronted first rest (Some n) = subst (λ t. IsFronted (first ++ 44 ∷ t) (behind_text first (take n rest) (drop n rest)).parts (behind_text first (take n rest) (drop n rest)).remark) (take-append-drop n rest) (text_fronted first (take n rest) (drop n rest))

dac_fronted : (text : List ℕ) → IsFronted text (dac_operands text).parts (dac_operands text).remark
dac_fronted text = by_test (has_comma text)
    (λ h. rw h (subst (λ t. IsFronted t (behind_number (before_comma text) (after_comma text) (short_number (before_comma text))).parts (behind_number (before_comma text) (after_comma text) (short_number (before_comma text))).remark) (comma_split text h) (number_fronted (before_comma text) (after_comma text) (short_number (before_comma text)))))
    (λ h. rw h (subst (λ p. IsFronted text (p ∷ []) []) (sym (no_comma text h)) (alone text)))

fronted : (name : List ℕ) (text : List ℕ) → IsFronted text (operands_of name text).parts (operands_of name text).remark
fronted name text = by_test (has_text name) (λ h. rw h (dac_fronted text)) (λ h. rw h (parts_fronted (most_parts name) text))

-- the operands, by what stands in front of the remark
module _ (name : List ℕ) (text : List ℕ) where
  lengths : length (fronted name text).front + length (operands_of name text).remark ≡ length text
  lengths = sym (length-append (fronted name text).front (operands_of name text).remark) ∙ ap length (fronted name text).whole

  pub remark_fits : length (operands_of name text).remark ≤ length text
  remark_fits = omega (arith, lengths)

  pub front_allowed : all_allowed (take (length text - length (operands_of name text).remark) text) ≡ parts_allowed (operands_of name text).parts
  front_allowed =
      let f = fronted name text in
      let n : length text - length (operands_of name text).remark ≡ length f.front = omega (arith, lengths) in
      let front : take (length f.front) text ≡ f.front = ap (take (length f.front)) (sym f.whole) ∙ take-append_seam f.front (operands_of name text).remark in
      ap all_allowed (ap (λ k. take k text) n ∙ front) ∙ f.same

  pub shape_is : (front : List ℕ) → shape_of front (take (length text - length (operands_of name text).remark) text ∷ []) ≡ shape_of front (operands_of name text).parts
  shape_is front = ap (λ t. if all_allowed front && t then Plain else BadColumn) (and-true _ ∙ front_allowed)
