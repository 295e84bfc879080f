-- A name that is found has one entry.
use Rattle.std.proofs.Common.{◌≡◌, ◌≢◌, ℕ, ℤ, IfSome, true, false, List, [], ◌∷◌, ◌++◌, refl, sym, ap, ◌∙◌, subst, Option, Some, None, is_none, is_some, bytes_eq, Contains, inl, inr, arith}
use Rattle.std.proofs.lemmas.Slice.Eq.{bytes_eq-Decides}
use Rattle.std.proofs.lemmas.List.Elements.{Contains-append_right, Contains-append_cases, Contains-push_cases}
use Rattle.sps_expr.specs.Symbol.{SymbolEntry, find, has_no_name_twice}
use Rattle.sps_expr.proofs.Cases.{by_bool, and_parts}

none_is : {A : Type 0} → (o : Option A) → is_none o ≡ true → o ≡ None
none_is None e = refl
none_is (Some x) e = absurd cc

pub not_some : {A : Type 0} → (o : Option A) → is_some o ≡ false → o ≡ None
not_some None e = refl
not_some (Some x) e = absurd cc

-- a test of two texts that are not equal
not_equal : (xs ys : List ℕ) → bytes_eq xs ys ≡ false → xs ≢ ys
not_equal xs ys e same = let k = (bytes_eq-Decides xs ys).1 same in cc

differs : (xs ys : List ℕ) → xs ≢ ys → bytes_eq xs ys ≡ false
differs xs ys n = by_bool (bytes_eq xs ys) (λ t. absurd (n ((bytes_eq-Decides xs ys).0 t))) (λ f. f)

-- what is found is the entry at the front, or is found behind it
pub found_here : (name : List ℕ) (e : SymbolEntry) (es : List SymbolEntry) → bytes_eq name e.name ≡ true → find name (e ∷ es) ≡ Some (e.value, e.statement)
unfolding find
found_here name e es t = rw t

pub found_behind : (name : List ℕ) (e : SymbolEntry) (es : List SymbolEntry) → bytes_eq name e.name ≡ false → find name (e ∷ es) ≡ find name es
unfolding find
found_behind name e es t = rw t

abbrev named : List ℕ → ℤ × ℕ → SymbolEntry
named name found = record { name = name; value = found.0; statement = found.1 }

first_is : (name : List ℕ) (e : SymbolEntry) (es : List SymbolEntry) → name ≡ e.name → Contains (e ∷ es) (named name (e.value, e.statement))
first_is name e es same = (0, omega arith, ap (λ n. named n (e.value, e.statement)) (sym same))

-- the entry of a name that is found is there
pub find_there : (name : List ℕ) (es : List SymbolEntry) (found : ℤ × ℕ) → find name es ≡ Some found → Contains es (named name found)
unfolding find
find_there name [] found f = absurd cc
find_there name (e ∷ es) found f = by_bool (bytes_eq name e.name)
    (λ t. let k = sym (found_here name e es t) ∙ f in
    let same : (e.value, e.statement) ≡ found = cc in
    subst (λ x. Contains (e ∷ es) (named name x)) same (first_is name e es ((bytes_eq-Decides name e.name).0 t)))
    (λ n. Contains-append_right (e ∷ []) es _ (find_there name es found (sym (found_behind name e es n) ∙ f)))

once_parts : (e : SymbolEntry) (es : List SymbolEntry) → has_no_name_twice (e ∷ es) ≡ true → (find e.name es ≡ None) × (has_no_name_twice es ≡ true)
unfolding has_no_name_twice
once_parts e es once = let p = and_parts (is_none (find e.name es)) (has_no_name_twice es) once in (none_is (find e.name es) p.0, p.1)

at_front : (e x : SymbolEntry) (es : List SymbolEntry) → e ≡ x → find x.name (e ∷ es) ≡ Some (x.value, x.statement)
at_front e x es same = subst (λ y. find y.name (e ∷ es) ≡ Some (y.value, y.statement)) same (found_here e.name e es ((bytes_eq-Decides e.name e.name).1 refl))

-- an entry that is there is the one that is found
pub find_only : (es : List SymbolEntry) (x : SymbolEntry) → has_no_name_twice es ≡ true → Contains es x → find x.name es ≡ Some (x.value, x.statement)
find_only [] x once there = absurd (omega (arith, there.1))
find_only (e ∷ es) x once there =
    let p = once_parts e es once in
    elim (Contains-append_cases (e ∷ []) es x there) [
      | inl front ↦ elim (Contains-push_cases [] e x front) [ inl no_entry ↦ absurd (omega (arith, no_entry.1)) | inr same ↦ at_front e x es same ]
      | inr behind ↦
          let f = find_only es x p.1 behind in
          by_bool (bytes_eq x.name e.name)
          (λ t. absurd (let k = sym (ap (λ n. find n es) ((bytes_eq-Decides x.name e.name).0 t)) in let none = sym f ∙ (sym k ∙ p.0) in cc))
          (λ n. found_behind x.name e es n ∙ f)
    ]

find-push : (name : List ℕ) (es : List SymbolEntry) (x : SymbolEntry) → find name es ≡ None → name ≢ x.name → find name (es ++ x ∷ []) ≡ None
unfolding find
find-push name [] x f n = rw (differs name x.name n)
find-push name (e ∷ es) x f n = by_bool (bytes_eq name e.name)
    (λ t. absurd (let k = sym (found_here name e es t) ∙ f in cc))
    (λ b. found_behind name e (es ++ x ∷ []) b ∙ find-push name es x (sym (found_behind name e es b) ∙ f) n)

-- a name that is not there may be added
pub once-push : (es : List SymbolEntry) (x : SymbolEntry) → has_no_name_twice es ≡ true → find x.name es ≡ None → has_no_name_twice (es ++ x ∷ []) ≡ true
unfolding has_no_name_twice find
once-push [] x once f = refl
once-push (e ∷ es) x once f =
    let p = once_parts e es once in
    by_bool (bytes_eq x.name e.name)
    (λ t. absurd (let k = sym (found_here x.name e es t) ∙ f in cc))
    (λ b. rw (find-push e.name es x p.0 (λ same. not_equal x.name e.name b (sym same)), once-push es x p.1 (sym (found_behind x.name e es b) ∙ f)))

-- both, of an answer
pub IfSome-find : (name : List ℕ) (es : List SymbolEntry) (r : Option (ℤ × ℕ)) → r ≡ find name es → IfSome r (λ found. Contains es (record { name = name; value = found.0; statement = found.1 }))
IfSome-find name es None e = tt
IfSome-find name es (Some found) e = find_there name es found (sym e)

pub only_find : (name : List ℕ) (es : List SymbolEntry) (r : Option (ℤ × ℕ)) → r ≡ find name es → has_no_name_twice es ≡ true → (x : SymbolEntry) → Contains es x → x.name ≡ name → r ≡ Some (x.value, x.statement)
only_find name es r e once x there same = e ∙ (ap (λ n. find n es) (sym same) ∙ find_only es x once there)
