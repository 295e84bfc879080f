-- Names by their places in a list, and maps of those places.
use Rattle.std.proofs.Common.{◌≡◌, ℕ, ◌+◌, ◌<◌, Bool, true, false, List, [], ◌∷◌, ◌++◌, length, get_or, add-one, refl, sym, ap, ◌∙◌, subst, Option, Some, None, is_none, is_some, bytes_eq, arith, OnErr, Result, Ok, Err}
use Rattle.std.proofs.lemmas.Slice.Eq.{bytes_eq-Decides}
use Rattle.std.specs.Option.{option_map}
use Rattle.sps_expr.specs.declared.by_name.PlacesByName.{PlacesByName}
use Rattle.sps_expr.specs.declared.symbols.Symbol.{Symbol}
use Rattle.sps_expr.specs.Symbol.{SymbolEntry, find, place_of_name}
use Rattle.sps_expr.specs.SymbolList.{entry_of, entries_of_symbols, AreBytes, place_in_maps, HasNoPlace, HasPlaceMore, HasPlacesOf}
use Rattle.sps_expr.proofs.Cases.{by_bool, by_option}
use Rattle.sps_expr.proofs.OneEntry.{not_some, found_here, found_behind}

-- a name's place is that of the entry at the front, or one more than its place behind it
module _ (name : List ℕ) (e : SymbolEntry) (es : List SymbolEntry) where
  place_here : bytes_eq name e.name ≡ true → place_of_name name (e ∷ es) ≡ Some 0
  unfolding place_of_name
  place_here t = rw t

  place_behind : bytes_eq name e.name ≡ false → place_of_name name (e ∷ es) ≡ option_map (λ k. k + 1) (place_of_name name es)
  unfolding place_of_name
  place_behind n = rw n

-- the symbol at the place of a name is the one that is found
abbrev pub IsFoundAt : List ℕ → List Symbol → ℕ → Type 0
IsFoundAt name ss k = (k < length ss) × ((d : Symbol) → find name (entries_of_symbols ss) ≡ Some ((get_or ss k d).value, (get_or ss k d).statement))

some_is : (j k : ℕ) → Some j ≡ Some k → j ≡ k
some_is j k e = cc

pub found_at : (name : List ℕ) (ss : List Symbol) (k : ℕ) → place_of_name name (entries_of_symbols ss) ≡ Some k → IsFoundAt name ss k
unfolding place_of_name
found_at name [] k e = absurd cc
found_at name (s ∷ ss) k e = by_bool (bytes_eq name s.name.items)
    (λ t.
    subst (IsFoundAt name (s ∷ ss)) (some_is 0 k (sym (place_here name (entry_of s) (entries_of_symbols ss) t) ∙ e))
    (omega arith, λ d. found_here name (entry_of s) (entries_of_symbols ss) t))
    (λ n.
    let behind = sym (place_behind name (entry_of s) (entries_of_symbols ss) n) ∙ e in
    by_option (place_of_name name (entries_of_symbols ss))
    (λ none. absurd (let k = sym (ap (option_map (λ k. k + 1)) none) ∙ behind in cc))
    (λ j is.
    let r = found_at name ss j is in
    subst (IsFoundAt name (s ∷ ss)) (some_is (j + 1) k (sym (ap (option_map (λ k. k + 1)) is) ∙ behind))
    (omega (arith, r.0), λ d. found_behind name (entry_of s) (entries_of_symbols ss) n ∙ rw (add-one) (r.1 d))))

-- a name has no place where it is not found, and the other way round
pub place_none : (name : List ℕ) (es : List SymbolEntry) → is_some (place_of_name name es) ≡ is_some (find name es)
unfolding place_of_name find
place_none name [] = refl
place_none name (e ∷ es) = by_bool (bytes_eq name e.name)
    (λ t. rw t)
    (λ n. rw n (is_some-map (place_of_name name es) ∙ place_none name es))
  where
    is_some-map : (o : Option ℕ) → is_some (option_map (λ k. k + 1) o) ≡ is_some o
    is_some-map None = refl
    is_some-map (Some k) = refl

none_from : (o : Option ℕ) → is_some (option_map (λ k. k + 1) o) ≡ false → o ≡ None
none_from None e = refl
none_from (Some k) e = absurd cc

-- what an entry more does to a name's place
place-push_other : (name : List ℕ) (es : List SymbolEntry) (x : SymbolEntry) → bytes_eq name x.name ≡ false → place_of_name name (es ++ x ∷ []) ≡ place_of_name name es
unfolding place_of_name
place-push_other name [] x n = rw n
place-push_other name (e ∷ es) x n = by_bool (bytes_eq name e.name)
    (λ t. rw t)
    (λ m. rw m (ap (option_map (λ k. k + 1)) (place-push_other name es x n)))

place-push_same : (es : List SymbolEntry) (x : SymbolEntry) → place_of_name x.name es ≡ None → place_of_name x.name (es ++ x ∷ []) ≡ Some (length es)
unfolding place_of_name
place-push_same [] x none = rw ((bytes_eq-Decides x.name x.name).1 refl)
place-push_same (e ∷ es) x none = by_bool (bytes_eq x.name e.name)
    (λ t. absurd (let k = sym (place_here x.name e es t) ∙ none in cc))
    (λ n.
    let behind = none_from (place_of_name x.name es) (ap is_some (sym (place_behind x.name e es n) ∙ none)) in
    place_behind x.name e (es ++ x ∷ []) n ∙ (ap (option_map (λ k. k + 1)) (place-push_same es x behind) ∙ ap Some (omega arith)))

-- maps with one more name have the places of the entries with that one behind them
pub has_places-push : (m n : PlacesByName) (es : List SymbolEntry) (x : SymbolEntry) (k : ℕ) → HasPlacesOf m es → find x.name es ≡ None → HasPlaceMore m n x.name k → k ≡ length es → HasPlacesOf n (es ++ x ∷ [])
has_places-push m n es x k has absent more last name bytes =
    more name bytes ∙ by_bool (bytes_eq name x.name)
    (λ t.
    let same : name ≡ x.name = (bytes_eq-Decides name x.name).0 t in
    let none = not_some (place_of_name x.name es) (place_none x.name es ∙ ap is_some absent) in
    rw t (ap Some last ∙ (sym (place-push_same es x none) ∙ ap (λ l. place_of_name l (es ++ x ∷ [])) (sym same))))
    (λ d. rw d (has name bytes ∙ sym (place-push_other name es x d)))

-- maps without a name have the places of no entries
pub has_places-empty : (m : PlacesByName) → HasNoPlace m → HasPlacesOf m []
unfolding place_of_name
has_places-empty m empty name bytes = empty name

-- what the maps have at a name tells what is found
module _ (name : List ℕ) (bytes : AreBytes name) (m : PlacesByName) (ss : List Symbol) (has : HasPlacesOf m (entries_of_symbols ss)) where
  found_at_place : (k : ℕ) → Some k ≡ place_in_maps m name → IsFoundAt name ss k
  found_at_place k at = found_at name ss k (sym (has name bytes) ∙ sym at)

  pub place_fits : (k : ℕ) → Some k ≡ place_in_maps m name → k < length ss
  place_fits k at = (found_at_place k at).0

  pub found_by_place : (k : ℕ) (s : Symbol) → Some k ≡ place_in_maps m name → s ≡ get_or ss k s → Some (s.value, s.statement) ≡ find name (entries_of_symbols ss)
  found_by_place k s at is = ap (λ t. Some (t.value, t.statement)) is ∙ sym ((found_at_place k at).1 s)

  is_some_by_place : (b : Bool) → b ≡ is_some (place_in_maps m name) → is_some (find name (entries_of_symbols ss)) ≡ b
  is_some_by_place b e = sym (place_none name (entries_of_symbols ss)) ∙ (ap is_some (sym (has name bytes)) ∙ sym e)

  pub not_found_by_place : false ≡ is_some (place_in_maps m name) → find name (entries_of_symbols ss) ≡ None
  not_found_by_place e = not_some (find name (entries_of_symbols ss)) (is_some_by_place false e)

  pub found_somewhere : true ≡ is_some (place_in_maps m name) → false ≡ is_none (find name (entries_of_symbols ss))
  found_somewhere e = some_not_none (find name (entries_of_symbols ss)) (is_some_by_place true e)
    where
      some_not_none : {A : Type 0} → (o : Option A) → is_some o ≡ true → false ≡ is_none o
      some_not_none None t = absurd cc
      some_not_none (Some x) t = refl

-- what holds anyway holds after an error
pub on_error : {T E P : Type 0} → (r : Result T E) → P → OnErr r P
on_error (Ok x) p = tt
on_error (Err e) p = p
