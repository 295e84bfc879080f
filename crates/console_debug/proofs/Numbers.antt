-- The last instruction at an address, with one statement more.
use Rattle.std.proofs.Common.{◌≡◌, ◌∙◌, ℕ, zero, suc, ◌+◌, ◌<◌, ◌≤◌, Bool, true, false, List, [], ◌∷◌, ◌++◌, ◌==◌, ◌&&◌, length, map, take, inl, inr, refl, sym, ap, arith}
use Rattle.std.proofs.lemmas.List.{take_more, get_or-set_same, get_or-set_other, length-set}
use Rattle.std.proofs.lemmas.Bool.{cases_eq, ne_eqb, eq-eqb}
use Rattle.std.specs.Prelude.{Option, Some, None, if◌then◌else◌, unwrap_or, slice_index_or, slice_set}
use Rattle.sps_pass_two.specs.Assembled.{PlacedText}
use Rattle.sps_pass_two.specs.declared.assembled.Placed.{Placed}
use Rattle.sps_pass_two.specs.Making.{text_of_placed}
use Rattle.sps_listing.specs.Listing.{last_statement_at, later_of, stands_at}
use Rattle.console_debug.specs.Places.{instruction_address}

abbrev one_or : Bool → ℕ → Option ℕ → Option ℕ
one_or here n o = if here then Some n else o

later_one : (here also : Bool) (k n : ℕ) (o : Option ℕ) → later_of (one_or here k o) also n ≡ one_or here k (later_of o also n)
later_one true also k n o = refl
later_one false also k n o = refl

pub last_more : (n a : ℕ) (ps : List PlacedText) (p : PlacedText) → last_statement_at n a (ps ++ p ∷ []) ≡ one_or (stands_at a p) (n + length ps) (last_statement_at n a ps)
unfolding last_statement_at
last_more n a [] p =
    let none : n ≡ n + 0 = omega arith in
    ap (λ k. one_or (stands_at a p) k None) none
last_more n a (q ∷ ps) p =
    let next : n + 1 + length ps ≡ n + length (q ∷ ps) = omega arith in
    ap (λ (o : Option ℕ). later_of o (stands_at a q) n) (last_more (n + 1) a ps p)
    ∙ later_one (stands_at a p) (stands_at a q) (n + 1 + length ps) n (last_statement_at (n + 1) a ps)
    ∙ ap (λ k. one_or (stands_at a p) k (later_of (last_statement_at (n + 1) a ps) (stands_at a q) n)) next

-- of the first statements, and with the next

length_first : (xs : List Placed) (i : ℕ) → i ≤ length xs → length (map text_of_placed (take i xs)) ≡ i
length_first xs zero few = refl
length_first [] (suc i) few = absurd (omega (arith, few))
length_first (x ∷ xs) (suc i) few = ap suc (length_first xs i (omega (arith, few)))

map_push : (xs : List Placed) (x : Placed) → map text_of_placed (xs ++ x ∷ []) ≡ map text_of_placed xs ++ text_of_placed x ∷ []
map_push [] x = refl
map_push (y ∷ ys) x = ap (λ (ps : List PlacedText). text_of_placed y ∷ ps) (map_push ys x)

module _ (xs : List Placed) (i : ℕ) (x : Placed) (below : i < length xs) (is : x ≡ slice_index_or xs i x) where
  abbrev number_of : ℕ → List Placed → ℕ
  number_of a ps = unwrap_or (last_statement_at 1 a (map text_of_placed ps)) 0

  next_is : (a : ℕ) → last_statement_at 1 a (map text_of_placed (take (i + 1) xs)) ≡ one_or (stands_at a (text_of_placed x)) (i + 1) (last_statement_at 1 a (map text_of_placed (take i xs)))
  next_is a =
      let more : take (i + 1) xs ≡ take i xs ++ x ∷ [] = take_more xs i x below ∙ ap (λ y. take i xs ++ y ∷ []) (sym is) in
      let long : 1 + length (map text_of_placed (take i xs)) ≡ i + 1 = let first = length_first xs i (omega (arith, below)) in omega (arith, first) in
      ap (λ (ps : List Placed). last_statement_at 1 a (map text_of_placed ps)) more ∙ ap (last_statement_at 1 a) (map_push (take i xs) x)
      ∙ last_more 1 a (map text_of_placed (take i xs)) (text_of_placed x)
      ∙ ap (λ k. one_or (stands_at a (text_of_placed x)) k (last_statement_at 1 a (map text_of_placed (take i xs)))) long

  number_next : (a : ℕ) (b : Bool) → stands_at a (text_of_placed x) ≡ b → number_of a (take (i + 1) xs) ≡ unwrap_or (one_or b (i + 1) (last_statement_at 1 a (map text_of_placed (take i xs)))) 0
  number_next a b here = ap (λ (o : Option ℕ). unwrap_or o 0) (next_is a ∙ ap (λ t. one_or t (i + 1) (last_statement_at 1 a (map text_of_placed (take i xs)))) here)

  by_address : (a : ℕ) (o : Option ℕ) (instruction : Bool) (address : ℕ) → (if instruction then Some address else None) ≡ o → o ≡ None → (instruction && (address == a)) ≡ false
  by_address a o true address is none = cc
  by_address a o false address is none = refl

  at_address : (instruction : Bool) (address at a : ℕ) → (if instruction then Some address else None) ≡ Some at → (instruction && (address == a)) ≡ (at == a)
  at_address true address at a is = let same : address ≡ at = cc in ap (λ n. n == a) same
  at_address false address at a is = cc

  -- it is no instruction
  pub numbers_same : (numbers : List ℕ) → ((a : ℕ) → a < length numbers → slice_index_or numbers a 0 ≡ number_of a (take i xs)) → instruction_address (text_of_placed x) ≡ None
      → (a : ℕ) → a < length numbers → slice_index_or numbers a 0 ≡ number_of a (take (i + 1) xs)
  numbers_same numbers are none a inside = are a inside ∙ sym (number_next a false (by_address a None _ _ none refl))

  -- it is one at this address
  pub numbers_put : (numbers : List ℕ) → ((a : ℕ) → a < length numbers → slice_index_or numbers a 0 ≡ number_of a (take i xs)) → (at k : ℕ) → instruction_address (text_of_placed x) ≡ Some at → k ≡ i + 1
      → (a : ℕ) → a < length (slice_set numbers at k) → slice_index_or (slice_set numbers at k) a 0 ≡ number_of a (take (i + 1) xs)
  numbers_put numbers are at k there count a inside =
      let long = length-set numbers at k in
      let within : a < length numbers = omega (arith, inside, long) in
      let stands : stands_at a (text_of_placed x) ≡ (at == a) = at_address _ _ at a there in
      elim (cases_eq a at) [
        | inl same ↦
            let at_inside : at < length numbers = omega (arith, within, same) in
            let here : stands_at a (text_of_placed x) ≡ true = stands ∙ eq-eqb at a (sym same) in
            ap (λ j. slice_index_or (slice_set numbers at k) j 0) same ∙ get_or-set_same numbers at k 0 at_inside ∙ count ∙ sym (number_next a true here)
        | inr other ↦
            let elsewhere : stands_at a (text_of_placed x) ≡ false = stands ∙ ne_eqb at a (λ same. other (sym same)) in
            get_or-set_other numbers at a k 0 other ∙ are a within ∙ sym (number_next a false elsewhere)
      ]
