-- The maps of places, by the names.
use Rattle.std.proofs.Common.{◌≡◌, ℕ, ◌≤◌, Bool, true, false, List, length, refl, sym, ap, ◌∙◌, Some, bytes_eq, nat_le, if◌then◌else◌, arith, Ordering}
use Rattle.std.proofs.lemmas.Bool.Decides.{nat_tests}
use Rattle.std.proofs.lemmas.Map.Text.{is_eq-slice_cmp}
use Rattle.std.proofs.lemmas.Slice.Eq.{bytes_eq-Decides}
use Rattle.std.specs.BTreeMap.{BTreeMap, IsEmpty, UpdatesBy, get_by, is_at}
use Rattle.std.specs.Cmp.{Equal-is}
use Rattle.std.specs.Cmp.Lexicographic.{slice_cmp, nat_list_eq_equiv, nat_list_cmp_total}
use Rattle.std.specs.Global.{Vec}
use Rattle.std.specs.Map.{lookup, IsKeyTest, AreApart, KeepsOthers}
use Rattle.std.specs.Ordering.{is_eq, eq_by_cmp, nat_cmp}
use Rattle.sps_expr.specs.declared.by_name.PlacesByName.{PlacesByName}
use Rattle.sps_expr.specs.SymbolList.{AreBytes, short_key, place_in_maps, HasNoPlace, HasPlacesAsIn, HasPlaceMore}
use Rattle.sps_expr.proofs.Cases.{by_bool}
use Rattle.sps_expr.proofs.Keys.{key_test}

-- both maps in one line
abbrev pub maps_of : BTreeMap ℕ ℕ → BTreeMap (Vec ℕ) ℕ → PlacesByName
maps_of short long = record { short = short; long = long }

-- the place of a short name, and of a longer one
module _ (short : BTreeMap ℕ ℕ) (long : BTreeMap (Vec ℕ) ℕ) (name : List ℕ) where
  pub place_of_short : nat_le (length name) 7 ≡ true → place_in_maps (maps_of short long) name ≡ get_by (nat_cmp (short_key name)) short
  unfolding place_in_maps
  place_of_short few = rw few

  pub place_of_long : nat_le (length name) 7 ≡ false → place_in_maps (maps_of short long) name ≡ get_by (λ key. slice_cmp nat_cmp name key.items) long
  unfolding place_in_maps
  place_of_long many = rw many

-- empty maps have no name
pub none_there : (short : BTreeMap ℕ ℕ) (long : BTreeMap (Vec ℕ) ℕ) → IsEmpty short → IsEmpty long → HasNoPlace (maps_of short long)
none_there short long no_short no_long name = by_bool (nat_le (length name) 7)
    (λ few. place_of_short short long name few ∙ rw no_short refl)
    (λ many. place_of_long short long name many ∙ rw no_long refl)

-- a short name is no longer one
other_length : (xs ys : List ℕ) (b : Bool) → nat_le (length xs) 7 ≡ b → (nat_le (length ys) 7 ≡ b → false ≡ true) → bytes_eq xs ys ≡ false
other_length xs ys b size other = by_bool (bytes_eq xs ys)
    (λ t. absurd (let k = other (ap (λ l. nat_le (length l) 7) (sym ((bytes_eq-Decides xs ys).0 t)) ∙ size) in cc))
    (λ d. d)

-- what a map has at keys that are numbers, after one more
module _ (old new : BTreeMap ℕ ℕ) (long : BTreeMap (Vec ℕ) ℕ) (added : List ℕ) (place : ℕ) (bytes : AreBytes added) (few : length added ≤ 7)
    (updates : UpdatesBy nat_cmp (nat_cmp (short_key added)) old new (Some place)) where
  few_added : nat_le (length added) 7 ≡ true
  few_added = grind (arith, nat_tests)

  at_number : (name : List ℕ) → AreBytes name → nat_le (length name) 7 ≡ true → get_by (nat_cmp (short_key name)) new ≡ (if bytes_eq name added then Some place else get_by (nat_cmp (short_key name)) old)
  at_number name bytes_n few_n =
      let small : length name ≤ 7 = grind (arith, nat_tests) in
      updates.0 (short_key name) ∙ ap (λ b. if b then Some place else get_by (nat_cmp (short_key name)) old) (key_test added name bytes bytes_n few small)

  pub short_more : HasPlaceMore (maps_of old long) (maps_of new long) added place
  short_more name bytes_n = by_bool (nat_le (length name) 7)
      (λ t.
      let before = place_of_short old long name t in
      place_of_short new long name t ∙ (at_number name bytes_n t ∙ ap (λ p. if bytes_eq name added then Some place else p) (sym before)))
      (λ n.
      let apart = other_length name added false n (λ e. sym e ∙ few_added) in
      place_of_long new long name n ∙ (sym (place_of_long old long name n) ∙ rw apart refl))

-- longer keys are in the order of their bytes
abbrev cmp_keys : Vec ℕ → Vec ℕ → Ordering
cmp_keys x y = slice_cmp nat_cmp x.items y.items

module _ (short : BTreeMap ℕ ℕ) (old new : BTreeMap (Vec ℕ) ℕ) (key : Vec ℕ) (place : ℕ) (many : nat_le (length key.items) 7 ≡ false) (updates : UpdatesBy cmp_keys (cmp_keys key) old new (Some place)) where
  other_entries : KeepsOthers (eq_by_cmp cmp_keys) (is_at (cmp_keys key)) old.entries new.entries → (other : Vec ℕ → Bool) → IsKeyTest (eq_by_cmp cmp_keys) other → AreApart (is_at (cmp_keys key)) other → lookup other new.entries ≡ lookup other old.entries
  unfolding KeepsOthers
  other_entries h = h

  at_other : (name : List ℕ) → bytes_eq key.items name ≡ false → get_by (λ k. slice_cmp nat_cmp name k.items) new ≡ get_by (λ k. slice_cmp nat_cmp name k.items) old
  at_other name differs =
      other_entries updates.3 _
      (λ x y same. ap is_eq (nat_list_cmp_total.congr name x.items y.items ((Equal-is (slice_cmp nat_cmp name x.items)).0 same)))
      (λ q here. is_eq-slice_cmp name q.items ∙ apart key.items name q.items differs (sym (is_eq-slice_cmp key.items q.items) ∙ here))
    where
      apart : (bs cs ks : List ℕ) → bytes_eq bs cs ≡ false → bytes_eq bs ks ≡ true → bytes_eq cs ks ≡ false
      apart bs cs ks d here = nat_list_eq_equiv.symm cs ks ∙ (sym (nat_list_eq_equiv.congr bs ks cs here) ∙ d)

  at_name : (name : List ℕ) → get_by (λ k. slice_cmp nat_cmp name k.items) new ≡ (if bytes_eq name key.items then Some place else get_by (λ k. slice_cmp nat_cmp name k.items) old)
  at_name name = by_bool (bytes_eq name key.items)
      (λ t. rw (t, (bytes_eq-Decides name key.items).0 t) updates.1)
      (λ d. rw d (at_other name (nat_list_eq_equiv.symm key.items name ∙ d)))

  pub long_more : HasPlaceMore (maps_of short old) (maps_of short new) key.items place
  long_more name bytes_n = by_bool (nat_le (length name) 7)
      (λ t.
      let apart = other_length name key.items true t (λ e. sym many ∙ e) in
      place_of_short short new name t ∙ (sym (place_of_short short old name t) ∙ rw apart refl))
      (λ n.
      let before = place_of_long short old name n in
      place_of_long short new name n ∙ (at_name name ∙ ap (λ p. if bytes_eq name key.items then Some place else p) (sym before)))

-- maps with the same entries have the same places
pub short_same : (old new : BTreeMap ℕ ℕ) (long : BTreeMap (Vec ℕ) ℕ) → new.entries ≡ old.entries → HasPlacesAsIn (maps_of old long) (maps_of new long)
short_same old new long same name = by_bool (nat_le (length name) 7)
    (λ t. place_of_short new long name t ∙ (ap (lookup (is_at (nat_cmp (short_key name)))) same ∙ sym (place_of_short old long name t)))
    (λ n. place_of_long new long name n ∙ sym (place_of_long old long name n))

pub long_same : (short : BTreeMap ℕ ℕ) (old new : BTreeMap (Vec ℕ) ℕ) → new.entries ≡ old.entries → HasPlacesAsIn (maps_of short old) (maps_of short new)
long_same short old new same name = by_bool (nat_le (length name) 7)
    (λ t. place_of_short short new name t ∙ sym (place_of_short short old name t))
    (λ n. place_of_long short new name n ∙ (ap (lookup (is_at (λ k. slice_cmp nat_cmp name k.items))) same ∙ sym (place_of_long short old name n)))
