-- The places of entries: one more at the front of the entries, and one less at their back.
use Rattle.std.proofs.Common.{◌≡◌, ℕ, zero, suc, ◌+◌, ◌-◌, ◌<◌, ◌≤◌, ◌==◌, Bool, true, false, List, [], ◌∷◌, ◌++◌, length, take, drop, refl, sym, ◌∙◌, ap, subst, arith, length-append}
use Rattle.std.specs.Prelude.{Option, Some, None, IfSome, slice_get}
use Rattle.std.proofs.lemmas.Bool.Decides.{nat_tests}
use Rattle.std.proofs.lemmas.List.{take_all}
use Rattle.digit_core.specs.{AgreeOutside}
use Rattle.rewind_log.specs.declared.LogEntry.{LogEntry}
use Rattle.cpu_step.specs.declared.machine.Machine.{Machine}
use Rattle.rewind_log.specs.Kept.{Kept, places_with, machine_at, most_places, newest}
use Rattle.rewind_log.specs.Entries.{place_of_entry, core_before, places_of_entries, oldest_dropped}

module _ (m : ℕ) where
  pub length_places : (core : List ℕ) (es : List (LogEntry m)) → length (places_of_entries m core es) ≡ length es
  unfolding places_of_entries
  length_places core [] = refl
  length_places core (e ∷ es) = length-append (places_of_entries m (core_before m core e) es) (place_of_entry m core e ∷ []) ∙ omega (arith, length_places (core_before m core e) es)

  -- without the oldest
  drop_within : (ks ls : List Kept) → 1 ≤ length ks → drop 1 (ks ++ ls) ≡ drop 1 ks ++ ls
  drop_within [] ls some = absurd (omega (arith, some))
  drop_within (k ∷ ks) ls some = refl

  pub places_dropped : (core : List ℕ) (es : List (LogEntry m)) (n : ℕ) → suc n ≡ length es → places_of_entries m core (take n es) ≡ drop 1 (places_of_entries m core es)
  unfolding places_of_entries
  places_dropped core [] n is = absurd (omega (arith, is))
  places_dropped core (e ∷ []) zero is = refl
  places_dropped core (e ∷ []) (suc n) is = absurd (omega (arith, is))
  places_dropped core (e ∷ f ∷ es) zero is = absurd (omega (arith, is))
  places_dropped core (e ∷ f ∷ es) (suc n) is =
      let before = core_before m core e in
      let some : 1 ≤ length (places_of_entries m before (f ∷ es)) = omega (arith, length_places before (f ∷ es)) in
      ap (λ (ks : List Kept). ks ++ place_of_entry m core e ∷ []) (places_dropped before (f ∷ es) n (omega (arith, is))) ∙ sym (drop_within (places_of_entries m before (f ∷ es)) (place_of_entry m core e ∷ []) some)

  same_number : (a b : ℕ) → (a == b) ≡ true → a ≡ b
  same_number a b is = grind (arith, nat_tests)

  pub oldest_gone : (core : List ℕ) (es : List (LogEntry m)) (k : Kept) → places_of_entries m core (oldest_dropped m es) ++ k ∷ [] ≡ places_with (places_of_entries m core es) k
  oldest_gone core es k = by_room (length es == most_places) refl
    where
      by_room : (b : Bool) → (length es == most_places) ≡ b → places_of_entries m core (oldest_dropped m es) ++ k ∷ [] ≡ places_with (places_of_entries m core es) k
      by_room true is =
          let full : length es ≡ most_places = same_number (length es) most_places is in
          rw (length_places core es, is) (ap (λ (ks : List Kept). ks ++ k ∷ []) (places_dropped core es (length es - 1) (omega (arith, full))))
      by_room false is = rw (length_places core es, is) refl

  -- one place more
  pub places_pushed : (core new : List ℕ) (e : LogEntry m) (es : List (LogEntry m)) → core_before m new e ≡ core → places_of_entries m new (e ∷ es) ≡ places_of_entries m core es ++ place_of_entry m new e ∷ []
  unfolding places_of_entries
  places_pushed core new e es before = ap (λ (c : List ℕ). places_of_entries m c es ++ place_of_entry m new e ∷ []) before

  -- a place by its number: of those of all entries, and of those behind the newest
  get_left : (ks ls : List Kept) (i : ℕ) → i < length ks → slice_get (ks ++ ls) i ≡ slice_get ks i
  get_left [] ls i inside = absurd (omega (arith, inside))
  get_left (k ∷ ks) ls zero inside = refl
  get_left (k ∷ ks) ls (suc i) inside = get_left ks ls i (omega (arith, inside))

  get_last : (ks : List Kept) (k : Kept) → slice_get (ks ++ k ∷ []) (length ks) ≡ Some k
  get_last [] k = refl
  get_last (x ∷ ks) k = get_last ks k

  pub place_before : (core : List ℕ) (e : LogEntry m) (es : List (LogEntry m)) (i : ℕ) → i < length es → slice_get (places_of_entries m core (e ∷ es)) i ≡ slice_get (places_of_entries m (core_before m core e) es) i
  unfolding places_of_entries
  place_before core e es i inside = get_left (places_of_entries m (core_before m core e) es) (place_of_entry m core e ∷ []) i (omega (arith, inside, length_places (core_before m core e) es))

  pub place_here : (core : List ℕ) (e : LogEntry m) (es : List (LogEntry m)) (i : ℕ) → i ≡ length es → slice_get (places_of_entries m core (e ∷ es)) i ≡ Some (place_of_entry m core e)
  unfolding places_of_entries
  place_here core e es i is =
      let n : i ≡ length (places_of_entries m (core_before m core e) es) = omega (arith, is, length_places (core_before m core e) es) in
      ap (λ j. slice_get (places_of_entries m core (e ∷ es)) j) n ∙ get_last (places_of_entries m (core_before m core e) es) (place_of_entry m core e)

  -- there is a place of each entry, with a core
  pub place_with : (core : List ℕ) (es : List (LogEntry m)) (n i : ℕ) (e : LogEntry m) → slice_get es n ≡ Some e → n + suc i ≡ length es → (c : List ℕ) × (slice_get (places_of_entries m core es) i ≡ Some (place_of_entry m c e))
  place_with core [] n i e there is = absurd (omega (arith, is))
  place_with core (f ∷ es) zero i e there is =
      (core, place_here core f es i (omega (arith, is)) ∙ ap (λ (x : LogEntry m). Some (place_of_entry m core x)) (same_entry f e there))
    where
      same_entry : (x y : LogEntry m) → Some x ≡ Some y → x ≡ y
      same_entry x y same = cc
  place_with core (f ∷ es) (suc n) i e there is =
      let rest = place_with (core_before m core f) es n i e there (omega (arith, is)) in
      (rest.0, place_before core f es i (omega (arith, is)) ∙ rest.1)

  -- one entry more has been undone
  pub entry_undone : (core : List ℕ) (es : List (LogEntry m)) (k i : ℕ) (e : LogEntry m) → slice_get es k ≡ Some e → suc k + suc i ≤ length es
      → slice_get (places_of_entries m core (drop k es)) i ≡ slice_get (places_of_entries m (core_before m core e) (drop (suc k) es)) i
  entry_undone core [] k i e there is = absurd (omega (arith, is))
  entry_undone core (f ∷ es) zero i e there is = subst (λ (x : LogEntry m). slice_get (places_of_entries m core (f ∷ es)) i ≡ slice_get (places_of_entries m (core_before m core x) es) i) (some_same f e there) (place_before core f es i (omega (arith, is)))
    where
      some_same : (x y : LogEntry m) → Some x ≡ Some y → x ≡ y
      some_same x y same = cc
  entry_undone core (f ∷ es) (suc k) i e there is = entry_undone core es k i e there (omega (arith, is))

  -- the newest of those that are left
  pub entry_here : (core : List ℕ) (es : List (LogEntry m)) (k i : ℕ) (e : LogEntry m) → slice_get es k ≡ Some e → k + suc i ≡ length es → slice_get (places_of_entries m core (drop k es)) i ≡ Some (place_of_entry m core e)
  entry_here core [] k i e there is = absurd (omega (arith, is))
  entry_here core (f ∷ es) zero i e there is = subst (λ (x : LogEntry m). slice_get (places_of_entries m core (f ∷ es)) i ≡ Some (place_of_entry m core x)) (some_same f e there) (place_here core f es i (omega (arith, is)))
    where
      some_same : (x y : LogEntry m) → Some x ≡ Some y → x ≡ y
      some_same x y same = cc
  entry_here core (f ∷ es) (suc k) i e there is = entry_here core es k i e there (omega (arith, is))

  -- a place was kept
  pub place_kept : (core new : List ℕ) (es left : List (LogEntry m)) (e : LogEntry m) → left ≡ oldest_dropped m es → suc (length left) ≤ most_places → core_before m new e ≡ core
      → places_of_entries m new (take most_places (e ∷ left)) ≡ places_with (places_of_entries m core es) (place_of_entry m new e)
  place_kept core new es left e is room before =
      ap (λ (xs : List (LogEntry m)). places_of_entries m new xs) (take_all most_places (e ∷ left) room) ∙ places_pushed core new e left before
      ∙ ap (λ (xs : List (LogEntry m)). places_of_entries m core xs ++ place_of_entry m new e ∷ []) is ∙ oldest_gone core es (place_of_entry m new e)

-- what is so of it is so of what follows from it
pub some_too : {A : Type 0} (P Q : A → Type 0) (o : Option A) → ((x : A) → P x → Q x) → IfSome o P → IfSome o Q
some_too P Q None follows holds = tt
some_too P Q (Some x) follows holds = follows x holds

-- a number below the length has its element
pub not_past : {X : Type 0} (xs : List X) (i : ℕ) → i < length xs → None ≡ slice_get xs i → ⊥
not_past [] i inside none = absurd (omega (arith, inside))
not_past (x ∷ xs) zero inside none = cc
not_past (x ∷ xs) (suc i) inside none = not_past xs i (omega (arith, inside)) none

pub element : {X : Type 0} (xs : List X) (i : ℕ) → i < length xs → (x : X) × (slice_get xs i ≡ Some x)
element [] i inside = absurd (omega (arith, inside))
element (x ∷ xs) zero inside = (x, refl)
element (x ∷ xs) (suc i) inside = element xs i (omega (arith, inside))

module _ (m : ℕ) where
  pub one_undone : (core undone : List ℕ) (es : List (LogEntry m)) (k i : ℕ) (now : Option Kept) → k + 1 + suc i ≤ length es
      → ((e : LogEntry m) → slice_get es k ≡ Some e → undone ≡ core_before m core e) → slice_get (places_of_entries m core (drop k es)) i ≡ now
      → slice_get (places_of_entries m undone (drop (k + 1) es)) i ≡ now
  one_undone core undone es k i now inside is here =
      let e = element es k (omega (arith, inside)) in
      let one : k + 1 ≡ suc k = omega arith in
      ap (λ j. slice_get (places_of_entries m undone (drop j es)) i) one ∙ ap (λ (x : List ℕ). slice_get (places_of_entries m x (drop (suc k) es)) i) (is e.0 e.1)
      ∙ sym (entry_undone m core es k i e.0 e.1 (omega (arith, inside))) ∙ here

  -- the last of those that are undone is the one before the place
  pub all_undone : (core : List ℕ) (es : List (LogEntry m)) (k i : ℕ) (now : Option Kept) → k + suc i ≡ length es → slice_get (places_of_entries m core (drop k es)) i ≡ now
      → (new old first : Machine m) → old ≡ record first { core = core } → ((e : LogEntry m) → slice_get es k ≡ Some e → new ≡ machine_at m (place_of_entry m old.core e) old)
      → IfSome now (λ k. new ≡ machine_at m k first)
  all_undone core es k i now is here new old first others at =
      let e = element es k (omega (arith, is)) in
      let there : now ≡ Some (place_of_entry m core e.0) = sym here ∙ entry_here m core es k i e.0 e.1 is in
      let machine : new ≡ machine_at m (place_of_entry m core e.0) first = at e.0 e.1 ∙ ap (λ (x : Machine m). machine_at m (place_of_entry m x.core e.0) x) others in
      rw there machine

  -- the newest place has the newest core
  pub newest_core : (core other : List ℕ) (es : List (LogEntry m)) (from to : ℕ) → 0 < length (places_of_entries m core es)
      → IfSome (newest (places_of_entries m core es)) (λ k. AgreeOutside k.core other from to) → AgreeOutside core other from to
  newest_core core other [] from to some agree = absurd (omega (arith, some, length_places m core []))
  newest_core core other (e ∷ es) from to some agree =
      let last : length (places_of_entries m core (e ∷ es)) - 1 ≡ length es = omega (arith, length_places m core (e ∷ es)) in
      subst (λ (o : Option Kept). IfSome o (λ k. AgreeOutside k.core other from to)) (place_here m core e es (length (places_of_entries m core (e ∷ es)) - 1) last) agree
