-- Tables of counts, of which one place changes.
use Rattle.std.proofs.Common.{◌≡◌, ◌∙◌, ℕ, zero, suc, ◌+◌, ◌-◌, ◌<◌, ◌≤◌, ◌==◌, not, Bool, true, false, inl, inr, List, [], ◌∷◌, ◌++◌, length, count_by, nat_lt, ◌||◌, refl, sym, ap, subst, arith}
use Rattle.std.proofs.lemmas.Bool.{cases_eq, cases_lt, ne_eqb, eq-eqb}
use Rattle.std.proofs.lemmas.List.{get_or-set_same, get_or-set_other, length-set, length_push, get_or_default, get_or_past}
use Rattle.std.proofs.lemmas.List.Sums.{count_by-le-length}
use Rattle.std.proofs.lemmas.List.Folds.{list_any-append}
use Rattle.std.specs.Prelude.{if◌then◌else◌, slice_index_or, slice_set, replicate, Option, Some}
use Rattle.std.specs.List.{filter, list_any}
use Rattle.sps_pass_two.specs.Assembled.{PlacedText}
use Rattle.console_debug.specs.declared.breaks.Breaks.{Breaks}
use Rattle.console_debug.specs.Breakpoints.{AreNumbersByAddress, HasTables, count_at, is_set, set_from, set_now, since_of, times_set}
use Rattle.console_debug.specs.Places.{has_break, is_at, statement_address}
use Rattle.console_debug.specs.Session.{with_break, without_break}
use Rattle.console_debug.proofs.Marks.{one_if, count_any, count_more, count_without, set_few, set_more, set_without, zeros}

pub one_changed : (xs : List ℕ) (a v : ℕ) (P Q : ℕ → ℕ) → ((b : ℕ) → b < length xs → slice_index_or xs b 0 ≡ P b) → (a < length xs → v ≡ Q a) → ((b : ℕ) → (b ≡ a → ⊥) → P b ≡ Q b)
    → (b : ℕ) → b < length (slice_set xs a v) → slice_index_or (slice_set xs a v) b 0 ≡ Q b
one_changed xs a v P Q are here others b inside =
    let long = length-set xs a v in
    let within : b < length xs = omega (arith, inside, long) in
    elim (cases_eq b a) [
      | inl same ↦
          let there : a < length xs = omega (arith, within, same) in
          ap (λ i. slice_index_or (slice_set xs a v) i 0) same ∙ get_or-set_same xs a v 0 there ∙ here there ∙ ap Q (sym same)
      | inr other ↦ get_or-set_other xs a b v 0 other ∙ are b within ∙ others b other
    ]

-- the counts of a statement

one_of : (s : ℕ) → one_if (s == s) ≡ 1
one_of s = ap one_if (eq-eqb s s refl)

none_of : (s t : ℕ) → (t ≡ s → ⊥) → one_if (s == t) ≡ 0
none_of s t other = ap one_if (ne_eqb s t (λ same. other (sym same)))

module _ (now times : List ℕ) (are : (t : ℕ) → t < length times → slice_index_or times t 0 ≡ times_set t now) (s : ℕ) where
  pub times_more : (t : ℕ) → t < length (slice_set times s (slice_index_or times s 0 + 1)) → slice_index_or (slice_set times s (slice_index_or times s 0 + 1)) t 0 ≡ times_set t (now ++ s ∷ [])
  times_more =
      one_changed times s (slice_index_or times s 0 + 1) (λ t. times_set t now) (λ t. times_set t (now ++ s ∷ [])) are
      (λ inside. let more = count_more (λ b. b == s) now s in let one = one_of s in omega (arith, are s inside, more, one))
      (λ t other. let more = count_more (λ b. b == t) now s in let none = none_of s t other in omega (arith, more, none))

  pub times_cleared : (t : ℕ) → t < length (slice_set times s 0) → slice_index_or (slice_set times s 0) t 0 ≡ times_set t (filter (λ b. not (b == s)) now)
  times_cleared =
      one_changed times s 0 (λ t. times_set t now) (λ t. times_set t (filter (λ b. not (b == s)) now)) are
      (λ inside.
      let rest = count_without (λ b. b == s) s now in
      let all : (if s == s then times_set s now else 0) ≡ times_set s now = ap (λ b. if b then times_set s now else 0) (eq-eqb s s refl) in
      omega (arith, rest, all))
      (λ t other.
      let rest = count_without (λ b. b == t) s now in
      let none : (if s == t then times_set s now else 0) ≡ 0 = ap (λ b. if b then times_set s now else 0) (ne_eqb s t (λ same. other (sym same))) in
      omega (arith, rest, none))

-- the counts at an address

module _ (of : ℕ → Option ℕ) (now counts : List ℕ) (are : (b : ℕ) → b < length counts → slice_index_or counts b 0 ≡ count_by (λ x. is_at b (of x)) now) (s a : ℕ) (there : of s ≡ Some a) where
  is_here : is_at a (of s) ≡ true
  is_here = ap (is_at a) there ∙ eq-eqb a a refl

  is_elsewhere : (b : ℕ) → (b ≡ a → ⊥) → is_at b (of s) ≡ false
  is_elsewhere b other = ap (is_at b) there ∙ ne_eqb a b (λ same. other (sym same))

  pub counts_more : (b : ℕ) → b < length (slice_set counts a (slice_index_or counts a 0 + 1))
      → slice_index_or (slice_set counts a (slice_index_or counts a 0 + 1)) b 0 ≡ count_by (λ x. is_at b (of x)) (now ++ s ∷ [])
  counts_more =
      one_changed counts a (slice_index_or counts a 0 + 1) (λ b. count_by (λ x. is_at b (of x)) now) (λ b. count_by (λ x. is_at b (of x)) (now ++ s ∷ [])) are
      (λ inside.
      let more = count_more (λ x. is_at a (of x)) now s in
      let one : one_if (is_at a (of s)) ≡ 1 = ap one_if is_here in
      omega (arith, are a inside, more, one))
      (λ b other.
      let more = count_more (λ x. is_at b (of x)) now s in
      let none : one_if (is_at b (of s)) ≡ 0 = ap one_if (is_elsewhere b other) in
      omega (arith, more, none))

  -- as many as the statement's stand there
  pub some_there : a < length counts → times_set s now ≤ slice_index_or counts a 0
  some_there inside =
      let rest = count_without (λ x. is_at a (of x)) s now in
      let all : (if is_at a (of s) then times_set s now else 0) ≡ times_set s now = ap (λ b. if b then times_set s now else 0) is_here in
      omega (arith, are a inside, rest, all)

  pub counts_cleared : (k : ℕ) → k ≡ times_set s now → (b : ℕ) → b < length (slice_set counts a (slice_index_or counts a 0 - k))
      → slice_index_or (slice_set counts a (slice_index_or counts a 0 - k)) b 0 ≡ count_by (λ x. is_at b (of x)) (filter (λ b. not (b == s)) now)
  counts_cleared k is =
      one_changed counts a (slice_index_or counts a 0 - k) (λ b. count_by (λ x. is_at b (of x)) now) (λ b. count_by (λ x. is_at b (of x)) (filter (λ b. not (b == s)) now)) are
      (λ inside.
      let rest = count_without (λ x. is_at a (of x)) s now in
      let all : (if is_at a (of s) then times_set s now else 0) ≡ times_set s now = ap (λ b. if b then times_set s now else 0) is_here in
      omega (arith, are a inside, rest, all, is))
      (λ b other.
      let rest = count_without (λ x. is_at b (of x)) s now in
      let none : (if is_at b (of s) then times_set s now else 0) ≡ 0 = ap (λ b. if b then times_set s now else 0) (is_elsewhere b other) in
      omega (arith, rest, none))

-- THE TABLES OF A SESSION

-- the number of an instruction is one of the statements'
pub within : (placed : List PlacedText) (s a : ℕ) → statement_address placed s ≡ Some a → s ≤ length placed
unfolding statement_address
within [] s a is = cc
within (p ∷ ps) zero a is = omega arith
within (p ∷ ps) (suc zero) a is = omega arith
within (p ∷ ps) (suc (suc n)) a is = let rest = within ps (suc n) a is in omega (arith, rest)

abbrev AreTimes : List ℕ → List ℕ → Type 0
AreTimes times now = (t : ℕ) → t < length times → slice_index_or times t 0 ≡ times_set t now

abbrev AreCounts : List PlacedText → List ℕ → List ℕ → Type 0
AreCounts placed counts now = (b : ℕ) → b < length counts → slice_index_or counts b 0 ≡ count_at placed b now

both_same : (P : List ℕ → List ℕ → Type 0) (xs ys us vs : List ℕ) → xs ≡ ys → us ≡ vs → P ys vs → P xs us
both_same P xs ys us vs one two holds = subst (λ (zs : List ℕ). P zs us) (sym one) (subst (P ys) (sym two) holds)

module _ (placed : List PlacedText) (old new : Breaks) (s a : ℕ) (tables : HasTables placed old) (there : statement_address placed s ≡ Some a) where
  pub inside_since : s < length old.since.items
  inside_since = let w = within placed s a there in omega (arith, w, tables.since_reach)

  pub inside_times : s < length old.times.items
  inside_times = let w = within placed s a there in omega (arith, w, tables.times_reach)

  pub count_is : slice_index_or old.times.items s 0 ≡ times_set s (set_now old)
  count_is = tables.times s inside_times

  -- how many there are of each is no more than the log has
  pub times_few : slice_index_or old.times.items s 0 ≤ length old.log.items
  times_few =
      let most = count_by-le-length (λ b. b == s) (set_now old) in
      let few = set_few (since_of old.since.items) 0 old.log.items in
      omega (arith, count_is, most, few)

  pub counts_few : slice_index_or old.counts.items a 0 ≤ length old.log.items
  counts_few = elim (cases_lt a (length old.counts.items)) [
    | inl inside ↦
        let most = count_by-le-length (λ b. is_at a (statement_address placed b)) (set_now old) in
        let few = set_few (since_of old.since.items) 0 old.log.items in
        let is = tables.counts a inside in
        omega (arith, is, most, few)
    | inr past ↦ let none = get_or_past old.counts.items a 0 past in omega (arith, none)
  ]

  -- a number that was read of the table
  pub read_times : (k : ℕ) → k ≡ slice_index_or old.times.items s k → k ≡ slice_index_or old.times.items s 0
  read_times k is = is ∙ get_or_default old.times.items s k 0 inside_times

  pub counts_enough : (k : ℕ) → k ≡ slice_index_or old.times.items s k → a < length old.counts.items → k ≤ slice_index_or old.counts.items a 0
  counts_enough k is inside =
      let read = read_times k is in
      let enough = some_there (statement_address placed) (set_now old) old.counts.items tables.counts s a there inside in
      omega (arith, read, enough, count_is)

  -- set once more
  module _ (log : new.log.items ≡ old.log.items ++ s ∷ []) (since : new.since.items ≡ old.since.items) where
    pub set_on : set_now new ≡ with_break s (set_now old)
    set_on =
        ap (λ (xs : List ℕ). set_from (since_of xs) 0 new.log.items) since ∙ ap (λ (xs : List ℕ). set_from (since_of old.since.items) 0 xs) log
        ∙ set_more (since_of old.since.items) old.log.items s (tables.logged s)

    pub tables_set : new.times.items ≡ slice_set old.times.items s (slice_index_or old.times.items s 0 + 1) → new.counts.items ≡ slice_set old.counts.items a (slice_index_or old.counts.items a 0 + 1)
        → new.numbers.items ≡ old.numbers.items → HasTables placed new
    tables_set times counts numbers = record {
      since_reach = subst (λ (xs : List ℕ). length placed < length xs) (sym since) tables.since_reach;
      times_reach =
          let long = length-set old.times.items s (slice_index_or old.times.items s 0 + 1) in
          let same = ap length times in
          omega (arith, tables.times_reach, same, long);
      logged = λ t.
          let same : since_of new.since.items t ≡ since_of old.since.items t = ap (λ (xs : List ℕ). since_of xs t) since in
          let long : length new.log.items ≡ length old.log.items + 1 = ap length log ∙ length_push old.log.items s in
          let before = tables.logged t in
          omega (arith, same, long, before);
      times = both_same AreTimes new.times.items _ (set_now new) _ times set_on (times_more (set_now old) old.times.items tables.times s);
      counts = both_same (AreCounts placed) new.counts.items _ (set_now new) _ counts set_on (counts_more (statement_address placed) (set_now old) old.counts.items tables.counts s a there);
      numbers = subst (AreNumbersByAddress placed) (sym numbers) tables.numbers;
    }

  -- and cleared
  module _ (log : new.log.items ≡ old.log.items) (since : new.since.items ≡ slice_set old.since.items s (length old.log.items)) where
    others_since : (t : ℕ) → (t ≡ s → ⊥) → since_of (slice_set old.since.items s (length old.log.items)) t ≡ since_of old.since.items t
    others_since t other = get_or-set_other old.since.items s t (length old.log.items) 0 other

    own_since : since_of (slice_set old.since.items s (length old.log.items)) s ≡ length old.log.items
    own_since = get_or-set_same old.since.items s (length old.log.items) 0 inside_since

    pub cleared_on : set_now new ≡ without_break s (set_now old)
    cleared_on =
        ap (λ (xs : List ℕ). set_from (since_of xs) 0 new.log.items) since ∙ ap (λ (xs : List ℕ). set_from (since_of (slice_set old.since.items s (length old.log.items))) 0 xs) log
        ∙ set_without (since_of old.since.items) (since_of (slice_set old.since.items s (length old.log.items))) s 0 old.log.items others_since (omega (arith, own_since))

    logged_on : (t : ℕ) → since_of (slice_set old.since.items s (length old.log.items)) t ≤ length old.log.items
    logged_on t = elim (cases_eq t s) [
      | inl same ↦ let is : since_of (slice_set old.since.items s (length old.log.items)) t ≡ length old.log.items = ap (since_of (slice_set old.since.items s (length old.log.items))) same ∙ own_since in omega (arith, is)
      | inr other ↦ let is = others_since t other in let before = tables.logged t in omega (arith, is, before)
    ]

    pub tables_cleared : new.times.items ≡ slice_set old.times.items s 0 → new.counts.items ≡ slice_set old.counts.items a (slice_index_or old.counts.items a 0 - slice_index_or old.times.items s 0)
        → new.numbers.items ≡ old.numbers.items → HasTables placed new
    tables_cleared times counts numbers = record {
      since_reach =
          let long = length-set old.since.items s (length old.log.items) in
          let same = ap length since in
          omega (arith, tables.since_reach, same, long);
      times_reach =
          let long = length-set old.times.items s 0 in
          let same = ap length times in
          omega (arith, tables.times_reach, same, long);
      logged = λ t.
          let same : since_of new.since.items t ≡ since_of (slice_set old.since.items s (length old.log.items)) t = ap (λ (xs : List ℕ). since_of xs t) since in
          let long : length new.log.items ≡ length old.log.items = ap length log in
          let before = logged_on t in
          omega (arith, same, long, before);
      times = both_same AreTimes new.times.items _ (set_now new) _ times cleared_on (times_cleared (set_now old) old.times.items tables.times s);
      counts = both_same (AreCounts placed) new.counts.items _ (set_now new) _ counts cleared_on (counts_cleared (statement_address placed) (set_now old) old.counts.items tables.counts s a there (slice_index_or old.times.items s 0) count_is);
      numbers = subst (AreNumbersByAddress placed) (sym numbers) tables.numbers;
    }

-- none is set
pub tables_empty : (placed : List PlacedText) (new : Breaks) (n k j : ℕ) → new.log.items ≡ [] → new.since.items ≡ replicate n 0 → new.times.items ≡ replicate k 0 → new.counts.items ≡ replicate j 0
    → AreNumbersByAddress placed new.numbers.items → length placed < length new.since.items → length placed < length new.times.items → HasTables placed new
unfolding set_from
tables_empty placed new n k j log since times counts numbers since_reach times_reach =
    let none : set_now new ≡ [] = ap (λ (xs : List ℕ). set_from (since_of new.since.items) 0 xs) log in
    record {
      since_reach = since_reach;
      times_reach = times_reach;
      logged = λ t. let is : since_of new.since.items t ≡ 0 = ap (λ (xs : List ℕ). since_of xs t) since ∙ zeros n t in omega (arith, is);
      times = λ t inside. ap (λ (xs : List ℕ). slice_index_or xs t 0) times ∙ zeros k t ∙ sym (ap (times_set t) none);
      counts = λ b inside. ap (λ (xs : List ℕ). slice_index_or xs b 0) counts ∙ zeros j b ∙ sym (ap (count_at placed b) none);
      numbers = numbers;
    }

-- a breakpoint is set at an address that is counted
pub told_at : (placed : List PlacedText) (breaks : Breaks) (a n : ℕ) → HasTables placed breaks → a < length breaks.counts.items → n ≡ slice_index_or breaks.counts.items a n → nat_lt 0 n ≡ has_break placed (set_now breaks) a
told_at placed breaks a n tables inside is =
    let there : n ≡ count_at placed a (set_now breaks) = is ∙ get_or_default breaks.counts.items a n 0 inside ∙ tables.counts a inside in
    ap (nat_lt 0) there ∙ count_any (λ b. is_at a (statement_address placed b)) (set_now breaks)

-- an entry that counts, whose statement is at the address
pub any_from : (f : ℕ → ℕ) (p : ℕ → Bool) (j : ℕ) (xs : List ℕ) (i x : ℕ) → i < length xs → x ≡ slice_index_or xs i x → is_set f (j + i) x ≡ true → p x ≡ true → list_any p (set_from f j xs) ≡ true
unfolding set_from
any_from f p j [] i x inside is set here = absurd (omega (arith, inside))
any_from f p j (y ∷ ys) zero x inside is set here =
    let none : j + 0 ≡ j = omega arith in
    let set_here : is_set f j y ≡ true = ap (is_set f j) (sym is) ∙ ap (λ k. is_set f k x) (sym none) ∙ set in
    let p_here : p y ≡ true = ap p (sym is) ∙ here in
    rw set_here (ap (λ b. b || list_any p (set_from f (suc j) ys)) p_here)
any_from f p j (y ∷ ys) (suc i) x inside is set here =
    let next : suc j + i ≡ j + suc i = omega arith in
    let rest = any_from f p (suc j) ys i x (omega (arith, inside)) is (ap (λ k. is_set f k x) next ∙ set) here in
    any_behind p (is_set f j y) y (set_from f (suc j) ys) rest
  where
    any_behind : (p : ℕ → Bool) (b : Bool) (y : ℕ) (zs : List ℕ) → list_any p zs ≡ true → list_any p (if b then y ∷ zs else zs) ≡ true
    any_behind p true y zs rest = ap (λ b. p y || b) rest ∙ or_true (p y)
      where
        or_true : (b : Bool) → (b || true) ≡ true
        or_true true = refl
        or_true false = refl
    any_behind p false y zs rest = rest

-- one that is not there adds nothing
pub none_more : (p : ℕ → Bool) (xs : List ℕ) (x : ℕ) → list_any p xs ≡ false → p x ≡ false → list_any p (xs ++ x ∷ []) ≡ false
none_more p xs x none here = list_any-append p xs (x ∷ []) ∙ ap (λ b. b || (p x || false)) none ∙ ap (λ b. b || false) here
