-- The repair of a dense card: what it leaves on the card, and which digit it puts right.
use Rattle.std.proofs.Common.{ℕ, zero, suc, ◌≡◌, ◌≢◌, ◌+◌, ◌<◌, ◌≤◌, ◌⊎◌, inl, inr, Bool, true, false, List, [], ◌∷◌, length, refl, sym, ap, ◌∙◌, arith, subst}
use Rattle.std.proofs.lemmas.Bool.{cases_lt, cases_eq}
use Rattle.std.specs.Prelude.{if◌then◌else◌}
use Rattle.digit_core.specs.declared.Digit.{Digit}
use Rattle.digit_core.specs.Cell.{IsGood, unflagged_digit, with_flag}
use Rattle.card_columns.specs.Orders.{nth}
use Rattle.deck_punch.specs.Dense.{Repair, nowhere, first_flagged, repair_of}
use Rattle.loader_cards.proofs.DenseParts.{IsPart}

-- no digit has a flag, and none is put right
record Misses (ds : List Digit) (r : Repair) : Type 0 where
  at : r.at ≡ nowhere
  digit : r.digit ≡ unflagged_digit 0
  same : r.punched ≡ ds
  none : (i : ℕ) → i < length ds → (nth ds i).flag ≡ false

-- digit k is the first with a flag: it is put right, and is punched without it
record Hits (a : ℕ) (ds : List Digit) (r : Repair) (k : ℕ) : Type 0 where
  inside : k < length ds
  at : r.at ≡ a + k
  digit : r.digit ≡ nth ds k
  long : length r.punched ≡ length ds
  on : (nth ds k).flag ≡ true
  off : nth r.punched k ≡ with_flag false (nth ds k)
  before : (i : ℕ) → i < k → (nth ds i).flag ≡ false
  others : (i : ℕ) → i ≢ k → nth r.punched i ≡ nth ds i

FirstFlag : ℕ → List Digit → Repair → Type 0
FirstFlag a ds r = Misses ds r ⊎ ((k : ℕ) × Hits a ds r k)

-- one more digit in front
abbrev onto : ℕ → Digit → List Digit → Repair → Repair
onto a d ds behind = record { at = behind.at; digit = behind.digit; punched = d ∷ behind.punched }

none_more : (d : Digit) (ds : List Digit) → d.flag ≡ false → ((i : ℕ) → i < length ds → (nth ds i).flag ≡ false) → (i : ℕ) → i < length (d ∷ ds) → (nth (d ∷ ds) i).flag ≡ false
none_more d ds off more zero l = off
none_more d ds off more (suc i) l = more i (omega arith)

before_more : (d : Digit) (ds : List Digit) (k : ℕ) → d.flag ≡ false → ((i : ℕ) → i < k → (nth ds i).flag ≡ false) → (i : ℕ) → i < suc k → (nth (d ∷ ds) i).flag ≡ false
before_more d ds k off more zero l = off
before_more d ds k off more (suc i) l = more i (omega arith)

others_more : (d : Digit) (ds ps : List Digit) (k : ℕ) → ((i : ℕ) → i ≢ k → nth ps i ≡ nth ds i) → (i : ℕ) → i ≢ suc k → nth (d ∷ ps) i ≡ nth (d ∷ ds) i
others_more d ds ps k more zero ne = refl
others_more d ds ps k more (suc i) ne = more i (omega arith)

others_first : (d e : Digit) (ds : List Digit) (i : ℕ) → i ≢ 0 → nth (d ∷ ds) i ≡ nth (e ∷ ds) i
others_first d e ds zero ne = absurd (omega arith)
others_first d e ds (suc i) ne = refl

by_flag : (a : ℕ) (d : Digit) (ds : List Digit) (behind : Repair) (b : Bool) → d.flag ≡ b → FirstFlag (a + 1) ds behind →
    FirstFlag a (d ∷ ds) (if b then record { at = a; digit = d; punched = with_flag false d ∷ ds } else onto a d ds behind)
unfolding FirstFlag
by_flag a d ds behind true is f = inr (
  0,
  record {
    inside = omega arith;
    at = omega arith;
    digit = refl;
    long = refl;
    on = is;
    off = refl;
    before = λ i l. absurd (omega arith);
    others = λ i ne. others_first (with_flag false d) d ds i ne;
  },
)
by_flag a d ds behind false is f = elim f [
  | inl m ↦ inl (record { at = m.at; digit = m.digit; same = ap (λ (xs : List Digit). d ∷ xs) m.same; none = none_more d ds is m.none })
  | inr h ↦ inr (
    suc h.0,
    record {
      inside = let l : h.0 < length ds = h.1.inside in omega arith;
      at = let e : behind.at ≡ a + 1 + h.0 = h.1.at in omega arith;
      digit = h.1.digit;
      long = ap suc h.1.long;
      on = h.1.on;
      off = h.1.off;
      before = before_more d ds h.0 is h.1.before;
      others = others_more d ds behind.punched h.0 h.1.others;
    },
  )
]

first_flag : (a : ℕ) (ds : List Digit) → FirstFlag a ds (first_flagged a ds)
unfolding first_flagged FirstFlag
first_flag a [] = inl (record { at = refl; digit = refl; same = refl; none = λ i l. absurd (omega arith) })
first_flag a (d ∷ ds) = by_flag a d ds (first_flagged (a + 1) ds) d.flag refl (first_flag (a + 1) ds)

-- the repair of a digit at an address and those behind it: as they are punched, with a flag at the first, they have no flag inside, and
-- the repair digit is right, and so are all the others
pub record Repairs (low : ℕ) (d : Digit) (es : List Digit) (r : Repair) : Type 0 where
  pub long : length r.punched ≡ length es
  pub inner : (i : ℕ) → i + 1 < length es → (nth r.punched i).flag ≡ false
  pub good : (i : ℕ) → i < length es → IsGood (nth r.punched i)
  pub digit : IsGood r.digit
  pub place : ((r.at ≡ nowhere) × (r.digit ≡ unflagged_digit 0)) ⊎ ((low ≤ r.at) × (r.at < low + suc (length es)))
  pub right : (i : ℕ) → r.at ≡ low + i → r.digit ≡ nth (d ∷ es) i
  pub others : (i : ℕ) → low + i ≢ r.at → nth (with_flag true d ∷ r.punched) i ≡ nth (d ∷ es) i

top_is : (d : Digit) → d.flag ≡ true → with_flag true d ≡ d
top_is d on = λ i. record { flag = sym on i; value = d.value }

-- the first digit has no flag: it is put right itself
plain_first : (low : ℕ) (d : Digit) (es : List Digit) → d.flag ≡ false → IsPart d es → IsGood d → ((i : ℕ) → i < length es → IsGood (nth es i)) →
    Repairs low d es (record { at = low; digit = d; punched = es })
plain_first low d es off is first good = record {
  long = refl;
  inner = is.one off;
  good = good;
  digit = first;
  place = inr (omega arith, omega arith);
  right = λ i e. let z : i ≡ 0 = omega arith in ap (λ (j : ℕ). nth (d ∷ es) j) (sym z);
  others = λ i ne. others_first (with_flag true d) d es i (omega arith);
}

-- the first has one, and no other has
no_repair : (low : ℕ) (d : Digit) (es : List Digit) (r : Repair) → d.flag ≡ true → 400 ≤ low → ((i : ℕ) → i < length es → IsGood (nth es i)) → Misses es r → Repairs low d es r
no_repair low d es r on high good m = record {
  long = ap length m.same;
  inner = λ i l. ap (λ (xs : List Digit). (nth xs i).flag) m.same ∙ m.none i (omega arith);
  good = λ i l. subst (λ (xs : List Digit). IsGood (nth xs i)) (sym m.same) (good i l);
  digit = subst IsGood (sym m.digit) refl;
  place = inl (m.at, m.digit);
  right = λ i e. let at : r.at ≡ 110 = m.at in absurd (omega arith);
  others = λ i ne. ap (λ (x : Digit). nth (x ∷ r.punched) i) (top_is d on) ∙ ap (λ (xs : List Digit). nth (d ∷ xs) i) m.same;
}

-- the digits behind the first hit, before the last
inner_at : (d : Digit) (a : ℕ) (es : List Digit) (r : Repair) (k : ℕ) → IsPart d es → Hits a es r k → (i : ℕ) → i + 1 < length es → (nth r.punched i).flag ≡ false
inner_at d a es r k is h i l =
    elim (cases_eq i k) [
      | inl e ↦ ap (λ (j : ℕ). (nth r.punched j).flag) e ∙ ap (λ (x : Digit). x.flag) h.off
      | inr ne ↦ ap (λ (x : Digit). x.flag) (h.others i ne) ∙ elim (cases_lt i k) [
        | inl less ↦ h.before i less
        | inr more ↦ is.two k i (omega arith) l h.on
      ]
    ]

good_at : (a : ℕ) (es : List Digit) (r : Repair) (k : ℕ) → ((i : ℕ) → i < length es → IsGood (nth es i)) → Hits a es r k → (i : ℕ) → i < length es → IsGood (nth r.punched i)
good_at a es r k good h i l =
    elim (cases_eq i k) [
      | inl e ↦ subst (λ (j : ℕ). IsGood (nth r.punched j)) (sym e) (subst IsGood (sym h.off) (good k h.inside))
      | inr ne ↦ subst IsGood (sym (h.others i ne)) (good i l)
    ]

right_at : (low : ℕ) (d : Digit) (es : List Digit) (r : Repair) (k : ℕ) → Hits (low + 1) es r k → (i : ℕ) → r.at ≡ low + i → r.digit ≡ nth (d ∷ es) i
right_at low d es r k h zero e = let at : r.at ≡ low + 1 + k = h.at in absurd (omega arith)
right_at low d es r k h (suc i) e =
    let at : r.at ≡ low + 1 + k = h.at in
    let same : k ≡ i = omega arith in
    h.digit ∙ ap (λ (j : ℕ). nth es j) same

others_at : (low : ℕ) (d : Digit) (es : List Digit) (r : Repair) (k : ℕ) → d.flag ≡ true → Hits (low + 1) es r k → (i : ℕ) → low + i ≢ r.at → nth (with_flag true d ∷ r.punched) i ≡ nth (d ∷ es) i
others_at low d es r k on h zero ne = top_is d on
others_at low d es r k on h (suc i) ne = let at : r.at ≡ low + 1 + k = h.at in h.others i (omega arith)

-- the first has one, and digit k behind it too
one_repair : (low : ℕ) (d : Digit) (es : List Digit) (r : Repair) (k : ℕ) → d.flag ≡ true → IsPart d es → ((i : ℕ) → i < length es → IsGood (nth es i)) → Hits (low + 1) es r k → Repairs low d es r
one_repair low d es r k on is good h =
    let at : r.at ≡ low + 1 + k = h.at in
    let inside : k < length es = h.inside in
    record {
      long = h.long;
      inner = inner_at d (low + 1) es r k is h;
      good = good_at (low + 1) es r k good h;
      digit = subst IsGood (sym h.digit) (good k h.inside);
      place = inr (omega arith, omega arith);
      right = right_at low d es r k h;
      others = others_at low d es r k on h;
    }

flagged_first : (low : ℕ) (d : Digit) (es : List Digit) (r : Repair) → d.flag ≡ true → 400 ≤ low → IsPart d es → ((i : ℕ) → i < length es → IsGood (nth es i)) → FirstFlag (low + 1) es r → Repairs low d es r
unfolding FirstFlag
flagged_first low d es r on high is good f = elim f [
  | inl m ↦ no_repair low d es r on high good m
  | inr h ↦ one_repair low d es r h.0 on is good h.1
]

repairs_by : (low : ℕ) (d : Digit) (es : List Digit) (b : Bool) → d.flag ≡ b → 400 ≤ low → IsPart d es → IsGood d → ((i : ℕ) → i < length es → IsGood (nth es i)) →
    Repairs low d es (if b then first_flagged (low + 1) es else record { at = low; digit = d; punched = es })
repairs_by low d es true is high part first good = flagged_first low d es (first_flagged (low + 1) es) is high part good (first_flag (low + 1) es)
repairs_by low d es false is high part first good = plain_first low d es is part first good

-- the repair of a dense segment
pub repairs : (low : ℕ) (d : Digit) (es : List Digit) → 400 ≤ low → IsPart d es → IsGood d → ((i : ℕ) → i < length es → IsGood (nth es i)) → Repairs low d es (repair_of low d es)
repairs low d es high is first good = repairs_by low d es d.flag refl high is first good
