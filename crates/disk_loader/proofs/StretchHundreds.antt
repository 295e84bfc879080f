-- The stretches of an image: which hundreds they have.
use Rattle.std.proofs.Common.{sym, ℕ, zero, suc, ◌≡◌, ◌+◌, ◌<◌, ◌≤◌, ◌==◌, ◌&&◌, nat_le, nat_lt, inl, inr, Bool, true, false, List, [], ◌∷◌, refl, arith, ap, ◌∙◌}
use Rattle.std.proofs.lemmas.Bool.{cases_eq}
use Rattle.std.proofs.lemmas.Bool.Decides.{nat_tests}
use Rattle.std.specs.Prelude.{if◌then◌else◌, ◌||◌}
use Rattle.disk_1311.specs.Disk.{cylinder_of}
use Rattle.sps_pass_two.specs.Image.{DigitRun}
use Rattle.disk_loader.specs.Hundreds.{is_needed}
use Rattle.disk_loader.specs.declared.deck.Stretch.{Stretch}
use Rattle.disk_loader.specs.Cover.{IsStretch, AreStretches, in_stretch, in_any, ArePart, AllPart, CoversNeeded}
use Rattle.disk_loader.specs.Stretches.{one_hundred, joins, onto_stretch, stretches_from}

module _ (image : List DigitRun) where
  lower : (first past : ℕ) (ss : List Stretch) → AreStretches image (first + 1) past ss → AreStretches image first past ss
  lower first past [] are = tt
  lower first past (s ∷ ss) are = (
    record { some = are.0.some; low = let l : first + 1 ≤ s.from = are.0.low in omega arith; high = are.0.high; needed = are.0.needed; level = are.0.level },
    lower first past ss are.1,
  )

  one_is : (h past : ℕ) → h < past → is_needed image h ≡ true → IsStretch image h past (one_hundred h)
  one_is h past below need = record {
    some = omega arith;
    low = omega arith;
    high = omega arith;
    needed = λ j l. let e : h + j ≡ h = omega arith in rw e need;
    level = λ j l. let e : h + j ≡ h = omega arith in rw e refl;
  }

  longer_needed : (h : ℕ) (s : Stretch) → s.from ≡ h + 1 → is_needed image h ≡ true → ((j : ℕ) → j < s.count → is_needed image (s.from + j) ≡ true) → (j : ℕ) → j < suc s.count → is_needed image (h + j) ≡ true
  longer_needed h s next need all zero l = let e : h + 0 ≡ h = omega arith in rw e need
  longer_needed h s next need all (suc j) l = let e : s.from + j ≡ h + suc j = omega arith in rw e at (all j (omega arith))

  longer_level : (h : ℕ) (s : Stretch) → s.from ≡ h + 1 → cylinder_of s.from ≡ cylinder_of h → ((j : ℕ) → j < s.count → cylinder_of (s.from + j) ≡ cylinder_of s.from) → (j : ℕ) → j < suc s.count → cylinder_of (h + j) ≡ cylinder_of h
  longer_level h s next same all zero l = let e : h + 0 ≡ h = omega arith in rw e refl
  longer_level h s next same all (suc j) l = let e : s.from + j ≡ h + suc j = omega arith in rw e at (all j (omega arith)) ∙ same

  onto_joined : (h past : ℕ) (s : Stretch) (ss : List Stretch) (b : Bool) → joins h s ≡ b → h < past → is_needed image h ≡ true → AreStretches image (h + 1) past (s ∷ ss) →
      AreStretches image h past (if b then record { from = h; count = suc s.count } ∷ ss else one_hundred h ∷ s ∷ ss)
  onto_joined h past s ss true is below need are =
      let next : s.from ≡ h + 1 = grind (arith, nat_tests) in
      let same : cylinder_of s.from ≡ cylinder_of h = grind (arith, nat_tests) in
      let high : s.from + s.count ≤ past = are.0.high in (
        record {
          some = omega arith;
          low = omega arith;
          high = omega arith;
          needed = longer_needed h s next need are.0.needed;
          level = longer_level h s next same are.0.level;
        },
        lower h past ss are.1,
      )
  onto_joined h past s ss false is below need are = (one_is h past below need, lower h past (s ∷ ss) are)

  onto_are : (h past : ℕ) (ss : List Stretch) → h < past → is_needed image h ≡ true → AreStretches image (h + 1) past ss → AreStretches image h past (onto_stretch h ss)
  onto_are h past [] below need are = (one_is h past below need, tt)
  onto_are h past (s ∷ ss) below need are = onto_joined h past s ss (joins h s) refl below need are

  chosen : (b : Bool) (h past : ℕ) (ss : List Stretch) → is_needed image h ≡ b → h < past → AreStretches image (h + 1) past ss → AreStretches image h past (if b then onto_stretch h ss else ss)
  chosen true h past ss need below are = onto_are h past ss below need are
  chosen false h past ss need below are = lower h past ss are

  pub stretches_are : (n h past : ℕ) → h + n ≤ past → AreStretches image h past (stretches_from image h n)
  unfolding stretches_from
  stretches_are zero h past l = tt
  stretches_are (suc n) h past l = chosen (is_needed image h) h past (stretches_from image (h + 1) n) refl (omega arith) (stretches_are n (h + 1) past (omega arith))

  -- a hundred goes in front
  in_longer : (h k : ℕ) (s : Stretch) (rest : Bool) → s.from ≡ h + 1 → (in_stretch (record { from = h; count = suc s.count }) k || rest) ≡ ((k == h) || (in_stretch s k || rest))
  in_longer h k s rest next = grind (arith, nat_tests)

  in_one : (h k : ℕ) → in_stretch (one_hundred h) k ≡ (k == h)
  in_one h k = grind (arith, nat_tests)

  in_chosen : (b : Bool) (h k : ℕ) (s : Stretch) (ss : List Stretch) → joins h s ≡ b → in_any (if b then record { from = h; count = suc s.count } ∷ ss else one_hundred h ∷ s ∷ ss) k ≡ ((k == h) || in_any (s ∷ ss) k)
  in_chosen true h k s ss is = in_longer h k s (in_any ss k) (grind (arith, nat_tests))
  in_chosen false h k s ss is = rw (in_one h k) refl

  or_none : (b : Bool) → (b || false) ≡ b
  or_none true = refl
  or_none false = refl

  in_onto : (h k : ℕ) (ss : List Stretch) → in_any (onto_stretch h ss) k ≡ ((k == h) || in_any ss k)
  in_onto h k [] = rw (in_one h k) refl
  in_onto h k (s ∷ ss) = in_chosen (joins h s) h k s ss refl

  -- the hundreds that the stretches have
  abbrev pub within : ℕ → ℕ → ℕ → Bool
  within h n k = nat_le h k && nat_lt k (h + n)

  both : (b c : Bool) → c ≡ true → (b && c) ≡ b
  both true c e = e
  both false c e = refl

  in_next : (h n k : ℕ) (rest : Bool) → is_needed image h ≡ true → ((k == h) || ((within (h + 1) n k && is_needed image k))) ≡ (within h (suc n) k && is_needed image k)
  in_next h n k rest need =
      elim (cases_eq k h) [
        | inl e ↦
            let t : (k == h) ≡ true = grind (arith, nat_tests) in
            let w : within h (suc n) k ≡ true = grind (arith, nat_tests) in
            let g : is_needed image k ≡ true = rw e need in
            rw (t, w, g) refl
        | inr ne ↦
            let t : (k == h) ≡ false = grind (arith, nat_tests) in
            let w : within (h + 1) n k ≡ within h (suc n) k = grind (arith, nat_tests) in
            rw (t, w) refl
      ]

  out_next : (h n k : ℕ) → is_needed image h ≡ false → (within (h + 1) n k && is_needed image k) ≡ (within h (suc n) k && is_needed image k)
  out_next h n k need =
      elim (cases_eq k h) [
        | inl e ↦
            let w : within (h + 1) n k ≡ false = grind (arith, nat_tests) in
            let v : within h (suc n) k ≡ true = grind (arith, nat_tests) in
            let g : is_needed image k ≡ false = rw e need in
            rw (w, v, g) refl
        | inr ne ↦
            let w : within (h + 1) n k ≡ within h (suc n) k = grind (arith, nat_tests) in
            rw w refl
      ]

  in_either : (b : Bool) (h n k : ℕ) (ss : List Stretch) → is_needed image h ≡ b → in_any ss k ≡ (within (h + 1) n k && is_needed image k) → in_any (if b then onto_stretch h ss else ss) k ≡ (within h (suc n) k && is_needed image k)
  in_either true h n k ss need is = in_onto h k ss ∙ ap (λ (b : Bool). (k == h) || b) is ∙ in_next h n k true need
  in_either false h n k ss need is = is ∙ out_next h n k need

  none_within : (h k : ℕ) → false ≡ (within h 0 k && is_needed image k)
  none_within h k = let w : within h 0 k ≡ false = grind (arith, nat_tests) in rw w refl

  pub in_stretches : (n h k : ℕ) → in_any (stretches_from image h n) k ≡ (within h n k && is_needed image k)
  unfolding stretches_from
  in_stretches zero h k = none_within h k
  in_stretches (suc n) h k = in_either (is_needed image h) h n k (stretches_from image (h + 1) n) refl (in_stretches n (h + 1) k)

  -- EACH AS LONG AS IT CAN BE

  part_one : (h : ℕ) (t : Stretch) → h + 1 ≤ t.from → joins h t ≡ false → ArePart (one_hundred h) t
  part_one h t low apart =
      elim (cases_eq t.from (h + 1)) [
        | inl e ↦ inr (sym e, (λ same. (let a : joins h t ≡ true = grind (arith, nat_tests) in absurd (cc))))
        | inr ne ↦ inl (omega arith)
      ]

  part_joined : (b : Bool) (h past : ℕ) (t : Stretch) (ts : List Stretch) → joins h t ≡ b → AreStretches image (h + 1) past (t ∷ ts) → AllPart (t ∷ ts) →
      AllPart (if b then record { from = h; count = suc t.count } ∷ ts else one_hundred h ∷ t ∷ ts)
  part_joined true h past t [] is are part = tt
  part_joined true h past t (u ∷ us) is are part =
      let next : t.from ≡ h + 1 = grind (arith, nat_tests) in
      let same : cylinder_of t.from ≡ cylinder_of h = grind (arith, nat_tests) in (
        elim part.0 [
          | inl far ↦ inl (omega arith)
          | inr near ↦ inr ((let e = near.0 in omega arith), (λ c. near.1 (same ∙ c)))
        ],
        part.1,
      )
  part_joined false h past t ts is are part = (part_one h t are.0.low is, part)

  part_onto : (h past : ℕ) (ss : List Stretch) → AreStretches image (h + 1) past ss → AllPart ss → AllPart (onto_stretch h ss)
  part_onto h past [] are part = tt
  part_onto h past (t ∷ ts) are part = part_joined (joins h t) h past t ts refl are part

  part_chosen : (b : Bool) (h past : ℕ) (ss : List Stretch) → AreStretches image (h + 1) past ss → AllPart ss → AllPart (if b then onto_stretch h ss else ss)
  part_chosen true h past ss are part = part_onto h past ss are part
  part_chosen false h past ss are part = part

  pub stretches_part : (n h past : ℕ) → h + n ≤ past → AllPart (stretches_from image h n)
  unfolding stretches_from
  stretches_part zero h past l = tt
  stretches_part (suc n) h past l = part_chosen (is_needed image h) h past (stretches_from image (h + 1) n) (stretches_are n (h + 1) past (omega arith)) (stretches_part n (h + 1) past (omega arith))

  all_needed : (k : ℕ) → k < 600 → (nat_le 0 k && nat_lt k (0 + 600) && is_needed image k) ≡ is_needed image k
  all_needed k l = let t : (nat_le 0 k && nat_lt k (0 + 600)) ≡ true = grind (arith, nat_tests) in rw t refl

  pub covers : CoversNeeded image
  covers = record {
    are = stretches_are 600 0 600 (omega arith);
    part = stretches_part 600 0 600 (omega arith);
    all = λ k l. in_stretches 600 0 k ∙ all_needed k l;
  }
