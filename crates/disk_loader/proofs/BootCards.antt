-- The code's walk over the hundreds, and its cards.
use Rattle.std.proofs.Common.{ℕ, zero, suc, ◌≡◌, ◌≢◌, ◌+◌, ◌-◌, ◌/◌, ◌<◌, ◌≤◌, ◌==◌, ◌&&◌, Bool, true, false, List, [], ◌∷◌, ◌++◌, length, length-append, map, get_or, refl, arith, sym, subst, ap, ◌∙◌, All}
use Rattle.std.proofs.lemmas.Bool.Decides.{nat_tests}
use Rattle.std.proofs.lemmas.List.{append-nil, length-map}
use Rattle.std.specs.Prelude.{if◌then◌else◌}
use Rattle.disk_1311.specs.Disk.{cylinder_of}
use Rattle.card_code.specs.declared.Card.{Card}
use Rattle.sps_pass_two.specs.Image.{DigitRun}
use Rattle.sps_pass_two.specs.Kept.{IsPiece, lowest_declared}
use Rattle.deck_punch.specs.Cards.{transfer_card}
use Rattle.deck_punch.specs.Deck.{self_loading_steps}
use Rattle.card_columns.specs.Types.{card_bytes}
use Rattle.disk_loader.specs.declared.deck.Stretch.{Stretch}
use Rattle.disk_loader.specs.Hundreds.{is_needed}
use Rattle.disk_loader.specs.Stretches.{one_hundred, joins, onto_stretch, stretches_from, stretches, extends_stretch}
use Rattle.disk_loader.specs.Bootstrap.{stretch_card, closed_cards, bootstrap}
use Rattle.disk_loader.specs.DiskLoads.{DiskLoads}
use Rattle.disk_loader.specs.Cover.{AreStretches}
use Rattle.disk_loader.proofs.StretchHundreds.{stretches_are}
use Rattle.disk_loader.proofs.Fits.{IsLowest}
use Rattle.disk_loader.proofs.DiskLoaded.{disk_loads}

-- a stretch goes in front of the others, or joins the first of them
abbrev in_front : Bool → Stretch → Stretch → List Stretch → List Stretch
in_front true s t ts = record { from = s.from; count = s.count + t.count } ∷ ts
in_front false s t ts = s ∷ t ∷ ts

abbrev follows : Stretch → Stretch → Bool
follows s t = (t.from == s.from + s.count) && (cylinder_of t.from == cylinder_of s.from)

abbrev before : Stretch → List Stretch → List Stretch
before s [] = s ∷ []
before s (t ∷ ts) = in_front (follows s t) s t ts

-- where it has a hundred
abbrev opened : ℕ → Stretch → List Stretch → List Stretch
opened zero s ss = ss
opened (suc n) s ss = before s ss

stretch : ℕ → ℕ → Stretch
stretch h n = record { from = h; count = n }

-- one hundred in front
before_joined : (b : Bool) (h : ℕ) (t : Stretch) (ts : List Stretch) → follows (one_hundred h) t ≡ b → in_front b (one_hundred h) t ts ≡ (if b then record { from = h; count = suc t.count } ∷ ts else one_hundred h ∷ t ∷ ts)
before_joined true h t ts is = let e : 1 + t.count ≡ suc t.count = omega arith in ap (λ (n : ℕ). record { from = h; count = n } ∷ ts) e
before_joined false h t ts is = refl

before_one : (h : ℕ) (ss : List Stretch) → before (one_hundred h) ss ≡ onto_stretch h ss
before_one h [] = refl
before_one h (t ∷ ts) = before_joined (joins h t) h t ts refl

module _ (s : Stretch) (h : ℕ) (ends : s.from + s.count ≡ h) where
  -- the hundred goes on the stretch
  abbrev longer : Stretch
  longer = record { from = s.from; count = s.count + 1 }

  module _ (same : cylinder_of s.from ≡ cylinder_of h) where
    longer_joined : (b : Bool) (t : Stretch) (ts : List Stretch) → joins h t ≡ b →
        before s (if b then record { from = h; count = suc t.count } ∷ ts else one_hundred h ∷ t ∷ ts) ≡ before longer (t ∷ ts)
    longer_joined true t ts is =
        let a : (h == s.from + s.count) ≡ true = grind (arith, nat_tests) in
        let b : (cylinder_of h == cylinder_of s.from) ≡ true = grind (arith, nat_tests) in
        let c : (t.from == s.from + (s.count + 1)) ≡ true = grind (arith, nat_tests) in
        let d : (cylinder_of t.from == cylinder_of s.from) ≡ true = grind (arith, nat_tests) in
        let e : s.count + suc t.count ≡ s.count + 1 + t.count = omega arith in
        rw (a, b, c, d, e) refl
    longer_joined false t ts is =
        let a : (h == s.from + s.count) ≡ true = grind (arith, nat_tests) in
        let b : (cylinder_of h == cylinder_of s.from) ≡ true = grind (arith, nat_tests) in
        let c : follows longer t ≡ false = grind (arith, nat_tests) in
        rw (a, b, c) refl

    before_longer : (ss : List Stretch) → before s (onto_stretch h ss) ≡ before longer ss
    before_longer [] =
        let a : (h == s.from + s.count) ≡ true = grind (arith, nat_tests) in
        let b : (cylinder_of h == cylinder_of s.from) ≡ true = grind (arith, nat_tests) in
        rw (a, b) refl
    before_longer (t ∷ ts) = longer_joined (joins h t) t ts refl

  -- it stands on another cylinder
  module _ (other : cylinder_of s.from ≢ cylinder_of h) where
    other_joined : (b : Bool) (t : Stretch) (ts : List Stretch) →
        before s (if b then record { from = h; count = suc t.count } ∷ ts else one_hundred h ∷ t ∷ ts) ≡ s ∷ (if b then record { from = h; count = suc t.count } ∷ ts else one_hundred h ∷ t ∷ ts)
    other_joined true t ts = let a : follows s (record { from = h; count = suc t.count }) ≡ false = grind (arith, nat_tests) in rw a refl
    other_joined false t ts = let a : follows s (one_hundred h) ≡ false = grind (arith, nat_tests) in rw a refl

    before_other : (ss : List Stretch) → before s (onto_stretch h ss) ≡ s ∷ onto_stretch h ss
    before_other [] = let a : follows s (one_hundred h) ≡ false = grind (arith, nat_tests) in rw a refl
    before_other (t ∷ ts) = other_joined (joins h t) t ts

  -- it is not needed
  before_later : (image : List DigitRun) (past : ℕ) (ss : List Stretch) → AreStretches image (h + 1) past ss → before s ss ≡ s ∷ ss
  before_later image past [] are = refl
  before_later image past (t ∷ ts) are =
      let low : h + 1 ≤ t.from = are.0.low in
      let a : follows s t ≡ false = grind (arith, nat_tests) in
      rw a refl

-- the open stretch ends before a hundred
pub record IsOpen (s : Stretch) (h : ℕ) : Type 0 where
  pub low : s.from < 600
  pub few : s.count ≤ 200
  pub ends : 1 ≤ s.count → s.from + s.count ≡ h
  pub level : 1 ≤ s.count → cylinder_of (h - 1) ≡ cylinder_of s.from

-- the cards so far, with those of the open stretch and of the hundreds that are left, are all
pub record Going (image : List DigitRun) (h : ℕ) (texts : List (List ℕ)) (open_one : Stretch) : Type 0 where
  pub all : texts ++ map stretch_card (opened open_one.count open_one (stretches_from image h (600 - h))) ≡ map stretch_card (stretches image)
  pub is : IsOpen open_one h

abbrev pub none_open : Stretch
none_open = record { from = 0; count = 0 }

pub going_first : (image : List DigitRun) → Going image 0 [] none_open
going_first image = record { all = refl; is = record { low = omega arith; few = omega arith; ends = λ some. absurd (omega arith); level = λ some. absurd (omega arith) } }

joined : (xs ys zs : List (List ℕ)) → (xs ++ ys) ++ zs ≡ xs ++ (ys ++ zs)
joined [] ys zs = refl
joined (x ∷ xs) ys zs = ap (λ (l : List (List ℕ)). x ∷ l) (joined xs ys zs)

-- the cards of an open stretch that no other joins
closed : (n : ℕ) (s : Stretch) (ss : List Stretch) → s.count ≡ n → (1 ≤ n → before s ss ≡ s ∷ ss) → map stretch_card (opened n s ss) ≡ closed_cards s ++ map stretch_card ss
closed zero s ss e alone = let t : (s.count == 0) ≡ true = grind (arith, nat_tests) in rw t refl
closed (suc n) s ss e alone = let t : (s.count == 0) ≡ false = grind (arith, nat_tests) in rw t (ap (map stretch_card) (alone (omega arith)))

module _ (image : List DigitRun) (h : ℕ) (texts : List (List ℕ)) (s : Stretch) (going : Going image h texts s) where
  closing : (ss : List Stretch) → stretches_from image h (600 - h) ≡ ss → (1 ≤ s.count → before s ss ≡ s ∷ ss) → (texts ++ closed_cards s) ++ map stretch_card ss ≡ map stretch_card (stretches image)
  closing ss is alone =
      joined texts (closed_cards s) (map stretch_card ss) ∙ ap (λ (l : List (List ℕ)). texts ++ l) (sym (closed s.count s ss refl alone))
      ∙ ap (λ (l : List Stretch). texts ++ map stretch_card (opened s.count s l)) (sym is) ∙ going.all

  module _ (more : h < 600) where
    abbrev later : List Stretch
    later = stretches_from image (h + 1) (600 - (h + 1))

    left : 600 - h ≡ suc (600 - (h + 1))
    left = omega arith

    from_needed : is_needed image h ≡ true → stretches_from image h (600 - h) ≡ onto_stretch h later
    unfolding stretches_from
    from_needed need = rw (left, need) refl

    from_not : is_needed image h ≡ false → stretches_from image h (600 - h) ≡ later
    unfolding stretches_from
    from_not need = rw (left, need) refl

    pub going_not : is_needed image h ≡ false → Going image (h + 1) (texts ++ closed_cards s) none_open
    going_not need = record {
      all = closing later (from_not need) (λ some. before_later s h (going.is.ends some) image 600 later (stretches_are image (600 - (h + 1)) (h + 1) 600 (omega arith)));
      is = record { low = omega arith; few = omega arith; ends = λ some. absurd (omega arith); level = λ some. absurd (omega arith) };
    }

    alone : extends_stretch s h ≡ false → (1 ≤ s.count → before s (onto_stretch h later) ≡ s ∷ onto_stretch h later)
    alone on some = before_other s h (going.is.ends some) (grind (arith, nat_tests)) later

    pub going_other : is_needed image h ≡ true → extends_stretch s h ≡ false → Going image (h + 1) (texts ++ closed_cards s) (one_hundred h)
    going_other need on = record {
      all = ap (λ (l : List Stretch). (texts ++ closed_cards s) ++ map stretch_card l) (before_one h later) ∙ closing (onto_stretch h later) (from_needed need) (alone on);
      is = record { low = omega arith; few = omega arith; ends = λ some. omega arith; level = λ some. let e : h + 1 - 1 ≡ h = omega arith in rw e refl };
    }

    opened_some : (n : ℕ) (t : Stretch) (ss : List Stretch) → 1 ≤ n → opened n t ss ≡ before t ss
    opened_some zero t ss some = absurd (omega arith)
    opened_some (suc n) t ss some = refl

    pub going_more : is_needed image h ≡ true → extends_stretch s h ≡ true → Going image (h + 1) texts (record { from = s.from; count = s.count + 1 })
    going_more need on =
        let some : 1 ≤ s.count = grind (arith, nat_tests) in
        let same : cylinder_of s.from ≡ cylinder_of h = grind (arith, nat_tests) in
        let end : s.from + s.count ≡ h = going.is.ends some in
        let level : s.from / 200 ≡ h / 200 = same in
        let back : h + 1 - 1 ≡ h = omega arith in
        record {
          all = ap (λ (l : List Stretch). texts ++ map stretch_card l)
              (opened_some (s.count + 1) (record { from = s.from; count = s.count + 1 }) later (omega arith) ∙ sym (before_longer s h end same later) ∙ sym (opened_some s.count s (onto_stretch h later) some))
              ∙ ap (λ (l : List Stretch). texts ++ map stretch_card (opened s.count s l)) (sym (from_needed need)) ∙ going.all;
          is = record { low = going.is.low; few = omega arith; ends = λ x. omega arith; level = λ x. rw back (sym same) };
        }

  pub going_end : 600 ≤ h → texts ++ closed_cards s ≡ map stretch_card (stretches image)
  unfolding stretches_from
  going_end end =
      let e : 600 - h ≡ 0 = omega arith in
      let none : stretches_from image h (600 - h) ≡ [] = rw e refl in
      sym (append-nil (texts ++ closed_cards s)) ∙ closing [] none (λ some. refl)

-- nothing is declared below the lowest address that a source may declare
lowest_all : (image : List DigitRun) → All (λ r. lowest_declared ≤ r.from) image → All IsLowest image
lowest_all image above k e l = let low : lowest_declared ≤ (get_or image k e).from = above k e l in omega arith

-- cards of the deck's texts load the image
pub deck_if_loads : (cards : List Card) (image : List DigitRun) (start : ℕ) → All IsPiece image → All (λ r. lowest_declared ≤ r.from) image → map card_bytes cards ≡ bootstrap image start → DiskLoads (map card_bytes cards) image start (self_loading_steps (length cards))
deck_if_loads cards image start each above is =
    let l : length (map card_bytes cards) ≡ length cards = length-map cards card_bytes in
    let n : length cards ≡ length (bootstrap image start) = sym l ∙ ap length is in
    subst (λ (n : ℕ). DiskLoads (map card_bytes cards) image start (self_loading_steps n)) (sym n)
    (subst (λ (texts : List (List ℕ)). DiskLoads texts image start (self_loading_steps (length (bootstrap image start)))) (sym is) (disk_loads image start each (lowest_all image above)))

-- how many cards there are at most

onto_few : (h : ℕ) (ss : List Stretch) → length (onto_stretch h ss) ≤ suc (length ss)
onto_few h [] = omega arith
onto_few h (t ∷ ts) = joined_few (joins h t)
  where
    joined_few : (b : Bool) → length (if b then record { from = h; count = suc t.count } ∷ ts else one_hundred h ∷ t ∷ ts) ≤ suc (suc (length ts))
    joined_few true = omega arith
    joined_few false = omega arith

either_few : (b : Bool) (h n : ℕ) (ss : List Stretch) → length ss ≤ n → length (if b then onto_stretch h ss else ss) ≤ suc n
either_few true h n ss few = let k = onto_few h ss in omega arith
either_few false h n ss few = omega arith

stretches_few : (image : List DigitRun) (n h : ℕ) → length (stretches_from image h n) ≤ n
unfolding stretches_from
stretches_few image zero h = omega arith
stretches_few image (suc n) h = either_few (is_needed image h) h n (stretches_from image (h + 1) n) (stretches_few image n (h + 1))

pub deck_most : (cards : List Card) (image : List DigitRun) (start : ℕ) → map card_bytes cards ≡ bootstrap image start → length cards ≤ 600 + 1
deck_most cards image start is =
    let l : length (map card_bytes cards) ≡ length cards = length-map cards card_bytes in
    let n : length (map card_bytes cards) ≡ length (bootstrap image start) = ap length is in
    let a = length-append (map stretch_card (stretches image)) (transfer_card start ∷ []) in
    let b : length (map stretch_card (stretches image)) ≡ length (stretches image) = length-map (stretches image) stretch_card in
    let few = stretches_few image 600 0 in
    omega arith
