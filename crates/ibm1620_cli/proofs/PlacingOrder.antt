-- The order of a placing: which world there is after a first part of it.
use Rattle.std.proofs.Common.{◌≡◌, ℕ, List, [], ◌∷◌, ◌++◌, map, refl, ◌∙◌, ap, subst, inl, inr}
use Rattle.std.specs.Prelude.{◌⊎◌, Option}
use Rattle.outside_io.specs.declared.host.Unit as unit
use Rattle.outside_io.specs.declared.host.Unit.TheVariants as units
use Rattle.outside_io.specs.World.{World, world_after_put}
use Rattle.disk_loader.specs.Writes.{SectorText, world_after}
use Rattle.outside_io.specs.Events.{Event, WriteByte, WriteSector, after_events, text_events, IsFirstPart, SameOutside, DidPart}
use Rattle.ibm1620_cli.specs.DiskJob.{DiskPlacing, sector_events, placing_events, with_boot, with_boot_image, with_placed, AreTextsWhole, IsInOrder}
use Rattle.outside_io.proofs.EventLemmas.{after_append, after_text}
use Rattle.ibm1620_cli.proofs.Placings.{after_sectors}

-- a first part of two lists lies within the first of them, or goes on into the second
record GoesInto (done a b : List Event) : Type 0 where
  rest : List Event
  is : done ≡ a ++ rest
  part : IsFirstPart rest b

within : (done a b : List Event) → IsFirstPart done (a ++ b) → IsFirstPart done a ⊎ GoesInto done a b
within done [] b part = inr (record { rest = done; is = refl; part = part })
within [] (x ∷ a) b part = inl (x ∷ a, refl)
within (d ∷ done) (x ∷ a) b part =
    let both : d ∷ (done ++ part.0) ≡ x ∷ (a ++ b) = part.1 in
    let head : d ≡ x = cc in
    let tail : done ++ part.0 ≡ a ++ b = cc in
    elim (within done a b (part.0, tail)) [
      | inl first ↦ inl (first.0, λ i. head i ∷ first.1 i)
      | inr on ↦ inr (record { rest = on.rest; is = λ i. head i ∷ on.is i; part = on.part })
    ]

-- a first part of things that are made one by one is made of the first of them
record IsMadeOf {A : Type 0} (f : A → Event) (done : List Event) : Type 0 where
  from : List A
  is : done ≡ map f from

first_made : {A : Type 0} (f : A → Event) (xs : List A) (done : List Event) → IsFirstPart done (map f xs) → IsMadeOf f done
first_made f xs [] part = record { from = []; is = refl }
first_made f [] (d ∷ done) part = let none : d ∷ (done ++ part.0) ≡ [] = part.1 in cc
first_made f (x ∷ xs) (d ∷ done) part =
    let both : d ∷ (done ++ part.0) ≡ f x ∷ map f xs = part.1 in
    let head : d ≡ f x = cc in
    let tail : done ++ part.0 ≡ map f xs = cc in
    let rest = first_made f xs done (part.0, tail) in
    record { from = x ∷ rest.from; is = λ i. head i ∷ rest.is i }

module _ (p : DiskPlacing) (old new : World) where
  abbrev deck : List Event
  deck = text_events units.Object p.deck

  abbrev image : List Event
  image = text_events units.Image p.image

  in_deck : (text : List ℕ) → SameOutside new (world_after_put units.Object text old) → IsInOrder p old new
  in_deck text same = record { sectors = inl same.sectors; report = inl (ap (λ (f : unit.Unit → Option (List ℕ)). f units.Report) same.written) }

  in_image : (text : List ℕ) → SameOutside new (world_after_put units.Image text (with_boot p old)) → IsInOrder p old new
  in_image text same = record { sectors = inl same.sectors; report = inl (ap (λ (f : unit.Unit → Option (List ℕ)). f units.Report) same.written) }

  in_sectors : (ss : List SectorText) → SameOutside new (world_after ss (with_boot_image p old)) → IsInOrder p old new
  in_sectors ss same = record {
    sectors = inr (record { deck = ap (λ (f : unit.Unit → Option (List ℕ)). f units.Object) same.written; image = ap (λ (f : unit.Unit → Option (List ℕ)). f units.Image) same.written });
    report = inl (ap (λ (f : unit.Unit → Option (List ℕ)). f units.Report) same.written);
  }

  in_report : (text : List ℕ) → SameOutside new (world_after_put units.Report text (with_placed p old)) → IsInOrder p old new
  in_report text same =
      let texts : AreTextsWhole p old new = record { deck = ap (λ (f : unit.Unit → Option (List ℕ)). f units.Object) same.written; image = ap (λ (f : unit.Unit → Option (List ℕ)). f units.Image) same.written } in
      record { sectors = inr texts; report = inr (record { texts = texts; sectors = same.sectors }) }

  -- the world after the deck, after the image, and after the sectors
  after_deck : (ds : List Event) → after_events old (deck ++ ds) ≡ after_events (with_boot p old) ds
  after_deck ds = after_append deck ds old ∙ ap (λ (w : World). after_events w ds) (after_text units.Object p.deck old)

  after_image : (ds : List Event) → after_events old (deck ++ (image ++ ds)) ≡ after_events (with_boot_image p old) ds
  after_image ds = after_deck (image ++ ds) ∙ after_append image ds (with_boot p old) ∙ ap (λ (w : World). after_events w ds) (after_text units.Image p.image (with_boot p old))

  pub after_placed : after_events old (placing_events p) ≡ with_placed p old
  after_placed = after_image (sector_events p.sectors) ∙ after_sectors p.sectors (with_boot_image p old)

  abbrev Same : World → Type 0
  Same w = SameOutside new w

  within_sectors : (ds : List Event) → IsFirstPart ds (sector_events p.sectors) → Same (after_events old (deck ++ (image ++ ds))) → IsInOrder p old new
  within_sectors ds part same =
      let m = first_made (λ (s : SectorText). WriteSector s.sector s.text) p.sectors ds part in
      in_sectors m.from (subst Same (ap (λ (es : List Event). after_events old (deck ++ (image ++ es))) m.is ∙ after_image (sector_events m.from) ∙ after_sectors m.from (with_boot_image p old)) same)

  within_image : (ds : List Event) → IsFirstPart ds image → Same (after_events old (deck ++ ds)) → IsInOrder p old new
  within_image ds part same =
      let m = first_made (WriteByte units.Image) p.image ds part in
      in_image m.from (subst Same (ap (λ (es : List Event). after_events old (deck ++ es)) m.is ∙ after_deck (text_events units.Image m.from) ∙ after_text units.Image m.from (with_boot p old)) same)

  within_deck : (ds : List Event) → IsFirstPart ds deck → Same (after_events old ds) → IsInOrder p old new
  within_deck ds part same =
      let m = first_made (WriteByte units.Object) p.deck ds part in
      in_deck m.from (subst Same (ap (after_events old) m.is ∙ after_text units.Object m.from old) same)

  within_report : (ds : List ℕ) → Same (after_events old (placing_events p ++ text_events units.Report ds)) → IsInOrder p old new
  within_report ds same =
      in_report ds (subst Same (after_append (placing_events p) (text_events units.Report ds) old ∙ ap (λ (w : World). after_events w (text_events units.Report ds)) after_placed ∙ after_text units.Report ds (with_placed p old)) same)

  behind_deck : (ds : List Event) → IsFirstPart ds (image ++ sector_events p.sectors) → Same (after_events old (deck ++ ds)) → IsInOrder p old new
  behind_deck ds part same = elim (within ds image (sector_events p.sectors) part) [
    | inl first ↦ within_image ds first same
    | inr on ↦ within_sectors on.rest on.part (subst (λ (es : List Event). Same (after_events old (deck ++ es))) on.is same)
  ]

  in_placing : (ds : List Event) → IsFirstPart ds (placing_events p) → Same (after_events old ds) → IsInOrder p old new
  in_placing ds part same = elim (within ds deck (image ++ sector_events p.sectors) part) [
    | inl first ↦ within_deck ds first same
    | inr on ↦ behind_deck on.rest on.part (subst (λ (es : List Event). Same (after_events old es)) on.is same)
  ]

pub placing_order : (p : DiskPlacing) (line : List ℕ) (old new : World) → DidPart (placing_events p ++ text_events units.Report line) old new → IsInOrder p old new
placing_order p line old new did = elim (within did.done (placing_events p) (text_events units.Report line) did.part) [
  | inl first ↦ in_placing p old new did.done first did.did
  | inr on ↦
      let m = first_made (WriteByte units.Report) line on.rest on.part in
      within_report p old new m.from (subst (λ (es : List Event). SameOutside new (after_events old es)) (on.is ∙ ap (λ (es : List Event). placing_events p ++ es) m.is) did.did)
]
