-- The sectors that were written so far, and the world that they leave.
use Rattle.std.proofs.Common.{ℕ, suc, ◌≡◌, ◌+◌, ◌-◌, ◌<◌, ◌≤◌, true, false, List, [], ◌∷◌, ◌++◌, length, take, Option, Some, None, refl, arith, sym, ap, ◌∙◌, subst}
use Rattle.std.proofs.Math.Seq.{take-append_seam}
use Rattle.std.specs.Prelude.{option_map}
use Rattle.outside_io.specs.World.{Seen, Rose, Goes, Fails, with_sector, with_sector_written}
use Rattle.disk_1311.specs.Disk.{host_sector}
use Rattle.sps_pass_two.specs.Image.{DigitRun}
use Rattle.disk_loader.specs.Hundreds.{is_needed, hundred_text}
use Rattle.disk_loader.specs.Writes.{SectorText, hundred_sector, needed_sectors, image_sectors, sectors_after, world_after, WritesFirst}

sectors_on : (ws : List SectorText) (w : SectorText) (sectors : ℕ → List ℕ) → sectors_after (ws ++ w ∷ []) sectors ≡ with_sector w.sector w.text (sectors_after ws sectors)
sectors_on [] w sectors = refl
sectors_on (v ∷ ws) w sectors = sectors_on ws w (with_sector v.sector v.text sectors)

told_on : (ws : List SectorText) (w : SectorText) (o : Option (ℕ → List ℕ)) → option_map (sectors_after (ws ++ w ∷ [])) o ≡ option_map (with_sector w.sector w.text) (option_map (sectors_after ws) o)
told_on ws w (Some sectors) = ap (λ (s : ℕ → List ℕ). Some s) (sectors_on ws w sectors)
told_on ws w None = refl

told_none : (o : Option (ℕ → List ℕ)) → option_map (sectors_after []) o ≡ o
told_none (Some sectors) = refl
told_none None = refl

-- some were written, and the others are still to be
pub record SoFar (image : List DigitRun) (h : ℕ) (old new : Seen) : Type 0 where
  pub done : List SectorText
  pub all : done ++ needed_sectors image h (600 - h) ≡ image_sectors image
  pub goes : Goes old new (world_after done old.world)

pub so_far_first : (image : List DigitRun) (s : Seen) → SoFar image 0 s s
so_far_first image s = record {
  done = [];
  all = refl;
  goes = record { later = omega arith; world = λ i. record s.world { sectors = sym (told_none s.world.sectors) i } };
}

module _ (image : List DigitRun) (h : ℕ) (more : h < 600) where
  left : 600 - h ≡ suc (600 - (h + 1))
  left = omega arith

  left_needed : is_needed image h ≡ true → needed_sectors image h (600 - h) ≡ hundred_sector image h ∷ needed_sectors image (h + 1) (600 - (h + 1))
  unfolding needed_sectors
  left_needed need = rw (left, need) refl

  left_not : is_needed image h ≡ false → needed_sectors image h (600 - h) ≡ needed_sectors image (h + 1) (600 - (h + 1))
  unfolding needed_sectors
  left_not need = rw (left, need) refl

  joined : (xs : List SectorText) (x : SectorText) (ys : List SectorText) → (xs ++ x ∷ []) ++ ys ≡ xs ++ x ∷ ys
  joined [] x ys = refl
  joined (z ∷ xs) x ys = ap (λ (l : List SectorText). z ∷ l) (joined xs x ys)

  pub so_far_on : (old mid new : Seen) → is_needed image h ≡ true → SoFar image h old mid → Goes mid new (with_sector_written h (hundred_text image h) mid.world) → SoFar image (h + 1) old new
  so_far_on old mid new need so g =
      let at : host_sector 1 h ≡ h = omega arith in
      let before : old.faults ≤ mid.faults = so.goes.later in
      let after : mid.faults ≤ new.faults = g.later in
      record {
        done = so.done ++ hundred_sector image h ∷ [];
        all = joined so.done (hundred_sector image h) (needed_sectors image (h + 1) (600 - (h + 1))) ∙ ap (λ (l : List SectorText). so.done ++ l) (sym (left_needed need)) ∙ so.all;
        goes = record {
          later = omega arith;
          world = g.world ∙ ap (λ (n : ℕ). with_sector_written n (hundred_text image h) mid.world) (sym at) ∙ ap (with_sector_written (host_sector 1 h) (hundred_text image h)) so.goes.world ∙ (λ i. record old.world { sectors = sym (told_on so.done (hundred_sector image h) old.world.sectors) i });
        };
      }

  pub so_far_not : (old mid : Seen) → is_needed image h ≡ false → SoFar image h old mid → SoFar image (h + 1) old mid
  so_far_not old mid need so = record {
    done = so.done;
    all = ap (λ (l : List SectorText). so.done ++ l) (sym (left_not need)) ∙ so.all;
    goes = so.goes;
  }

nothing_left : (xs : List SectorText) → xs ≡ xs ++ []
nothing_left [] = refl
nothing_left (x ∷ xs) = ap (λ (l : List SectorText). x ∷ l) (nothing_left xs)

pub so_far_all : (image : List DigitRun) (h : ℕ) (old new : Seen) → 600 ≤ h → SoFar image h old new → Goes old new (world_after (image_sectors image) old.world)
unfolding needed_sectors
so_far_all image h old new end so =
    let e : 600 - h ≡ 0 = omega arith in
    let none : needed_sectors image h (600 - h) ≡ [] = rw e refl in
    let is : so.done ≡ image_sectors image = nothing_left so.done ∙ ap (λ (l : List SectorText). so.done ++ l) (sym none) ∙ so.all in
    subst (λ (ws : List SectorText). Goes old new (world_after ws old.world)) is so.goes

rose_on : (a b c : ℕ) → a ≤ b → Rose b c → Rose a c
rose_on a b c l r = omega arith

pub so_far_failed : (image : List DigitRun) (h : ℕ) (old mid new : Seen) → SoFar image h old mid → Fails mid new → WritesFirst (image_sectors image) old new
so_far_failed image h old mid new so f =
    let before : old.faults ≤ mid.faults = so.goes.later in
    let after : mid.faults ≤ new.faults = f.later in
    let first : take (length so.done) (image_sectors image) ≡ so.done = ap (take (length so.done)) (sym so.all) ∙ take-append_seam so.done (needed_sectors image h (600 - h)) in
    record {
      done = length so.done;
      goes = subst (λ (ws : List SectorText). Goes old new (world_after ws old.world)) (sym first) (record { later = omega arith; world = f.world ∙ so.goes.world });
      rose = rose_on old.faults mid.faults new.faults before f.rose;
    }

-- THE COUNT

pub counted_first : (image : List DigitRun) → 0 + length (needed_sectors image 0 (600 - 0)) ≡ length (image_sectors image)
counted_first image = omega arith

pub counted_needed : (image : List DigitRun) (h n all : ℕ) → h < 600 → is_needed image h ≡ true → n + length (needed_sectors image h (600 - h)) ≡ all → n + 1 + length (needed_sectors image (h + 1) (600 - (h + 1))) ≡ all
counted_needed image h n all more need is = let k = ap length (left_needed image h more need) in omega arith

pub counted_not : (image : List DigitRun) (h n all : ℕ) → h < 600 → is_needed image h ≡ false → n + length (needed_sectors image h (600 - h)) ≡ all → n + length (needed_sectors image (h + 1) (600 - (h + 1))) ≡ all
counted_not image h n all more need is = let k = ap length (left_not image h more need) in omega arith

pub counted_all : (image : List DigitRun) (h n all : ℕ) → 600 ≤ h → n + length (needed_sectors image h (600 - h)) ≡ all → n ≡ all
unfolding needed_sectors
counted_all image h n all end is =
    let e : 600 - h ≡ 0 = omega arith in
    let none : needed_sectors image h (600 - h) ≡ [] = rw e refl in
    let k = ap length none in
    omega arith
