-- The sectors of an image, once they are written, are those that its deck reads.
use Rattle.std.proofs.Common.{ℕ, zero, suc, ◌≡◌, ◌+◌, ◌*◌, ◌==◌, ◌<◌, ◌≤◌, inl, inr, Bool, true, false, List, ◌∷◌, length, refl, sym, ap, ◌∙◌, arith}
use Rattle.std.proofs.lemmas.List.{length-map, append-nil}
use Rattle.std.proofs.lemmas.List.FromFn.{length-map-range_with_len}
use Rattle.std.proofs.lemmas.Bool.{cases_eq}
use Rattle.std.proofs.lemmas.Bool.Decides.{nat_tests}
use Rattle.std.specs.Prelude.{if◌then◌else◌}
use Rattle.outside_io.specs.World.{with_sector, with_zeros}
use Rattle.card_code.specs.Characters.{object_char}
use Rattle.disk_1311.specs.Disk.{host_sector}
use Rattle.sps_pass_two.specs.Image.{DigitRun}
use Rattle.disk_loader.specs.Hundreds.{is_needed, hundred_text, digit_on_disk, loaded_digits}
use Rattle.disk_loader.specs.DiskLoads.{HasSectors}
use Rattle.disk_loader.specs.Writes.{SectorText, hundred_sector, needed_sectors, image_sectors, sectors_after}

-- a text of 100 characters is a whole sector
hundred_whole : (image : List DigitRun) (h : ℕ) → length (hundred_text image h) ≡ 100
hundred_whole image h = length-map (loaded_digits image (100 * h) 100) object_char ∙ length-map-range_with_len (digit_on_disk image) (100 * h) 100

whole_sector : (text : List ℕ) → length text ≡ 100 → with_zeros 100 text ≡ text
whole_sector text whole = rw whole (append-nil text)

-- a sector and those behind it, where its hundred is needed
abbrev some_from : Bool → List DigitRun → ℕ → ℕ → List SectorText
some_from need image h n = if need then hundred_sector image h ∷ needed_sectors image (h + 1) n else needed_sectors image (h + 1) n

abbrev with_hundred : List DigitRun → ℕ → (ℕ → List ℕ) → ℕ → List ℕ
with_hundred image h sectors = with_sector (host_sector 1 h) (hundred_text image h) sectors

-- the sector of another hundred stays
hundred_other : (image : List DigitRun) (h k : ℕ) (sectors : ℕ → List ℕ) → k < h → with_hundred image h sectors (host_sector 1 k) ≡ sectors (host_sector 1 k)
hundred_other image h k sectors below = let t : (host_sector 1 h == host_sector 1 k) ≡ false = grind (arith, nat_tests) in rw t refl

hundred_same : (image : List DigitRun) (h k : ℕ) (sectors : ℕ → List ℕ) → k ≡ h → with_hundred image h sectors (host_sector 1 k) ≡ hundred_text image k
hundred_same image h k sectors same = let t : (host_sector 1 h == host_sector 1 k) ≡ true = grind (arith, nat_tests) in rw t (ap (hundred_text image) (sym same))

-- the sectors of hundreds from one on leave those below it
others_stay : (n : ℕ) (image : List DigitRun) (h k : ℕ) (sectors : ℕ → List ℕ) → k < h → sectors_after (needed_sectors image h n) sectors (host_sector 1 k) ≡ sectors (host_sector 1 k)
unfolding needed_sectors
others_stay zero image h k sectors below = refl
others_stay (suc n) image h k sectors below =
    by_need (is_needed image h) (others_stay n image (h + 1) k (with_hundred image h sectors) (omega arith) ∙ hundred_other image h k sectors below) (others_stay n image (h + 1) k sectors (omega arith))
  where
    by_need : (b : Bool) → sectors_after (needed_sectors image (h + 1) n) (with_hundred image h sectors) (host_sector 1 k) ≡ sectors (host_sector 1 k)
        → sectors_after (needed_sectors image (h + 1) n) sectors (host_sector 1 k) ≡ sectors (host_sector 1 k) → sectors_after (some_from b image h n) sectors (host_sector 1 k) ≡ sectors (host_sector 1 k)
    by_need true written not = written
    by_need false written not = not

-- each needed hundred's is there
written_there : (n : ℕ) (image : List DigitRun) (h k : ℕ) (sectors : ℕ → List ℕ) → h ≤ k → k < h + n → is_needed image k ≡ true → sectors_after (needed_sectors image h n) sectors (host_sector 1 k) ≡ hundred_text image k
unfolding needed_sectors
written_there zero image h k sectors low high need = absurd (omega arith)
written_there (suc n) image h k sectors low high need =
    elim (cases_eq k h) [
      | inl same ↦
          let is : is_needed image h ≡ true = ap (is_needed image) (sym same) ∙ need in
          rw is (others_stay n image (h + 1) k (with_hundred image h sectors) (omega arith) ∙ hundred_same image h k sectors same)
      | inr other ↦ by_need (is_needed image h) (λ pack. written_there n image (h + 1) k pack (omega arith) (omega arith) need)
    ]
  where
    by_need : (b : Bool) → ((pack : ℕ → List ℕ) → sectors_after (needed_sectors image (h + 1) n) pack (host_sector 1 k) ≡ hundred_text image k) → sectors_after (some_from b image h n) sectors (host_sector 1 k) ≡ hundred_text image k
    by_need true on = on (with_hundred image h sectors)
    by_need false on = on sectors

-- whatever the pack had before
pub sectors_read : (image : List DigitRun) (sectors : ℕ → List ℕ) → HasSectors image (sectors_after (image_sectors image) sectors)
sectors_read image sectors k below need =
    ap (with_zeros 100) (written_there 600 image 0 k sectors (omega arith) (omega arith) need) ∙ whole_sector (hundred_text image k) (hundred_whole image k)
