-- The job disk: the source is read and assembled, its bootstrap deck and its image are written, and then its sectors; or the first broken
-- statement is reported.
use Rattle.std.specs.Prelude.{ℕ, ◌≡◌, ◌⊎◌, List, [], ◌++◌, length, map, Some, None, false}
use Rattle.outside_io.specs.declared.host.Unit.TheVariants as units
use Rattle.outside_io.specs.World.{World, Seen, world_after_put}
use Rattle.sps_pass_two.specs.declared.assembled.Assembled as assembled
use Rattle.sps_listing.specs.Texts.{image_text}
use Rattle.disk_loader.specs.Bootstrap.{bootstrap}
use Rattle.disk_loader.specs.Writes.{SectorText, image_sectors, world_after}
use Rattle.ibm1620_cli.specs.declared.status.Status.{Status}
use Rattle.ibm1620_cli.specs.declared.status.Status.TheVariants.{Placed}
use Rattle.ibm1620_cli.specs.declared.answer.Answer.{Answer}
use Rattle.ibm1620_cli.specs.Promise.{job_with_report, texts_alone, Promise, KeepsPromise, KeepsJob, nothing_done}
use Rattle.outside_io.specs.Events.{Event, WriteSector, text_events, DidPart}
use Rattle.deck_punch.specs.DeckText.{deck_text}
use Rattle.ibm1620_cli.specs.Source.{assembled_source, source_promise}

-- the bootstrap deck of a source that breaks no rule, and the sectors that it loads
abbrev pub boot_cards : ℕ → List ℕ → List (List ℕ)
boot_cards m source = bootstrap (assembled_source m source).pieces (assembled_source m source).start

abbrev pub sectors_of_source : ℕ → List ℕ → List SectorText
sectors_of_source m source = image_sectors (assembled_source m source).pieces

-- the status of a source that was placed
abbrev pub placing_status : ℕ → List ℕ → Status
placing_status m source = Placed (length (sectors_of_source m source)) (length (boot_cards m source))

-- the texts and sectors that are written one after another: the deck, the image, and the sectors
pub record DiskPlacing : Type 0 where
  pub deck : List ℕ
  pub image : List ℕ
  pub sectors : List SectorText

abbrev pub disk_placing : ℕ → List ℕ → DiskPlacing
disk_placing m source = record {
  deck = deck_text (boot_cards m source);
  image = image_text (assembled_source m source).pieces;
  sectors = sectors_of_source m source;
}

-- sectors are written, one after another
abbrev pub sector_events : List SectorText → List Event
sector_events sectors = map (λ s. WriteSector s.sector s.text) sectors

-- the events of a placing: the bytes of the deck, then the bytes of the image, and then the sectors, rising
abbrev pub placing_events : DiskPlacing → List Event
placing_events p = text_events units.Object p.deck ++ (text_events units.Image p.image ++ sector_events p.sectors)

-- the promise for a sound source: its placing is written, and then the report line; no memory is taken once a byte is written
abbrev pub placing_promise : ℕ → List ℕ → World → Promise
placing_promise m source w = record {
  job = Some (job_with_report (placing_status m source) (placing_events (disk_placing m source)));
  outline = None;
  made = texts_alone (Some []);
  usage = false;
}

-- THE PROMISE OF THE JOB, from the world in which its files are bound
abbrev pub disk_promise : ℕ → World → Promise
disk_promise m = source_promise m nothing_done (placing_promise m)

-- the world once the deck, the image and the sectors are written, one after another
abbrev pub with_boot : DiskPlacing → World → World
with_boot p w = world_after_put units.Object p.deck w

abbrev pub with_boot_image : DiskPlacing → World → World
with_boot_image p w = world_after_put units.Image p.image (with_boot p w)

abbrev pub with_placed : DiskPlacing → World → World
with_placed p w = world_after p.sectors (with_boot_image p w)

-- both texts are whole, and then also all sectors are written
pub record AreTextsWhole (p : DiskPlacing) (old new : World) : Type 0 where
  pub deck : new.written units.Object ≡ (with_boot_image p old).written units.Object
  pub image : new.written units.Image ≡ (with_boot_image p old).written units.Image

pub record IsAllPlaced (p : DiskPlacing) (old new : World) : Type 0 where
  pub texts : AreTextsWhole p old new
  pub sectors : new.sectors ≡ (with_placed p old).sectors

-- THE ORDER OF A PLACING: no sector is written before both texts are whole, and no byte is reported before all of it is written
pub record IsInOrder (p : DiskPlacing) (old new : World) : Type 0 where
  pub sectors : (new.sectors ≡ old.sectors) ⊎ AreTextsWhole p old new
  pub report : (new.written units.Report ≡ old.written units.Report) ⊎ IsAllPlaced p old new

-- each first part of a placing and its report line is in this order
abbrev pub PlacingLaw : Type 0
PlacingLaw = (p : DiskPlacing) (line : List ℕ) (old new : World)
    → DidPart (placing_events p ++ text_events units.Report line) old new → IsInOrder p old new

-- What the functions of this job answer.

-- the placing of an assembled source with this deck
abbrev pub placing_with : List ℕ → assembled.Assembled → DiskPlacing
placing_with deck a = record {
  deck = deck;
  image = image_text a.image.pieces;
  sectors = image_sectors a.image.pieces;
}

abbrev pub PlacingPromise : ℕ → List ℕ → Seen → Seen → Answer → Type 0
PlacingPromise m source old new answer = KeepsPromise (placing_promise m source old.world) old new answer

abbrev pub DiskPromise : ℕ → Seen → Seen → Answer → Type 0
DiskPromise m old new answer = KeepsJob (disk_promise m) old new answer
