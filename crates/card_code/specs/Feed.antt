-- A feed of entries, as a hopper or a keyboard: how an entry is taken from it, and how it is read into core.
use Rattle.std.specs.Prelude.{ℕ, ◌≡◌, List, Option, Some, None, option_map, Result, Ok, Err, ⊤}
use Rattle.indicators.specs.declared.Panel.{Panel}
use Rattle.outside_io.specs.World.{World, Seen, Rose}
use Rattle.outside_io.specs.Frame.{Tells, ToldValue}
use Rattle.addr_indirect.specs.declared.Stop.{Stop}
use Rattle.traces.specs.Trace.{Trace, does, ◌>>=◌, lift}
use Rattle.traces.specs.Change.{Change}
use Rattle.card_code.specs.Break.{Break, stop_as_break}
use Rattle.card_code.specs.Entries.{Entry, behind}
use Rattle.card_code.specs.TextIn.{Intake, TakesText, Changes, Desk, desk_after}

-- how entries are taken from an S: its entries left, if the host reveals them, the changes outside, and the answer by the entries left
pub record Feed (S A : Type 0) : Type 1 where
  pub left : S → World → Option (List Entry)
  pub Looks : Seen → Seen → Type 0
  pub next : List Entry → Result A Break

-- the entries that are left stay
pub record Stays {S A : Type 0} (feed : Feed S A) (old new : S) (before after : Seen) : Type 0 where
  pub looks : feed.Looks before after
  pub left : feed.left new after.world ≡ feed.left old before.world

-- the front entry is taken, and this is given for it
pub record GivesEntry {S A : Type 0} (feed : Feed S A) (old new : S) (before after : Seen) (what : A) : Type 0 where
  pub looks : feed.Looks before after
  pub left : feed.left new after.world ≡ option_map behind (feed.left old before.world)
  pub given : ToldValue (feed.left old before.world) (λ es. feed.next es ≡ Ok what)

-- nothing is taken, for this reason: no entry is left, or the line is too long
pub record Lacks {S A : Type 0} (feed : Feed S A) (old new : S) (before after : Seen) (why : Break) : Type 0 where
  pub stays : Stays feed old new before after
  pub given : ToldValue (feed.left old before.world) (λ es. feed.next es ≡ Err why)

-- the host failed
pub record FailsToTake {S A : Type 0} (feed : Feed S A) (old new : S) (before after : Seen) : Type 0 where
  pub stays : Stays feed old new before after
  pub rose : Rose before.faults after.faults

-- what the taking of an entry does, by how it ends: None if the host failed
abbrev pub TakesNext : {S A : Type 0} → Feed S A → S → S → Seen → Seen → Option (Result A Break) → Type 0
TakesNext feed old new before after (Some (Ok what)) = GivesEntry feed old new before after what
TakesNext feed old new before after (Some (Err why)) = Lacks feed old new before after why
TakesNext feed old new before after None = FailsToTake feed old new before after

-- an entry is taken, and then what is given for it is stored
abbrev pub take_next : {A : Type 0} → (List Entry → Result A Break) → List Entry → (A → Trace Change ⊤ Stop)
    → Trace Intake ⊤ Break
take_next next left stored = do
  what ← next left
  does TakesText (lift Changes (stop_as_break (stored what)))

-- core, panel, an S that is read from, and what is seen outside: as a reading finds them, or leaves them
pub record Station (S : Type 0) : Type 0 where
  pub core : List ℕ
  pub panel : Panel
  pub from : S
  pub seen : Seen

abbrev pub station : {S : Type 0} → List ℕ → Panel → S → Seen → Station S
station core panel from seen = record { core = core; panel = panel; from = from; seen = seen }

-- the entries that a station has left, if the host reveals them
abbrev pub left_at : {S A : Type 0} → Feed S A → Station S → Option (List Entry)
left_at feed x = feed.left x.from x.seen.world

-- the desk of a station that has these entries left
abbrev pub desk_at : {S : Type 0} → Station S → List Entry → Desk
desk_at x left = record { core = x.core; panel = x.panel; left = left }

-- all of a reading was done, over the entries that are left, or over any if the host doesn't reveal them
pub record ReadsAll {S A : Type 0} (feed : Feed S A) (t : List Entry → Trace Intake ⊤ Break)
    (old new : Station S) (answer : Result ⊤ Break) : Type 0 where
  pub given : List Entry
  pub told : Tells (left_at feed old) given
  pub answers : (t given).answer ≡ answer
  pub rest : List Entry
  pub leaves : desk_at new rest ≡ desk_after (desk_at old given) (t given).effects
  pub left : left_at feed new ≡ option_map (λ es. rest) (left_at feed old)
  pub looks : feed.Looks old.seen new.seen

-- the host failed, and nothing was done
pub record ReadsNone {S A : Type 0} (feed : Feed S A) (old new : Station S) : Type 0 where
  pub core_same : new.core ≡ old.core
  pub panel_same : new.panel ≡ old.panel
  pub fails : FailsToTake feed old.from new.from old.seen new.seen

-- what a reading with the trace t does, by how it ends: None if the host failed
abbrev pub ReadsIn : {S A : Type 0} → Feed S A → (List Entry → Trace Intake ⊤ Break) → Station S → Station S
    → Option (Result ⊤ Break) → Type 0
ReadsIn feed t old new (Some answer) = ReadsAll feed t old new answer
ReadsIn feed t old new None = ReadsNone feed old new
