-- What the program does by its words: nothing is bound, some files are, or all of them and the job is done.
use Rattle.std.proofs.Common.{◌≡◌, ℕ, zero, suc, Bool, List, [], ◌∷◌, take, inl, inr, refl, sym, ◌∙◌, ap, subst, arith}
use Rattle.std.proofs.Math.Path.{fun_ext}
use Rattle.std.specs.Prelude.{Option, Some, None, IfSome, option_map, if◌then◌else◌}
use Rattle.outside_io.specs.declared.host.Unit as unit
use Rattle.outside_io.specs.declared.host.Unit.TheVariants as units
use Rattle.outside_io.specs.declared.host.TheConstants.{UNIT_COUNT}
use Rattle.outside_io.specs.World.{World, Asked, Seen, Goes, IsFree, all_units}
use Rattle.outside_io.specs.Events.{Event, after_events, IsFirstPart}
use Rattle.outside_io.proofs.EventLemmas.{same_of, after_append, did_none, first_none, first_on}
use Rattle.command_line.specs.declared.words.CoreSize.{CoreSize}
use Rattle.command_line.specs.Words.{Names, WordsSaid, no_names}
use Rattle.ibm1620_cli.specs.declared.status.Status.{Status}
use Rattle.ibm1620_cli.specs.declared.answer.Answer.{Answer}
use Rattle.ibm1620_cli.specs.declared.status.Status.TheVariants.{Usage, HostFault}
use Rattle.ibm1620_cli.specs.Binding.{bound_if, each_bound, all_bound, BindsNamed, BindsSome}
use Rattle.ibm1620_cli.specs.Promise.{Job, job_behind, unasked, StopsAt, answer_of, KeepsPromise, world_with_texts, KeepsFrom}
use Rattle.ibm1620_cli.specs.Report.{report_line}
use Rattle.ibm1620_cli.specs.Parts.{Reports, LeavesUnread}
use Rattle.ibm1620_cli.specs.Job.{modules_of, bind_event, bind_events, job_promise, usage_promise, DoesSaid, DoesJob, DoesJobIn, reads, KeepsFiles, KeepsSaid}
use Rattle.ibm1620_cli.proofs.Bindings.{first_asked, bound_left, bound_sectors}
use Rattle.ibm1620_cli.proofs.TakenInputs.{binds_take, stops_unasked}
use Rattle.ibm1620_cli.proofs.KeptPromises.{once_same, once_second, report_stays, promise_report, promise_bound}
use Rattle.ibm1620_cli.proofs.Readings.{texts_told, are_told}

one_bound : (u : unit.Unit) (o : Option (List ℕ)) (w : World) → after_events w (bind_event u o) ≡ bound_if u o w
one_bound u None w = refl
one_bound u (Some name) w = refl

pub all_after : (us : List unit.Unit) (names : Names) (w : World) → after_events w (bind_events us names) ≡ each_bound us names w
all_after [] names w = refl
all_after (u ∷ us) names w =
    after_append (bind_event u (names u)) (bind_events us names) w
    ∙ ap (λ (v : World). after_events v (bind_events us names)) (one_bound u (names u) w)
    ∙ all_after us names (bound_if u (names u) w)

some_first : (n : ℕ) (us : List unit.Unit) (names : Names) → IsFirstPart (bind_events (take n us) names) (bind_events us names)
some_first zero us names = first_none (bind_events us names)
some_first (suc n) [] names = first_none []
some_first (suc n) (u ∷ us) names = first_on (bind_event u (names u)) (bind_events (take n us) names) (bind_events us names) (some_first n us names)

-- words that are not plain
pub usage_said : (old new : Seen) (status : Status) → Reports old new Usage status → KeepsPromise usage_promise old new (answer_of status)
usage_said old new status reports =
    promise_report usage_promise old old new Usage (report_line Usage) (answer_of status) (omega arith) refl refl (λ is. refl) refl
    (record { before = []; status_is = refl; events_are = refl; did = did_none old.world; leaves = refl; inputs = unasked (refl, refl) (λ u read. refl) refl; refusal = λ other. tt; program = refl }) tt reports

pub usage_binds : (old new : Seen) (answer : Status) → Reports old new Usage answer → BindsNamed no_names old.world new.world answer
usage_binds old new answer reports =
    let stays = report_stays old new Usage (report_line Usage) answer reports in
    record { reached = UNIT_COUNT; in_use = stays.in_use; names_are = stays.names; all = λ other. omega arith }

pub usage_unread : (old new : Seen) (answer : Status) → Reports old new Usage answer → (new.world.left ≡ old.world.left) × (new.world.sectors ≡ old.world.sectors) × (new.world.asked ≡ old.world.asked)
usage_unread old new answer reports =
    let stays = report_stays old new Usage (report_line Usage) answer reports in
    (fun_ext (λ u. stays.left u refl), stays.sectors refl, fun_ext (λ u. stays.asked u refl))

-- where nothing was done all keep what they had
pub same_unread : (o : Option WordsSaid) (old new : Seen) → IsFree old.world → new ≡ old → KeepsSaid o old new
same_unread None old new free same = (ap (λ (s : Seen). s.world.left) same, ap (λ (s : Seen). s.world.sectors) same, ap (λ (s : Seen). s.world.asked) same)
same_unread (Some said) old new free same = record {
  left = λ u unread.
      ap (λ (s : Seen). s.world.left u) same
      ∙ ap (λ (b : Bool). if b then (all_bound said.names old.world).left u else old.world.left u) (sym (ap (λ (s : Seen). s.world.in_use u) same ∙ free u));
  sectors = λ none.
      ap (λ (s : Seen). s.world.sectors) same
      ∙ ap (λ (b : Bool). if b then (all_bound said.names old.world).sectors else old.world.sectors) (sym (ap (λ (s : Seen). s.world.in_use units.Pack) same ∙ free units.Pack));
  asked = λ u unread. ap (λ (s : Seen). s.world.asked u) same;
  once = λ u fed. once_same (old.world.asked u) (new.world.asked u) (ap (λ (s : Seen). s.world.asked u) same);
}

-- a job by the core that the words say is one by so many modules, whatever the settings are
pub does_by_core : (said : WordsSaid) (old new : Seen) (answer : Answer) (core : CoreSize) → said.core ≡ core → DoesJobIn (modules_of core) said old new answer → DoesJob said old new answer
does_by_core said old new answer core is does = subst (λ (size : CoreSize). DoesJobIn (modules_of size) said old new answer) (sym is) does

module _ (said : WordsSaid) (old : Seen) where
  abbrev binds : List Event
  binds = bind_events all_units said.names

  -- all files are bound, and the job is done
  pub said_all : (mid new : Seen) (answer : Answer) → Goes old mid (all_bound said.names old.world) → DoesJob said mid new answer → DoesSaid said old new answer
  said_all mid new answer goes job =
      let kept : KeepsFrom (job_promise (modules_of said.core) said.command said.settings) (all_bound said.names old.world) mid new answer =
      subst (λ (w : World). KeepsFrom (job_promise (modules_of said.core) said.command said.settings) w mid new answer) goes.world job in
      record {
        texts = kept.texts;
        told = kept.told;
        keeps = promise_bound binds (job_promise (modules_of said.core) said.command said.settings (world_with_texts kept.texts (all_bound said.names old.world))) old mid new goes.later
            (same_of mid.world (after_events old.world binds) (goes.world ∙ sym (all_after all_units said.names old.world))) (binds_take all_units said.names)
            (λ u read. ap (λ (w : World). w.asked u) goes.world ∙ ap (λ (asked : unit.Unit → Option Asked). asked u) (first_asked UNIT_COUNT said.names old.world)) answer kept.keeps;
      }

  pub all_binds : (mid new : Seen) (answer : Status) → Goes old mid (all_bound said.names old.world) → LeavesUnread (reads said.command) mid.world new.world → BindsNamed said.names old.world new.world answer
  all_binds mid new answer goes stays = record {
    reached = UNIT_COUNT;
    in_use = stays.in_use ∙ ap (λ (w : World). w.in_use) goes.world;
    names_are = stays.names ∙ ap (λ (w : World). w.names) goes.world;
    all = λ other. omega arith;
  }

  -- what is not read is what the files have
  pub all_unread : (mid new : Seen) → IsFree old.world → Goes old mid (all_bound said.names old.world) → LeavesUnread (reads said.command) mid.world new.world → KeepsFiles said old new
  all_unread mid new free goes stays =
      let used : new.world.in_use ≡ (all_bound said.names old.world).in_use = stays.in_use ∙ ap (λ (w : World). w.in_use) goes.world in
      let bound : (u : unit.Unit) → mid.world.asked u ≡ old.world.asked u = λ u. ap (λ (w : World). w.asked u) goes.world ∙ ap (λ (asked : unit.Unit → Option Asked). asked u) (first_asked UNIT_COUNT said.names old.world) in
      record {
        left = λ u unread.
            stays.left u unread
            ∙ ap (λ (w : World). w.left u) goes.world
            ∙ bound_left UNIT_COUNT said.names old.world u (free u)
            ∙ ap (λ (b : Bool). if b then (all_bound said.names old.world).left u else old.world.left u) (sym (ap (λ (f : unit.Unit → Bool). f u) used));
        sectors = λ none.
            stays.sectors none
            ∙ ap (λ (w : World). w.sectors) goes.world
            ∙ bound_sectors UNIT_COUNT said.names old.world (free units.Pack)
            ∙ ap (λ (b : Bool). if b then (all_bound said.names old.world).sectors else old.world.sectors) (sym (ap (λ (f : unit.Unit → Bool). f units.Pack) used));
        asked = λ u unread. stays.asked u unread ∙ bound u;
        once = λ u fed. once_second (old.world.asked u) (mid.world.asked u) (new.world.asked u) (bound u) (stays.once u fed);
      }

  pub some_unread : (new : Seen) → IsFree old.world → BindsSome said.names old new → KeepsFiles said old new
  some_unread new free some =
      let bound : (u : unit.Unit) → new.world.asked u ≡ old.world.asked u = λ u. ap (λ (w : World). w.asked u) some.world ∙ ap (λ (asked : unit.Unit → Option Asked). asked u) (first_asked some.reached said.names old.world) in
      record {
        left = λ u unread.
            ap (λ (w : World). w.left u) some.world
            ∙ bound_left some.reached said.names old.world u (free u)
            ∙ ap (λ (b : Bool). if b then (all_bound said.names old.world).left u else old.world.left u) (sym (ap (λ (w : World). w.in_use u) some.world));
        sectors = λ none.
            ap (λ (w : World). w.sectors) some.world
            ∙ bound_sectors some.reached said.names old.world (free units.Pack)
            ∙ ap (λ (b : Bool). if b then (all_bound said.names old.world).sectors else old.world.sectors) (sym (ap (λ (w : World). w.in_use units.Pack) some.world));
        asked = λ u unread. bound u;
        once = λ u fed. once_same (old.world.asked u) (new.world.asked u) (bound u);
      }

  some_part : (new : Seen) (some : BindsSome said.names old new) (o : Option Job) → IfSome (option_map (job_behind binds) o) (λ j. StopsAt j None old.world new.world)
  some_part new some None = tt
  some_part new some (Some j) =
      stops_unasked (job_behind binds j) binds j.events old.world new.world refl (binds_take all_units said.names)
      (λ u read. ap (λ (w : World). w.asked u) some.world ∙ ap (λ (asked : unit.Unit → Option Asked). asked u) (first_asked some.reached said.names old.world))
      (record {
        done = bind_events (take some.reached all_units) said.names;
        part = some_first some.reached all_units said.names;
        did = same_of new.world (after_events old.world (bind_events (take some.reached all_units) said.names)) (some.world ∙ sym (all_after (take some.reached all_units) said.names old.world));
      })

  -- some of them are bound, and then the host failed
  pub said_some : (new : Seen) → BindsSome said.names old new → DoesSaid said old new (answer_of HostFault)
  said_some new some =
      let w : World = all_bound said.names old.world in
      record {
        texts = texts_told w;
        told = are_told w;
        keeps = inr (inl (record { status = refl; refusal = refl; statement = refl; rose = some.rose; part = some_part new some (job_promise (modules_of said.core) said.command said.settings (world_with_texts (texts_told w) w)).job }));
      }

  pub some_binds : (new : Seen) → BindsSome said.names old new → BindsNamed said.names old.world new.world HostFault
  some_binds new some = record {
    reached = some.reached;
    in_use = ap (λ (w : World). w.in_use) some.world;
    names_are = ap (λ (w : World). w.names) some.world;
    all = λ other. absurd (other refl);
  }
