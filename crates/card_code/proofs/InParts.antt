-- An action over core and panel in parts.
use Rattle.std.proofs.Common.{◌≡◌, ℕ, List, [], ◌∷◌, ◌++◌, Result, Ok, Err, refl, sym, ◌∙◌, ap}
use Rattle.std.specs.Prelude.{⊤}
use Rattle.digit_core.specs.Cell.{store}
use Rattle.indicators.specs.declared.Panel.{Panel}
use Rattle.indicators.specs.Panel.{set}
use Rattle.addr_indirect.specs.declared.Stop.{Stop}
use Rattle.traces.specs.Trace.{Trace, and_then, after_answer}
use Rattle.traces.specs.Change.{Change, StoresCell, Lights, Changed, core_after_changes, panel_after_changes}
use Rattle.card_code.proofs.TextsStored.{Rest}

-- some changes, and then others
core_in_parts : (core : List ℕ) (cs ds : List Change) → core_after_changes core (cs ++ ds) ≡ core_after_changes (core_after_changes core cs) ds
core_in_parts core [] ds = refl
core_in_parts core (StoresCell s ∷ cs) ds = core_in_parts (store core s.at s.digit) cs ds
core_in_parts core (Lights l ∷ cs) ds = core_in_parts core cs ds

panel_in_parts : (panel : Panel) (cs ds : List Change) → panel_after_changes panel (cs ++ ds) ≡ panel_after_changes (panel_after_changes panel cs) ds
panel_in_parts panel [] ds = refl
panel_in_parts panel (StoresCell s ∷ cs) ds = panel_in_parts panel cs ds
panel_in_parts panel (Lights l ∷ cs) ds = panel_in_parts (set l.code l.to panel) cs ds

module _ (core mid start : List ℕ) (panel mid_panel start_panel : Panel) (whole : Trace Change ⊤ Stop) where
  part_done : (es : List Change) (answer : Result ⊤ Stop) (r : Trace Change ⊤ Stop) → Changed core panel (record { effects = es; answer = answer }) mid mid_panel (Ok tt)
      → Rest core panel (after_answer es answer (λ _. r)) start start_panel whole → Rest mid mid_panel r start start_panel whole
  part_done es (Ok u) r part rest = record {
    leaves = ap (λ (x : List ℕ). core_after_changes x r.effects) part.leaves ∙ sym (core_in_parts core es r.effects) ∙ rest.leaves;
    shows = ap (λ (x : Panel). panel_after_changes x r.effects) part.shows ∙ sym (panel_in_parts panel es r.effects) ∙ rest.shows;
    answers = rest.answers;
  }
  part_done es (Err s) r part rest = let other = part.answers in cc

  part_broken : (es : List Change) (answer : Result ⊤ Stop) (r : Trace Change ⊤ Stop) (why : Stop) → Changed core panel (record { effects = es; answer = answer }) mid mid_panel (Err why)
      → Rest core panel (after_answer es answer (λ _. r)) start start_panel whole → Changed start start_panel whole mid mid_panel (Err why)
  part_broken es (Ok u) r why part rest = let other = part.answers in cc
  part_broken es (Err s) r why part rest = record { leaves = part.leaves ∙ rest.leaves; shows = part.shows ∙ rest.shows; answers = part.answers ∙ rest.answers }

  -- once a part was carried out the rest goes on from there
  pub after_part : (t r : Trace Change ⊤ Stop) → Changed core panel t mid mid_panel (Ok tt) → Rest core panel (and_then t (λ _. r)) start start_panel whole → Rest mid mid_panel r start start_panel whole
  after_part t r part rest = part_done t.effects t.answer r part rest

  -- and a part that stops ends the whole
  pub broken_part : (t r : Trace Change ⊤ Stop) (why : Stop) → Changed core panel t mid mid_panel (Err why) → Rest core panel (and_then t (λ _. r)) start start_panel whole → Changed start start_panel whole mid mid_panel (Err why)
  broken_part t r why part rest = part_broken t.effects t.answer r why part rest
