-- What the rows of the branches leave, by what was read.
use Rattle.std.proofs.Common.{◌≡◌, ℕ, ◌+◌, ◌-◌, ◌≤◌, ◌==◌, Bool, false, List, length, refl, sym, ◌∙◌, arith}
use Rattle.std.specs.Prelude.{Result, Ok, Err}
use Rattle.digit_core.specs.Size.{size}
use Rattle.addr_indirect.specs.declared.Stop.{Stop}
use Rattle.addr_indirect.specs.declared.Instr.{Instr}
use Rattle.addr_indirect.specs.Fetch.{fetch}
use Rattle.addr_indirect.proofs.ReadInCore.{fetch_inside}
use Rattle.indicators.specs.declared.Panel.{Panel}
use Rattle.indicators.specs.Lamps.{panel_after_test, test_lamps}
use Rattle.traces.specs.Trace.{Trace, ◌>>=◌}
use Rattle.traces.specs.Stored.{Did}
use Rattle.traces.specs.Change.{Change}
use Rattle.field_moves.specs.Move.{move_field}
use Rattle.branch_ops.specs.declared.Regs.{Regs}
use Rattle.branch_ops.specs.Branch.{go_if, transmit, go_by_indicator}
use Rattle.branch_ops.specs.Carried.{Branches}
use Rattle.branch_ops.proofs.Changes.{core_stored, panel_stored, core_lit, panel_lit}

-- a fetched instruction lies in core
pub in_core : (m : ℕ) (core : List ℕ) (ir : ℕ) (i : Instr) → length core ≡ size m → fetch core ir ≡ Ok i → ir + 12 ≤ size m
in_core m core ir i long fetched = omega (arith, fetch_inside core ir i fetched)

module _ (core : List ℕ) (panel : Panel) (r : Regs) where
  -- a reading stops
  pub stops : {A : Type 0} (reading : Result A Stop) (why : Stop) (rest : A → Trace Change Regs Stop) → reading ≡ Err why → Branches core panel r (reading >>= rest) core panel r (Err why)
  stops reading why rest is = rw is (record { leaves = refl; shows = refl; registers = refl; answers = refl })

  -- P is gone to by what a tested indicator was
  pub tests : (p code : ℕ) (test : Bool) (new_panel : Panel) → new_panel ≡ panel_after_test code panel → Branches core panel r (go_by_indicator r p code test) core new_panel r (Ok (go_if r test p).ir)
  tests p code test new_panel is = record {
    leaves = sym (core_lit core (test_lamps code));
    shows = is ∙ sym (panel_lit panel (test_lamps code));
    registers = refl;
    answers = refl;
  }

  module _ (p q : ℕ) (new : List ℕ) (some : (p == 0) ≡ false) where
    -- the move of the field stops
    pub move_stops : (why : Stop) → Did core (move_field core (p - 1) q) new (Err why) → Branches core panel r (transmit core r p q) new panel r (Err why)
    move_stops why did =
        rw (some, ← did.answers) (record {
          leaves = did.leaves ∙ sym (core_stored core (move_field core (p - 1) q).effects);
          shows = sym (panel_stored panel (move_field core (p - 1) q).effects);
          registers = refl;
          answers = refl;
        })

    -- the field is moved, and P is gone to
    pub moves : Did core (move_field core (p - 1) q) new (Ok tt) → Branches core panel r (transmit core r p q) new panel (record { ir = r.ir; ir2 = r.ir + 12 }) (Ok p)
    moves did =
        rw (some, ← did.answers) (record {
          leaves = did.leaves ∙ sym (core_stored core (move_field core (p - 1) q).effects);
          shows = sym (panel_stored panel (move_field core (p - 1) q).effects);
          registers = refl;
          answers = refl;
        })
