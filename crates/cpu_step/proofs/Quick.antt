-- Instructions that are known: what their rows do.
use Rattle.std.proofs.Common.{ℕ, ◌≡◌, ◌+◌, ◌≤◌, List, length, refl, sym, ap, ◌∙◌, arith}
use Rattle.std.proofs.lemmas.Bool.Decides.{nat_tests}
use Rattle.digit_core.specs.Size.{size, IsSize}
use Rattle.std.specs.Prelude.{Result, Ok}
use Rattle.outside_io.specs.declared.host.Unit.TheVariants as units
use Rattle.outside_io.specs.World.{World, Seen}
use Rattle.card_code.specs.Reader.{unit_of}
use Rattle.traces.specs.Trace.{Trace, ends}
use Rattle.cpu_step.specs.declared.machine.Machine.{Machine}
use Rattle.cpu_step.specs.declared.rows.Row.{Row}
use Rattle.branch_ops.specs.declared.fields.Operands.{Operands}
use Rattle.cpu_step.specs.State.{State}
use Rattle.cpu_step.specs.Act.{Next, Continues, action}
use Rattle.cpu_step.specs.Step.{instruction}
use Rattle.cpu_step.specs.declared.memo.Memo.{Memo}
use Rattle.instruction_table.specs.declared.MayStore.{MayStore}
use Rattle.cpu_step.specs.Known.{found_with, uses_at, ComesToRow, ComesToB}
use Rattle.card_code.specs.Break.{Break}
use Rattle.cpu_step.specs.declared.machine.Outcome.{Outcome}
use Rattle.cpu_step.specs.declared.machine.Outcome.TheVariants as outcome
use Rattle.cpu_step.specs.Effects.{Effect}
use Rattle.cpu_step.specs.Machine.{Shows, Frames, DidAction, Acts}
use Rattle.cpu_step.proofs.ShownStates.{row_acts, operands_act}

module _ (m : ℕ) (machine : Machine m) (w : World) (s : State) (shown : Shows m machine w s) (low high : ℕ) where
  -- a row
  pub known_acts : (r : Row) (stores : MayStore) (o : Operands) → ComesToRow machine.core machine.regs.ir low high r stores o → instruction s ≡ action r o s
  known_acts r stores o c = row_acts m machine w s shown _ (found_with r (uses_at machine.regs.ir low high) stores) (sym c.fetched) (sym c.row_is) ∙ operands_act m machine w s shown (found_with r (uses_at machine.regs.ir low high) stores) (Ok o) (sym c.operands_are)

  -- B
  pub known_goes : (p : ℕ) → ComesToB machine.core machine.regs.ir low high p → instruction s ≡ ends (Ok (Continues (record { ir = p; ir2 = machine.regs.ir2 })))
  unfolding action
  known_goes p c =
      let regs_is : s.regs ≡ machine.regs = ap (λ (x : State). x.regs) shown.is in
      known_acts _ _ _ c ∙ rw regs_is refl

-- an address in core is no great number
pub in_size : (m : ℕ) (core : List ℕ) (ir : ℕ) → IsSize m → length core ≡ size m → ir + 12 ≤ length core → ir + 12 ≤ 60000
in_size m core ir is long inside = grind (arith, nat_tests)

-- what the memo knows is no part of what a machine shows
module _ (m : ℕ) (t : State → Trace Effect Next Break) (old new : Machine m) (known : Memo m) (of_keys : unit_of old.keys ≡ units.Keys) (before later : Seen) where
  abbrev with_memo : Machine m
  with_memo = record old { memo = known; keys_are = of_keys }

  shows_old : (w : World) (s : State) → Shows m with_memo w s → Shows m old w s
  shows_old w s h = record { is = h.is; hopper = h.hopper; keys = h.keys; sectors = h.sectors }

  frames_old : Frames m with_memo new before later → Frames m old new before later
  frames_old f = record { later = f.later; keeps = f.keeps; told = f.told; told_keys = f.told_keys; told_sectors = f.told_sectors; own = f.own; cards = f.cards; lines = f.lines }

  did_old : (r : Result Next Break) → DidAction m t with_memo new before later r → DidAction m t old new before later r
  did_old r d = record { state = d.state; shown = shows_old _ _ d.shown; answers = d.answers; made = d.made; frames = frames_old d.frames }

  pub memo_apart : (o : Outcome) → Acts m t with_memo new before later o → Acts m t old new before later o
  memo_apart (outcome.Goes regs) d = did_old _ d
  memo_apart (outcome.Halts regs) d = did_old _ d
  memo_apart (outcome.Stops why) d = did_old _ d
  memo_apart outcome.Empty d = did_old _ d
  memo_apart outcome.NoKeys d = did_old _ d
  memo_apart (outcome.Jam u n) d = did_old _ d
  memo_apart outcome.Fails d = record {
    done = d.done;
    makes = record { state = d.makes.state; shown = shows_old _ _ d.makes.shown; made = d.makes.made; frames = frames_old d.makes.frames };
    rose = d.rose;
  }
