-- What the branches do over operands that are known.
use Rattle.std.proofs.Common.{◌≡◌, ℕ, Bool, List, refl}
use Rattle.std.specs.Prelude.{Ok, Err}
use Rattle.digit_core.specs.declared.Digit.{Digit}
use Rattle.addr_indirect.specs.declared.Stop.{Stop}
use Rattle.addr_indirect.specs.Reading.{read_at}
use Rattle.indicators.specs.declared.Panel.{Panel}
use Rattle.traces.specs.Trace.{Trace, ends}
use Rattle.traces.specs.Change.{Change}
use Rattle.branch_ops.specs.declared.Regs.{Regs}
use Rattle.branch_ops.specs.Registers.{on_at}
use Rattle.branch_ops.specs.Branch.{go_if, go_by_digit}
use Rattle.branch_ops.specs.Carried.{Branches}

module _ (core : List ℕ) (panel : Panel) (r : Regs) where
  -- P is gone to where the digit at Q passes the test
  pub digit_goes : (p q : ℕ) (test : Digit → Bool) (d : Digit) → read_at core q ≡ Ok d → Branches core panel r (go_by_digit core r p q test) core panel r (Ok (go_if r (test d) p).ir)
  digit_goes p q test d is = rw is (record { leaves = refl; shows = refl; registers = refl; answers = refl })

  -- an address is gone to
  pub goes_to : (to : ℕ) → Branches core panel r (ends (Ok (on_at r to))) core panel r (Ok to)
  goes_to to = record { leaves = refl; shows = refl; registers = refl; answers = refl }

  -- nothing is done but to stop
  pub only_stops : (t : Trace Change Regs Stop) (why : Stop) → t ≡ ends (Err why) → Branches core panel r t core panel r (Err why)
  only_stops t why is = rw is (record { leaves = refl; shows = refl; registers = refl; answers = refl })
