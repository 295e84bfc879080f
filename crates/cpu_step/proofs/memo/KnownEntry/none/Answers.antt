-- Core begins at 00000, and nothing is said of `Nothing`.
use Rattle.std.proofs.Common.{refl, arith}
use Rattle.cpu_step.proofs.MemoEntries.{six_whole, nothing}
use Rattle.cpu_step.proofs.memo.KnownEntry.none.Goals as goal

pub invariant_of-result : goal.invariant_of-result
invariant_of-result g c =
    record {
      place_is = record { even = refl; inside = omega arith; word_is = refl; low_named = λ j low high. six_whole j high; high_named = λ j h. six_whole j (omega arith) };
      known_is = λ core ir twelve. nothing core ir 0 0;
    }
