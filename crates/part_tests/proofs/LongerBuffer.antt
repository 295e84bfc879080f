-- A reading into the front of a buffer is one into the whole of it.
use Rattle.std.proofs.Common.{◌≡◌, ℕ, ◌≤◌, List, ◌++◌, length, take, sym, subst, arith, length-append}
use Rattle.std.proofs.lemmas.List.{take-append-le}
use Rattle.outside_io.specs.declared.host.Unit as unit
use Rattle.outside_io.specs.declared.host.Take.{Take}
use Rattle.outside_io.specs.declared.host.Take.TheVariants as took
use Rattle.outside_io.specs.World.{Seen, Goes, Takes, BeginsWith, world_after_take, one_reading}

pub longer : (old new : Seen) (u : unit.Unit) (front rest : List ℕ) (answer : Take) → Takes old new u front answer → Takes old new u (front ++ rest) answer
longer old new u front rest (took.Got n) gets =
    let same : take n front ≡ take n (front ++ rest) = sym (take-append-le n front rest gets.fits) in
    record {
      some = gets.some;
      fits = omega (arith, gets.fits, length-append front rest);
      bytes = subst (λ (bytes : List ℕ). BeginsWith bytes (old.world.left u)) same gets.bytes;
      goes = subst (λ (bytes : List ℕ). Goes old new (world_after_take u (one_reading bytes) old.world)) same gets.goes;
    }
longer old new u front rest took.End ends = ends
longer old new u front rest took.Failed fails = fails
