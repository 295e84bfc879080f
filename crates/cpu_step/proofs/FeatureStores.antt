-- A strip stores from Q downwards, up to a flag, and a fill from P downwards, digits without flags.
use Rattle.std.proofs.Common.{◌≡◌, ℕ, zero, suc, ◌+◌, ◌-◌, ◌*◌, ◌/◌, ◌%◌, ◌<◌, ◌≤◌, Bool, true, false, ◌==◌, List, length, refl, ◌∙◌, subst, arith, length-set}
use Rattle.std.specs.Prelude.{Result, Ok, Err, if◌then◌else◌}
use Rattle.digit_core.specs.declared.Digit.{Digit}
use Rattle.digit_core.specs.Cell.{IsGood, unflagged_digit, cell, store, with_flag}
use Rattle.addr_indirect.specs.declared.Stop.{Stop}
use Rattle.addr_indirect.specs.Reading.{read_at}
use Rattle.traces.specs.Trace.{ends, ◌>>=◌}
use Rattle.traces.specs.Stored.{stores, core_after}
use Rattle.feature_ops.specs.Feature.{NUMBER_ZONE, NEGATIVE_ZONE, strip_cycles, strip, core_with_pair, pair_first, fill_cycles, fill}
use Rattle.cpu_step.proofs.FieldStores.{Sinks, IsGoodRead, no_both, reads, sinks_none, sinks_last, sinks_more}

-- THE CYCLES OF A STRIP
module _ (core : List ℕ) (pairs q : ℕ) (inside : q < length core)
    (rest : (d : Digit) → Sinks (store core q d) (core_after (store core q d) (strip_cycles (store core q d) pairs q).effects) q false) where
  by_flag : (from to : Digit) → IsGood from → (b : Bool) → to.flag ≡ b
      → Sinks core (core_after core (stores q (with_flag to.flag from) (if b then ends (Ok tt) else strip_cycles (store core q (with_flag to.flag from)) pairs q)).effects) (suc q) false
  by_flag from to good true is = sinks_last core q (with_flag to.flag from) false
  by_flag from to good false is =
      sinks_more core q (with_flag to.flag from) false (core_after (store core q (with_flag to.flag from)) (strip_cycles (store core q (with_flag to.flag from)) pairs q).effects)
      inside good (λ units. is) (rest (with_flag to.flag from))

  by_to : (from : Digit) → IsGood from → (r : Result Digit Stop)
      → Sinks core (core_after core (r >>= (λ to. stores q (with_flag to.flag from) (if to.flag then ends (Ok tt) else strip_cycles (store core q (with_flag to.flag from)) pairs q))).effects) (suc q) false
  by_to from good (Err why) = sinks_none core (suc q) false
  by_to from good (Ok to) = by_flag from to good to.flag refl

  by_from : (r : Result Digit Stop) → IsGoodRead r
      → Sinks core (core_after core (r >>= (λ from. read_at core q >>= (λ to. stores q (with_flag to.flag from) (if to.flag then ends (Ok tt) else strip_cycles (store core q (with_flag to.flag from)) pairs q)))).effects) (suc q) false
  by_from (Err why) good = sinks_none core (suc q) false
  by_from (Ok from) good = by_to from good (read_at core q)

strip_cycles_sink : (core : List ℕ) (pairs q : ℕ) → q ≤ length core → Sinks core (core_after core (strip_cycles core pairs q).effects) q false
unfolding strip_cycles
strip_cycles_sink core zero q room = sinks_none core q false
strip_cycles_sink core (suc pairs) zero room = sinks_none core zero false
strip_cycles_sink core (suc pairs) (suc q) room =
    by_from core pairs q (omega (arith, room)) (λ d. strip_cycles_sink (store core q d) pairs q (omega (arith, room, length-set core q (cell d))))
    (read_at core (2 * pairs + 1)) (reads core (2 * pairs + 1))

-- TNS STORES WITHIN THE FIELD AT Q.
module _ (core : List ℕ) (p q : ℕ) (inside : q < length core) where
  units_first : (zone from : Digit) → IsGood from
      → Sinks core (core_after core (stores q (with_flag (zone.value == NEGATIVE_ZONE) from) (strip_cycles (store core q (with_flag (zone.value == NEGATIVE_ZONE) from)) (p / 2) q)).effects) (suc q) true
  units_first zone from good =
      let units : Digit = with_flag (zone.value == NEGATIVE_ZONE) from in
      sinks_more core q units true (core_after (store core q units) (strip_cycles (store core q units) (p / 2) q).effects) inside good (λ is. no_both true refl is)
      (strip_cycles_sink (store core q units) (p / 2) q (omega (arith, inside, length-set core q (cell units))))

  strip_to : (zone from : Digit) → IsGood from → (r : Result Digit Stop)
      → Sinks core (core_after core (r >>= (λ to. stores q (with_flag (zone.value == NEGATIVE_ZONE) from) (strip_cycles (store core q (with_flag (zone.value == NEGATIVE_ZONE) from)) (p / 2) q))).effects) (suc q) true
  strip_to zone from good (Err why) = sinks_none core (suc q) true
  strip_to zone from good (Ok to) = units_first zone from good

  strip_from : (zone : Digit) (r : Result Digit Stop) → IsGoodRead r
      → Sinks core (core_after core (r >>= (λ from. read_at core q >>= (λ to. stores q (with_flag (zone.value == NEGATIVE_ZONE) from) (strip_cycles (store core q (with_flag (zone.value == NEGATIVE_ZONE) from)) (p / 2) q)))).effects) (suc q) true
  strip_from zone (Err why) good = sinks_none core (suc q) true
  strip_from zone (Ok from) good = strip_to zone from good (read_at core q)

  strip_zone : (r : Result Digit Stop)
      → Sinks core (core_after core (r >>= (λ zone. read_at core p >>= (λ from. read_at core q >>= (λ to. stores q (with_flag (zone.value == NEGATIVE_ZONE) from) (strip_cycles (store core q (with_flag (zone.value == NEGATIVE_ZONE) from)) (p / 2) q))))).effects) (suc q) true
  strip_zone (Err why) = sinks_none core (suc q) true
  strip_zone (Ok zone) = strip_from zone (read_at core p) (reads core p)

  pub strip_sinks : Sinks core (core_after core (strip core p q).effects) (suc q) true
  strip_sinks = strip_zone (read_at core (p - 1))

-- A PAIR OF A FILL: a digit and its zone below it, both without a flag
pair_sinks : (core new : List ℕ) (at zone value n : ℕ) (first : Bool) → at + 1 < length core → IsGood (unflagged_digit zone) → IsGood (unflagged_digit value) → n ≡ at + 2
    → Sinks (core_with_pair core at zone value) new at false → Sinks core new n first
pair_sinks core new at zone value n first inside zone_good value_good is rest =
    let mid : List ℕ = store core (at + 1) (unflagged_digit value) in
    let below : Sinks mid new (suc at) false =
    sinks_more mid at (unflagged_digit zone) false new (omega (arith, inside, length-set core (at + 1) (cell (unflagged_digit value)))) zone_good (λ units. refl) rest in
    let at_one : suc at ≡ at + 1 = omega arith in
    let there : suc (at + 1) ≡ n = omega (arith, is) in
    subst (λ k. Sinks core new k first) there
    (sinks_more core (at + 1) (unflagged_digit value) first new inside value_good (λ units. refl) (subst (λ k. Sinks mid new k false) at_one below))

pair_long : (core : List ℕ) (at zone value : ℕ) → length (core_with_pair core at zone value) ≡ length core
pair_long core at zone value = length-set (store core (at + 1) (unflagged_digit value)) at (cell (unflagged_digit zone)) ∙ length-set core (at + 1) (cell (unflagged_digit value))

zone_of : (b : Bool) → IsGood (unflagged_digit (if b then NEGATIVE_ZONE else NUMBER_ZONE))
zone_of true = refl
zone_of false = refl

module _ (core : List ℕ) (pairs q : ℕ) (room : 2 * suc pairs ≤ length core)
    (rest : (value : ℕ) → Sinks (core_with_pair core (2 * pairs) NUMBER_ZONE value)
    (core_after (core_with_pair core (2 * pairs) NUMBER_ZONE value) (fill_cycles (core_with_pair core (2 * pairs) NUMBER_ZONE value) pairs q).effects) (2 * pairs) false) where
  fill_on : (d : Digit) → IsGood d → (b : Bool)
      → Sinks core (core_after core (pair_first core (2 * pairs) NUMBER_ZONE d.value (λ new. if b then ends (Ok tt) else fill_cycles new pairs q)).effects) (2 * suc pairs) false
  fill_on d good true =
      pair_sinks core (core_with_pair core (2 * pairs) NUMBER_ZONE d.value) (2 * pairs) NUMBER_ZONE d.value (2 * suc pairs) false (omega (arith, room)) refl good (omega arith)
      (sinks_none (core_with_pair core (2 * pairs) NUMBER_ZONE d.value) (2 * pairs) false)
  fill_on d good false =
      pair_sinks core (core_after (core_with_pair core (2 * pairs) NUMBER_ZONE d.value) (fill_cycles (core_with_pair core (2 * pairs) NUMBER_ZONE d.value) pairs q).effects)
      (2 * pairs) NUMBER_ZONE d.value (2 * suc pairs) false (omega (arith, room)) refl good (omega arith) (rest d.value)

  fill_read : (r : Result Digit Stop) → IsGoodRead r
      → Sinks core (core_after core (r >>= (λ d. pair_first core (2 * pairs) NUMBER_ZONE d.value (λ new. if d.flag then ends (Ok tt) else fill_cycles new pairs q))).effects) (2 * suc pairs) false
  fill_read (Err why) good = sinks_none core (2 * suc pairs) false
  fill_read (Ok d) good = fill_on d good d.flag

fill_cycles_sink : (core : List ℕ) (pairs q : ℕ) → 2 * pairs ≤ length core → Sinks core (core_after core (fill_cycles core pairs q).effects) (2 * pairs) false
unfolding fill_cycles
fill_cycles_sink core zero q room = sinks_none core (2 * zero) false
fill_cycles_sink core (suc pairs) zero room = sinks_none core (2 * suc pairs) false
fill_cycles_sink core (suc pairs) (suc q) room =
    fill_read core pairs q room
    (λ value. fill_cycles_sink (core_with_pair core (2 * pairs) NUMBER_ZONE value) pairs q (omega (arith, room, pair_long core (2 * pairs) NUMBER_ZONE value)))
    (read_at core q) (reads core q)

-- TNF STORES WITHIN THE CELLS FROM P DOWN TO A FLAG THAT STANDS AFTERWARDS.
module _ (core : List ℕ) (p q : ℕ) (inside : p < length core) (odd : p % 2 ≡ 1) where
  fill_units : (d : Digit) → IsGood d
      → Sinks core (core_after core (pair_first core (p - 1) (if d.flag then NEGATIVE_ZONE else NUMBER_ZONE) d.value (λ new. fill_cycles new (p / 2) q)).effects) (suc p) true
  fill_units d good =
      let zone : ℕ = if d.flag then NEGATIVE_ZONE else NUMBER_ZONE in
      let mid : List ℕ = core_with_pair core (p - 1) zone d.value in
      let below : 2 * (p / 2) ≡ p - 1 = omega (arith, odd) in
      pair_sinks core (core_after mid (fill_cycles mid (p / 2) q).effects) (p - 1) zone d.value (suc p) true (omega (arith, inside, odd)) (zone_of d.flag) good (omega (arith, odd))
      (subst (λ k. Sinks mid (core_after mid (fill_cycles mid (p / 2) q).effects) k false) below
      (fill_cycles_sink mid (p / 2) q (omega (arith, inside, below, pair_long core (p - 1) zone d.value))))

  fill_from : (r : Result Digit Stop) → IsGoodRead r
      → Sinks core (core_after core (r >>= (λ d. pair_first core (p - 1) (if d.flag then NEGATIVE_ZONE else NUMBER_ZONE) d.value (λ new. fill_cycles new (p / 2) q))).effects) (suc p) true
  fill_from (Err why) good = sinks_none core (suc p) true
  fill_from (Ok d) good = fill_units d good

  pub fill_sinks : Sinks core (core_after core (fill core p q).effects) (suc p) true
  fill_sinks = fill_from (read_at core q) (reads core q)
