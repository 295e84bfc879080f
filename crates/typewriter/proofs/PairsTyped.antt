-- To type the rest of some pairs is to type them all.
use Rattle.std.proofs.Common.{nat_lt, ℕ, Bool, true, false, ◌≡◌, ◌+◌, ◌<◌, ◌≤◌, ◌==◌, List, [], ◌∷◌, length, drop, Ok, Err, refl, ap, arith}
use Rattle.std.proofs.lemmas.List.{drop_more, drop_all}
use Rattle.std.proofs.lemmas.Bool.Decides.{nat_tests}
use Rattle.std.specs.Prelude.{⊤, Option, if◌then◌else◌, slice_index}
use Rattle.digit_core.specs.declared.Digit.{Digit}
use Rattle.digit_core.specs.Cell.{read_cell}
use Rattle.indicators.specs.declared.Panel.{Panel}
use Rattle.outside_io.specs.World.{Seen}
use Rattle.addr_indirect.specs.declared.Stop.{Stop}
use Rattle.addr_indirect.specs.declared.Stop.TheVariants.{Address}
use Rattle.addr_indirect.specs.Reading.{read_at, or_stop}
use Rattle.traces.specs.Trace.{Trace, does, ends}
use Rattle.card_code.specs.TextOut.{Output, WritesByte, with_pair, pair_char}
use Rattle.typewriter.specs.declared.typing.TypeIo.{TypeIo}
use Rattle.typewriter.specs.Typing.{type_pairs, TypesPairs}

-- who types the rest t from now on has typed the whole t0 from the first
pub record Onward (t : Trace Output ⊤ Stop) (panel : Panel) (now : Seen) (t0 : Trace Output ⊤ Stop) (first_panel : Panel) (first : Seen) : Type 0 where
  pub by : (new_panel : Panel) (after : Seen) (answer : TypeIo) → TypesPairs t panel now new_panel after answer → TypesPairs t0 first_panel first new_panel after answer

pub starts : (t : Trace Output ⊤ Stop) (panel : Panel) (now : Seen) → Onward t panel now t panel now
starts t panel now = record { by = λ new_panel after answer h. h }

-- the character of a pair, and then the rest
abbrev pub pair_first : Option ℕ → Trace Output ⊤ Stop → Trace Output ⊤ Stop
pair_first char t = with_pair char (λ c. does (WritesByte c) t)

-- a zone cell that stops
zone_stops : (a z : ℕ) (rest : List ℕ) (s : Stop) → or_stop a (read_cell z) ≡ Err s → type_pairs a (z ∷ rest) ≡ ends (Err s)
unfolding type_pairs
zone_stops a z [] s e = rw e refl
zone_stops a z (c ∷ cs) s e = rw e refl

-- what is typed from a on
module _ (core : List ℕ) (a : ℕ) where
  -- the end of core
  pub pairs_out : length core ≤ a → type_pairs a (drop a core) ≡ ends (Err Address)
  unfolding type_pairs
  pairs_out h = rw (drop_all a core h)

  -- the zone cannot be read
  pub zone_stop : (s : Stop) → a < length core → read_at core a ≡ Err s → type_pairs a (drop a core) ≡ ends (Err s)
  unfolding type_pairs read_at
  zone_stop s h e =
      let t : nat_lt a (length core) ≡ true = grind (arith, nat_tests) in
      let k = rw t at e in rw (drop_more core a 0 h) (zone_stops a _ (drop (a + 1) core) s k)

  module _ (h : a < length core) (zone : Digit) (zone_is : read_at core a ≡ Ok zone) where
    zone_read : or_stop a (read_cell (slice_index core a)) ≡ Ok zone
    unfolding read_at
    zone_read =
        let t : nat_lt a (length core) ≡ true = grind (arith, nat_tests) in
        rw t at zone_is

    number_by : (s : Stop) (inside : Bool) → nat_lt (a + 1) (length core) ≡ inside → (if inside then or_stop (a + 1) (read_cell (slice_index core (a + 1))) else Err Address) ≡ Err s
        → type_pairs a (drop a core) ≡ ends (Err s)
    unfolding type_pairs
    number_by s true t e =
        let h2 : a + 1 < length core = grind (arith, nat_tests) in
        rw (drop_more core a 0 h, drop_more core (a + 1) 0 h2, zone_read, e) refl
    number_by s false t e =
        let h2 : length core ≤ a + 1 = grind (arith, nat_tests) in
        let same : Address ≡ s = cc in
        rw (drop_more core a 0 h, drop_all (a + 1) core h2, zone_read) (ap (λ (x : Stop). ends (Err x)) same)

    -- the number cannot be read
    pub number_stop : (s : Stop) → read_at core (a + 1) ≡ Err s → type_pairs a (drop a core) ≡ ends (Err s)
    unfolding read_at
    number_stop s e = number_by s (nat_lt (a + 1) (length core)) refl e

    module _ (h2 : a + 1 < length core) (number : Digit) (number_is : read_at core (a + 1) ≡ Ok number) where
      number_read : or_stop (a + 1) (read_cell (slice_index core (a + 1))) ≡ Ok number
      unfolding read_at
      number_read =
          let t : nat_lt (a + 1) (length core) ≡ true = grind (arith, nat_tests) in
          rw t at number_is

      -- it is a record mark
      pub pair_mark : (number.value == 10) ≡ true → type_pairs a (drop a core) ≡ ends (Ok tt)
      unfolding type_pairs
      pair_mark is = rw (drop_more core a 0 h, drop_more core (a + 1) 0 h2, zone_read, number_read, is) refl

      -- or else the pair's character is typed
      pub pair_on : (number.value == 10) ≡ false → type_pairs a (drop a core) ≡ pair_first (pair_char zone number) (type_pairs (a + 2) (drop (a + 2) core))
      unfolding type_pairs
      pair_on is =
          let next : a + 1 + 1 ≡ a + 2 = omega arith in
          rw (drop_more core a 0 h, drop_more core (a + 1) 0 h2, zone_read, number_read, is, next) refl
