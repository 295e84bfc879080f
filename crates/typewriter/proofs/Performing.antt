-- To write the rest is to write the whole.
use Rattle.std.proofs.Common.{nat_lt, ℕ, ◌≡◌, ◌+◌, ◌<◌, ◌≤◌, ◌==◌, List, [], length, drop, true, false, Ok, Err, sym, ◌∙◌, arith}
use Rattle.std.proofs.lemmas.List.{drop_more, drop_all}
use Rattle.std.proofs.lemmas.Bool.Decides.{nat_tests}
use Rattle.std.specs.Prelude.{⊤}
use Rattle.digit_core.specs.declared.Digit.{Digit}
use Rattle.outside_io.specs.declared.host.Unit.TheVariants as units
use Rattle.outside_io.specs.World.{Seen, Goes, world_after_put}
use Rattle.outside_io.specs.World as world
use Rattle.outside_io.proofs.Worlds.{added_to-nil}
use Rattle.addr_indirect.specs.declared.Stop.{Stop}
use Rattle.addr_indirect.specs.declared.Stop.TheVariants.{Address}
use Rattle.addr_indirect.specs.Reading.{read_at}
use Rattle.traces.specs.Trace.{Trace, does, ends}
use Rattle.typewriter.specs.declared.typing.TypeIo.{TypeIo}
use Rattle.typewriter.specs.declared.typing.TypeIo.TheVariants as io
use Rattle.card_code.specs.Characters.{object_char}
use Rattle.typewriter.specs.Typing.{type_cells, dump_cells, Types}

-- who writes the rest t from now on has written the whole t0 from the first
pub record Onward (t : Trace ℕ ⊤ Stop) (now : Seen) (t0 : Trace ℕ ⊤ Stop) (first : Seen) : Type 0 where
  pub by : (after : Seen) (answer : TypeIo) → Types t now after answer → Types t0 first after answer

nothing : (now : Seen) → Goes now now (world_after_put units.Typed [] now.world)
nothing now = record { later = omega arith; world = sym (added_to-nil units.Typed now.world) }

pub failed_now : (t : Trace ℕ ⊤ Stop) (now after : Seen) → world.Fails now after → Types t now after io.Failed
failed_now t now after fails = record { done = 0; goes = record { later = fails.later; world = fails.world ∙ sym (added_to-nil units.Typed now.world) }; rose = fails.rose }

-- what is typed from a on
module _ (core : List ℕ) (a : ℕ) where
  pub type_out : length core ≤ a → type_cells a (drop a core) ≡ ends (Err Address)
  unfolding type_cells
  type_out h = rw (drop_all a core h)

  module _ (h : a < length core) where
    pub type_stop : (s : Stop) → read_at core a ≡ Err s → type_cells a (drop a core) ≡ ends (Err s)
    unfolding type_cells read_at
    type_stop s e =
        let t : nat_lt a (length core) ≡ true = grind (arith, nat_tests) in
        let k = rw t at e in rw (drop_more core a 0 h, k)

    pub type_mark : (d : Digit) → read_at core a ≡ Ok d → (d.value == 10) ≡ true → type_cells a (drop a core) ≡ ends (Ok tt)
    unfolding type_cells read_at
    type_mark d e f =
        let t : nat_lt a (length core) ≡ true = grind (arith, nat_tests) in
        let k = rw t at e in rw (drop_more core a 0 h, k, f)

    pub type_on : (d : Digit) → read_at core a ≡ Ok d → (d.value == 10) ≡ false → type_cells a (drop a core) ≡ does (object_char d) (type_cells (a + 1) (drop (a + 1) core))
    unfolding type_cells read_at
    type_on d e f =
        let t : nat_lt a (length core) ≡ true = grind (arith, nat_tests) in
        let k = rw t at e in rw (drop_more core a 0 h, k, f)

-- what is typed from a on, to the end of core
module _ (core : List ℕ) (a : ℕ) where
  pub dump_ends : length core ≤ a → dump_cells a (drop a core) ≡ ends (Ok tt)
  unfolding dump_cells
  dump_ends h = rw (drop_all a core h)

  module _ (h : a < length core) where
    pub dump_stop : (s : Stop) → read_at core a ≡ Err s → dump_cells a (drop a core) ≡ ends (Err s)
    unfolding dump_cells read_at
    dump_stop s e =
        let t : nat_lt a (length core) ≡ true = grind (arith, nat_tests) in
        let k = rw t at e in rw (drop_more core a 0 h, k)

    pub dump_on : (d : Digit) → read_at core a ≡ Ok d → dump_cells a (drop a core) ≡ does (object_char d) (dump_cells (a + 1) (drop (a + 1) core))
    unfolding dump_cells read_at
    dump_on d e =
        let t : nat_lt a (length core) ≡ true = grind (arith, nat_tests) in
        let k = rw t at e in rw (drop_more core a 0 h, k)

pub starts : (t : Trace ℕ ⊤ Stop) (now : Seen) → Onward t now t now
starts t now = record { by = λ after answer h. h }
