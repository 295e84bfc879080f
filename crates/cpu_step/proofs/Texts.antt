-- The texts of the units that a machine writes.
use Rattle.std.proofs.Common.{◌≡◌, ℕ, Bool, true, false, List, [], ◌++◌, refl, ap, subst, append_assoc}
use Rattle.std.proofs.Math.Path.{fun_ext}
use Rattle.std.proofs.lemmas.Bool.{true≢false}
use Rattle.std.proofs.lemmas.List.{append-nil}
use Rattle.std.specs.Prelude.{Option, Some, None, if◌then◌else◌}
use Rattle.outside_io.specs.declared.host.Unit as unit
use Rattle.outside_io.specs.World.{World, same_unit, at, world_after_put, no_files}
use Rattle.outside_io.proofs.Worlds.{added_to-nil, added_to-append}
use Rattle.outside_io.proofs.InMemory.{same_unit-eq}
use Rattle.cpu_step.specs.State.{UnitTexts}
use Rattle.cpu_step.specs.Effects.{with_bytes}
use Rattle.cpu_step.specs.Machine.{is_written, machine_texts}

pub bytes_nil : (o : Option (List ℕ)) → with_bytes [] o ≡ o
bytes_nil None = refl
bytes_nil (Some text) = ap (λ (x : List ℕ). Some x) (append-nil text)

pub bytes_on : (a b : List ℕ) (o : Option (List ℕ)) → with_bytes b (with_bytes a o) ≡ with_bytes (a ++ b) o
bytes_on a b None = refl
bytes_on a b (Some text) = ap (λ (x : List ℕ). Some x) (append_assoc text a b)

-- no bytes more, and some after others
pub put_none : (u : unit.Unit) (texts : UnitTexts) → at u (with_bytes []) texts ≡ texts
put_none u texts = ap (λ (w : World). w.written) (added_to-nil u (record (no_files true) { written = texts }))

pub put_on : (u : unit.Unit) (a b : List ℕ) (texts : UnitTexts) → at u (with_bytes b) (at u (with_bytes a) texts) ≡ at u (with_bytes (a ++ b)) texts
put_on u a b texts = ap (λ (w : World). w.written) (added_to-append u a b (record (no_files true) { written = texts }))

-- where no text changed
pub texts_same : (v w : World) → ((u : unit.Unit) → w.written u ≡ v.written u) → machine_texts w ≡ machine_texts v
texts_same v w same = λ i u. if is_written u then same u i else None

put_by : (own same : Bool) (bs : List ℕ) (o : Option (List ℕ)) → (if own then (if same then with_bytes bs o else o) else None) ≡ (if same then with_bytes bs (if own then o else None) else (if own then o else None))
put_by true same bs o = refl
put_by false true bs o = refl
put_by false false bs o = refl

-- where bytes were put on a unit
pub texts_put : (u : unit.Unit) (bs : List ℕ) (w : World) → machine_texts (world_after_put u bs w) ≡ at u (with_bytes bs) (machine_texts w)
texts_put u bs w = fun_ext (λ v. put_by (is_written v) (same_unit u v) bs (w.written v))

-- the machine writes a unit, or doesn't
pub same_written : (u : unit.Unit) (b : Bool) → is_written u ≡ b → (x : unit.Unit) → same_unit u x ≡ true → is_written x ≡ b
same_written u b own x same = subst (λ (v : unit.Unit). is_written v ≡ b) (same_unit-eq u x same) own

other_by : (own same : Bool) (bs : List ℕ) (o : Option (List ℕ)) → (same ≡ true → own ≡ false) → (if own then (if same then with_bytes bs o else o) else None) ≡ (if own then o else None)
other_by true true bs o is = absurd (true≢false (is refl))
other_by true false bs o is = refl
other_by false same bs o is = refl

-- where they were put on one that it doesn't write
pub texts_other : (u : unit.Unit) (bs : List ℕ) (w : World) → is_written u ≡ false → machine_texts (world_after_put u bs w) ≡ machine_texts w
texts_other u bs w other = fun_ext (λ v. other_by (is_written v) (same_unit u v) bs (w.written v) (same_written u false other v))
