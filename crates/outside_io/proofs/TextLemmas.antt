-- Texts in memory.
use Rattle.std.proofs.Common.{◌≡◌, ◌≢◌, ℕ, zero, suc, ◌+◌, ◌-◌, ◌≤◌, ◌<◌, Bool, true, false, List, [], ◌∷◌, ◌++◌, length, set, refl, sym, ◌∙◌, ap, subst, arith}
use Rattle.std.proofs.lemmas.Bool.Decides.{nat_tests}
use Rattle.std.specs.Prelude.{if◌then◌else◌, ◌==◌, slice_index_or, Option, Some, unwrap_or}
use Rattle.outside_io.specs.declared.host.Unit as unit
use Rattle.outside_io.specs.declared.in_memory.texts.OutputText.{OutputText}
use Rattle.outside_io.specs.World.{Limits, place, same_unit}
use Rattle.outside_io.specs.Texts.{output_at, measure_at, whole_room}
use Rattle.outside_io.specs.declared.in_memory.mem.MemHost.{MemHost}
use Rattle.outside_io.specs.Mem.{mem_world, mem_seen, IsWithinRoom}
use Rattle.outside_io.specs.CallCounts.{FailsNowhere}
use Rattle.outside_io.proofs.InMemory.{eq_from_test, ne_from_test, same_unit-eq}

-- the texts stay empty as an empty one is made
pub no_text-push : (os : List OutputText) (o : OutputText) → ((k : ℕ) → output_at os k ≡ []) → o.text.items ≡ [] → (k : ℕ) → output_at (os ++ o ∷ []) k ≡ []
no_text-push [] o none here zero = here
no_text-push [] o none here (suc k) = refl
no_text-push (p ∷ os) o none here zero = none 0
no_text-push (p ∷ os) o none here (suc k) = no_text-push os o (λ j. none (suc j)) here k

-- a number of each text stays as one more is made
pub measure-push : (of : OutputText → ℕ) (os : List OutputText) (o : OutputText) (size : ℕ → ℕ) → ((k : ℕ) → k < length os → measure_at of os k ≡ size k) → of o ≡ size (length os) → (k : ℕ) → k < length os + 1 → measure_at of (os ++ o ∷ []) k ≡ size k
measure-push of [] o size each here zero within = here
measure-push of [] o size each here (suc k) within = absurd (omega (arith, within))
measure-push of (p ∷ os) o size each here zero within = each 0 (omega arith)
measure-push of (p ∷ os) o size each here (suc k) within = measure-push of os o (λ j. size (suc j)) (λ j h. each (suc j) (omega (arith, h))) here k (omega (arith, within))

text_at-set_same : (os : List OutputText) (i : ℕ) (o : OutputText) → i < length os → output_at (set os i o) i ≡ o.text.items
text_at-set_same [] i o within = absurd (omega (arith, within))
text_at-set_same (p ∷ os) zero o within = refl
text_at-set_same (p ∷ os) (suc i) o within = text_at-set_same os i o (omega (arith, within))

text_at-set_other : (os : List OutputText) (i j : ℕ) (o : OutputText) → j ≢ i → output_at (set os i o) j ≡ output_at os j
text_at-set_other [] i j o other = refl
text_at-set_other (p ∷ os) zero zero o other = absurd (other refl)
text_at-set_other (p ∷ os) zero (suc j) o other = refl
text_at-set_other (p ∷ os) (suc i) zero o other = refl
text_at-set_other (p ∷ os) (suc i) (suc j) o other = text_at-set_other os i j o (λ e. other (ap suc e))

-- a number is another then, or the same
measure-set_by : (of : OutputText → ℕ) (os : List OutputText) (i j : ℕ) (o : OutputText) → i < length os → measure_at of (set os i o) j ≡ (if i == j then of o else measure_at of os j)
measure-set_by of [] i j o within = absurd (omega (arith, within))
measure-set_by of (p ∷ os) zero zero o within = refl
measure-set_by of (p ∷ os) zero (suc j) o within = let test : (0 == suc j) ≡ false = grind (arith, nat_tests) in rw test refl
measure-set_by of (p ∷ os) (suc i) zero o within = let test : (suc i == 0) ≡ false = grind (arith, nat_tests) in rw test refl
measure-set_by of (p ∷ os) (suc i) (suc j) o within = let test : (suc i == suc j) ≡ (i == j) = grind (arith, nat_tests) in rw test (measure-set_by of os i j o (omega (arith, within)))

pub measure-set : (of : OutputText → ℕ) (os : List OutputText) (u v : unit.Unit) (p : ℕ) (o : OutputText) → p ≡ place u → place u < length os → measure_at of (set os p o) (place v) ≡ (if same_unit u v then of o else measure_at of os (place v))
measure-set of os u v p o is within = ap (λ (k : ℕ). measure_at of (set os k o) (place v)) is ∙ measure-set_by of os (place u) (place v) o within

pub measure-set_same : (of : OutputText → ℕ) (os : List OutputText) (i j : ℕ) (o : OutputText) → of o ≡ measure_at of os i → measure_at of (set os i o) j ≡ measure_at of os j
measure-set_same of [] i j o same = refl
measure-set_same of (p ∷ os) zero zero o same = same
measure-set_same of (p ∷ os) zero (suc j) o same = refl
measure-set_same of (p ∷ os) (suc i) zero o same = refl
measure-set_same of (p ∷ os) (suc i) (suc j) o same = measure-set_same of os i j o same

text_by : (os : List OutputText) (i j : ℕ) (o : OutputText) (b : Bool) → (i == j) ≡ b → i < length os → output_at (set os i o) j ≡ (if b then o.text.items else output_at os j)
text_by os i j o true test within = subst (λ (k : ℕ). output_at (set os i o) k ≡ o.text.items) (eq_from_test i j test) (text_at-set_same os i o within)
text_by os i j o false test within = text_at-set_other os i j o (ne_from_test i j test)

-- one text is another then
pub text_at-set : (os : List OutputText) (u v : unit.Unit) (p : ℕ) (o : OutputText) → p ≡ place u → place u < length os → output_at (set os p o) (place v) ≡ (if same_unit u v then o.text.items else output_at os (place v))
text_at-set os u v p o is within = ap (λ (k : ℕ). output_at (set os k o) (place v)) is ∙ text_by os (place u) (place v) o (same_unit u v) refl within

pub text_at-get : (os : List OutputText) (i : ℕ) (o : OutputText) → i < length os → o ≡ slice_index_or os i o → output_at os i ≡ o.text.items
text_at-get [] i o within is = absurd (omega (arith, within))
text_at-get (p ∷ os) zero o within is = ap (λ (q : OutputText). q.text.items) (sym is)
text_at-get (p ∷ os) (suc i) o within is = text_at-get os i o (omega (arith, within)) is

pub measure-get : (of : OutputText → ℕ) (os : List OutputText) (i : ℕ) (o : OutputText) → i < length os → o ≡ slice_index_or os i o → measure_at of os i ≡ of o
measure-get of [] i o within is = absurd (omega (arith, within))
measure-get of (p ∷ os) zero o within is = ap of (sym is)
measure-get of (p ∷ os) (suc i) o within is = measure-get of os i o (omega (arith, within)) is

-- no text passes its room
pub text_within : (os : List OutputText) (i : ℕ) → length (output_at os i) ≤ measure_at whole_room os i
text_within [] i = omega arith
text_within (o ∷ os) zero = omega (arith, o.within)
text_within (o ∷ os) (suc i) = text_within os i

-- and so no output of a host in memory does
pub all_within_room : (host : MemHost) → IsWithinRoom host
all_within_room host = record { each = λ u. text_within host.texts.outputs.items (place u) }

-- nor did it count a fault without a cause
pub no_fault_counted : (host : MemHost) (l : Limits) → (mem_world host).limits ≡ Some l → FailsNowhere l → (mem_seen host).faults ≡ 0
no_fault_counted host l is nowhere = host.causes (subst FailsNowhere (ap (λ (o : Option Limits). unwrap_or o l) (sym is)) nowhere)

-- what is added where the units agree, added where they don't
pub grown : (u v : unit.Unit) (texts : unit.Unit → List ℕ) (more : List ℕ) (b : Bool) → same_unit u v ≡ b → (if b then texts u ++ more else texts v) ≡ (if b then texts v ++ more else texts v)
grown u v texts more true same = ap (λ w. texts w ++ more) (same_unit-eq u v same)
grown u v texts more false same = refl

-- and so is what is taken from a number
pub lowered : (u v : unit.Unit) (of : unit.Unit → ℕ) (n : ℕ) (b : Bool) → same_unit u v ≡ b → (if b then of u - n else of v) ≡ (if b then of v - n else of v)
lowered u v of n true same = ap (λ w. of w - n) (same_unit-eq u v same)
lowered u v of n false same = refl
