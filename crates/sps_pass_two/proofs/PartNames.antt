-- The parts of operands by operations and by their names.
use Rattle.std.proofs.Common.{◌≡◌, ◌∙◌, ℕ, Bool, true, false, ◌&&◌, ◌==◌, List, [], ◌∷◌, Option, Some, None, is_some, unwrap_or, bytes_eq, if◌then◌else◌, refl, sym, ap, arith}
use Rattle.std.specs.Prelude.{codes, not, ◌||◌}
use Rattle.std.specs.List.{list_all}
use Rattle.std.proofs.lemmas.Bool.Decides.{nat_tests}
use Rattle.std.proofs.lemmas.Slice.Eq.{bytes_eq-Decides}
use Rattle.line_words.specs.Blanks.{trimmed}
use Rattle.line_words.specs.Rows.{NameRow, value_by_name}
use Rattle.sps_ops.specs.declared.operation.Operation.{Operation}
use Rattle.sps_ops.specs.declared.operation.Operation.TheVariants.{Declare}
use Rattle.sps_ops.specs.declared.operation.Declarative.TheVariants.{Ds, Dss, Das, Dac, Dsa, Dnb, Dgm, Dda, Dorg, Dend}
use Rattle.sps_ops.specs.Operations.{operations, lookup}
use Rattle.sps_scan.specs.Operands.{part_counts, most_parts, has_text, parts_and_remark, dac_operands}
use Rattle.sps_expr.proofs.Cases.{by_bool, and_parts}
use Rattle.sps_pass_two.specs.PartNames.{PartsLaw}

-- the number of parts, and whether there is a text, by the operation
parts_by : Option Operation → ℕ
parts_by (Some (Declare Ds)) = 2
parts_by (Some (Declare Dss)) = 2
parts_by (Some (Declare Das)) = 2
parts_by (Some (Declare Dnb)) = 2
parts_by (Some (Declare Dsa)) = 10
parts_by (Some (Declare Dda)) = 4
parts_by (Some (Declare Dgm)) = 1
parts_by (Some (Declare Dorg)) = 1
parts_by (Some (Declare Dend)) = 1
parts_by other = 3

text_by : Option Operation → Bool
text_by (Some (Declare Dac)) = true
text_by other = false

same : Bool → Bool → Bool
same a b = (a && b) || (not a && not b)

same_is : (a b : Bool) → same a b ≡ true → a ≡ b
unfolding same
same_is true true h = refl
same_is true false h = absurd cc
same_is false true h = absurd cc
same_is false false h = refl

-- a row's name has the parts of its operation
is_kept : NameRow Operation → Bool
is_kept r = (most_parts r.name == parts_by (Some r.value)) && same (has_text r.name) (text_by (Some r.value))

-- a name has the parts of its operation
abbrev Kept : List ℕ → Option Operation → Type 0
Kept name o = (most_parts name ≡ parts_by o) × (has_text name ≡ text_by o)

kept_row : (r : NameRow Operation) → is_kept r ≡ true → Kept r.name (Some r.value)
unfolding is_kept
kept_row r h =
    let two = and_parts (most_parts r.name == parts_by (Some r.value)) (same (has_text r.name) (text_by (Some r.value))) h in
    (grind (arith, nat_tests), same_is _ _ two.1)

kept_in : (rows : List (NameRow Operation)) (name : List ℕ) → list_all is_kept rows ≡ true → (value_by_name rows name ≡ None → Kept name None) → Kept name (value_by_name rows name)
unfolding value_by_name
kept_in [] name all none = none refl
kept_in (r ∷ rs) name all none =
    let two = and_parts (is_kept r) (list_all is_kept rs) all in
    by_bool (bytes_eq name r.name)
    (λ t. rw (t, (bytes_eq-Decides name r.name).0 t) (kept_row r two.0))
    (λ f. rw f (kept_in rs name two.1 (λ n. none (rw f n))))

all_kept : list_all is_kept operations ≡ true
unfolding is_kept same parts_by text_by value_by_name
all_kept = refl

-- a name that no operation has has no row in a table whose names all are those of operations
absent : {A B : Type 0} (found : List ℕ → Option A) (rows : List (NameRow B)) (name : List ℕ) → list_all (λ r. is_some (found r.name)) rows ≡ true → found name ≡ None → value_by_name rows name ≡ None
unfolding value_by_name
absent found [] name all none = refl
absent {A} {B} found (r ∷ rs) name all none =
    let two = and_parts (is_some (found r.name)) (list_all (λ (r : NameRow B). is_some (found r.name)) rs) all in
    by_bool (bytes_eq name r.name)
    (λ t. absurd (let k : found r.name ≡ None = ap found (sym ((bytes_eq-Decides name r.name).0 t)) ∙ none in let h = rw k at two.0 in cc))
    (λ f. rw f (absent found rs name two.1 none))

counts_named : list_all (λ r. is_some (value_by_name operations r.name)) part_counts ≡ true
unfolding value_by_name
counts_named = refl

dac_there : is_some (value_by_name operations (codes "DAC")) ≡ true
unfolding value_by_name
dac_there = refl

none_kept : (name : List ℕ) → value_by_name operations name ≡ None → Kept name None
unfolding parts_by text_by
none_kept name none =
    let text : has_text name ≡ false = by_bool (has_text name)
    (λ t. absurd (let k = ap (value_by_name operations) (sym ((bytes_eq-Decides name (codes "DAC")).0 t)) ∙ none in let h = rw k at dac_there in cc))
    (λ f. f) in
    (ap (λ o. unwrap_or o 3) (absent (value_by_name operations) part_counts name counts_named none), text)

kept : (operation : List ℕ) → Kept (trimmed operation) (lookup operation)
kept operation = kept_in operations (trimmed operation) all_kept (none_kept (trimmed operation))

pub dac_named : (operation : List ℕ) → lookup operation ≡ Some (Declare Dac) → has_text (trimmed operation) ≡ true
unfolding text_by
dac_named operation dac = (kept operation).1 ∙ ap text_by dac

pub parted_alike : PartsLaw
parted_alike a b text e =
    let parts = (kept a).0 ∙ (ap parts_by e ∙ sym (kept b).0) in
    let texts = (kept a).1 ∙ (ap text_by e ∙ sym (kept b).1) in
    ap (λ (n : ℕ). if has_text (trimmed a) then dac_operands text else parts_and_remark n text) parts
    ∙ ap (λ (t : Bool). if t then dac_operands text else parts_and_remark (most_parts (trimmed b)) text) texts
