-- Files in memory.
use Rattle.std.proofs.Common.{◌≡◌, ◌≢◌, ℕ, zero, suc, ◌+◌, ◌≤◌, ◌<◌, Bool, true, false, List, [], ◌∷◌, length, drop, get_or, set, refl, sym, ◌∙◌, ap, subst, arith, get_or-set_other, get_or-set_same}
use Rattle.std.proofs.lemmas.List.{drop-drop}
use Rattle.std.proofs.lemmas.Bool.Decides.{nat_tests}
use Rattle.std.specs.Prelude.{◌-◌, min, if◌then◌else◌, ◌==◌, string_bytes, bytes_eq}
use Rattle.outside_io.specs.declared.host.Unit as unit
use Rattle.outside_io.specs.declared.host.Unit.TheVariants.{Pack, Report}
use Rattle.outside_io.specs.declared.in_memory.files.NamedFile.{NamedFile}
use Rattle.outside_io.specs.declared.in_memory.files.Files.{Files}
use Rattle.outside_io.specs.World.{one_reading, asked_after, most_faults, all_units, place, same_unit, is_input, is_pack, sectors_of}
use Rattle.outside_io.proofs.Units.{unit_at-place}
use Rattle.outside_io.specs.Files.{bytes_at, bytes_named, file_bytes, flag_of, rest_of, sectors_from, pack_of, asked_of, with_reading, IsIdle}

pub drop_nil : (n : ℕ) → drop {A = ℕ} n [] ≡ []
drop_nil zero = refl
drop_nil (suc n) = refl

pub bytes_at-get : (fs : List NamedFile) (i : ℕ) (d : NamedFile) → i < length fs → bytes_at fs i ≡ (get_or fs i d).bytes.items
bytes_at-get [] i d within = absurd (omega (arith, within))
bytes_at-get (f ∷ fs) zero d within = refl
bytes_at-get (f ∷ fs) (suc i) d within = bytes_at-get fs i d (omega (arith, within))

pub bytes_at-past : (fs : List NamedFile) (i : ℕ) → length fs ≤ i → bytes_at fs i ≡ []
bytes_at-past [] i past = refl
bytes_at-past (f ∷ fs) zero past = absurd (omega (arith, past))
bytes_at-past (f ∷ fs) (suc i) past = bytes_at-past fs i (omega (arith, past))

pub named_found : (fs : List NamedFile) (i : ℕ) (f : NamedFile) (name : List ℕ) → i < length fs → f ≡ get_or fs i f → bytes_eq (string_bytes f.name) name ≡ true → bytes_named (drop i fs) name ≡ bytes_at fs i
named_found [] i f name within is same = absurd (omega (arith, within))
named_found (g ∷ fs) zero f name within is same = let test : bytes_eq (string_bytes g.name) name ≡ true = subst (λ (h : NamedFile). bytes_eq (string_bytes h.name) name ≡ true) is same in rw test refl
named_found (g ∷ fs) (suc i) f name within is same = named_found fs i f name (omega (arith, within)) is same

pub none_named : (fs : List NamedFile) (i : ℕ) (name : List ℕ) → length fs ≤ i → bytes_named (drop i fs) name ≡ bytes_at fs i
none_named [] zero name past = refl
none_named [] (suc i) name past = refl
none_named (g ∷ fs) zero name past = absurd (omega (arith, past))
none_named (g ∷ fs) (suc i) name past = none_named fs i name (omega (arith, past))

pub rest_unbound : (files : Files) (u : unit.Unit) → is_input u ≡ true → flag_of files u ≡ false → rest_of files u ≡ []
rest_unbound files u input flag = rw (input, flag) refl

pub rest_bound : (files : Files) (u : unit.Unit) → is_input u ≡ true → flag_of files u ≡ true → rest_of files u ≡ drop (get_or files.position (place u) 0) (bytes_at files.named.items (get_or files.opened (place u) 0))
rest_bound files u input flag = rw (input, flag) refl

-- what a unit has left, by the place of its flag and of its file
pub rest_at : (files : Files) (u : unit.Unit) (p : ℕ) (file : NamedFile) → is_input u ≡ true → p ≡ place u → get_or files.bound p false ≡ true
    → get_or files.opened p 0 < length files.named.items → file ≡ get_or files.named.items (get_or files.opened p 0) file
    → rest_of files u ≡ drop (get_or files.position p 0) file.bytes.items
rest_at files u p file input is flag within found =
    let flag_u : flag_of files u ≡ true = subst (λ (q : ℕ). get_or files.bound q false ≡ true) is flag in
    rest_bound files u input flag_u
    ∙ ap (λ (q : ℕ). drop (get_or files.position q 0) (bytes_at files.named.items (get_or files.opened q 0))) (sym is)
    ∙ ap (λ (bytes : List ℕ). drop (get_or files.position p 0) bytes) (bytes_at-get files.named.items (get_or files.opened p 0) file within ∙ ap (λ (f : NamedFile). f.bytes.items) (sym found))

pub rest_none : (files : Files) (u : unit.Unit) (p : ℕ) → is_input u ≡ true → p ≡ place u → get_or files.bound p false ≡ true
    → length files.named.items ≤ get_or files.opened p 0 → rest_of files u ≡ []
rest_none files u p input is flag past =
    let flag_u : flag_of files u ≡ true = subst (λ (q : ℕ). get_or files.bound q false ≡ true) is flag in
    rest_bound files u input flag_u
    ∙ ap (λ (bytes : List ℕ). drop (get_or files.position (place u) 0) bytes) (bytes_at-past files.named.items (get_or files.opened (place u) 0) (subst (λ (q : ℕ). length files.named.items ≤ get_or files.opened q 0) is past))
    ∙ drop_nil (get_or files.position (place u) 0)

position_step : (ps : List ℕ) (i j n : ℕ) → i < length ps → get_or (set ps i (get_or ps i 0 + n)) j 0 ≡ (if i == j then get_or ps j 0 + n else get_or ps j 0)
position_step ps i j n fits = grind (arith, nat_tests, get_or-set_other, get_or-set_same)

rest_moved : (b input flag : Bool) (n old now : ℕ) (bytes : List ℕ) → now ≡ (if b then old + n else old)
    → (if input then (if flag then drop now bytes else []) else []) ≡ (if b then drop n (if input then (if flag then drop old bytes else []) else []) else (if input then (if flag then drop old bytes else []) else []))
rest_moved true true true n old now bytes is = ap (λ (k : ℕ). drop k bytes) is ∙ sym (drop-drop n old bytes)
rest_moved true true false n old now bytes is = sym (drop_nil n)
rest_moved true false flag n old now bytes is = sym (drop_nil n)
rest_moved false true true n old now bytes is = ap (λ (k : ℕ). drop k bytes) is
rest_moved false true false n old now bytes is = refl
rest_moved false false flag n old now bytes is = refl

-- a unit's place moves on
pub rest_step : (files : Files) (u v : unit.Unit) (p n : ℕ) → p ≡ place u → place u < length files.position
    → rest_of (record files { position = set files.position p (get_or files.position p 0 + n) }) v ≡ (if same_unit u v then drop n (rest_of files v) else rest_of files v)
rest_step files u v p n is fits =
    rest_moved (same_unit u v) (is_input v) (flag_of files v) n (get_or files.position (place v) 0) _ (bytes_at files.named.items (get_or files.opened (place v) 0))
    (ap (λ (q : ℕ). get_or (set files.position q (get_or files.position q 0 + n)) (place v) 0) is ∙ position_step files.position (place u) (place v) n fits)

pub eq_from_test : (m n : ℕ) → (m == n) ≡ true → m ≡ n
eq_from_test m n same = grind (arith, nat_tests)

pub ne_from_test : (m n : ℕ) → (m == n) ≡ false → n ≢ m
ne_from_test m n same equal = grind (arith, nat_tests)

pub same_unit-eq : (u v : unit.Unit) → same_unit u v ≡ true → u ≡ v
same_unit-eq u v same =
    sym (unit_at-place u Report) ∙ ap (λ (n : ℕ). get_or all_units n Report) (eq_from_test (place u) (place v) same) ∙ unit_at-place v Report

asked_by : (files : Files) (u v : unit.Unit) (b : Bool) (bytes : List ℕ) (n e : ℕ) → same_unit u v ≡ b → place u < length files.last → place u < length files.ends → length bytes ≡ n
    → e ≡ get_or files.ends (place u) 0 + min (if n == 0 then 1 else 0) (most_faults - get_or files.ends (place u) 0)
    → asked_of (record files { last = set files.last (place u) n; ends = set files.ends (place u) e }) v ≡ (if b then asked_after (one_reading bytes) (asked_of files v) else asked_of files v)
asked_by files u v true bytes n e same l m size is =
    subst (λ w. asked_of (record files { last = set files.last (place u) n; ends = set files.ends (place u) e }) w ≡ asked_after (one_reading bytes) (asked_of files w)) (same_unit-eq u v same)
    (λ i. record {
      last = (get_or-set_same files.last (place u) n 0 l ∙ sym size) i;
      ends = (get_or-set_same files.ends (place u) e 0 m ∙ is ∙ ap (λ (k : ℕ). get_or files.ends (place u) 0 + min (if k == 0 then 1 else 0) (most_faults - get_or files.ends (place u) 0)) (sym size)) i;
    })
asked_by files u v false bytes n e same l m size is =
    let other : place v ≢ place u = ne_from_test (place u) (place v) same in
    λ i. record { last = get_or-set_other files.last (place u) (place v) n 0 other i; ends = get_or-set_other files.ends (place u) (place v) e 0 other i }

-- a reading is counted
pub asked_step : (files : Files) (u v : unit.Unit) (p n e : ℕ) (bytes : List ℕ) → p ≡ place u → place u < length files.last → place u < length files.ends → length bytes ≡ n
    → e ≡ get_or files.ends p 0 + min (if n == 0 then 1 else 0) (most_faults - get_or files.ends p 0)
    → asked_of (record files { last = set files.last p n; ends = set files.ends p e }) v ≡ with_reading u bytes (asked_of files) v
asked_step files u v p n e bytes is l m size counted =
    subst (λ (k : ℕ). asked_of (record files { last = set files.last k n; ends = set files.ends k e }) v ≡ with_reading u bytes (asked_of files) v) (sym is)
    (asked_by files u v (same_unit u v) bytes n e refl l m size (subst (λ (k : ℕ). e ≡ get_or files.ends k 0 + min (if n == 0 then 1 else 0) (most_faults - get_or files.ends k 0)) is counted))

opened_rest : (input : Bool) (now old : List ℕ) → (if input then now else []) ≡ (if input then now else (if input then old else []))
opened_rest true now old = refl
opened_rest false now old = refl

opened_same : (files : Files) (u : unit.Unit) (file : ℕ) (name : List ℕ) → place u < length files.bound → place u < length files.opened → place u < length files.position
    → bytes_at files.named.items file ≡ file_bytes files name
    → rest_of (record files { bound = set files.bound (place u) true; opened = set files.opened (place u) file; position = set files.position (place u) 0 }) u ≡ (if is_input u then file_bytes files name else rest_of files u)
opened_same files u file name b o p found =
    let flag : get_or (set files.bound (place u) true) (place u) false ≡ true = get_or-set_same files.bound (place u) true false b in
    let open_file : get_or (set files.opened (place u) file) (place u) 0 ≡ file = get_or-set_same files.opened (place u) file 0 o in
    let start : get_or (set files.position (place u) 0) (place u) 0 ≡ 0 = get_or-set_same files.position (place u) 0 0 p in
    rw (flag, open_file, start, found) (opened_rest (is_input u) _ _)

opened_other : (files : Files) (u v : unit.Unit) (file : ℕ) → place v ≢ place u
    → rest_of (record files { bound = set files.bound (place u) true; opened = set files.opened (place u) file; position = set files.position (place u) 0 }) v ≡ rest_of files v
opened_other files u v file other =
    let flag : get_or (set files.bound (place u) true) (place v) false ≡ get_or files.bound (place v) false = get_or-set_other files.bound (place u) (place v) true false other in
    let open_file : get_or (set files.opened (place u) file) (place v) 0 ≡ get_or files.opened (place v) 0 = get_or-set_other files.opened (place u) (place v) file 0 other in
    let start : get_or (set files.position (place u) 0) (place v) 0 ≡ get_or files.position (place v) 0 = get_or-set_other files.position (place u) (place v) 0 0 other in
    rw (flag, open_file, start) refl

by_same : (files : Files) (u v : unit.Unit) (file : ℕ) (name : List ℕ) (b : Bool) → same_unit u v ≡ b → place u < length files.bound → place u < length files.opened → place u < length files.position
    → bytes_at files.named.items file ≡ file_bytes files name
    → rest_of (record files { bound = set files.bound (place u) true; opened = set files.opened (place u) file; position = set files.position (place u) 0 }) v ≡ (if b then (if is_input u then file_bytes files name else rest_of files v) else rest_of files v)
by_same files u v file name true same b o p found = subst (λ w. rest_of (record files { bound = set files.bound (place u) true; opened = set files.opened (place u) file; position = set files.position (place u) 0 }) w ≡ (if is_input u then file_bytes files name else rest_of files w)) (same_unit-eq u v same) (opened_same files u file name b o p found)
by_same files u v file name false same b o p found = opened_other files u v file (ne_from_test (place u) (place v) same)

-- a unit reads a file from its start
pub rest_opened : (files : Files) (u v : unit.Unit) (p file : ℕ) (name : List ℕ) → p ≡ place u → place u < length files.bound → place u < length files.opened → place u < length files.position
    → bytes_at files.named.items file ≡ file_bytes files name
    → rest_of (record files { bound = set files.bound p true; opened = set files.opened p file; position = set files.position p 0 }) v ≡ (if same_unit u v then (if is_input u then file_bytes files name else rest_of files v) else rest_of files v)
rest_opened files u v p file name is b o q found =
    subst (λ (k : ℕ). rest_of (record files { bound = set files.bound k true; opened = set files.opened k file; position = set files.position k 0 }) v ≡ (if same_unit u v then (if is_input u then file_bytes files name else rest_of files v) else rest_of files v)) (sym is)
    (by_same files u v file name (same_unit u v) refl b o q found)

-- the pack is the unit Pack
pub is_pack-same : (u : unit.Unit) → same_unit u Pack ≡ is_pack u
is_pack-same Pack = refl
is_pack-same u = refl

pack_by : (files : Files) (u : unit.Unit) (file : ℕ) (name : List ℕ) (b : Bool) → same_unit u Pack ≡ b → place u < length files.bound → place u < length files.opened → bytes_at files.named.items file ≡ file_bytes files name
    → pack_of (record files { bound = set files.bound (place u) true; opened = set files.opened (place u) file; position = set files.position (place u) 0 }) ≡ (if b then sectors_of (file_bytes files name) else pack_of files)
pack_by files u file name true same b o found =
    let at_pack : place Pack ≡ place u = sym (eq_from_test (place u) (place Pack) same) in
    let flag : get_or (set files.bound (place u) true) (place Pack) false ≡ true = rw at_pack (get_or-set_same files.bound (place u) true false b) in
    let open_file : get_or (set files.opened (place u) file) (place Pack) 0 ≡ file = rw at_pack (get_or-set_same files.opened (place u) file 0 o) in
    rw (flag, open_file, found) refl
pack_by files u file name false same b o found =
    let other : place Pack ≢ place u = ne_from_test (place u) (place Pack) same in
    let flag : get_or (set files.bound (place u) true) (place Pack) false ≡ get_or files.bound (place Pack) false = get_or-set_other files.bound (place u) (place Pack) true false other in
    let open_file : get_or (set files.opened (place u) file) (place Pack) 0 ≡ get_or files.opened (place Pack) 0 = get_or-set_other files.opened (place u) (place Pack) file 0 other in
    rw (flag, open_file) refl

-- the pack once a file is opened for a unit
pub pack_opened : (files : Files) (u : unit.Unit) (p file : ℕ) (name : List ℕ) → p ≡ place u → place u < length files.bound → place u < length files.opened → bytes_at files.named.items file ≡ file_bytes files name
    → pack_of (record files { bound = set files.bound p true; opened = set files.opened p file; position = set files.position p 0 }) ≡ (if is_pack u then sectors_of (file_bytes files name) else pack_of files)
pack_opened files u p file name is b o found =
    subst (λ (k : ℕ). pack_of (record files { bound = set files.bound k true; opened = set files.opened k file; position = set files.position k 0 }) ≡ (if is_pack u then sectors_of (file_bytes files name) else pack_of files)) (sym is)
    (pack_by files u file name (same_unit u Pack) refl b o found ∙ ap (λ (b : Bool). if b then sectors_of (file_bytes files name) else pack_of files) (is_pack-same u))

-- where no unit is in use, a file more changes no pack
pub pack_added : (old new : Files) → IsIdle old → flag_of new ≡ flag_of old → pack_of new ≡ pack_of old
pack_added old new idle flags =
    let still : flag_of new Pack ≡ false = ap (λ (f : unit.Unit → Bool). f Pack) flags ∙ idle Pack in
    ap (λ (b : Bool). sectors_from b (bytes_at new.named.items (get_or new.opened (place Pack) 0))) still ∙ sym (ap (λ (b : Bool). sectors_from b (bytes_at old.named.items (get_or old.opened (place Pack) 0))) (idle Pack))
