-- What the calls on files in memory do to the world.
use Rattle.std.proofs.Common.{◌≡◌, ℕ, ◌-◌, ◌≤◌, Bool, true, false, List, [], ◌++◌, length, take, drop, get_or, refl, sym, ◌∙◌, ap, subst, arith}
use Rattle.std.proofs.Math.Path.{fun_ext}
use Rattle.std.proofs.lemmas.List.{take-append-drop, length-take}
use Rattle.std.specs.Prelude.{Option, Some, option_map, if◌then◌else◌, bytes_eq}
use Rattle.outside_io.specs.declared.host.Unit as unit
use Rattle.outside_io.specs.declared.host.Unit.TheVariants.{Pack}
use Rattle.outside_io.specs.declared.in_memory.files.NamedFile.{NamedFile}
use Rattle.outside_io.specs.declared.in_memory.files.Files.{Files}
use Rattle.outside_io.specs.World.{Limits, Asked, one_reading, asked_after, place, same_unit, is_input, is_output, is_pack, at, sectors_after_binding, empty_pack, world_after_binding, world_after_take, world_after_put, BeginsWith, with_file, no_files}
use Rattle.outside_io.specs.Names.{name_of, HasNoName}
use Rattle.outside_io.specs.Files.{bytes_at, bytes_named, file_bytes, rest_of, sectors_from, pack_of, world_of, asked_of, Gives, Opens, IsIdle, IsUnasked, AddsFile, SameFiles}
use Rattle.outside_io.specs.declared.in_memory.texts.OutputTexts as texts
use Rattle.outside_io.specs.declared.in_memory.mem.Calls.{Calls}
use Rattle.outside_io.specs.CallCounts.{limits_of}
use Rattle.outside_io.specs.Texts.{unit_text, spare_of, Clears, Grows}
use Rattle.outside_io.proofs.Worlds.{Texts}
use Rattle.outside_io.proofs.UntoldHosts.{same_world}

-- the sectors that a host tells, where it tells them
abbrev pub Sectors : Type 0
Sectors = Option (ℕ → List ℕ)

at_some : (b : Bool) (n : ℕ) (t : List ℕ) → Some (if b then drop n t else t) ≡ (if b then option_map (drop n) (Some t) else Some t)
at_some true n t = refl
at_some false n t = refl

taken_length : (n : ℕ) (buf : List ℕ) → n ≤ length buf → length (take n buf) ≡ n
taken_length n buf fits = omega (arith, length-take n buf)

asked_some : (b : Bool) (f : Asked → Asked) (a : Asked) → Some (if b then f a else a) ≡ (if b then option_map f (Some a) else Some a)
asked_some true f a = refl
asked_some false f a = refl

-- the bytes that a buffer got were the unit's next
pub gives_bytes : (old new : Files) (u : unit.Unit) (buf : List ℕ) (n : ℕ) → Gives old new u buf n → BeginsWith (take n buf) (Some (rest_of old u))
gives_bytes old new u buf n gives = sym (ap (λ (k : ℕ). take n buf ++ drop k (rest_of old u)) (taken_length n buf gives.fits) ∙ ap (λ (t : List ℕ). t ++ drop n (rest_of old u)) gives.copied ∙ take-append-drop n (rest_of old u))

-- they are gone from the world
pub gives_world : (old new : Files) (u : unit.Unit) (buf : List ℕ) (n : ℕ) (written : Texts) (before after : Sectors) (limits now : Option Limits) → after ≡ before → now ≡ limits → Gives old new u buf n
    → world_of new written after now ≡ world_after_take u (one_reading (take n buf)) (world_of old written before limits)
gives_world old new u buf n written before after limits now sectors stays gives = same_world (world_of new written after now) (world_after_take u (one_reading (take n buf)) (world_of old written before limits))
    (ap (λ (f : List ℕ → List ℕ). λ (name : List ℕ). Some (f name)) gives.bytes)
    gives.flags
    gives.names
    (fun_ext (λ v. ap (λ (t : List ℕ). Some t) (gives.left v) ∙ at_some (same_unit u v) n (rest_of old v) ∙ ap (λ (k : ℕ). if same_unit u v then option_map (drop k) (Some (rest_of old v)) else Some (rest_of old v)) (sym (taken_length n buf gives.fits))))
    refl
    sectors
    (fun_ext (λ v. ap (λ (a : Asked). Some a) (gives.asked v) ∙ asked_some (same_unit u v) (asked_after (one_reading (take n buf))) (asked_of old v)))
    stays

opens_some : (b input : Bool) (bytes t : List ℕ) → Some (if b then (if input then bytes else t) else t) ≡ (if input then (if b then Some bytes else Some t) else Some t)
opens_some true true bytes t = refl
opens_some true false bytes t = refl
opens_some false true bytes t = refl
opens_some false false bytes t = refl

-- the left texts, unit by unit
lefts : (u v : unit.Unit) (input : Bool) (bytes : Option (List ℕ)) (texts : Texts) → (if input then at u (λ t. bytes) texts else texts) v ≡ (if input then (if same_unit u v then bytes else texts v) else texts v)
lefts u v true bytes texts = refl
lefts u v false bytes texts = refl

-- a file that is opened is bound in the world
pub opens_world : (old new : Files) (u : unit.Unit) (name : List ℕ) (written after : Texts) (sectors now : Sectors) (limits limits_now : Option Limits) → limits_now ≡ limits → Opens old new u name
    → after ≡ (if is_output u then at u (option_map (λ t. [])) written else written)
    → now ≡ (if is_pack u then sectors_after_binding (Some (file_bytes old name)) sectors else sectors)
    → world_of new after now limits_now ≡ world_after_binding u name (world_of old written sectors limits)
opens_world old new u name written after sectors now limits limits_now stays opens texts pack = same_world (world_of new after now limits_now) (world_after_binding u name (world_of old written sectors limits))
    (ap (λ (f : List ℕ → List ℕ). λ (other : List ℕ). Some (f other)) opens.bytes)
    (fun_ext opens.flags)
    (fun_ext opens.names)
    (fun_ext (λ v. ap (λ (t : List ℕ). Some t) (opens.left v) ∙ opens_some (same_unit u v) (is_input u) (file_bytes old name) (rest_of old v) ∙ sym (lefts u v (is_input u) (Some (file_bytes old name)) (λ w. Some (rest_of old w)))))
    texts
    pack
    (ap (λ (asked : unit.Unit → Asked). λ v. Some (asked v)) opens.asked)
    stays

added_some : (b : Bool) (s t : List ℕ) → Some (if b then s else t) ≡ (if b then Some s else Some t)
added_some true s t = refl
added_some false s t = refl

-- a file that is added is one of the world's
pub adds_world : (old new : Files) (name bytes : List ℕ) (written : Texts) (before after : Sectors) (limits : Option Limits) → after ≡ before → AddsFile old new name bytes
    → world_of new written after limits ≡ with_file name bytes (world_of old written before limits)
adds_world old new name bytes written before after limits sectors adds = same_world (world_of new written after limits) (with_file name bytes (world_of old written before limits))
    (fun_ext (λ other. ap (λ (t : List ℕ). Some t) (adds.added other) ∙ added_some (bytes_eq name other) bytes (file_bytes old other)))
    adds.flags
    adds.names
    (fun_ext (λ v. ap (λ (t : List ℕ). Some t) (adds.left v)))
    refl
    sectors
    (ap (λ (asked : unit.Unit → Asked). λ v. Some (asked v)) adds.asked)
    refl

-- files that changed nothing but room tell the same pack
pub same_pack : (old new : Files) → SameFiles old new → pack_of new ≡ pack_of old
same_pack old new same = λ i. sectors_from (get_or (same.bound i) (place Pack) false) (bytes_at (same.named i) (get_or (same.opened i) (place Pack) 0))

-- and the same world
pub same_files_world : (old new : Files) (written : Texts) (before after : Sectors) (limits : Option Limits) → after ≡ before → SameFiles old new → world_of new written after limits ≡ world_of old written before limits
same_files_world old new written before after limits sectors same = λ i. record {
  in_use = λ u. get_or (same.bound i) (place u) false;
  names = name_of (same.names i);
  file = λ name. Some (bytes_named (same.named i) name);
  left = λ u. Some (if is_input u then (if get_or (same.bound i) (place u) false then drop (get_or (same.position i) (place u) 0) (bytes_at (same.named i) (get_or (same.opened i) (place u) 0)) else []) else []);
  written = written;
  sectors = sectors i;
  asked = λ u. Some (record { last = get_or (same.last i) (place u) 0; ends = get_or (same.ends i) (place u) 0 });
  limits = limits;
}

both_empty : (b : Bool) → (let e : List ℕ = [] in if b then e else e) ≡ []
both_empty true = refl
both_empty false = refl

-- where no unit is in use nothing is left to be read
pub new_rest : (files : Files) (u : unit.Unit) → IsIdle files → rest_of files u ≡ []
new_rest files u idle = rw (idle u) (both_empty (is_input u))

-- where no unit is in use the pack is empty
pub idle_pack : (files : Files) → IsIdle files → pack_of files ≡ empty_pack
idle_pack files idle = ap (λ (b : Bool). sectors_from b (bytes_at files.named.items (get_or files.opened (place Pack) 0))) (idle Pack)

-- where no unit is in use and no file is named, the world is the first one
pub new_world : (files : Files) (written : Texts) (sectors : Sectors) (limits : Option Limits) → files.named.items ≡ [] → IsIdle files → HasNoName files.names → IsUnasked files → world_of files written sectors limits ≡ record (no_files false) { written = written; sectors = sectors; limits = limits }
new_world files written sectors limits named idle unnamed unasked = same_world _ _
    (ap (λ (items : List NamedFile). λ (name : List ℕ). Some (bytes_named items name)) named)
    (fun_ext idle)
    (fun_ext unnamed)
    (fun_ext (λ v. ap (λ (t : List ℕ). Some t) (new_rest files v idle)))
    refl
    refl
    (fun_ext (λ u. ap (λ (a : Asked). Some a) (unasked u)))
    refl

cleared_some : (b : Bool) (t : List ℕ) → Some (if b then [] else t) ≡ (if b then Some [] else Some t)
cleared_some true t = refl
cleared_some false t = refl

-- an output whose text is emptied
pub cleared_texts : (old new : texts.OutputTexts) (u : unit.Unit) → true ≡ is_output u → Clears old new u
    → (λ v. Some (unit_text new v)) ≡ (if is_output u then at u (option_map (λ t. [])) (λ v. Some (unit_text old v)) else (λ v. Some (unit_text old v)))
cleared_texts old new u output clears = subst (λ b. (λ v. Some (unit_text new v)) ≡ (if b then at u (option_map (λ t. [])) (λ v. Some (unit_text old v)) else (λ v. Some (unit_text old v)))) output
    (fun_ext (λ v. ap (λ (t : List ℕ). Some t) (clears.text v) ∙ cleared_some (same_unit u v) (unit_text old v)))

-- a unit that is no output changes no text
pub kept_texts : (u : unit.Unit) (written : Texts) → false ≡ is_output u → written ≡ (if is_output u then at u (option_map (λ t. [])) written else written)
kept_texts u written no_output = subst (λ b. written ≡ (if b then at u (option_map (λ t. [])) written else written)) no_output refl

grown_some : (b : Bool) (more t : List ℕ) → Some (if b then t ++ more else t) ≡ (if b then Some (t ++ more) else Some t)
grown_some true more t = refl
grown_some false more t = refl

spare_some : (b : Bool) (n m room : ℕ) → m ≡ n → (if b then room - n else room) ≡ (if b then room - m else room)
spare_some b n m room is = ap (λ (k : ℕ). if b then room - k else room) (sym is)

-- the same calls are to fail, and the same room is left
pub same_limits : (old new : texts.OutputTexts) (before after : Calls) → ((v : unit.Unit) → spare_of new v ≡ spare_of old v) → after.failing ≡ before.failing → Some (limits_of new after) ≡ Some (limits_of old before)
same_limits old new before after spare failing = λ i. Some (record { failing = (failing i).items; room = fun_ext spare i })

-- bytes that are added to a text are added in the world
pub grows_world : (files : Files) (old new : texts.OutputTexts) (u : unit.Unit) (piece : List ℕ) (n : ℕ) (sectors : Sectors) (before after : Calls) → after.failing ≡ before.failing → Grows old new u piece n
    → world_of files (λ v. Some (unit_text new v)) sectors (Some (limits_of new after)) ≡ world_after_put u (take n piece) (world_of files (λ v. Some (unit_text old v)) sectors (Some (limits_of old before)))
grows_world files old new u piece n sectors before after failing grows =
    let written : (λ v. Some (unit_text new v)) ≡ at u (option_map (λ text. text ++ take n piece)) (λ v. Some (unit_text old v)) = fun_ext (λ v. ap (λ (t : List ℕ). Some t) (grows.text v) ∙ grown_some (same_unit u v) (take n piece) (unit_text old v)) in
    let room : spare_of new ≡ (λ v. if same_unit u v then spare_of old v - length (take n piece) else spare_of old v) = fun_ext (λ v. grows.spare v ∙ spare_some (same_unit u v) n (length (take n piece)) (spare_of old v) (taken_length n piece grows.fits)) in
    λ i. world_of files (written i) sectors (Some (record { failing = (failing i).items; room = room i }))
