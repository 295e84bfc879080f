-- Sectors that were written, and those of files.
use Rattle.std.proofs.Common.{◌≡◌, ◌-◌, ◌*◌, ◌≤◌, ◌<◌, ℕ, zero, suc, refl, sym, subst, Bool, true, false, List, [], length, take, drop, ◌++◌, get_or, ap, ◌∙◌, arith, length-append}
use Rattle.std.proofs.lemmas.List.{append-nil, take-append-drop, drop-replicate, take_min, length-take, length-replicate}
use Rattle.std.specs.Prelude.{Option, Some, None, unwrap_or, if◌then◌else◌, replicate, min}
use Rattle.std.proofs.Math.Path.{fun_ext}
use Rattle.std.proofs.lemmas.Bool.{true≢false}
use Rattle.outside_io.specs.declared.in_memory.files.NamedFile.{NamedFile}
use Rattle.outside_io.specs.declared.host.Unit as unit
use Rattle.outside_io.specs.declared.in_memory.pack.Sectors.{Sectors}
use Rattle.outside_io.specs.Pack.{sectors_over, IsUnwritten}
use Rattle.outside_io.specs.World.{zero_character, with_zeros, sectors_of, pack_sector_text, empty_pack, blank_pack, sectors_after_binding, place, is_pack, is_output}
use Rattle.outside_io.specs.declared.host.Unit.TheVariants.{Pack}
use Rattle.outside_io.specs.declared.in_memory.files.Files.{Files}
use Rattle.outside_io.specs.Files.{bytes_at, file_bytes, sectors_from, pack_of, Opens, IsIdle}
use Rattle.outside_io.proofs.InMemory.{drop_nil, bytes_at-get, bytes_at-past, is_pack-same, same_unit-eq}
use Rattle.outside_io.proofs.FilesWorld.{idle_pack}

-- a list of one value has it everywhere, and past its end
pub same_everywhere : {X : Type 0} (n i : ℕ) (d : X) → get_or (replicate n d) i d ≡ d
same_everywhere zero i d = refl
same_everywhere (suc n) zero d = refl
same_everywhere (suc n) (suc i) d = same_everywhere n i d

take_none : {X : Type 0} (n : ℕ) → take {A = X} n [] ≡ []
take_none zero = refl
take_none (suc n) = refl

-- an empty list that is filled up with one value
pub filled_nowhere : (old : List (Option (List ℕ))) (n m i : ℕ) → old ≡ [] → get_or (take n old ++ replicate m None) i None ≡ None
filled_nowhere old n m i none = ap (λ (xs : List (Option (List ℕ))). get_or (take n xs ++ replicate m None) i None) none ∙ ap (λ (xs : List (Option (List ℕ))). get_or (xs ++ replicate m None) i None) (take_none n) ∙ same_everywhere m i None

-- bytes that were put onto zeros, as many as there are and as there is room for
pub onto_zeros : (room n : ℕ) (bytes new : List ℕ) → n ≡ min room (length bytes) → take n new ≡ take n bytes → drop n new ≡ drop n (replicate room zero_character) → new ≡ with_zeros room (take room bytes)
onto_zeros room n bytes new most front behind =
    sym (take-append-drop n new)
    ∙ ap (λ (t : List ℕ). t ++ drop n new) front
    ∙ ap (λ (t : List ℕ). take n bytes ++ t) (behind ∙ drop-replicate n room zero_character)
    ∙ ap (λ (k : ℕ). take k bytes ++ replicate (room - k) zero_character) most
    ∙ ap (λ (t : List ℕ). t ++ replicate (room - min room (length bytes)) zero_character) (take_min room bytes)
    ∙ ap (λ (k : ℕ). take room bytes ++ replicate (room - k) zero_character) (sym (length-take room bytes))

-- a text that lacks no byte stays
pub whole_text : (n : ℕ) (text : List ℕ) → n ≤ length text → with_zeros n text ≡ text
whole_text n text whole = let none : n - length text ≡ 0 = omega (arith, whole) in rw none (append-nil text)

-- and one with zeros lacks none
pub filled_text : (n : ℕ) (text : List ℕ) → n ≤ length (with_zeros n text)
filled_text n text = omega (arith, length-append text (replicate (n - length text) zero_character), length-replicate (n - length text) zero_character)

-- a file without bytes is an empty pack
pub no_bytes : (a : ℕ) → sectors_of [] a ≡ empty_pack a
no_bytes a = ap (λ (t : List ℕ). take 100 t) (drop_nil (100 * a))

-- the pack's file where one is bound, by the place of its flag
bound_pack : (files : Files) (p : ℕ) → p ≡ place Pack → get_or files.bound p false ≡ true → pack_of files ≡ sectors_of (bytes_at files.named.items (get_or files.opened p 0))
bound_pack files p is flag =
    ap (λ (b : Bool). sectors_from b (bytes_at files.named.items (get_or files.opened (place Pack) 0))) (subst (λ (q : ℕ). get_or files.bound q false ≡ true) is flag)
    ∙ ap (λ (q : ℕ). sectors_of (bytes_at files.named.items (get_or files.opened q 0))) (sym is)

-- a sector of the pack's file
pub bound_sector : (files : Files) (p a : ℕ) (file : NamedFile) → p ≡ place Pack → get_or files.bound p false ≡ true
    → get_or files.opened p 0 < length files.named.items → file ≡ get_or files.named.items (get_or files.opened p 0) file
    → pack_sector_text (sectors_of file.bytes.items) a ≡ pack_sector_text (pack_of files) a
bound_sector files p a file is flag within found =
    ap (λ (f : NamedFile). pack_sector_text (sectors_of f.bytes.items) a) found
    ∙ ap (λ (bytes : List ℕ). pack_sector_text (sectors_of bytes) a) (sym (bytes_at-get files.named.items (get_or files.opened p 0) file within))
    ∙ ap (λ (pack : ℕ → List ℕ). pack_sector_text pack a) (sym (bound_pack files p is flag))

-- a sector of a pack whose name stands for no file
pub missing_sector : (files : Files) (p a : ℕ) → p ≡ place Pack → get_or files.bound p false ≡ true → length files.named.items ≤ get_or files.opened p 0 → blank_pack a ≡ pack_sector_text (pack_of files) a
missing_sector files p a is flag past =
    ap (λ (t : List ℕ). with_zeros 100 t) (sym (no_bytes a))
    ∙ ap (λ (bytes : List ℕ). pack_sector_text (sectors_of bytes) a) (sym (bytes_at-past files.named.items (get_or files.opened p 0) past))
    ∙ ap (λ (pack : ℕ → List ℕ). pack_sector_text pack a) (sym (bound_pack files p is flag))

-- a sector where no pack is bound
pub unbound_sector : (files : Files) (p a : ℕ) → p ≡ place Pack → get_or files.bound p false ≡ false → blank_pack a ≡ pack_sector_text (pack_of files) a
unbound_sector files p a is flag = sym (ap (λ (b : Bool). pack_sector_text (sectors_from b (bytes_at files.named.items (get_or files.opened (place Pack) 0))) a) (subst (λ (q : ℕ). get_or files.bound q false ≡ false) is flag))

-- where no sector is written the pack is the base
over_none : (sectors : Sectors) (base : ℕ → List ℕ) → IsUnwritten sectors → sectors_over sectors base ≡ base
over_none sectors base none = fun_ext (λ a. ap (λ (o : Option (List ℕ)). unwrap_or o (base a)) (none a))

-- outputs are no packs
output_no_pack : (u : unit.Unit) (b : Bool) → is_pack u ≡ b → is_output u ≡ true → b ≡ false
output_no_pack u false pack output = refl
output_no_pack u true pack output = absurd (true≢false (sym output ∙ ap is_output (same_unit-eq u Pack (is_pack-same u ∙ pack))))

kept_pack : (b : Bool) (sectors : Sectors) (new old : ℕ → List ℕ) → b ≡ false → Some (sectors_over sectors (if b then new else old)) ≡ (if b then Some new else Some (sectors_over sectors old))
kept_pack true sectors new old no_pack = absurd (true≢false no_pack)
kept_pack false sectors new old no_pack = refl

cleared_pack : (b : Bool) (new old before : ℕ → List ℕ) → b ≡ true → Some (if b then new else old) ≡ (if b then Some new else Some before)
cleared_pack true new old before pack = refl
cleared_pack false new old before pack = absurd (true≢false (sym pack))

-- the pack once a file is opened for another unit
pub opens_other : (old new : Files) (u : unit.Unit) (name : List ℕ) (sectors : Sectors) → false ≡ is_pack u → Opens old new u name
    → Some (sectors_over sectors (pack_of new)) ≡ (if is_pack u then sectors_after_binding (Some (file_bytes old name)) (Some (sectors_over sectors (pack_of old))) else Some (sectors_over sectors (pack_of old)))
opens_other old new u name sectors no_pack opens =
    ap (λ (p : ℕ → List ℕ). Some (sectors_over sectors p)) opens.pack ∙ kept_pack (is_pack u) sectors (sectors_of (file_bytes old name)) (pack_of old) (sym no_pack)

-- and for an output
pub opens_output : (old new : Files) (u : unit.Unit) (name : List ℕ) (sectors : Sectors) → true ≡ is_output u → Opens old new u name
    → Some (sectors_over sectors (pack_of new)) ≡ (if is_pack u then sectors_after_binding (Some (file_bytes old name)) (Some (sectors_over sectors (pack_of old))) else Some (sectors_over sectors (pack_of old)))
opens_output old new u name sectors output = opens_other old new u name sectors (sym (output_no_pack u (is_pack u) refl (sym output)))

-- the pack once its file is opened and no sector is written
pub opens_pack : (old new : Files) (u : unit.Unit) (name : List ℕ) (was now : Sectors) → true ≡ is_pack u → IsUnwritten now → Opens old new u name
    → Some (sectors_over now (pack_of new)) ≡ (if is_pack u then sectors_after_binding (Some (file_bytes old name)) (Some (sectors_over was (pack_of old))) else Some (sectors_over was (pack_of old)))
opens_pack old new u name was now pack none opens =
    ap (λ (p : ℕ → List ℕ). Some p) (over_none now (pack_of new) none ∙ opens.pack) ∙ cleared_pack (is_pack u) (sectors_of (file_bytes old name)) (pack_of old) (sectors_over was (pack_of old)) (sym pack)

-- the pack of files of which none is bound, where no sector is written
pub empty_over : (files : Files) (sectors : Sectors) → IsIdle files → IsUnwritten sectors → sectors_over sectors (pack_of files) ≡ empty_pack
empty_over files sectors idle none = over_none sectors (pack_of files) none ∙ idle_pack files idle
