use Rattle.std.proofs.Common.{◌≡◌, ℕ, List, [], ap, ◌∙◌, rules}
use Rattle.std.proofs.Math.Path.{fun_ext}
use Rattle.std.specs.Prelude.{true, false, Option, Some}
use Rattle.outside_io.specs.declared.host.Unit as unit
use Rattle.outside_io.specs.World.{Limits, empty_pack, no_files}
use Rattle.outside_io.specs.Files.{pack_of, world_of}
use Rattle.outside_io.specs.Texts.{unit_text, spare_of}
use Rattle.outside_io.specs.Rooms.{unit_room}
use Rattle.outside_io.proofs.FilesWorld.{new_world}
use Rattle.outside_io.proofs.Packs.{empty_over}
use Rattle.outside_io.specs.Pack.{sectors_over}
use Rattle.outside_io.proofs.in_memory.mem.MemHost.new.Goals as goal

pub returns-clause-seen : goal.returns-clause-seen
returns-clause-seen c =
    let texts : unit.Unit → Option (List ℕ) = λ u. Some (unit_text c.in_ok-new.field-0 u) in
    let empty : texts ≡ (λ u. Some []) = fun_ext (λ u. ap (λ (t : List ℕ). Some t) (c.in_ok-new.ensures.text u)) in
    let pack : ℕ → List ℕ = sectors_over c.in_ok-new-2.field-0 (pack_of c.new.result) in
    let empty_told : Some pack ≡ Some empty_pack = ap (λ (p : ℕ → List ℕ). Some p) (empty_over c.new.result c.in_ok-new-2.field-0 c.new.ensures.unbound c.in_ok-new-2.ensures) in
    let room : spare_of c.in_ok-new.field-0 ≡ unit_room c.args.room = fun_ext c.in_ok-new.ensures.spare in
    let none : c.new-4.result.items ≡ [] = search rules in
    let limits : Option Limits = Some (record { failing = c.new-4.result.items; room = spare_of c.in_ok-new.field-0 }) in
    let world : world_of c.new.result texts (Some pack) limits ≡ record (no_files true) { limits = Some (record { failing = []; room = unit_room c.args.room }) } =
    new_world c.new.result texts (Some pack) limits c.new.ensures.named c.new.ensures.unbound c.new.ensures.unnamed c.new.ensures.unasked ∙ (λ i. record (no_files false) { written = empty i; sectors = empty_told i; limits = Some (record { failing = none i; room = room i }) }) in
    λ i. record { faults = 0; world = world i }
