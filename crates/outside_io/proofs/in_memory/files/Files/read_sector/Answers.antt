use Rattle.std.proofs.Common.{◌<◌, ◌≤◌, List, ℕ, length, get_or, ap, ◌∙◌, arith}
use Rattle.outside_io.specs.World.{sectors_of, pack_sector_text}
use Rattle.outside_io.proofs.Packs.{bound_sector, missing_sector, unbound_sector}
use Rattle.outside_io.proofs.in_memory.files.Files.read_sector.Goals as goal
use Rattle.outside_io.proofs.in_memory.files.Files.read_sector.Goals.{else-self-place-via-then-self-place+else-opened-len, else-self-place-via-else-self-place}

pub returns-then-opened-len : goal.returns-then-opened-len
returns-then-opened-len c =
    let within : get_or c.args.self.now.opened c.place-place.result 0 < length c.args.self.now.named.items = omega (arith, c.args.self.now.named.ok.0) in
    c.copy_sector.ensures ∙ ap (λ (bytes : List ℕ). pack_sector_text (sectors_of bytes) c.args.a) c.deref.ensures.value
    ∙ bound_sector c.args.self.now c.place-place.result c.args.a c.index.result.now c.place-place.ensures.place c.if-self-place.true within c.index.ensures

pub returns-else-self-place : goal.returns-else-self-place
returns-else-self-place c =
    elim c.else-self-place.branch [
      | else-self-place-via-then-self-place+else-opened-len w ↦
          let past : length c.args.self.now.named.items ≤ get_or c.args.self.now.opened c.place-place.result 0 = omega (arith, c.args.self.now.named.ok.0) in
          missing_sector c.args.self.now c.place-place.result c.args.a c.place-place.ensures.place w.if-self-place.true past
      | else-self-place-via-else-self-place w ↦ unbound_sector c.args.self.now c.place-place.result c.args.a c.place-place.ensures.place w.if-self-place.false
    ]
