use Rattle.std.proofs.Common.{◌≡◌, ◌<◌, ◌≤◌, true, length, sym, ◌∙◌, ap, arith, rules}
use Rattle.std.specs.Prelude.{string_bytes, bytes_eq}
use Rattle.outside_io.proofs.InMemory.{named_found, none_named, bytes_at-past}
use Rattle.outside_io.proofs.in_memory.files.Files.find.Goals as goal

pub returns-then-eq : goal.returns-then-eq
returns-then-eq c =
    let same : bytes_eq (string_bytes c.file-item.result.name) c.args.name.now ≡ true = search rules in
    let within : c.loop-i.i < length c.args.self.now.named.items = omega (arith, ap length c.deref-file-items.ensures.value) in
    sym (named_found c.args.self.now.named.items c.loop-i.i c.file-item.result c.args.name.now within (search rules) same) ∙ c.loop-i.invariant

pub returns : goal.returns
returns c =
    let past : length c.args.self.now.named.items ≤ c.loop-i.i = omega (arith, ap length c.deref-file-items.ensures.value) in
    bytes_at-past c.args.self.now.named.items c.len.result (omega (arith, c.args.self.now.named.ok.0))
    ∙ sym (bytes_at-past c.args.self.now.named.items c.loop-i.i past) ∙ sym (none_named c.args.self.now.named.items c.loop-i.i c.args.name.now past) ∙ c.loop-i.invariant
