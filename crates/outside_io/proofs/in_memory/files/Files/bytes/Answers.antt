use Rattle.std.proofs.Common.{◌≤◌, ◌<◌, ◌∙◌, length, sym, ap, arith}
use Rattle.outside_io.specs.declared.in_memory.files.NamedFile.{NamedFile}
use Rattle.outside_io.proofs.InMemory.{bytes_at-get, bytes_at-past}
use Rattle.outside_io.proofs.in_memory.files.Files.bytes.Goals as goal

pub returns-then-place-len : goal.returns-then-place-len
returns-then-place-len c =
    let named = c.args.self.now.named.items in
    let within : c.find-place.result < length named = omega (arith, c.args.self.now.named.ok.0) in
    c.deref.ensures.value ∙ ap (λ (f : NamedFile). f.bytes.items) c.index.ensures ∙ sym (bytes_at-get named c.find-place.result c.index.result.now within) ∙ c.find-place.ensures

pub returns-else-place-len : goal.returns-else-place-len
returns-else-place-len c =
    let named = c.args.self.now.named.items in
    let past : length named ≤ c.find-place.result = omega (arith, c.args.self.now.named.ok.0) in
    sym (bytes_at-past named c.find-place.result past) ∙ c.find-place.ensures
