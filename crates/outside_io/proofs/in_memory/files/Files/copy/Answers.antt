use Rattle.std.proofs.Common.{◌≡◌, ℕ, ◌<◌, ◌∙◌, List, length, drop, take, get_or, sym, ap, arith, rules}
use Rattle.outside_io.specs.Files.{rest_of}
use Rattle.outside_io.proofs.InMemory.{rest_at, rest_none}
use Rattle.outside_io.proofs.in_memory.files.Files.copy.Goals as goal

pub returns-then-opened-len-clause-none : goal.returns-then-opened-len-clause-none
returns-then-opened-len-clause-none c = λ _. rest_none c.args.self.now c.args.unit c.place-place.result c.requires.input c.place-place.ensures.place (search rules) (omega (arith, c.args.self.now.named.ok.0))

rest_is : (c : goal.After-slice_known-2-1) → rest_of c.args.self.now c.args.unit ≡ drop (get_or c.args.self.now.position c.place-place.result 0) c.deref.result.now
rest_is c =
    let within : get_or c.args.self.now.opened c.place-place.result 0 < length c.args.self.now.named.items = omega (arith, c.args.self.now.named.ok.0) in
    rest_at c.args.self.now c.args.unit c.place-place.result c.index-file.result.now c.requires.input c.place-place.ensures.place (search rules) within c.index-file.ensures
    ∙ ap (λ (bytes : List ℕ). drop (get_or c.args.self.now.position c.place-place.result 0) bytes) (sym c.deref.ensures.value)

pub returns-clause-copied : goal.returns-clause-copied
returns-clause-copied c = c.copy_from.ensures.copied ∙ ap (λ (rest : List ℕ). take c.copy_from.result rest) (sym (rest_is c))

pub returns-clause-within : goal.returns-clause-within
returns-clause-within c = rw rest_is c.copy_from.ensures.within

pub returns-clause-none : goal.returns-clause-none
returns-clause-none c = λ zero_read. rest_is c ∙ c.copy_from.ensures.none zero_read
