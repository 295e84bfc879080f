-- Down to a flag, or up to a record mark.
use Rattle.std.proofs.Common.{◌∙◌, ◌+◌, ◌-◌, ◌/◌, ap, subst, sym}
use Rattle.std.specs.Prelude.{unwrap_or}
use Rattle.cpu_step.specs.declared.stores.Stores.{Stores}
use Rattle.cpu_step.specs.Stores.{StoresBelow, StoresWithin}
use Rattle.digit_core.specs.Size.{size}
use Rattle.console_debug.specs.CursorStates.{AreStoredWords}
use Rattle.console_debug.proofs.StoredCells.{field_words, record_words}
use Rattle.console_debug.proofs.keeping.stored_words.Goals as goal

pub returns-in-Down : goal.returns-in-Down
returns-in-Down g c = λ before within.
    let m = g.row.M in
    let core = c.args.core.now in
    let p = c.in-Down.p in
    let below = subst (λ (s : Stores). StoresBelow s (size m)) c.in-Down.is c.requires in
    subst (λ low. AreStoredWords m before core (low / 10) (p / 10 + 1)) (sym c.unwrap_or-last.ensures)
    (field_words m before core p c.flag_below.result c.flag_below.ensures below (subst (λ (s : Stores). StoresWithin s before core) c.in-Down.is within))

pub returns-in-Up : goal.returns-in-Up
returns-in-Up g c = λ before within.
    let m = g.row.M in
    let core = c.args.core.now in
    let p = c.in-Up.p in
    let below = subst (λ (s : Stores). StoresBelow s (size m)) c.in-Up.is c.requires in
    let last = c.unwrap_or-last-in-Up.ensures ∙ ap (λ n. unwrap_or c.mark_above.result (n - 1)) (c.size.ensures.size ∙ sym c.size.ensures.length) in
    subst (λ high. AreStoredWords m before core (p / 10) (high / 10 + 1)) (sym last)
    (record_words m before core p c.mark_above.result c.mark_above.ensures below c.size.ensures.length (subst (λ (s : Stores). StoresWithin s before core) c.in-Up.is within))
