use Rattle.std.proofs.Common.{◌≡◌, ◌∙◌, ◌+◌, ◌≤◌, ℕ, List, length, map, sym, ap, subst, arith, refl}
use Rattle.std.proofs.lemmas.List.{length-map}
use Rattle.outside_io.specs.World.{Goes}
use Rattle.outside_io.specs.Events.{after_events}
use Rattle.card_columns.specs.Types.{card_bytes}
use Rattle.disk_loader.specs.Bootstrap.{bootstrap}
use Rattle.ibm1620_cli.specs.declared.status.Status.{Status}
use Rattle.deck_punch.specs.DeckText.{deck_text}
use Rattle.ibm1620_cli.specs.Parts.{Reports, StopsWithin}
use Rattle.ibm1620_cli.specs.DiskJob.{DiskPlacing, placing_events}
use Rattle.ibm1620_cli.proofs.Placings.{placed_is, placing_is, promise_placed, promise_placed_stops}
use Rattle.ibm1620_cli.specs.Inputs.{reads_pack}
use Rattle.ibm1620_cli.proofs.KeptPromises.{report_stays, stays_on, stays_same}
use Rattle.ibm1620_cli.proofs.disk.place_assembled.Goals as goal

pub overflow_cast-placed : goal.overflow_cast-placed
overflow_cast-placed g c =
    let most : length c.in-Ok.cards.items ≤ 600 + 1 = c.in-Ok.ensures.most in
    let is = c.len.ensures ∙ c.in-Ok.cards.ok.0 in
    omega arith

pub returns-in-Done-clause-promise : goal.returns-in-Done-clause-promise
returns-in-Done-clause-promise g c =
    let old = g.H.Host.seen c.args.host.now in
    let mid = g.H.Host.seen c.write_placed.new.host in
    let new = g.H.Host.seen c.report.new.host in
    let cards = c.len.ensures ∙ c.in-Ok.cards.ok.0 ∙ sym (length-map c.in-Ok.cards.items card_bytes) ∙ ap (λ (d : List (List ℕ)). length d) c.in-Ok.ensures.is in
    let object : c.deref-2.result.now ≡ deck_text (bootstrap c.args.sound.now.assembled.image.pieces c.args.sound.now.assembled.start) =
    c.deref-2.ensures.value ∙ c.in-Ok-deck_bytes.ensures ∙ ap (λ cs. deck_text (map card_bytes cs)) c.deref.ensures.value ∙ ap deck_text c.in-Ok.ensures.is in
    rw c.of-in-Done.ensures
    (promise_placed g.row.M c.args.sound.now.source.items old mid new c.report.result
    (subst (λ (p : DiskPlacing). Goes (g.H.Host.seen c.args.host.now) (g.H.Host.seen c.write_placed.new.host) (after_events (g.H.Host.seen c.args.host.now).world (placing_events p))) (placing_is g.row.M c.args.sound.now.source.items c.args.sound.now.assembled c.requires.is c.deref-2.result.now object) c.in-Done.ensures.does)
    (subst (λ (s : Status). Reports (g.H.Host.seen c.write_placed.new.host) (g.H.Host.seen c.report.new.host) s c.report.result) (placed_is g.row.M c.args.sound.now.source.items c.args.sound.now.assembled c.requires.is c.sector_count.result c.len.result c.sector_count.ensures cards) c.report.ensures))

pub returns-clause-promise : goal.returns-clause-promise
returns-clause-promise g c =
    let object : c.deref-2.result.now ≡ deck_text (bootstrap c.args.sound.now.assembled.image.pieces c.args.sound.now.assembled.start) =
    c.deref-2.ensures.value ∙ c.in-Ok-deck_bytes.ensures ∙ ap (λ cs. deck_text (map card_bytes cs)) c.deref.ensures.value ∙ ap deck_text c.in-Ok.ensures.is in
    rw c.of-in-Failed.ensures
    (promise_placed_stops g.row.M c.args.sound.now.source.items (g.H.Host.seen c.args.host.now) (g.H.Host.seen c.write_placed.new.host)
    (subst (λ (p : DiskPlacing). StopsWithin (placing_events p) (g.H.Host.seen c.args.host.now) (g.H.Host.seen c.write_placed.new.host)) (placing_is g.row.M c.args.sound.now.source.items c.args.sound.now.assembled c.requires.is c.deref-2.result.now object) c.in-Failed.ensures.does))

pub returns-in-Done-clause-stays : goal.returns-in-Done-clause-stays
returns-in-Done-clause-stays g c = stays_on reads_pack (g.H.Host.seen c.args.host.now).world (g.H.Host.seen c.write_placed.new.host).world (g.H.Host.seen c.report.new.host).world c.in-Done.ensures.stays (report_stays (g.H.Host.seen c.write_placed.new.host) (g.H.Host.seen c.report.new.host) _ _ c.report.result c.report.ensures)

pub returns-in-Err-clause-stays : goal.returns-in-Err-clause-stays
returns-in-Err-clause-stays g c = stays_same reads_pack (g.H.Host.seen c.args.host.now) (g.H.Host.seen c.args.host.now) refl

pub returns-in-Err-deck_bytes-clause-stays : goal.returns-in-Err-deck_bytes-clause-stays
returns-in-Err-deck_bytes-clause-stays g c = stays_same reads_pack (g.H.Host.seen c.args.host.now) (g.H.Host.seen c.args.host.now) refl
