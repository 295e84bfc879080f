use Rattle.std.proofs.Common.{◌≡◌, ◌∙◌, ℕ, List, map, refl, ap, subst, inr}
use Rattle.outside_io.specs.declared.whole.Sent.TheVariants as sent
use Rattle.loader_cards.specs.ObjectDeck.{deck_in}
use Rattle.card_columns.specs.Types.{card_bytes}
use Rattle.deck_punch.specs.DeckText.{deck_text}
use Rattle.ibm1620_cli.specs.Source.{SourceTexts, made_events}
use Rattle.ibm1620_cli.specs.Parts.{made_with, EventsOccur}
use Rattle.ibm1620_cli.proofs.Makings.{made_is, deck_is}
use Rattle.ibm1620_cli.proofs.source.write_source.Goals as goal

pub returns-in-Done-clause-does : goal.returns-in-Done-clause-does
returns-in-Done-clause-does g c =
    let object : c.deref-2.result.now ≡ deck_text (deck_in c.args.form c.args.sound.now.assembled.image.pieces c.args.sound.now.assembled.start) =
    c.deref-2.ensures.value ∙ c.in-Ok-deck_bytes.ensures ∙ ap (λ cs. deck_text (map card_bytes cs)) c.deref.ensures.value ∙ ap deck_text c.in-Ok.ensures.is in (
      subst (λ (m : SourceTexts). EventsOccur (made_events m) (g.H.Host.seen c.args.host.now) (g.H.Host.seen c.write_made.new.host) sent.Done) (made_is g.row.M c.args.form c.args.sound.now.source.items c.args.sound.now.assembled c.requires c.deref-2.result.now object)
          (subst (λ (t : List ℕ). EventsOccur (made_events (made_with c.deref-2.result.now t c.args.sound.now.assembled)) (g.H.Host.seen c.args.host.now) (g.H.Host.seen c.write_made.new.host) sent.Done) c.deref-3.ensures.value c.in-Done.ensures.does),
      record { are = c.in-Ok.ensures.is ∙ deck_is g.row.M c.args.form c.args.sound.now.source.items c.args.sound.now.assembled c.requires; some = c.in-Ok.ensures.some; most = c.in-Ok.ensures.most },
    )

pub returns-in-Failed-clause-does : goal.returns-in-Failed-clause-does
returns-in-Failed-clause-does g c =
    let object : c.deref-2.result.now ≡ deck_text (deck_in c.args.form c.args.sound.now.assembled.image.pieces c.args.sound.now.assembled.start) =
    c.deref-2.ensures.value ∙ c.in-Ok-deck_bytes.ensures ∙ ap (λ cs. deck_text (map card_bytes cs)) c.deref.ensures.value ∙ ap deck_text c.in-Ok.ensures.is in
    inr (
      refl,
      subst (λ (m : SourceTexts). EventsOccur (made_events m) (g.H.Host.seen c.args.host.now) (g.H.Host.seen c.write_made.new.host) sent.Failed) (made_is g.row.M c.args.form c.args.sound.now.source.items c.args.sound.now.assembled c.requires c.deref-2.result.now object)
          (subst (λ (t : List ℕ). EventsOccur (made_events (made_with c.deref-2.result.now t c.args.sound.now.assembled)) (g.H.Host.seen c.args.host.now) (g.H.Host.seen c.write_made.new.host) sent.Failed) c.deref-3.ensures.value c.in-Failed.ensures.does),
    )
