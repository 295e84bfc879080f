use Rattle.std.proofs.Common.{List, ℕ, map, sym, ap, ◌∙◌, ◌++◌, ◌∷◌, [], arith}
use Rattle.std.proofs.lemmas.List.{map-append}
use Rattle.card_columns.specs.Types.{card_bytes}
use Rattle.deck_punch.specs.Cards.{transfer_card}
use Rattle.disk_loader.proofs.BootCards.{going_first, going_not, going_other, going_more, going_end, deck_if_loads, deck_most}
use Rattle.disk_loader.proofs.deck.bootstrap.Goals as goal
use Rattle.disk_loader.proofs.deck.bootstrap.Goals.{then-not-is_needed+in_ok-close, else-not-is_needed+then-extends_stretch, else-not-is_needed+else-extends_stretch+in_ok-close-2}

pub loop-h-init : goal.loop-h-init
loop-h-init c = rw c.new-cards.ensures.items (going_first c.args.assembled.now.image.pieces)

pub loop-h-preserved : goal.loop-h-preserved
loop-h-preserved c =
    let image = c.args.assembled.now.image.pieces in
    let h = c.loop-h.h in
    let more = c.loop-h-test.true in
    let texts : List (List ℕ) = map card_bytes c.loop-h.cards.items in
    elim c.if-not-is_needed.branch [
      | then-not-is_needed+in_ok-close w ↦
          let need = sym c.is_needed.ensures ∙ w.if-not-is_needed.true in
          rw (w.cards-is, w.open-is, w.in_ok-close.ensures) (going_not image h texts c.loop-h.open c.loop-h.invariant more need)
      | else-not-is_needed+then-extends_stretch w ↦
          let need = sym c.is_needed.ensures ∙ w.if-not-is_needed.false in
          rw (w.cards-is, w.open-is) (going_more image h texts c.loop-h.open c.loop-h.invariant more need (sym w.extends_stretch.ensures ∙ w.if-extends_stretch.true))
      | else-not-is_needed+else-extends_stretch+in_ok-close-2 w ↦
          let need = sym c.is_needed.ensures ∙ w.if-not-is_needed.false in
          rw (w.cards-is, w.open-is, w.in_ok-close-2.ensures) (going_other image h texts c.loop-h.open c.loop-h.invariant more need (sym w.extends_stretch.ensures ∙ w.if-extends_stretch.false))
    ]

pub returns-clause-is : goal.returns-clause-is
returns-clause-is c =
    rw (c.in_ok-push.ensures.items, map-append, c.in_ok-close-3.ensures, c.transfer_card.ensures)
    (ap (λ (texts : List (List ℕ)). texts ++ transfer_card c.args.assembled.now.start ∷ []) (going_end c.args.assembled.now.image.pieces c.loop-h.h (map card_bytes c.loop-h.cards.items) c.loop-h.open c.loop-h.invariant (omega arith)))

pub returns-clause-most : goal.returns-clause-most
returns-clause-most c = deck_most c.push.new.self.items c.args.assembled.now.image.pieces c.args.assembled.now.start (returns-clause-is c)

pub returns-clause-loads : goal.returns-clause-loads
returns-clause-loads c = deck_if_loads c.push.new.self.items c.args.assembled.now.image.pieces c.args.assembled.now.start c.args.assembled.now.image.kept.each c.args.assembled.now.program.above (returns-clause-is c)
