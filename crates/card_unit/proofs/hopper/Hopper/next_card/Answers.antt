use Rattle.std.proofs.Common.{◌≡◌, refl, sym, ◌∙◌, ap, subst}
use Rattle.std.specs.Prelude.{None, Some, option_map}
use Rattle.card_code.specs.Entries.{behind}
use Rattle.card_unit.specs.Hopper.{SaysBehind, IsHopperAhead, TellsAtLeast, deck_left}
use Rattle.card_unit.proofs.Hoppers.{front_taken, one_of_two, stay_on}
use Rattle.card_unit.proofs.ReadOn.{card_more}
use Rattle.card_unit.proofs.hopper.Hopper.next_card.Goals as goal
use Rattle.card_unit.proofs.hopper.Hopper.next_card.Goals.{in-Yes, in-No}

pub returns-clause-card : goal.returns-clause-card
returns-clause-card g c =
    let says : SaysBehind c.hold.new.self c.more_behind.new.self (g.H.Host.seen c.hold.new.host) (g.H.Host.seen c.more_behind.new.host) c.match-more_behind.last =
    elim c.match-more_behind.branch [
      | in-Yes w ↦ rw w.last-is w.in-Yes.ensures.behind
      | in-No w ↦ rw w.last-is w.in-No.ensures.behind
    ] in
    front_taken c.args.self.now c.hold.new.self c.more_behind.new.self _ _ _ _ c.in-Some.front c.match-more_behind.last c.to_card-card.result.0 c.in-AtFront.ensures.holds (sym c.more_behind.ensures.deck.front ∙ c.in-Some.is) says refl refl refl c.to_card-card.ensures

pub returns-clause-alone : goal.returns-clause-alone
returns-clause-alone g c = λ two.
    let deck = one_of_two (deck_left c.args.self.now (g.H.Host.seen c.args.host.now).world) two in
    stay_on _ _ _ (c.in-AtFront.ensures.alone deck.0) (c.more_behind.ensures.deck.alone (subst (TellsAtLeast 1) (sym c.in-AtFront.ensures.deck.left) deck.1))

pub returns-in-Failed-more_behind-clause-alone : goal.returns-in-Failed-more_behind-clause-alone
returns-in-Failed-more_behind-clause-alone g c = λ two.
    let deck = one_of_two (deck_left c.args.self.now (g.H.Host.seen c.args.host.now).world) two in
    stay_on _ _ _ (c.in-AtFront.ensures.alone deck.0) (c.more_behind.ensures.deck.alone (subst (TellsAtLeast 1) (sym c.in-AtFront.ensures.deck.left) deck.1))

pub returns-clause-reads : goal.returns-clause-reads
returns-clause-reads g c = λ start readings had.
    let mid = c.hold.new.self in
    let end = c.more_behind.new.self in
    let after = g.H.Host.seen c.more_behind.new.host in
    let held = c.in-AtFront.ensures.reads start readings had in
    let front : mid.front ≡ Some c.in-Some.front = sym c.more_behind.ensures.deck.front ∙ c.in-Some.is in
    let ahead : IsHopperAhead (record end { front = None }) after.world =
    elim c.match-more_behind.branch [
      | in-Yes w ↦ w.in-Yes.ensures.ahead c.in-Some.front front held.ahead
      | in-No w ↦ w.in-No.ensures.ahead c.in-Some.front front held.ahead
    ] in
    record {
      text = _;
      filled = c.to_card-card.ensures;
      by = card_more start readings mid end _ _ _ c.in-Some.front front held c.more_behind.ensures.deck.left c.more_behind.ensures.same refl refl refl refl refl c.one_more_read-self.ensures
          ((returns-clause-card g c).left ∙ ap (option_map behind) (sym c.in-AtFront.ensures.holds.left)) ahead;
    }

pub returns-clause-reads_on : goal.returns-clause-reads_on
returns-clause-reads_on g c = λ start had.
    let more = returns-clause-reads g c start had.readings had.by in
    record { readings = _; by = more.by }
