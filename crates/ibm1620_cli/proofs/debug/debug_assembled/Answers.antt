use Rattle.std.proofs.Common.{◌∙◌, ℕ, List, map, ap, subst}
use Rattle.std.specs.Prelude.{Some}
use Rattle.outside_io.specs.Events.{after_events}
use Rattle.outside_io.proofs.EventLemmas.{same_of}
use Rattle.card_code.specs.Entries.{Text}
use Rattle.card_unit.specs.Hopper.{cards_and_data}
use Rattle.operator_script.specs.Scripts.{lines_left}
use Rattle.sps_pass_two.specs.Assembled.{PlacedText}
use Rattle.console_debug.specs.CommandLists.{command_list}
use Rattle.ibm1620_cli.specs.Source.{program_of, made_of, made_events}
use Rattle.ibm1620_cli.specs.Parts.{HoldsSession}
use Rattle.ibm1620_cli.proofs.TakenInputs.{goes_unasked}
use Rattle.ibm1620_cli.proofs.Makings.{makings_of}
use Rattle.ibm1620_cli.proofs.SessionPromises.{promise_holds, promise_debug_behind, promise_debug_unwritten}
use Rattle.ibm1620_cli.specs.Inputs.{reads_feed}
use Rattle.ibm1620_cli.proofs.KeptPromises.{stays_again, stays_none}
use Rattle.ibm1620_cli.proofs.DeckPromises.{session_stays}
use Rattle.ibm1620_cli.proofs.debug.debug_assembled.Goals as goal

pub returns-in-Ok-clause-promise : goal.returns-in-Ok-clause-promise
returns-in-Ok-clause-promise g c =
    let made = made_of g.row.M c.args.given.settings.form c.args.sound.now.source.items in
    promise_debug_behind g.row.M c.args.given.settings (lines_left c.args.given.script) (command_list c.args.given.commands) c.args.sound.now.source.items (g.H.Host.seen c.args.host.now) (g.H.Host.seen c.write_source.new.host) (g.H.Host.seen c.hold_session.new.host) c.hold_session.result c.in-Ok.ensures.does.0
    (promise_holds (made_events made) c.args.given.settings.limit _ (program_of g.row.M c.args.given.settings.form c.args.sound.now.source.items) c.of_cards-hopper.result c.args.given.script c.args.given.commands (g.H.Host.seen c.args.host.now) (g.H.Host.seen c.write_source.new.host) c.in-Ok.ensures.does.0.later
    (same_of (g.H.Host.seen c.write_source.new.host).world (after_events (g.H.Host.seen c.args.host.now).world (made_events made)) c.in-Ok.ensures.does.0.world) (goes_unasked (made_events made) (g.H.Host.seen c.args.host.now) (g.H.Host.seen c.write_source.new.host) c.in-Ok.ensures.does.0) (makings_of made)
    (λ w. c.of_cards-hopper.ensures.left w ∙ ap (λ (texts : List (List ℕ)). cards_and_data texts w) c.in-Ok.ensures.does.1.are)
    (λ w. c.of_cards-hopper.ensures.deck w ∙ ap (λ (texts : List (List ℕ)). Some (map Text texts)) c.in-Ok.ensures.does.1.are)
    (c.of_cards-hopper.ensures.own ∙ ap (λ (texts : List (List ℕ)). Some texts) c.in-Ok.ensures.does.1.are) c.of_cards-hopper.ensures.begins (g.H.Host.seen c.hold_session.new.host) c.hold_session.result
    (subst (λ (ps : List PlacedText). HoldsSession g.row.M c.args.given.settings.limit ps c.of_cards-hopper.result c.args.given.script c.args.given.commands (g.H.Host.seen c.write_source.new.host) (g.H.Host.seen c.hold_session.new.host) c.hold_session.result) c.requires.is.placed_are c.hold_session.ensures))

pub returns-in-Err-clause-promise : goal.returns-in-Err-clause-promise
returns-in-Err-clause-promise g c =
    rw c.of.ensures
    (promise_debug_unwritten g.row.M c.args.given.settings (lines_left c.args.given.script) (command_list c.args.given.commands) c.args.sound.now.source.items (g.H.Host.seen c.args.host.now) (g.H.Host.seen c.write_source.new.host) c.in-Err.status c.in-Err.ensures.does)

pub returns-in-Ok-clause-stays : goal.returns-in-Ok-clause-stays
returns-in-Ok-clause-stays g c = stays_again (g.H.Host.seen c.args.host.now).world (g.H.Host.seen c.write_source.new.host).world (g.H.Host.seen c.hold_session.new.host).world (stays_none reads_feed (g.H.Host.seen c.args.host.now).world (g.H.Host.seen c.write_source.new.host).world c.in-Ok.ensures.stays) (session_stays g.row.M c.args.given.settings.limit _ c.of_cards-hopper.result c.args.given.script c.args.given.commands (g.H.Host.seen c.write_source.new.host) (g.H.Host.seen c.hold_session.new.host) c.hold_session.result c.hold_session.ensures)

pub returns-in-Err-clause-stays : goal.returns-in-Err-clause-stays
returns-in-Err-clause-stays g c = stays_none reads_feed (g.H.Host.seen c.args.host.now).world (g.H.Host.seen c.write_source.new.host).world c.in-Err.ensures.stays
