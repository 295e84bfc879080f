use Rattle.std.proofs.Common.{rules, ◌≡◌, ◌<◌, ◌-◌, ◌++◌, [], take, drop, length, refl, arith, length-append}
use Rattle.std.proofs.lemmas.Bool.Decides.{nat_tests}
use Rattle.std.proofs.lemmas.List.{length-take}
use Rattle.card_code.specs.declared.lines.More.TheVariants as more
use Rattle.card_code.specs.Reader.{bytes_held, asks_none}
use Rattle.card_code.proofs.Readers.{some_held, some_ahead, reads_start, reads_more, more_pending, ended_empty, piece_whole, nil_from_length, read_failed, short}
use Rattle.card_code.proofs.WholeHeld.{none_pending, once_got, once_failed}
use Rattle.card_code.proofs.LineEntries.{more_entries}
use Rattle.card_code.proofs.lines.Lines.more.Goals as goal
use Rattle.card_code.proofs.lines.Lines.more.Goals.{then-not-is_empty-via-then-not-is_empty, then-not-is_empty-via-else-not-is_empty+then-self}

pub returns-then-not-is_empty-clause-more : goal.returns-then-not-is_empty-clause-more
returns-then-not-is_empty-clause-more g c =
    let now = c.args.self.now in
    let some : 0 < length (bytes_held now) = elim c.then-not-is_empty.branch [
      | then-not-is_empty-via-then-not-is_empty w ↦ some_held now (let test = w.if-not-is_empty.ensures in grind (arith, nat_tests))
      | then-not-is_empty-via-else-not-is_empty+then-self w ↦ some_ahead now (omega (arith, w.if-self.true)) (search rules)
    ] in
    more_pending now now _ _ (reads_start now _) some

pub returns-then-not-is_empty-clause-entry : goal.returns-then-not-is_empty-clause-entry
returns-then-not-is_empty-clause-entry g c = more_entries _ c.args.self.now _ _ more.Yes (returns-then-not-is_empty-clause-more g c)

pub returns-in-Got-clause-more : goal.returns-in-Got-clause-more
returns-in-Got-clause-more g c =
    let now = c.args.self.now in
    let over : now.start ≡ now.end = omega (arith, now.in_order) in
    let some : 0 < length (now.held.items ++ take (c.in-Got.n - 0) (drop 0 c.take.new.buf)) =
    omega (arith, length-append now.held.items (take (c.in-Got.n - 0) (drop 0 c.take.new.buf)), length-take (c.in-Got.n - 0) c.take.new.buf, c.in-Got.ensures.some, c.in-Got.ensures.fits) in
    more_pending _ _ _ _ (reads_more now now _ _ (reads_start now _) _ refl refl _ c.take.new.buf c.in-Got.n (piece_whole now.held.items c.take.new.buf now.piece c.in-Got.n now.start now.end over) c.in-Got.ensures) some

pub returns-in-Got-clause-entry : goal.returns-in-Got-clause-entry
returns-in-Got-clause-entry g c = more_entries _ _ _ _ more.Yes (returns-in-Got-clause-more g c)

pub returns-in-End-clause-more : goal.returns-in-End-clause-more
returns-in-End-clause-more g c =
    let now = c.args.self.now in
    let over : now.start ≡ now.end = omega (arith, now.in_order) in
    let none : now.held.items ≡ [] = nil_from_length now.held.items (let test = c.if-not-is_empty.ensures in grind (arith, nat_tests)) in
    ended_empty now now _ _ _ _ (reads_start now _) (record { unit = refl; number = refl; held = refl; over = over; next_over = over }) none c.in-End.ensures

pub returns-in-End-clause-entry : goal.returns-in-End-clause-entry
returns-in-End-clause-entry g c = more_entries _ _ _ _ more.No (returns-in-End-clause-more g c)

pub returns-in-Got-clause-still : goal.returns-in-Got-clause-still
returns-in-Got-clause-still g c =
    let now = c.args.self.now in
    let over : now.start ≡ now.end = omega (arith, now.in_order) in
    let none : now.held.items ≡ [] = nil_from_length now.held.items (let test = c.if-not-is_empty.ensures in grind (arith, nat_tests)) in
    λ some. absurd (none_pending now none over some)

pub returns-in-End-clause-still : goal.returns-in-End-clause-still
returns-in-End-clause-still g c =
    let now = c.args.self.now in
    let over : now.start ≡ now.end = omega (arith, now.in_order) in
    let none : now.held.items ≡ [] = nil_from_length now.held.items (let test = c.if-not-is_empty.ensures in grind (arith, nat_tests)) in
    λ some. absurd (none_pending now none over some)

pub returns-in-Failed-clause-still : goal.returns-in-Failed-clause-still
returns-in-Failed-clause-still g c =
    let now = c.args.self.now in
    let over : now.start ≡ now.end = omega (arith, now.in_order) in
    let none : now.held.items ≡ [] = nil_from_length now.held.items (let test = c.if-not-is_empty.ensures in grind (arith, nat_tests)) in
    λ some. absurd (none_pending now none over some)

pub returns-in-Failed-clause-more : goal.returns-in-Failed-clause-more
returns-in-Failed-clause-more g c =
    let now = c.args.self.now in
    let over : now.start ≡ now.end = omega (arith, now.in_order) in
    read_failed now now _ _ _ _ (reads_start now _) (record { unit = refl; number = refl; held = refl; over = over; next_over = over }) c.in-Failed.ensures

pub returns-in-Failed-clause-entry : goal.returns-in-Failed-clause-entry
returns-in-Failed-clause-entry g c = more_entries _ _ _ _ more.Failed (returns-in-Failed-clause-more g c)

pub returns-then-not-is_empty-clause-held : goal.returns-then-not-is_empty-clause-held
returns-then-not-is_empty-clause-held g c = let now = c.args.self.now in short now.held.items now.piece now.start now.end now.in_room now.in_piece

pub returns-in-Got-clause-held : goal.returns-in-Got-clause-held
returns-in-Got-clause-held g c =
    let now = c.args.self.now in short now.held.items c.take.new.buf 0 c.in-Got.n now.in_room (search rules)

pub returns-in-End-clause-held : goal.returns-in-End-clause-held
returns-in-End-clause-held g c = let now = c.args.self.now in short now.held.items c.take.new.buf now.start now.end now.in_room now.in_piece

pub returns-in-Failed-clause-held : goal.returns-in-Failed-clause-held
returns-in-Failed-clause-held g c = let now = c.args.self.now in short now.held.items c.take.new.buf now.start now.end now.in_room now.in_piece

pub returns-then-not-is_empty-clause-once : goal.returns-then-not-is_empty-clause-once
returns-then-not-is_empty-clause-once g c = asks_none refl

pub returns-in-Got-clause-once : goal.returns-in-Got-clause-once
returns-in-Got-clause-once g c = once_got c.args.self.now (g.H.Host.seen c.args.host.now) (g.H.Host.seen c.take.new.self) (take c.in-Got.n c.take.new.buf) c.in-Got.ensures.goes

pub returns-in-End-clause-once : goal.returns-in-End-clause-once
returns-in-End-clause-once g c = once_got c.args.self.now (g.H.Host.seen c.args.host.now) (g.H.Host.seen c.take.new.self) [] c.in-End.ensures.goes

pub returns-in-Failed-clause-once : goal.returns-in-Failed-clause-once
returns-in-Failed-clause-once g c = once_failed c.args.self.now (g.H.Host.seen c.args.host.now) (g.H.Host.seen c.take.new.self) c.in-Failed.ensures
