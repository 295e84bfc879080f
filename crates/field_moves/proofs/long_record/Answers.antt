-- A record that moves whole is moved by a copy.
use Rattle.std.proofs.Common.{◌≡◌, ◌+◌, ◌-◌, ◌≤◌, length, arith}
use Rattle.field_moves.specs.Whole.{MovesWholeUp}
use Rattle.field_moves.proofs.Wholes.{record_copied}
use Rattle.field_moves.proofs.long_record.Goals as goal

pub overflow_add-p : goal.overflow_add-p
overflow_add-p g c =
    let l = c.size_law.ensures.length in
    let w : MovesWholeUp c.args.core.now c.args.p c.args.q c.in-Some.n = c.in-Some.ensures in
    let r : c.args.p + c.in-Some.n ≤ length c.args.core.now = w.room in
    omega arith

pub overflow_add-q : goal.overflow_add-q
overflow_add-q g c =
    let l = c.size_law.ensures.length in
    let w : MovesWholeUp c.args.core.now c.args.p c.args.q c.in-Some.n = c.in-Some.ensures in
    let r : c.args.q + c.in-Some.n ≤ length c.args.core.now = w.whole.high in
    omega arith

pub copy_cells-requires : goal.copy_cells-requires
copy_cells-requires g c =
    let l = c.size_law.ensures.length in
    let w : MovesWholeUp c.args.core.now c.args.p c.args.q c.in-Some.n = c.in-Some.ensures in
    let p_room : c.args.p + c.in-Some.n ≤ length c.args.core.now = w.room in
    let q_room : c.args.q + c.in-Some.n ≤ length c.args.core.now = w.whole.high in
    let s : 1 ≤ c.in-Some.n = w.whole.some in
    (omega arith, (omega arith, (omega arith, (s, (omega arith, omega arith)))))

pub returns-in-Some : goal.returns-in-Some
returns-in-Some g c =
    let l = c.size_law.ensures.length in
    let w : MovesWholeUp c.args.core.now c.args.p c.args.q c.in-Some.n = c.in-Some.ensures in
    let s : 1 ≤ c.in-Some.n = w.whole.some in
    let e : c.args.p + c.in-Some.n - 1 + 1 - c.in-Some.n ≡ c.args.p = omega arith in
    let f : c.args.q + c.in-Some.n - 1 + 1 - c.in-Some.n ≡ c.args.q = omega arith in
    record_copied c.args.core.now c.copy_cells.new.self c.args.p c.args.q c.in-Some.n (omega arith) c.in-Some.ensures (rw (e, f) at c.copy_cells.ensures)
