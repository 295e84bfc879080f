-- Five decimal digits are a field.
use Rattle.std.proofs.Common.{◌+◌, ◌-◌, refl, arith}
use Rattle.addr_indirect.proofs.Windows.{decimal_reads_in, number_more, number_none, field_is}
use Rattle.addr_indirect.proofs.decimal_field.Goals as goal

pub decimal_in-e-requires-clause-decimal : goal.decimal_in-e-requires-clause-decimal
decimal_in-e-requires-clause-decimal g c = c.if-not-are_decimal.ensures.yes refl 0 (omega arith) refl

pub decimal_in-d-requires-clause-decimal : goal.decimal_in-d-requires-clause-decimal
decimal_in-d-requires-clause-decimal g c = c.if-not-are_decimal.ensures.yes refl 1 (omega arith) refl

pub decimal_in-c-requires-clause-decimal : goal.decimal_in-c-requires-clause-decimal
decimal_in-c-requires-clause-decimal g c = c.if-not-are_decimal.ensures.yes refl 2 (omega arith) refl

pub decimal_in-b-requires-clause-decimal : goal.decimal_in-b-requires-clause-decimal
decimal_in-b-requires-clause-decimal g c = c.if-not-are_decimal.ensures.yes refl 3 (omega arith) refl

pub decimal_in-a-requires-clause-decimal : goal.decimal_in-a-requires-clause-decimal
decimal_in-a-requires-clause-decimal g c = c.if-not-are_decimal.ensures.yes refl 4 (omega arith) refl

pub returns : goal.returns
returns g c =
    let core = c.args.core.now in
    let u = c.args.u in
    let l = c.size-size.ensures.length in
    let re = decimal_reads_in core (u - 4 + 0) (u - 4) _ c.decimal_in-e.result (omega arith) (omega arith) (c.ten-w.ensures.cells 0 (omega arith)) c.decimal_in-e.ensures.decimal c.decimal_in-e.ensures.is in
    let rd = decimal_reads_in core (u - 4 + 1) (u - 3) _ c.decimal_in-d.result (omega arith) (omega arith) (c.ten-w.ensures.cells 1 (omega arith)) c.decimal_in-d.ensures.decimal c.decimal_in-d.ensures.is in
    let rc = decimal_reads_in core (u - 4 + 2) (u - 2) _ c.decimal_in-c.result (omega arith) (omega arith) (c.ten-w.ensures.cells 2 (omega arith)) c.decimal_in-c.ensures.decimal c.decimal_in-c.ensures.is in
    let rb = decimal_reads_in core (u - 4 + 3) (u - 1) _ c.decimal_in-b.result (omega arith) (omega arith) (c.ten-w.ensures.cells 3 (omega arith)) c.decimal_in-b.ensures.decimal c.decimal_in-b.ensures.is in
    let ra = decimal_reads_in core (u - 4 + 4) u _ c.decimal_in-a.result (omega arith) (omega arith) (c.ten-w.ensures.cells 4 (omega arith)) c.decimal_in-a.ensures.decimal c.decimal_in-a.ensures.is in
    let n0 = number_none core (u - 5) in
    let n1 = number_more core (u - 4) (u - 5) 0 0 c.decimal_in-e.result (omega arith) re n0 in
    let n2 = number_more core (u - 3) (u - 4) 1 _ c.decimal_in-d.result (omega arith) rd n1 in
    let n3 = number_more core (u - 2) (u - 3) 2 _ c.decimal_in-c.result (omega arith) rc n2 in
    let n4 = number_more core (u - 1) (u - 2) 3 _ c.decimal_in-b.result (omega arith) rb n3 in
    field_is core u _ _ c.decimal_in-a.result ra n4 (omega arith)
