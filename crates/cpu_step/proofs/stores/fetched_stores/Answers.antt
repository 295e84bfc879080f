use Rattle.std.proofs.Common.{refl, sym, arith}
use Rattle.cpu_step.proofs.StepStores.{row_step, row_none, stores_below, operands_none}
use Rattle.cpu_step.proofs.stores.fetched_stores.Goals as goal

pub returns-in-Ok-operands-clause-within : goal.returns-in-Ok-operands-clause-within
returns-in-Ok-operands-clause-within g c =
    let l = c.size_law.ensures.length in
    let p = c.in-Ok-operands.ensures.p in
    let q = c.in-Ok-operands.ensures.q in
    let is = c.in-Ok.ensures in
    let works = sym (c.in-Ok-operands.ensures.is is.uses c.in-Ok.fields.stores c.args.i.now c.requires.fetched is.fields_are) in
    rw c.stores_by.ensures (row_step _ _ c.args.i.now c.requires.fetched _ is.row_is c.in-Ok-operands.o works (omega arith) (omega arith))

pub returns-in-Err-operands-clause-within : goal.returns-in-Err-operands-clause-within
returns-in-Err-operands-clause-within g c =
    let is = c.in-Ok.ensures in
    operands_none _ _ c.args.i.now c.requires.fetched _ is.row_is c.in-Err-operands.field-0
    (sym (c.in-Err-operands.ensures.is is.uses c.in-Ok.fields.stores c.args.i.now c.requires.fetched is.fields_are))

pub returns-in-Err-clause-within : goal.returns-in-Err-clause-within
returns-in-Err-clause-within g c = row_none _ _ c.args.i.now c.requires.fetched c.in-Err.field-0 c.in-Err.ensures

pub returns-in-Ok-operands-clause-is : goal.returns-in-Ok-operands-clause-is
returns-in-Ok-operands-clause-is g c =
    let is = c.in-Ok.ensures in
    let works = sym (c.in-Ok-operands.ensures.is is.uses c.in-Ok.fields.stores c.args.i.now c.requires.fetched is.fields_are) in
    rw (c.stores_by.ensures, is.row_is, works) refl

pub returns-in-Ok-operands-clause-below : goal.returns-in-Ok-operands-clause-below
returns-in-Ok-operands-clause-below g c = rw c.stores_by.ensures (stores_below c.in-Ok.fields.stores c.in-Ok-operands.o _ c.in-Ok-operands.ensures.p c.in-Ok-operands.ensures.q)

pub returns-in-Err-operands-clause-is : goal.returns-in-Err-operands-clause-is
returns-in-Err-operands-clause-is g c =
    let is = c.in-Ok.ensures in
    let works = sym (c.in-Err-operands.ensures.is is.uses c.in-Ok.fields.stores c.args.i.now c.requires.fetched is.fields_are) in
    rw (is.row_is, works) refl
