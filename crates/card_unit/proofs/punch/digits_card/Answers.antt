use Rattle.std.proofs.Common.{◌≡◌, ◌+◌, ◌-◌, sym, ◌∙◌, ap, arith, length-set, List, ℕ, Result, Ok}
use Rattle.std.proofs.lemmas.Result.{err_from_is_err_and}
use Rattle.addr_indirect.specs.declared.Stop.{Stop}
use Rattle.addr_indirect.specs.Reading.{read_up}
use Rattle.traces.specs.Trace.{map_answer}
use Rattle.card_code.specs.Entries.{text_as_card}
use Rattle.card_code.specs.Characters.{punch_num}
use Rattle.card_code.proofs.CellTexts.{put_long, ten_chars_are}
use Rattle.card_unit.proofs.CardsPunched.{good_put, blank_on, blank_past, filled_columns, joined_then, digit_stop, digit_on, ten_on, digits_read}
use Rattle.card_unit.proofs.punch.digits_card.Goals as goal

pub loop-k-preserved-in-Some : goal.loop-k-preserved-in-Some
loop-k-preserved-in-Some g c =
    let room = c.in-Some.ensures.more in
    let held = c.in-Some.ensures.held in
    let all = c.loop-k.invariant.all in
    let n : c.loop-k.k + 10 - c.loop-k.k ≡ 10 = omega arith in
    let put = c.put_punch_chars.new.into in
    let long = c.put_punch_chars.ensures.ten in
    let chars = good_put c.in-Some.word put c.put_punch_chars.result held.good c.put_punch_chars.ensures.puts in
    record {
      within = omega arith;
      all = put_long c.loop-k.k _ c.loop-k.columns put n (omega arith) long ∙ all;
      blank = blank_past c.loop-k.k _ c.loop-k.columns put n (long ∙ sym n) (omega arith) c.loop-k.invariant.blank;
      rest = sym (ten_on c.args.core.now c.args.a c.args.count c.loop-k.k c.loop-k.columns _ put (omega arith) long (omega arith) (ten_chars_are punch_num c.args.core.now put (c.args.a + c.loop-k.k) c.in-Some.word held.room chars held.cells)) ∙ c.loop-k.invariant.rest;
    }

pub returns-in_err-read_at-in-None : goal.returns-in_err-read_at-in-None
returns-in_err-read_at-in-None g c =
    let p = err_from_is_err_and c.from_residual.result c.from_residual.ensures.1 in
    let stop = digit_stop c.args.core.now c.args.a c.args.count c.loop-k.k c.loop-k.columns c.loop-k-test.true _ (sym c.in_err-read_at-in-None.ensures.is) in
    rw (p.1, p.2) (sym (joined_then text_as_card (read_up c.args.core.now c.args.a c.args.count) ∙ ap (λ (r : Result (List ℕ) Stop). map_answer text_as_card r) (sym c.loop-k.invariant.rest ∙ stop)))

pub loop-k-preserved : goal.loop-k-preserved
loop-k-preserved g c =
    let on = digit_on c.args.core.now c.args.a c.args.count c.loop-k.k c.loop-k.columns c.loop-k-test.true c.in_ok-read_at-in-None.field-0 (sym c.in_ok-read_at-in-None.ensures.is) (omega (arith, c.loop-k.invariant.all)) in
    record {
      within = omega arith;
      all = rw length-set c.loop-k.invariant.all;
      blank = blank_on c.loop-k.k _ c.loop-k.columns c.loop-k.invariant.blank;
      rest = rw c.punch_num.ensures (sym on ∙ c.loop-k.invariant.rest);
    }

pub returns : goal.returns
returns g c =
    let within = c.loop-k.invariant.within in
    let read = digits_read c.args.core.now c.args.a c.args.count c.loop-k.k c.loop-k.columns c.loop-k-test.false in
    let whole = filled_columns c.loop-k.k c.loop-k.columns (omega arith) c.loop-k.invariant.all c.loop-k.invariant.blank in
    sym (joined_then text_as_card (read_up c.args.core.now c.args.a c.args.count) ∙ ap (λ (r : Result (List ℕ) Stop). map_answer text_as_card r) (sym c.loop-k.invariant.rest ∙ read) ∙ ap Ok whole)
