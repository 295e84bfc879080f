use Rattle.std.proofs.Common.{◌≡◌, ◌+◌, ◌*◌, ◌/◌, ◌%◌, ◌-◌, ◌≤◌, length, drop, sym, ◌∙◌, arith}
use Rattle.std.proofs.lemmas.List.{length-take, length-drop}
use Rattle.std.proofs.lemmas.Result.{err_from_is_err_and}
use borrow.Rule.Slice.PartMut.{put_mid}
use Rattle.card_code.specs.Characters.{object_char}
use Rattle.card_code.proofs.CellTexts.{put_long, ten_chars_are}
use Rattle.disk_1311.proofs.SectorsRead.{joined_nil, text_all}
use Rattle.disk_1311.proofs.TextTens.{are_put, text_next, text_again, text_ends}
use Rattle.disk_1311.proofs.sector.sector_text.Goals as goal
use Rattle.disk_1311.proofs.sector.sector_text.Goals.{else-not-put_object_chars, then-not-put_object_chars+in_ok-chars}

pub loop-k-init : goal.loop-k-init
loop-k-init g c = let first : c.args.a + 0 ≡ c.args.a = omega arith in record { all = omega (arith, c.told-text); rest = rw first (joined_nil _) }

pub returns-in_err-chars : goal.returns-in_err-chars
returns-in_err-chars g c =
    let p = err_from_is_err_and c.from_residual.result c.from_residual.ensures.1 in
    rw (p.1, p.2) (sym (text_ends c.args.core.now c.args.a (10 * c.loop-k.k) c.loop-k.text (omega arith) _ c.in_err-chars.ensures) ∙ c.loop-k.invariant.rest)

pub loop-k-preserved : goal.loop-k-preserved
loop-k-preserved g c =
    let at : 10 * (c.args.a / 10 + c.loop-k.k) + c.args.a % 10 ≡ c.args.a + 10 * c.loop-k.k = omega arith in
    let e : 10 * (c.loop-k.k + 1) ≡ 10 * c.loop-k.k + 10 = omega arith in
    let n : 10 * c.loop-k.k + 10 - 10 * c.loop-k.k ≡ 10 = omega arith in
    let room : 10 * c.loop-k.k + 10 ≤ 100 = omega arith in
    let all = c.loop-k.invariant.all in
    let put = c.put_object_chars.new.into in
    let long = c.put_object_chars.ensures.ten in
    elim c.if-not-put_object_chars.branch [
      | else-not-put_object_chars w ↦
          let is = w.if-not-put_object_chars.false in
          let chars = are_put object_char c.ten_of-word.result put c.put_object_chars.result is c.put_object_chars.ensures.puts in
          rw w.text-is
          (record {
            all = put_long (10 * c.loop-k.k) _ c.loop-k.text put n (omega arith) long ∙ all;
            rest = rw e (sym (text_next c.args.core.now c.args.a (10 * c.loop-k.k) c.loop-k.text room _ put long all (sym (ten_chars_are object_char c.args.core.now put (c.args.a + 10 * c.loop-k.k) c.ten_of-word.result (omega (arith, c.size_law.ensures.length)) chars (rw at at c.ten_of-word.ensures.cells)))) ∙ c.loop-k.invariant.rest);
          })
      | then-not-put_object_chars+in_ok-chars w ↦
          let text = put_mid (10 * c.loop-k.k) (10 * c.loop-k.k + 10 - 10 * c.loop-k.k) c.loop-k.text put in
          let whole : length text ≡ 100 = put_long (10 * c.loop-k.k) _ c.loop-k.text put n (omega arith) long ∙ all in
          let part = length-take (10 * c.loop-k.k + 10 - 10 * c.loop-k.k) (drop (10 * c.loop-k.k) text) in
          let ten : length w.copy_from_slice.new.self ≡ 10 = omega (arith, w.copy_from_slice.ensures.len, part, length-drop (10 * c.loop-k.k) text) in
          rw w.text-is
          (record {
            all = put_long (10 * c.loop-k.k) _ text w.copy_from_slice.new.self n (omega arith) ten ∙ whole;
            rest = rw e (sym (text_again c.args.core.now c.args.a (10 * c.loop-k.k) c.loop-k.text room _ _ put w.copy_from_slice.new.self n long ten all (rw w.copy_from_slice.ensures.after w.in_ok-chars.ensures)) ∙ c.loop-k.invariant.rest);
          })
    ]

pub returns : goal.returns
returns g c = sym (text_all c.args.core.now c.args.a (10 * c.loop-k.k) c.loop-k.text 100 (omega arith) c.loop-k.invariant.all) ∙ c.loop-k.invariant.rest
