use Rattle.std.proofs.Common.{ℕ, List, ◌++◌, ◌∷◌, [], length, map, ap, sym, ◌∙◌, arith, lit<}
use Rattle.std.specs.Char.{to_ascii_uppercase}
use Rattle.std.proofs.lemmas.List.{length-append}
use Rattle.report_lines.proofs.Names.{short, one_byte, one_letter, no_letter}
use Rattle.report_lines.proofs.units.push_unit.Goals as goal

pub push-requires : goal.push-requires
push-requires c =
    let word = c.as_bytes-letter-items.ensures.value ∙ c.word.ensures in
    let byte = one_byte c.args.unit c.as_bytes-letter-items.result.now c.loop-letter.letter-index c.from.result word (c.from.ensures ∙ c.to_ascii_uppercase.ensures.value) in
    (lit< tt, omega (arith, byte.1, short c.args.unit, ap length word))

pub loop-letter-preserved : goal.loop-letter-preserved
loop-letter-preserved c =
    let letters = c.as_bytes-letter-items.result.now in
    let is = c.from.ensures ∙ c.to_ascii_uppercase.ensures.value in
    let byte = one_byte c.args.unit letters c.loop-letter.letter-index c.from.result (c.as_bytes-letter-items.ensures.value ∙ c.word.ensures) is in
    let bytes = c.push.ensures.ascii byte.0 in
    record {
      len = omega (arith, ap length bytes, length-append c.loop-letter.line.bytes (c.from.result ∷ []));
      bytes = rw (bytes, is) (one_letter c.loop-letter.line.bytes letters c.loop-letter.letter-index c.loop-letter-test.true ∙ c.loop-letter.invariant.bytes);
    }

pub returns : goal.returns
returns c =
    let letters = c.as_bytes-letter-items.result.now in
    let word = c.as_bytes-letter-items.ensures.value ∙ c.word.ensures in
    record {
      bytes = sym (no_letter c.loop-letter.line.bytes letters c.loop-letter.letter-index c.loop-letter-test.false)
          ∙ c.loop-letter.invariant.bytes
          ∙ ap (λ (w : List ℕ). c.args.line.now.bytes ++ map to_ascii_uppercase w) word;
      len = omega (arith, short c.args.unit, ap length word);
    }
