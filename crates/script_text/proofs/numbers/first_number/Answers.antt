use Rattle.script_text.proofs.Vocabulary.{rules, ◌≡◌, ◌<◌, ◌+◌, ◌∙◌, ℕ, true, false, drop, get_or, length, eqb, sym, ap, arith, slice_split, is_ascii_digit}
use Rattle.script_text.proofs.Fronts.{numbers_from, digit_read}
use Rattle.script_text.proofs.numbers.first_number.Goals as goal

pub loop-end-preserved : goal.loop-end-preserved
loop-end-preserved c =
    let word = c.args.word.now in
    let place = c.loop-end.end in
    let value = c.loop-end.value in
    let byte = get_or word place 0 in
    let inside : place < length word = search rules in
    let other : eqb byte c.args.separator ≡ false = search rules in
    let digit : is_ascii_digit byte ≡ true = search rules in
    record {
      within = omega (arith, inside);
      none = λ zero. absurd (omega (arith, zero));
      read =
          ap (λ v. numbers_from (place + 1) v c.args.limit (slice_split (λ (b : ℕ). eqb b c.args.separator) (drop (place + 1) word))) (search rules)
          ∙ sym (digit_read c.args.separator value c.args.limit place word inside other c.loop-end.invariant.none digit)
          ∙ c.loop-end.invariant.read;
    }
