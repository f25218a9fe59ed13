use Rattle.acl_text.proofs.Vocabulary.{◌≡◌, ◌+◌, ◌-◌, ◌*◌, ◌<◌, ◌∙◌, true, get_or, length, sym, ap, rules, arith, is_ascii_digit, and_from, list_all_more, max_id}
use Rattle.std.proofs.lemmas.Grind.{common_steps}
use Rattle.acl_text.proofs.Numbers.{number_more, too_big}
use Rattle.acl_text.proofs.qualifier.digits_in.Goals as goal

pub unfit-requires : goal.unfit-requires
unfit-requires c =
    let bytes = c.args.bytes.now in
    let i = c.loop-byte.byte-index in
    let inside : i < length bytes = omega arith in
    let digit : is_ascii_digit (get_or bytes i 0) ≡ true = first_of (search rules, grind (arith, common_steps)) in
    let more = number_more bytes i digit inside in
    let big : max_id < c.loop-byte.number * 10 + (get_or bytes i 0 - 48) = omega (arith, c.in_default.ensures) in
    too_big bytes (i + 1) (c.loop-byte.number * 10 + (get_or bytes i 0 - 48)) (ap (λ n. n * 10 + (get_or bytes i 0 - 48)) c.loop-byte.invariant.number ∙ sym more) big

pub loop-byte-preserved : goal.loop-byte-preserved
loop-byte-preserved c =
    let bytes = c.args.bytes.now in
    let i = c.loop-byte.byte-index in
    let inside : i < length bytes = omega arith in
    let digit : is_ascii_digit (get_or bytes i 0) ≡ true = first_of (search rules, grind (arith, common_steps)) in
    let more = number_more bytes i digit inside in
    record {
      digits = list_all_more is_ascii_digit bytes i 0 inside ∙ and_from _ _ c.loop-byte.invariant.digits digit;
      number = omega (arith, more, c.in-Some.ensures, c.loop-byte.invariant.number);
      small = omega (arith, c.in-Some.ensures);
    }
