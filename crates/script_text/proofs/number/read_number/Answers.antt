use Rattle.script_text.proofs.Vocabulary.{◌∙◌, ap, sym, ◌<◌, ◌+◌, ◌*◌, ◌-◌, drop, get_or, length, rules, arith, drop_more}
use Rattle.script_text.proofs.Values.{number_from, number_of_some, no_room}
use Rattle.script_text.proofs.number.read_number.Goals as goal

pub returns-in_default : goal.returns-in_default
returns-in_default c =
    let word = c.args.word.now in
    let place = c.loop-byte.byte-index in
    let byte = get_or word place 0 in
    let full = c.in_default.ensures in
    let big : c.args.limit < 10 * c.loop-byte.value + (byte - 48) = omega (arith, full) in
    sym (no_room c.loop-byte.value c.args.limit byte (drop (place + 1) word) big) ∙ ap (number_from c.loop-byte.value c.args.limit) (sym (drop_more word place 0 c.loop-byte-test.true)) ∙ c.loop-byte.invariant

pub loop-byte-init : goal.loop-byte-init
loop-byte-init c =
    let some : 0 < length c.args.word.now = search rules in
    sym (number_of_some c.args.limit c.args.word.now some)
