use Rattle.suite_prefix.proofs.Vocabulary.{◌≡◌, ◌∙◌, ◌<◌, List, length, take, Ok, ap, arith, take_more_set, take_all, err_from_is_err_and, representative_at, many_at}
use Rattle.suite_prefix.proofs.Loop.{goes_on, ends, is_done}
use Rattle.suite_prefix.proofs.reading.representatives_at.Goals as goal

pub returns-in_err-representative : goal.returns-in_err-representative
returns-in_err-representative c =
    let p = err_from_is_err_and c.from_residual.result c.from_residual.ensures.1 in
    rw (p.1, p.2) (ends representative_at c.in_err-representative.field-0.0 (take c.loop-place.place-index c.loop-place.places) (length c.args.places.now) c.loop-place.place-index c.loop-place.rest.now
    (many_at representative_at (length c.args.places.now) c.args.bytes.now) c.loop-place-test.true c.in_err-representative.ensures c.loop-place.invariant)

pub loop-place-preserved : goal.loop-place-preserved
loop-place-preserved c =
    let within : c.loop-place.place-index < length c.loop-place.places = omega (arith, c.loop-place.auto.places, c.loop-place-test.true) in
    rw (take_more_set c.loop-place.places c.loop-place.place-index c.in_ok-representative.representative within)
    (goes_on representative_at (take c.loop-place.place-index c.loop-place.places) (length c.args.places.now) c.loop-place.place-index c.loop-place.rest.now
    c.in_ok-representative.representative c.in_ok-representative.after.now (many_at representative_at (length c.args.places.now) c.args.bytes.now) c.loop-place-test.true c.in_ok-representative.ensures c.loop-place.invariant)

pub returns : goal.returns
returns c =
    let all : take c.loop-place.place-index c.loop-place.places ≡ c.loop-place.places = take_all c.loop-place.place-index c.loop-place.places (omega (arith, c.loop-place.auto.places, c.loop-place-test.false)) in
    is_done representative_at (take c.loop-place.place-index c.loop-place.places) (length c.args.places.now) c.loop-place.place-index c.loop-place.rest.now
    (many_at representative_at (length c.args.places.now) c.args.bytes.now) c.loop-place-test.false c.loop-place.invariant
    ∙ ap (λ (xs : List _). Ok (xs, c.loop-place.rest.now)) all
