use Rattle.acl_text.proofs.Vocabulary.{◌+◌, ◌-◌, ◌∷◌, ◌++◌, length, ap, ◌∙◌, arith, slice_get, comma, parts, begins, parts_left}
use Rattle.acl_text.proofs.ItemCounts.{cut_length}
use Rattle.acl_text.proofs.ItemPlaces.{begun_here, is_some_left, search_ends, search_on}
use Rattle.acl_text.proofs.place.place_in.Goals as goal

pub loop-left-init : goal.loop-left-init
loop-left-init c = record {
  short = omega arith;
  same = λ place more. begun_here c.args.line.now place (λ p. slice_get (begins p (parts comma c.args.line.now) ++ more) c.args.number);
}

pub returns-then-left-eq0-clause-place : goal.returns-then-left-eq0-clause-place
returns-then-left-eq0-clause-place c = λ place more.
    let there = place + (length c.args.line.now - length c.loop-left.rest.now) in
    c.loop-left.invariant.same place more
    ∙ ap (λ left. slice_get (begins there (parts comma c.loop-left.rest.now) ++ more) left) c.if-left-eq0.true
    ∙ ap (λ all. slice_get (begins there all ++ more) 0) c.cut.ensures

pub loop-left-smaller : goal.loop-left-smaller
loop-left-smaller c =
    let cut = c.cut.ensures ∙ ap (λ after. c.cut.result.0.now ∷ parts_left comma after) c.in-Some.is in
    let long = cut_length comma c.loop-left.rest.now c.cut.result.0.now c.in-Some.next.now cut in
    omega (arith, long)

pub loop-left-preserved : goal.loop-left-preserved
loop-left-preserved c =
    let cut = c.cut.ensures ∙ ap (λ after. c.cut.result.0.now ∷ parts_left comma after) c.in-Some.is in
    let long = cut_length comma c.loop-left.rest.now c.cut.result.0.now c.in-Some.next.now cut in
    record {
      short = omega (arith, long, c.loop-left.invariant.short);
      same = λ place more. c.loop-left.invariant.same place more
          ∙ search_on c.args.line.now c.loop-left.rest.now c.cut.result.0.now c.in-Some.next.now comma place c.loop-left.left more cut c.loop-left.invariant.short
          (is_some_left c.loop-left.left c.if-left-eq0.false);
    }

pub returns-in-None-clause-place : goal.returns-in-None-clause-place
returns-in-None-clause-place c = λ place more.
    let there = place + (length c.args.line.now - length c.loop-left.rest.now) in
    let cut = c.cut.ensures ∙ ap (λ after. c.cut.result.0.now ∷ parts_left comma after) c.in-None.is in
    c.loop-left.invariant.same place more
    ∙ ap (λ all. slice_get (begins there all ++ more) c.loop-left.left) cut
    ∙ search_ends there c.loop-left.left more (is_some_left c.loop-left.left c.if-left-eq0.false)
