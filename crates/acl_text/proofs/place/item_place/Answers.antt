use Rattle.acl_text.proofs.Vocabulary.{◌≡◌, ℕ, ◌+◌, ◌-◌, ◌∷◌, ◌++◌, List, [], length, Option, ap, sym, ◌∙◌, arith, slice_get, comma, line_feed, parts, begins, begins_of_lines, parts_left}
use Rattle.acl_text.specs.code.Finding.{found}
use Rattle.acl_text.proofs.ItemCounts.{cut_length}
use Rattle.acl_text.proofs.ItemPlaces.{lines_begun, lines_below}
use Rattle.acl_text.proofs.place.item_place.Goals as goal

pub loop-place-init : goal.loop-place-init
loop-place-init c = record {
  short = omega arith;
  same = lines_begun c.args.text.now c.args.number c.in_ok-left.left c.in_ok-left.ensures.0 c.in_ok-left.ensures.1;
}

pub overflow_sub-result : goal.overflow_sub-result
overflow_sub-result c = c.loop-place.invariant.short

pub returns-in-Ok : goal.returns-in-Ok
returns-in-Ok c =
    let begun = length c.args.text.now - length c.loop-place.below.now in
    let line = c.cut_line.result.0.now in
    let more = begins_of_lines (begun + (length line + 1)) (parts_left line_feed c.cut_line.result.1) in
    sym (c.loop-place.invariant.same
    ∙ ap (λ lines. slice_get (begins_of_lines begun lines) c.loop-place.left) c.cut_line.ensures
    ∙ ap (λ said. slice_get (begins begun (parts comma said) ++ more) c.loop-place.left) (sym c.uncommented.ensures)
    ∙ c.place_in.ensures.place begun more
    ∙ ap (found begun more) c.in-Ok.is)

pub returns-in_err-below : goal.returns-in_err-below
returns-in_err-below c =
    let begun = length c.args.text.now - length c.loop-place.below.now in
    let line = c.cut_line.result.0.now in
    let more = begins_of_lines (begun + (length line + 1)) (parts_left line_feed c.cut_line.result.1) in
    let nothing : more ≡ [] = ap (λ rest. begins_of_lines (begun + (length line + 1)) (parts_left line_feed rest)) c.in_err-below.was in
    c.from_residual-in_err-below.ensures
    ∙ sym (c.loop-place.invariant.same
    ∙ ap (λ lines. slice_get (begins_of_lines begun lines) c.loop-place.left) c.cut_line.ensures
    ∙ ap (λ said. slice_get (begins begun (parts comma said) ++ more) c.loop-place.left) (sym c.uncommented.ensures)
    ∙ c.place_in.ensures.place begun more
    ∙ ap (found begun more) c.in-Err.is
    ∙ ap (λ below. slice_get below c.in-Err.more) nothing)

pub loop-place-smaller : goal.loop-place-smaller
loop-place-smaller c =
    let cut = c.cut_line.ensures ∙ ap (λ after. c.cut_line.result.0.now ∷ parts_left line_feed after) c.in_ok-below.was in
    let long = cut_length line_feed c.loop-place.below.now c.cut_line.result.0.now c.in_ok-below.below.now cut in
    omega (arith, long)

pub loop-place-preserved : goal.loop-place-preserved
loop-place-preserved c =
    let begun = length c.args.text.now - length c.loop-place.below.now in
    let line = c.cut_line.result.0.now in
    let below : Option _ → List ℕ = λ rest. begins_of_lines (begun + (length line + 1)) (parts_left line_feed rest) in
    let more = below c.cut_line.result.1 in
    let cut = c.cut_line.ensures ∙ ap (λ after. line ∷ parts_left line_feed after) c.in_ok-below.was in
    let long = cut_length line_feed c.loop-place.below.now line c.in_ok-below.below.now cut in
    record {
      short = omega (arith, long, c.loop-place.invariant.short);
      same =
          c.loop-place.invariant.same
          ∙ ap (λ lines. slice_get (begins_of_lines begun lines) c.loop-place.left) c.cut_line.ensures
          ∙ ap (λ said. slice_get (begins begun (parts comma said) ++ more) c.loop-place.left) (sym c.uncommented.ensures)
          ∙ c.place_in.ensures.place begun more
          ∙ ap (found begun more) c.in-Err.is
          ∙ ap (λ places. slice_get places c.in-Err.more) (ap below c.in_ok-below.was ∙ lines_below c.args.text.now c.loop-place.below.now line c.in_ok-below.below.now cut c.loop-place.invariant.short);
    }
