use Rattle.std.specs.Prelude.{[], ◌∷◌}
use Rattle.std.proofs.lemmas.List.Elements.{All-nil, All-cons}
use Rattle.rep_core.specs.declared.request.Request.{Request}
use Rattle.rep_core.specs.declared.stamped.Stamped.{Stamped}
use Rattle.rep_core.specs.ValidCopies.{RequestFits}
use Rattle.run_tests.proofs.promises.asked_twice.Goals as goal

abbrev fits : Stamped Request → Type 0
fits asked = RequestFits asked.value

pub returns : goal.returns
returns c =
    let first = c.args.first.now in
    let second = c.args.second.now in
    λ index.
    c.copies_are_valid.ensures.has index c.args.settings.now (first ∷ second ∷ []) c.settings_fit.ensures
    (All-cons fits first (second ∷ []) c.takes_fit.ensures (All-cons fits second [] c.takes_fit-2.ensures (All-nil fits)))
