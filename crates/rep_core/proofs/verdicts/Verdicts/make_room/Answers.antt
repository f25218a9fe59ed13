use Rattle.std.proofs.Common.{◌∙◌, ap}
use Rattle.rep_core.proofs.ByAgent.{merged_same}
use Rattle.rep_core.proofs.verdicts.Verdicts.make_room.Goals as goal

pub returns-in_err-grow-clause-pairs : goal.returns-in_err-grow-clause-pairs
returns-in_err-grow-clause-pairs c = merged_same c.self.inside.maps.items c.grow.new.maps.items c.grow.ensures.pairs c.self.invariant ∙ ap (λ v. v.pairs) c.self.view_is

pub returns-clause-pairs : goal.returns-clause-pairs
returns-clause-pairs c =
    merged_same c.self.inside.maps.items c.reserve_at.new.maps.items (λ k. c.reserve_at.ensures.pairs k ∙ c.grow.ensures.pairs k) c.self.invariant
    ∙ ap (λ v. v.pairs) c.self.view_is
