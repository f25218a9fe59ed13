use Rattle.rep_core.proofs.Vocabulary.{◌∙◌, ap, nat_cmp, insert}
use Rattle.rep_core.proofs.ByAgent.{by_agent_insert, merged_insert}
use Rattle.rep_core.proofs.verdicts.Verdicts.insert_in_room.Goals as goal

pub invariant_of-self : goal.invariant_of-self
invariant_of-self c = by_agent_insert c.self.inside.maps.items c.insert_at.new.maps.items c.args.t c.args.verdict c.insert_at.ensures.here c.insert_at.ensures.apart c.self.invariant

pub returns : goal.returns
returns c = record {
  pairs = merged_insert c.self.inside.maps.items c.insert_at.new.maps.items c.args.t c.args.verdict c.insert_at.ensures.here c.insert_at.ensures.apart c.self.invariant
      ∙ ap (λ v. insert nat_cmp v.pairs c.args.t c.args.verdict) c.self.view_is;
}
