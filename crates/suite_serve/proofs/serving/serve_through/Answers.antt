use Rattle.suite_serve.proofs.Vocabulary.{◌≡◌, ◌∙◌, ap, subst, [], ◌∷◌, None, Opening, AreOf, passes_by, new_pass, Plan, IsServed, AreDone}
use Rattle.suite_serve.proofs.Certified.{came_of, is_served}
use Rattle.suite_serve.proofs.Counted.{few_items}
use Rattle.suite_serve.proofs.Quiet.{none_made, operators}
use Rattle.suite_serve.proofs.serving.serve_through.Goals as goal

pub returns : goal.returns
returns g c =
    let plan : Plan = record { settings = c.script.inside.settings; jobs = c.script.inside.jobs.items; alone = c.script.inside.alone } in
    let worked = c.in_ok-agents.field-0 in
    let transcripts = c.in_ok-transcripts.transcripts in
    let jobs = c.in_ok-jobs.jobs.items in
    let done : AreDone jobs plan.alone worked = c.in_ok-agents.ensures.done in
    let held : passes_by None worked.passes.items ≡ new_pass None ∷ [] = c.in_ok-agents.ensures.quiet ∙ ap (passes_by None) c.in_ok-servers.ensures.passes ∙ operators plan.settings.agents in
    let quiet = none_made c.in-Ok.histories worked.passes.items held (c.in-Ok.ensures.counted None) in
    let told = c.new.ensures ∙ ap (came_of transcripts worked.outcomes.items) c.items_in-steps.ensures in
    subst (λ (p : Plan). IsServed p c.new.result) c.script.view_is
    (is_served plan c.new.result c.in-Ok.histories transcripts jobs worked c.in_ok-judge.ensures.certified c.in_ok-judge.ensures.promised c.in_ok-judge.ensures.time
    quiet c.in_ok-jobs.ensures c.in_ok-transcripts.ensures done told)

pub items_in-steps-requires : goal.items_in-steps-requires
items_in-steps-requires g c =
    let histories = c.in-Ok.histories in
    few_items c.script.inside.settings histories c.servers-servers.ensures.accepted
    (subst (λ (given : Opening). AreOf given histories) c.in_ok-servers.ensures.servers c.in-Ok.ensures.legal)
