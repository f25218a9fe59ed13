use Rattle.run_certify.proofs.Vocabulary.{◌∙◌, ap, subst, sym, fixed_of, Begin, has_sense, IsSound, Walked}
use Rattle.run_certify.proofs.Playing.{may_begin_is}
use Rattle.run_certify.proofs.walk.Walk.may_begin.Goals as goal

pub returns-clause-value : goal.returns-clause-value
returns-clause-value c sound =
    let i = c.self.inside in
    let walked : Walked = record { settings = i.settings.now; given = i.world.given; world = i.world.world; histories = i.heads; unused = i.unused; begun = i.begun; made = i.decisions.items } in
    rw (c.idle-idle.ensures, c.from.ensures, c.agents.ensures.value, c.has_sense-sense.ensures, c.count-few.ensures)
    (may_begin_is walked c.args.agent c.args.job.now (subst IsSound (sym c.self.view_is) sound)
    ∙ ap (λ (w : Walked). has_sense (fixed_of w.given) w.world (Begin c.args.agent c.args.job.now)) c.self.view_is)
