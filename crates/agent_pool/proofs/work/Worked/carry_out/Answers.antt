use Rattle.agent_pool.proofs.Vocabulary.{rules, ◌+◌, List, ◌++◌, ◌∷◌, [], ◌∙◌, ap, sym, refl, subst, arith, Some, slice_get-get_or, ltb-true, Came, Halt}
use Rattle.agent_pool.proofs.Vocabulary.{Strange, NamedJob, DidJob, JobDone, IsHalted, RiseInPlace}
use Rattle.agent_pool.specs.declared.work.Halt.TheVariants.{Lacked}
use Rattle.agent_pool.specs.Taken.{Leaves}
use Rattle.agent_pool.proofs.JobsTaken.{took_done, took_halted, took_left}
use Rattle.agent_pool.proofs.Works.{not_some, number_there, place_longer, place_more, works_longer, works_more, works_stop}
use Rattle.agent_pool.proofs.work.Worked.carry_out.Goals as goal
use Rattle.agent_pool.proofs.work.Worked.carry_out.Goals.{in-Lacked, in-Stuck}

pub returns-then-is_err-clause-work : goal.returns-then-is_err-clause-work
returns-then-is_err-clause-work g c = works_stop _ _ c.args.self _ Lacked c.requires.work (not_some c.args.self.halt (search rules)) (search rules) (search rules) (search rules) (search rules) tt

pub returns-in_default-clause-work : goal.returns-in_default-clause-work
returns-in_default-clause-work g c = works_stop _ _ c.args.self _ (Strange c.args.place) c.requires.work (not_some c.args.self.halt (search rules)) (search rules) (search rules) (search rules) (search rules) (search rules)

pub returns-in-Ended-clause-work : goal.returns-in-Ended-clause-work
returns-in-Ended-clause-work g c =
    let named = c.in-Some.named.now in
    let at = slice_get-get_or c.args.context.now.jobs.now c.args.place named (ltb-true _ _ (sym c.in-Some.ensures.lookup.0)) ∙ ap (λ (it : NamedJob). Some it) (sym c.in-Some.ensures.lookup.1) in
    works_more _ _ _ c.args.self _ (record { place = c.args.place; ran = c.in-Ended.ran }) named c.requires.work
    (subst (λ (what : Came). DidJob c.args.context.now.servers.now.servers named.job c.args.self.player c.run-pass.new.player c.args.self.pass c.run-pass.result.0 what) c.in-Ended.is c.run-pass.ensures.did)
    (c.push_reserved.ensures.items ∙ ap (λ ds. ds ++ record { place = c.args.place; ran = c.in-Ended.ran } ∷ []) c.reserve.ensures.items) at (not_some c.args.self.halt (search rules)) refl c.requires.behind

pub returns-clause-work : goal.returns-clause-work
returns-clause-work g c =
    let named = c.in-Some.named.now in
    let at = slice_get-get_or c.args.context.now.jobs.now c.args.place named (ltb-true _ _ (sym c.in-Some.ensures.lookup.0)) ∙ ap (λ (it : NamedJob). Some it) (sym c.in-Some.ensures.lookup.1) in
    let player = c.run-pass.new.player in
    works_longer _ _ c.args.self _ _ c.run-pass.ensures.did.longer c.requires.work (not_some c.args.self.halt (search rules)) c.run-pass.ensures.did.went c.reserve.ensures.items refl
    (elim c.match-came.branch [
      | in-Lacked w ↦ subst (λ (h : Halt). IsHalted c.args.context.now.jobs.now player (Some h)) (sym w.halt-is) tt
      | in-Stuck w ↦ subst (λ (h : Halt). IsHalted c.args.context.now.jobs.now player (Some h)) (sym w.halt-is) (number_there c.args.context.now.jobs.now c.args.place named at)
    ])
    (elim c.match-came.branch [
      | in-Lacked w ↦ λ other. absurd (other w.halt-is)
      | in-Stuck w ↦ λ other. c.run-pass.ensures.did.leads (λ is. let stuck = w.in-Stuck.is in cc)
    ])

pub returns-then-is_some-clause-order : goal.returns-then-is_some-clause-order
returns-then-is_some-clause-order g c = place_longer 0 c.args.place (c.args.place + 1) c.args.self.done.items c.requires.behind (omega arith)

pub returns-then-is_err-clause-order : goal.returns-then-is_err-clause-order
returns-then-is_err-clause-order g c = place_longer 0 c.args.place (c.args.place + 1) _ (subst (λ (ds : List JobDone). RiseInPlace 0 ds c.args.place) (search rules) c.requires.behind) (omega arith)

pub returns-in_default-clause-order : goal.returns-in_default-clause-order
returns-in_default-clause-order g c = place_longer 0 c.args.place (c.args.place + 1) _ (subst (λ (ds : List JobDone). RiseInPlace 0 ds c.args.place) (search rules) c.requires.behind) (omega arith)

pub returns-in-Ended-clause-order : goal.returns-in-Ended-clause-order
returns-in-Ended-clause-order g c =
    subst (λ (ds : List JobDone). RiseInPlace 0 ds (c.args.place + 1)) (sym (c.push_reserved.ensures.items ∙ ap (λ ds. ds ++ record { place = c.args.place; ran = c.in-Ended.ran } ∷ []) c.reserve.ensures.items))
    (place_more 0 c.args.place c.args.self.done.items (record { place = c.args.place; ran = c.in-Ended.ran }) c.requires.behind (omega arith))

pub returns-clause-order : goal.returns-clause-order
returns-clause-order g c = place_longer 0 c.args.place (c.args.place + 1) _ (subst (λ (ds : List JobDone). RiseInPlace 0 ds c.args.place) (sym c.reserve.ensures.items) c.requires.behind) (omega arith)

-- ---- what it took

pub returns-then-is_some-clause-took : goal.returns-then-is_some-clause-took
returns-then-is_some-clause-took g c = λ taken took. took_left _ _ c.args.self taken c.args.place (search rules) took

pub returns-then-is_err-clause-took : goal.returns-then-is_err-clause-took
returns-then-is_err-clause-took g c = λ taken took. took_halted _ _ c.args.self _ Lacked taken c.args.place (not_some c.args.self.halt (search rules)) (search rules) (search rules) tt took

pub returns-in_default-clause-took : goal.returns-in_default-clause-took
returns-in_default-clause-took g c =
    λ taken took. took_halted _ _ c.args.self _ (Strange c.args.place) taken c.args.place (not_some c.args.self.halt (search rules)) (search rules) (search rules) (0, omega arith, refl) took

pub returns-in-Ended-clause-took : goal.returns-in-Ended-clause-took
returns-in-Ended-clause-took g c = λ taken took.
    took_done _ _ c.args.self _ (record { place = c.args.place; ran = c.in-Ended.ran }) taken (not_some c.args.self.halt (search rules))
    (c.push_reserved.ensures.items ∙ ap (λ ds. ds ++ record { place = c.args.place; ran = c.in-Ended.ran } ∷ []) c.reserve.ensures.items) refl took

pub returns-clause-took : goal.returns-clause-took
returns-clause-took g c = λ taken took.
    let jobs = c.args.context.now.jobs.now in
    let servers = c.args.context.now.servers.now.servers in
    let named = c.in-Some.named.now in
    let at = slice_get-get_or jobs c.args.place named (ltb-true _ _ (sym c.in-Some.ensures.lookup.0)) ∙ ap (λ (it : NamedJob). Some it) (sym c.in-Some.ensures.lookup.1) in
    let player = c.run-pass.new.player in
    let pass = c.run-pass.result.0 in
    took_halted _ _ c.args.self _ _ taken c.args.place (not_some c.args.self.halt (search rules)) c.reserve.ensures.items refl
    (elim c.match-came.branch [
      | in-Lacked w ↦ subst (λ (h : Halt). Leaves servers jobs player pass (c.args.place ∷ []) (Some h)) (sym w.halt-is) tt
      | in-Stuck w ↦ subst (λ (h : Halt). Leaves servers jobs player pass (c.args.place ∷ []) (Some h)) (sym w.halt-is)
          (record { place = c.args.place; named = named; there = at; of = refl; took = (0, omega arith, refl); cannot = c.run-pass.ensures.did.stuck w.in-Stuck.is })
    ])
    took
