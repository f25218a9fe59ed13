use Rattle.run_certify.proofs.Vocabulary.{◌≡◌, ℕ, [], ◌∷◌, refl, ap, subst, ◌∙◌, err_from_is_err_and, on_ok_weaker, AgentEntry, transcript_of, at_server, IsUse, Walked}
use Rattle.run_certify.proofs.Going.{less_of, other_than_asked, same_histories, serve_asked, serve_asked_fails, serve_fails, serve_none, serve_on}
use Rattle.run_certify.proofs.Walking.{goes_nowhere}
use Rattle.run_certify.proofs.walk.Walk.serve.Goals as goal

pub loop-entry-init : goal.loop-entry-init
loop-entry-init c = (goes_nowhere c.args.self.now (at_server c.args.server c.args.item.now ∷ []), refl)

pub returns-in_default-clause-mismatch : goal.returns-in_default-clause-mismatch
returns-in_default-clause-mismatch c = λ _.
    serve_none c.args.self.now c.loop-entry.self c.args.agent (at_server c.args.server c.args.item.now) c.requires c.loop-entry.invariant.0
    (subst (λ (n : ℕ). transcript_of c.loop-entry.self.unused n ≡ []) c.from.ensures c.in_default.ensures.none)

pub returns-in-Asked-clause-ok : goal.returns-in-Asked-clause-ok
returns-in-Asked-clause-ok c =
    let one = at_server c.args.server c.args.item.now in
    let it : IsUse c.loop-entry.self c.args.agent c.in-Some.entry.now c.next_entry.new.self = subst (λ (n : ℕ). IsUse c.loop-entry.self n c.in-Some.entry.now c.next_entry.new.self) c.from.ensures c.in-Some.ensures.used in
    on_ok_weaker c.ask.result
    (λ more. serve_asked c.args.self.now c.loop-entry.self c.args.agent one c.requires c.loop-entry.invariant.0 c.next_entry.new.self c.in-Asked.asked c.in-Asked.stamp
    (subst (λ (entry : AgentEntry). IsUse c.loop-entry.self c.args.agent entry c.next_entry.new.self) c.in-Asked.is it) c.ask.new.self more)
    c.ask.ensures.ok

pub returns-in-Asked-clause-mismatch : goal.returns-in-Asked-clause-mismatch
returns-in-Asked-clause-mismatch c = λ is.
    let one = at_server c.args.server c.args.item.now in
    let it : IsUse c.loop-entry.self c.args.agent c.in-Some.entry.now c.next_entry.new.self = subst (λ (n : ℕ). IsUse c.loop-entry.self n c.in-Some.entry.now c.next_entry.new.self) c.from.ensures c.in-Some.ensures.used in
    serve_asked_fails c.args.self.now c.loop-entry.self c.args.agent one c.requires c.loop-entry.invariant.0 c.next_entry.new.self c.in-Asked.asked c.in-Asked.stamp
    (subst (λ (entry : AgentEntry). IsUse c.loop-entry.self c.args.agent entry c.next_entry.new.self) c.in-Asked.is it) (c.ask.ensures.mismatch is)

pub returns-in-Asked-clause-histories : goal.returns-in-Asked-clause-histories
returns-in-Asked-clause-histories c =
    on_ok_weaker c.ask.result (λ same. same ∙ ap (λ (w : Walked). w.histories) c.in-Some.ensures.used.kept ∙ c.loop-entry.invariant.1) c.ask.ensures.histories

pub loop-entry-smaller : goal.loop-entry-smaller
loop-entry-smaller c =
    let it : IsUse c.loop-entry.self c.args.agent c.in-Some.entry.now c.next_entry.new.self = subst (λ (n : ℕ). IsUse c.loop-entry.self n c.in-Some.entry.now c.next_entry.new.self) c.from.ensures c.in-Some.ensures.used in
    less_of c.loop-entry.self c.next_entry.new.self c.replay.new.self c.args.agent c.in-Some.entry.now it c.in_ok-replay.ensures.shorter

pub loop-entry-preserved : goal.loop-entry-preserved
loop-entry-preserved c =
    let one = at_server c.args.server c.args.item.now in
    let it : IsUse c.loop-entry.self c.args.agent c.in-Some.entry.now c.next_entry.new.self = subst (λ (n : ℕ). IsUse c.loop-entry.self n c.in-Some.entry.now c.next_entry.new.self) c.from.ensures c.in-Some.ensures.used in (
      serve_on c.args.self.now c.loop-entry.self c.args.agent one c.requires c.loop-entry.invariant.0 c.next_entry.new.self c.in-Some.entry.now it c.replay.new.self c.in_ok-replay.ensures.ok,
      same_histories c.loop-entry.self c.next_entry.new.self c.replay.new.self c.args.agent c.in-Some.entry.now it c.in_ok-replay.ensures.shorter ∙ c.loop-entry.invariant.1,
    )

pub returns-in_err-replay : goal.returns-in_err-replay
returns-in_err-replay c =
    let one = at_server c.args.server c.args.item.now in
    let it : IsUse c.loop-entry.self c.args.agent c.in-Some.entry.now c.next_entry.new.self = subst (λ (n : ℕ). IsUse c.loop-entry.self n c.in-Some.entry.now c.next_entry.new.self) c.from.ensures c.in-Some.ensures.used in
    let p = err_from_is_err_and c.from_residual.result c.from_residual.ensures.1 in
    rw (p.1, p.2) (record {
      ok = tt;
      mismatch = λ is. serve_fails c.args.self.now c.loop-entry.self c.args.agent one c.requires c.loop-entry.invariant.0 c.next_entry.new.self c.in-Some.entry.now it
          (c.in_err-replay.ensures.mismatch is (other_than_asked c.in-Some.entry.now c.in_default-entry.not-Asked));
      histories = tt;
    })
