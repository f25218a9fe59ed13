use Rattle.run_certify.proofs.Vocabulary.{◌≡◌, ℕ, ap, sym, subst, ◌∙◌, arith, err_from_is_err_and, AgentEntry, transcript_of, AreAllPlayed, EntryFails, EntryGoes, IsShorter, IsUse, Walked}
use Rattle.run_certify.proofs.Going.{IsAsFar, far_on, less_of, none_up_to, other_than_asked, rest_asked, rest_fails_at, rest_far, start_far}
use Rattle.run_certify.proofs.walk.Walk.rest_of.Goals as goal

still : (init cur : Walked) (agent : ℕ) → AreAllPlayed init.histories → IsAsFar init cur agent → AreAllPlayed cur.histories
still init cur agent played far = subst AreAllPlayed (sym far.histories) played

pub loop-entry-init : goal.loop-entry-init
loop-entry-init c = start_far c.args.self.now c.args.agent c.requires.before

pub returns-in-Asked-clause-mismatch : goal.returns-in-Asked-clause-mismatch
returns-in-Asked-clause-mismatch c = λ _.
    let far = c.loop-entry.invariant in
    rest_asked c.args.self.now c.loop-entry.self c.args.agent far.goes (still c.args.self.now c.loop-entry.self c.args.agent c.requires.played far) far.before c.next_entry.new.self c.in-Asked.server c.in-Asked.stamp
    (subst (λ (entry : AgentEntry). IsUse c.loop-entry.self c.args.agent entry c.next_entry.new.self) c.in-Asked.is c.in-Some.ensures.used)

pub returns-in_default-try_from : goal.returns-in_default-try_from
returns-in_default-try_from c =
    let far = c.loop-entry.invariant in
    record {
      ok = tt;
      used = tt;
      long = tt;
      histories = tt;
      mismatch = λ _.
          rest_far c.args.self.now c.loop-entry.self c.args.agent far.goes (still c.args.self.now c.loop-entry.self c.args.agent c.requires.played far) far.before c.next_entry.new.self c.in-Some.entry.now c.in-Some.ensures.used
          (let past = c.in_default-try_from.ensures in omega (arith, past)) (other_than_asked c.in-Some.entry.now c.in_default-entry.not-Asked);
    }

pub loop-entry-smaller : goal.loop-entry-smaller
loop-entry-smaller c =
    less_of c.loop-entry.self c.next_entry.new.self c.replay.new.self c.args.agent c.in-Some.entry.now c.in-Some.ensures.used
    (subst (λ (n : ℕ). IsShorter c.next_entry.new.self n c.replay.new.self) c.in-Ok.ensures.1 c.in_ok-replay.ensures.shorter)

pub loop-entry-preserved : goal.loop-entry-preserved
loop-entry-preserved c =
    far_on c.args.self.now c.loop-entry.self c.next_entry.new.self c.replay.new.self c.args.agent c.in-Some.entry.now c.loop-entry.invariant c.requires.played c.in-Some.ensures.used
    (subst (λ (n : ℕ). EntryGoes n c.in-Some.entry.now c.next_entry.new.self c.replay.new.self) c.in-Ok.ensures.1 c.in_ok-replay.ensures.ok)
    (subst (λ (n : ℕ). IsShorter c.next_entry.new.self n c.replay.new.self) c.in-Ok.ensures.1 c.in_ok-replay.ensures.shorter)

pub returns-in_err-replay : goal.returns-in_err-replay
returns-in_err-replay c =
    let far = c.loop-entry.invariant in
    let p = err_from_is_err_and c.from_residual.result c.from_residual.ensures.1 in
    rw (p.1, p.2) (record {
      ok = tt;
      used = tt;
      long = tt;
      histories = tt;
      mismatch = λ is.
          rest_fails_at c.args.self.now c.loop-entry.self c.args.agent far.goes (still c.args.self.now c.loop-entry.self c.args.agent c.requires.played far) far.before c.next_entry.new.self c.in-Some.entry.now c.in-Some.ensures.used
          (subst (λ (n : ℕ). EntryFails n c.in-Some.entry.now c.next_entry.new.self) c.in-Ok.ensures.1 (c.in_err-replay.ensures.mismatch is (other_than_asked c.in-Some.entry.now c.in_default-entry.not-Asked)));
    })

ended : (init cur now : Walked) (agent : ℕ) → IsAsFar init cur agent → now ≡ cur → IsAsFar init now agent
ended init cur now agent far same = subst (λ (w : Walked). IsAsFar init w agent) (sym same) far

pub returns-clause-ok : goal.returns-clause-ok
returns-clause-ok c = (ended c.args.self.now c.loop-entry.self c.next_entry.new.self c.args.agent c.loop-entry.invariant c.in_default.ensures.same).goes

pub returns-clause-used : goal.returns-clause-used
returns-clause-used c =
    none_up_to c.args.agent c.next_entry.new.self.unused (ended c.args.self.now c.loop-entry.self c.next_entry.new.self c.args.agent c.loop-entry.invariant c.in_default.ensures.same).before
    (ap (λ (w : Walked). transcript_of w.unused c.args.agent) c.in_default.ensures.same ∙ c.in_default.ensures.none)

pub returns-clause-long : goal.returns-clause-long
returns-clause-long c = (ended c.args.self.now c.loop-entry.self c.next_entry.new.self c.args.agent c.loop-entry.invariant c.in_default.ensures.same).long

pub returns-clause-histories : goal.returns-clause-histories
returns-clause-histories c = (ended c.args.self.now c.loop-entry.self c.next_entry.new.self c.args.agent c.loop-entry.invariant c.in_default.ensures.same).histories
