-- What is promised to a transaction that is told what it would have been told as it began; and one that goes among locks that stay is told so.
use Rattle.law_run_recovers.proofs.Vocabulary.{◌≡◌, ⊎_elim, ℕ, true, false, List, ◌∷◌, ◌++◌, Some, is_some, sym, ap, subst, ◌∙◌, same_Some, Identity, Opening, Op, Request, Transaction, fixed_of, AreAnsweredAsBegun, EndInTime, arith, HadVotesOpen}
use Rattle.law_run_recovers.proofs.Vocabulary.{ToldEndByVotesAt, next_of, Event, Begin, Step, Actor, World, actor_at, step, run, is_running, world_after, robs, hinders_itself, GoesAmongLocks, AsAtItsBegin, bereaves, AmongLocksAreToldAsBegun, Always}
use Rattle.law_run_recovers.proofs.Vocabulary.{AreDecidedWhereOpen, GatherTheirAsks, ToldAsAtItsBegin}
use Rattle.law_run_recovers.proofs.AmongAsks.{of_its_asks}
use Rattle.law_run_recovers.proofs.AmongCourse.{Course, RunsIt, runs_it, both_so}
use Rattle.law_run_recovers.proofs.AmongDecided.{answered_begun, was_gathered, was_had}
use Rattle.law_run_recovers.proofs.AmongLaws.{among_by_votes, among_where_votes}
use Rattle.law_run_recovers.proofs.AmongLeft.{left_at}
use Rattle.law_run_recovers.proofs.AmongStep.{near_for, request_is}
use Rattle.law_run_recovers.proofs.AmongTime.{in_time}
use Rattle.law_run_recovers.proofs.Keeps.{IsAtWork, as_at_its_begin, run_at, works}
use Rattle.law_run_recovers.proofs.NearGround.{first_asked, opens_up}
use Rattle.law_run_recovers.proofs.Sides.{ended_runs_not}
use Rattle.law_run_recovers.proofs.Steady.{GoesSteadily, steady, told_steady}
use Rattle.law_run_recovers.proofs.Still.{IsOpen, IsOpenPhase}
use Rattle.law_run_recovers.proofs.StepsServed.{OwnTook, own_took}

-- ---- among locks that stay

module _ (given : Opening) (events later : List Event) (agent t : ℕ) (caller : Identity) (site : ℕ) (ops : List Op) (actor : Actor) (among : GoesAmongLocks given events later agent t caller site ops actor) where
  abbrev goes : GoesSteadily given events later agent t caller site ops actor
  goes = steady given events later agent t caller site ops actor among

  abbrev then : List Event → World
  then so_far = world_after given events agent caller site ops so_far

  course_so : (so_far rest : List Event) → later ≡ so_far ++ rest → is_running (world_after given events agent caller site ops so_far) agent t ≡ true → Course given events later agent t caller site ops actor goes so_far
  course_so so_far rest split running = ⊎_elim
      (λ on. on.0)
      (λ over. absurd (ended_runs_not given among.can.accepted (events ++ Begin agent (Transaction caller site ops) ∷ so_far) agent t over.0.0 over.0.1 over.0.2
      (ap (λ w. is_running w agent t) (sym (run_at given events later agent t caller site ops actor among.can among.there among.begins so_far)) ∙ running)))
      (left_at given events later agent t caller site ops actor among so_far rest split)

  module _ (so_far rest : List Event) (split : later ≡ so_far ++ Step agent ∷ rest) (work : IsAtWork (world_after given events agent caller site ops so_far) agent t) where
    c : Course given events later agent t caller site ops actor goes so_far
    c = course_so so_far (Step agent ∷ rest) split work.running

    r : RunsIt given events later agent t caller site ops actor goes so_far c
    r = runs_it given events later agent t caller site ops actor goes so_far c

    served : is_some (step (fixed_of given) (world_after given events agent caller site ops so_far) (Step agent)).done.served ≡ true
    served = search arith

    took : OwnTook (fixed_of given) (world_after given events agent caller site ops so_far) agent c.here c.there (step (fixed_of given) (world_after given events agent caller site ops so_far) (Step agent))
    took = own_took (fixed_of given) (then so_far) agent c.here c.there served

    is_open : IsOpenPhase r.txn_run.phase
    is_open =
        let at = works (then so_far) agent t work in
        subst IsOpen (ap (λ (a : Actor). a.agent.doing) (same_Some at.actor c.here (sym at.there ∙ c.there)) ∙ r.running) at.is_open

    as_at : AsAtItsBegin (run given events) (world_after given events agent caller site ops so_far) took.asked.0 took.asked.1
    as_at =
        let asks = request_is given events later agent t caller site ops actor goes so_far rest split c r took in
        as_at_its_begin given events later agent t caller site ops actor among so_far (Step agent ∷ rest) split work took.asked.0 took.asked.1
        (near_for given events later agent t caller site ops actor goes so_far rest split c r took c.here.agent.cache r.txn_run.suites r.txn_run.phase r.at.1 (λ open'. work) asks is_open)
        (of_its_asks given events later agent t caller site ops actor goes took.asked.0 took.asked.1 c.here.agent.cache r.txn_run.suites r.txn_run.phase r.at.1 asks)

    same_so : (here : Actor) (asked : ℕ × Request) → actor_at (world_after given events agent caller site ops so_far) agent ≡ Some here → next_of (fixed_of given) here.agent ≡ Some asked
        → AsAtItsBegin (run given events) (world_after given events agent caller site ops so_far) asked.0 asked.1
    same_so here asked there next =
        let same : c.here ≡ here = same_Some c.here here (sym c.there ∙ there) in
        subst (λ (asked : ℕ × Request). AsAtItsBegin (run given events) (then so_far) asked.0 asked.1)
        (same_Some took.asked asked (sym took.next ∙ ap (λ (a : Actor). next_of (fixed_of given) a.agent) same ∙ next)) as_at

  kept_so : (so_far rest : List Event) (event : Event) → later ≡ so_far ++ event ∷ rest → IsAtWork (world_after given events agent caller site ops so_far) agent t
      → bereaves given agent t (world_after given events agent caller site ops so_far) event ≡ false
  kept_so so_far rest event split work =
      let c = course_so so_far (event ∷ rest) split work.running in
      goes.kept so_far rest event split work
      (λ server z on. opens_up given events later agent t caller site ops actor goes z (first_asked given events later agent t caller site ops actor goes z) server (c.locks server z on))

pub among_locks_are_told_as_begun : AmongLocksAreToldAsBegun
among_locks_are_told_as_begun given events later agent t caller site ops actor goes = record {
  can = goes.can;
  there = goes.there;
  begins = goes.begins;
  same = search (same_so, arith);
  free_hand = λ so_far rest event split running untold.
      let w = world_after given events agent caller site ops so_far in
      both_so (hinders_itself given agent w event) (robs given agent t w event) (bereaves given agent t w event) (goes.free_hand so_far rest event split running)
      (kept_so given events later agent t caller site ops actor goes so_far rest event split (record { running = running; untold = untold }));
}

-- ---- the laws

pub told_end_by_votes : Always ToldEndByVotesAt
told_end_by_votes given events later agent t caller site ops actor goes job ends =
    among_by_votes given events later agent t caller site ops actor (told_steady given events later agent t caller site ops actor goes) job ends

pub told_end_in_time : Always (EndInTime ToldAsAtItsBegin)
told_end_in_time given events later agent t caller site ops actor goes more = search (in_time, told_steady, arith)

pub told_had_votes_open : Always (HadVotesOpen ToldAsAtItsBegin)
told_had_votes_open given events later agent t caller site ops actor goes was = search (was_had, told_steady, arith)

pub told_are_decided_where_votes_are : Always (AreDecidedWhereOpen ToldAsAtItsBegin)
told_are_decided_where_votes_are given events later agent t caller site ops actor goes unmoved job ends = search (among_where_votes, told_steady, arith)

pub told_are_answered_as_begun : Always (AreAnsweredAsBegun ToldAsAtItsBegin)
told_are_answered_as_begun given events later agent t caller site ops actor goes one there of_it = search (answered_begun, told_steady, arith)

pub told_gather_their_asks : Always (GatherTheirAsks ToldAsAtItsBegin)
told_gather_their_asks given events later agent t caller site ops actor goes was = search (was_gathered, told_steady, arith)
