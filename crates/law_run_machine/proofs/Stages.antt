-- Where a transaction stands against the machine of a suite, and what it does by itself when it takes a response.
use Rattle.law_run_machine.proofs.Vocabulary.{◌≡◌, ◌⊎◌, ℕ, Bool, true, false, List, [], ◌∷◌, ◌++◌, Option, Some, None, refl, sym, ap, ◌∙◌, Request, Reply, Cache, Suites, suite_of, parts_at, Response, Replied, arith, Lacked, Cause, Lost, Ending}
use Rattle.law_run_machine.proofs.Vocabulary.{Undecided, Fixed, Task, home_of, Proposal, Phase, Gathering, Fetching, Widening, Preparing, Deciding, Finishing, TransactionRun, Running, After, GoesOn, Ends, execute, tell_end, give_up, prepare}
use Rattle.law_run_machine.proofs.Vocabulary.{locked_at, lack_cause, prepared, after_response, request_in, changes_of, decision_of, ending_by, cause_of_abort, Agent, Taken, left, end_of, is_decide, asks_same, asked_as, fetched_as, IsEarly}
use Rattle.law_run_machine.proofs.Vocabulary.{goes_response, goes_execute, Beginning, World, Verdict, Aborted, Event, run, Obeys, MayFinish, ended_as, to_write, aims, gives_up, fixed_in, is_finishing}
use Rattle.rep_core.specs.declared.request.Request.TheVariants as request
use Rattle.rep_core.specs.declared.reply.Reply.TheVariants as reply
use Rattle.rep_core.specs.declared.reply.Verdict as replied
use Rattle.rep_core.specs.declared.reply.Verdict.TheVariants as verdict
use Rattle.law_run_machine.proofs.Asked.{rules, Steady}

-- it did not give up, and no verdict was recorded but Aborted
pub record Going (w : World) (t : ℕ) : Type 0 where
  pub gave_up : w.gave_up t ≡ false
  pub verdict : (w.verdict t ≡ None) ⊎ (w.verdict t ≡ Some Aborted)

-- first nothing is fixed, then what is to be written; and once it tells how it ended, it ended so
abbrev pub Stage : ℕ → World → ℕ → Suites → Phase → Type 0
Stage z w t suites (Preparing left outcome) = Going w t × (w.aim t ≡ to_write z suites outcome)
Stage z w t suites (Deciding outcome) = Going w t × (w.aim t ≡ to_write z suites outcome)
Stage z w t suites (Finishing servers v ending) = MayFinish w t (ended_as v)
Stage z w t suites other = Going w t × (w.aim t ≡ None)

abbrev pub StageLeft : ℕ → World → ℕ → After TransactionRun → Type 0
StageLeft z w t (GoesOn txn_run) = (txn_run.task.t ≡ t) × Stage z w t txn_run.suites txn_run.phase
StageLeft z w t (Ends ending) = Unit {0}

-- what an agent is once a response left so much
abbrev pub ends_with : Agent → After TransactionRun → Taken
ends_with agent after = record { agent = record agent { doing = left Running after }; ending = end_of after }

-- what it then does by itself
abbrev pub own_by : ℕ → ℕ → Option Proposal → Bool → Agent → After TransactionRun → List Event
own_by z t before finishing agent after = aims z t before (left Running after) ++ gives_up t finishing (ends_with agent after)

-- it may, and stands so afterwards
pub record Does (start : Beginning) (z : ℕ) (t : ℕ) (w : World) (before : Option Proposal) (finishing : Bool) (agent : Agent) (after : After TransactionRun) : Type 0 where
  pub does : Obeys start w (own_by z t before finishing agent after)
  pub stage : StageLeft z (run start w (own_by z t before finishing agent after)) t after

module _ (start : Beginning) (z : ℕ) (agent : Agent) (w : World) (task : Task) where
  -- ---- it gives up

  gives_up_at : (before : Option Proposal) (cache : Cache) (suites : Suites) (cause : Cause) (servers : List ℕ) → (w.verdict task.t ≡ None) ⊎ (w.verdict task.t ≡ Some Aborted)
      → Does start z task.t w before false agent (tell_end task cache suites verdict.Aborted (Undecided cause) servers).after
  gives_up_at before cache suites cause servers h5 = search arith

  given_up : (before : Option Proposal) (cache : Cache) (suites : Suites) (cause : Cause) → (w.verdict task.t ≡ None) ⊎ (w.verdict task.t ≡ Some Aborted) → Does start z task.t w before false agent (give_up task cache suites cause).after
  given_up before cache suites cause free = gives_up_at before cache suites cause (locked_at suites) free

  -- ---- a response in an early phase

  module _ (going : Going w task.t) (unaimed : w.aim task.t ≡ None) where
    early : (suites : Suites) (phase : Phase) → IsEarly phase → Does start z task.t w None false agent (GoesOn (record { task = task; suites = suites; phase = phase }))
    early suites phase h2 = search arith

    prepares_at : (cache : Cache) (suites : Suites) (outcome : Proposal) (servers : List ℕ) → Does start z task.t w None false agent (prepare task cache suites outcome servers).after
    prepares_at cache suites outcome servers = search arith

    prepares : (cache : Cache) (suites : Suites) (outcome : Proposal) → Does start z task.t w None false agent (prepare task cache suites outcome (locked_at suites)).after
    prepares cache suites outcome = prepares_at cache suites outcome (locked_at suites)

    early_response : (fixed : Fixed) (cache : Cache) (suites : Suites) (phase : Phase) (server : ℕ) (asked : Request) (response : Response) → IsEarly phase
        → Does start z task.t w None false agent (after_response fixed (record { task = task; suites = suites; phase = phase }) cache server asked response).after
    early_response fixed cache suites phase server asked response is =
        goes_response task (Does start z task.t w None false agent) early (λ cache suites cause. given_up None cache suites cause going.verdict) prepares fixed cache suites phase server asked response is

    pub begins_response : (fixed : Fixed) (cache : Cache) → Does start z task.t w None false agent (execute fixed task (record { suites = []; cache = cache })).after
    begins_response fixed cache =
        goes_execute task (Does start z task.t w None false agent) early (λ cache suites cause. given_up None cache suites cause going.verdict) prepares fixed (record { suites = []; cache = cache })

  -- ---- later responses

  prepare_on : (cache : Cache) (suites : Suites) (outcome : Proposal) (servers : List ℕ) → Going w task.t → w.aim task.t ≡ to_write z suites outcome
      → Does start z task.t w (Some outcome) false agent (prepare task cache suites outcome servers).after
  prepare_on cache suites outcome servers h4 h5 = search arith

  prepared_word : (cache : Cache) (suites : Suites) (outcome : Proposal) (server : ℕ) (left : List ℕ) (said : Reply) → Going w task.t → w.aim task.t ≡ to_write z suites outcome
      → Does start z task.t w (Some outcome) false agent (prepared task cache suites outcome server left said).after
  prepared_word cache suites outcome server left said going aimed = search (prepare_on cache suites outcome left going aimed, given_up (Some outcome) cache suites (Lost server) going.verdict, arith)

  -- the home has said how it ended, or nothing
  decided_as : (cache : Cache) (suites : Suites) (outcome : Proposal) (v : replied.Verdict) (cause : Cause) (servers : List ℕ) → w.verdict task.t ≡ Some (ended_as v)
      → Does start z task.t w (Some outcome) false agent (tell_end task cache suites v (ending_by v cause) servers).after
  decided_as cache suites outcome v cause servers h6 = search arith

  finishing_on : (cache : Cache) (suites : Suites) (v : replied.Verdict) (ending : Ending) (servers : List ℕ) → MayFinish w task.t (ended_as v) → Does start z task.t w None true agent (tell_end task cache suites v ending servers).after
  finishing_on cache suites v ending servers h5 = search arith

-- ---- a response, once what the server did has happened to the machine

-- what that left of the transaction: nothing changed unless a verdict was asked for, and then as the reply says
pub record Leaves (w later : World) (t : ℕ) (asked : Request) (response : Response) : Type 0 where
  pub calm : rules asked ≡ false → Steady w later
  pub ruled : (v : replied.Verdict) → is_decide asked ≡ true → response ≡ Replied (reply.Verdict v) → later.verdict t ≡ Some (ended_as v)
  pub silent : is_decide asked ≡ true → ((v : replied.Verdict) → response ≡ Replied (reply.Verdict v) → ⊥) → later.verdict t ≡ w.verdict t

going_on : (w later : World) (t : ℕ) → Steady w later → Going w t → Going later t
going_on w later t same going = search arith

finish_on : (w later : World) (t : ℕ) (v : Verdict) → Steady w later → MayFinish w t v → MayFinish later t v
finish_on w later t v same may = search arith

module _ (start : Beginning) (z : ℕ) (agent : Agent) (w later : World) (fixed : Fixed) (task : Task) (cache : Cache) (suites : Suites) (server : ℕ) (asked : Request)
    (response : Response) (leaves : Leaves w later task.t asked response) where
  by_early : (phase : Phase) → IsEarly phase → rules asked ≡ false → Going w task.t × (w.aim task.t ≡ None)
      → Does start z task.t later None false agent (after_response fixed (record { task = task; suites = suites; phase = phase }) cache server asked response).after
  by_early phase is calm stage =
      let same = leaves.calm calm in
      early_response start z agent later task (going_on w later task.t same stage.0) (ap (λ f. f task.t) same.aim ∙ stage.1) fixed cache suites phase server asked response is

  pub does_response : (phase : Phase) → request_in fixed task suites phase ≡ Some (server, asked) → Stage z w task.t suites phase
      → Does start z task.t later (fixed_in phase) (is_finishing phase) agent (after_response fixed (record { task = task; suites = suites; phase = phase }) cache server asked response).after
  does_response (Gathering number) is stage = by_early (Gathering number) tt (asked_as rules false task number (suite_of suites number) server asked (λ mode. refl) refl is) stage
  does_response (Fetching number) is stage = by_early (Fetching number) tt (fetched_as rules false task number (suite_of suites number) server asked refl is) stage
  does_response (Widening (number ∷ left) granted) is stage = by_early (Widening (number ∷ left) granted) tt (asked_as rules false task number (suite_of suites number) server asked (λ mode. refl) refl is) stage
  does_response (Preparing (now ∷ left) outcome) is stage =
      let same = leaves.calm (ap rules (sym (asks_same now server (request.Prepare task.t (parts_at suites (changes_of outcome) now)) asked is))) in
      of (going_on w later task.t same stage.0) (ap (λ f. f task.t) same.aim ∙ stage.1) response
    where
      of : Going later task.t → later.aim task.t ≡ to_write z suites outcome → (response : Response)
          → Does start z task.t later (Some outcome) false agent
          (after_response fixed (record { task = task; suites = suites; phase = Preparing (now ∷ left) outcome }) cache server asked response).after
      of going aimed (Replied said) = prepared_word start z agent later task cache suites outcome server left said going aimed
      of going aimed (Lacked lacked) = given_up start z agent later task (Some outcome) cache suites (lack_cause server lacked) going.verdict
  does_response (Deciding outcome) is stage =
      of response (λ v same. leaves.ruled v decide same) (λ none. by (leaves.silent decide none) stage.0.verdict)
    where
      decide : is_decide asked ≡ true
      decide = ap is_decide (sym (asks_same (home_of fixed.service task.t) server (request.Decide task.t (decision_of task outcome)) asked is))

      by : later.verdict task.t ≡ w.verdict task.t → (w.verdict task.t ≡ None) ⊎ (w.verdict task.t ≡ Some Aborted) → (later.verdict task.t ≡ None) ⊎ (later.verdict task.t ≡ Some Aborted)
      by h0 h1 = search arith

      replied_same : (a b : Reply) → Replied a ≡ Replied b → a ≡ b
      replied_same a b same = cc

      of : (response : Response) → ((v : replied.Verdict) → response ≡ Replied (reply.Verdict v) → later.verdict task.t ≡ Some (ended_as v))
          → (((v : replied.Verdict) → response ≡ Replied (reply.Verdict v) → ⊥) → (later.verdict task.t ≡ None) ⊎ (later.verdict task.t ≡ Some Aborted))
          → Does start z task.t later (Some outcome) false agent (after_response fixed (record { task = task; suites = suites; phase = Deciding outcome }) cache server asked response).after
      of (Lacked lacked) ruled silent = given_up start z agent later task (Some outcome) cache suites (lack_cause server lacked) (silent (λ v same. absurd cc))
      of (Replied (reply.Verdict v)) ruled silent = decided_as start z agent later task cache suites outcome v (cause_of_abort (reply.Verdict v)) (locked_at suites) (ruled v refl)
      of (Replied reply.Down) ruled silent = gives_up_at start z agent later task (Some outcome) cache suites (cause_of_abort reply.Down) (locked_at suites) (silent (λ v same. absurd (let e = replied_same _ _ same in cc)))
      of (Replied reply.Lost) ruled silent = gives_up_at start z agent later task (Some outcome) cache suites (cause_of_abort reply.Lost) (locked_at suites) (silent (λ v same. absurd (let e = replied_same _ _ same in cc)))
      of (Replied reply.Prepared) ruled silent = gives_up_at start z agent later task (Some outcome) cache suites (cause_of_abort reply.Prepared) (locked_at suites) (silent (λ v same. absurd (let e = replied_same _ _ same in cc)))
      of (Replied reply.Done) ruled silent = gives_up_at start z agent later task (Some outcome) cache suites (cause_of_abort reply.Done) (locked_at suites) (silent (λ v same. absurd (let e = replied_same _ _ same in cc)))
      of (Replied (reply.Held prefix dver)) ruled silent = gives_up_at start z agent later task (Some outcome) cache suites (cause_of_abort (reply.Held prefix dver))
          (locked_at suites) (silent (λ v same. absurd (let e = replied_same _ _ same in cc)))
      of (Replied (reply.Busy holder p)) ruled silent = gives_up_at start z agent later task (Some outcome) cache suites (cause_of_abort (reply.Busy holder p)) (locked_at suites)
          (silent (λ v same. absurd (let e = replied_same _ _ same in cc)))
      of (Replied (reply.Given dver content)) ruled silent = gives_up_at start z agent later task (Some outcome) cache suites (cause_of_abort (reply.Given dver content))
          (locked_at suites) (silent (λ v same. absurd (let e = replied_same _ _ same in cc)))
      of (Replied (reply.Locked listed)) ruled silent = gives_up_at start z agent later task (Some outcome) cache suites (cause_of_abort (reply.Locked listed)) (locked_at suites)
          (silent (λ v same. absurd (let e = replied_same _ _ same in cc)))
  does_response (Finishing (now ∷ left) v ending) is stage = search (rules, asks_same, finish_on, finishing_on, arith)
  does_response other is stage = cc
