-- A content is fetched at the source that the suite's first quorum gave.
use Rattle.law_agents.proofs.Vocabulary.{◌≡◌, ℕ, true, false, List, ◌∷◌, Option, Some, None, refl, sym, ap, ◌∙◌, false≢true, Request, ReadPoint, GatheredSuite, Suites, suite_of, parts_at, Job, home_of, Fixed, arith, Task, Phase, Gathering, Fetching}
use Rattle.law_agents.proofs.Vocabulary.{Widening, Preparing, Deciding, Finishing, Sweeping, SweepRun, Doing, fetched_at, fetched_for, request_in, changes_of, decision_of, Agent, Event, next_in, Exchange, of_job, asks_same, asked_as, StandsOn, self}
use Rattle.law_agents.proofs.Vocabulary.{Kept, Base_of, Started, Begins, DoingStands, stands_after}
use Rattle.law_agents.specs.Fetches.{IsFetching, FetchesInOrder}
use Rattle.txn_core.proofs.Fetches.{fetches}
use Rattle.rep_core.specs.declared.request.Request.TheVariants as request
use Rattle.txn_core.specs.Sweeps as sweep

module _ (fixed : Fixed) (agent : Agent) (job : Job) (events : List Event) where
  abbrev past : List Exchange
  past = of_job fixed agent job events

  other_asked : {P : Type 0} (a b : ℕ) (suite : ℕ) (asked other : Request) → fetches suite asked ≡ false → ◌≡◌ {A = Option (ℕ × Request)} (Some (a, asked)) (Some (b, other)) → fetches suite other ≡ true → P
  other_asked a b suite asked other none is kind = absurd (false≢true (sym none ∙ ap (fetches suite) (asks_same a b asked other is) ∙ kind))

  by_first : (task : Task) (number suite server : ℕ) (asked : Request) (it : GatheredSuite) → Kept fixed task (Base_of fixed agent job events events task.site) past number it → (first : Option ReadPoint) → it.first ≡ first
      → fetched_at task number first ≡ Some (server, asked) → fetches suite asked ≡ true → IsFetching fixed agent job events server suite
  by_first task number suite server asked it h6 first h8 h9 h10 = search arith

  by_suite : (task : Task) (number suite server : ℕ) (asked : Request) (found : Option GatheredSuite) → ((it : GatheredSuite) → found ≡ Some it → Kept fixed task (Base_of fixed agent job events events task.site) past number it)
      → fetched_for task number found ≡ Some (server, asked) → fetches suite asked ≡ true → IsFetching fixed agent job events server suite
  by_suite task number suite server asked None kept is kind = cc
  by_suite task number suite server asked (Some it) kept is kind = by_first task number suite server asked it (kept it refl) it.first refl is kind

  by_phase : (task : Task) (suites : Suites) (phase : Phase) (server suite : ℕ) (asked : Request)
      → StandsOn fixed task (Base_of fixed agent job events events task.site) (Started fixed agent job events) (Begins fixed agent job events) past suites phase
      → request_in fixed task suites phase ≡ Some (server, asked) → fetches suite asked ≡ true → IsFetching fixed agent job events server suite
  by_phase task suites (Gathering number) server suite asked stands is kind = search (false≢true, asked_as, fetches, arith)
  by_phase task suites (Fetching number) server suite asked stands is kind = by_suite task number suite server asked (suite_of suites number) (λ it there. stands.1 number it there) is kind
  by_phase task suites (Widening (number ∷ left) granted) server suite asked stands is kind = search (false≢true, asked_as, fetches, arith)
  by_phase task suites (Preparing (now ∷ left) outcome) server suite asked stands is kind = other_asked now server suite (request.Prepare task.t (parts_at suites (changes_of outcome) now)) asked refl is kind
  by_phase task suites (Deciding outcome) server suite asked stands is kind = other_asked (home_of fixed.service task.t) server suite (request.Decide task.t (decision_of task outcome)) asked refl is kind
  by_phase task suites (Finishing (now ∷ left) v ending) server suite asked stands is kind = other_asked now server suite (request.Finish task.t v) asked refl is kind
  by_phase task suites other server suite asked stands is kind = cc

  by_sweep : (sweeping : SweepRun) (now : Sweeping) (server suite : ℕ) (asked : Request) → ◌≡◌ {A = Option (ℕ × Request)} (Some (sweep.asked_now fixed.service sweeping now))
      (Some (server, asked)) → fetches suite asked ≡ true → IsFetching fixed agent job events server suite
  by_sweep sweeping now server suite asked h5 h6 = search arith

  by_doing : (server suite : ℕ) (asked : Request) (doing : Option Doing) → DoingStands fixed agent job events doing → next_in fixed doing ≡ Some (server, asked) → fetches suite asked ≡ true → IsFetching fixed agent job events server suite
  by_doing server suite asked doing h4 h5 h6 = search (by_sweep, by_phase, arith)

pub fetches_in_order : FetchesInOrder
fetches_in_order fixed agent job events server t suite idle is = search (by_doing, stands_after, self, arith)
