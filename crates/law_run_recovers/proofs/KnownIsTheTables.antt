-- What a transaction knows is what the registers of the run hold, and so on its table, as long as no lock of it was taken away and it is not answered.
use Rattle.law_run_recovers.proofs.Vocabulary.{◌≡◌, ◌≢◌, ⊎_elim, ℕ, false, List, Option, Some, None, refl, sym, ap, ◌∙◌, unwrap_or, slice_get, slice_set, nat_cmp, none-some, same_Some, IsOrdered, Opening, Request, Stamped, served, State, arith}
use Rattle.law_run_recovers.proofs.Vocabulary.{record_of, is_resolve, row_of, AgreesWith, ReadPoint, GatheredSuite, suite_of, known_of, Fixed, TransactionRun, Running, is_decide, Event, Actor, World, Stepped, server_at, actor_at, run, table_of}
use Rattle.law_run_recovers.proofs.Vocabulary.{Answered, IsKnown, beginning, home_in, machine_of, known_by, same_or, step_is, puts_in, register, all_shown, CanBe, all_keep, holds_after, Stands, is_known, known_owed}
use Rattle.law_one_table.proofs.Knowing.{agrees}
use Rattle.law_server_moves.specs.Views.{verdict_of}
use Rattle.rep_core.specs.State as state
use Rattle.law_run_recovers.proofs.StepsServed.{OwnTook}
use Rattle.law_run_recovers.proofs.Still.{record_stays}

-- ---- right after an own step that records nothing

module _ (fixed : Fixed) (w : World) (agent t : ℕ) (here : Actor) (there : actor_at w agent ≡ Some here) (stepped : Stepped) (took : OwnTook fixed w agent here there stepped) (is : is_decide took.asked.1 ≡ false)
    (other : is_resolve took.asked.1 ≡ false) where
  abbrev asks_it : Stamped Request
  asks_it = record { stamp = here.stamp; value = took.asked.1 }

  pub unrecorded_on : ((i : ℕ) (st : State) → server_at w i ≡ Some st → record_of st t ≡ None) → (i : ℕ) (st : State) → server_at stepped.world i ≡ Some st → record_of st t ≡ None
  unrecorded_on none i st at =
      let puts = puts_in w.servers took.asked.0 took.st (served took.st asks_it) took.at in
      let there' : slice_get (slice_set w.servers took.asked.0 (served took.st asks_it)) i ≡ Some st = ap (λ servers. slice_get servers i) (sym took.servers) ∙ at in
      ⊎_elim
      (λ (same : i ≡ took.asked.0).
      let now : served took.st asks_it ≡ st = same_Some (served took.st asks_it) st (sym puts.here ∙ ap (slice_get (slice_set w.servers took.asked.0 (served took.st asks_it))) (sym same) ∙ there') in
      ap (λ (st : State). record_of st t) (sym now) ∙ ap (λ (st : State). record_of st t) (sym (step_is took.st asks_it took.room)) ∙ record_stays took.st asks_it t is other ∙ none took.asked.0 took.st took.at)
      (λ apart. none i st (sym (puts.apart i apart) ∙ there'))
      (same_or i took.asked.0)

-- what no server has recorded is not answered
pub unanswered : (given : Opening) (all : List Event) → CanBe given all → (t : ℕ) → ((i : ℕ) (st : State) → server_at (run given all) i ≡ Some st → record_of st t ≡ None) → (z : ℕ) → (machine_of given z all).verdict t ≢ Some Answered
unanswered given all can t none z is =
    none-some Answered (sym ((holds_after given all can z).shows.verdict t ∙ ap verdict_of (of (server_at (run given all) (home_in given t)) refl)) ∙ is)
  where
    of : (found : Option State) → server_at (run given all) (home_in given t) ≡ found → record_of (unwrap_or found (state.opening (home_in given t) given)) t ≡ None
    of found h1 = search arith

-- ---- what is known

-- where no lock of it was taken away and it is not answered, what a transaction knows is what the registers of the run so far hold
pub knows_registers : (given : Opening) (all : List Event) → CanBe given all → (agent : ℕ) (here : Actor) (txn_run : TransactionRun) → actor_at (run given all) agent ≡ Some here → here.agent.doing ≡ Some (Running txn_run)
    → ((z : ℕ) → Stands (machine_of given z all) txn_run.task.t) → ((z : ℕ) → (machine_of given z all).verdict txn_run.task.t ≢ Some Answered)
    → (z : ℕ) (suite : GatheredSuite) (first : ReadPoint) → suite_of txn_run.suites z ≡ Some suite → suite.first ≡ Some first → IsKnown (register given z all) (known_by first suite)
knows_registers given all can agent here txn_run there running stands unanswered z suite first is had =
    is_known (beginning z given) (machine_of given z all) (holds_after given all can z).inv txn_run.task.t (stands z) (unanswered z) (known_by first suite)
    (known_owed given z (machine_of given z all) (run given all) (holds_after given all can z) agent here txn_run there running suite first is had)

-- and so on its table
pub knows_table : (given : Opening) (all : List Event) → CanBe given all → (agent : ℕ) (here : Actor) (txn_run : TransactionRun) → actor_at (run given all) agent ≡ Some here → here.agent.doing ≡ Some (Running txn_run)
    → IsOrdered nat_cmp txn_run.suites
    → ((z : ℕ) → Stands (machine_of given z all) txn_run.task.t) → ((z : ℕ) → (machine_of given z all).verdict txn_run.task.t ≢ Some Answered)
    → AgreesWith (known_of txn_run.suites) (row_of (table_of given all).rows)
knows_table given all can agent here txn_run there running ordered stands unanswered =
    agrees txn_run.suites (table_of given all).rows (λ z. register given z all) ordered (all_shown given all (all_keep given all can))
    (knows_registers given all can agent here txn_run there running stands unanswered)
