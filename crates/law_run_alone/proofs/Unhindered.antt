-- What is known of every run, which replies are free, and how a transaction ends that does not end undecided.
use Rattle.law_run_alone.proofs.Vocabulary.{◌≡◌, ℕ, zero, suc, ◌+◌, Bool, true, false, List, [], ◌∷◌, Option, Some, None, subst, slice_get, none-some, same_Some, IsValid, Opening, arith, Request, Reply, Verdict, is_lost, copy_of, State, reply_of}
use Rattle.law_run_alone.proofs.Vocabulary.{reply_up, Cause, Ending, Undecided, Replied, Fixed, TransactionRun, Doing, After, ending_by, stands_on_locks, Agent, fixed_of, is_idle, next_in, end_of, take_in, Event, EndedJob, Actor, World, opening}
use Rattle.law_run_alone.proofs.Vocabulary.{servers_from, server_at, actor_at, step, after, run, Decided, names, Leaves, Holds, is_crash, disturbs, is_decided}
use Rattle.rep_core.specs.Consistency.{IsConsistent}
use Rattle.rep_core.proofs.Consistent.{consistent_step, consistent_opening}
use Rattle.rep_core.proofs.FittingReplies.{reply_fits}
use Rattle.rep_core.specs.State as state
use Rattle.law_run_alone.proofs.Own.{IsOwnAt, is_return, up_as, not_busy_at, down_at}
use Rattle.law_run_alone.proofs.Owns.{IsMine, polls_named, never_returns}
use Rattle.law_run_alone.proofs.Votes.{HasValidVotes}
use Rattle.law_run_alone.proofs.Exchanged.{TellsValid, IsFree}
use Rattle.law_run_alone.proofs.Unswept.{Unswept, not_aborted}
use Rattle.law_run_alone.proofs.Walks.{AllServers, event_servers}

-- ---- servers are consistent

abbrev pub AllConsistent : World → Type 0
AllConsistent world = AllServers IsConsistent world

opened : (given : Opening) (start count s : ℕ) (st : State) → slice_get (servers_from given start count) s ≡ Some st → IsConsistent st
opened given start zero s st is = absurd (none-some st is)
opened given start (suc count) zero st is = subst IsConsistent (same_Some (state.opening start given) st is) (consistent_opening start given)
opened given start (suc count) (suc s) st is = opened given (start + 1) count s st is

pub event_all : (fixed : Fixed) (world : World) → AllConsistent world → (event : Event) → AllConsistent (step fixed world event).world
event_all fixed world all event = event_servers fixed IsConsistent (λ asked. Unit {0}) (λ st asked _ consistent. consistent_step st asked consistent) tt tt world (λ i actor asked is next. tt) all event

run_all : (fixed : Fixed) (events : List Event) (world : World) → AllConsistent world → AllConsistent (after fixed world events)
run_all fixed [] world all = all
run_all fixed (event ∷ events) world all = run_all fixed events (step fixed world event).world (event_all fixed world all event)

pub all_consistent : (given : Opening) (events : List Event) → AllConsistent (run given events)
all_consistent given events = run_all (fixed_of given) events (opening given) (λ s st at. opened given 0 given.servers s st at)

-- ---- replies tell of valid votes

pub up_valid : (st : State) → ((suite : ℕ) → IsValid (copy_of st.store suite).prefix.votes) → (asked : Request) → TellsValid (reply_up st asked)
up_valid st h1 asked = search arith

tells_valid_at : (b : Bool) (st : State) (asked : Request) → is_return asked ≡ false → st.up ≡ b → ((suite : ℕ) → IsValid (copy_of st.store suite).prefix.votes) → TellsValid (reply_of st asked)
tells_valid_at b st asked h3 h4 h5 = search arith

-- a reply to a transaction is free, where it is not Lost and what stands on a lock is asked where the server is up
pub free_reply : (b : Bool) (t : ℕ) (st : State) (asked : Request) → names t asked ≡ true → IsOwnAt b t st → IsConsistent st
    → ((suite : ℕ) → IsValid (copy_of st.store suite).prefix.votes) → Unswept t st → is_lost (reply_of st asked) ≡ false
    → (stands_on_locks asked ≡ true → b ≡ true) → IsFree b asked (reply_of st asked)
free_reply b t st asked named own sound valid unswept kept stood = record {
  busy = not_busy_at b t st asked (never_returns t asked named) (polls_named t asked named) own;
  down = down_at b t st asked (never_returns t asked named) own;
  kept = kept;
  fit = reply_fits st asked sound.sound;
  valid = tells_valid_at b st asked (never_returns t asked named) (up_as b t st own) valid;
  decides = not_aborted t st asked unswept named;
  stood = stood;
}

-- ---- endings

decided_by : (v : Verdict) (cause : Cause) → ((cause' : Cause) → ending_by v cause ≡ Undecided cause' → ⊥) → is_decided (ending_by v cause) ≡ true
decided_by v cause h2 = search arith

-- a transaction that does not end undecided is decided
pub after_decided : (txn_run : TransactionRun) (v : Verdict) (after : After TransactionRun) (ending : Ending) → Leaves txn_run.task v after → end_of after ≡ Some ending
    → ((cause : Cause) → ending ≡ Undecided cause → ⊥) → is_decided ending ≡ true
after_decided txn_run v after ending h4 h5 h6 = search arith

-- who took a response and did not end goes on
pub goes_on : (fixed : Fixed) (agent : Agent) (said : Reply) (doing : Option Doing) (asked : ℕ × Request) → next_in fixed doing ≡ Some asked → (t : ℕ) → IsMine t doing → (take_in fixed agent (Replied said) doing (Some asked)).ending ≡ None
    → is_idle (take_in fixed agent (Replied said) doing (Some asked)).agent.doing ≡ false
goes_on fixed agent said doing asked h5 t h7 h8 = search arith

-- ---- what holds as long as nothing disturbs it

-- what is known of every run
pub record Facts (given : Opening) (world : World) : Type 0 where
  pub ds : List Decided
  pub past : List EndedJob
  pub holds : Holds (fixed_of given) world ds past
  pub copies : (s : ℕ) (st : State) → server_at world s ≡ Some st → (suite : ℕ) → IsValid (copy_of st.store suite).prefix.votes
  pub caches : (i : ℕ) (actor : Actor) → actor_at world i ≡ Some actor → HasValidVotes actor.agent.cache

pub no_crash : (given : Opening) (world : World) (event : Event) → disturbs given world event ≡ false → is_crash event ≡ false
no_crash given world event h3 = search arith
