-- After an end nothing is prepared or decided.
use Rattle.txn_core.proofs.Vocabulary.{◌≡◌, ℕ, Bool, true, false, cond, List, [], ◌∷◌, ◌++◌, Option, Some, None, refl, sym, ap, subst, ◌∙◌, ◌||◌, list_any, Request, Reply, Verdict, Lack, is_prepared, Cache, GatheredSuite, Suites, suite_of, arith}
use Rattle.txn_core.proofs.Vocabulary.{Response, Cause, Ending, Replied, Lacked, Lost, Undecided, Fixed, Task, Phase, Gathering, Fetching, Widening, Preparing, Deciding, Finishing, TransactionRun, SweepRun, Doing, Running, RunningSweep, After}
use Rattle.txn_core.proofs.Vocabulary.{GoesOn, Ends, Step, tell_end, give_up, locked_at, heard_of, is_poll, said_to, given_in, lack_cause, after_lack, after_response, Agent, Event, Take, Forget, next_in, next_of, take_in, take, begin, forget}
use Rattle.txn_core.proofs.Vocabulary.{after_all, Exchange, exchange_of, exchanges, is_decide, is_prepare, is_down, ends_it, NothingFollowsAnEnd}
use Rattle.rep_core.specs.declared.reply.Verdict.TheVariants as verdict
use Rattle.txn_core.specs.Agents as agents

-- nothing but the end is told any more
abbrev pub IsOver : Phase → Type 0
IsOver (Finishing servers v ending) = Unit {0}
IsOver _ = ⊥

abbrev pub LeftOver : After TransactionRun → Type 0
LeftOver (GoesOn txn_run) = IsOver txn_run.phase
LeftOver (Ends ending) = Unit {0}

pub over_end : (task : Task) (cache : Cache) (suites : Suites) (v : Verdict) (ending : Ending) (servers : List ℕ) → LeftOver (tell_end task cache suites v ending servers).after
over_end task cache suites v ending servers = search arith

pub over_give_up : (task : Task) (cache : Cache) (suites : Suites) (cause : Cause) → LeftOver (give_up task cache suites cause).after
over_give_up task cache suites cause = over_end task cache suites verdict.Aborted (Undecided cause) (locked_at suites)

pub over_lack : (task : Task) (cache : Cache) (suites : Suites) (phase : Phase) (server : ℕ) (lacked : Lack) → LeftOver (after_lack task cache suites phase server lacked).after
over_lack task cache suites (Finishing [] v ending) server lacked = over_end task cache suites v ending []
over_lack task cache suites (Finishing (now ∷ left) v ending) server lacked = over_end task cache suites v ending left
over_lack task cache suites _ server lacked = over_give_up task cache suites (lack_cause server lacked)

-- a request for a lock, a content or a Prepare: what ends it gives nothing else
pub ends_said : (asked : Request) (said : Reply) → is_down asked ≡ (cond (is_poll asked) false true) → ends_it asked (Replied said) ≡ true → said_to asked said ≡ None
ends_said asked said h2 h3 = search arith

pub down_poll : (asked : Request) → is_down asked ≡ (cond (is_poll asked) false true)
down_poll asked = search arith

ends_given : (asked : Request) (said : Reply) → ends_it asked (Replied said) ≡ true → given_in said ≡ None
ends_given asked said h2 = search arith

ends_prepared : (asked : Request) (said : Reply) → ends_it asked (Replied said) ≡ true → is_prepared said ≡ false
ends_prepared asked said h2 = search arith

pub over_heard : (task : Task) (cache : Cache) (suites : Suites) (phase : Phase) (number : ℕ) (found : Option GatheredSuite) (server : ℕ) (asked : Request) (said : Reply) (go_on : Suites → Step) → ends_it asked (Replied said) ≡ true
    → LeftOver (heard_of task cache suites phase number found server asked said go_on).after
over_heard task cache suites phase number found server asked said go_on h10 = search (over_give_up, ends_said, down_poll, arith)

-- what ends it leaves nothing but the end; so does what comes after
over_response : (fixed : Fixed) (task : Task) (cache : Cache) (suites : Suites) (phase : Phase) (server : ℕ) (asked : Request) (response : Response)
    → ends_it asked response ≡ true → LeftOver (after_response fixed (record { task = task; suites = suites; phase = phase }) cache server asked response).after
over_response fixed task cache suites phase server asked (Lacked lacked) is = over_lack task cache suites phase server lacked
over_response fixed task cache suites (Gathering number) server asked (Replied said) is = over_heard task cache suites (Gathering number) number (suite_of suites number) server asked said _ is
over_response fixed task cache suites (Fetching number) server asked (Replied said) is = search (ends_given, over_give_up, arith)
over_response fixed task cache suites (Widening [] granted) server asked (Replied said) is = over_give_up task cache suites (Lost server)
over_response fixed task cache suites (Widening (number ∷ left) granted) server asked (Replied said) is = over_heard task cache suites (Widening (number ∷ left) granted) number (suite_of suites number) server asked said _ is
over_response fixed task cache suites (Preparing [] outcome) server asked (Replied said) is = over_give_up task cache suites (Lost server)
over_response fixed task cache suites (Preparing (now ∷ left) outcome) server asked (Replied said) is = search (ends_prepared, over_give_up, arith)
over_response fixed task cache suites (Deciding outcome) server asked (Replied said) is = search (over_end, arith)
over_response fixed task cache suites (Finishing [] v ending) server asked (Replied said) is = over_end task cache suites v ending []
over_response fixed task cache suites (Finishing (now ∷ left) v ending) server asked (Replied said) is = over_end task cache suites v ending left

pub stays_over : (fixed : Fixed) (task : Task) (cache : Cache) (suites : Suites) (phase : Phase) (server : ℕ) (asked : Request) (response : Response) → IsOver phase
    → LeftOver (after_response fixed (record { task = task; suites = suites; phase = phase }) cache server asked response).after
stays_over fixed task cache suites phase server asked response h8 = search arith

-- ---- all responses

-- once something ended it, it is over
abbrev Over : Bool → Option Doing → Type 0
Over false doing = Unit {0}
Over true (Some (Running txn_run)) = IsOver txn_run.phase
Over true (Some (RunningSweep sweep_run)) = Unit {0}
Over true None = Unit {0}

left_over : (after : After TransactionRun) → LeftOver after → Over true (agents.left Running after)
left_over after h1 = search arith

round_over : (after : After SweepRun) → Over true (agents.left RunningSweep after)
round_over after = search arith

abbrev any_ends : List Exchange → Bool
any_ends past = list_any (λ one. ends_it one.request one.response) past

take_over : (fixed : Fixed) (agent : Agent) (response : Response) (doing : Option Doing) (asked : Option (ℕ × Request)) (granted : Bool) → agent.doing ≡ doing → next_in fixed doing ≡ asked → Over granted doing
    → Over (granted || any_ends (exchange_of asked response)) (take_in fixed agent response doing asked).agent.doing
take_over fixed agent response (Some (Running running)) (Some asked) true was is over = left_over _ (stays_over fixed running.task agent.cache running.suites running.phase asked.0 asked.1 response over)
take_over fixed agent response (Some (Running running)) (Some asked) false was is over =
    elim (ends_it asked.1 response) as (λ b. ends_it asked.1 response ≡ b → Over (b || false) (take_in fixed agent response (Some (Running running)) (Some asked)).agent.doing) [
      | true ↦ λ ends. left_over _ (over_response fixed running.task agent.cache running.suites running.phase asked.0 asked.1 response ends)
      | false ↦ λ _. tt
    ] refl
take_over fixed agent response (Some (Running running)) None true was is over = subst (Over true) (sym was) over
take_over fixed agent response (Some (Running running)) None false was is over = tt
take_over fixed agent response (Some (RunningSweep sweep_run)) (Some asked) granted was is over = search (round_over, arith)
take_over fixed agent response (Some (RunningSweep sweep_run)) None granted was is over = cc
take_over fixed agent response None (Some asked) granted was is over = cc
take_over fixed agent response None None true was is over = subst (Over true) (sym was) tt
take_over fixed agent response None None false was is over = tt

ends-append : (past later : List Exchange) → any_ends (past ++ later) ≡ (any_ends past || any_ends later)
ends-append [] later = refl
ends-append (one ∷ past) later = search (ends-append past later, arith)

all_over : (fixed : Fixed) (agent : Agent) (granted : Bool) (events : List Event) → Over granted agent.doing → Over (granted || any_ends (exchanges fixed agent events)) (after_all fixed agent events).doing
all_over fixed agent true [] over = over
all_over fixed agent false [] over = tt
all_over fixed agent granted (Forget site ∷ events) over = all_over fixed (forget agent site) granted events over
all_over fixed agent granted (Take response ∷ events) over =
    let one = exchange_of (next_of fixed agent) response in
    let rest = exchanges fixed (take fixed agent response).agent events in
    subst (λ b. Over b (after_all fixed (take fixed agent response).agent events).doing) (joined granted (any_ends one) (any_ends rest) ∙ ap (λ b. granted || b) (sym (ends-append one rest)))
    (all_over fixed (take fixed agent response).agent (granted || any_ends one) events (take_over fixed agent response agent.doing (next_of fixed agent) granted refl refl over))
  where
    joined : (a b c : Bool) → ((a || b) || c) ≡ (a || (b || c))
    joined true b c = refl
    joined false b c = refl

-- what is over asks for no Prepare and no Decide, and nor does a sweep
over_asks : (fixed : Fixed) (doing : Option Doing) (server : ℕ) (asked : Request) → Over true doing → next_in fixed doing ≡ Some (server, asked) → (is_decide asked || is_prepare asked) ≡ false
over_asks fixed doing server asked h4 h5 = search arith

pub nothing_follows_an_end : NothingFollowsAnEnd
nothing_follows_an_end fixed agent job events server asked idle ends is = search (all_over fixed (begin fixed agent job) false events tt, over_asks, arith)
