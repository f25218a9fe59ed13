-- A sweep asks in order.
use Rattle.law_agents.proofs.Vocabulary.{◌≡◌, ℕ, ◌+◌, Bool, true, false, cond, List, [], ◌∷◌, ◌++◌, Option, Some, None, refl, arith, ◌==◌, ◌&&◌, not, same_Some, Service, Lock, Request, Reply, Verdict, Response, Replied, Ending, Swept, Job, Sweep}
use Rattle.law_agents.proofs.Vocabulary.{home_of, Fixed, Sweeping, Listing, Resolving, Telling, Breaking, SweepRun, Doing, Running, RunningSweep, After, GoesOn, Ends, Agent, Event, next_in, end_of, take_in, begin, is_idle, after_all, Exchange}
use Rattle.law_agents.proofs.Vocabulary.{exchange_of, of_job, count_of, is_finish, self, exchanges-take}
use Rattle.txn_core.specs.Sweeps.{others, asked_now, sweep_on}
use Rattle.law_agents.specs.SweepOrders.{left_then, left_from, left_by, for_first, after_told, last_or, to_sweep, SweepsAskSo, says_done, says_verdict, is_break, is_resolve, IsSwept, SweepsCount}
use Rattle.rep_core.specs.declared.request.Request.TheVariants as request
use Rattle.rep_core.specs.declared.reply.Reply.TheVariants as reply
use Rattle.txn_core.specs.Sweeps as sweep
use Rattle.txn_core.specs.Agents as agents
use Rattle.law_agents.proofs.Along.{always}
use Rattle.law_agents.proofs.Hearing.{push}

-- ---- one exchange more

left_push : (before : List Lock) (past : List Exchange) (one : Exchange) → left_from before (past ++ one ∷ []) ≡ left_then (left_from before past) one.request one.response
left_push before [] one = refl
left_push before (first ∷ past) one = left_push (left_then before first.request first.response) past one

last_push : (before : Option Exchange) (past : List Exchange) (one : Exchange) → last_or before (past ++ one ∷ []) ≡ Some one
last_push before [] one = refl
last_push before (first ∷ past) one = last_push (Some first) past one

count_push : (kind : Exchange → Bool) (past : List Exchange) (one : Exchange) → count_of kind (past ++ one ∷ []) ≡ count_of kind past + cond (kind one) 1 0
count_push kind [] one = let e : cond (kind one) 1 0 + 0 ≡ 0 + cond (kind one) 1 0 = omega arith in e
count_push kind (first ∷ past) one = search (count_push kind past one, arith)

count_same : (kind : Exchange → Bool) (past : List Exchange) (one : Exchange) (n : ℕ) → kind one ≡ false → n ≡ count_of kind past → n ≡ count_of kind (past ++ one ∷ [])
count_same kind past one n other is = search (count_push, arith)

count_more : (kind : Exchange → Bool) (past : List Exchange) (one : Exchange) (n : ℕ) → kind one ≡ true → n ≡ count_of kind past → n + 1 ≡ count_of kind (past ++ one ∷ [])
count_more kind past one n this is = search (count_push, arith)

-- ---- what stands

abbrev breaks : Exchange → Bool
breaks one = is_break one.request && says_done one.response

abbrev finishes : Exchange → Bool
finishes one = is_finish one.request && says_done one.response

abbrev leaves : Exchange → Bool
leaves one = is_resolve one.request && not (says_verdict one.response)

record Counts (past : List Exchange) (broken finished left : ℕ) : Type 0 where
  broken_is : broken ≡ count_of breaks past
  finished_is : finished ≡ count_of finishes past
  left_is : left ≡ count_of leaves past

module _ (service : Service) (swept : ℕ) where
  abbrev Left : List Exchange → Sweeping → Type 0
  Left past Listing = Unit {0}
  Left past (Resolving t left) = left ≡ others t (left_by past)
  Left past (Telling t v left) = left ≡ left_by past
  Left past (Breaking lock left) = lock ∷ left ≡ left_by past

  abbrev Sweeps : List Exchange → Option Doing → Type 0
  Sweeps past (Some (Running running)) = ⊥
  Sweeps past (Some (RunningSweep sweeping)) =
      (sweeping.server ≡ swept) × Counts past sweeping.broken sweeping.finished sweeping.left × (to_sweep service swept past ≡ Some (asked_now service sweeping sweeping.now)) × Left past sweeping.now
  Sweeps past None = Unit {0}

  abbrev EndsSo : List Exchange → Ending → Type 0
  EndsSo past (Swept broken finished left) = IsSwept service swept past broken finished left
  EndsSo past _ = Unit {0}

  abbrev LeftSo : List Exchange → After SweepRun → Type 0
  LeftSo past (GoesOn sweeping) = Sweeps past (Some (RunningSweep sweeping))
  LeftSo past (Ends ending) = EndsSo past ending

  left_so : (past : List Exchange) (after : After SweepRun) → LeftSo past after → Sweeps past (agents.left RunningSweep after)
  left_so past after h2 = search arith

  -- the locks that are left
  on_so : (past : List Exchange) (sweeping : SweepRun) (locks : List Lock) → sweeping.server ≡ swept → Counts past sweeping.broken sweeping.finished sweeping.left → locks ≡ left_by past
      → to_sweep service swept past ≡ for_first service swept (left_by past) → LeftSo past (sweep_on sweeping locks)
  on_so past sweeping locks h3 h4 h5 h6 = search arith

  -- ---- what is told

  abbrev told_now : List Exchange → SweepRun → Sweeping → Response → List Exchange
  told_now past sweeping now heard = push past (asked_now service sweeping now).0 (asked_now service sweeping now).1 heard

  goes_first : (past : List Exchange) (server : ℕ) (asked : Request) (heard : Response) → ((left : List Lock) → after_told service swept left asked heard ≡ for_first service swept left)
      → to_sweep service swept (push past server asked heard) ≡ for_first service swept (left_by (push past server asked heard))
  goes_first past server asked heard plain = grind (push, last_push, arith)

  told_locks : (past : List Exchange) (sweeping : SweepRun) (said : Reply) → Sweeps past (Some (RunningSweep (record sweeping { now = Listing })))
      → LeftSo (told_now past sweeping Listing (Replied said)) (sweep.after_answer service sweeping Listing said)
  told_locks past sweeping said h3 = search (on_so, count_same, left_push, goes_first, arith)

  told_finish : (past : List Exchange) (sweeping : SweepRun) (t : ℕ) (v : Verdict) (left : List Lock) (said : Reply) → Sweeps past (Some (RunningSweep (record sweeping { now = Telling t v left })))
      → LeftSo (told_now past sweeping (Telling t v left) (Replied said)) (sweep.after_answer service sweeping (Telling t v left) said)
  told_finish past sweeping t v left said h6 = search (on_so, count_same, count_more, left_push, goes_first, arith)

  told_break : (past : List Exchange) (sweeping : SweepRun) (lock : Lock) (left : List Lock) (said : Reply) → Sweeps past (Some (RunningSweep (record sweeping { now = Breaking lock left })))
      → LeftSo (told_now past sweeping (Breaking lock left) (Replied said)) (sweep.after_answer service sweeping (Breaking lock left) said)
  told_break past sweeping lock left said h5 = search (self, on_so, count_more, count_same, left_push, goes_first, arith)

  -- a home that told no verdict
  not_told : (past : List Exchange) (sweeping : SweepRun) (t : ℕ) (left : List Lock) (said : Reply) → Sweeps past (Some (RunningSweep (record sweeping { now = Resolving t left }))) → says_verdict (Replied said) ≡ false
      → ((left : List Lock) → after_told service swept left (request.Resolve t) (Replied said) ≡ for_first service swept left)
      → LeftSo (told_now past sweeping (Resolving t left) (Replied said)) (cond (home_of service t == sweeping.server) (sweep.lost sweeping) (sweep_on (record sweeping { left = sweeping.left + 1 }) left))
  not_told past sweeping t left said so none plain = search (on_so, count_same, count_more, left_push, goes_first, arith)

  told_resolve : (past : List Exchange) (sweeping : SweepRun) (t : ℕ) (left : List Lock) (said : Reply) → Sweeps past (Some (RunningSweep (record sweeping { now = Resolving t left })))
      → LeftSo (told_now past sweeping (Resolving t left) (Replied said)) (sweep.after_answer service sweeping (Resolving t left) said)
  told_resolve past sweeping t left (reply.Verdict v) so = search (count_same, last_push, left_push, arith)
  told_resolve past sweeping t left (reply.Locked locks) so = not_told past sweeping t left (reply.Locked locks) so refl (λ left. refl)
  told_resolve past sweeping t left (reply.Held prefix dver) so = not_told past sweeping t left (reply.Held prefix dver) so refl (λ left. refl)
  told_resolve past sweeping t left (reply.Busy holder prepared) so = not_told past sweeping t left (reply.Busy holder prepared) so refl (λ left. refl)
  told_resolve past sweeping t left (reply.Given dver content) so = not_told past sweeping t left (reply.Given dver content) so refl (λ left. refl)
  told_resolve past sweeping t left reply.Prepared so = not_told past sweeping t left reply.Prepared so refl (λ left. refl)
  told_resolve past sweeping t left reply.Done so = not_told past sweeping t left reply.Done so refl (λ left. refl)
  told_resolve past sweeping t left reply.Down so = not_told past sweeping t left reply.Down so refl (λ left. refl)
  told_resolve past sweeping t left reply.Lost so = not_told past sweeping t left reply.Lost so refl (λ left. refl)

  told_answer : (past : List Exchange) (sweeping : SweepRun) (now : Sweeping) (said : Reply) → Sweeps past (Some (RunningSweep (record sweeping { now = now })))
      → LeftSo (told_now past sweeping now (Replied said)) (sweep.after_answer service sweeping now said)
  told_answer past sweeping now said h4 = search (told_locks, told_resolve, told_finish, told_break, arith)

  told_so : (past : List Exchange) (sweeping : SweepRun) (heard : Response) (asked : ℕ × Request) → Sweeps past (Some (RunningSweep sweeping)) → ◌≡◌ {A = Option (ℕ × Request)} (Some (asked_now service sweeping sweeping.now)) (Some asked)
      → LeftSo (push past asked.0 asked.1 heard) (sweep.after_response service sweeping asked.0 heard)
  told_so past sweeping heard asked h4 h5 = search (push, same_Some, told_answer, arith)

-- ---- after all events

module _ (fixed : Fixed) (agent : Agent) (server : ℕ) (idle : is_idle agent.doing ≡ true) where
  abbrev job : Job
  job = Sweep server

  abbrev at : List Event → Agent
  at events = after_all fixed (begin fixed agent job) events

  stays : (events : List Event) (heard : Response) (doing : Doing) (who : ℕ) (asked : Request) → (at events).doing ≡ Some doing → next_in fixed (Some doing) ≡ Some (who, asked)
      → Sweeps fixed.service server (of_job fixed agent job events) (Some doing)
      → Sweeps fixed.service server (push (of_job fixed agent job events) who asked heard) (take_in fixed (at events) heard (Some doing) (Some (who, asked))).agent.doing
  stays events heard (Running running) who asked was is so = absurd so
  stays events heard (RunningSweep sweeping) who asked was is so =
      let past = of_job fixed agent job events in
      left_so fixed.service server (push past who asked heard) (sweep.after_response fixed.service sweeping who heard) (told_so fixed.service server past sweeping heard (who, asked) so is)

  begins : Sweeps fixed.service server [] (begin fixed agent job).doing
  begins = search arith

  sweeps : (events : List Event) → Sweeps fixed.service server (of_job fixed agent job events) (at events).doing
  sweeps events = always fixed agent job (Sweeps fixed.service server) stays begins events

  asks_so : (events : List Event) (asked : ℕ × Request) (doing : Option Doing) → next_in fixed doing ≡ Some asked
      → Sweeps fixed.service server (of_job fixed agent job events) doing → to_sweep fixed.service server (of_job fixed agent job events) ≡ Some asked
  asks_so events asked doing h3 h4 = search arith

  end_so : (past : List Exchange) (broken finished left : ℕ) (after : After SweepRun) → LeftSo fixed.service server past after → end_of after ≡ Some (Swept broken finished left) → IsSwept fixed.service server past broken finished left
  end_so past broken finished left after h5 h6 = search arith

  counts_so : (events : List Event) (heard : Response) (broken finished left : ℕ) (doing : Option Doing) (asked : Option (ℕ × Request)) → next_in fixed doing ≡ asked → Sweeps fixed.service server (of_job fixed agent job events) doing
      → (take_in fixed (at events) heard doing asked).ending ≡ Some (Swept broken finished left) → IsSwept fixed.service server (of_job fixed agent job events ++ exchange_of asked heard) broken finished left
  counts_so events heard broken finished left doing asked h7 h8 h9 = search (end_so, push, told_so, arith)

pub sweeps_ask_so : SweepsAskSo
sweeps_ask_so fixed agent server events asked idle is = search (asks_so, sweeps, arith)

pub sweeps_count : SweepsCount
sweeps_count fixed agent server events told broken finished left idle ends = search (exchanges-take, counts_so, sweeps, arith)
