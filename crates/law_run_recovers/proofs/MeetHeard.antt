-- Whoever granted a transaction a lock in its run stands among those that told it of one, in the suites that it had gathered as its end was fixed.
use Rattle.law_run_recovers.proofs.Vocabulary.{◌≡◌, ◌⊎◌, inl, inr, ⊎_elim, ℕ, ◌+◌, ◌≤◌, ◌<◌, true, false, List, [], ◌∷◌, ◌++◌, length, Some, is_some, refl, sym, ap, subst, ◌∙◌, arith, ◌==◌, ◌&&◌, false≢true, and_from, eq-eqb, same_Some}
use Rattle.law_run_recovers.proofs.Vocabulary.{slice_get_within, max_servers, Identity, Opening, Shared, Op, Request, Reply, reply_of, Has, contains_from, filter_has, has_any, has_append, append_has_left, append_has_right, holds, Transaction}
use Rattle.law_run_recovers.proofs.Vocabulary.{Replied, numbers_from, Suites, TransactionRun, Running, is_finish, Agent, fixed_of, is_idle, next_of, take, begin, after-append, Exchange, exchanges, exchanges-take, locks, says_held, was_held, Keeps}
use Rattle.law_run_recovers.proofs.Vocabulary.{nothing_held, plus_all, begin_keeps, Served, Event, Begin, Step, Actor, World, server_at, actor_at, step, so_many, stage, was_locked, locked, world_after}
use Rattle.law_agents.proofs.Orders.{stages_rise, all_finish}
use Rattle.txn_core.specs.Suites.{told_at}
use Rattle.rep_core.specs.declared.request.Request.TheVariants as request
use Rattle.txn_core.specs.Agents as agents
use Rattle.txn_core.proofs.Locks as keeping
use Rattle.law_run_recovers.proofs.AmongCourse.{head_or, tail_or, parted}
use Rattle.law_run_recovers.proofs.AmongLeft.{none_done, done_of, locked_of}
use Rattle.law_run_recovers.proofs.Keeps.{IsAtWork, at_work_before, run_at, step_asks}
use Rattle.law_run_recovers.proofs.KnownStays.{among_numbers}
use Rattle.law_run_recovers.proofs.StepsServed.{OwnTook, own_took}
use Rattle.law_run_recovers.proofs.MeetQuiet.{GoesQuietly, Heard, exchange, past_of, heard_at, idle_before, next_is}

-- ---- lists

-- a list and the front of another one
pub inside : {X : Type 0} (xs us : List X) (u : X) (ys vs : List X) → xs ++ ys ≡ us ++ u ∷ vs → ((more : List X) × (us ≡ xs ++ more)) ⊎ ((more : List X) × (xs ≡ us ++ u ∷ more))
inside [] us u ys vs is = inl (us, refl)
inside (x ∷ xs) [] u ys vs is = inr (xs, ap (λ z. z ∷ xs) (ap (head_or x) is))
inside (x ∷ xs) (v ∷ us) u ys vs is = search (head_or, tail_or, inside xs us u ys vs, arith)

early_stage : (asked : Request) → stage asked < 4 → is_finish asked ≡ false → stage asked ≤ 2
early_stage asked h1 h2 = search arith

module _ (given : Opening) (base events later : List Event) (agent t : ℕ) (caller : Identity) (site : ℕ) (ops : List Op) (actor : Actor) (goes : GoesQuietly given base events later agent t caller site ops actor) where
  abbrev world_at : List Event → World
  world_at so_far = world_after given events agent caller site ops so_far

  abbrev begun : Agent
  begun = begin (fixed_of given) actor.agent (Transaction caller site ops)

  abbrev past : List agents.Event → List Exchange
  past told = past_of given base events later agent t caller site ops actor goes told

  abbrev the : Served → Exchange
  the what = exchange given base events later agent t caller site ops actor goes what

  -- of these suites
  abbrev pub AllTold : Suites → Type 0
  AllTold suites = (front back : List Event) (what : Served) → later ≡ front ++ Step agent ∷ back → IsAtWork (world_after given events agent caller site ops front) agent t
      → (step (fixed_of given) (world_after given events agent caller site ops front) (Step agent)).done.served ≡ Some what → (z : ℕ) → locks z what.request.value ≡ true → says_held (Replied what.reply.value) ≡ true
      → holds Shared (told_at suites z) what.server ≡ true

  -- all that it asked so far is of a stage before the last
  abbrev pub IsEarly : List agents.Event → Type 0
  IsEarly told = (one : Exchange) → Has (past_of given base events later agent t caller site ops actor goes told) one → stage one.request ≤ 2

  -- ---- a step at which its end is not fixed

  pub record HeardNext (so_far : List Event) : Type 0 where
    pub heard : Heard given base events later agent t caller site ops actor goes so_far
    pub early : IsEarly heard.told

  module _ (so_far rest : List Event) (split : later ≡ so_far ++ Step agent ∷ rest) (work : IsAtWork (world_after given events agent caller site ops so_far) agent t)
      (here : Actor) (there : actor_at (world_after given events agent caller site ops so_far) agent ≡ Some here)
      (took : OwnTook (fixed_of given) (world_after given events agent caller site ops so_far) agent here there (step (fixed_of given) (world_after given events agent caller site ops so_far) (Step agent)))
      (other : is_finish took.asked.1 ≡ false) where
    h : Heard given base events later agent t caller site ops actor goes so_far
    h = heard_at given base events later agent t caller site ops actor goes so_far (Step agent ∷ rest) split work

    same : h.here ≡ here
    same = same_Some h.here here (sym h.there ∙ there)

    here_is : here.agent ≡ agents.after_all (fixed_of given) (begin (fixed_of given) actor.agent (Transaction caller site ops)) h.told
    here_is = ap (λ (a : Actor). a.agent) (sym same) ∙ h.is

    abbrev said : Reply
    said = reply_of took.st took.asked.1

    abbrev told : List agents.Event
    told = h.told ++ agents.Take (Replied (reply_of took.st took.asked.1)) ∷ []

    abbrev one : Exchange
    one = record { server = took.asked.0; request = took.asked.1; response = Replied (reply_of took.st took.asked.1) }

    more : past told ≡ past h.told ++ one ∷ []
    more = search (exchanges-take, here_is, arith)

    early_now : stage took.asked.1 ≤ 2
    early_now =
        let in_order = stages_rise (fixed_of given) actor.agent caller site ops h.told took.asked.0 took.asked.1 (idle_before given base events later agent t caller site ops actor goes) (ap (next_of (fixed_of given)) (sym here_is) ∙ took.next) in
        early_stage took.asked.1 in_order.own other

    early_then : (x : Exchange) → Has (past told) x → stage x.request ≤ 2
    early_then x has =
        let in_order = stages_rise (fixed_of given) actor.agent caller site ops h.told took.asked.0 took.asked.1 (idle_before given base events later agent t caller site ops actor goes) (ap (next_of (fixed_of given)) (sym here_is) ∙ took.next) in
        ⊎_elim
        (λ old. let rises = in_order.none_later x (contains_from (past h.told) x old) in let now = early_now in omega (arith, rises, now))
        (λ new. ⊎_elim (λ is. subst (λ (x : Exchange). stage x.request ≤ 2) is early_now) (λ none. absurd none) new)
        (has_append (past h.told) (one ∷ []) x (subst (λ past. Has past x) more has))

    pub heard_next : HeardNext (so_far ++ Step agent ∷ [])
    heard_next = record {
      heard = record {
        here = took.new;
        there = ap (λ w. actor_at w agent) (next_is given base events later agent t caller site ops actor goes so_far (Step agent)) ∙ took.now;
        told = told;
        is = took.took ∙ ap (λ a. (take (fixed_of given) a (Replied said)).agent) here_is ∙ sym (after-append (fixed_of given) begun h.told (agents.Take (Replied said)));
        past = λ front back what parts served.
            subst (λ past. Has past (the what)) (sym more)
            (⊎_elim
            (λ at.
            let same_what = same_Some _ what (sym took.done ∙ ap (λ front. (step (fixed_of given) (world_at front) (Step agent)).done.served) (sym at.0) ∙ served) in
            append_has_right (past h.told) (one ∷ []) (the what) (inl (ap the same_what)))
            (λ old. append_has_left (past h.told) (one ∷ []) (the what) (h.past front old.0 what old.1 served))
            (parted so_far (Step agent) front (Step agent) back parts));
      };
      early = early_then;
    }

  -- ---- where its end is fixed

  module _ (so_far rest : List Event) (split : later ≡ so_far ++ rest) (rests : IsAtWork (world_after given events agent caller site ops so_far) agent t → ⊥) (h : Heard given base events later agent t caller site ops actor goes so_far) where
    -- its steps at which it was at work were before
    before : (front back : List Event) → later ≡ front ++ Step agent ∷ back → IsAtWork (world_after given events agent caller site ops front) agent t → (back' : List Event) × (so_far ≡ front ++ Step agent ∷ back')
    before front back is work =
        ⊎_elim
        (λ longer. absurd (rests (at_work_before given events later agent t caller site ops actor goes.can goes.there goes.begins so_far longer.0 (subst (λ xs. IsAtWork (world_at xs) agent t) longer.1 work))))
        (λ shorter. shorter)
        (inside so_far front (Step agent) rest back (sym split ∙ is))

    module _ (front back : List Event) (what : Served) (is : later ≡ front ++ Step agent ∷ back) (work : IsAtWork (world_after given events agent caller site ops front) agent t)
        (served : (step (fixed_of given) (world_after given events agent caller site ops front) (Step agent)).done.served ≡ Some what) (z : ℕ) (lock : locks z what.request.value ≡ true) (held : says_held (Replied what.reply.value) ≡ true) where
      was : was_held (past_of given base events later agent t caller site ops actor goes h.told) z what.server ≡ true
      was =
          let at = before front back is work in
          has_any (λ (one : Exchange). (one.server == what.server) && locks z one.request && says_held one.response) (past h.told) (the what) (h.past front at.0 what at.1 served)
          (and_from ((what.server == what.server) && locks z what.request.value) (says_held (Replied what.reply.value)) (and_from (what.server == what.server) (locks z what.request.value) (eq-eqb what.server what.server refl) lock) held)

      few : what.server < 0 + max_servers
      few =
          let w = world_at front in
          let asks = step_asks (fixed_of given) w agent (actor_at w agent) what served in
          let took = own_took (fixed_of given) w agent asks.0 asks.1 (ap is_some served) in
          let server : took.asked.0 ≡ what.server = ap (λ (what : Served). what.server) (same_Some _ what (sym took.done ∙ served)) in
          let within : what.server < length w.servers = slice_get_within w.servers what.server took.st (subst (λ i. server_at w i ≡ Some took.st) server took.at) in
          let many : length w.servers ≡ given.servers =
          ap (λ (w : World). length w.servers) (run_at given events later agent t caller site ops actor goes.can goes.there goes.begins front)
          ∙ (so_many given (events ++ Begin agent (Transaction caller site ops) ∷ front)).0 in
          let most = goes.can.accepted.some_servers.1 in
          omega (arith, within, many, most)

    -- it tells servers how it ended: it keeps all that it was told
    pub told_running : (txn_run : TransactionRun) → h.here.agent.doing ≡ Some (Running txn_run) → AllTold txn_run.suites
    told_running txn_run does front back what is work served z lock held =
        let keeps =
        subst (Keeps (plus_all nothing_held (exchanges (fixed_of given) begun h.told))) (ap (λ (a : Agent). a.doing) (sym h.is) ∙ does)
        (keeping.all_keep nothing_held (fixed_of given) begun h.told (begin_keeps (fixed_of given) actor.agent (Transaction caller site ops) (idle_before given base events later agent t caller site ops actor goes))) in
        keeps.1 z what.server ∙ was front back what is work served z lock held

    -- or it has told none: none granted it a lock
    pub told_none : is_idle h.here.agent.doing ≡ true → IsEarly h.told → (suites : Suites) → AllTold suites
    told_none idle early suites front back what is work served z lock held =
        let sent = all_finish (fixed_of given) actor.agent caller site ops h.told (idle_before given base events later agent t caller site ops actor goes) (ap (λ (a : Agent). is_idle a.doing) (sym h.is) ∙ idle) in
        let there : Has (locked (past h.told)) what.server =
        filter_has (was_locked (past h.told)) (numbers_from 0 max_servers) what.server (among_numbers max_servers 0 what.server (omega arith) (few front back what is work served z lock held))
        (locked_of (past h.told) z what.server (was front back what is work served z lock held)) in
        absurd (false≢true (sym (none_done (past h.told) 2 (omega arith) early what.server) ∙ done_of (past h.told) what.server (subst (λ list. Has list what.server) (sym sent) there)))
