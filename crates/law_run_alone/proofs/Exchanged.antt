-- What the agent of a transaction was told since it began, where nothing was in its way: it ends decided, or for want of votes, or since its home is down.
use Rattle.law_run_alone.proofs.Vocabulary.{◌≡◌, ◌⊎◌, inl, inr, ⊎_elim, ℕ, ◌+◌, ◌<◌, ◌≤◌, Bool, true, false, cond, List, [], ◌∷◌, ◌++◌, Option, Some, None, refl, sym, ap, subst, ◌∙◌, arith, ◌&&◌, not, and_parts, false≢true, none-some, Identity, Op}
use Rattle.law_run_alone.proofs.Vocabulary.{Representative, Configuration, votes_in, total_votes, IsValid, Request, Reply, fits, is_busy, is_down, is_lost, Has, has_from, contains_from, Prefix, LockMode, needed_of, Cause, Undecided, Job, Transaction}
use Rattle.law_run_alone.proofs.Vocabulary.{Response, Replied, Lacked, Fixed, said_to, Exchange, exchange_of, of_job, all_fit, fits_response, locks, heard_in, busy_at, first_busy_in, has_said, is_said, refusing, holding, is_decide, told_of, told_by}
use Rattle.law_run_alone.proofs.Vocabulary.{more_told, IsStart, stands_on_locks, says_down, says_aborted, is_lack, is_finish, loses, stops, Was, DidNotServe, IsShort, IsCaused, Agent, Take, next_of, take, begin, forget, is_idle, after_all}
use Rattle.law_run_alone.proofs.Vocabulary.{after_event, has_append, JobGivesValidVotes, Lack as Why}
use Rattle.txn_core.proofs.Upheld.{exchanges-take, exchanges-forget, after-append}
use Rattle.txn_core.proofs.Undecided.{ends_are_caused}
use Rattle.suite_collect.specs.declared.told.Told.{Told}
use Rattle.txn_core.specs.Laws.{task_of}
use Rattle.txn_core.specs.Agents.{Forget}
use Rattle.rep_core.specs.declared.reply.Reply.TheVariants as reply
use Rattle.rep_core.specs.declared.reply.Verdict.TheVariants as verdict
use Rattle.rep_core.specs.declared.stamped.Lack.TheVariants as lack
use Rattle.suite_collect.specs.declared.told.Said.TheVariants as told
use Rattle.txn_core.specs.declared.ending.Cause.TheVariants as cause
use Rattle.txn_core.specs.Agents as agents
use Rattle.law_run_alone.proofs.Votes.{HasValidVotes, start_valid, AllSayValid, newest_valid, set_votes_valid}

-- ---- replies in which nothing is in the way

-- what is told of a copy has valid votes
abbrev pub TellsValid : Reply → Type 0
TellsValid (reply.Held prefix dver) = IsValid prefix.votes
TellsValid other = Unit {0}

-- Of a server that is up, or down: it is not Busy, nor Lost, and Down where the server is; it fits what was asked, what it tells is valid, no Decide is
-- answered Aborted, and what stands on a lock is asked where the server is up.
pub record IsFree (up : Bool) (asked : Request) (said : Reply) : Type 0 where
  pub busy : is_busy said ≡ false
  pub down : is_down said ≡ not up
  pub kept : is_lost said ≡ false
  pub fit : fits asked said ≡ true
  pub valid : TellsValid said
  pub decides : is_decide asked ≡ true → said ≡ reply.Verdict verdict.Aborted → ⊥
  pub stood : stands_on_locks asked ≡ true → up ≡ true

-- a request that was not served is not free
abbrev pub IsFreeResponse : Bool → Request → Response → Type 0
IsFreeResponse up asked (Replied said) = IsFree up asked said
IsFreeResponse up asked (Lacked why) = ⊥

abbrev pub AllFree : (ℕ → Bool) → List Exchange → Type 0
AllFree up past = (one : Exchange) → Has past one → IsFreeResponse (up one.server) one.request one.response

-- from each of its moments on the cache of an agent had valid votes
abbrev pub AllValid : Fixed → Agent → List agents.Event → Type 0
AllValid fixed agent [] = HasValidVotes agent.cache
AllValid fixed agent (event ∷ events) = HasValidVotes agent.cache × AllValid fixed (after_event fixed agent event) events

valid_more : (fixed : Fixed) (agent : Agent) (events : List agents.Event) (event : agents.Event) → AllValid fixed agent events
    → HasValidVotes (after_event fixed (after_all fixed agent events) event).cache → AllValid fixed agent (events ++ event ∷ [])
valid_more fixed agent [] event all now = (all, now)
valid_more fixed agent (first ∷ events) event all now = (all.0, valid_more fixed (after_event fixed agent first) events event all.1 now)

valid_at : (fixed : Fixed) (agent : Agent) (before later : List agents.Event) → AllValid fixed agent (before ++ later) → HasValidVotes (after_all fixed agent before).cache
valid_at fixed agent [] [] all = all
valid_at fixed agent [] (event ∷ later) all = all.0
valid_at fixed agent (event ∷ before) later all = valid_at fixed (after_event fixed agent event) before later all.1

-- what holds of all that a job was told, and of a response more
all_more : (F : Exchange → Type 0) (past more : List Exchange) → ((one : Exchange) → Has past one → F one) → ((one : Exchange) → Has more one → F one) → (one : Exchange) → Has (past ++ more) one → F one
all_more F past more old new one has = ⊎_elim (λ left. old one left) (λ right. new one right) (has_append past more one has)

module _ (F : Exchange → Type 0) (fixed : Fixed) (before agent : Agent) (job : Job) (told : List agents.Event) (asked : ℕ × Request) (response : Response)
    (is : agent ≡ after_all fixed (begin fixed before job) told) (next : next_of fixed agent ≡ Some asked)
    (old : (one : Exchange) → Has (of_job fixed before job told) one → F one) (now : F (record { server = asked.0; request = asked.1; response = response })) where
  told_now : (one : Exchange) → Has (exchange_of (next_of fixed agent) response) one → F one
  told_now = subst (λ asked. (one : Exchange) → Has (exchange_of asked response) one → F one) (sym next) (λ one has. ⊎_elim (λ is. subst F is now) (λ none. absurd none) has)

  pub all_with : (one : Exchange) → Has (of_job fixed before job (told ++ Take response ∷ [])) one → F one
  all_with =
      subst (λ past. (one : Exchange) → Has past one → F one) (sym (exchanges-take fixed (begin fixed before job) told response))
      (all_more F (of_job fixed before job told) _ old (subst (λ agent. (one : Exchange) → Has (exchange_of (next_of fixed agent) response) one → F one) is told_now))

-- where all servers are up
abbrev pub all_up : ℕ → Bool
all_up server = true

-- the agent began a transaction that sets no votes but valid ones, and this is all that it was told since
pub record Since (fixed : Fixed) (agent : Agent) : Type 0 where
  pub before : Agent
  pub caller : Identity
  pub site : ℕ
  pub ops : List Op
  pub told : List agents.Event
  pub idle : is_idle before.doing ≡ true
  pub is : agent ≡ after_all fixed (begin fixed before (Transaction caller site ops)) told
  pub free : AllFree all_up (of_job fixed before (Transaction caller site ops) told)
  pub caches : AllValid fixed (begin fixed before (Transaction caller site ops)) told
  pub sets : JobGivesValidVotes (Transaction caller site ops)

pub since_begin : (fixed : Fixed) (agent : Agent) (caller : Identity) (site : ℕ) (ops : List Op) → is_idle agent.doing ≡ true → JobGivesValidVotes (Transaction caller site ops)
    → HasValidVotes (begin fixed agent (Transaction caller site ops)).cache
    → Since fixed (begin fixed agent (Transaction caller site ops))
since_begin fixed agent caller site ops idle sets cache = record { before = agent; caller = caller; site = site; ops = ops; told = []; idle = idle; is = refl; free = λ one has. absurd has; caches = cache; sets = sets }

module _ (fixed : Fixed) (agent : Agent) (since : Since fixed agent) where
  abbrev job : Job
  job = Transaction since.caller since.site since.ops

  abbrev first : Agent
  first = begin fixed since.before job

  pub since_forget : (site : ℕ) → HasValidVotes (forget agent site).cache → Since fixed (forget agent site)
  since_forget site cache = record {
    before = since.before;
    caller = since.caller;
    site = since.site;
    ops = since.ops;
    told = since.told ++ Forget site ∷ [];
    idle = since.idle;
    is = ap (λ agent. forget agent site) since.is ∙ sym (after-append fixed first since.told (Forget site));
    free = subst (AllFree all_up) (sym (exchanges-forget fixed first since.told site)) since.free;
    caches = valid_more fixed first since.told (Forget site) since.caches (subst (λ agent. HasValidVotes (forget agent site).cache) since.is cache);
    sets = since.sets;
  }

  -- all that was told with this reply
  free_with : (asked : ℕ × Request) (said : Reply) → next_of fixed agent ≡ Some asked → IsFree true asked.1 said → AllFree all_up (of_job fixed since.before job (since.told ++ Take (Replied said) ∷ []))
  free_with asked said next free = all_with (λ one. IsFreeResponse true one.request one.response) fixed since.before agent job since.told asked (Replied said) since.is next since.free free

  pub since_take : (asked : ℕ × Request) (said : Reply) → next_of fixed agent ≡ Some asked → IsFree true asked.1 said → HasValidVotes (take fixed agent (Replied said)).agent.cache → Since fixed (take fixed agent (Replied said)).agent
  since_take asked said next free cache = record {
    before = since.before;
    caller = since.caller;
    site = since.site;
    ops = since.ops;
    told = since.told ++ Take (Replied said) ∷ [];
    idle = since.idle;
    is = ap (λ agent. (take fixed agent (Replied said)).agent) since.is ∙ sym (after-append fixed first since.told (Take (Replied said)));
    free = free_with asked said next free;
    caches = valid_more fixed first since.told (Take (Replied said)) since.caches (subst (λ agent. HasValidVotes (take fixed agent (Replied said)).agent.cache) since.is cache);
    sets = since.sets;
  }

-- ---- what was not said

none_refuses : (asked : Request) (response : Response) → IsFreeResponse true asked response → is_said refusing asked (heard_in asked response) ≡ false
none_refuses asked response free = search arith

nobody_refused : (past : List Exchange) (suite server : ℕ) → AllFree all_up past → has_said past suite refusing server ≡ false
nobody_refused [] suite server free = refl
nobody_refused (one ∷ past) suite server free = search (none_refuses one.request one.response (free one (inl refl)), nobody_refused past suite server, arith)

-- ---- what was told has valid votes

said_valid : (before : List Told) (server : ℕ) (asked : Request) (said : Reply) → TellsValid said → AllSayValid before → AllSayValid (more_told before server asked (said_to asked said))
said_valid before server asked said h4 h5 = search arith

told_valid : (suite : ℕ) (before : List Told) (past : List Exchange) → AllSayValid before → AllFree all_up past → AllSayValid (told_of suite before past)
told_valid suite before [] all free = all
told_valid suite before (one ∷ past) all free = told_valid suite (cond (locks suite one.request) (told_by before one one.response) before) past (of (locks suite one.request)) (λ other has. free other (inr has))
  where
    by : (response : Response) → IsFreeResponse true one.request response → AllSayValid (told_by before one response)
    by response h1 = search (said_valid, arith)

    of : (b : Bool) → AllSayValid (cond b (told_by before one one.response) before)
    of true = by one.response (free one (inl refl))
    of false = all

-- ---- what it does not end with

-- all votes are had where every server that has some gave its lock
all_votes : (reps : List Representative) (set : ℕ → Bool) → ((rep : Representative) → Has reps rep → 0 < rep.1 → set rep.0 ≡ true) → votes_in reps set ≡ total_votes reps
all_votes [] set every = refl
all_votes (rep ∷ reps) set every = search (false≢true, all_votes reps set, arith)

either_held : (a b : Bool) → b ≡ false → (a ≡ true) ⊎ (b ≡ true) → a ≡ true
either_held a b h2 h3 = search arith

-- what is needed of valid votes is there
enough : (mode : LockMode) (votes : Configuration) → IsValid votes → needed_of mode votes ≤ total_votes votes.reps
enough mode votes h2 = search arith

-- a request that was not served
lacks : (up : Bool) (why : Why) (one : Exchange) → IsFreeResponse up one.request one.response → is_lack why one.response ≡ true → ⊥
lacks up why one free is = search arith

-- a server that is down
downs : (up : Bool) (one : Exchange) → IsFreeResponse up one.request one.response → says_down one.response ≡ true → up ≡ false
downs up one free is = search arith

-- or lost locks
lost : (up : Bool) (one : Exchange) → IsFreeResponse up one.request one.response → loses one.request one.response ≡ true → ⊥
lost up one free is = search arith

overruled : (up : Bool) (one : Exchange) → IsFreeResponse up one.request one.response → (is_decide one.request && says_aborted one.response) ≡ true → ⊥
overruled up one free is = search arith

-- nobody was busy
never_busy : (up : Bool) (one : Exchange) → IsFreeResponse up one.request one.response → busy_at one.server (heard_in one.request one.response) ≡ None
never_busy up one free = search arith

none_busy : (up : ℕ → Bool) (suite : ℕ) (past : List Exchange) → AllFree up past → first_busy_in suite past ≡ None
none_busy up suite [] free = refl
none_busy up suite (one ∷ past) free = search (never_busy (up one.server) one (free one (inl refl)), none_busy up suite past, arith)

-- ---- causes

-- a Decide that was told that the home is down
pub record SaysDown (up : ℕ → Bool) (past : List Exchange) : Type 0 where
  pub one : Exchange
  pub there : Has past one
  pub decide : is_decide one.request ≡ true
  pub down : up one.server ≡ false

-- why a transaction may end undecided to which all replies were free: too few votes were up, or its home is down
abbrev pub MayCause : Fixed → (ℕ → Bool) → Agent → Job → List agents.Event → Cause → Type 0
MayCause fixed up before job' told (cause.Unavailable suite got needed) = IsShort fixed before job' told suite got needed None
MayCause fixed up before job' told cause.HomeDown = SaysDown up (of_job fixed before job' told)
MayCause fixed up before job' told other = ⊥

module _ (fixed : Fixed) (up : ℕ → Bool) (before : Agent) (caller : Identity) (site : ℕ) (ops : List Op) (told' : List agents.Event) (free : AllFree up (of_job fixed before (Transaction caller site ops) told')) where
  abbrev past : List Exchange
  past = of_job fixed before (Transaction caller site ops) told'

  none_was : (server : ℕ) (kind : Request → Response → Bool) → ((one : Exchange) → IsFreeResponse (up one.server) one.request one.response → kind one.request one.response ≡ true → ⊥) → Was past server kind → ⊥
  none_was server kind none was = none was.one (free was.one (has_from past was.one was.there)) was.is

  all_served : (why : Why) (server : ℕ) → DidNotServe past (Transaction caller site ops) why server → ⊥
  all_served why server was = none_was server (stops why) (λ one free is. lacks (up one.server) why one free (and_parts (not (is_finish one.request)) (is_lack why one.response) is).1) was

  pub few_causes : (cause' : Cause) → IsCaused fixed before (Transaction caller site ops) told' cause' → MayCause fixed up before (Transaction caller site ops) told' cause'
  few_causes (cause.Unavailable suite got needed) caused = caused
  few_causes (cause.Busy server holder) caused = absurd (none-some (server, holder) (sym (caused.3.first_busy ∙ none_busy up caused.0 past free)))
  few_causes (cause.Lost server) caused = none_was server loses (λ one free is. lost (up one.server) one free is) caused
  few_causes cause.Overruled caused = none_was caused.0 (λ asked response. is_decide asked && says_aborted response) (λ one free is. overruled (up one.server) one free is) caused.1
  few_causes cause.HomeDown caused =
      let one = caused.1.one in
      let has = has_from past one caused.1.there in
      let parts = and_parts (is_decide one.request) (says_down one.response) caused.1.is in
      record { one = one; there = has; decide = parts.0; down = downs (up one.server) one (free one has) parts.1 }
  few_causes (cause.Full server) caused = all_served lack.Full server caused
  few_causes cause.Memory caused = all_served lack.Memory caused.0 caused.1

-- all that was told fits
pub free_fit : (up : ℕ → Bool) (past : List Exchange) → AllFree up past → all_fit past ≡ true
free_fit up [] free = refl
free_fit up (one ∷ past) free = ap (λ b. b && all_fit past) (of one.response (free one (inl refl))) ∙ free_fit up past (λ other has. free other (inr has))
  where
    of : (response : Response) → IsFreeResponse (up one.server) one.request response → fits_response one.request response ≡ true
    of response h1 = search arith

-- ---- where all servers are up it does not end undecided

module _ (fixed : Fixed) (c0 : IsValid fixed.service.c0) (before : Agent) (caller : Identity) (site : ℕ) (ops : List Op) (sets : JobGivesValidVotes (Transaction caller site ops)) (told' : List agents.Event)
    (free : AllFree all_up (of_job fixed before (Transaction caller site ops) told')) (caches : AllValid fixed (begin fixed before (Transaction caller site ops)) told') where
  abbrev transaction : Job
  transaction = Transaction caller site ops

  abbrev all_told : List Exchange
  all_told = of_job fixed before transaction told'

  every_held : (suite : ℕ) (mode : LockMode) (rep : Representative) → (has_said all_told suite (holding mode) rep.0 ≡ true) ⊎ (has_said all_told suite refusing rep.0 ≡ true) → has_said all_told suite (holding mode) rep.0 ≡ true
  every_held suite mode rep either = either_held (has_said all_told suite (holding mode) rep.0) (has_said all_told suite refusing rep.0) (nobody_refused all_told suite rep.0 free) either

  begins_valid : (suite : ℕ) (start : Prefix) → IsStart fixed before transaction told' suite start → IsValid start.votes
  begins_valid suite start is =
      subst (λ (prefix : Prefix). IsValid prefix.votes) (sym is.from)
      (start_valid fixed (task_of before is.caller is.site is.ops) (after_all fixed (begin fixed before transaction) is.before).cache suite c0
      (valid_at fixed (begin fixed before transaction) is.before is.later (subst (AllValid fixed (begin fixed before transaction)) is.parts caches)))

  none_short : (suite got needed : ℕ) (busy : Option (ℕ × ℕ)) → IsShort fixed before transaction told' suite got needed busy → ⊥
  none_short suite got needed busy short =
      let all : votes_in short.votes.reps (has_said all_told suite (holding short.mode)) ≡ total_votes short.votes.reps =
      all_votes short.votes.reps (has_said all_told suite (holding short.mode)) (λ rep has some. every_held suite short.mode rep (short.none_left rep (contains_from short.votes.reps rep has) some)) in
      let valid : IsValid short.votes = elim (short.count) [
        | inl is ↦ subst IsValid (sym is.0) (newest_valid short.start (told_of suite [] all_told) (begins_valid suite short.start short.gathered) (told_valid suite [] all_told tt free))
        | inr set ↦ set_votes_valid fixed c0 before transaction sets told' suite short.votes set.1
      ] in
      let some = enough short.mode short.votes valid in
      let had = short.had in
      let wanting = short.wanting in
      let few = short.too_few in
      absurd (omega (arith, some, had, all, wanting, few))

  none_caused : (cause' : Cause) → MayCause fixed all_up before transaction told' cause' → ⊥
  none_caused cause' h1 = search (none_short, false≢true, arith)

pub never_undecided : (fixed : Fixed) → IsValid fixed.service.c0 → (agent : Agent) (asked : ℕ × Request) (said : Reply) (cause : Cause) → next_of fixed agent ≡ Some asked → IsFree true asked.1 said → Since fixed agent
    → HasValidVotes (take fixed agent (Replied said)).agent.cache → (take fixed agent (Replied said)).ending ≡ Some (Undecided cause) → ⊥
never_undecided fixed c0 agent asked said cause next free since cache end' =
    let job = Transaction since.caller since.site since.ops in
    let told' = since.told ++ Take (Replied said) ∷ [] in
    let free' = free_with fixed agent since asked said next free in
    let caches = valid_more fixed (begin fixed since.before job) since.told (Take (Replied said)) since.caches (subst (λ agent. HasValidVotes (take fixed agent (Replied said)).agent.cache) since.is cache) in
    none_caused fixed c0 since.before since.caller since.site since.ops since.sets told' free' caches cause
    (few_causes fixed all_up since.before since.caller since.site since.ops told' free' cause
    (ends_are_caused fixed since.before job since.told (Replied said) cause since.idle (free_fit all_up (of_job fixed since.before job told') free')
    (subst (λ agent. (take fixed agent (Replied said)).ending ≡ Some (Undecided cause)) since.is end')))
