-- The votes that a job meets in a run are valid.
use Rattle.law_run_recovers.proofs.Vocabulary.{◌≡◌, inl, inr, ⊎_elim, ℕ, List, [], ◌∷◌, ◌++◌, append_assoc, Option, Some, None, refl, sym, ap, subst, ◌∙◌, arith, Contains, IsValid, Opening, Request, Reply, State, copy_of, reply_of, Has, has_from}
use Rattle.law_run_recovers.proofs.Vocabulary.{Response, Replied, Fixed, Agent, Take, fixed_of, next_of, take, begin, forget, Exchange, exchange_of, exchanges, Event, Begin, Step, Forget, Served, EndedJob, World, Actor, server_at, serve, answered}
use Rattle.law_run_recovers.proofs.Vocabulary.{step, run, ShowsValidVotes, VotesAreValid, has_append, CanBe, front, copy_valid, cache_valid}
use Rattle.law_agents.specs.RunBounds.{told_of, told_at, told_in, EndsInItsTime}
use Rattle.law_agents.proofs.RunBounds.{runs_end_in_time}
use Rattle.law_run_alone.proofs.Exchanged.{TellsValid}
use Rattle.law_run_recovers.specs.InTime.{RunsEndByTheBounds}
use Rattle.txn_core.specs.Agents as agents
use Rattle.run_core.specs.Worlds as worlds
use Rattle.run_core.proofs.Appending as going

-- ---- what a server replies

shows : (said : Reply) → TellsValid said → ShowsValidVotes said
shows said h1 = search arith

pub reply_shows : (st : State) (asked : Request) → ((suite : ℕ) → IsValid (copy_of st.store suite).prefix.votes) → ShowsValidVotes (reply_of st asked)
reply_shows st asked valid = search arith

-- ---- what an agent is told

abbrev pub Shows : agents.Event → Type 0
Shows (Take (Replied said)) = ShowsValidVotes said
Shows other = Unit {0}

abbrev pub AllShow : List agents.Event → Type 0
AllShow [] = Unit {0}
AllShow (one ∷ told) = Shows one × AllShow told

pub show_both : (told more : List agents.Event) → AllShow told → AllShow more → AllShow (told ++ more)
show_both [] more first second = second
show_both (one ∷ told) more first second = (first.0, show_both told more first.1 second)

module _ (given : Opening) (past : List Event) (can : CanBe given past) (world : World) (is : run given past ≡ world) where
  valid_at : (s : ℕ) (st : State) → server_at world s ≡ Some st → (suite : ℕ) → IsValid (copy_of st.store suite).prefix.votes
  valid_at s st at = copy_valid given past can s st (ap (λ world. server_at world s) is ∙ at)

  abbrev ShowsServed : Option Served → Type 0
  ShowsServed (Some what) = ShowsValidVotes what.reply.value
  ShowsServed None = Unit {0}

  served_shows : (i : ℕ) (actor : Actor) (asked : ℕ × Request) (st : State) → server_at world asked.0 ≡ Some st
      → ShowsServed (answered (fixed_of given) world i actor st (serve asked.0 st (record { stamp = actor.stamp; value = asked.1 }))).done.served
  served_shows i actor asked st at = grind (reply_shows, valid_at, arith)

  step_shows : (i : ℕ) → ShowsServed (step (fixed_of given) world (Step i)).done.served
  step_shows i = search (served_shows, arith)

  of_shows : (asked : Option (ℕ × Request)) (served : Option Served) → ShowsServed served → AllShow (told_of world asked served)
  of_shows asked served h2 = search arith

  told_shows : (n : ℕ) (event : Event) → AllShow (told_at (fixed_of given) world n event)
  told_shows n event = search (of_shows, step_shows, arith)

all_told_show : (given : Opening) (past events : List Event) → CanBe given (past ++ events) → (world : World) → run given past ≡ world → (n : ℕ) → AllShow (told_in (fixed_of given) world n events)
all_told_show given past [] can world is n = tt
all_told_show given past (event ∷ events) can world is n =
    show_both (told_at (fixed_of given) world n event) (told_in (fixed_of given) (step (fixed_of given) world event).world n events)
    (told_shows given past (front given past (event ∷ events) can) world is n event)
    (all_told_show given (past ++ event ∷ []) events (subst (CanBe given) (sym (append_assoc past (event ∷ []) events)) can) (step (fixed_of given) world event).world
    (going.after-append (fixed_of given) (worlds.opening given) past (event ∷ []) ∙ ap (λ world. (step (fixed_of given) world event).world) is) n)

-- ---- its exchanges

pub exchanges_show : (fixed : Fixed) (agent : Agent) (told : List agents.Event) → AllShow told → (one : Exchange) (said : Reply) → Has (exchanges fixed agent told) one → one.response ≡ Replied said → ShowsValidVotes said
exchanges_show fixed agent [] show one said has is = absurd has
exchanges_show fixed agent (agents.Forget site ∷ told) show one said has is = exchanges_show fixed (forget agent site) told show.1 one said has is
exchanges_show fixed agent (Take heard ∷ told) show one said has is =
    ⊎_elim (λ first. now (next_of fixed agent) heard show.0 first) (λ rest. exchanges_show fixed (take fixed agent heard).agent told show.1 one said rest is)
    (has_append (exchange_of (next_of fixed agent) heard) (exchanges fixed (take fixed agent heard).agent told) one has)
  where
    now : (asked : Option (ℕ × Request)) (heard : Response) → Shows (Take heard) → Has (exchange_of asked heard) one → ShowsValidVotes said
    now None heard shown has = absurd has
    now (Some asked) heard shown (inl same) = subst (λ heard. Shows (Take heard)) (ap (λ (one : Exchange). one.response) same ∙ is) shown
    now (Some asked) heard shown (inr none) = absurd none

-- ---- the law

valid_in_run : (given : Opening) (events : List Event) (outcome : EndedJob) → CanBe given events → (ends : EndsInItsTime given events outcome) → VotesAreValid (fixed_of given) ends.actor.agent ends.past
valid_in_run given events outcome can ends = record {
  servers = let some = can.accepted.some_servers.0 in omega (arith, some);
  opening = record { known = can.accepted.known_servers; valid = can.c0 };
  cached = cache_valid given ends.before can_before outcome.agent ends.actor ends.there;
  replied = λ one said there is.
      exchanges_show (fixed_of given) (begin (fixed_of given) ends.actor.agent ends.job) (ends.told ++ Take ends.heard ∷ []) told_show one said (has_from _ one (subst (λ past. Contains past one) ends.past_is there)) is;
}
  where
    mine : List Event
    mine = Begin outcome.agent ends.job ∷ ends.between ++ ends.last ∷ []

    parts : events ≡ (ends.before ++ mine) ++ ends.later
    parts = search (append_assoc, front, arith)

    can_mine : CanBe given (ends.before ++ mine)
    can_mine = front given (ends.before ++ mine) ends.later (subst (CanBe given) parts can)

    can_before : CanBe given ends.before
    can_before = front given ends.before mine can_mine

    told_show : AllShow (ends.told ++ Take ends.heard ∷ [])
    told_show = subst AllShow ends.told_is (all_told_show given ends.before mine can_mine (run given ends.before) refl outcome.agent)

pub runs_end_by_the_bounds : RunsEndByTheBounds
runs_end_by_the_bounds given events can outcome there =
    let ends = runs_end_in_time given events outcome there in
    let valid = valid_in_run given events outcome can ends in
    record {
      ends = ends;
      valid = valid;
      transaction = λ caller site ops servers suites job all names. ends.transaction caller site ops servers suites job (ends.known servers valid all) names;
      sweep = ends.sweep;
    }
