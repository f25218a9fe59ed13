-- As long as one transaction alone has a job and all servers are up, nothing is in its way.
use Rattle.law_run_alone.proofs.Vocabulary.{◌≡◌, ◌≢◌, inl, inr, ⊎_elim, ℕ, zero, suc, true, false, cond, List, [], ◌∷◌, Option, Some, None, refl, sym, ap, subst, ◌∙◌, arith, ◌==◌, not, length, slice_get, cons_option, and_parts, eqb-true, none-some}
use Rattle.law_run_alone.proofs.Vocabulary.{same_Some, Identity, Opening, Op, Lock, Request, Stamped, is_busy, is_down, State, is_full, answer_of, Has, all_at, Job, Transaction, Fixed, fixed_of, next_in, next_of, begin, Event, Begin, Step, Served}
use Rattle.law_run_alone.proofs.Vocabulary.{EndedJob, Actor, World, server_at, actor_at, serve, answered, becomes, asks_at, asks, steps_once, step, after, run, Decided, decisions, begins_now, ended, same_or, Holds, event_holds, puts_in, holds_of}
use Rattle.law_run_alone.proofs.Vocabulary.{all_idle, begins_job, jobs_from, all_up, no_locks, is_crash, none_crashes, NothingIsInTheWay}
use Rattle.law_run_alone.proofs.Own.{AreOwn, not_busy, not_down}
use Rattle.law_run_alone.proofs.Turns.{doing_of, doing_at, with_job, all_none}
use Rattle.law_run_alone.proofs.Owns.{IsMine, Owns, IsCalm, polls_named, names_mine, event_owns, begun_owns}
use Rattle.law_run_alone.proofs.Walks.{none_begins, event_doing}

-- all servers are up, and its agent alone has a job
pub record Clear (world : World) (t turn : ℕ) : Type 0 where
  pub alone : (i : ℕ) → i ≢ turn → doing_at world i ≡ None
  pub owns : Owns (λ s. true) world t turn

-- a reply is neither Busy nor Down
abbrev pub IsFree : Option Served → Type 0
IsFree (Some what) = (is_busy what.reply.value ≡ false) × (is_down what.reply.value ≡ false)
IsFree None = Unit {0}

module _ (given : Opening) (t turn : ℕ) (world : World) (ds : List Decided) (past : List EndedJob) (holds : Holds (fixed_of given) world ds past) (clear : Clear world t turn) where
  abbrev fixed : Fixed
  fixed = fixed_of given

  -- only its agent asks anything
  pub is_turn : (i : ℕ) (actor : Actor) (asked : ℕ × Request) → actor_at world i ≡ Some actor → next_of fixed actor.agent ≡ Some asked → i ≡ turn
  is_turn i actor asked is next = ⊎_elim (λ at. at) (λ apart. absurd (none-some asked (sym (ap (next_in fixed) (sym (ap doing_of is) ∙ clear.alone i apart)) ∙ next))) (same_or i turn)

  pub is_mine : (i : ℕ) (actor : Actor) (asked : ℕ × Request) → actor_at world i ≡ Some actor → next_of fixed actor.agent ≡ Some asked → IsMine t actor.agent.doing
  is_mine i actor asked is next = subst (IsMine t) (ap (doing_at world) (sym (is_turn i actor asked is next)) ∙ ap doing_of is) clear.owns.mine

  -- an event in which no server crashes and no job begins is calm
  pub is_calm : (event : Event) → is_crash event ≡ false → begins_job given world event ≡ None → IsCalm given (λ s. true) turn world event
  is_calm event h1 h2 = search arith

  pub event_clear : (event : Event) → is_crash event ≡ false → begins_job given world event ≡ None → Clear (step fixed world event).world t turn
  event_clear event other none = record {
    alone = λ j apart. event_doing given (λ doing. doing ≡ None) j world
        (λ actor asked response is next. absurd (none-some asked (sym (ap (next_in fixed) (sym (ap doing_of is) ∙ clear.alone j apart)) ∙ next))) (clear.alone j apart) event (none_begins given j world event none);
    owns = event_owns given (λ s. true) t turn world ds past holds clear.owns event (is_calm event other none);
  }

  -- ---- what is replied

  pub replies_free : (i : ℕ) → IsFree (step fixed world (Step i)).done.served
  replies_free i = of (actor_at world i) refl
    where
      served_free : (actor : Actor) (asked : ℕ × Request) (st : State) → actor_at world i ≡ Some actor → next_of fixed actor.agent ≡ Some asked → server_at world asked.0 ≡ Some st
          → IsFree (answered fixed world i actor st (serve asked.0 st (record { stamp = actor.stamp; value = asked.1 }))).done.served
      served_free actor asked st is next at =
          let stamped : Stamped Request = record { stamp = actor.stamp; value = asked.1 } in
          let was = clear.owns.servers asked.0 st at in
          let named = names_mine fixed t actor.agent.doing asked (is_mine i actor asked is next) next in
          elim (is_full st stamped) as (λ b. IsFree (answered fixed world i actor st (cond b None (Some (record { server = asked.0; request = stamped; reply = answer_of st stamped })))).done.served) [
            | true ↦ tt
            | false ↦ (not_busy t st asked.1 was.0 (polls_named t asked.1 named) was.1, not_down st asked.1 was.0)
          ]

      at : (actor : Actor) (asked : ℕ × Request) → actor_at world i ≡ Some actor → next_of fixed actor.agent ≡ Some asked → (st : Option State) → server_at world asked.0 ≡ st → IsFree (asks_at fixed world i actor asked st).done.served
      at actor asked h2 h3 st h5 = search (served_free, arith)

      asking : (actor : Actor) → actor_at world i ≡ Some actor → (asked : Option (ℕ × Request)) → next_of fixed actor.agent ≡ asked → IsFree (asks fixed world i actor asked).done.served
      asking actor is None next = tt
      asking actor is (Some asked) next = at actor asked is next (server_at world asked.0) refl

      of : (found : Option Actor) → actor_at world i ≡ found → IsFree (steps_once fixed world i found).done.served
      of found h1 = search (asking, arith)

-- ---- from the begin on

-- none is begun now, and none later
pub none_now : (begun : Option (ℕ × Job)) (later : List (ℕ × Job)) → cons_option begun later ≡ [] → (begun ≡ None) × (later ≡ [])
none_now begun later h2 = search arith

pub crash_not : (event : Event) → not (is_crash event) ≡ true → is_crash event ≡ false
crash_not event h1 = search arith

run_clear : (given : Opening) (t turn : ℕ) (later : List Event) (world : World) (ds : List Decided) (past : List EndedJob) → Holds (fixed_of given) world ds past
    → Clear world t turn → none_crashes later ≡ true → jobs_from given world later ≡ []
    → (i : ℕ) → IsFree (step (fixed_of given) (after (fixed_of given) world later) (Step i)).done.served
run_clear given t turn [] world ds past holds clear crashes none i = replies_free given t turn world ds past holds clear i
run_clear given t turn (event ∷ later) world ds past holds clear crashes none i =
    let next = (step (fixed_of given) world event).world in
    let parts = and_parts (not (is_crash event)) (none_crashes later) crashes in
    let now = none_now (begins_job given world event) (jobs_from given next later) none in
    run_clear given t turn later next _ _ (event_holds (fixed_of given) world event ds past holds) (event_clear given t turn world ds past holds clear event (crash_not event parts.0) now.0) parts.1 now.1 i

-- ---- where it begins

pub at_has : {X : Type 0} (xs : List X) (i : ℕ) (x : X) → slice_get xs i ≡ Some x → Has xs x
at_has [] i x is = absurd (none-some x is)
at_has (y ∷ ys) zero x is = inl (same_Some y x is)
at_has (y ∷ ys) (suc i) x is = inr (at_has ys i x is)

pub none_own : (t : ℕ) (locks : List Lock) → (length locks == 0) ≡ true → AreOwn t locks
none_own t [] is lock has = absurd has
none_own t (first ∷ locks) is lock has = let none : suc (length locks) ≡ 0 = eqb-true (suc (length locks)) 0 is in absurd (omega (arith, none))

pub clear_servers : (t : ℕ) (world : World) → all_up world ≡ true → no_locks world ≡ true → (s : ℕ) (st : State) → server_at world s ≡ Some st → (st.up ≡ true) × AreOwn t st.locks
clear_servers t world up locks s st at =
    let has = at_has world.servers s st at in
    (all_at (λ (st : State). st.up) world.servers st up has, none_own t st.locks (all_at (λ (st : State). length st.locks == 0) world.servers st locks has))

-- nobody else begins anything
begun_alone : (given : Opening) (world : World) (i : ℕ) (job : Job) → all_idle world ≡ true → (found : Option Actor) → actor_at world i ≡ found → (j : ℕ) → j ≢ i
    → doing_at (becomes world i (λ agent. begin (fixed_of given) agent job) found).world j ≡ None
begun_alone given world i job idle None is j apart = all_none world.agents idle j
begun_alone given world i job idle (Some actor) is j apart = ap doing_of ((puts_in world.agents i actor (record actor { agent = begin (fixed_of given) actor.agent job }) is).apart j apart) ∙ all_none world.agents idle j

pub begun_clear : (given : Opening) (world : World) (ds : List Decided) (past : List EndedJob) → Holds (fixed_of given) world ds past
    → (i t : ℕ) (caller : Identity) (site : ℕ) (ops : List Op) → all_idle world ≡ true → all_up world ≡ true → no_locks world ≡ true
    → (found : Option Actor) → actor_at world i ≡ found → with_job (Transaction caller site ops) (begins_now (fixed_of given) i (Transaction caller site ops) found) ≡ Some (t, Transaction caller site ops)
    → Clear (becomes world i (λ agent. begin (fixed_of given) agent (Transaction caller site ops)) found).world t i
begun_clear given world ds past holds i t caller site ops idle up locks found is begins = record {
  alone = begun_alone given world i (Transaction caller site ops) idle found is;
  owns = begun_owns given (λ s. true) world ds past holds i t caller site ops (clear_servers t world up locks) found is begins;
}

free_served : (found : Option Served) (what : Served) → found ≡ Some what → IsFree found → (is_busy what.reply.value ≡ false) × (is_down what.reply.value ≡ false)
free_served found what h2 h3 = search arith

pub nothing_is_in_the_way : NothingIsInTheWay
nothing_is_in_the_way given accepted events later agent t caller site ops begins idle up locks crashes none other what is =
    let world = run given events in
    let event = Begin agent (Transaction caller site ops) in
    let holds = holds_of given accepted events in
    free_served _ what is
    (run_clear given t agent later (step (fixed_of given) world event).world _ _ (event_holds (fixed_of given) world event (decisions given events) (ended given events) holds)
    (begun_clear given world (decisions given events) (ended given events) holds agent t caller site ops idle up locks (actor_at world agent) refl begins) crashes none other)
