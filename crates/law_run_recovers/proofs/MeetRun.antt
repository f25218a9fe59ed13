-- A transaction that begins in a calm run goes quietly: nobody hinders or robs it, servers stay up and show what they showed of what it asks for, and it never asks to be decided.
use Rattle.law_run_recovers.proofs.Vocabulary.{Bool, List, None, Option, Some, [], ap, append-nil, append_assoc, arith, false, is_some, not, refl, subst, sym, true, ℕ, ◌%◌, ◌&&◌, ◌++◌, ◌==◌, ◌||◌, ◌∙◌, ◌∷◌, ◌≡◌, eq-eqb, eqb-true, false≢true}
use Rattle.law_run_recovers.proofs.Vocabulary.{nat_tests, same_Some, undecided, CanBe, decides, IsNotDecided, names, contains_from, reply_of, State, record_of, copy_of, Request, Decided, answer_in, decided, decided_as, decided_at, decided_by}
use Rattle.law_run_recovers.proofs.Vocabulary.{decisions, task_at, task_of, to_decide, run, table_of, Actor, World, actor_at, server_at, step, Served, Event, Begin, Step, next, Opening, Replica, fixed_of, next_in, next_of, Doing, Running, ◌*◌, ◌+◌}
use Rattle.law_run_recovers.proofs.Vocabulary.{◌<◌, agent_of, answers_follow_knowledge, holds_of, names_mine, Task, is_decide, decision_of, Transaction, Begun, row_of, is_up, shown_at, shown_in, up_in, bereaves, hinders_itself, is_running, of_up}
use Rattle.law_run_recovers.proofs.Vocabulary.{robs, running_in, runs, takes, world_after, upsets}
use Rattle.rep_core.specs.declared.request.Request.TheVariants as request
use Rattle.txn_core.specs.Doing as doing
use Rattle.law_run_recovers.proofs.BesideUnmet.{then_is, begins_there}
use Rattle.law_run_recovers.proofs.AtWork.{mine_where}
use Rattle.law_run_recovers.proofs.Busy.{asks_busy}
use Rattle.law_run_recovers.proofs.Keeps.{IsAtWork, last_of, step_asks}
use Rattle.law_run_recovers.proofs.Polled.{dver_in, dver_at}
use Rattle.law_run_recovers.proofs.Rows.{start_was}
use Rattle.law_run_recovers.proofs.Sides.{names_one, takes_named, its_agent, up_same}
use Rattle.law_run_recovers.proofs.StepsServed.{OwnTook, own_took}
use Rattle.law_run_recovers.proofs.Unrobbed.{unrecorded_at}
use Rattle.law_run_recovers.proofs.MeetCalm.{Calm, Ours, accepted, can_at, up_at, some_run, decided_has}
use Rattle.law_run_recovers.proofs.MeetQuiet.{GoesQuietly}

-- a number that is the last of an agent has it as its rest
pub rest_of_last : (t count i : ℕ) → t + 64 ≡ 64 * count + i → i < 64 → t % 64 ≡ i
rest_of_last t count i h3 h4 = search arith

all_none : (a b c : Bool) → a ≡ false → b ≡ false → c ≡ false → (a || (b || c)) ≡ false
all_none a b c one two three = grind (arith, nat_tests)

first_not : (a b c : Bool) → a ≡ true → (not a && b && c) ≡ false
first_not a b c h3 = search arith

last_not : (a b c : Bool) → c ≡ false → (a && b && c) ≡ false
last_not a b c is = grind (arith, nat_tests)

module _ (given : Opening) (events later : List Event) {still : ℕ → Type 0} (calm : Calm given events later still) (one : Begun given events later) where
  abbrev pub begins_event : Event
  begins_event = Begin one.agent (Transaction one.caller one.site one.ops)

  abbrev pub then_at : List Event → World
  then_at so_far = world_after given (events ++ one.before) one.agent one.caller one.site one.ops so_far

  pub its_actor : (actor : Actor) × (actor_at (run given (events ++ one.before)) one.agent ≡ Some actor)
  its_actor = begins_there given (run given (events ++ one.before)) one.agent one.t (Transaction one.caller one.site one.ops) one.begins

  -- its moments are moments of the run
  pub run_is : (so_far : List Event) → world_after given (events ++ one.before) one.agent one.caller one.site one.ops so_far ≡ run given (events ++ (one.before ++ Begin one.agent (Transaction one.caller one.site one.ops) ∷ so_far))
  run_is so_far = then_is given events one.before one.agent one.t one.caller one.site one.ops so_far

  pub part : (so_far rest : List Event) → one.after ≡ so_far ++ rest → later ≡ (one.before ++ Begin one.agent (Transaction one.caller one.site one.ops) ∷ so_far) ++ rest
  part so_far rest split = one.parts ∙ ap (λ after. one.before ++ begins_event ∷ after) split ∙ sym (append_assoc one.before (begins_event ∷ so_far) rest)

  can_all : CanBe given ((events ++ one.before) ++ Begin one.agent (Transaction one.caller one.site one.ops) ∷ one.after)
  can_all = subst (CanBe given) (ap (λ later. events ++ later) one.parts ∙ sym (append_assoc events one.before (begins_event ∷ one.after))) calm.fair.can

  -- ---- nobody hinders or robs it

  module _ (so_far rest : List Event) (event : Event) (split : one.after ≡ so_far ++ event ∷ rest) where
    abbrev front : List Event
    front = one.before ++ Begin one.agent (Transaction one.caller one.site one.ops) ∷ so_far

    abbrev w : World
    w = run given (events ++ front)

    quiet : upsets given (run given (events ++ front)) event ≡ false
    quiet = calm.fair.even front rest event (part so_far (event ∷ rest) split)

    named_not : (i : ℕ) → (i == one.agent) ≡ false → (what : Served) → (step (fixed_of given) (run given (events ++ front)) (Step i)).done.served ≡ Some what → names one.t what.request.value ≡ true → ⊥
    named_not i apart what served named =
        let asks = step_asks (fixed_of given) w i (actor_at w i) what served in
        let busy = some_run given events later calm.fair front (event ∷ rest) (part so_far (event ∷ rest) split) i asks.0 asks.1 (asks_busy given asks.0.agent (what.server, what.request.value) asks.2) in
        let mine = names_mine (fixed_of given) busy.0 asks.0.agent.doing (what.server, what.request.value) (mine_where busy.0 asks.0.agent.doing busy.1) asks.2 in
        let same = names_one one.t busy.0 what.request.value named mine in
        let last = last_of (decisions given (events ++ front)) i asks.0.agent.count busy.0 asks.0.agent.doing
        ((holds_of given calm.fair.can.accepted (events ++ front)).agents.at i asks.0.agent (ap agent_of asks.1)) busy.1 in
        let small = (holds_of given calm.fair.can.accepted (events ++ front)).agents.small i asks.0.agent (ap agent_of asks.1) in
        let its = its_agent given calm.fair.can.accepted (events ++ one.before) one.agent one.t (Transaction one.caller one.site one.ops) one.begins in
        false≢true (sym apart ∙ eq-eqb i one.agent (sym (rest_of_last busy.0 asks.0.agent.count i last small) ∙ ap (λ t. t % 64) (sym same) ∙ its))

    not_robbed : (i : ℕ) → (i == one.agent) ≡ false → of_up (takes one.t) (run given (events ++ front)) (step (fixed_of given) (run given (events ++ front)) (Step i)).done.served ≡ false
    not_robbed i apart = search (named_not, takes_named, arith)

    robbed_not : (event : Event) → robs given one.agent one.t (run given (events ++ front)) event ≡ false
    robbed_not event = search (first_not, last_not, not_robbed, arith)

    none_crashes : (event : Event) → upsets given (run given (events ++ front)) event ≡ false → bereaves given one.agent one.t (run given (events ++ front)) event ≡ false
    none_crashes event h1 = search arith

  module _ (ours : Ours given events later still one) where
    pub spared : (so_far rest : List Event) (event : Event) → one.after ≡ so_far ++ event ∷ rest → IsAtWork (then_at so_far) one.agent one.t
        → (hinders_itself given one.agent (then_at so_far) event || (robs given one.agent one.t (then_at so_far) event || bereaves given one.agent one.t (then_at so_far) event)) ≡ false
    spared so_far rest event split work =
        let front = one.before ++ begins_event ∷ so_far in
        let w = run given (events ++ front) in
        subst (λ w. (hinders_itself given one.agent w event || (robs given one.agent one.t w event || bereaves given one.agent one.t w event)) ≡ false) (sym (run_is so_far))
        (all_none (hinders_itself given one.agent w event) (robs given one.agent one.t w event) (bereaves given one.agent one.t w event)
        (ours.served front rest event (part so_far (event ∷ rest) split) (ap (λ w. is_running w one.agent one.t) (sym (run_is so_far)) ∙ work.running))
        (robbed_not so_far rest event split event) (none_crashes so_far rest event split event (quiet so_far rest event split)))

  -- ---- servers

  module _ (so_far rest : List Event) (split : one.after ≡ so_far ++ rest) (server : ℕ) (st : State) (at : server_at (world_after given (events ++ one.before) one.agent one.caller one.site one.ops so_far) server ≡ Some st) where
    at_run : server_at (run given (events ++ (one.before ++ Begin one.agent (Transaction one.caller one.site one.ops) ∷ so_far))) server ≡ Some st
    at_run = ap (λ w. server_at w server) (sym (run_is so_far)) ∙ at

    up_now : st.up ≡ true
    up_now = up_at given events later calm.fair (one.before ++ begins_event ∷ so_far) rest (part so_far rest split) server st at_run

    up_first : is_up (run given events) server ≡ true
    up_first =
        sym (up_same given (accepted given events later calm.fair) (events ++ (one.before ++ begins_event ∷ so_far)) events (up_at given events later calm.fair (one.before ++ begins_event ∷ so_far) rest (part so_far rest split))
        (subst (λ all. (s : ℕ) (st : State) → server_at (run given all) s ≡ Some st → st.up ≡ true) (append-nil events) (up_at given events later calm.fair [] later refl)) server)
        ∙ ap up_in at_run ∙ up_now

    shows_same : (z : ℕ) → still z → ((copy_of st.store z).prefix ≡ shown_at (fixed_of given) (run given events) z server) × ((copy_of st.store z).dver ≡ dver_at (run given events) z server)
    shows_same z kept = of (server_at (run given events) server) refl up_first
      where
        of : (found : Option State) → server_at (run given events) server ≡ found → up_in found ≡ true → ((copy_of st.store z).prefix ≡ shown_in (fixed_of given) found z) × ((copy_of st.store z).dver ≡ dver_in found z)
        of None was up = absurd (false≢true up)
        of (Some old) was up =
            let same = calm.stored (one.before ++ begins_event ∷ so_far) rest (part so_far rest split) z kept server st at_run old was in
            (ap (λ (copy : Replica). copy.prefix) same, ap (λ (copy : Replica). copy.dver) same)

  -- ---- so it goes quietly

  pub goes_of : Ours given events later still one → GoesQuietly given events (events ++ one.before) one.after one.agent one.t one.caller one.site one.ops its_actor.0
  goes_of ours = record {
    can = can_all;
    can_base = subst (CanBe given) (append-nil events) (can_at given events later calm.fair [] later refl);
    answers = λ z has. calm.answers z (ours.asks z has);
    there = its_actor.1;
    begins = one.begins;
    spared = spared ours;
    up = λ so_far rest split server st at. (up_now so_far rest split server st at, up_first so_far rest split server st at);
    stored = λ so_far rest split server st at z has. shows_same so_far rest split server st at z (ours.asks z has);
    tables = λ so_far rest split z has.
        ap (λ all. row_of (table_of given all).rows z) (append_assoc events one.before (begins_event ∷ so_far)) ∙ calm.rows (one.before ++ begins_event ∷ so_far) rest (part so_far rest split) z (ours.asks z has);
    starts = λ z start has may.
        calm.was one.before (begins_event ∷ one.after) one.parts z (ours.asks z has) start
        (start_was given (events ++ one.before) (can_at given events later calm.fair one.before (begins_event ∷ one.after) one.parts) z one.agent one.site its_actor.0 start its_actor.1 may);
  }

  -- ---- it never asks to be decided: it would be

  first_decides : (st : State) (task : Task) (outcome : doing.Proposal) → st.up ≡ true → record_of st task.t ≡ None
      → is_some (decided_at (Some st) (to_decide (request.Decide task.t (decision_of task outcome))) (decided_as (Some task) (answer_in (reply_of st (request.Decide task.t (decision_of task outcome)))))) ≡ true
  first_decides st task outcome up none = search arith

  pub never_decides : Ours given events later still one → IsNotDecided (decisions given (events ++ later)) one.t → (so_far rest : List Event) → one.after ≡ so_far ++ Step one.agent ∷ rest → IsAtWork (world_after given (events ++ one.before) one.agent one.caller one.site one.ops so_far) one.agent one.t → (here : Actor)
      → actor_at (world_after given (events ++ one.before) one.agent one.caller one.site one.ops so_far) one.agent ≡ Some here → (asked : ℕ × Request) → next_of (fixed_of given) here.agent ≡ Some asked → is_decide asked.1 ≡ false
  never_decides ours undecided so_far rest split work here there asked next = of (is_decide asked.1) refl
    where
      w : World
      w = then_at so_far

      runs_here : runs one.t here.agent.doing ≡ true
      runs_here = ap (running_in one.t) (sym there) ∙ work.running

      none_now : decided (fixed_of given) (then_at so_far) (Step one.agent) ≡ None
      none_now = ap (λ w. decided (fixed_of given) w (Step one.agent)) (run_is so_far) ∙ none (decided (fixed_of given) (run given (events ++ (one.before ++ begins_event ∷ so_far))) (Step one.agent)) refl
        where
          same_step : (a b : ℕ) → Step a ≡ Step b → a ≡ b
          same_step a b is = cc

          none : (found : Option Decided) → decided (fixed_of given) (run given (events ++ (one.before ++ begins_event ∷ so_far))) (Step one.agent) ≡ found → found ≡ None
          none None is = refl
          none (Some d) is =
              let cut = part so_far (Step one.agent ∷ rest) split in
              let so = answers_follow_knowledge given (events ++ (one.before ++ begins_event ∷ so_far)) (Step one.agent) d is in
              let same = same_Some so.actor here (sym so.there ∙ ap (actor_at (run given (events ++ (one.before ++ begins_event ∷ so_far)))) (same_step so.number one.agent (sym so.step)) ∙ ap (λ w. actor_at w one.agent) (sym (run_is so_far)) ∙ there) in
              let number = eqb-true so.txn_run.task.t one.t (ap (runs one.t) (sym so.running) ∙ ap (λ (a : Actor). runs one.t a.agent.doing) same ∙ runs_here) in
              absurd (undecided d (contains_from (decisions given (events ++ later)) d (decided_has given events later calm.fair (one.before ++ begins_event ∷ so_far) rest (Step one.agent) cut d is)) (so.t ∙ number))

      served_so : is_some (step (fixed_of given) (then_at so_far) (Step one.agent)).done.served ≡ true
      served_so = hindered (is_some (step (fixed_of given) w (Step one.agent)).done.served) (robs given one.agent one.t w (Step one.agent)) (bereaves given one.agent one.t w (Step one.agent))
          (subst
          (λ b. ((b && not (is_some (step (fixed_of given) w (Step one.agent)).done.served))
          || (robs given one.agent one.t w (Step one.agent) || bereaves given one.agent one.t w (Step one.agent))) ≡ false) (eq-eqb one.agent one.agent refl)
          (spared ours so_far rest (Step one.agent) split work))
        where
          hindered : (s r b : Bool) → ((true && not s) || (r || b)) ≡ false → s ≡ true
          hindered s r b is = grind (arith, nat_tests)

      took : OwnTook (fixed_of given) (then_at so_far) one.agent here there (step (fixed_of given) (then_at so_far) (Step one.agent))
      took = own_took (fixed_of given) w one.agent here there served_so

      same : took.asked ≡ asked
      same = same_Some took.asked asked (sym took.next ∙ next)

      by : (doing : Option Doing) → here.agent.doing ≡ doing → next_in (fixed_of given) doing ≡ Some asked → runs one.t doing ≡ true → is_decide asked.1 ≡ true → ⊥
      by (Some (Running txn_run)) at next running decide =
          let d = decides (fixed_of given) txn_run.task txn_run.suites txn_run.phase asked.0 asked.1 next decide in
          let value : took.asked.1 ≡ request.Decide txn_run.task.t (decision_of txn_run.task d.outcome) = ap (λ (asked : ℕ × Request). asked.1) same ∙ d.decide in
          let number = eqb-true txn_run.task.t one.t running in
          let none = ap (record_of took.st) number
          ∙ unrecorded_at given (events ++ one.before) one.after one.agent one.t one.caller one.site one.ops its_actor.0 can_all its_actor.1 one.begins (spared ours) so_far (Step one.agent ∷ rest) split work took.asked.0 took.st took.at in
          false≢true (ap is_some (sym none_now)
          ∙ ap (λ served. is_some (decided_by w (task_at (actor_at w one.agent)) served)) took.done
          ∙ ap (λ found. is_some (decided_at (server_at w took.asked.0) (to_decide took.asked.1) (decided_as (task_at found) (answer_in (reply_of took.st took.asked.1))))) there
          ∙ ap (λ doing. is_some (decided_at (server_at w took.asked.0) (to_decide took.asked.1) (decided_as (task_of doing) (answer_in (reply_of took.st took.asked.1))))) at
          ∙ ap (λ found. is_some (decided_at found (to_decide took.asked.1) (decided_as (Some txn_run.task) (answer_in (reply_of took.st took.asked.1))))) took.at
          ∙ ap (λ value. is_some (decided_at (Some took.st) (to_decide value) (decided_as (Some txn_run.task) (answer_in (reply_of took.st value))))) value
          ∙ first_decides took.st txn_run.task d.outcome (up_now so_far (Step one.agent ∷ rest) split took.asked.0 took.st took.at) none)
      by other at next running decide = false≢true running

      of : (b : Bool) → is_decide asked.1 ≡ b → b ≡ false
      of false is = refl
      of true is = absurd (by here.agent.doing refl next runs_here is)
