-- The laws of transactions side by side.
use Rattle.law_run_recovers.proofs.Vocabulary.{◌≡◌, ℕ, Bool, true, List, [], ◌∷◌, ◌++◌, append-nil, append_assoc, Option, Some, is_some, Result, refl, sym, ap, subst, ◌∙◌, same_Some, Opening, Answer, Refusal, State, Cause, arith}
use Rattle.law_run_recovers.proofs.Vocabulary.{SideBySideEndByVotesAt, Ending, Undecided, Transaction, home_of, fixed_of, EndedJob, Served, Event, Begin, Step, server_at, actor_at, step, run, table_of, CanBe, Begun, GoSideBySide}
use Rattle.law_run_recovers.proofs.Vocabulary.{GoSideBySideWhileDown, SideBySideEndWhileDownAt, Demand, demands, first_short, ending_by, ending_of, answer_on, EndsThen, is_up, is_running, world_after, GoesUnmet, Always, SideBySideAreDecidedAt}
use Rattle.law_run_recovers.proofs.Vocabulary.{SideBySideAreToldFreelyAt, SideBySideAreUnmetAt, SideBySideEndInTimeAt}
use Rattle.law_run_recovers.proofs.Keeps.{step_asks}
use Rattle.law_run_recovers.proofs.StepsServed.{own_took}
use Rattle.law_run_recovers.proofs.UnmetLaws.{unmet_by_votes}
use Rattle.law_run_recovers.proofs.AmongTime.{unmet_end_in_time}
use Rattle.law_run_recovers.proofs.BesideUnmet.{IsUnmet, then_is, goes_of, ran}
use Rattle.law_run_recovers.proofs.BesideAll.{up_at, as_down, can_of, busy_one, one_runs}
use Rattle.law_run_recovers.proofs.BesideFree.{IsKind, its_kind, not_undecided}
use Rattle.law_run_recovers.proofs.BesideSides.{sides_at}

-- what does not end undecided is answered
answered_as : (ended : Ending) (found : Option Demand) (up : Bool) (answer : Result (List Answer) Refusal) → ((cause : Cause) → ended ≡ Undecided cause → ⊥) → ended ≡ ending_by found up answer → ended ≡ ending_of answer
answered_as ended found up answer h4 h5 = search arith

-- ---- where servers may be down

module _ (given : Opening) (events later : List Event) (go : GoSideBySideWhileDown given events later) (one : Begun given events later) where
  its_unmet : IsUnmet given events one.before one.agent one.t one.caller one.site one.ops one.after
  its_unmet = (sides_at given events later go later [] (sym (append-nil later))).unmet one

  its_can : CanBe given (events ++ (one.before ++ Begin one.agent (Transaction one.caller one.site one.ops) ∷ one.after))
  its_can = can_of given events later go later [] (sym (append-nil later)) one

  abbrev goes : GoesUnmet given (events ++ one.before) one.after one.agent one.t one.caller one.site one.ops its_unmet.actor
  goes = goes_of given events one.before one.agent one.t one.caller one.site one.ops one.after its_unmet its_can

pub side_by_side_are_unmet : Always SideBySideAreUnmetAt
side_by_side_are_unmet given events later go one actor there =
    let unmet = its_unmet given events later go one in
    subst (GoesUnmet given (events ++ one.before) one.after one.agent one.t one.caller one.site one.ops) (same_Some unmet.actor actor (sym unmet.there ∙ there)) (goes given events later go one)

pub side_by_side_end_by_votes : Always SideBySideEndByVotesAt
side_by_side_end_by_votes given events later go one actor there job ends = search (unmet_by_votes, side_by_side_are_unmet, arith)

pub side_by_side_end_while_down : Always SideBySideEndWhileDownAt
side_by_side_end_while_down given events later go one few =
    unmet_end_in_time given (events ++ one.before) one.after one.agent one.t one.caller one.site one.ops (its_unmet given events later go one).actor (goes given events later go one) few

-- ---- where all are up

module _ (given : Opening) (events later : List Event) (side : GoSideBySide given events later) (one : Begun given events later) where
  abbrev unmet_one : IsUnmet given events one.before one.agent one.t one.caller one.site one.ops one.after
  unmet_one = its_unmet given events later (as_down given events later side) one

  abbrev goes_one : GoesUnmet given (events ++ one.before) one.after one.agent one.t one.caller one.site one.ops unmet_one.actor
  goes_one = goes given events later (as_down given events later side) one

  all_up : (so_far rest : List Event) → one.after ≡ so_far ++ rest → (server : ℕ) (st : State) → server_at (world_after given (events ++ one.before) one.agent one.caller one.site one.ops so_far) server ≡ Some st → st.up ≡ true
  all_up so_far rest split server st at =
      let begins = Begin one.agent (Transaction one.caller one.site one.ops) in
      up_at given events later side (one.before ++ begins ∷ so_far) rest
      (one.parts ∙ ap (λ after. one.before ++ begins ∷ after) split ∙ sym (append_assoc one.before (begins ∷ so_far) rest)) server st
      (ap (λ w. server_at w server) (sym (then_is given events one.before one.agent one.t one.caller one.site one.ops so_far)) ∙ at)

  is_decided : (job : EndedJob) → EndsThen given (events ++ one.before) one.after one.agent one.t one.caller one.site one.ops job → job.ending ≡ ending_of (answer_on (table_of given (events ++ one.before)) one.t one.caller one.ops)
  is_decided job ends =
      let by = unmet_by_votes given (events ++ one.before) one.after one.agent one.t one.caller one.site one.ops unmet_one.actor goes_one job ends in
      answered_as job.ending (first_short (demands (fixed_of given) (run given (events ++ one.before)) (table_of given (events ++ one.before)) one.t one.caller one.ops by.start))
      (is_up (run given (events ++ one.before)) (home_of (fixed_of given).service one.t)) (answer_on (table_of given (events ++ one.before)) one.t one.caller one.ops)
      (not_undecided given (events ++ one.before) one.after one.agent one.t one.caller one.site one.ops unmet_one.actor goes_one (λ server. refl) all_up job ends) by.ends

  -- at a step of it
  kind_at : (so_far rest : List Event) → one.after ≡ so_far ++ Step one.agent ∷ rest → is_running (run given (events ++ (one.before ++ Begin one.agent (Transaction one.caller one.site one.ops) ∷ so_far))) one.agent one.t ≡ true
      → (what : Served) → (step (fixed_of given) (run given (events ++ (one.before ++ Begin one.agent (Transaction one.caller one.site one.ops) ∷ so_far)))
      (Step one.agent)).done.served ≡ Some what → IsKind what.request.value what.reply.value
  kind_at so_far rest split running what is =
      let w = then_is given events one.before one.agent one.t one.caller one.site one.ops so_far in
      let c = ran given events one.before one.agent one.t one.caller one.site one.ops one.after unmet_one (its_can given events later (as_down given events later side) one) so_far (Step one.agent ∷ rest) split []
      (ap (λ all. is_running (run given all) one.agent one.t) (append-nil (events ++ (one.before ++ Begin one.agent (Transaction one.caller one.site one.ops) ∷ so_far))) ∙ running) in
      let served = ap (λ w. (step (fixed_of given) w (Step one.agent)).done.served) w ∙ is in
      let took = own_took (fixed_of given) (world_after given (events ++ one.before) one.agent one.caller one.site one.ops so_far) one.agent c.here c.there (ap is_some served) in
      subst (λ (what : Served). IsKind what.request.value what.reply.value) (same_Some _ what (sym took.done ∙ served))
      (its_kind given (events ++ one.before) one.after one.agent one.t one.caller one.site one.ops unmet_one.actor goes_one (λ server. refl) all_up so_far rest split c took)

pub side_by_side_are_decided : Always SideBySideAreDecidedAt
side_by_side_are_decided given events later go one job ends = is_decided given events later go one job ends

pub side_by_side_end_in_time : Always SideBySideEndInTimeAt
side_by_side_end_in_time given events later go one few = side_by_side_end_while_down given events later (as_down given events later go) one few

pub side_by_side_are_told_freely : Always SideBySideAreToldFreelyAt
side_by_side_are_told_freely given events later go before after agent what split is =
    let w = run given (events ++ before) in
    let asks = step_asks (fixed_of given) w agent (actor_at w agent) what is in
    let sides = sides_at given events later (as_down given events later go) before (Step agent ∷ after) split in
    let busy = busy_one given events later (as_down given events later go) before (Step agent ∷ after) split sides agent asks.0 asks.1 (what.server, what.request.value) asks.2 in
    let running = one_runs given events later (as_down given events later go) before (Step agent ∷ after) split sides agent asks.0 asks.1 (what.server, what.request.value) asks.2 in
    let was = busy.one in
    let begins = Begin was.agent (Transaction was.caller was.site was.ops) in
    let parts : later ≡ was.before ++ begins ∷ (was.after ++ Step was.agent ∷ after) =
    split ∙ ap (λ i. before ++ Step i ∷ after) (sym busy.who) ∙ ap (λ xs. xs ++ Step was.agent ∷ after) was.parts ∙ append_assoc was.before (begins ∷ was.after) (Step was.agent ∷ after) in
    let one : Begun given events later = record { before = was.before; after = was.after ++ Step was.agent ∷ after; agent = was.agent; t = was.t; caller = was.caller; site = was.site; ops = was.ops; parts = parts; begins = was.begins } in
    let kind = kind_at given events later go one was.after after refl (ap (λ all. is_running (run given (events ++ all)) was.agent was.t) (sym was.parts) ∙ running) what
    (ap (λ all. (step (fixed_of given) (run given (events ++ all)) (Step was.agent)).done.served) (sym was.parts) ∙ ap (λ i. (step (fixed_of given) (run given (events ++ before)) (Step i)).done.served) busy.who ∙ is) in
    record { busy = kind.busy; down = kind.down; lost = kind.kept }
