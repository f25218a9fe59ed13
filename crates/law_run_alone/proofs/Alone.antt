-- What holds of every run in which jobs go one at a time.
use Rattle.law_run_alone.proofs.Vocabulary.{◌≡◌, ◌≢◌, ℕ, true, List, [], ◌∷◌, ◌++◌, append_assoc, Option, Some, None, refl, sym, ap, subst, ◌∙◌, map, option_to_list, cons_option, and_parts, Opening, IsAccepted, Job, Doing, Agent, arith, fixed_of}
use Rattle.law_run_alone.proofs.Vocabulary.{Event, EndedJob, Actor, World, opening, actor_at, step, after, dones, outcomes, run, Decided, decided, decisions, decisions_from, ended, Holds, agent_of, event_holds, cons_is, holds_at_first, fresh_agents}
use Rattle.law_run_alone.proofs.Vocabulary.{begins_job, begins_alone, jobs_from, jobs_of, one_at_a_time_from, one_at_a_time, decided_ending, decided_endings, append-nil}
use Rattle.std.proofs.lemmas.List.{map-append}
use Rattle.std.proofs.lemmas.List.Elements.{filter_map-append}
use Rattle.law_run_alone.proofs.Verdicts.{Asked, asked_of, answer_to, answered, undecided}
use Rattle.law_run_alone.proofs.Along.{Along, along_more, along_less}
use Rattle.law_run_alone.proofs.Turns.{doing_of, doing_at, transactions_of, transaction_in, Goes, event_goes}

-- One agent at most has a job. What was decided has ended, or is still to be told by that agent; and what was decided, with the transaction that it
-- runs where that is not, stands along what was begun.
pub record Orderly (world : World) (ds : List Decided) (past : List EndedJob) (jobs : List (ℕ × Job)) : Type 0 where
  pub turn : ℕ
  pub alone : (i : ℕ) → i ≢ turn → doing_at world i ≡ None
  pub listed : map answer_to ds ≡ decided_endings past ++ answered (doing_at world turn)
  pub along : Along (map asked_of ds ++ undecided (doing_at world turn)) (transactions_of jobs)

joined : {X : Type 0} (xs : List X) (one : Option X) (ys : List X) → (xs ++ option_to_list one) ++ ys ≡ xs ++ cons_option one ys
joined xs one ys = append_assoc xs (option_to_list one) ys ∙ ap (λ rest. xs ++ rest) (cons_is one ys)

goes_on : (world new : World) (ds : List Decided) (past : List EndedJob) (jobs : List (ℕ × Job)) (orderly : Orderly world ds past jobs) (d : Option Decided)
    (outcome : Option EndedJob) (begun : Option (ℕ × Job)) → Goes world orderly.turn new d outcome begun
    → Orderly new (ds ++ option_to_list d) (past ++ option_to_list outcome) (jobs ++ option_to_list begun)
goes_on world new ds past jobs orderly d outcome begun goes = record {
  turn = goes.next;
  alone = goes.alone;
  listed =
      map-append answer_to ds (option_to_list d)
      ∙ ap (λ all. all ++ map answer_to (option_to_list d)) orderly.listed
      ∙ append_assoc (decided_endings past) (answered old) (map answer_to (option_to_list d))
      ∙ ap (λ more. decided_endings past ++ more) goes.answers
      ∙ sym (append_assoc (decided_endings past) (decided_endings (option_to_list outcome)) (answered (doing_at new goes.next)))
      ∙ ap (λ all. all ++ answered (doing_at new goes.next)) (sym (filter_map-append decided_ending past (option_to_list outcome)));
  along = subst (Along (map asked_of (ds ++ option_to_list d) ++ undecided (doing_at new goes.next))) (sym (filter_map-append transaction_in jobs (option_to_list begun))) now;
}
  where
    old : Option Doing
    old = doing_at world orderly.turn

    all : List Asked
    all = transactions_of jobs ++ transactions_of (option_to_list begun)

    with_more : Along ((map asked_of (ds ++ option_to_list d)) ++ goes.more) all
    with_more =
        subst (λ some. Along some all)
        (append_assoc (map asked_of ds) (undecided (doing_at world orderly.turn)) (transactions_of (option_to_list begun))
        ∙ ap (λ more. map asked_of ds ++ more) (sym goes.parts)
        ∙ sym (append_assoc (map asked_of ds) (map asked_of (option_to_list d)) goes.more)
        ∙ ap (λ some. some ++ goes.more) (sym (map-append asked_of ds (option_to_list d))))
        (along_more (map asked_of ds ++ undecided (doing_at world orderly.turn)) (transactions_of jobs) (transactions_of (option_to_list begun)) orderly.along)

    now : Along (map asked_of (ds ++ option_to_list d) ++ undecided (doing_at new goes.next)) all
    now = search (asked_of, option_to_list, all, with_more, append-nil, along_less, arith)

run_orderly : (given : Opening) (events : List Event) (world : World) (ds : List Decided) (past : List EndedJob) (jobs : List (ℕ × Job)) → Holds (fixed_of given) world ds past
    → Orderly world ds past jobs → one_at_a_time_from given world events ≡ true
    → Orderly (after (fixed_of given) world events) (ds ++ decisions_from (fixed_of given) world events) (past ++ outcomes (dones (fixed_of given) world events)) (jobs ++ jobs_from given world events)
run_orderly given [] world ds past jobs holds orderly alone = search (append-nil, arith)
run_orderly given (event ∷ events) world ds past jobs holds orderly alone =
    let fixed = fixed_of given in
    let next = step fixed world event in
    let parts = and_parts (begins_alone given world event) (one_at_a_time_from given next.world events) alone in
    let ds' = ds ++ option_to_list (decided fixed world event) in
    let past' = past ++ option_to_list next.done.outcome in
    let jobs' = jobs ++ option_to_list (begins_job given world event) in
    let rest = run_orderly given events next.world ds' past' jobs' (event_holds fixed world event ds past holds)
    (goes_on world next.world ds past jobs orderly (decided fixed world event) next.done.outcome (begins_job given world event) (event_goes given world ds past holds orderly.turn orderly.alone event parts.0)) parts.1 in
    subst (λ ds. Orderly (after fixed next.world events) ds (past ++ outcomes (dones fixed world (event ∷ events))) (jobs ++ jobs_from given world (event ∷ events)))
    (joined ds (decided fixed world event) (decisions_from fixed next.world events))
    (subst (λ past. Orderly (after fixed next.world events) (ds' ++ decisions_from fixed next.world events) past (jobs ++ jobs_from given world (event ∷ events))) (joined past next.done.outcome (outcomes (dones fixed next.world events)))
    (subst (Orderly (after fixed next.world events) (ds' ++ decisions_from fixed next.world events) (past' ++ outcomes (dones fixed next.world events))) (joined jobs (begins_job given world event) (jobs_from given next.world events)) rest))

opens : (given : Opening) → Orderly (opening given) [] [] []
opens given = record { turn = 0; alone = λ i apart. idle i; listed = sym (ap answered (idle 0)); along = subst (λ doing. Along (undecided doing) []) (sym (idle 0)) tt }
  where
    idle : (i : ℕ) → doing_at (opening given) i ≡ None
    idle i = of (actor_at (opening given) i) refl
      where
        of : (found : Option Actor) → actor_at (opening given) i ≡ found → doing_of found ≡ None
        of None is = refl
        of (Some actor) is = ap (λ (agent : Agent). agent.doing) (fresh_agents given i actor.agent (ap agent_of is)).0

pub orderly : (given : Opening) → IsAccepted given → (events : List Event) → one_at_a_time given events ≡ true → Orderly (run given events) (decisions given events) (ended given events) (jobs_of given events)
orderly given accepted events alone = run_orderly given events (opening given) [] [] [] (holds_at_first given accepted) (opens given) alone
