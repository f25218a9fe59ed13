-- What is decided of a transaction that goes alone had its home and its votes up: each server that told it of a lock was open to it, and nothing was decided before.
use Rattle.law_run_recovers.proofs.Vocabulary.{◌≡◌, inl, ⊎_elim, ℕ, ◌+◌, ◌*◌, ◌≤◌, true, false, List, [], ◌∷◌, ◌++◌, append-nil, le_trans, Option, Some, None, refl, sym, ap, subst, ◌∙◌, arith, ◌==◌, nat_le, list_any, cons_option, false≢true, eq-eqb}
use Rattle.law_run_recovers.proofs.Vocabulary.{and_parts, or_right, le-leb, leb-true, same_Some, Identity, Representative, votes_in, is_write_quorum, Opening, LockMode, Exclusive, Op, row_of, votes_in-wider, holds, needed_of, all_told, Transaction}
use Rattle.law_run_recovers.proofs.Vocabulary.{GatheredSuite, suite_of, Running, home_of, changes_of, votes_after, Agent, fixed_of, begin, after_all, newest_of, IsReady, Event, Begin, Step, Actor, actor_at, run, Decided, decided, decisions}
use Rattle.law_run_recovers.proofs.Vocabulary.{decisions_from, table_of, table_after_all, decisions_from-append, answers_follow_knowledge, IsAnsweredAsKnown, Runs, IsAt, holds_of, has_append, Has, has_any, agent_of, demand, is_met, votes_of_row}
use Rattle.law_run_recovers.proofs.Vocabulary.{has_votes_open, GoesAlone, HadVotesUp, is_up, runs, begun_world, world_after, Always, DecidedHadVotesUpAt}
use Rattle.txn_core.proofs.Quorums.{decides_on_quorums}
use Rattle.txn_core.specs.Writing.{sets_votes, is_changed}
use Rattle.file_ops.specs.Rows as rows
use Rattle.txn_core.specs.Doing as doing
use Rattle.law_run_recovers.proofs.AloneLaws.{steadily, calm, now_at, alone_then}
use Rattle.law_run_recovers.proofs.AmongAt.{can_so_far}
use Rattle.law_run_recovers.proofs.AmongBegin.{idle_before}
use Rattle.law_run_recovers.proofs.AmongCourse.{Course, StandsIn, PhaseIn}
use Rattle.law_run_recovers.proofs.AmongDecided.{over_not, had_then, decided_where, stood_had, ended_stands}
use Rattle.law_run_recovers.proofs.AtDecision.{same_version, newest_votes}
use Rattle.law_run_recovers.proofs.DecidedSince.{has_since, none_since}
use Rattle.law_run_recovers.proofs.Keeps.{at_work, run_at}
use Rattle.law_run_recovers.proofs.MeetUndecided.{not_decided_at_work}
use Rattle.law_run_recovers.proofs.NearGround.{opens_up, sight}
use Rattle.law_run_recovers.proofs.NoMore.{decider}
use Rattle.law_run_recovers.proofs.Open.{its_begin}
use Rattle.law_run_recovers.proofs.Picks.{along}
use Rattle.law_run_recovers.proofs.Polled.{held_open}
use Rattle.law_run_recovers.proofs.Steady.{GoesSteadily}
use Rattle.law_run_recovers.proofs.Still.{IsOpen, IsOpenPhase}

number_is : (n place a c t : ℕ) → n ≡ 64 * place + a → place + 1 ≡ c + 1 → 64 * c + a ≡ t → n ≡ t
number_is n place a c t is last number = omega (arith, is, last, number)

step_same : (a b : ℕ) → Step a ≡ Step b → a ≡ b
step_same a b same = cc

module _ (given : Opening) (events later : List Event) (agent t : ℕ) (caller : Identity) (site : ℕ) (ops : List Op) (actor : Actor) (goes : GoesAlone given events later agent t caller site ops actor) where
  abbrev steady : GoesSteadily given events later agent t caller site ops actor
  steady = steadily given events later agent t caller site ops actor goes

  abbrev all : List Event → List Event
  all so_far = events ++ Begin agent (Transaction caller site ops) ∷ so_far

  abbrev since : List Event → List Decided
  since so_far = decisions_from (fixed_of given) (begun_world given events agent caller site ops) so_far

  begun_number : 64 * actor.agent.count + agent ≡ t
  begun_number = (its_begin given events later agent t caller site ops actor goes.can goes.there goes.begins).0

  same_run : (so_far : List Event) → world_after given events agent caller site ops so_far ≡ run given (events ++ Begin agent (Transaction caller site ops) ∷ so_far)
  same_run = run_at given events later agent t caller site ops actor goes.can goes.there goes.begins

  -- ---- what is decided is it

  module _ (so_far rest : List Event) (split : later ≡ so_far ++ Step agent ∷ rest) (one : Decided) (is : decided (fixed_of given) (world_after given events agent caller site ops so_far) (Step agent) ≡ Some one) where
    decides : decided (fixed_of given) (run given (events ++ Begin agent (Transaction caller site ops) ∷ so_far)) (Step agent) ≡ Some one
    decides = ap (λ w. decided (fixed_of given) w (Step agent)) (sym (same_run so_far)) ∙ is

    so : IsAnsweredAsKnown given (run given (events ++ Begin agent (Transaction caller site ops) ∷ so_far)) (Step agent) one
    so = answers_follow_knowledge given (all so_far) (Step agent) one decides

    there : actor_at (run given (events ++ Begin agent (Transaction caller site ops) ∷ so_far)) agent ≡ Some so.actor
    there = ap (actor_at (run given (all so_far))) (step_same agent so.number so.step) ∙ so.there

    here : actor_at (world_after given events agent caller site ops so_far) agent ≡ Some so.actor
    here = ap (λ w. actor_at w agent) (same_run so_far) ∙ there

    its_task : so.txn_run.task.t ≡ t
    its_task =
        let now = now_at given events later agent t caller site ops actor goes so_far (Step agent ∷ rest) split in
        let at : Runs (decisions given (all so_far)) agent so.actor.agent.count so.txn_run =
        subst (IsAt (decisions given (all so_far)) agent so.actor.agent.count) so.running ((holds_of given goes.can.accepted (all so_far)).agents.at agent so.actor.agent (ap agent_of there)) in
        number_is so.txn_run.task.t at.place agent actor.agent.count t at.numbered
        (at.last ∙ ap (λ (a : Actor). a.agent.count) (same_Some so.actor now.here (sym here ∙ now.there)) ∙ now.count_is) begun_number

    -- it was not decided before
    first_time : (d : Decided) → Has (decisions given (events ++ Begin agent (Transaction caller site ops) ∷ so_far)) d → d.t ≡ t → ⊥
    first_time =
        let work = at_work (world_after given events agent caller site ops so_far) agent t so.actor here (subst IsOpen (sym so.running) (subst IsOpenPhase (sym so.deciding) tt))
        (ap (runs t) so.running ∙ eq-eqb so.txn_run.task.t t its_task) in
        not_decided_at_work given events later agent t caller site ops actor goes.can goes.there goes.begins so_far work

    -- ---- its votes

    module _ (c : Course given events later agent t caller site ops actor steady so_far) (same_table : table_of given (events ++ Begin agent (Transaction caller site ops) ∷ so_far) ≡ table_of given events) where
      same : c.here ≡ so.actor
      same = same_Some c.here so.actor (sym c.there ∙ here)

      running : (after_all (fixed_of given) (begin (fixed_of given) actor.agent (Transaction caller site ops)) c.told).doing ≡ Some (Running so.txn_run)
      running = ap (λ (a : Agent). a.doing) (sym c.is) ∙ ap (λ (a : Actor). a.agent.doing) same ∙ so.running

      stands : StandsIn given events later agent t caller site ops actor steady c.here.agent.cache (Some (Running so.txn_run))
      stands = subst (StandsIn given events later agent t caller site ops actor steady c.here.agent.cache) (ap (λ (a : Actor). a.agent.doing) same ∙ so.running) c.stands

      has_all : PhaseIn given events later agent t caller site ops actor steady so.txn_run.suites c.here.agent.cache (doing.Deciding so.outcome)
      has_all = subst (PhaseIn given events later agent t caller site ops actor steady so.txn_run.suites c.here.agent.cache) so.deciding stands.1

      module _ (z : ℕ) (suite : GatheredSuite) (found : suite_of so.txn_run.suites z ≡ Some suite) where
        ready : IsReady suite z (changes_of so.outcome)
        ready =
            decides_on_quorums (fixed_of given) actor.agent (Transaction caller site ops) c.told so.txn_run so.outcome z suite (idle_before given events later agent t caller site ops actor steady) running so.deciding found

        -- who held is up
        held : (mode : LockMode) (i : ℕ) → holds mode (all_told suite.collector) i ≡ true → is_up (run given events) i ≡ true
        held mode i is' =
            let opens = held_open (fixed_of given) (run given events) (sight given events later agent t caller site ops actor steady) z suite.collector.start Exclusive (all_told suite.collector)
            (has_all.right z suite found).right mode i is' in
            (and_parts (steady.near i) (is_up (run given events) i) (opens_up given events later agent t caller site ops actor steady z mode i opens.0)).1

        -- so many votes are up as were held
        up_met : (mode : LockMode) (needed : ℕ) (reps : List Representative) → needed ≤ votes_in reps (holds mode (all_told suite.collector)) → nat_le needed (votes_in reps (is_up (run given events))) ≡ true
        up_met mode needed reps enough = search (le-leb, le_trans, votes_in-wider, held, arith)

        rows_votes : (newest_of suite).votes ≡ votes_of_row (fixed_of given) (row_of (table_of given events).rows z)
        rows_votes =
            newest_votes given (all so_far) (can_so_far given events later agent t caller site ops actor steady so_far (Step agent ∷ rest) split) agent one decides so z suite found ready
            ∙ ap (λ table. votes_of_row (fixed_of given) (row_of table.rows z)) same_table

        votes : is_met (demand (run given events) z suite.mode (votes_of_row (fixed_of given) (row_of (table_of given events).rows z))) ≡ true
        votes =
            subst (λ votes. is_met (demand (run given events) z suite.mode votes) ≡ true) rows_votes (up_met suite.mode (needed_of suite.mode (newest_of suite).votes) (newest_of suite).votes.reps ready.quorum)

        changed : is_changed (changes_of so.outcome) z ≡ true → is_write_quorum (votes_of_row (fixed_of given) (row_of (table_of given events).rows z)) (is_up (run given events)) ≡ true
        changed is' = subst (λ votes. is_write_quorum votes (is_up (run given events)) ≡ true) rows_votes
            (up_met Exclusive (newest_of suite).votes.w (newest_of suite).votes.reps (leb-true (newest_of suite).votes.w (votes_in (newest_of suite).votes.reps (holds Exclusive (all_told suite.collector))) (ready.before is')))

        left : is_changed (changes_of so.outcome) z ≡ true → is_write_quorum (votes_after (changes_of so.outcome) z suite) (is_up (run given events)) ≡ true
        left is' =
            let votes = votes_after (changes_of so.outcome) z suite in
            let can = can_so_far given events later agent t caller site ops actor steady so_far (Step agent ∷ rest) split in
            let version = eq-eqb (newest_of suite).pver ready.first.prefix.pver (same_version given (all so_far) can agent one decides so z suite found ready) in
            up_met Exclusive votes.w votes.reps (leb-true votes.w (votes_in votes.reps (holds Exclusive (all_told suite.collector)))
            (ready.after is' (or_right (sets_votes (changes_of so.outcome) z) ((newest_of suite).pver == ready.first.prefix.pver) version)))

      had : is_up (run given events) (home_of (fixed_of given).service t) ≡ true → HadVotesUp given events later agent t caller site ops
      had home = record {
        before = so_far;
        after = rest;
        parts = split;
        one = one;
        decides = decides;
        of_it = so.t ∙ its_task;
        at_decision = so.actor;
        there = there;
        txn_run = so.txn_run;
        running = so.running;
        outcome = so.outcome;
        deciding = so.deciding;
        home = home;
        votes = votes;
        changed = changed;
        left = left;
      }

  -- ---- in any event

  module _ (so_far rest : List Event) (event : Event) (split : later ≡ so_far ++ event ∷ rest) (one : Decided) (is : decided (fixed_of given) (world_after given events agent caller site ops so_far) event ≡ Some one) where
    own : event ≡ Step agent
    own = decider given agent (world_after given events agent caller site ops so_far) one event is (calm given events later agent t caller site ops actor goes so_far rest event split)

    own_split : later ≡ so_far ++ Step agent ∷ rest
    own_split = split ∙ ap (λ event. so_far ++ event ∷ rest) own

    own_decides : decided (fixed_of given) (world_after given events agent caller site ops so_far) (Step agent) ≡ Some one
    own_decides = subst (λ event. decided (fixed_of given) (world_after given events agent caller site ops so_far) event ≡ Some one) own is

    of_it : one.t ≡ t
    of_it = (so so_far rest own_split one own_decides).t ∙ its_task so_far rest own_split one own_decides

  its_all : (so_far rest : List Event) → later ≡ so_far ++ rest → (d : Decided) → Has (decisions_from (fixed_of given) (begun_world given events agent caller site ops) so_far) d → d.t ≡ t
  its_all = along later (λ so_far. (d : Decided) → Has (since so_far) d → d.t ≡ t)
      (λ so_far rest event split old d has.
      ⊎_elim (old d) (new so_far rest event split d (decided (fixed_of given) (world_after given events agent caller site ops so_far) event) refl)
      (has_append (since so_far) (decisions_from (fixed_of given) (world_after given events agent caller site ops so_far) (event ∷ [])) d
      (subst (λ ds. Has ds d) (decisions_from-append (fixed_of given) (begun_world given events agent caller site ops) so_far (event ∷ [])) has)))
      (λ d has. absurd has)
    where
      new : (so_far rest : List Event) (event : Event) → later ≡ so_far ++ event ∷ rest → (d : Decided) (found : Option Decided) → decided (fixed_of given) (world_after given events agent caller site ops so_far) event ≡ found
          → Has (cons_option found []) d → d.t ≡ t
      new so_far rest event split d None is has = absurd has
      new so_far rest event split d (Some one) is has = ⊎_elim (λ here. ap (λ (d : Decided). d.t) (sym here) ∙ of_it so_far rest event split one is) (λ none. absurd none) has

  none_since_then : (so_far rest : List Event) → later ≡ so_far ++ rest → ((d : Decided) → Has (decisions_from (fixed_of given) (begun_world given events agent caller site ops) so_far) d → d.t ≡ t → ⊥)
      → decisions_from (fixed_of given) (begun_world given events agent caller site ops) so_far ≡ []
  none_since_then so_far rest split never = of (since so_far) refl
    where
      of : (found : List Decided) → decisions_from (fixed_of given) (begun_world given events agent caller site ops) so_far ≡ found → found ≡ []
      of [] is = refl
      of (d ∷ ds) is = let has : Has (since so_far) d = subst (λ ds. Has ds d) (sym is) (inl refl) in absurd (never d has (its_all so_far rest split d has))

  has_then : (so_far rest : List Event) → later ≡ so_far ++ rest → (d : Decided) → Has (decisions_from (fixed_of given) (begun_world given events agent caller site ops) so_far) d
      → Has (decisions given (events ++ Begin agent (Transaction caller site ops) ∷ so_far)) d
  has_then so_far rest split = has_since given events so_far agent t caller site ops actor (can_so_far given events later agent t caller site ops actor steady so_far rest split) goes.there begun_number

  home_of_open : has_votes_open given events t caller ops ≡ true → is_up (run given events) (home_of (fixed_of given).service t) ≡ true
  home_of_open open' = search arith

  -- where its home was down nothing is decided
  pub none_decided : is_up (run given events) (home_of (fixed_of given).service t) ≡ false → decisions_from (fixed_of given) (begun_world given events agent caller site ops) later ≡ []
  none_decided down = none_since_then later [] (sym (append-nil later)) (λ d has is.
      false≢true (sym down ∙ home_of_open (stood_had given events later agent t caller site ops actor steady
      (has_any (λ (one : Decided). one.t == t) (decisions given (all later)) d (has_then later [] (sym (append-nil later)) d has) (eq-eqb d.t t is)))))

  had_votes : list_any (λ (one : Decided). one.t == t) (decisions given (events ++ Begin agent (Transaction caller site ops) ∷ later)) ≡ true → HadVotesUp given events later agent t caller site ops
  had_votes = decided_where given events later agent t caller site ops actor steady (HadVotesUp given events later agent t caller site ops) (λ so_far rest event split one is number state.
      let open' = had_then given events later agent t caller site ops actor steady so_far rest event split one is number state in
      let split' = own_split so_far rest event split one is in
      let decides' = own_decides so_far rest event split one is in
      let can = can_so_far given events later agent t caller site ops actor steady so_far (event ∷ rest) split in
      let none = none_since_then so_far (event ∷ rest) split (λ d has. first_time so_far rest split' one decides' d (has_then so_far (event ∷ rest) split d has)) in
      let table : table_of given (all so_far) ≡ table_of given events = ap (table_after_all (rows.opening given)) (none_since given events so_far agent t caller site ops actor can goes.there begun_number none) in
      ⊎_elim (λ c. had so_far rest split' one decides' c table (home_of_open open')) (λ over. absurd (over_not given events later agent t caller site ops actor steady so_far rest event split one is number over)) state)

pub decided_had_votes_up : Always DecidedHadVotesUpAt
decided_had_votes_up given events later agent t caller site ops actor goes was =
    had_votes given events later agent t caller site ops actor goes (⊎_elim (λ is. is)
    (λ one. ended_stands given events later agent t caller site ops actor (steadily given events later agent t caller site ops actor goes) one.job
    (alone_then given events later agent t caller site ops actor goes one.job one.there one.of_it) one.decided) was)
