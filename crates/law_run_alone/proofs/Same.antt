-- Of two runs of the same jobs the endings are the same.
use Rattle.law_run_alone.proofs.Vocabulary.{◌≡◌, inl, inr, ⊎_elim, ℕ, ◌+◌, true, false, List, [], ◌∷◌, ◌++◌, Option, Some, refl, sym, ap, subst, ◌∙◌, ◌*◌, map, nat_eq, Result, Ok, Err, AllByRecursion, cons_option, arith, none-some, same_Some}
use Rattle.law_run_alone.proofs.Vocabulary.{Opening, IsAccepted, Lists, Configuration, empty_content, PlainTable, root, Refusal, Has, has_from, contains_from, Verdict, Ending, Refused, Swept, Undecided, Job, Transaction, Sweep, Doing, TransactionRun}
use Rattle.law_run_alone.proofs.Vocabulary.{Running, Task, Agent, fixed_of, Event, EndedJob, Actor, World, opening, actor_at, step, run, Decided, decisions, task_of, task_at, table_with, AnswersAreTheTables, number_of, begins_at, begun_from, ended}
use Rattle.law_run_alone.proofs.Vocabulary.{Answer', NotIn, In, Stands, append_has_left, append_has_right, IsAt, EndStands, same_place, same_or, Holds, agent_of, agent_at, holds_of, answers_are_the_tables, begins_job, jobs_from, jobs_of}
use Rattle.law_run_alone.proofs.Vocabulary.{one_at_a_time, AreAlike, IsTransaction, IsRunning, AllAreDecided, EndingsAreOne, IsDistinct}
use Rattle.std.proofs.lemmas.Map.Keys.{IsDistinct-head, IsDistinct-tail}
use Rattle.suite_content.specs.declared.content.Kind.TheVariants.{Folder}
use Rattle.file_ops.specs.Transactions.{Played, table_after, transaction}
use Rattle.law_runs.proofs.Begun.{each_is_begun_once}
use Rattle.txn_core.specs.declared.ending.Ending.TheVariants.{Answered}
use Rattle.file_ops.specs.Rows as rows
use Rattle.rep_core.specs.declared.reply.Verdict.TheVariants as verdict
use Rattle.law_runs.proofs.Worlds as worlds
use Rattle.law_run_alone.proofs.Verdicts.{Asked, asked_by, asked_of, left_by, said_in, said_is, undecided}
use Rattle.law_run_alone.proofs.Along.{ApartFrom, AreApart, same_asked, along_has, is_all}
use Rattle.law_run_alone.proofs.Turns.{doing_of, doing_at, transaction_as, transactions_of}
use Rattle.law_run_alone.proofs.Alone.{Orderly, orderly}

-- ---- numbers of transactions

abbrev number_in : ℕ × Job → ℕ
number_in job = job.0

one_number : (given : Opening) (world : World) (event : Event) (later : List ℕ) (jobs : List (ℕ × Job)) → later ≡ map number_in jobs
    → cons_option (begins_at given world event) later ≡ map number_in (cons_option (begins_job given world event) jobs)
one_number given world event later jobs h5 = search arith

numbers : (given : Opening) (world : World) (events : List Event) → begun_from given world events ≡ map number_in (jobs_from given world events)
numbers given world [] = refl
numbers given world (event ∷ events) =
    let later = (step (fixed_of given) world event).world in
    one_number given world event (begun_from given later events) (jobs_from given later events) (numbers given later events)

apart_one : (t n : ℕ) (what : Job) (rest : List Asked) (one : Asked) → nat_eq t n ≡ false → (Has rest one → ⊥) → Has (cons_option (transaction_as n what) rest) one → one.0 ≡ t → ⊥
apart_one t n what rest one h5 h6 h7 h8 = search arith

apart_from : (t : ℕ) (jobs : List (ℕ × Job)) → AllByRecursion (λ other. nat_eq t other ≡ false) (map number_in jobs) → ApartFrom t (transactions_of jobs)
apart_from t [] all one has same = has
apart_from t (job ∷ jobs) all one has same = apart_one t job.0 job.1 (transactions_of jobs) one all.0 (λ rest. apart_from t jobs all.1 one rest same) has same

apart_with : (n : ℕ) (what : Job) (rest : List Asked) → ApartFrom n rest → AreApart rest → AreApart (cons_option (transaction_as n what) rest)
apart_with n what rest h3 h4 = search arith

apart_all : (jobs : List (ℕ × Job)) → IsDistinct nat_eq (map number_in jobs) → AreApart (transactions_of jobs)
apart_all [] distinct = tt
apart_all (job ∷ jobs) distinct =
    apart_with job.0 job.1 (transactions_of jobs) (apart_from job.0 jobs (IsDistinct-head nat_eq job.0 (map number_in jobs) distinct)) (apart_all jobs (IsDistinct-tail nat_eq job.0 (map number_in jobs) distinct))

begun_apart : (given : Opening) → IsAccepted given → (events : List Event) → AreApart (transactions_of (jobs_of given events))
begun_apart given accepted events = apart_all (jobs_of given events) (subst (IsDistinct nat_eq) (numbers given (opening given) events) (each_is_begun_once given accepted events).once)

-- the job of a transaction at a site
abbrev job_as : ℕ → Asked → ℕ × Job
job_as site asked = (asked.0, Transaction asked.1 site asked.2)

record Found (jobs : List (ℕ × Job)) (one : Asked) : Type 0 where
  site : ℕ
  there : Has jobs (job_as site one)

find_one : (t : ℕ) (what : Job) (jobs : List (ℕ × Job)) (one : Asked) → (Has (transactions_of jobs) one → Found jobs one) → Has (cons_option (transaction_as t what) (transactions_of jobs)) one → Found ((t, what) ∷ jobs) one
find_one t (Transaction caller site ops) jobs one later has =
    ⊎_elim (λ is. record { site = site; there = inl (ap (job_as site) is) }) (λ rest. let found = later rest in record { site = found.site; there = inr found.there }) has
find_one t (Sweep server) jobs one later has = let found = later has in record { site = found.site; there = inr found.there }

find_job : (jobs : List (ℕ × Job)) (one : Asked) → Has (transactions_of jobs) one → Found jobs one
find_job [] one has = absurd has
find_job (job ∷ jobs) one has = find_one job.0 job.1 jobs one (λ rest. find_job jobs one rest) has

was_begun : (jobs : List (ℕ × Job)) (one : Asked) → Has (transactions_of jobs) one → IsTransaction jobs one.0
was_begun jobs one has = search (find_job, contains_from, arith)

abbrev pub ending_of : Answer' → Ending
ending_of (Ok answers) = Answered answers
ending_of (Err refusal) = Refused refusal

-- ---- all that began is decided, but for what still runs

map_has : (ds : List Decided) (d : Decided) → Has ds d → Has (map asked_of ds) (asked_of d)
map_has [] d has = absurd has
map_has (e ∷ ds) d has = ⊎_elim (λ is. inl (ap asked_of is)) (λ rest. inr (map_has ds d rest)) has

module _ (given : Opening) (accepted : IsAccepted given) (events : List Event) (alone : one_at_a_time given events ≡ true) where
  pub now : Orderly (run given events) (decisions given events) (ended given events) (jobs_of given events)
  now = orderly given accepted events alone

  holds : Holds (fixed_of given) (run given events) (decisions given events) (ended given events)
  holds = holds_of given accepted events

  abbrev some : List Asked
  some = map asked_of (decisions given events) ++ undecided (doing_at (run given events) now.turn)

  pub decided_has : (one : Asked) → Has (transactions_of (jobs_of given events)) one → (d : Decided) → Has (decisions given events) d → d.t ≡ one.0 → Has some one
  decided_has one has d there same =
      let left = append_has_left (map asked_of (decisions given events)) (undecided (doing_at (run given events) now.turn)) (asked_of d) (map_has (decisions given events) d there) in
      subst (Has some) (same_asked (transactions_of (jobs_of given events)) (begun_apart given accepted events) (asked_of d) one (along_has some (transactions_of (jobs_of given events)) now.along (asked_of d) left) has same) left

  -- a transaction that runs is decided, or undecided as what runs is
  course_has : (one : Asked) → Has (transactions_of (jobs_of given events)) one → (number : ℕ) (actor : Actor) → actor_at (run given events) number ≡ Some actor → (running : TransactionRun) → actor.agent.doing ≡ Some (Running running)
      → running.task.t ≡ one.0 → number ≡ now.turn → Has some one
  course_has one has number actor there running doing same turn = of at.said (said_is at.said running.phase at.tells) at.stands
    where
      at : IsAt (decisions given events) number actor.agent.count (Some (Running running))
      at = subst (IsAt (decisions given events) number actor.agent.count) doing (holds.agents.at number actor.agent (ap agent_of there))

      here : doing_at (run given events) now.turn ≡ Some (Running running)
      here = ap (doing_at (run given events)) (sym turn) ∙ ap doing_of there ∙ doing

      of : (v : Verdict) → said_in running.phase ≡ v → Stands (decisions given events) running.task.t v → Has some one
      of verdict.Aborted said is =
          let mine : undecided (doing_at (run given events) now.turn) ≡ asked_by running.task ∷ [] = ap undecided here ∙ ap (left_by (asked_by running.task)) said in
          let right : Has some (asked_by running.task) = append_has_right (map asked_of (decisions given events)) (undecided (doing_at (run given events) now.turn))
          (asked_by running.task) (subst (λ all. Has all (asked_by running.task)) (sym mine) (inl refl)) in
          subst (Has some) (same_asked (transactions_of (jobs_of given events)) (begun_apart given accepted events) (asked_by running.task) one
          (along_has some (transactions_of (jobs_of given events)) now.along (asked_by running.task) right) has same) right
      of other said is = decided_has one has is.decision is.there (is.of_it ∙ same)

  -- the course of a task
  record HasCourse (doing : Option Doing) (task : Task) : Type 0 where
    txn_run : TransactionRun
    is : doing ≡ Some (Running txn_run)
    of_it : txn_run.task ≡ task

  course_of : (doing : Option Doing) (task : Task) → task_of doing ≡ Some task → HasCourse doing task
  course_of doing task h2 = search arith

  record HasActor (number : ℕ) (task : Task) : Type 0 where
    actor : Actor
    there : actor_at (run given events) number ≡ Some actor
    runs : HasCourse actor.agent.doing task

  actor_of : (number : ℕ) (task : Task) → task_at (actor_at (run given events) number) ≡ Some task → HasActor number task
  actor_of number task is = search arith

  running_has : (one : Asked) → Has (transactions_of (jobs_of given events)) one → IsRunning (run given events) one.0 → Has some one
  running_has one has running = search (actor_of, course_has, none-some, doing_of, same_or, arith)

  pub is_all_begun : AllAreDecided given events → some ≡ transactions_of (jobs_of given events)
  is_all_begun decided =
      is_all some (transactions_of (jobs_of given events)) (begun_apart given accepted events) now.along
      (λ one has. ⊎_elim
      (λ is. decided_has one has is.decision (has_from (decisions given events) is.decision is.there) is.of_it)
      (λ running. running_has one has running)
      (decided one.0 (was_begun (jobs_of given events) one has)))

  -- what ended does not run
  not_running : (job : EndedJob) → Has (ended given events) job → IsRunning (run given events) (number_of job) → ⊥
  not_running job has running =
      let over = holds.over job has in
      let found = actor_of running.number running.task running.runs in
      let at : IsAt (decisions given events) running.number found.actor.agent.count (Some (Running found.runs.txn_run)) =
      subst (IsAt (decisions given events) running.number found.actor.agent.count) found.runs.is (holds.agents.at running.number found.actor.agent (ap agent_of found.there)) in
      let t : 64 * at.place + running.number ≡ 64 * job.count + job.agent = sym at.numbered ∙ ap (λ (task : Task). task.t) found.runs.of_it ∙ running.of_it in
      let places = same_place at.place job.count running.number job.agent t (holds.agents.small running.number found.actor.agent (ap agent_of found.there)) (holds.agents.small job.agent over.agent over.at) in
      let agents : found.actor.agent ≡ over.agent = same_Some found.actor.agent over.agent (sym (ap agent_of found.there) ∙ ap (agent_at (run given events)) places.1 ∙ over.at) in
      none-some (Running found.runs.txn_run)
      (sym (ap (λ (agent : Agent). agent.doing) agents ∙ over.idle (ap (λ n. n + 1) (sym places.0) ∙ at.last ∙ ap (λ (agent : Agent). agent.count) agents)) ∙ found.runs.is)

  -- a transaction that ended stands among the decisions, with its ending
  pub ended_so : AllAreDecided given events → (job : EndedJob) → Has (ended given events) job → IsTransaction (jobs_of given events) (number_of job)
      → (answer : Answer') × (job.ending ≡ ending_of answer) × In (decisions given events) (number_of job) answer
  ended_so decided job has is = of job.ending refl
    where
      stands : (ending : Ending) → job.ending ≡ ending → EndStands (decisions given events) (number_of job) ending
      stands ending same = subst (EndStands (decisions given events) (number_of job)) same (holds.over job has).stands

      none : NotIn (decisions given events) (number_of job) → ⊥
      none not_in = ⊎_elim
          (λ is. not_in is.decision (has_from (decisions given events) is.decision is.there) is.of_it)
          (λ running. not_running job has running)
          (decided (number_of job) is)

      of : (ending : Ending) → job.ending ≡ ending → (answer : Answer') × (job.ending ≡ ending_of answer) × In (decisions given events) (number_of job) answer
      of (Answered answers) same = (Ok answers, same, stands (Answered answers) same)
      of (Refused refusal) same = (Err refusal, same, stands (Refused refusal) same)
      of (Swept broken finished left) same = absurd (none (stands (Swept broken finished left) same))
      of (Undecided cause) same = absurd (none (stands (Undecided cause) same))

-- ---- two lists of decisions

-- what the table plays of a transaction, and what it leaves
abbrev playing : PlainTable → Asked → Result Played Refusal
playing table asked = transaction table.service table.rows asked.0 asked.1 asked.2

abbrev left_with : PlainTable → Asked → PlainTable
left_with table asked = table_after table asked.0 asked.1 (playing table asked)

head_or : Asked → List Asked → Asked
head_or one [] = one
head_or one (other ∷ all) = other

tail_of : List Asked → List Asked
tail_of [] = []
tail_of (other ∷ all) = all

same_head : (a b : Asked) (xs ys : List Asked) → a ∷ xs ≡ b ∷ ys → a ≡ b
unfolding head_or
same_head a b xs ys same = ap (head_or a) same

same_tail : (a b : Asked) (xs ys : List Asked) → a ∷ xs ≡ b ∷ ys → xs ≡ ys
unfolding tail_of
same_tail a b xs ys same = ap tail_of same

-- the same transactions one after the other are answered the same
same_answers : (table : PlainTable) (ds es : List Decided) (more others : List Asked) → worlds.AreApart ds → worlds.AreApart es → AnswersAreTheTables table ds
    → AnswersAreTheTables table es → map asked_of ds ++ more ≡ map asked_of es ++ others
    → (d e : Decided) → Has ds d → Has es e → d.t ≡ e.t → d.answer ≡ e.answer
same_answers table [] es more others apart apart' answers answers' same d e has has' number = absurd has
same_answers table (a ∷ ds) [] more others apart apart' answers answers' same d e has has' number = absurd has'
same_answers table (a ∷ ds) (b ∷ es) more others apart apart' answers answers' same d e has has' number =
    let first = same_head (asked_of a) (asked_of b) (map asked_of ds ++ more) (map asked_of es ++ others) same in
    let t : a.t ≡ b.t = ap (λ (asked : Asked). asked.0) first in
    elim has [
      | inl is ↦ search arith
      | inr rest ↦ elim has' [
        | inl is' ↦ absurd (apart.0 d rest (number ∙ ap (λ (d : Decided). d.t) (sym is') ∙ sym t))
        | inr rest' ↦
            same_answers (table_with table a) ds es more others apart.1 apart'.1 answers.1 (subst (λ table. AnswersAreTheTables table es) (ap (left_with table) (sym first)) answers'.1)
            (same_tail (asked_of a) (asked_of b) (map asked_of ds ++ more) (map asked_of es ++ others) same) d e rest rest' number
      ]
    ]

-- a table as it opens
abbrev opened : ℕ → Configuration → ℕ → ℕ → Lists → PlainTable
opened servers c0 owner group acl = record {
  service = record { servers = servers; c0 = c0 };
  rows = (root, record { owner = owner; group = group; acl = acl; votes = c0; content = empty_content Folder }) ∷ [];
  audit = [];
}

-- what caches may keep is nothing to it
same_table : (given other : Opening) → AreAlike given other → rows.opening other ≡ rows.opening given
same_table given other alike = search arith

pub endings_are_one : EndingsAreOne
endings_are_one given other alike events events' can can' alone alone' same decided decided' job job' there there' number is =
    let accepted = can.accepted in
    let accepted' = can'.accepted in
    let answers = answers_are_the_tables given events can in
    let answers' = answers_are_the_tables other events' can' in
    let a = ended_so given accepted events alone decided job (has_from (ended given events) job there) is in
    let is' : IsTransaction (jobs_of other events') (number_of job') = subst (IsTransaction (jobs_of other events')) number (subst (λ jobs. IsTransaction jobs (number_of job)) same is) in
    let b = ended_so other accepted' events' alone' decided' job' (has_from (ended other events') job' there') is' in
    let same_list = is_all_begun given accepted events alone decided ∙ ap transactions_of same ∙ sym (is_all_begun other accepted' events' alone' decided') in
    let answer = same_answers (rows.opening given) (decisions given events) (decisions other events') _ _ (holds_of given accepted events).once (holds_of other accepted' events').once answers
    (subst (λ table. AnswersAreTheTables table (decisions other events')) (same_table given other alike) answers')
    same_list a.2.decision b.2.decision a.2.there b.2.there (a.2.of_it ∙ number ∙ sym b.2.of_it) in
    a.1 ∙ ap ending_of (sym a.2.answered ∙ answer ∙ b.2.answered) ∙ sym b.1
