-- What a transaction that goes steadily asks for next is of what it asks for on the table as it began.
use Rattle.law_run_recovers.proofs.Vocabulary.{◌≡◌, inl, ℕ, List, [], ◌∷◌, Some, refl, sym, ap, subst, ◌∙◌, Contains, none-some, Identity, Configuration, Opening, LockMode, Exclusive, Op, Request, Has, contains_from, Asked, Poll, arith, Upgrade}
use Rattle.law_run_recovers.proofs.Vocabulary.{request_for, mode_asked, Cache, Suites, suite_of, parts_at, Task, Granted, Phase, Gathering, Fetching, Preparing, Deciding, Finishing, home_of, asked_for, changes_of, decision_of, request_in, fixed_of}
use Rattle.law_run_recovers.proofs.Vocabulary.{asks_same, Event, Actor, table_of, locks_asked, votes_set, asks_for}
use Rattle.suite_collect.specs.Collecting.{mode_or}
use Rattle.rep_core.specs.declared.request.Request.TheVariants as request
use Rattle.txn_core.specs.Doing as doing
use Rattle.law_run_recovers.proofs.Steady.{GoesSteadily}
use Rattle.law_run_recovers.proofs.Asked.{onto_left, onto_so_far, asked_exclusive, next_mode}
use Rattle.law_run_recovers.proofs.Asking.{onto}
use Rattle.law_run_recovers.proofs.Early.{fetch_is}
use Rattle.law_run_recovers.proofs.Heard.{AsksFor, asks_for as asked_by}
use Rattle.law_run_recovers.proofs.Keeps.{OfAsks}
use Rattle.law_run_recovers.proofs.NearGround.{its, number}
use Rattle.law_run_recovers.proofs.Stands.{locks_on, sets_on}
use Rattle.law_run_recovers.proofs.AmongCourse.{PhaseIn}

module _ (given : Opening) (events later : List Event) (agent t : ℕ) (caller : Identity) (site : ℕ) (ops : List Op) (actor : Actor) (goes : GoesSteadily given events later agent t caller site ops actor) where
  abbrev its_task : Task
  its_task = its given events later agent t caller site ops actor goes

  -- what it has on the table by its number
  asked_there : (one : ℕ × LockMode) → Has (locks_on (table_of given events) its_task) one → Contains (asks_for given events t caller ops) one
  asked_there one has = contains_from (asks_for given events t caller ops) one (subst (λ n. Has (locks_asked (table_of given events) n caller ops) one) (number given events later agent t caller site ops actor goes) has)

  pub set_there : (one : ℕ × Configuration) → Has (sets_on (table_of given events) its_task) one → Contains (votes_set (table_of given events) t caller ops) one
  set_there one has = contains_from (votes_set (table_of given events) t caller ops) one (subst (λ n. Has (votes_set (table_of given events) n caller ops) one) (number given events later agent t caller site ops actor goes) has)

  module _ (server : ℕ) (asked : Request) where
    pub gather_asks : (now : Cache) (suites : Suites) (z : ℕ) (at : PhaseIn given events later agent t caller site ops actor goes suites now (Gathering z)) (asks : AsksFor its_task.t z at.0.suite.collector server asked)
        → Contains (asks_for given events t caller ops) (z, mode_asked asks.question)
    gather_asks now suites z at asks = search (next_mode, asked_there, onto, onto_left, arith)

    pub widen_asks : (now : Cache) (suites : Suites) (z : ℕ) (left : List ℕ) (granted : Granted) (at : PhaseIn given events later agent t caller site ops actor goes suites now (doing.Widening (z ∷ left) granted))
        (asks : AsksFor its_task.t z at.suite.collector server asked)
        → Contains (asks_for given events t caller ops) (z, mode_asked asks.question)
    widen_asks now suites z left granted at asks =
        let mode : mode_asked asks.question ≡ Exclusive = next_mode at.suite.collector server asks.question asks.is ∙ ap (λ o. mode_or o at.suite.collector.mode) at.widening_is in
        subst (λ mode. Contains (asks_for given events t caller ops) (z, mode)) (sym mode)
        (asked_there (z, Exclusive) (subst (λ locks. Has locks (z, Exclusive)) (sym at.sets.all) (onto_so_far at.sets.so_far [] (z, Exclusive) (asked_exclusive at.sets.so_far z (at.sets.exclusive (z, at.votes) (inl refl))))))

    abbrev Asks : Request → Type 0
    Asks other = OfAsks t (asks_for given events t caller ops) other

    lock_asked : (z : ℕ) (question : Asked) → Contains (asks_for given events t caller ops) (z, mode_asked question) → Asks (request_for its_task.t z question)
    lock_asked z (Poll mode) has = (number given events later agent t caller site ops actor goes, has)
    lock_asked z Upgrade has = (number given events later agent t caller site ops actor goes, has)

    -- a lock that it asks for is one of these, in its name
    pub of_its_asks : (now : Cache) (suites : Suites) (phase : Phase) → PhaseIn given events later agent t caller site ops actor goes suites now phase → request_in (fixed_of given) its_task suites phase ≡ Some (server, asked)
        → OfAsks t (asks_for given events t caller ops) asked
    of_its_asks now suites (Gathering z) at is =
        let asks = asked_by its_task z at.0.suite.collector server asked (sym (ap (asked_for its_task z) at.0.there) ∙ is) in
        subst Asks (sym asks.asked_is) (lock_asked z asks.question (gather_asks now suites z at asks))
    of_its_asks now suites (Fetching z) at is = subst Asks (sym (fetch_is its_task z (suite_of suites z) server asked is)) tt
    of_its_asks now suites (doing.Widening (z ∷ left) granted) at is =
        let asks = asked_by its_task z at.suite.collector server asked (sym (ap (asked_for its_task z) at.there) ∙ is) in
        subst Asks (sym asks.asked_is) (lock_asked z asks.question (widen_asks now suites z left granted at asks))
    of_its_asks now suites (Preparing (first ∷ left) outcome) at is = subst Asks (asks_same first server (request.Prepare its_task.t (parts_at suites (changes_of outcome) first)) asked is) tt
    of_its_asks now suites (Deciding outcome) at is = subst Asks (asks_same (home_of (fixed_of given).service its_task.t) server (request.Decide its_task.t (decision_of its_task outcome)) asked is) tt
    of_its_asks now suites (Finishing (first ∷ left) v ended) at is = subst Asks (asks_same first server (request.Finish its_task.t v) asked is) tt
    of_its_asks now suites other at is = absurd (none-some (server, asked) is)
