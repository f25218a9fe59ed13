-- One walk through what a transaction does with what it is told while it gathers, with what was told of each suite.
use Rattle.law_agents.proofs.Vocabulary.{◌≡◌, ℕ, Bool, false, cond, List, [], ◌∷◌, ◌++◌, Option, Some, None, Ok, Err, refl, sym, ap, subst, ◌∙◌, ◌==◌, eqb-true, Content, Request, Reply, Hold, Know, Said, Told, all_told, tell, arith, mode_of, Next}
use Rattle.law_agents.proofs.Vocabulary.{next, Cache, ReadPoint, GatheredSuite, Suites, suite_of, with_suite, told_in, Response, Replied, Lacked, Cause, Lost, Granted, Fixed, Task, Proposal, Phase, Gathering, Fetching, Widening, Preparing, Deciding}
use Rattle.law_agents.proofs.Vocabulary.{Finishing, TransactionRun, After, GoesOn, Step, Gathered, give_up, prepare, locked_at, gather_by, widen_by, widen_one, widened, widen_all, keep_content, heard_of, said_to, proceed, execute, collected, hear}
use Rattle.law_agents.proofs.Vocabulary.{fetched, after_response, asked_for, request_in, given_in, lack_cause, Exchange, locks, told_of, told_by, more_told, fetched_as, Are, are_with, are_same, are_opened, told_raised, all_told-tell, asks_lock}
use Rattle.law_agents.proofs.Vocabulary.{IsEarly, Outcome as Executed}
use Rattle.file_exec.specs.declared.executor.Outcome.TheVariants as exec

-- ---- what was told of each suite, with one exchange more

abbrev pub tells : List Exchange → ℕ → List Told
tells past number = told_of number [] past

abbrev pub push : List Exchange → ℕ → Request → Response → List Exchange
push past server asked heard = past ++ record { server = server; request = asked; response = heard } ∷ []

told_push : (number : ℕ) (before : List Told) (past : List Exchange) (one : Exchange) → told_of number before (past ++ one ∷ []) ≡ cond (locks number one.request)
    (told_by (told_of number before past) one one.response) (told_of number before past)
told_push number before [] one = refl
told_push number before (first ∷ past) one = told_push number (cond (locks number first.request) (told_by before first first.response) before) past one

-- nothing is told where no lock was asked for, or nothing is said of it
pub are_quiet : (past : List Exchange) (suites : Suites) (server : ℕ) (asked : Request) (heard : Response) → ((number : ℕ) → locks number asked ≡ false) → Are (tells past) suites → Are (tells (push past server asked heard)) suites
are_quiet past suites server asked heard none are = search (told_push, arith)

same_either : {X : Type 0} (b : Bool) (x : X) → cond b x x ≡ x
same_either b x = search arith

are_silent : (past : List Exchange) (suites : Suites) (server : ℕ) (asked : Request) (heard : Response) → ((number : ℕ) → told_by (tells past number) (record { server = server; request = asked; response = heard }) heard ≡ tells past number)
    → Are (tells past) suites → Are (tells (push past server asked heard)) suites
are_silent past suites server asked heard none are = search (told_push, same_either, arith)

pub are_lacked : (past : List Exchange) (suites : Suites) (server : ℕ) (asked : Request) (lacked : Rattle.rep_core.specs.declared.stamped.Lack.Lack) → Are (tells past) suites → Are (tells (push past server asked (Lacked lacked))) suites
are_lacked past suites server asked lacked are = are_silent past suites server asked (Lacked lacked) (λ number. refl) are

are_unsaid : (past : List Exchange) (suites : Suites) (server : ℕ) (asked : Request) (said : Reply) → said_to asked said ≡ None → Are (tells past) suites → Are (tells (push past server asked (Replied said))) suites
are_unsaid past suites server asked said none are = are_silent past suites server asked (Replied said) (λ number. ap (more_told (tells past number) server asked) none) are

-- one more is told of a suite
are_told : (past : List Exchange) (suites : Suites) (number server : ℕ) (asked : Request) (said : Reply) (heard : Said) (now : GatheredSuite) → ((other : ℕ) → locks other asked ≡ (number == other)) → said_to asked said ≡ Some heard
    → all_told now.collector ≡ record { server = server; mode = mode_of asked; said = heard } ∷ tells past number → Are (tells past) suites → Are (tells (push past server asked (Replied said))) (with_suite number now suites)
are_told past suites number server asked said heard now lock was same are =
    let with' = are_with (tells past) suites number now are in
    (with'.0, λ other. with'.1 other ∙ at other (number == other) refl ∙ sym (newly other))
  where
    one : Told
    one = record { server = server; mode = mode_of asked; said = heard }

    newly : (other : ℕ) → tells (push past server asked (Replied said)) other ≡ cond (number == other) (one ∷ tells past other) (tells past other)
    newly other = search (told_push, arith)

    at : (other : ℕ) (b : Bool) → (number == other) ≡ b → cond b (all_told now.collector) (tells past other) ≡ cond b (one ∷ tells past other) (tells past other)
    at other b h2 = search (one, eqb-true, arith)

-- ---- the walk

-- What holds of every early phase, wherever it is given up, and where the servers begin to prepare, holds after every step of an early phase;
-- of suites of which just this was told.
module _ (task : Task) (past : List Exchange) (Left : After TransactionRun → Type 0)
    (early : (suites : Suites) (phase : Phase) → IsEarly phase → Are (tells past) suites → Left (GoesOn (record { task = task; suites = suites; phase = phase })))
    (given_up : (cache : Cache) (suites : Suites) (cause : Cause) → Are (tells past) suites → Left (give_up task cache suites cause).after)
    (prepares : (cache : Cache) (suites : Suites) (outcome : Proposal) → Are (tells past) suites → Left (prepare task cache suites outcome (locked_at suites)).after) where
  goes_gather : (cache : Cache) (suites : Suites) (number : ℕ) (next : Next) → Are (tells past) suites → Left (gather_by task cache suites number next).after
  goes_gather cache suites number next h4 = search arith

  goes_widen_by : (cache : Cache) (suites : Suites) (left : List ℕ) (granted : Granted) (number : ℕ) (next : Next) (go_on : Suites → Step) → Are (tells past) suites → ((suites : Suites) → Are (tells past) suites → Left (go_on suites).after)
      → Left (widen_by task cache suites (Widening left granted) number next go_on).after
  goes_widen_by cache suites left granted number next go_on h7 h8 = search arith

  goes_widen_one : (cache : Cache) (suites : Suites) (left : List ℕ) (granted : Granted) (number : ℕ) (found : Option GatheredSuite) (go_on : Suites → Step) → suite_of suites number ≡ found → Are (tells past) suites
      → ((suites : Suites) → Are (tells past) suites → Left (go_on suites).after)
      → Left (widen_one task cache suites (Widening left granted) granted.changes number found go_on).after
  goes_widen_one cache suites left granted number (Some suite) go_on is are more =
      goes_widen_by cache (with_suite number (widened granted.changes number suite) suites) left granted number (next (widened granted.changes number suite).collector) go_on
      (are_same (tells past) suites number (widened granted.changes number suite) are (sym (ap told_in is))) more
  goes_widen_one cache suites left granted number None go_on is are more = more suites are

  pub goes_widen : (cache : Cache) (suites : Suites) (granted : Granted) (left : List ℕ) → Are (tells past) suites → Left (widen_all task cache suites granted left).after
  goes_widen cache suites granted [] are = prepares cache suites (Ok granted) are
  goes_widen cache suites granted (number ∷ left) are =
      goes_widen_one cache suites (number ∷ left) granted number (suite_of suites number) _ refl are (λ suites are. goes_widen cache suites granted left are)

  goes_proceed : (fixed : Fixed) (cache : Cache) (suites : Suites) (heard : Executed) → Are (tells past) suites → Left (proceed fixed task cache suites heard).after
  goes_proceed fixed cache suites (exec.Need (Hold number mode)) are = search (goes_gather, are_same, told_raised, arith)
  goes_proceed fixed cache suites (exec.Need (Know number)) are = early suites (Fetching number) tt are
  goes_proceed fixed cache suites (exec.Done answers changes) are = goes_widen cache suites (record { answers = answers; changes = changes }) _ are
  goes_proceed fixed cache suites (exec.Refused refusal) are = prepares cache suites (Err refusal) are

  pub goes_execute : (fixed : Fixed) (all : Gathered) → Are (tells past) all.suites → Left (execute fixed task all).after
  goes_execute fixed all are = search (goes_proceed, are_opened, arith)

  goes_fetched : (fixed : Fixed) (cache : Cache) (suites : Suites) (number : ℕ) (found : Option GatheredSuite) (server : ℕ) (given : Option Content) → suite_of suites number ≡ found → Are (tells past) suites
      → Left (fetched fixed task cache suites number found server given).after
  goes_fetched fixed cache suites number None server (Some content) there are = given_up cache suites (Lost server) are
  goes_fetched fixed cache suites number None server None there are = given_up cache suites (Lost server) are
  goes_fetched fixed cache suites number (Some suite) server None there are = given_up cache suites (Lost server) are
  goes_fetched fixed cache suites number (Some suite) server (Some content) there are = of suite.first
    where
      of : (first : Option ReadPoint) → Left (keep_content fixed task cache suites number suite content first server).after
      of None = given_up cache suites (Lost server) are
      of (Some first) = goes_execute fixed _ (are_same (tells past) suites number (record suite { content = Some content }) are (sym (ap told_in there)))

  goes_collected : (cache : Cache) (suites : Suites) (phase : Phase) (number : ℕ) (suite : GatheredSuite) (next : Next) (go_on : Suites → Step) → IsEarly phase
      → ((it : GatheredSuite) → it.collector ≡ suite.collector → Are (tells past) (with_suite number it suites)) → ((suites : Suites) → Are (tells past) suites → Left (go_on suites).after)
      → Left (collected task cache suites phase number suite next (λ suite. go_on (with_suite number suite suites))).after
  goes_collected cache suites phase number suite next go_on h7 h8 h9 = search arith

module _ (task : Task) (past : List Exchange) (server : ℕ) (asked : Request) (heard : Response) (Left : After TransactionRun → Type 0)
    (early : (suites : Suites) (phase : Phase) → IsEarly phase → Are (tells (push past server asked heard)) suites → Left (GoesOn (record { task = task; suites = suites; phase = phase })))
    (given_up : (cache : Cache) (suites : Suites) (cause : Cause) → Are (tells (push past server asked heard)) suites → Left (give_up task cache suites cause).after)
    (prepares : (cache : Cache) (suites : Suites) (outcome : Proposal) → Are (tells (push past server asked heard)) suites → Left (prepare task cache suites outcome (locked_at suites)).after) where
  goes_heard : (cache : Cache) (suites : Suites) (phase : Phase) (number : ℕ) (found : Option GatheredSuite) (said : Reply) (go_on : Suites → Step) → heard ≡ Replied said
      → IsEarly phase → Are (tells past) suites → suite_of suites number ≡ found
      → asked_for task number found ≡ Some (server, asked) → ((suites : Suites) → Are (tells (push past server asked heard)) suites → Left (go_on suites).after)
      → Left (heard_of task cache suites phase number found server asked said go_on).after
  goes_heard cache suites phase number None said go_on so is are there asks more = cc
  goes_heard cache suites phase number (Some suite) said go_on so is are there asks more = of (said_to asked said) refl
    where
      of : (said_of : Option Said) → said_to asked said ≡ said_of → Left (hear task cache suites phase number suite server asked said_of (λ suite. go_on (with_suite number suite suites))).after
      of None was = given_up cache suites (Lost server) (subst (λ heard. Are (tells (push past server asked heard)) suites) (sym so) (are_unsaid past suites server asked said was are))
      of (Some what) was =
          let one : Told = record { server = server; mode = mode_of asked; said = what } in
          let now : GatheredSuite = record suite { collector = tell one suite.collector } in
          let same : all_told now.collector ≡ one ∷ tells past number = all_told-tell one suite.collector ∙ ap (λ told. one ∷ told) (ap told_in (sym there) ∙ are.1 number) in
          goes_collected task (push past server asked heard) Left early given_up prepares cache suites phase number now (next now.collector) go_on is
          (λ it at. subst (λ heard. Are (tells (push past server asked heard)) (with_suite number it suites)) (sym so)
          (are_told past suites number server asked said what it (asks_lock task number (Some suite) server asked asks) was (ap all_told at ∙ same) are)) more

  -- what is told in an early phase
  pub goes_on : (fixed : Fixed) (cache : Cache) (suites : Suites) (phase : Phase) → IsEarly phase → Are (tells past) suites → request_in fixed task suites phase ≡ Some (server, asked)
      → (told : Response) → heard ≡ told → Left (after_response fixed (record { task = task; suites = suites; phase = phase }) cache server asked told).after
  goes_on fixed cache suites (Gathering number) is are asks (Lacked lacked) so = given_up cache suites (lack_cause server lacked)
      (subst (λ heard. Are (tells (push past server asked heard)) suites) (sym so) (are_lacked past suites server asked lacked are))
  goes_on fixed cache suites (Preparing left outcome) is are asks told so = absurd is
  goes_on fixed cache suites (Deciding outcome) is are asks told so = absurd is
  goes_on fixed cache suites (Finishing servers v ending) is are asks told so = absurd is
  goes_on fixed cache suites (Gathering number) is are asks (Replied said) so =
      goes_heard cache suites (Gathering number) number (suite_of suites number) said _ so tt are refl asks
      (λ suites are. goes_execute task (push past server asked heard) Left early given_up prepares fixed (record { suites = suites; cache = cache }) are)
  goes_on fixed cache suites (Fetching number) is are asks (Replied said) so =
      goes_fetched task (push past server asked heard) Left early given_up prepares fixed cache suites number (suite_of suites number) server (given_in said) refl
      (are_quiet past suites server asked heard (λ other. fetched_as (locks other) false task number (suite_of suites number) server asked refl asks) are)
  goes_on fixed cache suites (Widening [] granted) is are asks (Replied said) so = cc
  goes_on fixed cache suites (Widening (number ∷ left) granted) is are asks (Replied said) so =
      goes_heard cache suites (Widening (number ∷ left) granted) number (suite_of suites number) said _ so tt are refl asks
      (λ suites are. goes_widen task (push past server asked heard) Left early given_up prepares cache suites granted left are)
  goes_on fixed cache suites other is are asks (Lacked lacked) so = given_up cache suites (lack_cause server lacked)
      (subst (λ heard. Are (tells (push past server asked heard)) suites) (sym so) (are_lacked past suites server asked lacked are))
