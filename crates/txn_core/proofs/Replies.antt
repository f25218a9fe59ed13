-- What comes of a reply, phase by phase.
use Rattle.txn_core.proofs.Vocabulary.{◌≡◌, ℕ, true, List, ◌∷◌, Option, Some, None, refl, sym, ap, ◌∙◌, subst, option_map, Request, Reply, Verdict, Asked, Next, Ask, next, Cache, Replied, Fixed, Task, Granted, arith, Proposal, Phase, Gathering}
use Rattle.txn_core.proofs.Vocabulary.{Widening, Preparing, Deciding, Finishing, TransactionRun, GoesOn, GoesBy, IsWidenedFrom, ending_of, held, held_from, ShowsUnused, asks_in, heard, on_hearing, FitsAsked, taken, GatheredSuite, Suites, suite_of}
use Rattle.txn_core.proofs.Vocabulary.{with_suite, Step, decided, execute, widen_all, asked_by, asked_for, request_in, request_of, prepared, tell_end, shows_unused, Ending, Flow}
use Rattle.txn_core.specs.code.Goings.{widened as widens}

abbrev pub server_of : Option (ℕ × Request) → Option ℕ
server_of asked = option_map (λ (asked : ℕ × Request). asked.0) asked

-- the server that is asked in a phase
pub asked_at : (fixed : Fixed) (txn_run : TransactionRun) (phase : Phase) (found : Option ℕ) → txn_run.phase ≡ phase → found ≡ server_of (request_in fixed txn_run.task txn_run.suites phase) → server_of (request_of fixed txn_run) ≡ found
asked_at fixed txn_run phase found is same = ap (λ phase. server_of (request_in fixed txn_run.task txn_run.suites phase)) is ∙ sym same

-- a suite that asks a server
pub record Asks (task : Task) (suites : Suites) (number server : ℕ) : Type 0 where
  pub suite : GatheredSuite
  pub asked : Asked
  pub there : suite_of suites number ≡ Some suite
  pub asks : next suite.collector ≡ Ask server asked

asks_by : (task : Task) (suites : Suites) (number server : ℕ) (suite : GatheredSuite) (n : Next) → suite_of suites number ≡ Some suite → next suite.collector ≡ n
    → server_of (asked_by task number n) ≡ Some server → Asks task suites number server
asks_by task suites number server suite n h6 h7 h8 = search arith

asks_at : (task : Task) (suites : Suites) (number server : ℕ) (found : Option GatheredSuite) → suite_of suites number ≡ found → server_of (asked_for task number found) ≡ Some server → Asks task suites number server
asks_at task suites number server found h5 h6 = search arith

pub asks_of : (task : Task) (suites : Suites) (number server : ℕ) → server_of (asked_for task number (suite_of suites number)) ≡ Some server → Asks task suites number server
asks_of task suites number server asked = asks_at task suites number server (suite_of suites number) refl asked

module _ (fixed : Fixed) (txn_run : TransactionRun) (cache : Cache) (number server : ℕ) (said : Reply) where
  -- a suite is gathered
  pub gathered : (a : Asks txn_run.task txn_run.suites number server) → txn_run.phase ≡ Gathering number
      → taken fixed txn_run cache (request_of fixed txn_run) (Replied said)
      ≡ on_hearing txn_run.task cache txn_run.suites txn_run.phase number server (heard a.suite said) (λ suite. execute fixed txn_run.task (record { suites = with_suite number suite txn_run.suites; cache = cache }))
  gathered a is = search arith

  -- a suite is widened
  pub widened : (a : Asks txn_run.task txn_run.suites number server) (left : List ℕ) (granted : Granted) → txn_run.phase ≡ Widening (number ∷ left) granted
      → taken fixed txn_run cache (request_of fixed txn_run) (Replied said)
      ≡ on_hearing txn_run.task cache txn_run.suites txn_run.phase number server (heard a.suite said) (λ suite. widen_all txn_run.task cache (with_suite number suite txn_run.suites) granted left)
  widened a left granted is = search arith

-- ---- as the code goes about them

-- the home decides
pub replied_decided : (fixed : Fixed) (txn_run : TransactionRun) (cache : Cache) (said : Reply) (outcome : Proposal) → txn_run.phase ≡ Deciding outcome
    → taken fixed txn_run cache (request_of fixed txn_run) (Replied said) ≡ decided txn_run.task cache txn_run.suites said
replied_decided fixed txn_run cache said outcome is = search arith

-- a server prepared, and a server was told the end
pub replied_prepared : (fixed : Fixed) (txn_run : TransactionRun) (cache : Cache) (said : Reply) (server : ℕ) (left : List ℕ) (outcome : Proposal) → txn_run.phase ≡ Preparing (server ∷ left) outcome
    → taken fixed txn_run cache (request_of fixed txn_run) (Replied said) ≡ prepared txn_run.task cache txn_run.suites outcome server left said
replied_prepared fixed txn_run cache said server left outcome is = search arith

pub replied_told : (fixed : Fixed) (txn_run : TransactionRun) (cache : Cache) (said : Reply) (server : ℕ) (left : List ℕ) (verdict : Verdict) (ending : Ending) → txn_run.phase ≡ Finishing (server ∷ left) verdict ending
    → taken fixed txn_run cache (request_of fixed txn_run) (Replied said) ≡ tell_end txn_run.task cache txn_run.suites verdict ending left
replied_told fixed txn_run cache said server left verdict ending is = search arith

module _ (fixed : Fixed) (txn_run : TransactionRun) (cache : Cache) (server : ℕ) (said : Reply) (asked : server_of (request_of fixed txn_run) ≡ Some server) where
  asked_in_phase : (phase : Phase) → txn_run.phase ≡ phase → server_of (request_in fixed txn_run.task txn_run.suites phase) ≡ Some server
  asked_in_phase phase is = ap (λ phase. server_of (request_in fixed txn_run.task txn_run.suites phase)) (sym is) ∙ asked

  -- the suite that is gathered, and the one that is widened
  pub gathering : (number : ℕ) → txn_run.phase ≡ Gathering number → Asks txn_run.task txn_run.suites number server
  gathering number is = asks_of txn_run.task txn_run.suites number server (asked_in_phase (Gathering number) is)

  pub widening : (number : ℕ) (left : List ℕ) (granted : Granted) → txn_run.phase ≡ Widening (number ∷ left) granted → Asks txn_run.task txn_run.suites number server
  widening number left granted is = asks_of txn_run.task txn_run.suites number server (asked_in_phase (Widening (number ∷ left) granted) is)

  -- and what comes of a reply to them
  pub replied_held : (number : ℕ) → txn_run.phase ≡ Gathering number → taken fixed txn_run cache (request_of fixed txn_run) (Replied said) ≡ held fixed txn_run cache number server said
  replied_held number is = search (gathering number is, gathered, arith)

  pub replied_widened : (number : ℕ) (left : List ℕ) (granted : Granted) → txn_run.phase ≡ Widening (number ∷ left) granted
      → taken fixed txn_run cache (request_of fixed txn_run) (Replied said) ≡ widens txn_run cache number server left granted said
  replied_widened number left granted is = search (widening number left granted is, widened, arith)

  -- what such a reply shows is not used up
  shown_by : (number : ℕ) (a : Asks txn_run.task txn_run.suites number server) (phase : Phase) → txn_run.phase ≡ phase → request_in fixed txn_run.task txn_run.suites phase ≡ asked_for txn_run.task number (suite_of txn_run.suites number)
      → FitsAsked (request_of fixed txn_run) (Replied said) → shows_unused said ≡ true
  shown_by number a phase is same fits = search arith

  pub gathering_shown : (number : ℕ) → txn_run.phase ≡ Gathering number → FitsAsked (request_of fixed txn_run) (Replied said) → shows_unused said ≡ true
  gathering_shown number is fits = shown_by number (gathering number is) (Gathering number) is refl fits

-- ---- a suite is answered by the server that it asks; where it asks nobody, nothing comes of it

module _ (fixed : Fixed) (txn_run : TransactionRun) (cache : Cache) (said : Reply) where
  pub none_taken : (asked : Option (ℕ × Request)) → server_of asked ≡ None → taken fixed txn_run cache asked (Replied said) ≡ record { cache = cache; after = GoesOn txn_run }
  none_taken asked h1 = search arith

  pub replied_where_asked : (number : ℕ) → txn_run.phase ≡ Gathering number
      → taken fixed txn_run cache (request_of fixed txn_run) (Replied said) ≡ held_from fixed txn_run cache number (asks_in txn_run number) said
  replied_where_asked number is = search (asked_at, replied_held, none_taken, arith)

  pub widened_where_asked : (number : ℕ) (left : List ℕ) (granted : Granted) (flow : Flow) (after : TransactionRun) → txn_run.phase ≡ Widening (number ∷ left) granted
      → IsWidenedFrom (asks_in txn_run number) txn_run number said flow after → GoesBy (taken fixed txn_run cache (request_of fixed txn_run) (Replied said)) flow after cache
  widened_where_asked number left granted flow after is widened =
      of (asks_in txn_run number) (asked_at fixed txn_run (Widening (number ∷ left) granted) (asks_in txn_run number) is refl) widened
    where
      of : (found : Option ℕ) → server_of (request_of fixed txn_run) ≡ found → IsWidenedFrom found txn_run number said flow after
          → GoesBy (taken fixed txn_run cache (request_of fixed txn_run) (Replied said)) flow after cache
      of (Some server) asked widened =
          let Goes : Step → Type 0 = λ step. GoesBy step flow after cache in
          subst Goes (sym (replied_widened fixed txn_run cache server said asked number left granted is)) (widened left granted cache is)
      of None asked widened =
          let Goes : Step → Type 0 = λ step. GoesBy step flow after cache in
          subst Goes (sym (none_taken (request_of fixed txn_run) asked)) (refl, (ap ending_of widened.0, widened.1))

  -- what that server says shows no version that is used up
  pub gathering_shows : (number : ℕ) → txn_run.phase ≡ Gathering number → FitsAsked (request_of fixed txn_run) (Replied said) → ShowsUnused txn_run number said
  gathering_shows number is fits server asks = gathering_shown fixed txn_run cache server said (asked_at fixed txn_run (Gathering number) (Some server) is (sym asks)) number is fits

  pub widening_shows : (number : ℕ) (left : List ℕ) (granted : Granted) → txn_run.phase ≡ Widening (number ∷ left) granted → FitsAsked (request_of fixed txn_run) (Replied said) → ShowsUnused txn_run number said
  widening_shows number left granted is fits server asks = search arith
