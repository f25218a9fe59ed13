-- What a transaction does with a response is a move.
use Rattle.txn_core.proofs.Vocabulary.{◌≡◌, ℕ, zero, suc, true, false, cond, List, [], ◌∷◌, Option, Some, None, refl, sym, ap, subst, ◌∙◌, length, same_Some, none-some, Content, LockMode, Request, Reply, Lack, is_prepared, Hold, Know, Said, arith}
use Rattle.txn_core.proofs.Vocabulary.{Next, Ask, Current, Short, next, Cache, ReadPoint, GatheredSuite, Suites, suite_of, with_suite, Response, Replied, Lacked, Lost, Ending, Verdict, Granted, Fixed, Task, Ends, Proposal, Phase, Gathering, Fetching}
use Rattle.txn_core.proofs.Vocabulary.{Widening, Preparing, Deciding, Finishing, Step, Gathered, request_in, asked_for, on_with, tell_end, locked_at, give_up, prepare, gather_by, widen_by, widen_one, widened, widen_all, free_content, opened_with}
use Rattle.txn_core.proofs.Vocabulary.{open_first, open_suite, open_needed, or_all, opened, heard_on, raised_or_new, proceed, execute, said_to, collected, hear, keep_content, given_in, fetched, prepared, heard_of, after_reply, after_lack}
use Rattle.txn_core.proofs.Vocabulary.{after_response, Stage, Executes, Widens, Asks, Prepares, PreparesAt, GivesUp, Tells, TellsAt, Point, point, EndsIn, is_short, Move, opens, fetches, gathers, lacks_lock, refuses, grants, prepares, passes, widens}
use Rattle.txn_core.proofs.Vocabulary.{widens_by, lacks_wide, Moves, stays, goes, Collects, gathering, widening, now_told, AsksNothing, Hears, asks_on, falls_short, settles, loses, gets, misses, prepared_by, unprepared, decides, tells_next, told_all}
use Rattle.txn_core.proofs.Vocabulary.{is_lacked, strays, MovesTo, HearsTo, EveryResponseIsMoves, Outcome as Executed}
use Rattle.file_exec.specs.declared.executor.Outcome.TheVariants as exec

-- what a phase in which a collector asks asks is the collector's; one that asks nothing asks nothing
pub collects_asks : (fixed : Fixed) (task : Task) (suites : Suites) {phase : Phase} {number : ℕ} {stage : Stage} → Collects phase number stage → request_in fixed task suites phase ≡ asked_for task number (suite_of suites number)
collects_asks fixed task suites h3 = search arith

pub asks_nothing : (fixed : Fixed) (task : Task) (suites : Suites) (phase : Phase) → AsksNothing suites phase → request_in fixed task suites phase ≡ None
asks_nothing fixed task suites phase h4 = search arith

module _ (task : Task) where
  -- what holds of a step with the suites and the cache of the point where it ends, whatever is asked then
  pub left_by : (Left : Step → Type 0) (at : Point) (step : Step) → ((phase : Phase) → Left (on_with task at.cache at.suites phase)) → ((ending : Ending) → Left (record { cache = at.cache; after = Ends ending }))
      → EndsIn task at.cache at.suites at.stage step → Left step
  left_by Left at step goes_on ends is = of at.stage is
    where
      prepared' : (servers : List ℕ) (outcome : Proposal) → Left (prepare task at.cache at.suites outcome servers)
      prepared' servers outcome = search arith

      told : (servers : List ℕ) (v : Verdict) (ending : Ending) → Left (tell_end task at.cache at.suites v ending servers)
      told servers v ending = search arith

      of : (stage : Stage) → EndsIn task at.cache at.suites stage step → Left step
      of (Asks phase) is = subst Left is (goes_on phase)
      of (Prepares outcome) is = subst Left is (prepared' (locked_at at.suites) outcome)
      of (PreparesAt servers outcome) is = subst Left is (prepared' servers outcome)
      of (GivesUp cause) is = subst Left is (told (locked_at at.suites) _ _)
      of (Tells v ending) is = subst Left is (told (locked_at at.suites) v ending)
      of (TellsAt servers v ending) is = subst Left is (told servers v ending)
      of _ is = absurd is

module _ (fixed : Fixed) (task : Task) where
  -- ---- what follows a word

  -- what every move keeps is kept
  pub kept : (Holds : Point → Type 0) → ((at next : Point) → Move fixed task at next → Holds at → Holds next) → {at end : Point} → Moves fixed task at end → Holds at → Holds end
  kept Holds keeps stays holds = holds
  kept Holds keeps (goes move rest) holds = kept Holds keeps rest (keeps _ _ move holds)

  -- one move more; and the last
  more : {at mid : Point} {step : Step} → Move fixed task at mid → MovesTo fixed task mid step → MovesTo fixed task at step
  more move rest = record { end = rest.end; moves = goes move rest.moves; ends = rest.ends }

  last : {at : Point} {step : Step} (end : Point) → Move fixed task at end → EndsIn task end.cache end.suites end.stage step → MovesTo fixed task at step
  last end move ends = record { end = end; moves = goes move stays; ends = ends }

  goes_widen : (cache : Cache) (suites : Suites) (granted : Granted) (left : List ℕ) → MovesTo fixed task (point (Widens left granted) cache suites) (widen_all task cache suites granted left)
  goes_widen cache suites granted [] = last _ prepares refl
  goes_widen cache suites granted (number ∷ left) = of (suite_of suites number) refl (λ suites. goes_widen cache suites granted left)
    where
      by : (suite : GatheredSuite) → suite_of suites number ≡ Some suite → (coming : Next) → next (widened granted.changes number suite).collector ≡ coming
          → ((suites : Suites) → MovesTo fixed task (point (Widens left granted) cache suites) (widen_all task cache suites granted left))
          → MovesTo fixed task (point (Widens (number ∷ left) granted) cache suites)
          (widen_by task cache (with_suite number (widened granted.changes number suite) suites) (Widening (number ∷ left) granted) number coming (λ suites. widen_all task cache suites granted left))
      by suite there (Current prefix dver members) is rest = more (widens there is) (rest _)
      by suite there (Ask server asked) is rest = last _ (widens_by there is) refl
      by suite there (Short got wanting busy) is rest = last _ (lacks_wide there is) refl

      of : (found : Option GatheredSuite) → suite_of suites number ≡ found → ((suites : Suites) → MovesTo fixed task (point (Widens left granted) cache suites) (widen_all task cache suites granted left))
          → MovesTo fixed task (point (Widens (number ∷ left) granted) cache suites)
          (widen_one task cache suites (Widening (number ∷ left) granted) granted.changes number found (λ suites. widen_all task cache suites granted left))
      of (Some suite) there rest = by suite there (next (widened granted.changes number suite).collector) refl rest
      of None there rest = more (passes there) (rest suites)

  goes_gather : (cache : Cache) (suites : Suites) (number : ℕ) (mode : LockMode) (suite : GatheredSuite) → heard_on fixed task suites ≡ exec.Need (Hold number mode)
      → raised_or_new fixed task cache number mode (suite_of suites number) ≡ suite
      → (coming : Next) → next suite.collector ≡ coming → MovesTo fixed task (point Executes cache suites) (gather_by task cache (with_suite number suite suites) number coming)
  goes_gather cache suites number mode suite needs new (Short got wanting busy) is = last _ (lacks_lock needs new is) refl
  goes_gather cache suites number mode suite needs new _ is = last _ (gathers needs new (ap is_short is)) refl

  goes_proceed : (cache : Cache) (suites : Suites) (heard : Executed) → heard_on fixed task suites ≡ heard → MovesTo fixed task (point Executes cache suites) (proceed fixed task cache suites heard)
  goes_proceed cache suites (exec.Need (Hold number mode)) is = search (goes_gather, arith)
  goes_proceed cache suites (exec.Need (Know number)) is = last _ (fetches is) refl
  goes_proceed cache suites (exec.Done answers changes) is = more (grants is) (goes_widen cache suites _ _)
  goes_proceed cache suites (exec.Refused refusal) is = last _ (refuses is) refl

  abbrev goes_from : Gathered → Gathered → Type 0
  goes_from all open' = MovesTo fixed task (point Executes all.cache all.suites) (proceed fixed task open'.cache open'.suites (heard_on fixed task open'.suites))

  abbrev Later : ℕ → Type 0
  Later n = (more : Gathered) → goes_from more (opened n fixed task more)

  goes_opened : (n : ℕ) (all : Gathered) → goes_from all (opened n fixed task all)
  goes_opened zero all = goes_proceed all.cache all.suites (heard_on fixed task all.suites) refl
  goes_opened (suc n) all = of (heard_on fixed task all.suites) refl (λ more. goes_opened n more)
    where
      here : goes_from all all
      here = goes_proceed all.cache all.suites (heard_on fixed task all.suites) refl

      with_content : (number : ℕ) (suite : GatheredSuite) (first : ReadPoint) (content : Option Content) → heard_on fixed task all.suites ≡ exec.Need (Know number) → suite_of all.suites number ≡ Some suite → suite.first ≡ Some first
          → free_content task all.cache number first ≡ content → Later n → goes_from all (or_all all (opened_with task all number suite first content) (λ all. opened n fixed task all))
      with_content number suite first (Some content) needs there was free later = more (opens needs there was free) (later _)
      with_content number suite first None needs there was free later = here

      at_first : (number : ℕ) (suite : GatheredSuite) (first : Option ReadPoint) → heard_on fixed task all.suites ≡ exec.Need (Know number) → suite_of all.suites number ≡ Some suite → suite.first ≡ first → Later n
          → goes_from all (or_all all (open_first task all number suite first) (λ all. opened n fixed task all))
      at_first number suite (Some first) needs there was later = with_content number suite first (free_content task all.cache number first) needs there was refl later
      at_first number suite None needs there was later = here

      at_suite : (number : ℕ) (found : Option GatheredSuite) → heard_on fixed task all.suites ≡ exec.Need (Know number) → suite_of all.suites number ≡ found → Later n
          → goes_from all (or_all all (open_suite task all number found) (λ all. opened n fixed task all))
      at_suite number (Some suite) needs there later = at_first number suite suite.first needs there refl later
      at_suite number None needs there later = here

      of : (heard : Executed) → heard_on fixed task all.suites ≡ heard → Later n → goes_from all (or_all all (open_needed task all heard) (λ all. opened n fixed task all))
      of (exec.Need (Know number)) is later = at_suite number (suite_of all.suites number) is refl later
      of (exec.Need (Hold number mode)) is later = here
      of _ is later = here

  pub execute_moves : (all : Gathered) → MovesTo fixed task (point Executes all.cache all.suites) (execute fixed task all)
  execute_moves all = goes_opened (length all.suites) all

  -- ---- a word

  module _ (cache : Cache) (suites : Suites) (server : ℕ) (asked : Request) where
    abbrev Comes : Phase → Response → Step → Type 0
    Comes phase response step = HearsTo fixed task cache suites server asked phase response step

    -- a word after which it asks at once, and one from which more follows
    only : {phase : Phase} {response : Response} {step : Step} (heard : Point) → Hears fixed task cache suites server asked phase response heard → EndsIn task heard.cache heard.suites heard.stage step → Comes phase response step
    only heard hears ends = record { heard = heard; hears = hears; moves = record { end = heard; moves = stays; ends = ends } }

    first' : {phase : Phase} {response : Response} {heard : Point} {step : Step} → Hears fixed task cache suites server asked phase response heard → MovesTo fixed task heard step → Comes phase response step
    first' hears rest = record { heard = _; hears = hears; moves = rest }

    moves_heard : (phase : Phase) (number : ℕ) (stage : Stage) (reply : Reply) (go_on : Suites → Step) → Collects phase number stage → (suite_of suites number ≡ None → Comes phase (Replied reply) (give_up task cache suites (Lost server)))
        → ((suites : Suites) → MovesTo fixed task (point stage cache suites) (go_on suites))
        → Comes phase (Replied reply) (heard_of task cache suites phase number (suite_of suites number) server asked reply go_on)
    moves_heard phase number stage reply go_on collects none rest = of (suite_of suites number) refl
      where
        by : (suite : GatheredSuite) → suite_of suites number ≡ Some suite → (said : Said) → said_to asked reply ≡ Some said → (coming : Next) → next (now_told server asked said suite).collector ≡ coming
            → Comes phase (Replied reply) (collected task cache suites phase number (now_told server asked said suite) coming (λ suite. go_on (with_suite number suite suites)))
        by suite there said heard (Ask who what) is = only _ (asks_on collects there heard is) refl
        by suite there said heard (Short got wanting busy) is = only _ (falls_short collects there heard is) refl
        by suite there said heard (Current prefix dver members) is = first' (settles collects there heard is) (rest _)

        at : (suite : GatheredSuite) → suite_of suites number ≡ Some suite → (said : Option Said) → said_to asked reply ≡ said
            → Comes phase (Replied reply) (hear task cache suites phase number suite server asked said (λ suite. go_on (with_suite number suite suites)))
        at suite there (Some said) heard = by suite there said heard (next (now_told server asked said suite).collector) refl
        at suite there None heard = only _ (loses collects there heard) refl

        of : (found : Option GatheredSuite) → suite_of suites number ≡ found → Comes phase (Replied reply) (heard_of task cache suites phase number found server asked reply go_on)
        of (Some suite) there = at suite there (said_to asked reply) refl
        of None there = none there

    moves_fetched : (number : ℕ) (reply : Reply) → Comes (Fetching number) (Replied reply) (fetched fixed task cache suites number (suite_of suites number) server (given_in reply))
    moves_fetched number reply = of (suite_of suites number) refl (given_in reply) refl
      where
        kept : (suite : GatheredSuite) → suite_of suites number ≡ Some suite → (content : Content) → given_in reply ≡ Some content → (first : Option ReadPoint) → suite.first ≡ first
            → Comes (Fetching number) (Replied reply) (keep_content fixed task cache suites number suite content first server)
        kept suite there content given (Some first) was = first' (gets there was given) (execute_moves _)
        kept suite there content given None was = only _ (strays (λ other is. ap (λ (suite : GatheredSuite). suite.first) (same_Some other suite (sym is ∙ there)) ∙ was)) refl

        of : (found : Option GatheredSuite) → suite_of suites number ≡ found → (given : Option Content) → given_in reply ≡ given → Comes (Fetching number) (Replied reply) (fetched fixed task cache suites number found server given)
        of (Some suite) there (Some content) given = kept suite there content given suite.first refl
        of (Some suite) there None given = only _ (misses given) refl
        of None there None given = only _ (misses given) refl
        of None there (Some content) given = only _ (strays (λ other is. absurd (none-some other (sym there ∙ is)))) refl

    moves_prepared : (now : ℕ) (left : List ℕ) (outcome : Proposal) (reply : Reply) → Comes (Preparing (now ∷ left) outcome) (Replied reply) (prepared task cache suites outcome server left reply)
    moves_prepared now left outcome reply =
        elim (is_prepared reply) as (λ b. is_prepared reply ≡ b → Comes (Preparing (now ∷ left) outcome) (Replied reply) (cond b (prepare task cache suites outcome left) (give_up task cache suites (Lost server)))) [
          | true ↦ λ is. only _ (prepared_by is) refl
          | false ↦ λ is. only _ (unprepared is) refl
        ] refl

    moves_reply : (phase : Phase) (reply : Reply) → Comes phase (Replied reply) (after_reply fixed task cache suites phase server asked reply)
    moves_reply (Gathering number) reply = moves_heard (Gathering number) number Executes reply _ gathering (λ none. only _ (strays none) refl) (λ suites. execute_moves (record { suites = suites; cache = cache }))
    moves_reply (Fetching number) reply = moves_fetched number reply
    moves_reply (Widening [] granted) reply = only _ (strays tt) refl
    moves_reply (Widening (number ∷ left) granted) reply = moves_heard (Widening (number ∷ left) granted) number (Widens left granted) reply _ widening (λ none. only _ (strays none) refl) (λ suites. goes_widen cache suites granted left)
    moves_reply (Preparing [] outcome) reply = only _ (strays tt) refl
    moves_reply (Preparing (now ∷ left) outcome) reply = moves_prepared now left outcome reply
    moves_reply (Deciding outcome) reply = only _ decides refl
    moves_reply (Finishing [] verdict ending) reply = only _ told_all refl
    moves_reply (Finishing (now ∷ left) verdict ending) reply = only _ tells_next refl

    moves_lack : (phase : Phase) (lack : Lack) → Comes phase (Lacked lack) (after_lack task cache suites phase server lack)
    moves_lack (Finishing [] verdict ending) lack = only _ told_all refl
    moves_lack (Finishing (now ∷ left) verdict ending) lack = only _ tells_next refl
    moves_lack _ lack = only _ (is_lacked tt) refl

    pub response_moves : (phase : Phase) (response : Response) → Comes phase response (after_response fixed (record { task = task; suites = suites; phase = phase }) cache server asked response)
    response_moves phase response = search (moves_reply, moves_lack, arith)

pub every_response_is_moves : EveryResponseIsMoves
every_response_is_moves = search (execute_moves, response_moves, arith)
