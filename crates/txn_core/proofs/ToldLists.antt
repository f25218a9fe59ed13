-- What a response makes of the lists of what was told to a transaction's collectors.
use Rattle.txn_core.proofs.Vocabulary.{◌≡◌, ℕ, zero, suc, Bool, true, false, cond, List, [], ◌∷◌, Option, Some, None, refl, sym, ap, subst, ◌∙◌, ◌==◌, nat_cmp, unsigned_tied, eqb-true, same_Some, none-some, nat_cmp_total, IsOrdered, arith}
use Rattle.txn_core.proofs.Vocabulary.{get-insert, IsOrdered-insert, Content, LockMode, Request, Reply, locks, told_by, more_told, Hold, Know, Told, Said, Collector, all_told, tell, mode_of, next, Cache, ReadPoint, GatheredSuite, Suites, suite_of}
use Rattle.txn_core.proofs.Vocabulary.{with_suite, told_in, told_at, Response, Replied, Fixed, Task, Phase, Gathering, Fetching, Widening, TransactionRun, After, GoesOn, Ends, Stage, Executes, Point, point, Move, opens, gathers, lacks_lock, widens}
use Rattle.txn_core.proofs.Vocabulary.{widens_by, lacks_wide, MovesTo, Collects, now_told, asks_on, falls_short, settles, loses, is_lacked, strays, gets, Step, Gathered, opened, or_all, open_needed, open_suite, open_first, opened_with, free_content}
use Rattle.txn_core.proofs.Vocabulary.{heard_on, raised_or_new, said_to, execute, after_response, asked_for, request_in, Outcome as Executed, Hears as Moved}
use Rattle.std.specs.List.Sorted.{IsStrictlySortedBy}
use Rattle.file_exec.specs.declared.executor.Outcome.TheVariants as exec
use Rattle.txn_core.proofs.Moving.{kept, left_by, collects_asks, asks_nothing, execute_moves, response_moves}

-- ---- what was told of each suite

-- suites in order, of which this was told
abbrev pub Are : (ℕ → List Told) → Suites → Type 0
Are told suites = IsOrdered nat_cmp suites × ((number : ℕ) → told_at suites number ≡ told number)

-- the same, once another suite stands at a number, of which something is told
abbrev pub told_with : ℕ → List Told → (ℕ → List Told) → ℕ → List Told
told_with number now told other = cond (number == other) now (told other)

pub are_with : (told : ℕ → List Told) (suites : Suites) (number : ℕ) (suite : GatheredSuite) → Are told suites → Are (told_with number (all_told suite.collector) told) (with_suite number suite suites)
are_with told suites number suite are = (
  IsOrdered-insert nat_cmp_total suites number suite are.0,
  λ other.
      ap told_in (get-insert nat_cmp_total suites number suite other)
      ∙ ap (λ b. told_in (cond b (Some suite) (suite_of suites other))) (unsigned_tied number other)
      ∙ at other (number == other),
)
  where
    at : (other : ℕ) (b : Bool) → told_in (cond b (Some suite) (suite_of suites other)) ≡ cond b (all_told suite.collector) (told other)
    at other b = search arith

-- nothing new is told
pub are_same : (told : ℕ → List Told) (suites : Suites) (number : ℕ) (suite : GatheredSuite) → Are told suites → all_told suite.collector ≡ told_at suites number → Are told (with_suite number suite suites)
are_same told suites number suite are same = search (are_with told suites number suite are, eqb-true, arith)

pub are_nil : Are (λ number. []) []
unfolding IsStrictlySortedBy
are_nil = (tt, λ number. refl)

-- ---- steps that hear nothing

-- what is left of a step has suites of which this was told
abbrev pub Leaves : (ℕ → List Told) → After TransactionRun → Type 0
Leaves told (GoesOn txn_run) = Are told txn_run.suites
Leaves told (Ends ending) = Unit {0}

-- a content that is opened
pub are_opened : (told : ℕ → List Told) (n : ℕ) (fixed : Fixed) (task : Task) (all : Gathered) → Are told all.suites → Are told (opened n fixed task all).suites
are_opened told zero fixed task all are = are
are_opened told (suc n) fixed task all are = of (heard_on fixed task all.suites) (λ more are. are_opened told n fixed task more are)
  where
    or' : (found : Option Gathered) → ((more : Gathered) → found ≡ Some more → Are told more.suites) → ((more : Gathered) → Are told more.suites → Are told (opened n fixed task more).suites)
        → Are told (or_all all found (λ all. opened n fixed task all)).suites
    or' found h1 h2 = search arith

    with_content : (number : ℕ) (suite : GatheredSuite) (first : ReadPoint) (content : Option Content) (more : Gathered) → suite_of all.suites number ≡ Some suite → opened_with task all number suite first content ≡ Some more
        → Are told more.suites
    with_content number suite first (Some content) more there is =
        subst (λ (more : Gathered). Are told more.suites) (same_Some _ more is) (are_same told all.suites number (record suite { content = Some content }) are (sym (ap told_in there)))
    with_content number suite first None more there is = cc

    at_first : (number : ℕ) (suite : GatheredSuite) (first : Option ReadPoint) (more : Gathered) → suite_of all.suites number ≡ Some suite → open_first task all number suite first ≡ Some more → Are told more.suites
    at_first number suite (Some first) more there is = with_content number suite first (free_content task all.cache number first) more there is
    at_first number suite None more there is = cc

    at_suite : (number : ℕ) (found : Option GatheredSuite) (more : Gathered) → suite_of all.suites number ≡ found → open_suite task all number found ≡ Some more → Are told more.suites
    at_suite number (Some suite) more there is = at_first number suite suite.first more there is
    at_suite number None more there is = cc

    needed' : (heard : Executed) (more : Gathered) → open_needed task all heard ≡ Some more → Are told more.suites
    needed' (exec.Need (Know number)) more is = at_suite number (suite_of all.suites number) more refl is
    needed' (exec.Need (Hold number mode)) more is = cc
    needed' _ more is = cc

    of : (heard : Executed) → ((more : Gathered) → Are told more.suites → Are told (opened n fixed task more).suites) → Are told (or_all all (open_needed task all heard) (λ all. opened n fixed task all)).suites
    of heard later = or' (open_needed task all heard) (needed' heard) later

pub told_raised : (fixed : Fixed) (task : Task) (cache : Cache) (number : ℕ) (mode : LockMode) (found : Option GatheredSuite) → all_told (raised_or_new fixed task cache number mode found).collector ≡ told_in found
told_raised fixed task cache number mode found = search arith

-- a move tells nothing
pub move_are : (told : ℕ → List Told) (fixed : Fixed) (task : Task) {at next : Point} → Move fixed task at next → Are told at.suites → Are told next.suites
move_are told fixed task (opens {suites = suites} {number = number} needs there was free) are = are_same told suites number _ are (sym (ap told_in there))
move_are told fixed task (gathers {cache = cache} {suites = suites} {number = number} {mode = mode} needs new more) are =
    are_same told suites number _ are (ap (λ (suite : GatheredSuite). all_told suite.collector) (sym new) ∙ told_raised fixed task cache number mode (suite_of suites number))
move_are told fixed task (lacks_lock {cache = cache} {suites = suites} {number = number} {mode = mode} needs new short) are =
    are_same told suites number _ are (ap (λ (suite : GatheredSuite). all_told suite.collector) (sym new) ∙ told_raised fixed task cache number mode (suite_of suites number))
move_are told fixed task (widens {suites = suites} {number = number} there is) are = are_same told suites number _ are (sym (ap told_in there))
move_are told fixed task (widens_by {suites = suites} {number = number} there is) are = are_same told suites number _ are (sym (ap told_in there))
move_are told fixed task (lacks_wide {suites = suites} {number = number} there is) are = are_same told suites number _ are (sym (ap told_in there))
move_are told fixed task _ are = are

pub moves_leave : (told : ℕ → List Told) (fixed : Fixed) (task : Task) (at : Point) (step : Step) → MovesTo fixed task at step → Are told at.suites → Leaves told step.after
moves_leave told fixed task at step moves are =
    let are' = kept fixed task (λ at. Are told at.suites) (λ at next move are. move_are told fixed task move are) moves.moves are in
    left_by task (λ step. Leaves told step.after) moves.end step (λ phase. are') (λ ending. tt) moves.ends

pub leaves_execute : (told : ℕ → List Told) (fixed : Fixed) (task : Task) (all : Gathered) → Are told all.suites → Leaves told (execute fixed task all).after
leaves_execute told fixed task all are = moves_leave told fixed task (point Executes all.cache all.suites) (execute fixed task all) (execute_moves fixed task all) are

-- ---- a step that hears something

pub all_told-tell : (one : Told) (c : Collector) → all_told (tell one c) ≡ one ∷ all_told c
all_told-tell one c = search arith

-- what a collector asks is for a lock on its suite
pub asks_lock : (task : Task) (number : ℕ) (found : Option GatheredSuite) (server : ℕ) (asked : Request) → asked_for task number found ≡ Some (server, asked) → (other : ℕ) → locks other asked ≡ (number == other)
asks_lock task number found server asked h5 other = search arith

-- a phase in which no collector asks asks for no lock
abbrev pub IsQuiet : Phase → Type 0
IsQuiet (Gathering number) = ⊥
IsQuiet (Widening left granted) = ⊥
IsQuiet other = Unit {0}

pub quiet_asks : (fixed : Fixed) (task : Task) (suites : Suites) (phase : Phase) (server : ℕ) (asked : Request) → IsQuiet phase → request_in fixed task suites phase ≡ Some (server, asked) → (other : ℕ) → locks other asked ≡ false
quiet_asks fixed task suites phase server asked h6 h7 other = search arith

-- ---- the lists after a response

-- what a response adds to a list
abbrev pub heard_by : ℕ → List Told → ℕ → Request → Response → List Told
heard_by z list i asked response = cond (locks z asked) (told_by list (record { server = i; request = asked; response = response }) response) list

-- the lists after a response: of each suite what was there, with what the response tells of it
pub record Hears (told : ℕ → List Told) (server : ℕ) (asked : Request) (response : Response) (after : After TransactionRun) : Type 0 where
  pub lists : ℕ → List Told
  pub leaves : Leaves lists after
  pub are : (z : ℕ) → lists z ≡ heard_by z (told z) server asked response

-- the lists at a point, and after its moves
record At (told : ℕ → List Told) (server : ℕ) (asked : Request) (response : Response) (at : Point) : Type 0 where
  lists : ℕ → List Told
  leaves : Are lists at.suites
  are : (z : ℕ) → lists z ≡ heard_by z (told z) server asked response

module _ (told : ℕ → List Told) (fixed : Fixed) (task : Task) (cache : Cache) (suites : Suites) (server : ℕ) (asked : Request) (are : Are told suites) where
  same_if : {A : Type 0} (b : Bool) (x : A) → x ≡ cond b x x
  same_if b x = search arith

  quiet : (phase : Phase) (response : Response) → IsQuiet phase → request_in fixed task suites phase ≡ Some (server, asked) → (z : ℕ) → told z ≡ heard_by z (told z) server asked response
  quiet phase response none is z = sym (ap (λ b. cond b (told_by (told z) (record { server = server; request = asked; response = response }) response) (told z)) (quiet_asks fixed task suites phase server asked none is z))

  one_more : {phase : Phase} {number : ℕ} {stage : Stage} (suite new : GatheredSuite) (reply : Reply) (said : Said) → request_in fixed task suites phase ≡ Some (server, asked)
      → Collects phase number stage → suite_of suites number ≡ Some suite
      → said_to asked reply ≡ Some said → new.collector ≡ (now_told server asked said suite).collector → (stage' : Stage) (cache' : Cache) → At told server asked (Replied reply) (point stage' cache' (with_suite number new suites))
  one_more {number = number} suite new reply said is collects there says same stage' cache' =
      let one : Told = record { server = server; mode = mode_of asked; said = said } in
      record {
        lists = told_with number (all_told new.collector) told;
        leaves = are_with told suites number new are;
        are = λ z.
            let list : all_told new.collector ≡ one ∷ told number = ap all_told same ∙ all_told-tell one suite.collector ∙ ap (λ list. one ∷ list) (ap told_in (sym there) ∙ are.1 number) in
            ap (λ list. cond (number == z) list (told z)) list
            ∙ elim (number == z) as (λ b. (number == z) ≡ b → cond b (one ∷ told number) (told z) ≡ cond b (one ∷ told z) (told z)) [
              | true ↦ λ e. ap (λ n. one ∷ told n) (eqb-true number z e)
              | false ↦ λ _. refl
            ] refl
            ∙ ap (λ b. cond b (one ∷ told z) (told z)) (sym (asks_lock task number (suite_of suites number) server asked (sym (collects_asks fixed task suites collects) ∙ is) z))
            ∙ ap (λ h. cond (locks z asked) (more_told (told z) server asked h) (told z)) (sym says);
      }

  hears_at : {phase : Phase} {response : Response} {heard : Point} → Moved fixed task cache suites server asked phase response heard → request_in fixed task suites phase ≡ Some (server, asked) → At told server asked response heard
  hears_at (asks_on {suite = suite} {reply = reply} {said = said} collects there says next) is = one_more suite _ reply said is collects there says refl _ _
  hears_at (falls_short {suite = suite} {reply = reply} {said = said} collects there says next) is = one_more suite _ reply said is collects there says refl _ _
  hears_at (settles {suite = suite} {reply = reply} {said = said} collects there says next) is = one_more suite _ reply said is collects there says refl _ _
  hears_at (loses collects there none) is = record { lists = told; leaves = are; are = λ z. same_if (locks z asked) (told z) ∙ ap (λ h. cond (locks z asked) (more_told (told z) server asked h) (told z)) (sym none) }
  hears_at (is_lacked open') is = record { lists = told; leaves = are; are = λ z. same_if (locks z asked) (told z) }
  hears_at (strays {phase = phase} nothing) is = absurd (none-some (server, asked) (sym (asks_nothing fixed task suites phase nothing) ∙ is))
  hears_at (gets {number = number} {reply = reply} there was given) is = record { lists = told; leaves = are_same told suites number _ are (sym (ap told_in there)); are = quiet (Fetching number) (Replied reply) tt is }
  hears_at {phase = phase} {response = response} _ is = record { lists = told; leaves = are; are = quiet phase response tt is }

pub hears_response : (told : ℕ → List Told) (fixed : Fixed) (task : Task) (cache : Cache) (suites : Suites) (phase : Phase) (server : ℕ) (asked : Request) (response : Response) → Are told suites
    → request_in fixed task suites phase ≡ Some (server, asked) → Hears told server asked response (after_response fixed (record { task = task; suites = suites; phase = phase }) cache server asked response).after
hears_response told fixed task cache suites phase server asked response are is =
    let moves = response_moves fixed task cache suites server asked phase response in
    let now = hears_at told fixed task cache suites server asked are moves.hears is in
    record { lists = now.lists; leaves = moves_leave now.lists fixed task moves.heard _ moves.moves now.leaves; are = now.are }
