-- The servers that hold locks for a transaction are those that were heard to hold one.
use Rattle.law_agents.proofs.Vocabulary.{◌≡◌, ℕ, Bool, true, false, cond, List, [], ◌∷◌, ◌++◌, Some, None, refl, sym, ap, ◌∙◌, ◌==◌, ◌&&◌, ◌||◌, filter, nat_cmp, is_at, false≢true, IsOrdered, Shared, max_servers, Request, Told, arith, holds}
use Rattle.law_agents.proofs.Vocabulary.{Response, numbers_from, locked_at, Exchange, locks, says_held, was_held, told_of, told_by, self, Are}
use Rattle.std.specs.Cmp.{unsigned_tied}
use Rattle.std.specs.Map.{keys_of}
use Rattle.std.proofs.lemmas.Cmp.{nat_cmp_total, eq_by_cmp_equiv}
use Rattle.std.proofs.lemmas.List.Folds.{list_any-append}
use Rattle.std.proofs.lemmas.Map.{lookup-none}
use Rattle.std.proofs.lemmas.Map.Entries.{none_past_head}
use Rattle.std.proofs.lemmas.Map.Keys.{IsDistinct-from_sorted, sorted_tail}
use Rattle.txn_core.proofs.SuiteQuorums.{or_true}
use Rattle.txn_core.proofs.Ready.{has_one}
use Rattle.law_agents.specs.Orders.{wants_lock, was_locked, locked}
use Rattle.txn_core.specs.Suites.{told_at, Suites, suite_of, told_in, holds_lock, has_locks}
use Rattle.rep_core.specs.declared.request.Request.TheVariants as request

-- ---- what was told of a suite is what was heard of it

one_held : (number who : ℕ) (before : List Told) (one : Exchange) (lock : Bool) (heard : Response)
    → holds Shared (cond lock (told_by before one heard) before) who ≡ (((one.server == who) && lock && says_held heard) || holds Shared before who)
one_held number who before one lock heard = search arith

pub held_from : (number who : ℕ) (before : List Told) (past : List Exchange) → holds Shared (told_of number before past) who ≡ (holds Shared before who || was_held past number who)
held_from number who before [] = of (holds Shared before who)
  where
    of : (b : Bool) → b ≡ (b || false)
    of true = refl
    of false = refl
held_from number who before (one ∷ past) =
    held_from number who (cond (locks number one.request) (told_by before one one.response) before) past
    ∙ ap (λ b. b || was_held past number who) (one_held number who before one (locks number one.request) one.response)
    ∙ swap ((one.server == who) && locks number one.request && says_held one.response) (holds Shared before who) (was_held past number who)
  where
    swap : (a b c : Bool) → ((a || b) || c) ≡ (b || (a || c))
    swap true true c = refl
    swap true false c = refl
    swap false b c = refl

-- ---- of which suite it was heard

-- a lock on a suite is a lock
locks_wants : (number : ℕ) (asked : Request) → locks number asked ≡ true → wants_lock asked ≡ true
locks_wants number asked h2 = search arith

-- and each lock is one on a suite
wants_locks : (asked : Request) → wants_lock asked ≡ true → (number : ℕ) × (locks number asked ≡ true)
wants_locks (request.Poll t suite mode) is = (suite, self suite)
wants_locks (request.Upgrade t suite) is = (suite, self suite)
wants_locks other is = cc

held_locked : (number who : ℕ) (past : List Exchange) → was_held past number who ≡ true → was_locked past who ≡ true
held_locked number who [] is = cc
held_locked number who (one ∷ past) is = search (locks_wants, or_true, held_locked number who past, arith)

locked_held : (who : ℕ) (past : List Exchange) → was_locked past who ≡ true → (number : ℕ) × (was_held past number who ≡ true)
locked_held who [] is = cc
locked_held who (one ∷ past) is =
    of (λ is. let rest = locked_held who past is in (rest.0, or_true ((one.server == who) && locks rest.0 one.request && says_held one.response) rest.1))
    (one.server == who) (wants_lock one.request) (says_held one.response) refl refl refl is
  where
    of : (was_locked past who ≡ true → (number : ℕ) × (was_held (one ∷ past) number who ≡ true)) → (a b c : Bool) → (one.server == who) ≡ a → wants_lock one.request ≡ b
        → says_held one.response ≡ c → ((a && b && c) || was_locked past who) ≡ true → (number : ℕ) × (was_held (one ∷ past) number who ≡ true)
    of h0 a b c h4 h5 h6 h7 = search (wants_locks, arith)

-- ---- suites that hold locks

one_of : (suites : Suites) (server : ℕ) → IsOrdered nat_cmp suites → has_locks suites server ≡ true → (number : ℕ) × (holds Shared (told_at suites number) server ≡ true)
one_of [] server ordered is = cc
one_of (e ∷ es) server ordered is = of (one_of es server (sorted_tail nat_cmp e.0 (keys_of es) ordered)) (holds_lock e.1 server) refl is
  where
    here : is_at (nat_cmp e.0) e.0 ≡ true
    here = unsigned_tied e.0 e.0 ∙ self e.0

    at : (number : ℕ) (b : Bool) → is_at (nat_cmp number) e.0 ≡ b → holds Shared (told_at es number) server ≡ true → holds Shared (told_in (cond b (Some e.1) (suite_of es number))) server ≡ true
    at number false other is = is
    at number true same is =
        let none : suite_of es number ≡ None = lookup-none (is_at (nat_cmp number)) es (none_past_head (eq_by_cmp_equiv nat_cmp_total) number e es (IsDistinct-from_sorted nat_cmp _ ordered) same) in
        absurd (false≢true (sym (ap (λ found. holds Shared (told_in found) server) none) ∙ is))

    of : (has_locks es server ≡ true → (number : ℕ) × (holds Shared (told_at es number) server ≡ true)) → (b : Bool) → holds_lock e.1 server ≡ b → (b || has_locks es server) ≡ true
        → (number : ℕ) × (holds Shared (told_at (e ∷ es) number) server ≡ true)
    of later true lock is = (e.0, ap (λ b. holds Shared (told_in (cond b (Some e.1) (suite_of es e.0))) server) here ∙ lock)
    of later false lock is = let rest = later is in (rest.0, at rest.0 (is_at (nat_cmp rest.0) e.0) refl rest.1)

-- ---- all of them

-- suites in order, whose locks are those that were heard
abbrev pub HeardOf : List Exchange → Suites → Type 0
HeardOf past suites = IsOrdered nat_cmp suites × ((number who : ℕ) → holds Shared (told_at suites number) who ≡ was_held past number who)

pub heard_of_are : (past : List Exchange) (suites : Suites) → Are (λ number. told_of number [] past) suites → HeardOf past suites
heard_of_are past suites are = (are.0, λ number who. ap (λ told. holds Shared told who) (are.1 number) ∙ held_from number who [] past)

pub lockers : (past : List Exchange) (suites : Suites) → HeardOf past suites → (server : ℕ) → has_locks suites server ≡ was_locked past server
lockers past suites heard server = search (one_of, held_locked, locked_held, has_one, arith)

pub locked_is : (past : List Exchange) (suites : Suites) → HeardOf past suites → locked past ≡ locked_at suites
locked_is past suites heard = λ i. filter (λ server. sym (lockers past suites heard server) i) (numbers_from 0 max_servers)

-- ---- what no lock is asked for adds none

no_lock : (past : List Exchange) (one : Exchange) (server : ℕ) → wants_lock one.request ≡ false → was_locked (past ++ one ∷ []) server ≡ was_locked past server
no_lock past one server none = search (list_any-append, arith)

pub locked_still : (past : List Exchange) (one : Exchange) → wants_lock one.request ≡ false → locked (past ++ one ∷ []) ≡ locked past
locked_still past one none = λ i. filter (λ server. no_lock past one server none i) (numbers_from 0 max_servers)
