-- How many steps a transaction takes.
use Rattle.txn_core.proofs.Vocabulary.{◌≡◌, ℕ, ◌+◌, ◌≤◌, Bool, true, false, cond, List, [], ◌∷◌, ◌++◌, Option, refl, ap, ◌∙◌, arith, ◌==◌, ◌&&◌, ◌*◌, length, list_all, eqb-true, and_parts, nat_tests, Identity, Op, Request, Response, Transaction}
use Rattle.txn_core.proofs.Vocabulary.{Fixed, Doing, Agent, Event, Take, Forget, next_in, next_of, take, begin, forget, is_idle, Exchange, exchange_of, exchanges, of_job, locks, is_decide, count_of, among, asks_only, is_late, LateStepsAreFew}
use Rattle.txn_core.proofs.Vocabulary.{names_of, names_only, EndsInTime}
use Rattle.std.proofs.Math.Nat.{suc-mul}
use Rattle.rep_core.specs.declared.request.Request.TheVariants as request
use Rattle.txn_core.proofs.Once.{decide_is_sent_once}
use Rattle.txn_core.proofs.Polls.{asked_for_locks, locks_are_few}
use Rattle.txn_core.proofs.Few.{tells, told_to, tellings_are_few, IsNoRound, take_no_round, began_no_round}
use Rattle.txn_core.proofs.Fetches.{fetches, fetched_in, fetches_are_few}

-- ---- sums

abbrev sum : List ℕ → (ℕ → ℕ) → ℕ
sum [] f = 0
sum (x ∷ xs) f = f x + sum xs f

abbrev Below : (ℕ → ℕ) → (ℕ → ℕ) → Type 0
Below f g = (x : ℕ) → f x ≤ g x

sum_more : (xs : List ℕ) (f g : ℕ → ℕ) → Below f g → sum xs f ≤ sum xs g
sum_more [] f g below = omega arith
sum_more (x ∷ xs) f g below = let here = below x in let rest = sum_more xs f g below in omega (arith, here, rest)

sum_hit : (xs : List ℕ) (f g : ℕ → ℕ) (y : ℕ) → Below f g → 1 + f y ≤ g y → among xs y ≡ true → 1 + sum xs f ≤ sum xs g
sum_hit [] f g y below hit is = cc
sum_hit (x ∷ xs) f g y below hit is = search (eqb-true, sum_more, sum_hit xs f g y below hit, arith)

sum_most : (xs : List ℕ) (f : ℕ → ℕ) (b : ℕ) → ((x : ℕ) → f x ≤ b) → sum xs f ≤ length xs * b
sum_most [] f b most = omega arith
sum_most (x ∷ xs) f b most = let here = most x in let rest = sum_most xs f b most in let more = suc-mul (length xs) b in omega (arith, here, rest, more)

-- ---- what is counted: locks by suite and server, contents by suite, tellings by server, and decisions

abbrev total : List ℕ → List ℕ → (ℕ → ℕ → ℕ) → (ℕ → ℕ) → (ℕ → ℕ) → ℕ → ℕ
total servers suites locks' contents tellings decisions = sum suites (λ n. sum servers (locks' n) + contents n) + (sum servers tellings + decisions)

record More (l m : ℕ → ℕ → ℕ) (f g : ℕ → ℕ) (t u : ℕ → ℕ) (d e : ℕ) : Type 0 where
  locks' : (n : ℕ) → Below (l n) (m n)
  contents : Below f g
  tellings : Below t u
  decisions : d ≤ e

by_suite : (servers : List ℕ) (l m : ℕ → ℕ → ℕ) (f g : ℕ → ℕ) → ((n : ℕ) → Below (l n) (m n)) → Below f g → Below (λ n. sum servers (l n) + f n) (λ n. sum servers (m n) + g n)
by_suite servers l m f g more below n = let here = sum_more servers (l n) (m n) (more n) in let also = below n in omega (arith, here, also)

total_more : (servers suites : List ℕ) (l m : ℕ → ℕ → ℕ) (f g t u : ℕ → ℕ) (d e : ℕ) → More l m f g t u d e → total servers suites l f t d ≤ total servers suites m g u e
total_more servers suites l m f g t u d e more = search (sum_more, by_suite, arith)

hit_lock : (servers suites : List ℕ) (l m : ℕ → ℕ → ℕ) (f g t u : ℕ → ℕ) (d e number server : ℕ) → More l m f g t u d e → 1 + l number server ≤ m number server → among suites number ≡ true → among servers server ≡ true
    → 1 + total servers suites l f t d ≤ total servers suites m g u e
hit_lock servers suites l m f g t u d e number server more hit named asked = search (sum_hit, by_suite, sum_more, arith)

hit_content : (servers suites : List ℕ) (l m : ℕ → ℕ → ℕ) (f g t u : ℕ → ℕ) (d e number : ℕ) → More l m f g t u d e → 1 + f number ≤ g number → among suites number ≡ true → 1 + total servers suites l f t d ≤ total servers suites m g u e
hit_content servers suites l m f g t u d e number more hit named = search (sum_more, sum_hit, by_suite, arith)

hit_telling : (servers suites : List ℕ) (l m : ℕ → ℕ → ℕ) (f g t u : ℕ → ℕ) (d e server : ℕ) → More l m f g t u d e → 1 + t server ≤ u server → among servers server ≡ true → 1 + total servers suites l f t d ≤ total servers suites m g u e
hit_telling servers suites l m f g t u d e server more hit asked = search (sum_more, by_suite, sum_hit, arith)

hit_decision : (servers suites : List ℕ) (l m : ℕ → ℕ → ℕ) (f g t u : ℕ → ℕ) (d e : ℕ) → More l m f g t u d e → 1 + d ≤ e → 1 + total servers suites l f t d ≤ total servers suites m g u e
hit_decision servers suites l m f g t u d e more hit = search (sum_more, by_suite, arith)

-- ---- one exchange more

-- the requests of a transaction
abbrev is_ours : Request → Bool
is_ours (request.Poll t number mode) = true
is_ours (request.Upgrade t number) = true
is_ours (request.Fetch t number) = true
is_ours (request.Prepare t parts) = true
is_ours (request.Decide t decision) = true
is_ours (request.Finish t v) = true
is_ours _ = false

abbrev total_of : List ℕ → List ℕ → List Exchange → ℕ
total_of servers suites past = total servers suites (λ n s. asked_for_locks past n s) (λ n. fetched_in n past) (λ s. told_to s past) (count_of (λ one. is_decide one.request) past)

one_now : (b : Bool) (n : ℕ) → b ≡ true → 1 + n ≤ cond b 1 0 + n
one_now b n h2 = search arith

more_of : (one : Exchange) (past : List Exchange)
    → More (λ n s. asked_for_locks past n s) (λ n s. asked_for_locks (one ∷ past) n s) (λ n. fetched_in n past) (λ n. fetched_in n (one ∷ past)) (λ s. told_to s past) (λ s. told_to s (one ∷ past))
    (count_of (λ one. is_decide one.request) past) (count_of (λ one. is_decide one.request) (one ∷ past))
more_of one past = search arith

self : (n : ℕ) → (n == n) ≡ true
self n = grind (arith, nat_tests)

both : (a b : Bool) → a ≡ true → b ≡ true → (a && b) ≡ true
both a b h2 h3 = search arith

lock_more : (servers suites : List ℕ) (one : Exchange) (past : List Exchange) (number : ℕ) → locks number one.request ≡ true → among suites number ≡ true
    → among servers one.server ≡ true → 1 + total_of servers suites past ≤ total_of servers suites (one ∷ past)
lock_more servers suites one past number is named asked =
    hit_lock servers suites _ _ _ _ _ _ _ _ number one.server (more_of one past)
    (one_now ((one.server == one.server) && locks number one.request) (asked_for_locks past number one.server)
    (both (one.server == one.server) (locks number one.request) (self one.server) is)) named asked

content_more : (servers suites : List ℕ) (one : Exchange) (past : List Exchange) (number : ℕ) → fetches number one.request ≡ true → among suites number ≡ true → 1 + total_of servers suites past ≤ total_of servers suites (one ∷ past)
content_more servers suites one past number is named = hit_content servers suites _ _ _ _ _ _ _ _ number (more_of one past) (one_now (fetches number one.request) (fetched_in number past) is) named

telling_more : (servers suites : List ℕ) (one : Exchange) (past : List Exchange) → tells one.request ≡ true → among servers one.server ≡ true → 1 + total_of servers suites past ≤ total_of servers suites (one ∷ past)
telling_more servers suites one past is asked =
    hit_telling servers suites _ _ _ _ _ _ _ _ one.server (more_of one past)
    (one_now ((one.server == one.server) && tells one.request) (told_to one.server past) (both (one.server == one.server) (tells one.request) (self one.server) is)) asked

decision_more : (servers suites : List ℕ) (one : Exchange) (past : List Exchange) → is_decide one.request ≡ true → 1 + total_of servers suites past ≤ total_of servers suites (one ∷ past)
decision_more servers suites one past is = hit_decision servers suites _ _ _ _ _ _ _ _ (more_of one past) (one_now (is_decide one.request) (count_of (λ one. is_decide one.request) past) is)

one_more : (servers suites : List ℕ) (one : Exchange) (past : List Exchange) → among servers one.server ≡ true → is_ours one.request ≡ true → names_of suites one.request ≡ true
    → 1 + total_of servers suites past ≤ total_of servers suites (one ∷ past)
one_more servers suites one past asked ours named = of one.request refl ours named
  where
    of : (what : Request) → one.request ≡ what → is_ours what ≡ true → names_of suites what ≡ true → 1 + total_of servers suites past ≤ total_of servers suites (one ∷ past)
    of (request.Poll t number mode) is ours named = lock_more servers suites one past number (ap (locks number) is ∙ self number) named asked
    of (request.Upgrade t number) is ours named = lock_more servers suites one past number (ap (locks number) is ∙ self number) named asked
    of (request.Fetch t number) is ours named = content_more servers suites one past number (ap (fetches number) is ∙ self number) named
    of (request.Prepare t parts) is ours named = telling_more servers suites one past (ap tells is) asked
    of (request.Decide t decision) is ours named = decision_more servers suites one past (ap is_decide is)
    of (request.Finish t v) is ours named = telling_more servers suites one past (ap tells is) asked
    of (request.Resolve t) is ours named = cc
    of (request.Break t number) is ours named = cc
    of request.Locks is ours named = cc
    of request.Crash is ours named = cc
    of request.Return is ours named = cc

length_most : (servers suites : List ℕ) (past : List Exchange) → asks_only servers past ≡ true → list_all (λ one. is_ours one.request) past ≡ true → names_only suites past ≡ true → length past ≤ total_of servers suites past
length_most servers suites [] asked ours named = omega arith
length_most servers suites (one ∷ past) asked ours named = search (and_parts, one_more, length_most servers suites past, arith)

abbrev one_if : Bool → ℕ
one_if b = cond b 1 0

late_more : (servers : List ℕ) (one : Exchange) (past : List Exchange) → among servers one.server ≡ true → cond (is_late one.request) 1 0 + total_of servers [] past ≤ total_of servers [] (one ∷ past)
late_more servers one past asked = of one.request refl
  where
    quiet : (what : Request) → one.request ≡ what → is_late what ≡ false → cond (is_late one.request) 1 0 + total_of servers [] past ≤ total_of servers [] (one ∷ past)
    quiet what is none = search (total_more, more_of, arith)

    late : (what : Request) → one.request ≡ what → is_late what ≡ true → 1 + total_of servers [] past ≤ total_of servers [] (one ∷ past) → cond (is_late one.request) 1 0 + total_of servers [] past ≤ total_of servers [] (one ∷ past)
    late what is some more = let one' = ap one_if (ap is_late is ∙ some) in omega (arith, one', more)

    of : (what : Request) → one.request ≡ what → cond (is_late one.request) 1 0 + total_of servers [] past ≤ total_of servers [] (one ∷ past)
    of (request.Prepare t parts) is = late (request.Prepare t parts) is refl (telling_more servers [] one past (ap tells is) asked)
    of (request.Decide t decision) is = late (request.Decide t decision) is refl (decision_more servers [] one past (ap is_decide is))
    of (request.Finish t v) is = late (request.Finish t v) is refl (telling_more servers [] one past (ap tells is) asked)
    of (request.Poll t number mode) is = quiet (request.Poll t number mode) is refl
    of (request.Upgrade t number) is = quiet (request.Upgrade t number) is refl
    of (request.Fetch t number) is = quiet (request.Fetch t number) is refl
    of (request.Resolve t) is = quiet (request.Resolve t) is refl
    of (request.Break t number) is = quiet (request.Break t number) is refl
    of request.Locks is = quiet request.Locks is refl
    of request.Crash is = quiet request.Crash is refl
    of request.Return is = quiet request.Return is refl

late_most : (servers : List ℕ) (past : List Exchange) → asks_only servers past ≡ true → count_of (λ one. is_late one.request) past ≤ total_of servers [] past
late_most servers [] asked = omega arith
late_most servers (one ∷ past) asked = search (and_parts, late_more, late_most servers past, arith)

-- ---- all that a transaction asks is of these kinds

ours_one : (fixed : Fixed) (doing : Option Doing) (asked : Option (ℕ × Request)) (response : Response) (past : List Exchange) → next_in fixed doing ≡ asked → IsNoRound doing → list_all (λ one. is_ours one.request) past ≡ true
    → list_all (λ one. is_ours one.request) (exchange_of asked response ++ past) ≡ true
ours_one fixed doing asked response past h5 h6 h7 = search arith

all_ours : (fixed : Fixed) (agent : Agent) (events : List Event) → IsNoRound agent.doing → list_all (λ one. is_ours one.request) (exchanges fixed agent events) ≡ true
all_ours fixed agent [] none = refl
all_ours fixed agent (Forget site ∷ events) none = all_ours fixed (forget agent site) events none
all_ours fixed agent (Take response ∷ events) none =
    ours_one fixed agent.doing (next_of fixed agent) response (exchanges fixed (take fixed agent response).agent events) refl none
    (all_ours fixed (take fixed agent response).agent events (take_no_round fixed agent response agent.doing (next_of fixed agent) refl none))

-- ---- the laws

late_total : (fixed : Fixed) (agent : Agent) (caller : Identity) (site : ℕ) (ops : List Op) (events : List Event) (servers : List ℕ) → is_idle agent.doing ≡ true
    → sum servers (λ s. told_to s (of_job fixed agent (Transaction caller site ops) events)) + count_of (λ one. is_decide one.request) (of_job fixed agent (Transaction caller site ops) events) ≤ 2 * length servers + 1
late_total fixed agent caller site ops events servers idle =
    let tellings = sum_most servers (λ s. told_to s (of_job fixed agent (Transaction caller site ops) events)) 2 (λ s. tellings_are_few fixed agent caller site ops events s idle) in
    let decisions = decide_is_sent_once fixed agent (Transaction caller site ops) events idle in
    omega (arith, tellings, decisions)

pub late_steps_are_few : LateStepsAreFew
late_steps_are_few fixed agent caller site ops events servers idle asked =
    let most = late_most servers (of_job fixed agent (Transaction caller site ops) events) asked in
    let total' = late_total fixed agent caller site ops events servers idle in
    omega (arith, most, total')

pub ends_in_time : EndsInTime
ends_in_time fixed agent caller site ops events servers suites idle asked named =
    let past = of_job fixed agent (Transaction caller site ops) events in
    let ours = all_ours fixed (begin fixed agent (Transaction caller site ops)) events (began_no_round fixed agent caller site ops idle) in
    let most = length_most servers suites past asked ours named in
    let late = late_total fixed agent caller site ops events servers idle in
    let early = sum_most suites (λ n. sum servers (λ s. asked_for_locks past n s) + fetched_in n past) (2 * length servers + 1) (λ n.
    let all = sum_most servers (λ s. asked_for_locks past n s) 2 (λ s. locks_are_few fixed agent (Transaction caller site ops) events n s idle) in
    let once = fetches_are_few fixed agent caller site ops events n idle in
    omega (arith, all, once)) in
    omega (arith, most, late, early)
