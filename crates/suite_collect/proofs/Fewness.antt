-- How often a collector asks.
use Rattle.suite_collect.proofs.Vocabulary.{◌≡◌, ℕ, ◌+◌, ◌*◌, ◌≤◌, Bool, true, false, cond, List, [], ◌∷◌, ◌++◌, length, Option, Some, None, refl, sym, ap, subst, ◌∙◌, arith, ◌&&◌, ◌||◌, ◌==◌, option_map, list_all, nat_tests, false≢true}
use Rattle.suite_collect.proofs.Vocabulary.{eqb-true, and_parts, is_exclusive, Reply, Said, Down, Told, has_told, Widening, Collector, told_since, all_told, Asked, Poll, Upgrade, Next, Ask, next, collect, tell, tell_at, mode_asked, said_to}
use Rattle.suite_collect.proofs.Vocabulary.{told_by, among, Step, Take, told_or, after_step, after_all, AsksAreFew}
use Rattle.suite_collect.proofs.Collected.{nobody_is_asked_twice}

-- how often a server was asked
abbrev pub times : ℕ → List Told → ℕ
times server [] = 0
times server (one ∷ told) = cond (one.server == server) 1 0 + times server told

-- no server was asked more than twice, and none more than once that was not asked for an exclusive lock
abbrev pub Few : List Told → Type 0
Few told = (server : ℕ) → (times server told ≤ 2) × (has_told (λ one. is_exclusive one.mode) told server ≡ false → times server told ≤ 1)

pub never : (told : List Told) (server : ℕ) → has_told (λ _. true) told server ≡ false → times server told ≡ 0
never [] server none = refl
never (one ∷ told) server none = step (one.server == server) none (never told server)
  where
    step : (b : Bool) → ((b && true) || has_told (λ _. true) told server) ≡ false → (has_told (λ _. true) told server ≡ false → times server told ≡ 0) → cond b 1 0 + times server told ≡ 0
    step true none rest = cc
    step false none rest = let zero = rest none in omega arith

-- a server that is asked now is asked no oftener
pub few_more : (c : Collector) (asked : Asked) (one : Told) → next c ≡ Ask one.server asked → one.mode ≡ mode_asked asked → Few (all_told c) → Few (one ∷ all_told c)
few_more c asked one is mode few server = at (one.server == server) refl
  where
    at : (b : Bool) → (one.server == server) ≡ b
        → (cond b 1 0 + times server (all_told c) ≤ 2) × (((b && is_exclusive one.mode) || has_told (λ one. is_exclusive one.mode) (all_told c) server) ≡ false → cond b 1 0 + times server (all_told c) ≤ 1)
    at false other = let before = few server in (let bound = before.0 in omega arith, λ none. let bound = before.1 none in omega arith)
    at true same = of asked mode (is ∙ ap (λ server. Ask server asked) (eqb-true one.server server same))
      where
        of : (asked : Asked) → one.mode ≡ mode_asked asked → next c ≡ Ask server asked
            → (1 + times server (all_told c) ≤ 2) × ((is_exclusive one.mode || has_told (λ one. is_exclusive one.mode) (all_told c) server) ≡ false → 1 + times server (all_told c) ≤ 1)
        of (Poll wanted) mode is = let none = never (all_told c) server ((nobody_is_asked_twice c server).0 wanted is) in (omega arith, λ _. omega arith)
        of Upgrade mode is =
            let once = (few server).1 ((nobody_is_asked_twice c server).1 is) in
            (omega arith, λ none. absurd (false≢true (sym none ∙ ap (λ mode. is_exclusive mode || has_told (λ one. is_exclusive one.mode) (all_told c) server) mode)))

-- ---- along a run

pub all_told-tell : (one : Told) (c : Collector) → all_told (tell one c) ≡ one ∷ all_told c
all_told-tell one c = of c.widening refl
  where
    of : (w : Option Widening) → c.widening ≡ w → all_told (tell_at w one c) ≡ one ∷ all_told c
    of None is = ap (λ w. told_since w ++ (one ∷ c.told)) is ∙ ap (λ w. one ∷ (told_since w ++ c.told)) (sym is)
    of (Some w) is = ap (λ w. one ∷ (told_since w ++ c.told)) (sym is)

few_told : (c : Collector) (reply : Reply) → Few (all_told c) → Few (all_told (told_or (told_by (next c) reply) c))
few_told c reply few = of (next c) refl
  where
    answered : (server : ℕ) (asked : Asked) → next c ≡ Ask server asked → (said : Option Said)
        → Few (all_told (told_or (option_map (λ said. record { server = server; mode = mode_asked asked; said = said }) said) c))
    answered server asked is None = few
    answered server asked is (Some said) =
        let one : Told = record { server = server; mode = mode_asked asked; said = said } in
        subst Few (sym (all_told-tell one c)) (few_more c asked one is refl few)

    of : (after : Next) → next c ≡ after → Few (all_told (told_or (told_by after reply) c))
    of (Ask server asked) is = answered server asked is (said_to asked reply)
    of _ is = few

few_step : (c : Collector) (step : Step) → Few (all_told c) → Few (all_told (after_step c step))
few_step c (Take reply) few = few_told c reply few
few_step c _ few = few

few_all : (c : Collector) (steps : List Step) → Few (all_told c) → Few (all_told (after_all c steps))
few_all c [] few = few
few_all c (step ∷ steps) few = few_all (after_step c step) steps (few_step c step few)

-- ---- how many that are

abbrev times_all : List ℕ → List Told → ℕ
times_all [] told = 0
times_all (server ∷ servers) told = times server told + times_all servers told

few_times : (servers : List ℕ) (told : List Told) → Few told → times_all servers told ≤ 2 * length servers
few_times [] told few = omega arith
few_times (server ∷ servers) told few = let here = (few server).0 in let rest = few_times servers told few in omega arith

more_times : (servers : List ℕ) (one : Told) (told : List Told) → times_all servers told ≤ times_all servers (one ∷ told)
more_times [] one told = omega arith
more_times (server ∷ servers) one told = let rest = more_times servers one told in omega arith

once_more : (servers : List ℕ) (one : Told) (told : List Told) → among servers one.server ≡ true → 1 + times_all servers told ≤ times_all servers (one ∷ told)
once_more [] one told is = cc
once_more (server ∷ servers) one told is = at (server == one.server) refl is (once_more servers one told)
  where
    at : (b : Bool) → (server == one.server) ≡ b → (b || among servers one.server) ≡ true
        → (among servers one.server ≡ true → 1 + times_all servers told ≤ times_all servers (one ∷ told))
        → 1 + (times server told + times_all servers told) ≤ (cond (one.server == server) 1 0 + times server told) + times_all servers (one ∷ told)
    at true same is _ =
        let here : (one.server == server) ≡ true = grind (arith, nat_tests) in
        let more : times_all servers told ≤ times_all servers (one ∷ told) = more_times servers one told in
        rw here (omega (arith, more))
    at false other is later = let rest = later is in omega arith

all_times : (servers : List ℕ) (told : List Told) → list_all (λ one. among servers one.server) told ≡ true → length told ≤ times_all servers told
all_times servers [] are = omega arith
all_times servers (one ∷ told) are =
    let parts = and_parts (among servers one.server) (list_all (λ one. among servers one.server) told) are in
    let rest = all_times servers told parts.1 in
    let more = once_more servers one told parts.0 in
    omega arith

pub asks_are_few : AsksAreFew
asks_are_few mode start steps server asked servers is named are =
    let c : Collector = after_all (collect mode start) steps in
    let one : Told = record { server = server; mode = mode_asked asked; said = Down } in
    let before : Few (all_told c) = few_all (collect mode start) steps (λ server. (omega arith, λ _. omega arith)) in
    let few : Few (one ∷ all_told c) = few_more c asked one is refl before in
    let all : list_all (λ one. among servers one.server) (one ∷ all_told c) ≡ true = ap (λ b. b && list_all (λ one. among servers one.server) (all_told c)) named ∙ are in
    let many = all_times servers (one ∷ all_told c) all in
    let bound = few_times servers (one ∷ all_told c) few in
    omega arith
