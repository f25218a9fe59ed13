-- Where nothing is in the way at near servers, its votes as it finds them are those of the rows.
use Rattle.law_run_recovers.proofs.Vocabulary.{◌≡◌, inl, inr, ℕ, Bool, true, false, cond, List, [], ◌∷◌, Option, Some, None, refl, sym, ap, subst, ◌∙◌, ◌==◌, ◌&&◌, nat_lt, nat_le, find, map, option_map, length, zero, suc, Contains, arith, list_all}
use Rattle.law_run_recovers.proofs.Vocabulary.{false≢true, and_parts, eqb-true, eq-eqb, list_all-append, none-some, same_Some, Identity, Representative, Configuration, votes_in, votes_in-wider, Opening, Prefix, LockMode, Shared, Op, row_of, needs}
use Rattle.law_run_recovers.proofs.Vocabulary.{transaction, find_some, Has, has_any, contains_from, find_none, needed_of, has_vote, fixed_of, Transaction, Event, Begin, Actor, World, actor_at, server_at, run, table_of, CanBe, begins_job, is_up}
use Rattle.law_run_recovers.proofs.Vocabulary.{shown_at, Demand, demand, is_met, led_to, led_so_far_by, newer_by, shows_newer_by, locks_asked, votes_set, votes_of_row, MayStart, AreNear, asks_for, is_open_at, in_its_way, mode_or, first_mode}
use Rattle.law_run_recovers.proofs.Vocabulary.{NearVotesAreRows}
use Rattle.law_run_recovers.proofs.OpenRows.{open_row, weaker_first, up_of, up_to}
use Rattle.law_run_recovers.proofs.Picks.{votes_alike}

-- a suite that is asked for is asked for in its first mode
pub first_in : (asked : List (ℕ × LockMode)) (one : ℕ × LockMode) → Has asked one → Has asked (one.0, first_mode asked one.0)
first_in asked one has = of (find (λ (other : ℕ × LockMode). other.0 == one.0) asked) refl
  where
    of : (found : Option (ℕ × LockMode)) → find (λ (other : ℕ × LockMode). other.0 == one.0) asked ≡ found → Has asked (one.0, mode_or Shared found)
    of None is = absurd (none_of asked has is)
      where
        none_of : (xs : List (ℕ × LockMode)) → Has xs one → find (λ (other : ℕ × LockMode). other.0 == one.0) xs ≡ None → ⊥
        none_of xs has is = false≢true (sym (find_none (λ (other : ℕ × LockMode). other.0 == one.0) xs one is has) ∙ eq-eqb one.0 one.0 refl)
    of (Some other) is =
        let found = find_some (λ (other : ℕ × LockMode). other.0 == one.0) asked other is in
        subst (λ n. Has asked (n, other.1)) (eqb-true other.0 one.0 found.1) found.0

-- tests that agree on members find the same
alike_find : (f g : Representative → Bool) (xs : List Representative) → ((x : Representative) → Has xs x → f x ≡ g x) → find f xs ≡ find g xs
alike_find f g [] same = refl
alike_find f g (x ∷ xs) same = ap (λ b. cond b (Some x) (find f xs)) (same x (inl refl)) ∙ ap (λ found. cond (g x) (Some x) found) (alike_find f g xs (λ y has. same y (inr has)))

-- whoever may be asked first is near
pub start_near : (given : Opening) (events : List Event) (t : ℕ) (caller : Identity) (site : ℕ) (ops : List Op) (actor : Actor) (near : ℕ → Bool) → AreNear given events t caller site ops actor.agent.cache near
    → (one : ℕ × LockMode) → Contains (asks_for given events t caller ops) one → (start : Prefix) → MayStart (fixed_of given) actor.agent.cache site one.0 start → (server : ℕ) → has_vote start.votes server ≡ true → near server ≡ true
start_near given events t caller site ops actor near h8 one h10 start h12 server h14 = search arith

module _ (given : Opening) (events : List Event) (t : ℕ) (caller : Identity) (site : ℕ) (ops : List Op) (actor : Actor) (near : ℕ → Bool) (are : AreNear given events t caller site ops actor.agent.cache near) where
  abbrev world : World
  world = run given events

  abbrev AllNear : Prefix → Type 0
  AllNear prefix = (server : ℕ) → has_vote prefix.votes server ≡ true → near server ≡ true

  votes_near : (prefix : Prefix) → AllNear prefix → (rep : Representative) → Has prefix.votes.reps rep → nat_lt 0 rep.1 ≡ true → near rep.0 ≡ true
  votes_near prefix all rep has some = all rep.0 (has_any (λ (other : Representative). (other.0 == rep.0) && nat_lt 0 other.1) prefix.votes.reps rep has (ap (λ b. b && nat_lt 0 rep.1) (eq-eqb rep.0 rep.0 refl) ∙ some))

  -- by any servers that are among those that are up, and by others that are the same near ones
  module _ (one : ℕ × LockMode) (has : Contains (asks_for given events t caller ops) one) (ups opens : ℕ → Bool)
      (within : (server : ℕ) → ups server ≡ true → is_up (run given events) server ≡ true) (agree : (server : ℕ) → near server ≡ true → opens server ≡ ups server) where
    same_newer : (prefix : Prefix) → AllNear prefix → newer_by (fixed_of given) world ups one.0 prefix ≡ newer_by (fixed_of given) world opens one.0 prefix
    same_newer prefix all = search (alike_find, nat_lt, votes_near, arith)

    near_newer : (prefix next : Prefix) → AllNear prefix → newer_by (fixed_of given) world ups one.0 prefix ≡ Some next → AllNear next
    near_newer prefix next all = of (find (shows_newer_by (fixed_of given) world ups one.0 prefix) prefix.votes.reps) refl
      where
        of : (found : Option Representative) → find (shows_newer_by (fixed_of given) world ups one.0 prefix) prefix.votes.reps ≡ found
            → option_map (λ (rep : Representative). shown_at (fixed_of given) world one.0 rep.0) found ≡ Some next → AllNear next
        of None found is = absurd (none-some next is)
        of (Some rep) found is =
            let there = find_some (shows_newer_by (fixed_of given) world ups one.0 prefix) prefix.votes.reps rep found in
            let parts = and_parts (nat_lt 0 rep.1) (ups rep.0) (and_parts (nat_lt 0 rep.1 && ups rep.0) (nat_lt prefix.pver (shown_at (fixed_of given) world one.0 rep.0).pver) there.1).0 in
            subst AllNear (same_Some (shown_at (fixed_of given) world one.0 rep.0) next is) (λ server vote. are.shown one rep.0 server has (votes_near prefix all rep there.0 parts.0) (within rep.0 parts.1) vote)

    pub same_so_far : (n : ℕ) (prefix : Prefix) → AllNear prefix
        → (led_so_far_by n (fixed_of given) world ups one.0 prefix ≡ led_so_far_by n (fixed_of given) world opens one.0 prefix) × AllNear (led_so_far_by n (fixed_of given) world ups one.0 prefix)
    same_so_far zero prefix all = (refl, all)
    same_so_far (suc n) prefix all = search (same_newer, near_newer, same_so_far n, arith)

    -- by votes of near servers, these have the same
    pub same_got : (prefix : Prefix) → AllNear prefix → votes_in prefix.votes.reps ups ≡ votes_in prefix.votes.reps opens
    same_got prefix all = votes_alike prefix.votes.reps ups opens (λ rep there some. sym (agree rep.0 (votes_near prefix all rep there some)))

-- where nothing is in the way at near servers

module _ (given : Opening) (events : List Event) (t : ℕ) (caller : Identity) (site : ℕ) (ops : List Op) (actor : Actor) (near : ℕ → Bool) (are : AreNear given events t caller site ops actor.agent.cache near)
    (clear : (one : ℕ × LockMode) (server : ℕ) → Contains (asks_for given events t caller ops) one → near server ≡ true → in_its_way (run given events) t one.0 one.1 server ≡ false) where
  -- a near server is open where it is up
  pub open_is_up : (one : ℕ × LockMode) → Contains (asks_for given events t caller ops) one → (server : ℕ) → near server ≡ true → is_open_at (run given events) t one.0 one.1 server ≡ is_up (run given events) server
  open_is_up one has server is = search arith

  module _ (can : CanBe given events) (agent : ℕ) (there : actor_at (run given events) agent ≡ Some actor)
      (begins : begins_job given (run given events) (Begin agent (Transaction caller site ops)) ≡ Some (t, Transaction caller site ops)) where
    pub met_near : (one : ℕ × LockMode) → Has (asks_for given events t caller ops) one → (start : Prefix) → MayStart (fixed_of given) actor.agent.cache site one.0 start
        → is_met (demand (run given events) one.0 one.1 (led_to (fixed_of given) (run given events) one.0 start).votes) ≡ true
        → is_met (demand (run given events) one.0 one.1 (votes_of_row (fixed_of given) (row_of (table_of given events).rows one.0))) ≡ true
    met_near one has start may met =
        let asked : List (ℕ × LockMode) = asks_for given events t caller ops in
        let first : LockMode = first_mode asked one.0 in
        let contains = contains_from asked (one.0, first) (first_in asked one has) in
        let led = same_so_far given events t caller site ops actor near are (one.0, first) contains (is_up (run given events)) (is_open_at (run given events) t one.0 first)
        (λ server up. up) (open_is_up (one.0, first) contains) (length (run given events).servers) start
        (start_near given events t caller site ops actor near are (one.0, first) contains start may) in
        let here = contains_from asked one has in
        let met' : nat_le (needed_of one.1 (led_to (fixed_of given) (run given events) one.0 start).votes) (votes_in (led_to (fixed_of given) (run given events) one.0 start).votes.reps (is_open_at (run given events) t one.0 one.1)) ≡ true =
        ap (nat_le (needed_of one.1 (led_to (fixed_of given) (run given events) one.0 start).votes))
        (sym (same_got given events t caller site ops actor near are one here (is_up (run given events)) (is_open_at (run given events) t one.0 one.1) (λ server up. up)
        (open_is_up one here) (led_to (fixed_of given) (run given events) one.0 start) led.1)) ∙ met in
        let row = votes_of_row (fixed_of given) (row_of (table_of given events).rows one.0) in
        up_to (needed_of one.1 row) (votes_in row.reps (is_open_at (run given events) t one.0 one.1)) (votes_in row.reps (is_up (run given events)))
        (open_row given events can agent t caller site ops actor there begins one.0 start may one.1 first (weaker_first [] (needs (row_of (table_of given events).rows) [] (transaction (table_of given events).service t caller ops)) one has)
        (subst (λ (prefix : Prefix). nat_le (needed_of one.1 prefix.votes) (votes_in prefix.votes.reps (is_open_at (run given events) t one.0 one.1)) ≡ true) led.0 met'))
        (votes_in-wider row.reps (is_open_at (run given events) t one.0 one.1) (is_up (run given events)) (λ server is. up_of t one.0 one.1 (server_at (run given events) server) is))

-- tests that hold of one image of members hold of another
all_alike : (p : Demand → Bool) (f g : ℕ × LockMode → Demand) (xs : List (ℕ × LockMode)) → ((x : ℕ × LockMode) → Has xs x → p (f x) ≡ true → p (g x) ≡ true) → list_all p (map f xs) ≡ true → list_all p (map g xs) ≡ true
all_alike p f g [] so is = refl
all_alike p f g (x ∷ xs) so is = search (and_parts, all_alike p f g xs, arith)

pub near_votes_are_rows : NearVotesAreRows
near_votes_are_rows given events can agent t caller site ops actor start near there begins are clear may met =
    let world = run given events in
    let table = table_of given events in
    let asked : List (ℕ × LockMode) = locks_asked table t caller ops in
    let set : List Demand = map (λ (one : ℕ × Configuration). record { suite = one.0; got = votes_in one.1.reps (is_up world); needed = one.1.w }) (votes_set table t caller ops) in
    let found : ℕ × LockMode → Demand = λ one. demand world one.0 one.1 (led_to (fixed_of given) world one.0 (start one.0)).votes in
    let of_row : ℕ × LockMode → Demand = λ one. demand world one.0 one.1 (votes_of_row (fixed_of given) (row_of table.rows one.0)) in
    let parts = and_parts (list_all is_met (map found asked)) (list_all is_met set) (sym (list_all-append is_met (map found asked) set) ∙ met) in
    list_all-append is_met (map of_row asked) set
    ∙ ap (λ b. b && list_all is_met set) (all_alike is_met found of_row asked (λ one has. met_near given events t caller site ops actor near are clear can agent there begins one has (start one.0) (may one.0)) parts.0)
    ∙ parts.1
