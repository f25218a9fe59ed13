-- What is due of a collector is what comes next, and what a reply leaves due.
use Rattle.suite_collect.proofs.Vocabulary.{◌≡◌, ℕ, Bool, true, false, cond, Option, Some, None, refl, ap, ◌∙◌, nat_le, find, option_map, Representative, LockMode, Reply, Said, Told, Due, due_left, due_of}
use Rattle.suite_collect.proofs.Vocabulary.{newest, first_busy, Collector, all_told, counted, wanted, needed, got, is_member, is_left, members_of, version, asked_of, mode_asked, ask_or_short, said_to, told_by, Current, Ask, Short, Next, next, has_quorum}
use Rattle.suite_collect.specs.code.Dues as due
use Rattle.suite_collect.proofs.Collected.{asked_as_wanted}

module _ (c : Collector) where
  abbrev now : Bool → Option Representative → Due
  now b found = cond b due.Current (due_left (got c) (needed c) (option_map (λ rep. rep.0) found))

  abbrev comes : Bool → Option Representative → Next
  comes b found = cond b (Current (newest c.start c.told) (version c) (members_of (counted c) (is_member c))) (ask_or_short c found)

  pub current_next : due_of c ≡ due.Current → next c ≡ Current (newest c.start c.told) (version c) (members_of (counted c) (is_member c))
  current_next is = at (nat_le (needed c) (got c)) (find (is_left c) (counted c).reps) is
    where
      at : (b : Bool) (found : Option Representative) → now b found ≡ due.Current → comes b found ≡ comes true found
      at true found is = refl
      at false (Some rep) is = cc
      at false None is = cc

  pub ask_next : (server : ℕ) → due_of c ≡ due.Ask server → next c ≡ Ask server (asked_of c server)
  ask_next server is = at (nat_le (needed c) (got c)) (find (is_left c) (counted c).reps) is
    where
      at : (b : Bool) (found : Option Representative) → now b found ≡ due.Ask server → comes b found ≡ Ask server (asked_of c server)
      at true found is = cc
      at false (Some rep) is = let same : rep.0 ≡ server = cc in ap (λ server. Ask server (asked_of c server)) same
      at false None is = cc

  pub short_next : (had wanting : ℕ) → due_of c ≡ due.Short had wanting → next c ≡ Short had wanting (first_busy (all_told c))
  short_next had wanting is = at (nat_le (needed c) (got c)) (find (is_left c) (counted c).reps) is
    where
      at : (b : Bool) (found : Option Representative) → now b found ≡ due.Short had wanting → comes b found ≡ Short had wanting (first_busy (all_told c))
      at true found is = cc
      at false (Some rep) is = cc
      at false None is = cc

  -- ---- what is told of a reply

  asked_there : (server : ℕ) → due_of c ≡ due.Ask server → option_map (λ rep. rep.0) (find (is_left c) (counted c).reps) ≡ Some server
  asked_there server is = at (nat_le (needed c) (got c)) (find (is_left c) (counted c).reps) is
    where
      at : (b : Bool) (found : Option Representative) → now b found ≡ due.Ask server → option_map (λ rep. rep.0) found ≡ Some server
      at true found is = cc
      at false (Some rep) is = let same : rep.0 ≡ server = cc in ap (λ server. Some server) same
      at false None is = cc

  -- what a reply says is told
  pub told_said : (server : ℕ) (answer : Reply) (said : Said) → due_of c ≡ due.Ask server → said_to (asked_of c server) answer ≡ Some said
      → told_by (next c) answer ≡ Some (record { server = server; mode = wanted c; said = said })
  told_said server answer said is says =
      let tells : LockMode → Option Told = λ mode. Some (record { server = server; mode = mode; said = said }) in
      ap (λ next. told_by next answer) (ask_next server is)
      ∙ ap (option_map {U = Told} (λ said. record { server = server; mode = mode_asked (asked_of c server); said = said })) says
      ∙ ap tells (asked_as_wanted c server (asked_there server is))

  -- ---- whether there is a quorum

  pub quorum_reached : has_quorum (next c) ≡ nat_le (needed c) (got c)
  quorum_reached = at (nat_le (needed c) (got c)) (find (is_left c) (counted c).reps)
    where
      at : (b : Bool) (found : Option Representative) → has_quorum (comes b found) ≡ b
      at true found = refl
      at false (Some rep) = refl
      at false None = refl
