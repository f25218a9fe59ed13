-- Votes of a suite that were found are the row's, or some of them is of a server that shows a newer prefix; and in every quorum of the row's votes some server shows the
-- row's prefix. So it is where all servers are up and what is stored is in effect.
use Rattle.law_run_recovers.proofs.Vocabulary.{◌≡◌, ◌⊎◌, inl, inr, ⊎_elim, ℕ, ◌+◌, ◌<◌, ◌≤◌, Bool, true, false, List, [], ◌∷◌, length, Option, Some, None, refl, sym, ap, subst, ◌∙◌, arith, ◌==◌, nat_lt, All, false≢true, and_parts, and_from, or_cases}
use Rattle.law_run_recovers.proofs.Vocabulary.{eqb-true, le-leb, nat_tests, slice_get_within, Representative, Configuration, votes_in, votes_at, total_votes, IsValid, Opening, Prefix, LockMode, State, Has, contains_from, needed_of, fixed_of, Event}
use Rattle.law_run_recovers.proofs.Vocabulary.{server_at, run, row, prefix_at, WasPrefix, IsQuorum, effect, Inv, beginning, machine_of, row_at, CanBe, all_keep, all_up, so_many, is_up, shown_at, shown_in, newer_by, votes_now}
use Rattle.law_one_table.proofs.Effects as effects
use Rattle.law_run_recovers.proofs.Found.{Answering, has_vote, voting, still_quorum, none_newer}
use Rattle.law_run_recovers.proofs.Free.{is_up_of}
use Rattle.law_run_recovers.proofs.Rows.{row_votes}
use Rattle.law_run_recovers.proofs.RowVotes.{ListsKnown, row_known}

-- ---- who has a vote

rep_with : (reps : List Representative) (server : ℕ) → 0 < votes_at reps server → (rep : Representative) × Has reps rep × (rep.0 ≡ server)
rep_with [] server some = absurd (omega (arith, some))
rep_with (rep ∷ reps) server some = search (eqb-true, rep_with reps server, arith)

known_voter : (servers : ℕ) (reps : List Representative) (server : ℕ) → All (λ (rep : Representative). rep.0 < servers) reps → 0 < votes_at reps server → server < servers
known_voter servers reps server all some = search (rep_with, contains_from, arith)

some_and : (a b : ℕ) → nat_lt 0 a ≡ true → 0 < a + b
some_and a b some = grind (arith, nat_tests)

has_votes : (reps : List Representative) (server : ℕ) → has_vote reps server ≡ true → 0 < votes_at reps server
has_votes [] server is = absurd (false≢true is)
has_votes (rep ∷ reps) server is = search (and_parts, nat_lt, some_and, or_cases, has_vote, has_votes reps server, arith)

all_votes : (reps : List Representative) → votes_in reps (λ _. true) ≡ total_votes reps
all_votes [] = refl
all_votes (rep ∷ reps) = ap (λ n. rep.1 + n) (all_votes reps)

module _ (given : Opening) (events : List Event) (can : CanBe given events) (up : all_up (run given events) ≡ true) where
  inv : (z : ℕ) → Inv (beginning z given) (machine_of given z events)
  inv z = effects.inv given events (all_keep given events can) z

  -- the version of the row's prefix, and the one that a server shows
  abbrev pub top : ℕ → ℕ
  top z = (row (beginning z given) (machine_of given z events).log).prefix.pver

  abbrev pub shown : ℕ → ℕ → ℕ
  shown z server = (shown_at (fixed_of given) (run given events) z server).pver

  -- what is stored of a suite is in effect
  abbrev pub Shown : ℕ → Type 0
  Shown z = Answering (fixed_of given) (run given events) z (machine_of given z events) (is_up (run given events))

  pub up_voter : (votes : Configuration) → ListsKnown given.servers votes → (i : ℕ) → 0 < votes_at votes.reps i → is_up (run given events) i ≡ true
  up_voter votes known i some = is_up_of given events up i (known_voter given.servers votes.reps i known some)

  pub valid_was : (z : ℕ) (prefix : Prefix) → WasPrefix (beginning z given) (machine_of given z events).log prefix → IsValid prefix.votes
  valid_was z prefix was = subst (λ (p : Prefix). IsValid p.votes) was.1 ((inv z).logged.valid prefix.pver)

  -- in each quorum of a prefix that there was some server shows a newer one, or the newest
  record Reached (z : ℕ) (prefix : Prefix) (set : ℕ → Bool) : Type 0 where
    server : ℕ
    voter : has_vote prefix.votes.reps server ≡ true
    in_set : set server ≡ true
    shows : (prefix.pver < shown z server) ⊎ (top z ≤ shown z server)

  reached : (z : ℕ) → Shown z → (prefix : Prefix) → WasPrefix (beginning z given) (machine_of given z events).log prefix → (set : ℕ → Bool) → IsQuorum prefix.votes set → ListsKnown given.servers prefix.votes → Reached z prefix set
  reached z all prefix was set quorum known =
      let x = (inv z).current.reach prefix.pver was.0 (voting prefix.votes.reps set) (subst (λ (p : Prefix). IsQuorum p.votes (voting prefix.votes.reps set)) (sym was.1) (still_quorum prefix.votes set quorum)) in
      let parts = and_parts (set x.0) (has_vote prefix.votes.reps x.0) x.1 in
      let same = all.stored x.0 (up_voter prefix.votes known x.0 (has_votes prefix.votes.reps x.0 parts.1)) in
      record {
        server = x.0;
        voter = parts.1;
        in_set = parts.0;
        shows = as_shown prefix.pver (top z) (effect (machine_of given z events) x.0).prefix (shown_at (fixed_of given) (run given events) z x.0) same x.2;
      }
    where
      as_shown : (n m : ℕ) (e s : Prefix) → e ≡ s → (n < e.pver) ⊎ (e.pver ≡ m) → (n < s.pver) ⊎ (m ≤ s.pver)
      as_shown n m e s h4 h5 = search arith

  row_was : (z : ℕ) → WasPrefix (beginning z given) (machine_of given z events).log (row (beginning z given) (machine_of given z events).log).prefix
  row_was z = (omega arith, (inv z).logged.own.0.1)

  votes_are : (z : ℕ) → (row (beginning z given) (machine_of given z events).log).prefix.votes ≡ votes_now given events z
  votes_are z = row_votes given events can z (row_at given events z) refl

  -- so in each of the row's votes some server shows the newest
  pub reach : (z : ℕ) → Shown z → (mode : LockMode) (set : ℕ → Bool) → needed_of mode (votes_now given events z) ≤ votes_in (votes_now given events z).reps set
      → (server : ℕ) × (0 < votes_at (votes_now given events z).reps server) × (set server ≡ true) × (top z ≤ shown z server)
  reach z all mode set =
      subst (λ (v : Configuration). needed_of mode v ≤ votes_in v.reps set → (server : ℕ) × (0 < votes_at v.reps server) × (set server ≡ true) × (top z ≤ shown z server)) (votes_are z)
      (λ enough.
      let newest = (row (beginning z given) (machine_of given z events).log).prefix in
      let x = reached z all newest (row_was z) set (quorum mode newest.votes enough) (subst (ListsKnown given.servers) (sym (votes_are z)) (row_known given can.accepted.known_servers events z)) in
      (x.server, has_votes newest.votes.reps x.server x.voter, x.in_set, ⊎_elim (λ above. omega (arith, above)) (λ most. most) x.shows))
    where
      quorum : (mode : LockMode) (v : Configuration) → needed_of mode v ≤ votes_in v.reps set → IsQuorum v set
      quorum mode v h2 = search (le-leb, arith)

  -- and nobody shows a newer one
  pub bound : (z : ℕ) → Shown z → (server : ℕ) → 0 < shown z server → shown z server ≤ top z
  bound z all server some = of (server_at (run given events) server) refl some
    where
      of : (found : Option State) → server_at (run given events) server ≡ found → 0 < (shown_in (fixed_of given) found z).pver → shown z server ≤ top z
      of None at some = absurd (omega (arith, some))
      of (Some st) at some =
          let within : server < length (run given events).servers = slice_get_within (run given events).servers server st at in
          let many = (so_many given events).0 in
          let same = all.stored server (is_up_of given events up server (omega (arith, within, many))) in
          (subst (WasPrefix (beginning z given) (machine_of given z events).log) same ((inv z).current.were server).0).0

  -- ---- votes that were found

  module _ (z : ℕ) (all : Shown z) (prefix : Prefix) (was : WasPrefix (beginning z given) (machine_of given z events).log prefix) (answers : ℕ → Bool)
      (answering : Answering (fixed_of given) (run given events) z (machine_of given z events) answers) (last : newer_by (fixed_of given) (run given events) answers z prefix ≡ None) (known : ListsKnown given.servers prefix.votes) where
    pub record IsOld : Type 0 where
      pub server : ℕ
      pub has_vote : 0 < votes_at prefix.votes.reps server
      pub shut : answers server ≡ false
      pub newer : prefix.pver < shown z server

    pub row_or_old : (prefix.votes ≡ votes_now given events z) ⊎ IsOld
    row_or_old = of (prefix.pver == top z) refl
      where
        less : (a b : ℕ) → a ≤ b → (a == b) ≡ false → a < b
        less a b most other = grind (arith, nat_tests)

        some_of : (n m : ℕ) → n < m → 0 < m
        some_of n m is = omega (arith, is)

        old : prefix.pver < top z → IsOld
        old older = record {
          server = x.server;
          has_vote = has_votes prefix.votes.reps x.server x.voter;
          shut = closed (answers x.server) refl;
          newer = newer';
        }
          where
            total : prefix.votes.r ≤ votes_in prefix.votes.reps (λ _. true)
            total = subst (λ n. prefix.votes.r ≤ n) (sym (all_votes prefix.votes.reps)) (valid_was z prefix was).r_in_range.1

            x : Reached z prefix (λ _. true)
            x = reached z all prefix was (λ _. true) (inl (le-leb prefix.votes.r (votes_in prefix.votes.reps (λ _. true)) total)) known

            newer' : prefix.pver < shown z x.server
            newer' = ⊎_elim (λ above. above) (λ most. omega (arith, older, most)) x.shows

            closed : (b : Bool) → answers x.server ≡ b → b ≡ false
            closed false is = refl
            closed true is =
                let below = none_newer given z (machine_of given z events) (run given events) (inv z) answers answering prefix last x.server (and_from (answers x.server) (has_vote prefix.votes.reps x.server) is x.voter) in
                let same = ap (λ (p : Prefix). p.pver) (answering.stored x.server is) in
                let above = newer' in
                absurd (omega (arith, below, same, above))

        of : (b : Bool) → (prefix.pver == top z) ≡ b → (prefix.votes ≡ votes_now given events z) ⊎ IsOld
        of true is =
            inl (ap (λ (p : Prefix). p.votes) (sym was.1 ∙ ap (prefix_at (beginning z given) (machine_of given z events).log) (eqb-true prefix.pver (top z) is) ∙ (inv z).logged.own.0.1) ∙ votes_are z)
        of false is = inr (old (less prefix.pver (top z) was.0 is))
