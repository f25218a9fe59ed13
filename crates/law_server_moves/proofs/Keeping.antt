-- A server that keeps what it has of a suite, and the machine after a change of one server.
use Rattle.law_server_moves.proofs.Vocabulary.{◌≡◌, ℕ, [], refl, nat_cmp, get, lock_at, State, record_of, copy_of, Beginning, World, set1, hold_of, ShowsAt, Shows, Follows, arith}

-- what one server has of the suite stays
pub record Keeps (suite : ℕ) (old new : State) : Type 0 where
  pub copy : copy_of new.store suite ≡ copy_of old.store suite
  pub lock : (u : ℕ) → hold_of (lock_at u suite new.locks) ≡ hold_of (lock_at u suite old.locks)
  pub plan : get nat_cmp new.store.intentions suite ≡ get nat_cmp old.store.intentions suite

pub keeps_all : (suite : ℕ) (st : State) → Keeps suite st st
keeps_all suite st = record { copy = refl; lock = λ u. refl; plan = refl }

pub keeps_shows : (suite : ℕ) (old new : State) (w : World) (i : ℕ) → Keeps suite old new → ShowsAt suite old w i → ShowsAt suite new w i
keeps_shows suite old new w i keeps shows = search arith

-- the machine moves at one server
pub shows_moved : (suite : ℕ) (home : ℕ → ℕ) (servers : ℕ → State) (i : ℕ) (new : State) (w later : World) → Shows suite home servers w → later.verdict ≡ w.verdict
    → ((t : ℕ) → record_of new t ≡ record_of (servers i) t) → ShowsAt suite new later i → ((j : ℕ) → (j ≡ i → ⊥) → ShowsAt suite (servers j) later j)
    → Shows suite home (set1 servers i new) later
shows_moved suite home servers i new w later shows verdicts records here there = search arith

-- or stays
pub shows_kept : (suite : ℕ) (home : ℕ → ℕ) (servers : ℕ → State) (i : ℕ) (new : State) (w : World) → Shows suite home servers w
    → ((t : ℕ) → record_of new t ≡ record_of (servers i) t) → Keeps suite (servers i) new → Shows suite home (set1 servers i new) w
shows_kept suite home servers i new w shows records keeps = search arith

-- the stamp is nothing to the machine
pub shows_stamped : (suite : ℕ) (home : ℕ → ℕ) (servers : ℕ → State) (i : ℕ) (new : State) (stamp : ℕ) (w : World) → Shows suite home (set1 servers i new) w → Shows suite home (set1 servers i (record new { stamp = stamp })) w
shows_stamped suite home servers i new stamp w shows = search arith

-- no event
pub stays : (start : Beginning) (suite : ℕ) (home : ℕ → ℕ) (servers : ℕ → State) (i : ℕ) (new : State) (w : World) → Shows suite home servers w
    → ((t : ℕ) → record_of new t ≡ record_of (servers i) t) → Keeps suite (servers i) new → Follows start suite home (set1 servers i new) w []
stays start suite home servers i new w shows records keeps = record { obeys = tt; shows = shows_kept suite home servers i new w shows records keeps }

pub nothing : (start : Beginning) (suite : ℕ) (home : ℕ → ℕ) (servers : ℕ → State) (i : ℕ) (w : World) → Shows suite home servers w → Follows start suite home (set1 servers i (servers i)) w []
nothing start suite home servers i w shows = stays start suite home servers i (servers i) w shows (λ t. refl) (keeps_all suite (servers i))
