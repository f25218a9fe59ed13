-- What a transaction stands on that goes steadily: near servers that are open to it answer what is in effect, and prefixes that are found name
-- near servers.
use Rattle.law_run_recovers.proofs.Vocabulary.{◌≡◌, ℕ, Bool, true, false, List, [], ◌∷◌, Option, Some, sym, ap, subst, ◌*◌, ◌+◌, ◌==◌, ◌&&◌, Contains, list_any, and_parts, and_from, eqb-true, Identity, IsValid, Opening, Prefix, arith, LockMode}
use Rattle.law_run_recovers.proofs.Vocabulary.{Shared, Exclusive, Op, row_of, needs, transaction, Has, any_has, has_from, contains_from, Transaction, has_vote, Task, fixed_of, Event, Begin, Actor, run, table_of, WasPrefix, beginning, machine_of}
use Rattle.law_run_recovers.proofs.Vocabulary.{CanBe, all_keep, no_lock, can_front, all_consistent, is_up, locks_asked, MayStart, asks_for, way_at, is_open_at, first_mode}
use Rattle.law_one_table.proofs.Effects as effects
use Rattle.law_run_recovers.proofs.Steady.{GoesSteadily}
use Rattle.law_run_recovers.proofs.Found.{Answering}
use Rattle.law_run_recovers.proofs.Led.{Rules, rules_of}
use Rattle.law_run_recovers.proofs.NearRows.{start_near}
use Rattle.law_run_recovers.proofs.Open.{number_is}
use Rattle.law_run_recovers.proofs.OpenRows.{open_answer, open_wider, weaker_first}
use Rattle.law_run_recovers.proofs.Polled.{Sight, finds_at}
use Rattle.law_run_recovers.proofs.Rows.{start_was}
use Rattle.law_run_recovers.proofs.Stands.{Ground, asks_of, locks_on}

module _ (given : Opening) (events later : List Event) (agent t : ℕ) (caller : Identity) (site : ℕ) (ops : List Op) (actor : Actor) (goes : GoesSteadily given events later agent t caller site ops actor) where
  abbrev pub its : Task
  its = record { t = 64 * actor.agent.count + actor.agent.index; caller = caller; site = site; ops = ops }

  abbrev asked : List (ℕ × LockMode)
  asked = asks_for given events t caller ops

  -- who may answer it: near servers that are up
  abbrev pub answers : ℕ → Bool
  answers server = goes.near server && is_up (run given events) server

  -- those that are open to it
  abbrev pub opens : ℕ → LockMode → ℕ → Bool
  opens z mode server = goes.near server && is_open_at (run given events) t z mode server

  abbrev pub first_asked : ℕ → LockMode
  first_asked z = first_mode asked z

  abbrev pub is_holder : ℕ → Option (Option ℕ) → Bool
  is_holder holder (Some (Some other)) = other == holder
  is_holder holder other = false

  -- whose lock is in its way there, in some mode in which it asks
  abbrev pub met_by : ℕ → ℕ → ℕ → Bool
  met_by z server holder = goes.near server && list_any (λ (one : ℕ × LockMode). (one.0 == z) && is_holder holder (way_at (run given events) t one.0 one.1 server)) asked

  pub opens_weaker : (z server : ℕ) → opens z Exclusive server ≡ true → opens z Shared server ≡ true
  opens_weaker z server is = search (and_parts, and_from, open_wider, arith)

  -- so servers stand to it
  abbrev pub sight : Sight
  sight = record { opens = opens; first = first_asked; met = met_by; weaker = opens_weaker }

  -- who is open is up
  pub opens_up : (z : ℕ) (mode : LockMode) (server : ℕ) → opens z mode server ≡ true → answers server ≡ true
  opens_up z mode server is = search arith

  -- a prefix that the suite had, and that names near servers
  abbrev pub Known : ℕ → Prefix → Type 0
  Known z prefix = WasPrefix (beginning z given) (machine_of given z events).log prefix × ((server : ℕ) → has_vote prefix.votes server ≡ true → goes.near server ≡ true)

  pub can_first : CanBe given events
  can_first = can_front given events (Begin agent (Transaction caller site ops) ∷ later) goes.can

  pub number : 64 * actor.agent.count + actor.agent.index ≡ t
  number = number_is given events later agent t caller site ops actor goes.can goes.there goes.begins

  -- a suite of its asks, in some mode
  pub asked_in : (z : ℕ) → asks_of (locks_on (table_of given events) its) z ≡ true → (mode : LockMode) × Contains asked (z, mode)
  asked_in z is =
      let some = any_has (λ (one : ℕ × LockMode). one.0 == z) asked (subst (λ n. asks_of (locks_asked (table_of given events) n caller ops) z ≡ true) number is) in
      (some.0.1, contains_from asked (z, some.0.1) (subst (λ z. Has asked (z, some.0.1)) (eqb-true some.0.0 z some.2) some.1))

  pub opens_first : (z : ℕ) (mode : LockMode) → Contains asked (z, mode) → (server : ℕ) → opens z mode server ≡ true → opens z (first_asked z) server ≡ true
  opens_first z mode has server is =
      let parts = and_parts (goes.near server) (is_open_at (run given events) t z mode server) is in
      and_from (goes.near server) (is_open_at (run given events) t z (first_asked z) server) parts.0
      (open_wider (run given events) t z mode (first_asked z)
      (weaker_first [] (needs (row_of (table_of given events).rows) [] (transaction (table_of given events).service t caller ops)) (z, mode) (has_from asked (z, mode) has))
      server parts.1)

  pub answering : (z : ℕ) → Answering (fixed_of given) (run given events) z (machine_of given z events) (finds_at sight z)
  answering z =
      let open' = open_answer given z (machine_of given z events) (run given events) (effects.follows given events (all_keep given events can_first) z).shows (all_consistent given events) t
      (no_lock given goes.can.accepted events agent t (Transaction caller site ops) goes.begins) (first_asked z) in
      record { up = λ i is. open'.up i (opens_of z i is); stored = λ i is. open'.stored i (opens_of z i is) }
    where
      opens_of : (z i : ℕ) → finds_at sight z i ≡ true → is_open_at (run given events) t z (first_asked z) i ≡ true
      opens_of z i is = (and_parts (goes.near i) (is_open_at (run given events) t z (first_asked z) i) is).1

  rules : (z : ℕ) (start : Prefix) → asks_of (locks_on (table_of given events) its) z ≡ true → MayStart (fixed_of given) actor.agent.cache site z start → Rules (fixed_of given) (run given events) (finds_at sight z) z (Known z) start
  rules z start is may =
      let one = asked_in z is in
      let base = rules_of given z (machine_of given z events) (run given events) (effects.inv given events (all_keep given events can_first) z) (finds_at sight z) (answering z) start
      (start_was given events can_first z agent site actor start goes.there may) in
      record {
        begins = (base.begins, start_near given events t caller site ops actor goes.near goes.are_near (z, one.0) one.1 start may);
        goes = λ server open'. (
          base.goes server open',
          λ x vote.
              let parts = and_parts (goes.near server) (is_up (run given events) server) (opens_up z (first_asked z) server open') in
              goes.are_near.shown (z, one.0) server x one.1 parts.0 parts.1 vote,
        );
        settled = λ mode prefix held known. base.settled mode prefix held known.0;
        last = base.last;
      }

  pub ground : Ground (fixed_of given) (run given events) sight actor.agent.cache site (locks_on (table_of given events) its) Known
  ground = record {
    first = λ z. ap (λ n. first_mode (locks_asked (table_of given events) n caller ops) z) (sym number);
    rules = rules;
    valid = λ z prefix known. subst (λ (p : Prefix). IsValid p.votes) known.0.1 ((effects.inv given events (all_keep given events can_first) z).logged.valid prefix.pver);
  }
