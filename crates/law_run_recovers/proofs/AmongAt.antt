-- What a transaction that goes steadily is replied, at a moment before its end is fixed.
use Rattle.law_run_recovers.proofs.Vocabulary.{◌≡◌, ℕ, true, false, cond, List, [], ◌∷◌, ◌++◌, append_assoc, append-nil, Option, Some, None, is_some, refl, sym, ap, subst, ◌∙◌, ◌==◌, ◌&&◌, ◌||◌, Contains, list_any, false≢true, and_parts, arith}
use Rattle.law_run_recovers.proofs.Vocabulary.{and_from, eq-eqb, Identity, Opening, LockMode, Op, Part, Request, is_prepared, has_lock, copy_of, State, reply_of, reply_up, reply_down, stands_prepared, can_prepare, recorded, verdict_of, Has, has_any}
use Rattle.law_run_recovers.proofs.Vocabulary.{has_from, Asked, Upgrade, request_for, mode_asked, Transaction, TransactionRun, Running, given_in, stands_on_locks, fixed_of, next_of, Event, Begin, Step, Actor, World, server_at, actor_at, run, CanBe}
use Rattle.law_run_recovers.proofs.Vocabulary.{replies_down, can_front, Finds, up_in, is_up, shown_in, shown_at, locks_in, locks_at, asks_for, is_open_way, is_open_at, way_in, way_at, world_after, robs, hinders_itself, SameWay, bereaves, shows_same}
use Rattle.law_run_recovers.proofs.Vocabulary.{told_as_first, or_right, given as gives}
use Rattle.rep_core.specs.declared.request.Decision.{Decision}
use Rattle.rep_core.specs.declared.reply.Reply.TheVariants as reply
use Rattle.rep_core.specs.declared.request.Request.TheVariants as request
use Rattle.law_run_recovers.proofs.Steady.{GoesSteadily}
use Rattle.law_run_recovers.proofs.Keeps.{IsAtWork, OfAsks}
use Rattle.law_run_recovers.proofs.NearGround.{answers, opens, first_asked, is_holder, met_by, sight, opens_up}
use Rattle.law_run_recovers.proofs.Polled.{dver_in, dver_at, Answers, answers_so}
use Rattle.law_run_recovers.proofs.Serves.{On}
use Rattle.law_run_recovers.proofs.Unrobbed.{unrecorded_at, finds_then, stands_then}

-- ---- at a moment

module _ (given : Opening) (events later : List Event) (agent t : ℕ) (caller : Identity) (site : ℕ) (ops : List Op) (actor : Actor) (goes : GoesSteadily given events later agent t caller site ops actor) where
  abbrev asked : List (ℕ × LockMode)
  asked = asks_for given events t caller ops

  -- an event at a moment takes nothing of it
  abbrev pub IsCalm : List Event → Event → Type 0
  IsCalm so_far event =
      let w = world_after given events agent caller site ops so_far in (hinders_itself given agent w event || (robs given agent t w event || bereaves given agent t w event)) ≡ false

  -- no event so far has taken anything of it while it was at work
  abbrev pub IsSpared : List Event → Type 0
  IsSpared so_far = (front back : List Event) (event : Event) → so_far ≡ front ++ event ∷ back → IsAtWork (world_after given events agent caller site ops front) agent t → IsCalm front event

  -- where it has a lock the server was open to it, as it first asked for the suite
  abbrev pub HasWhereOpen : World → Type 0
  HasWhereOpen w = (server z : ℕ) → On (locks_at w server) t z → opens given events later agent t caller site ops actor goes z (first_asked given events later agent t caller site ops actor goes z) server ≡ true

  -- and shows what it showed of the suite
  abbrev pub ShowsWhereLocked : World → Type 0
  ShowsWhereLocked w = (server z : ℕ) → On (locks_at w server) t z → shows_same (server_at w server) (server_at (run given events) server) z

  pub can_so_far : (so_far rest : List Event) → later ≡ so_far ++ rest → CanBe given (events ++ Begin agent (Transaction caller site ops) ∷ so_far)
  can_so_far so_far rest split =
      can_front given (events ++ Begin agent (Transaction caller site ops) ∷ so_far) rest
      (subst (CanBe given) (ap (λ later. events ++ Begin agent (Transaction caller site ops) ∷ later) split ∙ sym (append_assoc events (Begin agent (Transaction caller site ops) ∷ so_far) rest)) goes.can)

  module _ (so_far rest : List Event) (split : later ≡ so_far ++ Step agent ∷ rest) (work : IsAtWork (world_after given events agent caller site ops so_far) agent t)
      (spared : IsSpared so_far) (locks : HasWhereOpen (world_after given events agent caller site ops so_far))
      (server : ℕ) (st : State) (at : server_at (world_after given events agent caller site ops so_far) server ≡ Some st) where
    abbrev w : World
    w = world_after given events agent caller site ops so_far

    -- ---- what it is replied

    -- a lock that it asks for is of what it asks for
    of_lock : (z : ℕ) (question : Asked) → Contains (asks_for given events t caller ops) (z, mode_asked question) → OfAsks t (asks_for given events t caller ops) (request_for t z question)
    of_lock z question h2 = search arith

    way_of : (z : ℕ) (question : Asked) → told_as_first (run given events) (world_after given events agent caller site ops so_far) server (request_for t z question)
        → SameWay (run given events) (world_after given events agent caller site ops so_far) server t z (mode_asked question)
    way_of z question h2 = search arith

    module _ (here : Actor) (txn_run : TransactionRun) (there : actor_at (world_after given events agent caller site ops so_far) agent ≡ Some here) (running : here.agent.doing ≡ Some (Running txn_run)) (number : txn_run.task.t ≡ t) where
      module _ (question : Request) (next : next_of (fixed_of given) here.agent ≡ Some (server, question)) where
        its_finds : Finds st question
        its_finds =
            finds_then given events so_far agent t caller site ops actor (can_so_far so_far (Step agent ∷ rest) split) goes.there goes.begins spared so_far []
            (sym (append-nil so_far)) work here txn_run there running number (server, question) next st at

        pub on_locks : stands_on_locks question ≡ true → answers given events later agent t caller site ops actor goes server ≡ true
        on_locks on =
            let some = stands_then given events so_far agent t caller site ops actor (can_so_far so_far (Step agent ∷ rest) split) goes.there goes.begins spared so_far []
            (sym (append-nil so_far)) work here txn_run there running number (server, question) next st at on in
            opens_up given events later agent t caller site ops actor goes some.lock.suite (first_asked given events later agent t caller site ops actor goes some.lock.suite) server
            (locks server some.lock.suite (record { lock = some.lock; has = subst (λ locks. Has locks some.lock) (sym (ap locks_in at)) some.has; of_it = some.of_it ∙ number; on_it = refl }))

        -- the server is up just where it was
        up_near : goes.near server ≡ true → OfAsks t (asks_for given events t caller ops) question → st.up ≡ is_up (run given events) server
        up_near near of_it = ap up_in (sym at) ∙ (goes.same so_far rest here (server, question) split work there next near of_it).up

        -- one that answers is up
        up_so : OfAsks t (asks_for given events t caller ops) question → answers given events later agent t caller site ops actor goes server ≡ true → st.up ≡ true
        up_so of_it is = let parts = and_parts (goes.near server) (is_up (run given events) server) is in up_near parts.0 of_it ∙ parts.1

        replies_up : st.up ≡ true → reply_of st question ≡ reply_up st question
        replies_up up = ap (λ b. cond b (reply_up st question) (reply_down question)) up

      pub lock_right : (z : ℕ) (question : Asked) → next_of (fixed_of given) here.agent ≡ Some (server, request_for t z question) → goes.near server ≡ true → Contains asked (z, mode_asked question)
          → Answers (fixed_of given) (run given events) (sight given events later agent t caller site ops actor goes) z question server (reply_of st (request_for t z question))
      lock_right z question next near has =
          answers_so (fixed_of given) (run given events) (sight given events later agent t caller site ops actor goes) z server t st question
          (up_near (request_for t z question) next near (of_lock z question has))
          (ap is_open_way way_same ∙ ap (λ b. b && is_open_at (run given events) t z (mode_asked question) server) (sym near))
          met shows
          (λ is. (up_so (request_for t z question) next (of_lock z question has) (on_locks (request_for t z question) next (ap (λ question. stands_on_locks (request_for t z question)) is)), locked is))
        where
          told : SameWay (run given events) (world_after given events agent caller site ops so_far) server t z (mode_asked question)
          told = way_of z question (goes.same so_far rest here (server, request_for t z question) split work there next near (of_lock z question has)).told

          way_same : way_in t z (mode_asked question) (Some st) ≡ way_at (run given events) t z (mode_asked question) server
          way_same = ap (way_in t z (mode_asked question)) (sym at) ∙ told.way

          met : (holder : ℕ) → way_in t z (mode_asked question) (Some st) ≡ Some (Some holder) → met_by given events later agent t caller site ops actor goes z server holder ≡ true
          met holder way =
              and_from (goes.near server) (list_any (λ (one : ℕ × LockMode). (one.0 == z) && is_holder given events later agent t caller site ops actor goes holder (way_at (run given events) t one.0 one.1 server)) asked) near
              (has_any (λ (one : ℕ × LockMode). (one.0 == z) && is_holder given events later agent t caller site ops actor goes holder
              (way_at (run given events) t one.0 one.1 server)) asked (z, mode_asked question) (has_from asked (z, mode_asked question) has)
              (and_from (z == z) (is_holder given events later agent t caller site ops actor goes holder (way_at (run given events) t z (mode_asked question) server)) (eq-eqb z z refl)
              (ap (is_holder given events later agent t caller site ops actor goes holder) (sym way_same ∙ way) ∙ eq-eqb holder holder refl)))

          shows : opens given events later agent t caller site ops actor goes z (mode_asked question) server ≡ true
              → ((copy_of st.store z).prefix ≡ shown_at (fixed_of given) (run given events) z server) × ((copy_of st.store z).dver ≡ dver_at (run given events) z server)
          shows is = of (server_at (run given events) server) refl (and_parts (goes.near server) (is_up (run given events) server) (opens_up given events later agent t caller site ops actor goes z (mode_asked question) server is)).1
            where
              the_same : (old : State) → shows_same (server_at (world_after given events agent caller site ops so_far) server) (server_at (run given events) server) z
                  → server_at (world_after given events agent caller site ops so_far) server ≡ Some st → server_at (run given events) server ≡ Some old
                  → ((copy_of st.store z).prefix ≡ (copy_of old.store z).prefix) × ((copy_of st.store z).dver ≡ (copy_of old.store z).dver)
              the_same old same now was = search arith

              of : (found : Option State) → server_at (run given events) server ≡ found → up_in found ≡ true → ((copy_of st.store z).prefix ≡ shown_in (fixed_of given) found z) × ((copy_of st.store z).dver ≡ dver_in found z)
              of None was up = absurd (false≢true up)
              of (Some old) was up = the_same old (told.shown (ap is_open_way told.way ∙ (and_parts (goes.near server) (is_open_at (run given events) t z (mode_asked question) server) is).1)) at was

          locked : question ≡ Upgrade → has_lock t z st.locks ≡ true
          locked is = subst (λ question. Finds st (request_for t z question)) is (its_finds (request_for t z question) next)

      pub fetch_right : (z : ℕ) → next_of (fixed_of given) here.agent ≡ Some (server, request.Fetch t z) → is_some (given_in (reply_of st (request.Fetch t z))) ≡ true
      fetch_right z next =
          ap (λ said. is_some (given_in said))
          (replies_up (request.Fetch t z) next (up_so (request.Fetch t z) next tt (on_locks (request.Fetch t z) next refl)) ∙ ap (λ b. cond b (gives (copy_of st.store z)) reply.Lost) (its_finds (request.Fetch t z) next))

      pub prepare_right : (parts : List Part) → next_of (fixed_of given) here.agent ≡ Some (server, request.Prepare t parts) → is_prepared (reply_of st (request.Prepare t parts)) ≡ true
      prepare_right parts next =
          ap is_prepared
          (replies_up (request.Prepare t parts) next (up_so (request.Prepare t parts) next tt (on_locks (request.Prepare t parts) next refl))
          ∙ ap (λ b. cond b reply.Prepared reply.Lost) (or_right (stands_prepared st t parts) (can_prepare st t parts) (its_finds (request.Prepare t parts) next)))

      -- the home records this decision, or is down
      pub decide_right : (decision : Decision) → next_of (fixed_of given) here.agent ≡ Some (server, request.Decide t decision) → goes.near server ≡ true
          → (is_up (run given events) server ≡ true → reply_of st (request.Decide t decision) ≡ reply.Verdict (verdict_of decision)) × (is_up (run given events) server ≡ false → reply_of st (request.Decide t decision) ≡ reply.Down)
      decide_right decision next near = (
        λ up. replies_up (request.Decide t decision) next (up_near (request.Decide t decision) next near tt ∙ up) ∙ ap (λ old. reply.Verdict (recorded old (verdict_of decision)))
            (unrecorded_at given events so_far agent t caller site ops actor (can_so_far so_far (Step agent ∷ rest) split) goes.there goes.begins spared so_far [] (sym (append-nil so_far)) work server st at),
        λ down. replies_down st (request.Decide t decision) refl (up_near (request.Decide t decision) next near tt ∙ down),
      )
