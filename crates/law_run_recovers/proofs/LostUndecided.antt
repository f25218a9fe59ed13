-- A transaction that had a lock at a server, and has none there any more, is not decided from then on.
use Rattle.law_run_recovers.proofs.Vocabulary.{◌≡◌, ◌⊎◌, inl, inr, ⊎_elim, ℕ, zero, suc, ◌+◌, true, false, List, [], ◌∷◌, ◌++◌, append_assoc, Option, Some, None, refl, sym, ap, subst, ◌∙◌, ◌==◌, ◌&&◌, ◌||◌, slice_get, arith, cons_option, false≢true}
use Rattle.law_run_recovers.proofs.Vocabulary.{and_parts, cases_Bool, eqb-true, eq-eqb, none-some, Opening, serves, Lock, is_own, Has, any_has, can_front, fixed_of, Event, Step, World, opening, servers_from, step, after, run, Decided, decided}
use Rattle.law_run_recovers.proofs.Vocabulary.{decisions, decisions_from, servers_of, no_task, CanBe, locks_stand, locks_in, locks_at, stands, Always, TakenAwayAreNeverDecidedAt}
use Rattle.law_headline.specs.Laws.{TellsOfLock, has_lock_after}
use Rattle.run_core.proofs.Appending.{after-append, decisions_from-append}
use Rattle.law_run_recovers.specs.Sweeping.{has_any}
use Rattle.rep_core.proofs.Members as members
use Rattle.rep_core.specs.declared.request.Request.TheVariants as request
use Rattle.law_run_recovers.proofs.Serves.{Was, Told, lock_told}

module _ (given : Opening) where
  -- ---- it was told

  record ToldIn (w : World) (events : List Event) (t server : ℕ) : Type 0 where
    first : List Event
    event : Event
    last : List Event
    parts : events ≡ first ++ event ∷ last
    told : Told (fixed_of given) (after (fixed_of given) w first) event t server

  told_in : (t server : ℕ) (events : List Event) (w : World) → Was (locks_at (after (fixed_of given) w events) server) t → Was (locks_at w server) t ⊎ ToldIn w events t server
  told_in t server [] w was = inl was
  told_in t server (event ∷ events) w was = ⊎_elim
      (λ earlier. ⊎_elim inl (λ told. inr (record { first = []; event = event; last = events; parts = refl; told = told })) (lock_told (fixed_of given) w event server t earlier))
      (λ told. inr (record { first = event ∷ told.first; event = told.event; last = told.last; parts = ap (λ events. event ∷ events) told.parts; told = told.told }))
      (told_in t server events (step (fixed_of given) w event).world was)

  opens_free : (start count i : ℕ) → locks_in (slice_get (servers_from given start count) i) ≡ []
  opens_free start zero i = refl
  opens_free start (suc count) zero = refl
  opens_free start (suc count) (suc i) = opens_free (start + 1) count i

  -- ---- it is decided

  is_step : (w : World) (event : Event) (one : Decided) → decided (fixed_of given) w event ≡ Some one → (number : ℕ) × (event ≡ Step number)
  is_step w (Step number) one is = (number, refl)
  is_step w other one is = absurd (none-some one (sym (no_task w _) ∙ is))

  record DecidedIn (w : World) (events : List Event) (t : ℕ) : Type 0 where
    first : List Event
    event : Event
    last : List Event
    parts : events ≡ first ++ event ∷ last
    one : Decided
    is : decided (fixed_of given) (after (fixed_of given) w first) event ≡ Some one
    of_it : one.t ≡ t

  decided_in : (t : ℕ) (events : List Event) (w : World) → stands t (decisions_from (fixed_of given) w events) ≡ true → DecidedIn w events t
  decided_in t [] w is = absurd (false≢true is)
  decided_in t (event ∷ events) w is = of (decided (fixed_of given) w event) refl is (decided_in t events (step (fixed_of given) w event).world)
    where
      later : DecidedIn (step (fixed_of given) w event).world events t → DecidedIn w (event ∷ events) t
      later found = record { first = event ∷ found.first; event = found.event; last = found.last; parts = ap (λ events. event ∷ events) found.parts; one = found.one; is = found.is; of_it = found.of_it }

      of : (found : Option Decided) → decided (fixed_of given) w event ≡ found → stands t (cons_option found (decisions_from (fixed_of given) (step (fixed_of given) w event).world events)) ≡ true
          → (stands t (decisions_from (fixed_of given) (step (fixed_of given) w event).world events) ≡ true → DecidedIn (step (fixed_of given) w event).world events t) → DecidedIn w (event ∷ events) t
      of None found is go = later (go is)
      of (Some one) found is go = elim (one.t == t) as (λ b. (one.t == t) ≡ b → (b || stands t (decisions_from (fixed_of given) (step (fixed_of given) w event).world events)) ≡ true → DecidedIn w (event ∷ events) t) [
        | true ↦ λ same _. record { first = []; event = event; last = events; parts = refl; one = one; is = found; of_it = eqb-true one.t t same }
        | false ↦ λ _ is. later (go is)
      ] refl is

  -- ---- so it has its locks still

  locks_of : (world : World) (i : ℕ) → (servers_of given world i).locks ≡ locks_at world i
  locks_of world i = search arith

stands_later : (t : ℕ) (xs ys : List Decided) → stands t xs ≡ false → stands t (xs ++ ys) ≡ stands t ys
stands_later t [] ys none = refl
stands_later t (x ∷ xs) ys none = elim (x.t == t) as (λ b. (b || stands t xs) ≡ false → (b || stands t (xs ++ ys)) ≡ stands t ys) [
  | true ↦ λ none. absurd (false≢true (sym none))
  | false ↦ λ none. stands_later t xs ys none
] none

pub taken_away_are_never_decided : Always TakenAwayAreNeverDecidedAt
taken_away_are_never_decided given before between later t server can had gone undecided =
    ⊎_elim (λ is. absurd (never is)) (λ is. is) (cases_Bool (stands t (decisions given (before ++ between ++ later))))
  where
    was : Was (locks_at (run given before) server) t
    was = let some = any_has (λ (lock : Lock). lock.t == t) (locks_at (run given before) server) had in record { lock = some.0; has = some.1; of_it = eqb-true some.0.t t some.2 }

    told : ToldIn given (opening given) before t server
    told = ⊎_elim (λ first. absurd (subst (λ locks. Has locks first.lock) (opens_free given 0 given.servers server) first.has)) (λ told. told) (told_in given t server before (opening given) was)

    never : stands t (decisions given (before ++ between ++ later)) ≡ true → ⊥
    never is = false≢true (sym gone ∙ still)
      where
        split : decisions given (before ++ between ++ later) ≡ decisions given (before ++ between) ++ decisions_from (fixed_of given) (run given (before ++ between)) later
        split = decisions_from-append (fixed_of given) (opening given) (before ++ between) later

        found : DecidedIn given (run given (before ++ between)) later t
        found = decided_in given t later (run given (before ++ between))
            (sym (stands_later t (decisions given (before ++ between)) (decisions_from (fixed_of given) (run given (before ++ between)) later) undecided) ∙ ap (stands t)
            (sym split) ∙ is)

        number : (number : ℕ) × (found.event ≡ Step number)
        number = is_step given (after (fixed_of given) (run given (before ++ between)) found.first) found.event found.one found.is

        -- the events up to the decision, from where it was told on
        up_to : told.first ++ told.event ∷ (told.last ++ (between ++ found.first)) ≡ (before ++ between) ++ found.first
        up_to = sym (append_assoc told.first (told.event ∷ told.last) (between ++ found.first)) ∙ ap (λ front. front ++ (between ++ found.first)) (sym told.parts) ∙ sym (append_assoc before between found.first)

        up_to_between : told.first ++ told.event ∷ (told.last ++ between) ≡ before ++ between
        up_to_between = sym (append_assoc told.first (told.event ∷ told.last) between) ∙ ap (λ front. front ++ between) (sym told.parts)

        can_then : CanBe given (told.first ++ told.event ∷ (told.last ++ (between ++ found.first)))
        can_then = subst (CanBe given) (sym up_to) (can_front given ((before ++ between) ++ found.first) (found.event ∷ found.last)
            (subst (CanBe given) (sym (append_assoc (before ++ between) found.first (found.event ∷ found.last) ∙ ap (λ later. (before ++ between) ++ later) (sym found.parts))) can))

        tells : TellsOfLock given told.first told.event found.one.t told.told.told.suite told.told.told.mode server
        tells = record {
          what = told.told.what;
          served = told.told.served;
          at = told.told.at;
          asked = inl (told.told.told.poll ∙ ap (λ t. request.Poll t told.told.told.suite told.told.told.mode) (sym found.of_it));
          prefix = told.told.told.copy.prefix;
          dver = told.told.told.copy.dver;
          told = told.told.told.reply;
        }

        decides : decided (fixed_of given) (run given (told.first ++ told.event ∷ (told.last ++ (between ++ found.first)))) (Step number.0) ≡ Some found.one
        decides = ap (λ events. decided (fixed_of given) (run given events) (Step number.0)) up_to
            ∙ ap (λ world. decided (fixed_of given) world (Step number.0)) (after-append (fixed_of given) (opening given) (before ++ between) found.first)
            ∙ ap (decided (fixed_of given) (after (fixed_of given) (run given (before ++ between)) found.first)) (sym number.1) ∙ found.is

        stood : has_lock_after given (told.first ++ told.event ∷ (told.last ++ between)) found.one.t told.told.told.suite told.told.told.mode server ≡ true
        stood = locks_stand given told.first told.event (told.last ++ (between ++ found.first)) number.0 found.one told.told.told.suite told.told.told.mode server can_then tells
            decides (told.last ++ between) found.first (sym (append_assoc told.last between found.first))

        still : has_any t (locks_at (run given (before ++ between)) server) ≡ true
        still =
            let world = run given (told.first ++ told.event ∷ (told.last ++ between)) in
            let some = any_has (λ (lock : Lock). is_own found.one.t told.told.told.suite lock && serves lock.mode told.told.told.mode) (servers_of given world server).locks stood in
            let own = (and_parts (is_own found.one.t told.told.told.suite some.0) (serves some.0.mode told.told.told.mode) some.2).0 in
            let of_it = eqb-true some.0.t found.one.t (and_parts (some.0.t == found.one.t) (some.0.suite == told.told.told.suite) own).0 in
            ap (λ events. has_any t (locks_at (run given events) server)) (sym up_to_between)
            ∙ ap (has_any t) (sym (locks_of given world server))
            ∙ members.has_any (λ (lock : Lock). lock.t == t) (servers_of given world server).locks some.0 some.1 (eq-eqb some.0.t t (of_it ∙ found.of_it))
