-- A sweep alone: how the locks at its server and what it has left go together.
use Rattle.law_run_recovers.proofs.Vocabulary.{◌≡◌, ◌≢◌, ◌⊎◌, inl, inr, ⊎_elim, ℕ, ◌+◌, Bool, true, false, cond, List, [], ◌∷◌, Option, Some, None, refl, sym, ap, subst, ◌∙◌, arith, ◌==◌, ◌&&◌, not, filter, slice_get, slice_set, false≢true}
use Rattle.law_run_recovers.proofs.Vocabulary.{and_parts, cases_Bool, eqb-true, eq-eqb, and_from, Lock, Request, Verdict, has_prepared, is_own, rise, State, record_of, reply_of, reply_up, reply_down, after_up, after_down, after_record, served, Has}
use Rattle.law_run_recovers.proofs.Vocabulary.{has_filter, filter_has, any_has, has_any, Ending, Swept, home_of, Fixed, Sweeping, Listing, Resolving, Telling, Breaking, SweepRun, After, GoesOn, Ends, rising, others, sweep_on, after_answer, asked_now}
use Rattle.law_run_recovers.proofs.Vocabulary.{World, server_at, same_or, puts_in, up_in, is_up, locks_in, locks_at, is_in_doubt, one_if, holders}
use Rattle.rep_core.specs.Service.{after}
use Rattle.txn_core.specs.Sweeps.{lost}
use Rattle.rep_core.specs.declared.request.Request.TheVariants as request
use Rattle.rep_core.specs.declared.reply.Verdict.TheVariants as verdict
use Rattle.law_run_recovers.proofs.Doubts.{filter_twice, filter_alike, filter_all, rising_same, holders_of}

-- ---- tests

turned : (a b : Bool) → (a && b) ≡ (b && a)
turned a b = search arith

-- ---- a server served one request

module _ (w new : World) (target : ℕ) (st : State) (asked : Request) (stamp : ℕ) (at : server_at w target ≡ Some st) (servers : new.servers ≡ slice_set w.servers target (served st (record { stamp = stamp; value = asked }))) where
  abbrev new_st : State
  new_st = served st (record { stamp = stamp; value = asked })

  served_here : server_at new target ≡ Some new_st
  served_here = ap (λ servers. slice_get servers target) servers ∙ (puts_in w.servers target st new_st at).here

  served_apart : (x : ℕ) → x ≢ target → server_at new x ≡ server_at w x
  served_apart x apart = ap (λ servers. slice_get servers x) servers ∙ (puts_in w.servers target st new_st at).apart x apart

  pub same_ups : (after st asked).up ≡ st.up → (x : ℕ) → is_up new x ≡ is_up w x
  same_ups same x = search (served_here, served_apart, same_or, arith)

  pub locks_here : locks_at new target ≡ (after st asked).locks
  locks_here = ap locks_in served_here

  pub locks_apart : (x : ℕ) → x ≢ target → locks_at new x ≡ locks_at w x
  locks_apart x apart = ap locks_in (served_apart x apart)

  pub same_locks : (after st asked).locks ≡ st.locks → (x : ℕ) → locks_at new x ≡ locks_at w x
  same_locks same x = search (locks_here, locks_apart, same_or, arith)

record_up : (old : Option Verdict) (t : ℕ) (v : Verdict) (st : State) → (after_record old t v None st).up ≡ st.up
record_up old t v st = search arith

record_locks : (old : Option Verdict) (t : ℕ) (v : Verdict) (st : State) → (after_record old t v None st).locks ≡ st.locks
record_locks old t v st = search arith

-- ---- what is left

module _ (fixed : Fixed) (first : World) (s : ℕ) (up : is_up first s ≡ true) (rises : rise (locks_at first s) ≡ true) where
  abbrev pub then_there : List Lock
  then_there = locks_at first s

  abbrev pub doubt : Lock → Bool
  doubt lock = is_in_doubt fixed first then_there lock

  -- what servers are up, and other servers' locks, are as they were
  pub record Others (w : World) : Type 0 where
    pub ups : (x : ℕ) → is_up w x ≡ is_up first x
    pub locks : (x : ℕ) → x ≢ s → locks_at w x ≡ locks_at first x

  -- The locks that pass a test are there now; of these each is in doubt or is still to be seen to, all that are in doubt are there, and so many
  -- transactions were left.
  pub record Left (p : Lock → Bool) (rest : List Lock) (count : ℕ) : Type 0 where
    pub here : (lock : Lock) → Has then_there lock → p lock ≡ true → (doubt lock ≡ true) ⊎ Has rest lock
    pub kept : (lock : Lock) → Has then_there lock → doubt lock ≡ true → p lock ≡ true
    pub there : (lock : Lock) → Has rest lock → Has then_there lock
    pub all : (lock other : Lock) → Has then_there lock → lock.prepared ≡ true → Has rest other → lock.t ≡ other.t → Has rest lock
    pub counted : count + holders (filter doubt rest) ≡ holders (filter doubt then_there)

  abbrev pub NowIs : Sweeping → (Lock → Bool) → List Lock → Type 0
  NowIs Listing p rest = (rest ≡ then_there) × ((lock : Lock) → Has then_there lock → p lock ≡ true)
  NowIs (Resolving t left) p rest = (left ≡ others t rest) × (has_prepared t rest ≡ true)
  NowIs (Telling t v left) p rest = (left ≡ others t rest) × (is_up first (home_of fixed.service t) ≡ true)
  NowIs (Breaking lock left) p rest = (rest ≡ lock ∷ left) × (has_prepared lock.t rest ≡ false)

  pub record Sweeps (w : World) (sweep_run : SweepRun) : Type 0 where
    pub server : sweep_run.server ≡ s
    pub others_are : Others w
    pub p : Lock → Bool
    pub locks : locks_at w s ≡ filter p then_there
    pub rest : List Lock
    pub left : Left p rest sweep_run.left
    pub now : NowIs sweep_run.now p rest

  pub record Finished (w : World) (ending : Ending) : Type 0 where
    pub others_are : Others w
    pub locks : locks_at w s ≡ filter doubt then_there
    pub broken : ℕ
    pub finished : ℕ
    pub is : ending ≡ Swept broken finished (holders (filter doubt then_there))

  abbrev pub Then : World → After SweepRun → Type 0
  Then w (GoesOn sweep_run) = Sweeps w sweep_run
  Then w (Ends ending) = Finished w ending

  -- ---- it goes on with what is left

  same_test : (p : Lock → Bool) (count : ℕ) → Left p [] count → (lock : Lock) → Has then_there lock → p lock ≡ doubt lock
  same_test p count left lock has = search arith

  pub goes_on : (w : World) (sweep_run : SweepRun) → sweep_run.server ≡ s → Others w → (p : Lock → Bool) → locks_at w s ≡ filter p then_there → (rest : List Lock) → Left p rest sweep_run.left → Then w (sweep_on sweep_run rest)
  goes_on w sweep_run server others_are p locks [] left =
      let count = left.counted in
      record {
        others_are = others_are;
        locks = locks ∙ filter_alike p doubt then_there (same_test p sweep_run.left left);
        broken = sweep_run.broken;
        finished = sweep_run.finished;
        is = ap (Swept sweep_run.broken sweep_run.finished) (to sweep_run.left _ count);
      }
    where
      to : (n m : ℕ) → n + 0 ≡ m → n ≡ m
      to n m is = omega (arith, is)
  goes_on w sweep_run server others_are p locks (lock ∷ more) left = search (eq-eqb, arith)

  -- ---- one transaction less

  doubt_of : (lock : Lock) (t : ℕ) → lock.t ≡ t → doubt lock ≡ (has_prepared t then_there && not (is_up first (home_of fixed.service t)))
  doubt_of lock t is = ap (λ t. has_prepared t then_there && not (is_up first (home_of fixed.service t))) is

  -- those of others that are in doubt
  others_doubt : (t : ℕ) (rest : List Lock) → others t (filter doubt rest) ≡ filter doubt (others t rest)
  others_doubt t rest =
      filter_twice doubt (λ lock. not (lock.t == t)) rest
      ∙ filter_alike (λ lock. doubt lock && not (lock.t == t)) (λ lock. not (lock.t == t) && doubt lock) rest (λ lock has. turned (doubt lock) (not (lock.t == t)))
      ∙ sym (filter_twice (λ lock. not (lock.t == t)) doubt rest)

  -- others of what is left stay apart
  all_others : (p : Lock → Bool) (rest : List Lock) (count t : ℕ) → Left p rest count → (lock other : Lock) → Has then_there lock → lock.prepared ≡ true → Has (others t rest) other → lock.t ≡ other.t → Has (others t rest) lock
  all_others p rest count t left lock other has prepared in' same = search (has_filter, filter_has, arith)

  -- its home is down: it stays in doubt
  pub left_in_doubt : (p : Lock → Bool) (rest : List Lock) (count t : ℕ) → Left p rest count → has_prepared t rest ≡ true → is_up first (home_of fixed.service t) ≡ false → Left p (others t rest) (count + 1)
  left_in_doubt p rest count t left prepared down =
      let some = any_has (λ (lock : Lock). (lock.t == t) && lock.prepared) rest prepared in
      let parts = and_parts (some.0.t == t) some.0.prepared some.2 in
      let before = has_any (λ (lock : Lock). (lock.t == t) && lock.prepared) then_there some.0 (left.there some.0 some.1) some.2 in
      let doubtful : (lock : Lock) → lock.t ≡ t → doubt lock ≡ true = λ lock is. doubt_of lock t is ∙ and_from (has_prepared t then_there) (not (is_up first (home_of fixed.service t))) before (ap not down) in
      let one = has_any (λ (lock : Lock). lock.t == t) (filter doubt rest) some.0 (filter_has doubt rest some.0 some.1 (doubtful some.0 (eqb-true some.0.t t parts.0))) parts.0 in
      record {
        here = search (eqb-true, filter_has, cases_Bool, arith);
        kept = left.kept;
        there = λ lock in'. left.there lock (has_filter (λ (lock : Lock). not (lock.t == t)) rest lock in').0;
        all = all_others p rest count t left;
        counted =
            let was = left.counted in
            let parts = holders_of t (filter doubt rest) ∙ ap (λ b. one_if b + holders (others t (filter doubt rest))) one ∙ ap (λ locks. 1 + holders locks) (others_doubt t rest) in
            sums count (holders (filter doubt rest)) (holders (filter doubt (others t rest))) (holders (filter doubt then_there)) was parts;
      }
    where
      sums : (c a b d : ℕ) → c + a ≡ d → a ≡ 1 + b → c + 1 + b ≡ d
      sums c a b d is parts = omega (arith, is, parts)

  -- its home is up, and it is told: it is gone
  pub left_told : (p : Lock → Bool) (rest : List Lock) (count t : ℕ) → Left p rest count → is_up first (home_of fixed.service t) ≡ true → Left (λ lock. p lock && not (lock.t == t)) (others t rest) count
  left_told p rest count t left home =
      let certain : (lock : Lock) → (lock.t == t) ≡ true → doubt lock ≡ false = λ lock own. doubt_of lock t (eqb-true lock.t t own) ∙ ap (λ b. has_prepared t then_there && not b) home ∙ turned (has_prepared t then_there) false in
      record {
        here = λ lock has is. let parts = and_parts (p lock) (not (lock.t == t)) is in ⊎_elim inl (λ in'. inr (filter_has (λ (lock : Lock). not (lock.t == t)) rest lock in' parts.1)) (left.here lock has parts.0);
        kept = λ lock has is. and_from (p lock) (not (lock.t == t)) (left.kept lock has is) (⊎_elim (λ own. absurd (false≢true (sym (certain lock own) ∙ is))) (λ apart. ap not apart) (cases_Bool (lock.t == t)));
        there = λ lock in'. left.there lock (has_filter (λ (lock : Lock). not (lock.t == t)) rest lock in').0;
        all = all_others p rest count t left;
        counted =
            ap (λ locks. count + holders locks) (filter_twice (λ (lock : Lock). not (lock.t == t)) doubt rest ∙ filter_alike (λ lock. not (lock.t == t) && doubt lock) doubt rest (λ lock has. same lock (certain lock)))
            ∙ left.counted;
      }
    where
      same : (lock : Lock) → ((lock.t == t) ≡ true → doubt lock ≡ false) → (not (lock.t == t) && doubt lock) ≡ doubt lock
      same lock certain = ⊎_elim (λ own. ap (λ b. not b && doubt lock) own ∙ sym (certain own)) (λ apart. ap (λ b. not b && doubt lock) apart) (cases_Bool (lock.t == t))

  -- no lock of it is prepared, and one is broken
  pub left_broken : (p : Lock → Bool) (lock : Lock) (more : List Lock) (count : ℕ) → Left p (lock ∷ more) count → has_prepared lock.t (lock ∷ more) ≡ false
      → Left (λ other. p other && not (is_own lock.t lock.suite other && not other.prepared)) more count
  left_broken p lock more count left none = search (and_parts, false≢true, and_from, cases_Bool, has_any, eq-eqb, any_has, eqb-true, doubt_of, arith)

  -- ---- one step

  pub others_served : (w new : World) → Others w → ((x : ℕ) → is_up new x ≡ is_up w x) → ((x : ℕ) → x ≢ s → locks_at new x ≡ locks_at w x) → Others new
  others_served w new others_are ups locks = record { ups = λ x. ups x ∙ others_are.ups x; locks = λ x apart. locks x apart ∙ others_are.locks x apart }

  module _ (w new : World) (sweep_run : SweepRun) (sweeps : Sweeps w sweep_run) (st : State) (stamp : ℕ) where
    abbrev Serves : ℕ → Request → Type 0
    Serves target asked = new.servers ≡ slice_set w.servers target (served st (record { stamp = stamp; value = asked }))

    -- its server is up
    up_here : server_at w s ≡ Some st → st.up ≡ true
    up_here at = sym (ap up_in at) ∙ sweeps.others_are.ups s ∙ up

    locks_then : server_at w s ≡ Some st → st.locks ≡ filter sweeps.p then_there
    locks_then at = sym (ap locks_in at) ∙ sweeps.locks

    listing : NowIs Listing sweeps.p sweeps.rest → server_at w s ≡ Some st → Serves s request.Locks → Then new (after_answer fixed.service sweep_run Listing (reply_of st request.Locks))
    listing now at servers =
        let is_up_now = up_here at in
        let after_is : after st request.Locks ≡ st = ap (λ b. cond b (after_up st request.Locks) (after_down st request.Locks)) is_up_now in
        let sorted : sweeps.rest ≡ rising st.locks = now.0 ∙ sym (rising_same then_there rises) ∙ sym (ap rising (locks_then at ∙ filter_all sweeps.p then_there now.1)) in
        subst (λ b. Then new (after_answer fixed.service sweep_run Listing (cond b (reply_up st request.Locks) (reply_down request.Locks)))) (sym is_up_now)
        (subst (λ rest. Then new (sweep_on sweep_run rest)) sorted
        (goes_on new sweep_run sweeps.server
        (others_served w new sweeps.others_are (same_ups w new s st request.Locks stamp at servers (ap (λ (st : State). st.up) after_is)) (λ x apart. locks_apart w new s st request.Locks stamp at servers x apart))
        sweeps.p (same_locks w new s st request.Locks stamp at servers (ap (λ (st : State). st.locks) after_is) s ∙ sweeps.locks) sweeps.rest sweeps.left))

    resolving : (t : ℕ) (left : List Lock) → NowIs (Resolving t left) sweeps.p sweeps.rest → server_at w (home_of fixed.service t) ≡ Some st → Serves (home_of fixed.service t) (request.Resolve t)
        → Then new (after_answer fixed.service sweep_run (Resolving t left) (reply_of st (request.Resolve t)))
    resolving t left now at servers = of st.up refl
      where
        home : ℕ
        home = home_of fixed.service t

        of : (b : Bool) → st.up ≡ b → Then new (after_answer fixed.service sweep_run (Resolving t left) (reply_of st (request.Resolve t)))
        of true is =
            let after_is : after st (request.Resolve t) ≡ after_record (record_of st t) t verdict.Aborted None st = ap (λ b. cond b (after_up st (request.Resolve t)) (after_down st (request.Resolve t))) is in
            let ups = same_ups w new (home_of fixed.service t) st (request.Resolve t) stamp at servers (ap (λ (st : State). st.up) after_is ∙ record_up (record_of st t) t verdict.Aborted st) in
            let locks = same_locks w new (home_of fixed.service t) st (request.Resolve t) stamp at servers (ap (λ (st : State). st.locks) after_is ∙ record_locks (record_of st t) t verdict.Aborted st) in
            subst (λ b. Then new (after_answer fixed.service sweep_run (Resolving t left) (cond b (reply_up st (request.Resolve t)) (reply_down (request.Resolve t))))) (sym is)
            (record {
              server = sweeps.server;
              others_are = others_served w new sweeps.others_are ups (λ x apart. locks x);
              p = sweeps.p;
              locks = locks s ∙ sweeps.locks;
              rest = sweeps.rest;
              left = sweeps.left;
              now = (now.0, sym (sweeps.others_are.ups (home_of fixed.service t)) ∙ ap up_in at ∙ is);
            })
        of false is =
            let after_is : after st (request.Resolve t) ≡ st = ap (λ b. cond b (after_up st (request.Resolve t)) (after_down st (request.Resolve t))) is in
            let ups = same_ups w new (home_of fixed.service t) st (request.Resolve t) stamp at servers (ap (λ (st : State). st.up) after_is) in
            let locks = same_locks w new (home_of fixed.service t) st (request.Resolve t) stamp at servers (ap (λ (st : State). st.locks) after_is) in
            let down : is_up first (home_of fixed.service t) ≡ false = sym (sweeps.others_are.ups (home_of fixed.service t)) ∙ ap up_in at ∙ is in
            subst (λ b. Then new (after_answer fixed.service sweep_run (Resolving t left) (cond b (reply_up st (request.Resolve t)) (reply_down (request.Resolve t))))) (sym is)
            (elim (home_of fixed.service t == sweep_run.server) as (λ b. (home_of fixed.service t == sweep_run.server) ≡ b → Then new (cond b (lost sweep_run) (sweep_on (record sweep_run { left = sweep_run.left + 1 }) left))) [
              | true ↦ λ same. absurd (false≢true (sym down ∙ ap (is_up first) (eqb-true (home_of fixed.service t) sweep_run.server same ∙ sweeps.server) ∙ up))
              | false ↦ λ _.
                  subst (λ left. Then new (sweep_on (record sweep_run { left = sweep_run.left + 1 }) left)) (sym now.0)
                  (goes_on new (record sweep_run { left = sweep_run.left + 1 }) sweeps.server (others_served w new sweeps.others_are ups (λ x apart. locks x)) sweeps.p (locks s ∙ sweeps.locks) (others t sweeps.rest)
                  (left_in_doubt sweeps.p sweeps.rest sweep_run.left t sweeps.left now.1 down))
            ] refl)

    telling : (t : ℕ) (v : Verdict) (left : List Lock) → NowIs (Telling t v left) sweeps.p sweeps.rest → server_at w s ≡ Some st → Serves s (request.Finish t v)
        → Then new (after_answer fixed.service sweep_run (Telling t v left) (reply_of st (request.Finish t v)))
    telling t v left now at servers =
        let is = up_here at in
        let after_is : after st (request.Finish t v) ≡ after_up st (request.Finish t v) = ap (λ b. cond b (after_up st (request.Finish t v)) (after_down st (request.Finish t v))) is in
        let ups = same_ups w new s st (request.Finish t v) stamp at servers (ap (λ (st : State). st.up) after_is) in
        subst (λ b. Then new (after_answer fixed.service sweep_run (Telling t v left) (cond b (reply_up st (request.Finish t v)) (reply_down (request.Finish t v))))) (sym is)
        (subst (λ left. Then new (sweep_on (record sweep_run { finished = sweep_run.finished + 1 }) left)) (sym now.0)
        (goes_on new (record sweep_run { finished = sweep_run.finished + 1 }) sweeps.server
        (others_served w new sweeps.others_are ups (λ x apart. locks_apart w new s st (request.Finish t v) stamp at servers x apart))
        (λ lock. sweeps.p lock && not (lock.t == t))
        (locks_here w new s st (request.Finish t v) stamp at servers ∙ ap (λ (st : State). st.locks) after_is ∙ ap (filter (λ (lock : Lock). not (lock.t == t)))
        (locks_then at) ∙ filter_twice sweeps.p (λ (lock : Lock). not (lock.t == t)) then_there)
        (others t sweeps.rest) (left_told sweeps.p sweeps.rest sweep_run.left t sweeps.left now.1)))

    breaking : (lock : Lock) (left : List Lock) → NowIs (Breaking lock left) sweeps.p sweeps.rest → server_at w s ≡ Some st → Serves s (request.Break lock.t lock.suite)
        → Then new (after_answer fixed.service sweep_run (Breaking lock left) (reply_of st (request.Break lock.t lock.suite)))
    breaking lock left now at servers =
        let is = up_here at in
        let asked = request.Break lock.t lock.suite in
        let after_is : after st (request.Break lock.t lock.suite) ≡ after_up st (request.Break lock.t lock.suite) = ap (λ b. cond b (after_up st (request.Break lock.t lock.suite)) (after_down st (request.Break lock.t lock.suite))) is in
        let ups = same_ups w new s st (request.Break lock.t lock.suite) stamp at servers (ap (λ (st : State). st.up) after_is) in
        subst (λ b. Then new (after_answer fixed.service sweep_run (Breaking lock left) (cond b (reply_up st (request.Break lock.t lock.suite)) (reply_down (request.Break lock.t lock.suite))))) (sym is)
        (goes_on new (record sweep_run { broken = sweep_run.broken + 1 }) sweeps.server
        (others_served w new sweeps.others_are ups (λ x apart. locks_apart w new s st (request.Break lock.t lock.suite) stamp at servers x apart))
        (λ other. sweeps.p other && not (is_own lock.t lock.suite other && not other.prepared))
        (locks_here w new s st (request.Break lock.t lock.suite) stamp at servers ∙ ap (λ (st : State). st.locks) after_is
        ∙ ap (filter (λ (other : Lock). not (is_own lock.t lock.suite other && not other.prepared))) (locks_then at) ∙ filter_twice sweeps.p (λ (other : Lock). not (is_own lock.t lock.suite other && not other.prepared)) then_there)
        left
        (left_broken sweeps.p lock left sweep_run.left (subst (λ rest. Left sweeps.p rest sweep_run.left) now.0 sweeps.left) (ap (has_prepared lock.t) (sym now.0) ∙ now.1)))

    by_now : (now : Sweeping) → NowIs now sweeps.p sweeps.rest → server_at w (asked_now fixed.service sweep_run now).0 ≡ Some st → Serves (asked_now fixed.service sweep_run now).0 (asked_now fixed.service sweep_run now).1
        → Then new (after_answer fixed.service sweep_run now (reply_of st (asked_now fixed.service sweep_run now).1))
    by_now now h1 h2 h3 = search (listing, resolving, telling, breaking, arith)

    pub step_then : server_at w (asked_now fixed.service sweep_run sweep_run.now).0 ≡ Some st → Serves (asked_now fixed.service sweep_run sweep_run.now).0 (asked_now fixed.service sweep_run sweep_run.now).1
        → Then new (after_answer fixed.service sweep_run sweep_run.now (reply_of st (asked_now fixed.service sweep_run sweep_run.now).1))
    step_then at servers = by_now sweep_run.now sweeps.now at servers
