-- A Poll or an Upgrade that was told Held, and is served again later: the lock stands in its mode, and the copy is the same.
use Rattle.rep_core.proofs.Vocabulary.{◌≡◌, inl, inr, ℕ, Bool, true, false, cond, List, [], ◌∷◌, ◌++◌, Some, None, refl, sym, ap, subst, ◌∙◌, arith, ◌==◌, ◌&&◌, ◌||◌, not, filter, find, false≢true, nat_tests, Prefix, LockMode, Exclusive}
use Rattle.rep_core.proofs.Vocabulary.{is_exclusive, serves, stronger, Lock, Request, Stamped, is_own, conflicts, in_the_way, has_lock, before, raised_lock, raised, with_lock, locked, prepared_lock, copy_of, State, reply_of, after, after_locking}
use Rattle.rep_core.proofs.Vocabulary.{poll_reply, after_poll, is_full, served, step, IsConsistent, after_all, sent, later_on, StaysLater, is_taking, served_by, AgainLater, or_parts}
use Rattle.rep_core.specs.declared.request.Request.TheVariants as request
use Rattle.rep_core.specs.declared.reply.Reply.TheVariants as reply
use Rattle.rep_core.proofs.Members.{Has, contains_from, any_has, has_any, map_has, filter_has, between_has}
use Rattle.rep_core.proofs.Alone.{own_is}
use Rattle.rep_core.proofs.Stays.{serves_itself, serves_on, raised_serves}
use Rattle.rep_core.proofs.Least.{same_lock}
use Rattle.rep_core.proofs.LockLookups.{new_lock}
use Rattle.rep_core.proofs.Ways.{Ways}
use Rattle.rep_core.proofs.Consistent.{consistent_step}
use Rattle.rep_core.proofs.Reached.{consistent_all}
use Rattle.rep_core.proofs.RepliesTell.{LockTold, poll_told, upgrade_told}
use Rattle.rep_core.proofs.Again.{has_locked}
use Rattle.rep_core.proofs.Later.{stays_later, kept_step, later_recorded, later_prepared, later_finished, later_fetched, HasCopy, still_copy, spared, spared_break}

has_amid : {X : Type 0} (xs : List X) (y : X) (ys : List X) → Has (xs ++ y ∷ ys) y
has_amid [] y ys = inl refl
has_amid (x ∷ xs) y ys = inr (has_amid xs y ys)

find_nothing : {X : Type 0} (p : X → Bool) (xs : List X) → ((x : X) → Has xs x → p x ≡ false) → find p xs ≡ None
find_nothing p [] none = refl
find_nothing p (x ∷ xs) none = ap (λ b. cond b (Some x) (find p xs)) (none x (inl refl)) ∙ find_nothing p xs (λ x has. none x (inr has))

serves_stronger : (a m : LockMode) → serves (stronger a m) m ≡ true
serves_stronger a m = search arith

stronger_serves : (a m : LockMode) → serves a m ≡ true → stronger a m ≡ a
stronger_serves a m h2 = search arith

exclusive_serves : (a m : LockMode) → serves a m ≡ true → is_exclusive m ≡ true → is_exclusive a ≡ true
exclusive_serves a m h2 h3 = search arith

module _ (t suite : ℕ) (mode : LockMode) where
  -- the transaction has a lock on the suite in the mode, or a stronger one
  record HasMode (ls : List Lock) : Type 0 where
    lock : Lock
    there : Has ls lock
    own : is_own t suite lock ≡ true
    strong : serves lock.mode mode ≡ true

  mode_locked : (u s : ℕ) (m : LockMode) (ls : List Lock) → HasMode ls → HasMode (locked u s m ls)
  mode_locked u s m ls is =
      elim (has_lock u s ls) as (λ b. HasMode (cond b (raised u s m ls) (with_lock (new_lock u s m) ls))) [
        | true ↦ record {
          lock = raised_lock u s m is.lock;
          there = map_has (raised_lock u s m) ls is.lock is.there;
          own = is.own;
          strong = serves_on mode is.lock.mode (raised_lock u s m is.lock).mode is.strong (raised_serves u s m is.lock);
        }
        | false ↦ record { lock = is.lock; there = between_has (λ other. before other (new_lock u s m)) ls (new_lock u s m) is.lock is.there; own = is.own; strong = is.strong }
      ]

  mode_passed : (ls : List Lock) (p : Lock → Bool) → ((l : Lock) → is_own t suite l ≡ true → p l ≡ true) → HasMode ls → HasMode (filter p ls)
  mode_passed ls p passes is = record { lock = is.lock; there = filter_has p ls is.lock is.there (passes is.lock is.own); own = is.own; strong = is.strong }

  mode_ways : (st : State) → HasMode st.locks → Ways st (λ asked new. is_taking t asked ≡ false → HasMode new.locks)
  mode_ways st is = record {
    same = λ _ _. is;
    poll = λ u s m free _. mode_locked u s m st.locks is;
    upgrade = λ u s has free _. mode_locked u s Exclusive st.locks is;
    prepare = λ u parts does few _. record { lock = prepared_lock u parts is.lock; there = map_has (prepared_lock u parts) st.locks is.lock is.there; own = is.own; strong = is.strong };
    decide = λ u decision free _. is;
    resolve = λ u free _. is;
    finish = λ u v up other. mode_passed st.locks (λ l. not (l.t == u)) (λ l own. spared t suite (copy_of st.store suite) u l other own) is;
    break = λ u s other. mode_passed st.locks (λ l. not (is_own u s l && not l.prepared)) (λ l own. spared_break t suite (copy_of st.store suite) u s l other own) is;
    crash = λ other. absurd (false≢true (sym other));
    return = λ _. is;
  }

  still_mode : (later : List (Stamped Request)) (st : State) → HasMode st.locks → served_by (is_taking t) st later ≡ false → HasMode (after_all st later).locks
  still_mode [] st is other = is
  still_mode (first ∷ later) st is other =
      let parts = or_parts (is_taking t first.value && st.up && not (is_full st first)) (served_by (is_taking t) (step st first) later) other in
      still_mode later (step st first) (kept_step (λ locks store. HasMode locks) (is_taking t) st first is (mode_ways st is) parts.0) parts.1

  mode_now : (ls : List Lock) → HasMode (locked t suite mode ls)
  mode_now ls =
      elim (has_lock t suite ls) as (λ b. has_lock t suite ls ≡ b → HasMode (cond b (raised t suite mode ls) (with_lock (new_lock t suite mode) ls))) [
        | true ↦ λ has.
            let found = any_has (is_own t suite) ls has in
            record {
              lock = raised_lock t suite mode found.0;
              there = map_has (raised_lock t suite mode) ls found.0 found.1;
              own = found.2;
              strong = ap (λ b. serves (cond b (stronger found.0.mode mode) found.0.mode) mode) found.2 ∙ serves_stronger found.0.mode mode;
            }
        | false ↦ λ _. record {
          lock = new_lock t suite mode;
          there = has_amid (filter (λ other. before other (new_lock t suite mode)) ls) (new_lock t suite mode) (filter (λ other. not (before other (new_lock t suite mode))) ls);
          own = own_new;
          strong = serves_itself mode;
        }
      ] refl
    where
      own_new : is_own t suite (new_lock t suite mode) ≡ true
      own_new = grind (arith, nat_tests)

  -- ---- nothing is in its way, and its lock is as it asks

  conflict_parts : (x : Lock) → conflicts t suite mode x ≡ true → (x.suite ≡ suite) × ((x.t == t) ≡ false) × ((is_exclusive mode || is_exclusive x.mode) ≡ true)
  conflict_parts x is = (grind (arith, nat_tests), grind (arith, nat_tests), grind (arith, nat_tests))

  apart : (u : ℕ) → (u == t) ≡ false → u ≡ t → ⊥
  apart u other same = grind (arith, nat_tests)

  nothing_there : (st : State) → IsConsistent st → HasMode st.locks → (x : Lock) → Has st.locks x → conflicts t suite mode x ≡ false
  nothing_there st is has x there =
      elim (conflicts t suite mode x) as (λ b. conflicts t suite mode x ≡ b → b ≡ false) [
        | true ↦ λ conflict.
            let parts = conflict_parts x conflict in
            let own = own_is t suite has.lock has.own in
            absurd (apart x.t parts.1 (elim (is_exclusive mode) as (λ b. is_exclusive mode ≡ b → (b || is_exclusive x.mode) ≡ true → x.t ≡ t) [
              | true ↦ λ exclusive _. sym (is.alone has.lock x (contains_from st.locks has.lock has.there) (contains_from st.locks x there) (own.1 ∙ sym parts.0) (exclusive_serves has.lock.mode mode has.strong exclusive)) ∙ own.0
              | false ↦ λ _ exclusive. is.alone x has.lock (contains_from st.locks x there) (contains_from st.locks has.lock has.there) (parts.0 ∙ sym own.1) exclusive ∙ own.0
            ] refl parts.2))
        | false ↦ λ _. refl
      ] refl

  raised_each : (ls : List Lock) → ((l : Lock) → Has ls l → raised_lock t suite mode l ≡ l) → raised t suite mode ls ≡ ls
  raised_each [] same = refl
  raised_each (l ∷ ls) same = λ i. same l (inl refl) i ∷ raised_each ls (λ l has. same l (inr has)) i

  locks_same : (st : State) → IsConsistent st → HasMode st.locks → locked t suite mode st.locks ≡ st.locks
  locks_same st is has = search (new_lock, has_any, raised_each, own_is, same_lock, stronger_serves, arith)

  way_free : (st : State) → IsConsistent st → HasMode st.locks → in_the_way t suite mode st.locks ≡ None
  way_free st is has = find_nothing (conflicts t suite mode) st.locks (nothing_there st is has)

  poll_same : (st : State) → IsConsistent st → HasMode st.locks → after_poll st t suite mode ≡ st
  poll_same st is has = ap (λ way. after_locking way t suite mode st) (way_free st is has) ∙ ap (λ locks. record st { locks = locks }) (locks_same st is has)

  -- ---- once it was told Held

  -- what holds of a server once it was told so, and still later
  record Stands (st new : State) : Type 0 where
    consistent : IsConsistent new
    strong : HasMode new.locks
    copy : HasCopy t suite (copy_of st.store suite) new.locks new.store

  stands_later : (st : State) (asked : Stamped Request) (prefix : Prefix) (dver : ℕ) (later : List (Stamped Request)) → IsConsistent st → is_full st asked ≡ false
      → LockTold st (after st asked.value) t suite mode prefix dver → served_by (is_taking t) (served st asked) later ≡ false
      → Stands st (later_on st asked later)
  stands_later st asked prefix dver later is room told other =
      let start = served st asked in
      let stepped : step st asked ≡ start = ap (λ b. cond b st start) room in
      let consistent : IsConsistent start = subst IsConsistent stepped (consistent_step st asked is) in
      let strong : HasMode start.locks = subst (λ (new : State). HasMode new.locks) (sym told.later) (mode_now st.locks) in
      let copy : HasCopy t suite (copy_of st.store suite) start.locks start.store =
      subst (λ (new : State). HasCopy t suite (copy_of st.store suite) new.locks new.store) (sym told.later) (record { has = has_locked t suite mode st.locks; same = refl }) in
      record {
        consistent = consistent_all later start consistent;
        strong = still_mode later start strong other;
        copy = still_copy t suite (copy_of st.store suite) later start consistent copy other;
      }

  said_again : (st new : State) (prefix : Prefix) (dver : ℕ) → Stands st new → (copy_of st.store suite).prefix ≡ prefix → (copy_of st.store suite).dver ≡ dver → poll_reply new t suite mode ≡ reply.Held prefix dver
  said_again st new prefix dver stands one two = search (way_free, arith)

later_polled : (st : State) (stamp t suite : ℕ) (mode : LockMode) (prefix : Prefix) (dver : ℕ) (later : List (Stamped Request)) → IsConsistent st → is_full st (sent stamp (request.Poll t suite mode)) ≡ false
    → reply_of st (request.Poll t suite mode) ≡ reply.Held prefix dver → served_by (is_taking t) (served st (sent stamp (request.Poll t suite mode))) later ≡ false
    → StaysLater st (later_on st (sent stamp (request.Poll t suite mode)) later) (request.Poll t suite mode)
later_polled st stamp t suite mode prefix dver later is room said other =
    let asked = sent stamp (request.Poll t suite mode) in
    let new = later_on st asked later in
    let told = poll_told st t suite mode prefix dver said in
    let stands = stands_later t suite mode st asked prefix dver later is room told other in
    stays_later st new (request.Poll t suite mode)
    (λ _. (poll_same t suite mode new stands.consistent stands.strong, said_again t suite mode st new prefix dver stands told.prefix_is told.dver_is ∙ sym said))
    refl

later_upgraded : (st : State) (stamp t suite : ℕ) (prefix : Prefix) (dver : ℕ) (later : List (Stamped Request)) → IsConsistent st → is_full st (sent stamp (request.Upgrade t suite)) ≡ false
    → reply_of st (request.Upgrade t suite) ≡ reply.Held prefix dver → served_by (is_taking t) (served st (sent stamp (request.Upgrade t suite))) later ≡ false
    → StaysLater st (later_on st (sent stamp (request.Upgrade t suite)) later) (request.Upgrade t suite)
later_upgraded st stamp t suite prefix dver later is room said other =
    let asked = sent stamp (request.Upgrade t suite) in
    let new = later_on st asked later in
    let told = (upgrade_told st t suite prefix dver said).1 in
    let stands = stands_later t suite Exclusive st asked prefix dver later is room told other in
    stays_later st new (request.Upgrade t suite)
    (λ _. (
      ap (λ b. cond b (after_poll new t suite Exclusive) new) stands.copy.has ∙ poll_same t suite Exclusive new stands.consistent stands.strong,
      ap (λ b. cond b (poll_reply new t suite Exclusive) reply.Lost) stands.copy.has ∙ said_again t suite Exclusive st new prefix dver stands told.prefix_is told.dver_is ∙ sym said,
    ))
    refl

pub again_later : AgainLater
again_later = search (later_recorded, later_prepared, later_finished, later_polled, later_upgraded, later_fetched, arith)
