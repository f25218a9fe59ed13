-- A request that is served again later changes nothing more, and is answered the same.
use Rattle.rep_core.proofs.Vocabulary.{◌≡◌, ℕ, Bool, true, false, cond, List, [], ◌∷◌, Option, Some, None, Less, Equal, Greater, refl, sym, ap, subst, ◌∙◌, arith, ◌==◌, ◌&&◌, ◌||◌, not, ◌++◌, length, filter, map, list_any, list_all, nat_cmp}
use Rattle.rep_core.proofs.Vocabulary.{match_ordering, and_parts, or_parts, false≢true, nat_tests, get, insert, Configuration, Content, Replica, Form, LockMode, serves, Intention, Lock, Part, Request, Verdict, Stamped, is_own, has_lock, has_prepared}
use Rattle.rep_core.proofs.Vocabulary.{has_lock_for, before, raised_lock, raised, with_lock, locked, Store, copy_of, is_sound_part, lists_twice, with_intentions, with_copies, with_forms, State, record_of, reply_of, after, reply_up, after_up}
use Rattle.rep_core.proofs.Vocabulary.{after_down, given, stands_prepared, can_prepare, prepares, recorded, after_record, verdict_of, audit_of, is_answered, after_finish, is_full, served, step, IsConsistent, after_all, finished_by, asks_record, sent}
use Rattle.rep_core.proofs.Vocabulary.{later_on, StaysLater, is_poll, is_taking, served_by, finished}
use Rattle.rep_core.specs.declared.request.Request.TheVariants as request
use Rattle.rep_core.specs.declared.reply.Reply.TheVariants as reply
use Rattle.rep_core.proofs.Members.{Has, contains_from, any_has, has_any, map_has, filter_has, between_has}
use Rattle.rep_core.proofs.Alone.{own_is}
use Rattle.rep_core.proofs.LockLookups.{new_lock}
use Rattle.rep_core.proofs.Ways.{Ways, laid, by_request, room}
use Rattle.rep_core.proofs.Records.{record_stays, decide_ruled, resolve_ruled}
use Rattle.rep_core.proofs.IntentionLookups.{stored, copy_finished}
use Rattle.rep_core.proofs.Consistent.{consistent_step}
use Rattle.rep_core.proofs.Reached.{stands_all}
use Rattle.rep_core.proofs.Again.{none_kept, prepared_now}

-- what is so of a server that is up is so of each
pub stays_later : (st new : State) (asked : Request) → (new.up ≡ true → (after_up new asked ≡ new) × (reply_up new asked ≡ reply_of st asked)) → after_down new asked ≡ new → StaysLater st new asked
stays_later st new asked is down = search arith

-- ---- what holds of locks and a store until a request that passes a test is served

one_of : (test up full : Bool) → (test && up && not full) ≡ false → full ≡ false → up ≡ true → test ≡ false
one_of test up full none room is = grind (arith, nat_tests)

module _ (H : List Lock → Store → Type 0) (test : Request → Bool) where
  kept_down : (st : State) (asked : Request) → H st.locks st.store → H (after_down st asked).locks (after_down st asked).store
  kept_down st asked h2 = search arith

  pub kept_step : (st : State) (asked : Stamped Request) → H st.locks st.store → Ways st (λ asked new. test asked ≡ false → H new.locks new.store) → (test asked.value && st.up && not (is_full st asked)) ≡ false
      → H (step st asked).locks (step st asked).store
  kept_step st asked now ways other = search (by_request, room, one_of, kept_down, arith)

-- ---- a record

pub later_recorded : (st : State) (stamp : ℕ) (asked : Request) (later : List (Stamped Request)) (t : ℕ) (v : Verdict) → asks_record t asked ≡ true
    → reply_of st asked ≡ reply.Verdict v → StaysLater st (later_on st (sent stamp asked) later) asked
later_recorded st stamp (request.Decide u decision) later t v is said =
    let new = later_on st (sent stamp (request.Decide u decision)) later in
    let still : record_of new u ≡ Some v = record_stays later (served st (sent stamp (request.Decide u decision))) u v (decide_ruled st u decision v said) in
    stays_later st new (request.Decide u decision)
    (λ _. (ap (λ old. after_record old u (verdict_of decision) (audit_of u decision) new) still, ap (λ old. reply.Verdict (recorded old (verdict_of decision))) still ∙ sym said))
    refl
later_recorded st stamp (request.Resolve u) later t v is said = search (record_stays later (served st (sent stamp (request.Resolve u))) u v (resolve_ruled st u v said), resolve_ruled st u v said, stays_later, arith)
later_recorded st stamp _ later t v is said = absurd (false≢true is)

-- ---- what was prepared

ready_there : (u t : ℕ) (p : Bool) → u ≡ t → p ≡ true → ((u == t) && p) ≡ true
ready_there u t p same is = grind (arith, nat_tests)

same_as : (u t : ℕ) → (u == t) ≡ true → u ≡ t
same_as u t is = grind (arith, nat_tests)

or_true : (b : Bool) → (b || true) ≡ true
or_true b = search arith

or_false : (b : Bool) → (b || false) ≡ true → b ≡ true
or_false b h1 = search arith

-- it stands prepared once it was told so
told_prepared : (st : State) (t : ℕ) (parts : List Part) → reply_of st (request.Prepare t parts) ≡ reply.Prepared → stands_prepared (after st (request.Prepare t parts)) t parts ≡ true
told_prepared st t parts said = search (laid, and_parts, prepared_now, or_parts, arith)

still_prepared : (later : List (Stamped Request)) (st : State) (t : ℕ) (parts : List Part) → stands_prepared st t parts ≡ true → finished_by t st later ≡ false → stands_prepared (after_all st later) t parts ≡ true
still_prepared later st t parts stands other = search (or_true, any_has, or_false, and_parts, same_as, stands_all, has_any, ready_there, arith)

pub later_prepared : (st : State) (stamp t : ℕ) (parts : List Part) (later : List (Stamped Request)) → reply_of st (request.Prepare t parts) ≡ reply.Prepared → finished_by t (served st (sent stamp (request.Prepare t parts))) later ≡ false
    → StaysLater st (later_on st (sent stamp (request.Prepare t parts)) later) (request.Prepare t parts)
later_prepared st stamp t parts later said other = search (still_prepared, told_prepared, stays_later, laid, arith)

-- ---- what was finished

none_has : {X : Type 0} (p : X → Bool) (xs : List X) (x : X) → list_any p xs ≡ false → Has xs x → p x ≡ false
none_has p [] x none has = absurd has
none_has p (y ∷ xs) x none has = search (or_parts, none_has p xs x, arith)

any_gone : {X : Type 0} (p : X → Bool) (xs : List X) → list_any p (filter (λ x. not (p x)) xs) ≡ false
any_gone p [] = refl
any_gone p (x ∷ xs) = search (any_gone p xs, arith)

all_stay : {X : Type 0} (p : X → Bool) (xs : List X) → list_any p xs ≡ false → filter (λ x. not (p x)) xs ≡ xs
all_stay p [] none = refl
all_stay p (x ∷ xs) none = search (or_parts, all_stay p xs, arith)

none_amid : {X : Type 0} (p q : X → Bool) (xs : List X) (y : X) (ys : List X) → list_any p xs ≡ false → p y ≡ false → list_any p ys ≡ false → list_any p (filter q xs ++ y ∷ ys) ≡ false
none_amid p q [] y ys none misses later = ap (λ b. b || list_any p ys) misses ∙ later
none_amid p q (x ∷ xs) y ys none misses later = search (or_parts, none_amid p q xs y ys, arith)

module _ (t : ℕ) where
  -- a server has no lock of the transaction, and no intention
  record HasNone (ls : List Lock) (pairs : List (ℕ × Intention)) : Type 0 where
    locks : list_any (λ (lock : Lock). lock.t == t) ls ≡ false
    intentions : list_any (λ (pair : ℕ × Intention). pair.1.t == t) pairs ≡ false

  none_mapped : (f : Lock → Lock) → ((l : Lock) → (f l).t ≡ l.t) → (ls : List Lock) → list_any (λ (lock : Lock). lock.t == t) ls ≡ false → list_any (λ (lock : Lock). lock.t == t) (map f ls) ≡ false
  none_mapped f keeps [] none = refl
  none_mapped f keeps (l ∷ ls) none = search (or_parts, none_mapped f keeps ls, arith)

  none_locked : (u s : ℕ) (m : LockMode) (ls : List Lock) → (u == t) ≡ false → list_any (λ (lock : Lock). lock.t == t) ls ≡ false → list_any (λ (lock : Lock). lock.t == t) (locked u s m ls) ≡ false
  none_locked u s m ls other none = search (new_lock, none_mapped, none_amid, none_kept, arith)

  none_inserted : (pairs : List (ℕ × Intention)) (suite : ℕ) (intention : Intention) → (intention.t == t) ≡ false
      → list_any (λ (pair : ℕ × Intention). pair.1.t == t) pairs ≡ false → list_any (λ (pair : ℕ × Intention). pair.1.t == t) (insert nat_cmp pairs suite intention) ≡ false
  none_inserted [] suite intention other none = ap (λ b. b || false) other
  none_inserted (e ∷ es) suite intention other none =
      let parts = or_parts (e.1.t == t) (list_any (λ (pair : ℕ × Intention). pair.1.t == t) es) none in
      elim (nat_cmp suite e.0) as (λ o. list_any (λ (pair : ℕ × Intention). pair.1.t == t) (match_ordering o ((suite, intention) ∷ e ∷ es) ((e.0, intention) ∷ es) (e ∷ insert nat_cmp es suite intention)) ≡ false) [
        | Less ↦ ap (λ b. b || list_any (λ (pair : ℕ × Intention). pair.1.t == t) (e ∷ es)) other ∙ none
        | Equal ↦ ap (λ b. b || list_any (λ (pair : ℕ × Intention). pair.1.t == t) es) other ∙ parts.1
        | Greater ↦ ap (λ b. b || list_any (λ (pair : ℕ × Intention). pair.1.t == t) (insert nat_cmp es suite intention)) parts.0 ∙ none_inserted es suite intention other parts.1
      ]

  none_intended : (u : ℕ) (parts : List Part) (intentions : List (ℕ × Intention)) → (u == t) ≡ false → list_any (λ (pair : ℕ × Intention). pair.1.t == t) intentions ≡ false
      → list_any (λ (pair : ℕ × Intention). pair.1.t == t) (with_intentions u parts intentions) ≡ false
  none_intended u [] intentions other none = none
  none_intended u (part ∷ parts) intentions other none = search (none_inserted, none_intended u parts, arith)

  -- who has a lock is another
  other_has : (u s : ℕ) (ls : List Lock) → has_lock u s ls ≡ true → list_any (λ (lock : Lock). lock.t == t) ls ≡ false → (u == t) ≡ false
  other_has u s ls has none = search (any_has, own_is, none_has, arith)

  other_prepares : (st : State) (u : ℕ) (parts : List Part) → prepares st u parts ≡ true → list_any (λ (lock : Lock). lock.t == t) st.locks ≡ false → (u == t) ≡ false
  other_prepares st u parts does none =
      let is = and_parts (not (stands_prepared st u parts)) (can_prepare st u parts) does in
      let stands : stands_prepared st u parts ≡ false = not_so (stands_prepared st u parts) is.0 in
      let can = and_parts (list_all (has_lock_for u st.locks) parts && not (lists_twice parts)) (list_all (is_sound_part st.store) parts) is.1 in
      by parts (or_parts (has_prepared u st.locks) (length parts == 0) stands).1 (and_parts (list_all (has_lock_for u st.locks) parts) (not (lists_twice parts)) can.0).0
    where
      not_so : (b : Bool) → not b ≡ true → b ≡ false
      not_so b h1 = search (false≢true, arith)

      by : (parts : List Part) → (length parts == 0) ≡ false → list_all (has_lock_for u st.locks) parts ≡ true → (u == t) ≡ false
      by [] some all = absurd (false≢true (sym some))
      by (part ∷ parts) some all =
          let found = any_has (λ (lock : Lock). is_own u part.suite lock && serves lock.mode part.mode) st.locks (and_parts (has_lock_for u st.locks part) (list_all (has_lock_for u st.locks) parts) all).0 in
          let own = own_is u part.suite found.0 (and_parts (is_own u part.suite found.0) (serves found.0.mode part.mode) found.2).0 in
          ap (λ u. u == t) (sym own.0) ∙ none_has (λ (lock : Lock). lock.t == t) st.locks found.0 none found.1

  none_ways : (st : State) → HasNone st.locks st.store.intentions → Ways st (λ asked new. is_poll t asked ≡ false → HasNone new.locks new.store.intentions)
  none_ways st none = search (none_locked, other_has, none_mapped, none_intended, other_prepares, none_kept, arith)

  still_none : (later : List (Stamped Request)) (st : State) → HasNone st.locks st.store.intentions → served_by (is_poll t) st later ≡ false → HasNone (after_all st later).locks (after_all st later).store.intentions
  still_none [] st none other = none
  still_none (first ∷ later) st none other =
      let parts = or_parts (is_poll t first.value && st.up && not (is_full st first)) (served_by (is_poll t) (step st first) later) other in
      still_none later (step st first) (kept_step (λ locks store. HasNone locks store.intentions) (is_poll t) st first none (none_ways st none) parts.0) parts.1

  copies_same : (c0 : Configuration) (intentions : List (ℕ × Intention)) (copies : List (ℕ × Replica)) → list_any (λ (pair : ℕ × Intention). pair.1.t == t) intentions ≡ false → with_copies c0 t intentions copies ≡ copies
  copies_same c0 [] copies none = refl
  copies_same c0 (pair ∷ intentions) copies none = search (or_parts, copies_same c0 intentions copies, arith)

  forms_same : (intentions : List (ℕ × Intention)) (forms : List (ℕ × Form)) → list_any (λ (pair : ℕ × Intention). pair.1.t == t) intentions ≡ false → with_forms t intentions forms ≡ forms
  forms_same [] forms none = refl
  forms_same (pair ∷ intentions) forms none = search (or_parts, forms_same intentions forms, arith)

  finished_same : (answered : Bool) (store : Store) → list_any (λ (pair : ℕ × Intention). pair.1.t == t) store.intentions ≡ false → finished t answered store ≡ store
  finished_same true store none = λ i. record store {
    copies = copies_same store.c0 store.intentions store.copies none i;
    forms = forms_same store.intentions store.forms none i;
    intentions = all_stay (λ (pair : ℕ × Intention). pair.1.t == t) store.intentions none i;
  }
  finished_same false store none = ap (λ intentions. record store { intentions = intentions }) (all_stay (λ (pair : ℕ × Intention). pair.1.t == t) store.intentions none)

  told_done : (st : State) (v : Verdict) → reply_of st (request.Finish t v) ≡ reply.Done → HasNone (after st (request.Finish t v)).locks (after st (request.Finish t v)).store.intentions
  told_done st v said =
      elim (st.up) as (λ b. cond b reply.Done reply.Down ≡ reply.Done → HasNone (cond b (after_finish st t v) st).locks (cond b (after_finish st t v) st).store.intentions) [
        | true ↦ λ _. record { locks = any_gone (λ (lock : Lock). lock.t == t) st.locks; intentions = any_gone (λ (pair : ℕ × Intention). pair.1.t == t) st.store.intentions }
        | false ↦ λ said. absurd cc
      ] said

  pub later_finished : (st : State) (stamp : ℕ) (v : Verdict) (later : List (Stamped Request)) → reply_of st (request.Finish t v) ≡ reply.Done → served_by (is_poll t) (served st (sent stamp (request.Finish t v))) later ≡ false
      → StaysLater st (later_on st (sent stamp (request.Finish t v)) later) (request.Finish t v)
  later_finished st stamp v later said other =
      let new = later_on st (sent stamp (request.Finish t v)) later in
      let none = still_none later (served st (sent stamp (request.Finish t v))) (told_done st v said) other in
      stays_later st new (request.Finish t v)
      (λ _. ((λ i. record new { store = finished_same (is_answered v) new.store none.intentions i; locks = all_stay (λ (lock : Lock). lock.t == t) new.locks none.locks i }), sym said))
      refl

-- ---- what was fetched

pub record HasCopy (t suite : ℕ) (copy : Replica) (locks : List Lock) (store : Store) : Type 0 where
  pub has : has_lock t suite locks ≡ true
  pub same : copy_of store suite ≡ copy

module _ (t suite : ℕ) (copy : Replica) where
  still_has : (ls : List Lock) (f : Lock → Lock) → ((l : Lock) → is_own t suite (f l) ≡ is_own t suite l) → has_lock t suite ls ≡ true → has_lock t suite (map f ls) ≡ true
  still_has ls f keeps has =
      let found = any_has (is_own t suite) ls has in
      has_any (is_own t suite) (map f ls) (f found.0) (map_has f ls found.0 found.1) (keeps found.0 ∙ found.2)

  has_passed : (ls : List Lock) (p : Lock → Bool) → ((l : Lock) → is_own t suite l ≡ true → p l ≡ true) → has_lock t suite ls ≡ true → has_lock t suite (filter p ls) ≡ true
  has_passed ls p passes has =
      let found = any_has (is_own t suite) ls has in
      has_any (is_own t suite) (filter p ls) found.0 (filter_has p ls found.0 found.1 (passes found.0 found.2)) found.2

  has_locked_too : (u s : ℕ) (m : LockMode) (ls : List Lock) → has_lock t suite ls ≡ true → has_lock t suite (locked u s m ls) ≡ true
  has_locked_too u s m ls has =
      let found = any_has (is_own t suite) ls has in
      let first : Lock → Bool = λ other. before other (new_lock u s m) in
      elim (has_lock u s ls) as (λ b. has_lock t suite (cond b (raised u s m ls) (with_lock (new_lock u s m) ls)) ≡ true) [
        | true ↦ still_has ls (raised_lock u s m) (λ l. refl) has
        | false ↦ has_any (is_own t suite) (with_lock (new_lock u s m) ls) found.0 (between_has first ls (new_lock u s m) found.0 found.1) found.2
      ]

  pub spared : (u : ℕ) (l : Lock) → (u == t) ≡ false → is_own t suite l ≡ true → not (l.t == u) ≡ true
  spared u l other own = grind (arith, nat_tests)

  pub spared_break : (u s : ℕ) (l : Lock) → (u == t) ≡ false → is_own t suite l ≡ true → not (is_own u s l && not l.prepared) ≡ true
  spared_break u s l other own = grind (arith, nat_tests)

  -- an intention on what the transaction has locked is its own
  own_intention : (st : State) → IsConsistent st → has_lock t suite st.locks ≡ true → (intention : Intention) → get nat_cmp st.store.intentions suite ≡ Some intention → intention.t ≡ t
  own_intention st is has intention there =
      let found = any_has (is_own t suite) st.locks has in
      let own = own_is t suite found.0 found.2 in
      let lock = is.locked suite intention there in
      sym lock.of_it ∙ is.alone lock.lock found.0 lock.there (contains_from st.locks found.0 found.1) (lock.on_it ∙ sym own.1) lock.exclusive ∙ own.0

  other_stored : (st : State) (u : ℕ) (answered : Bool) → IsConsistent st → has_lock t suite st.locks ≡ true → (u == t) ≡ false → (o : Option Intention)
      → get nat_cmp st.store.intentions suite ≡ o → stored answered u o (copy_of st.store suite) ≡ copy_of st.store suite
  other_stored st u false is has other o there = refl
  other_stored st u true is has other None there = refl
  other_stored st u true is has other (Some intention) there = search (own_intention st is has intention there, nat_tests, arith)

  copy_ways : (st : State) → IsConsistent st → HasCopy t suite copy st.locks st.store → Ways st (λ asked new. is_taking t asked ≡ false → HasCopy t suite copy new.locks new.store)
  copy_ways st is now = search (has_locked_too, still_has, has_passed, spared, copy_finished, other_stored, spared_break, false≢true, arith)

  pub still_copy : (later : List (Stamped Request)) (st : State) → IsConsistent st → HasCopy t suite copy st.locks st.store → served_by (is_taking t) st later ≡ false
      → HasCopy t suite copy (after_all st later).locks (after_all st later).store
  still_copy [] st is now other = now
  still_copy (first ∷ later) st is now other =
      let parts = or_parts (is_taking t first.value && st.up && not (is_full st first)) (served_by (is_taking t) (step st first) later) other in
      still_copy later (step st first) (consistent_step st first is)
      (kept_step (HasCopy t suite copy) (is_taking t) st first now (copy_ways st is now) parts.0) parts.1

told_given : (st : State) (t suite dver : ℕ) (content : Content) → reply_of st (request.Fetch t suite) ≡ reply.Given dver content → (has_lock t suite st.locks ≡ true) × (reply_of st (request.Fetch t suite) ≡ given (copy_of st.store suite))
told_given st t suite dver content said = search arith

stamped : (st : State) (stamp : ℕ) → IsConsistent st → IsConsistent (record st { stamp = stamp })
stamped st stamp is = record { rising = is.rising; copies_rise = is.copies_rise; alone = is.alone; locked = is.locked; sound = is.sound; few = is.few }

-- a Fetch changes nothing
fetches_same : (st : State) (t suite : ℕ) → after st (request.Fetch t suite) ≡ st
fetches_same st t suite = elim (st.up) as (λ b. cond b st st ≡ st) [ true ↦ refl | false ↦ refl ]

pub later_fetched : (st : State) (stamp t suite dver : ℕ) (content : Content) (later : List (Stamped Request)) → IsConsistent st
    → reply_of st (request.Fetch t suite) ≡ reply.Given dver content → served_by (is_taking t) (served st (sent stamp (request.Fetch t suite))) later ≡ false
    → StaysLater st (later_on st (sent stamp (request.Fetch t suite)) later) (request.Fetch t suite)
later_fetched st stamp t suite dver content later is said other =
    let new = later_on st (sent stamp (request.Fetch t suite)) later in
    let told = told_given st t suite dver content said in
    let copy = copy_of st.store suite in
    let start = served st (sent stamp (request.Fetch t suite)) in
    let stamp' = start.stamp in
    let same : start ≡ record st { stamp = stamp' } = ap (λ (st : State). record st { stamp = stamp' }) (fetches_same st t suite) in
    let first : HasCopy t suite copy start.locks start.store = subst (λ (st : State). HasCopy t suite copy st.locks st.store) (sym same) (record { has = told.0; same = refl }) in
    let now = still_copy t suite copy later start (subst IsConsistent (sym same) (stamped st stamp' is)) first other in
    stays_later st new (request.Fetch t suite)
    (λ _. (refl, ap (λ b. cond b (given (copy_of new.store suite)) reply.Lost) now.has ∙ ap given now.same ∙ sym told.1))
    refl
