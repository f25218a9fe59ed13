-- A request that is served again at once changes nothing more, and is answered the same.
use Rattle.rep_core.proofs.Vocabulary.{◌≡◌, ℕ, Bool, true, false, cond, List, [], ◌∷◌, ◌++◌, Option, Some, None, refl, sym, ap, ◌∙◌, arith, ◌==◌, ◌&&◌, ◌||◌, length, filter, find, list_any, list_all, and_parts, or_parts, false≢true, nat_tests}
use Rattle.rep_core.proofs.Vocabulary.{Configuration, Replica, Form, LockMode, Exclusive, serves, stronger, AuditItem, Intention, Lock, Part, Request, Verdict, is_own, conflicts, in_the_way, has_lock, has_prepared, has_lock_for, raised_lock, raised}
use Rattle.rep_core.proofs.Vocabulary.{with_lock, locked, prepared_lock, with_prepared, Store, with_copies, with_forms, without_intentions, State, record_of, reply_up, after_up, after_down, after_locking, after_poll, recorded, after_record}
use Rattle.rep_core.proofs.Vocabulary.{verdict_of, audit_of, StaysSo, AgainAtOnce, finished}
use Rattle.rep_core.specs.declared.request.Request.TheVariants as request
use Rattle.rep_core.specs.declared.reply.Verdict.TheVariants as verdict
use Rattle.rep_core.specs.declared.reply.Reply.TheVariants as reply
use Rattle.rep_core.proofs.Members.{any_has, has_any, map_has}
use Rattle.rep_core.proofs.Finding.{find_map, none_filtered}
use Rattle.rep_core.proofs.Alone.{own_is}
use Rattle.rep_core.proofs.LockLookups.{new_lock}
use Rattle.rep_core.proofs.Ways.{with_locked, laid, recording}
use Rattle.rep_core.proofs.Records.{record_here}

-- ---- lists

pub filter_again : {X : Type 0} (p : X → Bool) (xs : List X) → filter p (filter p xs) ≡ filter p xs
filter_again p [] = refl
filter_again p (x ∷ xs) = search (filter_again p xs, arith)

pub any_amid : {X : Type 0} (p : X → Bool) (xs : List X) (y : X) (ys : List X) → p y ≡ true → list_any p (xs ++ y ∷ ys) ≡ true
any_amid p [] y ys is = ap (λ b. b || list_any p ys) is
any_amid p (x ∷ xs) y ys is = elim (p x) as (λ b. (b || list_any p (xs ++ y ∷ ys)) ≡ true) [ true ↦ refl | false ↦ any_amid p xs y ys is ]

find_amid : {X : Type 0} (p : X → Bool) (xs : List X) (y : X) (ys : List X) → find p xs ≡ None → p y ≡ false → find p ys ≡ None → find p (xs ++ y ∷ ys) ≡ None
find_amid p [] y ys none misses later = ap (λ b. cond b (Some y) (find p ys)) misses ∙ later
find_amid p (x ∷ xs) y ys none misses later =
    elim (p x) as (λ b. cond b (Some x) (find p xs) ≡ None → cond b (Some x) (find p (xs ++ y ∷ ys)) ≡ None) [
      | true ↦ λ some. some
      | false ↦ λ none. find_amid p xs y ys none misses later
    ] none

pub none_kept : {X : Type 0} (p q : X → Bool) (xs : List X) → list_any p xs ≡ false → list_any p (filter q xs) ≡ false
none_kept p q [] none = refl
none_kept p q (x ∷ xs) none = search (or_parts, none_kept p q xs, arith)

-- ---- a lock that is taken again

stronger_same : (m : LockMode) → stronger m m ≡ m
stronger_same m = search arith

module _ (t s : ℕ) (m : LockMode) where
  raise_again : (l : Lock) → raised_lock t s m (raised_lock t s m l) ≡ raised_lock t s m l
  raise_again l = search arith

  raised_again : (ls : List Lock) → raised t s m (raised t s m ls) ≡ raised t s m ls
  raised_again [] = refl
  raised_again (l ∷ ls) = λ i. raise_again l i ∷ raised_again ls i

  raised_none : (ls : List Lock) → list_any (is_own t s) ls ≡ false → raised t s m ls ≡ ls
  raised_none [] none = refl
  raised_none (l ∷ ls) none = search (or_parts, raised_none ls, arith)

  raised_amid : (xs ys : List Lock) (l : Lock) → raised t s m (xs ++ l ∷ ys) ≡ raised t s m xs ++ raised_lock t s m l ∷ raised t s m ys
  raised_amid [] ys l = refl
  raised_amid (x ∷ xs) ys l = ap (λ ls. raised_lock t s m x ∷ ls) (raised_amid xs ys l)

  own_new : is_own t s (new_lock t s m) ≡ true
  own_new = grind (arith, nat_tests)

  raise_new : raised_lock t s m (new_lock t s m) ≡ new_lock t s m
  raise_new = ap (λ b. record (new_lock t s m) { mode = cond b (stronger m m) m }) own_new ∙ ap (λ mode. new_lock t s mode) (stronger_same m)

  has_raised : (ls : List Lock) → has_lock t s (raised t s m ls) ≡ has_lock t s ls
  has_raised [] = refl
  has_raised (l ∷ ls) = ap (λ b. is_own t s l || b) (has_raised ls)

  pub has_locked : (ls : List Lock) → has_lock t s (locked t s m ls) ≡ true
  has_locked ls = search (new_lock, has_raised, any_amid, own_new, arith)

  raised_locked : (ls : List Lock) → raised t s m (locked t s m ls) ≡ locked t s m ls
  raised_locked ls = search (new_lock, raised_again, raised_amid, raised_none, none_kept, raise_new, arith)

  locked_again : (ls : List Lock) → locked t s m (locked t s m ls) ≡ locked t s m ls
  locked_again ls = ap (λ b. cond b (raised t s m (locked t s m ls)) (with_lock (new_lock t s m) (locked t s m ls))) (has_locked ls) ∙ raised_locked ls

  -- nothing is in the way of its own lock then
  conflicts_raised : (l : Lock) → conflicts t s m (raised_lock t s m l) ≡ conflicts t s m l
  conflicts_raised l = search arith

  conflicts_new : conflicts t s m (new_lock t s m) ≡ false
  conflicts_new = grind (arith, nat_tests)

  way_locked : (ls : List Lock) → in_the_way t s m ls ≡ None → in_the_way t s m (locked t s m ls) ≡ None
  way_locked ls none = search (new_lock, find_map, conflicts_raised, find_amid, none_filtered, conflicts_new, arith)

-- ---- what was prepared, and what was ended

pub prepared_now : (t : ℕ) (parts : List Part) (ls : List Lock) → (length parts == 0) ≡ false → list_all (has_lock_for t ls) parts ≡ true → has_prepared t (with_prepared t parts ls) ≡ true
prepared_now t [] ls some all = absurd (false≢true (sym some))
prepared_now t (part ∷ parts) ls some all =
    let has = any_has (λ (lock : Lock). is_own t part.suite lock && serves lock.mode part.mode) ls (and_parts (has_lock_for t ls part) (list_all (has_lock_for t ls) parts) all).0 in
    let own = own_is t part.suite has.0 (and_parts (is_own t part.suite has.0) (serves has.0.mode part.mode) has.2).0 in
    has_any (λ (lock : Lock). (lock.t == t) && lock.prepared) (with_prepared t (part ∷ parts) ls) (prepared_lock t (part ∷ parts) has.0) (map_has (prepared_lock t (part ∷ parts)) ls has.0 has.1)
    (is_ready has.0.t has.0.suite part.suite has.0.prepared (list_any (λ part. part.suite == has.0.suite) parts) own.0 own.1)
  where
    is_ready : (u z s : ℕ) (old more : Bool) → u ≡ t → z ≡ s → ((u == t) && (old || ((u == t) && ((s == z) || more)))) ≡ true
    is_ready u z s old more same there = grind (arith, nat_tests)

no_copies : (c0 : Configuration) (t : ℕ) (intentions : List (ℕ × Intention)) (copies : List (ℕ × Replica)) → with_copies c0 t (without_intentions t intentions) copies ≡ copies
no_copies c0 t [] copies = refl
no_copies c0 t (pair ∷ intentions) copies = search (no_copies c0 t intentions copies, arith)

no_forms : (t : ℕ) (intentions : List (ℕ × Intention)) (forms : List (ℕ × Form)) → with_forms t (without_intentions t intentions) forms ≡ forms
no_forms t [] forms = refl
no_forms t (pair ∷ intentions) forms = search (no_forms t intentions forms, arith)

finished_again : (t : ℕ) (answered : Bool) (store : Store) → finished t answered (finished t answered store) ≡ finished t answered store
finished_again t answered store = search (no_copies, no_forms, filter_again, arith)

-- ---- each request of a server that is up

-- it changed nothing
same_up : (st : State) (asked : Request) → st.up ≡ true → after_up st asked ≡ st → StaysSo st st asked
same_up st asked is same = search arith

-- it is up after it
new_up : (st new : State) (asked : Request) → st.up ≡ true → new.up ≡ true → after_up new asked ≡ new → reply_up new asked ≡ reply_up st asked → StaysSo st new asked
new_up st new asked is up same said = search arith

poll_again : (st : State) (t s : ℕ) (m : LockMode) → st.up ≡ true → (way : Option Lock) → in_the_way t s m st.locks ≡ way → StaysSo st (after_locking way t s m st) (request.Poll t s m)
poll_again st t s m h4 way h6 = search (same_up, with_locked, way_locked, new_up, locked_again, arith)

raise_poll_again : (st : State) (t s : ℕ) → st.up ≡ true → has_lock t s st.locks ≡ true → (way : Option Lock) → in_the_way t s Exclusive st.locks ≡ way → StaysSo st (after_locking way t s Exclusive st) (request.Upgrade t s)
raise_poll_again st t s h3 h4 way h6 = search (same_up, with_locked, way_locked, has_locked, new_up, locked_again, arith)

upgrade_again : (st : State) (t s : ℕ) → st.up ≡ true → StaysSo st (after_up st (request.Upgrade t s)) (request.Upgrade t s)
upgrade_again st t s is =
    elim (has_lock t s st.locks) as (λ b. has_lock t s st.locks ≡ b → StaysSo st (cond b (after_poll st t s Exclusive) st) (request.Upgrade t s)) [
      | true ↦ λ has. raise_poll_again st t s is has (in_the_way t s Exclusive st.locks) refl
      | false ↦ λ none. same_up st (request.Upgrade t s) is (ap (λ b. cond b (after_poll st t s Exclusive) st) none)
    ] refl

prepare_again : (st : State) (t : ℕ) (parts : List Part) → st.up ≡ true → StaysSo st (after_up st (request.Prepare t parts)) (request.Prepare t parts)
prepare_again st t parts is = search (laid, same_up, and_parts, prepared_now, or_parts, new_up, arith)

-- a request that asks for a record
record_again : (st : State) (asked : Request) (t : ℕ) (new : Verdict) (item : Option AuditItem) → st.up ≡ true
    → ((st : State) → after_up st asked ≡ after_record (record_of st t) t new item st) → ((st : State) → reply_up st asked ≡ reply.Verdict (recorded (record_of st t) new))
    → (old : Option Verdict) → record_of st t ≡ old → StaysSo st (after_record old t new item st) asked
record_again st asked t new item is makes says (Some old) found = same_up st asked is (makes st ∙ ap (λ old. after_record old t new item st) found)
record_again st asked t new item is makes says None none = search (recording t new item st, record_here st t new item, new_up, arith)

up_again : (st : State) (asked : Request) → st.up ≡ true → StaysSo st (after_up st asked) asked
up_again st (request.Poll t s m) is = poll_again st t s m is (in_the_way t s m st.locks) refl
up_again st (request.Upgrade t s) is = upgrade_again st t s is
up_again st (request.Fetch t s) is = same_up st (request.Fetch t s) is refl
up_again st (request.Prepare t parts) is = prepare_again st t parts is
up_again st (request.Decide t decision) is = record_again st (request.Decide t decision) t (verdict_of decision) (audit_of t decision) is (λ _. refl) (λ _. refl) (record_of st t) refl
up_again st (request.Resolve t) is = record_again st (request.Resolve t) t verdict.Aborted None is (λ _. refl) (λ _. refl) (record_of st t) refl
up_again st (request.Finish t v) is = search (new_up, finished_again, filter_again, arith)
up_again st (request.Break t s) is = search (new_up, filter_again, arith)
up_again st request.Locks is = same_up st request.Locks is refl
up_again st request.Crash is = record { changes_nothing = refl; answered = λ other. absurd (other refl) }
up_again st request.Return is = same_up st request.Return is refl

-- ---- each request of one that is down

down_again : (st : State) (asked : Request) → st.up ≡ false → StaysSo st (after_down st asked) asked
down_again st asked h2 = search arith

pub again_at_once : AgainAtOnce
again_at_once st asked = search (up_again st asked, down_again st asked, arith)
