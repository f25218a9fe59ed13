-- Outcomes that were put, and what is told of them.
use Rattle.agent_pool.proofs.Vocabulary.{◌≡◌, ◌≢◌, ◌⊎◌, ⊎_elim, inl, inr, ℕ, zero, suc, ◌+◌, ◌<◌, ◌≤◌, Bool, false, List, [], ◌∷◌, ◌++◌, length, map}
use Rattle.agent_pool.proofs.Vocabulary.{slice_set, subst, refl, ap, ◌∙◌, sym, append_assoc, arith, Contains, IfErr, IsErrAnd, get_or, slice_get}
use Rattle.agent_pool.proofs.Vocabulary.{slice_index_or, Option, Some, None, Result, Ok, Err, AllZip, same_Some, slice_get_within, All-cons, All-nil}
use Rattle.agent_pool.proofs.Vocabulary.{Contains-append_cases, Contains-append_left, Contains-append_right, Held, PoolFault, Double, Memory, Missing}
use Rattle.agent_pool.proofs.Vocabulary.{JobOutcome, Pool, JobDone, Halt, Strange, Stuck, SeatedAgent, Worked, NamedJob, Gathers, HaveOne, IsDouble, IsMissing}
use Rattle.agent_pool.proofs.Vocabulary.{NoneFailed, TellsOf, first_strange, first_stuck, lacked_or, lacks_memory, places, places_by, strange_or, stuck_or}
use Rattle.agent_pool.proofs.Vocabulary.{AreDistinct, passes_for, IsHandedBack, Played, number_of, AreNone, IsPut, AllRan, AreSeen, AreWithin, IsEmpty}
use Rattle.agent_pool.proofs.Vocabulary.{IsTaken, IsWithin, IsSeated, IsWorkOf, AllDone, IsHalted, IsWorked}
use Rattle.std.proofs.Common.{take, append-nil}
use Rattle.agent_pool.specs.declared.work.Halt.TheVariants.{Lacked}
use Rattle.agent_pool.proofs.Apart.{none_at, put_cases, same_or, set_apart, set_here}
use Rattle.agent_pool.proofs.Zips.{zip_then}

-- ---- lists of places

at_end : (xs : List ℕ) (p i n : ℕ) → slice_get (xs ++ p ∷ []) i ≡ Some n → (slice_get xs i ≡ Some n) ⊎ ((i ≡ length xs) × (n ≡ p))
at_end [] p zero n at = inr (refl, sym (same_Some p n at))
at_end [] p (suc i) n at = cc
at_end (x ∷ xs) p zero n at = inl at
at_end (x ∷ xs) p (suc i) n at = ⊎_elim (λ a. inl a) (λ (b : (i ≡ length xs) × (n ≡ p)). inr (ap suc b.0, b.1)) (at_end xs p i n at)

contains_at : (xs : List ℕ) (i n : ℕ) → slice_get xs i ≡ Some n → Contains xs n
contains_at [] i n at = cc
contains_at (x ∷ xs) zero n at = (0, omega arith, same_Some x n at)
contains_at (x ∷ xs) (suc i) n at = let more = contains_at xs i n at in (suc more.0, (let low = more.1 in omega arith), more.2)

one_at : (x y i : ℕ) → i < 1 → get_or (x ∷ []) i y ≡ y → x ≡ y
one_at x y zero low is = is
one_at x y (suc i) low is = absurd (omega arith)

distinct_push : (xs : List ℕ) (p : ℕ) → AreDistinct xs → ¬ (Contains xs p) → AreDistinct (xs ++ p ∷ [])
distinct_push xs p once fresh i j n ati atj =
    ⊎_elim
    (λ (a : slice_get xs i ≡ Some n). ⊎_elim (λ (b : slice_get xs j ≡ Some n). once i j n a b)
    (λ (b : (j ≡ length xs) × (n ≡ p)). absurd (fresh (contains_at xs i p (a ∙ ap (λ m. Some m) b.1)))) (at_end xs p j n atj))
    (λ (a : (i ≡ length xs) × (n ≡ p)). ⊎_elim (λ (b : slice_get xs j ≡ Some n). absurd (fresh (contains_at xs j p (b ∙ ap (λ m. Some m) a.1))))
    (λ (b : (j ≡ length xs) × (n ≡ p)). a.0 ∙ sym b.0) (at_end xs p j n atj))
    (at_end xs p i n ati)

places_suc : (ds : List JobDone) (i : ℕ) (d : JobDone) → i < length ds → slice_index_or ds i d ≡ d → places_by (take (suc i) ds) ≡ places_by (take i ds) ++ d.place ∷ []
places_suc [] i d low is = absurd (omega arith)
places_suc (x ∷ ds) zero d low is = ap (λ (y : JobDone). y.place ∷ []) is
places_suc (x ∷ ds) (suc i) d low is = ap (λ ps. x.place ∷ ps) (places_suc ds i d (omega arith) is)

pub places_next : (ds : List JobDone) (i : ℕ) (d : JobDone) → i < length ds → slice_index_or ds i d ≡ d → places_by (take (i + 1) ds) ≡ places_by (take i ds) ++ d.place ∷ []
places_next ds i d low is = let e : i + 1 ≡ suc i = omega arith in ap (λ n. places_by (take n ds)) e ∙ places_suc ds i d low is

pub places_split : (ds : List JobDone) (i : ℕ) (d : JobDone) → i < length ds → slice_index_or ds i d ≡ d → (rest : List ℕ) × (places_by ds ≡ places_by (take i ds) ++ d.place ∷ rest)
places_split [] i d low is = absurd (omega arith)
places_split (x ∷ ds) zero d low is = (places_by ds, ap (λ (y : JobDone). y.place ∷ places_by ds) is)
places_split (x ∷ ds) (suc i) d low is = let more = places_split ds i d (omega arith) is in (more.0, ap (λ ps. x.place ∷ ps) more.1)

worked_suc : (worked : List Worked) (i : ℕ) (w : Worked) → i < length worked → slice_index_or worked i w ≡ w → places (take (suc i) worked) ≡ places (take i worked) ++ places_by w.done.items
worked_suc [] i w low is = absurd (omega arith)
worked_suc (x ∷ worked) zero w low is = append-nil (places_by x.done.items) ∙ ap (λ (y : Worked). places_by y.done.items) is
worked_suc (x ∷ worked) (suc i) w low is =
    ap (λ ps. places_by x.done.items ++ ps) (worked_suc worked i w (omega arith) is) ∙ sym (append_assoc (places_by x.done.items) (places (take i worked)) (places_by w.done.items))

pub worked_next : (worked : List Worked) (i : ℕ) (w : Worked) → i < length worked → slice_index_or worked i w ≡ w → places (take (i + 1) worked) ≡ places (take i worked) ++ places_by w.done.items
worked_next worked i w low is = let e : i + 1 ≡ suc i = omega arith in ap (λ n. places (take n worked)) e ∙ worked_suc worked i w low is

pub worked_split : (worked : List Worked) (i : ℕ) (w : Worked) → i < length worked → slice_index_or worked i w ≡ w → (rest : List ℕ) × (places worked ≡ (places (take i worked) ++ places_by w.done.items) ++ rest)
worked_split [] i w low is = absurd (omega arith)
worked_split (x ∷ worked) zero w low is = (places worked, ap (λ (y : Worked). places_by y.done.items ++ places worked) is)
worked_split (x ∷ worked) (suc i) w low is =
    let more = worked_split worked i w (omega arith) is in
    let own = places_by x.done.items in
    let before = places (take i worked) in
    let these = places_by w.done.items in
    (more.0, ap (λ ps. own ++ ps) more.1 ∙ sym (append_assoc own (before ++ these) more.0) ∙ ap (λ ps. ps ++ more.0) (sym (append_assoc own before these)))

-- ---- outcomes at these places

pub seen_none : (slots : List (Option JobOutcome)) → AreNone slots → AreSeen [] slots
seen_none slots none = record {
  filled = λ p o at. absurd (none_at slots none p o at);
  empty = λ p at has. (let low = has.1 in omega arith);
  once = λ i j n ati atj. cc;
}

pub put_seen : (seen : List ℕ) (old new : List (Option JobOutcome)) (place : ℕ) (outcome : JobOutcome) → AreSeen seen old → IsPut old place outcome new → AreSeen (seen ++ place ∷ []) new
put_seen seen old new place outcome was put = record {
  filled = λ p o at.
      ⊎_elim (λ (a : (p ≡ place) × (o ≡ outcome)). Contains-append_right seen (place ∷ []) p (0, omega arith, sym a.0))
      (λ (a : (p ≢ place) × (slice_get old p ≡ Some (Some o))). Contains-append_left seen (place ∷ []) p (was.filled p o a.1))
      (put_cases old new place outcome put p o at);
  empty = λ p at has.
      let there : slice_get (slice_set old place (Some outcome)) p ≡ Some None = subst (λ xs. slice_get xs p ≡ Some None) put.is at in
      ⊎_elim (λ (e : p ≡ place).
      let bad : None ≡ Some outcome = set_here old place None (Some outcome) None put.was (subst (λ k. slice_get (slice_set old place (Some outcome)) k ≡ Some None) e there) in
      cc)
      (λ (n : p ≢ place).
      ⊎_elim (λ (h : Contains seen p). was.empty p (sym (set_apart old place p (Some outcome) n) ∙ there) h)
      (λ (h : Contains (place ∷ []) p). n (sym (one_at place p h.0 h.1 h.2)))
      (Contains-append_cases seen (place ∷ []) p has))
      (same_or p place);
  once = distinct_push seen place was.once (was.empty place put.was);
}

-- one more of what an agent did
pub seen_next : (seen : List ℕ) (ds : List JobDone) (i : ℕ) (d : JobDone) (old new : List (Option JobOutcome)) (job agent : ℕ) → i < length ds → slice_index_or ds i d ≡ d → AreSeen (seen ++ places_by (take i ds)) old
    → IsPut old d.place (record { job = job; agent = agent; count = d.ran.count; at = d.ran.at }) new → AreSeen (seen ++ places_by (take (i + 1) ds)) new
seen_next seen ds i d old new job agent low is was put =
    let before = places_by (take i ds) in
    subst (λ (ps : List ℕ). AreSeen ps new) (append_assoc seen before (d.place ∷ []) ∙ ap (λ ps. seen ++ ps) (sym (places_next ds i d low is)))
    (put_seen (seen ++ before) old new d.place (record { job = job; agent = agent; count = d.ran.count; at = d.ran.at }) was put)

pub double_here : (jobs : List NamedJob) (slots : List (Option JobOutcome)) (seen rest : List ℕ) (d : JobDone) (job : ℕ) → AreSeen seen slots → IsTaken jobs slots d job → IsDouble jobs (seen ++ d.place ∷ rest) job
double_here jobs slots seen rest d job was is = record {
  place = d.place;
  named = is.named;
  there = is.there;
  of = is.of;
  twice = record { before = seen; after = rest; split = refl; once = was.once; again = was.filled d.place is.outcome is.taken };
}

-- a second outcome of what an agent did
pub double_next : (jobs : List NamedJob) (slots : List (Option JobOutcome)) (seen : List ℕ) (ds : List JobDone) (i : ℕ) (d : JobDone) (job : ℕ) → i < length ds → slice_index_or ds i d ≡ d → AreSeen (seen ++ places_by (take i ds)) slots
    → IsTaken jobs slots d job → IsDouble jobs (seen ++ places_by ds) job
double_next jobs slots seen ds i d job low is was taken =
    let before = places_by (take i ds) in
    let more = places_split ds i d low is in
    subst (λ (ps : List ℕ). IsDouble jobs ps job) (append_assoc seen before (d.place ∷ more.0) ∙ ap (λ ps. seen ++ ps) (sym more.1)) (double_here jobs slots (seen ++ before) more.0 d job was taken)

pub double_further : (jobs : List NamedJob) (xs ys : List ℕ) (job : ℕ) → IsDouble jobs xs job → IsDouble jobs (xs ++ ys) job
double_further jobs xs ys job is = record {
  place = is.place;
  named = is.named;
  there = is.there;
  of = is.of;
  twice = record {
    before = is.twice.before;
    after = is.twice.after ++ ys;
    split = ap (λ zs. zs ++ ys) is.twice.split ∙ append_assoc is.twice.before (is.place ∷ is.twice.after) ys;
    once = is.twice.once;
    again = is.twice.again;
  };
}

filled_at : (slots : List (Option JobOutcome)) (k : ℕ) → k < length slots → slice_get slots k ≢ Some None → (o : JobOutcome) × (slice_get slots k ≡ Some (Some o))
filled_at [] k low some = absurd (omega arith)
filled_at (None ∷ slots) zero low some = absurd (some refl)
filled_at (Some o ∷ slots) zero low some = (o, refl)
filled_at (x ∷ slots) (suc k) low some = filled_at slots k (omega arith) some

pub missing_is : (jobs : List NamedJob) (slots : List (Option JobOutcome)) (seen : List ℕ) (job : ℕ) → AreSeen seen slots → IsEmpty jobs slots job → IsMissing jobs seen job
missing_is jobs slots seen job was is = record {
  place = is.place;
  named = is.named;
  there = is.there;
  of = is.of;
  none = was.empty is.place is.empty;
  before = λ k low.
      let here = filled_at slots k (let within = slice_get_within slots is.place None is.empty in omega arith) (is.before k low) in
      was.filled k here.0 here.1;
}

pub one_each : (jobs : List NamedJob) (slots : List (Option JobOutcome)) (seen : List ℕ) → AreSeen seen slots → length slots ≡ length jobs → ((k : ℕ) → slice_get slots k ≢ Some None) → HaveOne jobs seen
one_each jobs slots seen was long full = record {
  once = was.once;
  all = λ place low. let here = filled_at slots place (omega arith) (full place) in was.filled place here.0 here.1;
}

pub full_at : (outcomes : List JobOutcome) (k : ℕ) → slice_get (map (λ o. Some o) outcomes) k ≡ Some None → ⊥
full_at [] k none = cc
full_at (o ∷ outcomes) zero none = let bad : Some o ≡ None = same_Some (Some o) None none in cc
full_at (o ∷ outcomes) (suc k) none = full_at outcomes k none

pub taken_same : (slots : List (Option JobOutcome)) (i k : ℕ) → k < i → slice_get (take i slots) k ≡ slice_get slots k
taken_same slots zero k low = absurd (omega arith)
taken_same [] (suc i) k low = refl
taken_same (x ∷ slots) (suc i) zero low = refl
taken_same (x ∷ slots) (suc i) (suc k) low = taken_same slots i k (omega arith)

-- ---- all that was done is of jobs

pub done_within : (jobs : List NamedJob) (began : ℕ) (played : Played) (ds : List JobDone) → AllDone jobs began played ds → AreWithin (length jobs) ds
done_within jobs began played [] all = tt
done_within jobs began played (d ∷ ds) all = (record { low = slice_get_within jobs d.place all.0.named all.0.there }, done_within jobs began played ds all.1)

pub within_at : (many : ℕ) (ds : List JobDone) (i : ℕ) (d : JobDone) → AreWithin many ds → i < length ds → slice_index_or ds i d ≡ d → IsWithin many d
within_at many [] i d all low is = absurd (omega arith)
within_at many (x ∷ ds) zero d all low is = subst (λ (y : JobDone). IsWithin many y) is all.0
within_at many (x ∷ ds) (suc i) d all low is = within_at many ds i d all.1 (omega arith) is

-- ---- why agents ran no more

ran_one : (h : Option Halt) (l : Bool) (a b : Option ℕ) → lacked_or h l ≡ false → strange_or h a ≡ None → stuck_or h b ≡ None → (h ≡ None) × (l ≡ false) × (a ≡ None) × (b ≡ None)
ran_one None l a b x y z = (refl, x, y, z)
ran_one (Some Lacked) l a b x y z = cc
ran_one (Some (Strange place)) l a b x y z = cc
ran_one (Some (Stuck job)) l a b x y z = cc

pub all_ran : (worked : List Worked) → lacks_memory worked ≡ false → first_strange worked ≡ None → first_stuck worked ≡ None → AllRan worked
all_ran [] x y z = All-nil (λ (one : Worked). one.halt ≡ None)
all_ran (w ∷ worked) x y z =
    let one = ran_one w.halt (lacks_memory worked) (first_strange worked) (first_stuck worked) x y z in
    All-cons (λ (one : Worked). one.halt ≡ None) w worked one.0 (all_ran worked one.1 one.2 one.3)

strange_one : (jobs : List NamedJob) (p : Played) (h : Option Halt) (a : Option ℕ) (place : ℕ) → IsHalted jobs p h → strange_or h a ≡ Some place → (length jobs ≤ place) ⊎ (a ≡ Some place)
strange_one jobs p None a place halted is = inr is
strange_one jobs p (Some Lacked) a place halted is = inr is
strange_one jobs p (Some (Stuck job)) a place halted is = inr is
strange_one jobs p (Some (Strange q)) a place halted is = inl (subst (λ n. length jobs ≤ n) (same_Some q place is) halted)

pub strange_is : (jobs : List NamedJob) (seats : List SeatedAgent) (worked : List Worked) (place : ℕ) → AllZip (IsWorkOf jobs) seats worked → first_strange worked ≡ Some place → length jobs ≤ place
strange_is jobs seats [] place all is = cc
strange_is jobs [] (w ∷ worked) place all is = absurd all
strange_is jobs (s ∷ seats) (w ∷ worked) place all is =
    ⊎_elim (λ (far : length jobs ≤ place). far) (λ (later : first_strange worked ≡ Some place). strange_is jobs seats worked place all.1 later) (strange_one jobs w.player w.halt (first_strange worked) place all.0.halted is)

-- ---- what is handed back

pub handed_back : (jobs : List NamedJob) (old left : List Held) (players : List Played) (seats : List SeatedAgent) (worked : List Worked) → AllZip (IsSeated old left) players seats → AllZip (IsWorkOf jobs) seats worked
    → AllZip (IsHandedBack jobs old) players worked
handed_back jobs old left players seats worked sits works =
    zip_then (IsSeated old left) (IsWorkOf jobs) (IsHandedBack jobs old)
    (λ player seat w (sat : IsSeated old left player seat) (work : IsWorkOf jobs seat w). (
      seat.pass,
      subst (λ (ps : List Held). Contains ps seat.pass) (sym sat.own) (Contains-append_right (passes_for (number_of player) left) (seat.pass ∷ []) seat.pass (0, omega arith, refl)),
      subst (λ (p : Played). IsWorked jobs p seat.pass w) sat.sits work,
    ))
    players seats worked sits works

-- ---- what is passed on

pub passed_on : {T E : Type 0} (P : E → Type 0) (r : Result T E) (e : E) → IsErrAnd r (λ y. y ≡ e) → P e → IfErr r P
passed_on P (Ok x) e is holds = tt
passed_on P (Err y) e is holds = subst P (sym is) holds

pub lacks_only : {X : Type 0} (r : Result Pool PoolFault) → IsErrAnd r (λ y. y ≡ Memory) → (r ≡ Err Memory) ⊎ X
lacks_only (Ok p) is = absurd is
lacks_only (Err f) is = inl (ap (λ (e : PoolFault). Err e) is)

pub tells_double : {A : Type 0} (jobs : List NamedJob) (worked : List Worked) (r : Result A PoolFault) (fault : PoolFault) (job : ℕ) → IsErrAnd r (λ y. y ≡ fault) → fault ≡ Double job → NoneFailed worked → IsDouble jobs (places worked) job
    → Gathers jobs worked r
tells_double jobs worked (Ok x) fault job is same none double = absurd is
tells_double jobs worked (Err y) fault job is same none double = subst (λ (f : PoolFault). TellsOf jobs worked f) (sym (is ∙ same)) (none, inl double)

pub tells_missing : {A : Type 0} (jobs : List NamedJob) (worked : List Worked) (r : Result A PoolFault) (fault : PoolFault) (job : ℕ) → IsErrAnd r (λ y. y ≡ fault) → fault ≡ Missing job → NoneFailed worked → AreDistinct (places worked)
    → IsMissing jobs (places worked) job → Gathers jobs worked r
tells_missing jobs worked (Ok x) fault job is same none once missing = absurd is
tells_missing jobs worked (Err y) fault job is same none once missing = subst (λ (f : PoolFault). TellsOf jobs worked f) (sym (is ∙ same)) (none, once, missing)
