-- Outcomes at their places.
use Rattle.agent_pool.proofs.Vocabulary.{◌≡◌, ℕ, zero, suc, ◌+◌, ◌<◌, true, false, List, [], ◌∷◌, ◌++◌, length, map, slice_set, subst, refl, ap, ◌∙◌, sym}
use Rattle.agent_pool.proofs.Vocabulary.{arith, All, is_some, Contains, slice_get, slice_index_or, Option, Some, None, same_Some, All-cons, All-head, All-nil}
use Rattle.agent_pool.proofs.Vocabulary.{All-tail, AllZip, Held, has_sense, JobDone, SeatedAgent, Worked, NamedJob, JobOutcome, AllRan, AreOutcomes, IsOutcome}
use Rattle.agent_pool.proofs.Vocabulary.{begun_by, AreIdle, AreNone, IsFilled, IsPut, done_in, filled_in, players_of, sitting, AreDistinct, numbers_of}
use Rattle.agent_pool.proofs.Vocabulary.{IsSeated, IsWorkOf, Played, IsIdle, IsTold, number_of, AllDone, IsDone, IsHalted}
use Rattle.std.proofs.Common.{take}
use Rattle.agent_pool.specs.Pools.{IsOf}
use Rattle.agent_pool.specs.Transcripts.{begins}
use Rattle.agent_pool.proofs.Zips.{zip_set}

pub none_push : (xs : List (Option JobOutcome)) → AreNone xs → AreNone (xs ++ None ∷ [])
none_push [] all = (refl, tt)
none_push (x ∷ xs) all = (all.0, none_push xs all.1)

pub none_filled : (was players : List Played) (jobs : List NamedJob) (slots : List (Option JobOutcome)) → AreNone slots → length slots ≡ length jobs → AllZip (IsFilled was players) jobs slots
none_filled was players [] [] none long = tt
none_filled was players [] (s ∷ slots) none long = absurd (omega arith)
none_filled was players (j ∷ jobs) [] none long = absurd (omega arith)
none_filled was players (j ∷ jobs) (s ∷ slots) none long = (subst (λ o. IsFilled was players j o) (sym none.0) tt, none_filled was players jobs slots none.1 (omega arith))

-- a place is filled
pub place_filled : (was players : List Played) (agent : ℕ) (before player : Played) (jobs : List NamedJob) (slots : List (Option JobOutcome)) (done : JobDone) (named : NamedJob)
    → slice_get jobs done.place ≡ Some named → IsOf was players agent before player → IsDone jobs (begins before.entries) player done → AllZip (IsFilled was players) jobs slots
    → AllZip (IsFilled was players) jobs (slice_set slots done.place (Some (record { job = named.number; agent = agent; count = done.ran.count; at = done.ran.at })))
place_filled was players agent before player jobs slots done named at by is all =
    let same : named ≡ is.named = same_Some _ _ (sym at ∙ is.there) in
    let outcome : JobOutcome = record { job = named.number; agent = agent; count = done.ran.count; at = done.ran.at } in
    let one : IsOutcome was players named outcome = record {
      of = refl;
      before = before;
      player = player;
      by = by;
      told = subst (λ (n : NamedJob). IsTold player n.job done.ran.count done.ran.at) (sym same) is.told;
      since = is.since;
      sense = subst (λ (n : NamedJob). has_sense player.agent.fixed n.job ≡ true) (sym same) is.sense;
    } in
    zip_set (IsFilled was players) jobs slots done.place named (Some outcome) all at one

-- where all are filled, there are the outcomes
pub all_filled : (was players : List Played) (jobs : List NamedJob) (outcomes : List JobOutcome) → AllZip (IsFilled was players) jobs (map (λ o. Some o) outcomes) → AreOutcomes was players jobs outcomes
all_filled was players [] [] all = tt
all_filled was players [] (o ∷ outcomes) all = absurd all
all_filled was players (j ∷ jobs) [] all = absurd all
all_filled was players (j ∷ jobs) (o ∷ outcomes) all = (all.0, all_filled was players jobs outcomes all.1)

pub done_at : (jobs : List NamedJob) (began : ℕ) (played : Played) (ds : List JobDone) (i : ℕ) (d : JobDone) → AllDone jobs began played ds → i < length ds → slice_index_or ds i d ≡ d → IsDone jobs began played d
done_at jobs began played [] i d all low is = absurd (omega arith)
done_at jobs began played (x ∷ ds) zero d all low is = subst (λ y. IsDone jobs began played y) is all.0
done_at jobs began played (x ∷ ds) (suc i) d all low is = done_at jobs began played ds i d all.1 (omega arith) is

pub as_many : {A B : Type 0} (R : A → B → Type 0) (xs : List A) (ys : List B) → AllZip R xs ys → length ys ≡ length xs
as_many R [] [] all = refl
as_many R [] (y ∷ ys) all = absurd all
as_many R (x ∷ xs) [] all = absurd all
as_many R (x ∷ xs) (y ∷ ys) all = ap suc (as_many R xs ys all.1)

there : (x y : Played) (xs : List Played) → Contains xs y → Contains (x ∷ xs) y
there x y xs at = (suc at.0, (let low = at.1 in omega arith), at.2)

-- the work of one of them, and where it sat
pub record WorkedAt (jobs : List NamedJob) (seats : List SeatedAgent) (worked : List Worked) (w : Worked) : Type 0 where
  pub seat : SeatedAgent
  pub sat : Contains (sitting seats) seat.player
  pub is : Contains (players_of worked) w.player
  pub work : IsWorkOf jobs seat w

pub worked_at : (jobs : List NamedJob) (seats : List SeatedAgent) (worked : List Worked) (i : ℕ) (w : Worked) → AllZip (IsWorkOf jobs) seats worked → i < length worked → slice_index_or worked i w ≡ w → WorkedAt jobs seats worked w
worked_at jobs [] [] i w all low is = absurd (omega arith)
worked_at jobs [] (x ∷ worked) i w all low is = absurd all
worked_at jobs (s ∷ seats) [] i w all low is = absurd all
worked_at jobs (s ∷ seats) (x ∷ worked) zero w all low is = record {
  seat = s;
  sat = (0, omega arith, refl);
  is = subst (λ (y : Worked). Contains (x.player ∷ players_of worked) y.player) is (0, omega arith, refl);
  work = subst (λ (y : Worked). IsWorkOf jobs s y) is all.0;
}
worked_at jobs (s ∷ seats) (x ∷ worked) (suc i) w all low is =
    let more = worked_at jobs seats worked i w all.1 (omega arith) is in
    record { seat = more.seat; sat = there s.player more.seat.player (sitting seats) more.sat; is = there x.player w.player (players_of worked) more.is; work = more.work }

-- that it is one agent's
pub is_of : (jobs : List NamedJob) (seats : List SeatedAgent) (worked : List Worked) (w : Worked) (agent : ℕ) (at : WorkedAt jobs seats worked w) → agent ≡ number_of w.player
    → IsOf (sitting seats) (players_of worked) agent at.seat.player w.player
is_of jobs seats worked w agent at is = record { had = at.sat; old = sym at.work.longer.number ∙ sym is; has = at.is; new = sym is }

-- whoever ran whatever it took is idle
pub all_idle : (jobs : List NamedJob) (seats : List SeatedAgent) (worked : List Worked) → AllZip (IsWorkOf jobs) seats worked → AllRan worked → All IsIdle (players_of worked)
all_idle jobs [] [] all ran = All-nil IsIdle
all_idle jobs [] (w ∷ worked) all ran = absurd all
all_idle jobs (s ∷ seats) [] all ran = absurd all
all_idle jobs (s ∷ seats) (w ∷ worked) all ran =
    All-cons IsIdle w.player (players_of worked) (subst (λ h. IsHalted jobs w.player h) (All-head (λ (one : Worked). one.halt ≡ None) w worked ran) all.0.halted)
    (all_idle jobs seats worked all.1 (All-tail (λ (one : Worked). one.halt ≡ None) w worked ran))

-- and all began what they did, and no more
pub all_begun : (jobs : List NamedJob) (seats : List SeatedAgent) (worked : List Worked) → AllZip (IsWorkOf jobs) seats worked → AllRan worked → begun_by (players_of worked) ≡ begun_by (sitting seats) + done_in worked
all_begun jobs [] [] all ran = refl
all_begun jobs [] (w ∷ worked) all ran = absurd all
all_begun jobs (s ∷ seats) [] all ran = absurd all
all_begun jobs (s ∷ seats) (w ∷ worked) all ran =
    let one = all.0.once (All-head (λ (one : Worked). one.halt ≡ None) w worked ran) in
    let more = all_begun jobs seats worked all.1 (All-tail (λ (one : Worked). one.halt ≡ None) w worked ran) in
    omega arith

-- ---- how many places are filled

pub none_many : (slots : List (Option JobOutcome)) → AreNone slots → filled_in slots ≡ 0
none_many [] none = refl
none_many (None ∷ slots) none = none_many slots none.1
none_many (Some o ∷ slots) none = let bad = none.0 in cc

pub set_many : (slots : List (Option JobOutcome)) (i : ℕ) (o : JobOutcome) → slice_get slots i ≡ Some None → filled_in (slice_set slots i (Some o)) ≡ filled_in slots + 1
set_many [] i o none = cc
set_many (None ∷ slots) zero o none = refl
set_many (Some x ∷ slots) zero o none = let bad : Some x ≡ None = same_Some (Some x) None none in cc
set_many (None ∷ slots) (suc i) o none = set_many slots i o none
set_many (Some x ∷ slots) (suc i) o none = let more = set_many slots i o none in omega arith

pub put_many : (old new : List (Option JobOutcome)) (place : ℕ) (outcome : JobOutcome) → IsPut old place outcome new → filled_in new ≡ filled_in old + 1
put_many old new place outcome put = ap filled_in put.is ∙ set_many old place outcome put.was

pub some_many : (outcomes : List JobOutcome) → filled_in (map (λ o. Some o) outcomes) ≡ length outcomes
some_many [] = refl
some_many (o ∷ outcomes) = let more = some_many outcomes in omega arith

suc_many : (worked : List Worked) (i : ℕ) (w : Worked) → i < length worked → slice_index_or worked i w ≡ w → done_in (take (suc i) worked) ≡ done_in (take i worked) + length w.done.items
suc_many [] i w low is = absurd (omega arith)
suc_many (x ∷ worked) zero w low is = let e = ap (λ (y : Worked). length y.done.items) is in omega arith
suc_many (x ∷ worked) (suc i) w low is = let more = suc_many worked i w (omega arith) is in omega arith

pub more_many : (worked : List Worked) (i : ℕ) (w : Worked) → i < length worked → slice_index_or worked i w ≡ w → done_in (take (i + 1) worked) ≡ done_in (take i worked) + length w.done.items
more_many worked i w low is = let e : i + 1 ≡ suc i = omega arith in ap (λ n. done_in (take n worked)) e ∙ suc_many worked i w low is

-- who sits there are the agents
pub sits_same : (old left : List Held) (players : List Played) (seats : List SeatedAgent) → AllZip (IsSeated old left) players seats → sitting seats ≡ players
sits_same old left [] [] all = refl
sits_same old left [] (s ∷ seats) all = absurd all
sits_same old left (p ∷ players) [] all = absurd all
sits_same old left (p ∷ players) (s ∷ seats) all = ap (λ q. q ∷ sitting seats) all.0.sits ∙ ap (λ qs. p ∷ qs) (sits_same old left players seats all.1)

-- all who took a seat were idle
pub seats_idle : (old left : List Held) (players : List Played) (seats : List SeatedAgent) → AllZip (IsSeated old left) players seats → All IsIdle players → AreIdle seats
seats_idle old left [] [] all idle = All-nil (λ (seat : SeatedAgent). IsIdle seat.player)
seats_idle old left [] (s ∷ seats) all idle = absurd all
seats_idle old left (p ∷ players) [] all idle = absurd all
seats_idle old left (p ∷ players) (s ∷ seats) all idle =
    All-cons (λ (seat : SeatedAgent). IsIdle seat.player) s seats (subst (λ (q : Played). IsIdle q) (sym all.0.sits) (All-head IsIdle p players idle)) (seats_idle old left players seats all.1 (All-tail IsIdle p players idle))

pub same_numbers : (jobs : List NamedJob) (old left : List Held) (players : List Played) (seats : List SeatedAgent) (worked : List Worked)
    → AllZip (IsSeated old left) players seats → AllZip (IsWorkOf jobs) seats worked → numbers_of (players_of worked) ≡ numbers_of players
same_numbers jobs old left [] [] [] a b = refl
same_numbers jobs old left [] [] (w ∷ worked) a b = absurd b
same_numbers jobs old left [] (s ∷ seats) worked a b = absurd a
same_numbers jobs old left (p ∷ players) [] worked a b = absurd a
same_numbers jobs old left (p ∷ players) (s ∷ seats) [] a b = absurd b
same_numbers jobs old left (p ∷ players) (s ∷ seats) (w ∷ worked) a b =
    ap (λ n. n ∷ numbers_of (players_of worked)) (b.0.longer.number ∙ ap (λ (q : Played). number_of q) a.0.sits) ∙ ap (λ ns. number_of p ∷ ns) (same_numbers jobs old left players seats worked a.1 b.1)

pub still_distinct : (jobs : List NamedJob) (old left : List Held) (players : List Played) (seats : List SeatedAgent) (worked : List Worked)
    → AllZip (IsSeated old left) players seats → AllZip (IsWorkOf jobs) seats worked → AreDistinct (numbers_of players)
    → AreDistinct (numbers_of (players_of worked))
still_distinct jobs old left players seats worked a b distinct = subst (λ ns. AreDistinct ns) (sym (same_numbers jobs old left players seats worked a b)) distinct

pub number_at : (worked : List Worked) (i : ℕ) (w : Worked) → i < length worked → slice_index_or worked i w ≡ w → slice_get (numbers_of (players_of worked)) i ≡ Some (number_of w.player)
number_at [] i w low is = absurd (omega arith)
number_at (x ∷ worked) zero w low is = ap (λ (y : Worked). Some (number_of y.player)) is
number_at (x ∷ worked) (suc i) w low is = number_at worked i w (omega arith) is

take_suc_numbers : (worked : List Worked) (i : ℕ) (w : Worked) → i < length worked → slice_index_or worked i w ≡ w → take (suc i) (numbers_of (players_of worked)) ≡ take i (numbers_of (players_of worked)) ++ number_of w.player ∷ []
take_suc_numbers [] i w low is = absurd (omega arith)
take_suc_numbers (x ∷ worked) zero w low is = ap (λ (y : Worked). number_of y.player ∷ []) is
take_suc_numbers (x ∷ worked) (suc i) w low is = ap (λ ns. number_of x.player ∷ ns) (take_suc_numbers worked i w (omega arith) is)

pub take_numbers : (worked : List Worked) (i : ℕ) (w : Worked) → i < length worked → slice_index_or worked i w ≡ w → take (i + 1) (numbers_of (players_of worked)) ≡ take i (numbers_of (players_of worked)) ++ number_of w.player ∷ []
take_numbers worked i w low is = let e : i + 1 ≡ suc i = omega arith in ap (λ n. take n (numbers_of (players_of worked))) e ∙ take_suc_numbers worked i w low is

-- ---- a place that is looked at

pub some_at : (slots : List (Option JobOutcome)) (i : ℕ) (slot : Option JobOutcome) → i < length slots → slice_index_or slots i slot ≡ slot → is_some slot ≡ true → (o : JobOutcome) × (slice_get slots i ≡ Some (Some o))
some_at [] i slot low is some = absurd (omega arith)
some_at (x ∷ slots) zero None low is some = absurd (cc)
some_at (x ∷ slots) zero (Some o) low is some = (o, ap (λ (s : Option JobOutcome). Some s) is)
some_at (x ∷ slots) (suc i) slot low is some = some_at slots i slot (omega arith) is some

pub none_there : (slots : List (Option JobOutcome)) (i : ℕ) (slot : Option JobOutcome) → i < length slots → slice_index_or slots i slot ≡ slot → is_some slot ≡ false → slice_get slots i ≡ Some None
none_there [] i slot low is none = absurd (omega arith)
none_there (x ∷ slots) zero None low is none = ap (λ (s : Option JobOutcome). Some s) is
none_there (x ∷ slots) zero (Some o) low is none = cc
none_there (x ∷ slots) (suc i) slot low is none = none_there slots i slot (omega arith) is none
