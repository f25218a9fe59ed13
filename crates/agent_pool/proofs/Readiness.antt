-- Which agents can work with which passes: those of a start, a part of them, and those that come back with others that stayed behind.
use Rattle.agent_pool.proofs.Vocabulary.{◌≡◌, ◌≢◌, ◌⊎◌, ⊎_elim, inl, inr, ℕ, zero, suc, ◌+◌, ◌<◌, ◌≤◌, List, [], ◌∷◌, ◌++◌, refl, ap, ◌∙◌, sym, subst, arith}
use Rattle.agent_pool.proofs.Vocabulary.{append_assoc, All, ◌↔◌, slice_get, Some, None, AllZip, same_Some, All-cons, All-head, All-nil, All-tail, Opening}
use Rattle.agent_pool.proofs.Vocabulary.{Held, agents_from, new_pass, Pool, NamedJob, IsPoolOf, AreDistinct, AreReady, HasPass, IsOther, WentOn, numbers_of}
use Rattle.agent_pool.proofs.Vocabulary.{passes_for, Played, IsIdle, first_player, number_of, players_from}
use Rattle.std.proofs.Common.{append-nil}
use Rattle.server_lock.specs.Passes.{passes_of}
use Rattle.agent_pool.proofs.Seating.{apart_from, others_before, other_cons, own_cons}

all_front : (P : Played → Type 0) (xs ys : List Played) → All P (xs ++ ys) → All P xs
all_front P [] ys all = All-nil P
all_front P (x ∷ xs) ys all = All-cons P x xs (All-head P x (xs ++ ys) all) (all_front P xs ys (All-tail P x (xs ++ ys) all))

all_back : (P : Played → Type 0) (xs ys : List Played) → All P (xs ++ ys) → All P ys
all_back P [] ys all = all
all_back P (x ∷ xs) ys all = all_back P xs ys (All-tail P x (xs ++ ys) all)

all_both : (P : Played → Type 0) (xs ys : List Played) → All P xs → All P ys → All P (xs ++ ys)
all_both P [] ys front back = back
all_both P (x ∷ xs) ys front back = All-cons P x (xs ++ ys) (All-head P x xs front) (all_both P xs ys (All-tail P x xs front) back)

number_front : (xs ys : List Played) (i n : ℕ) → slice_get (numbers_of xs) i ≡ Some n → slice_get (numbers_of (xs ++ ys)) i ≡ Some n
number_front [] ys i n at = cc
number_front (x ∷ xs) ys zero n at = at
number_front (x ∷ xs) ys (suc i) n at = number_front xs ys i n at

-- ---- a part of them

pub ready_front : (passes : List Held) (xs ys : List Played) → AreReady passes (xs ++ ys) → AreReady passes xs
ready_front passes xs ys ready = record {
  distinct = λ i j n at there. ready.distinct i j n (number_front xs ys i n at) (number_front xs ys j n there);
  idle = all_front IsIdle xs ys ready.idle;
  have = all_front (HasPass passes) xs ys ready.have;
}

-- ---- those of a start

number_from : (given : Opening) (start count i n : ℕ) → slice_get (numbers_of (players_from given start count)) i ≡ Some n → n ≡ start + i
number_from given start zero i n at = cc
number_from given start (suc count) zero n at = sym (same_Some _ _ at) ∙ omega arith
number_from given start (suc count) (suc i) n at = number_from given (start + 1) count i n at ∙ omega arith

idle_from : (given : Opening) (start count : ℕ) → All IsIdle (players_from given start count)
idle_from given start zero = All-nil IsIdle
idle_from given start (suc count) = All-cons IsIdle (first_player given start) (players_from given (start + 1) count) refl (idle_from given (start + 1) count)

same_or : (k s : ℕ) → (k ≡ s) ⊎ (k ≢ s)
same_or zero zero = inl refl
same_or zero (suc s) = inr (λ e. omega arith)
same_or (suc k) zero = inr (λ e. omega arith)
same_or (suc k) (suc s) = ⊎_elim (λ e. inl (ap suc e)) (λ n. inr (λ e. n (omega arith))) (same_or k s)

pass_from : (start count k : ℕ) (rest : List Held) → start ≤ k → k < start + count → passes_for k (agents_from start count ++ rest) ≢ []
pass_from start zero k rest low high none = absurd (omega arith)
pass_from start (suc count) k rest low high none =
    ⊎_elim (λ (same : k ≡ start). let own = own_cons k (new_pass (Some start)) (agents_from (start + 1) count ++ rest) (ap (λ n. Some n) (sym same)) in let bad = sym own ∙ none in cc)
    (λ (other : k ≢ start). pass_from (start + 1) count k rest (omega arith) (omega arith)
    (sym (other_cons (Some k) start (new_pass (Some start)) (agents_from (start + 1) count ++ rest) refl (λ e. other (same_Some _ _ e))) ∙ none))
    (same_or k start)

have_from : (given : Opening) (passes : List Held) (start count : ℕ) → ((k : ℕ) → start ≤ k → k < start + count → passes_for k passes ≢ []) → All (HasPass passes) (players_from given start count)
have_from given passes start zero each = All-nil (HasPass passes)
have_from given passes start (suc count) each =
    All-cons (HasPass passes) (first_player given start) (players_from given (start + 1) count) (each start (omega arith) (omega arith))
    (have_from given passes (start + 1) count (λ k low high. each k (omega arith) (omega arith)))

-- the agents of a service as they began no job yet, and its first passes
pub ready_first : (given : Opening) → AreReady (passes_of given.agents) (players_from given 0 given.agents)
ready_first given = record {
  distinct = λ i j n at there. let a = number_from given 0 given.agents i n at in let b = number_from given 0 given.agents j n there in omega arith;
  idle = idle_from given 0 given.agents;
  have = have_from given (passes_of given.agents) 0 given.agents (λ k low high. pass_from 0 given.agents k (new_pass None ∷ []) low high);
}

-- ---- those that come back, with others that stayed behind

went_numbers : (old new : List Held) (xs now ys : List Played) → AllZip (WentOn old new) xs now → numbers_of (now ++ ys) ≡ numbers_of (xs ++ ys)
went_numbers old new [] [] ys all = refl
went_numbers old new [] (n ∷ now) ys all = absurd all
went_numbers old new (x ∷ xs) [] ys all = absurd all
went_numbers old new (x ∷ xs) (n ∷ now) ys all = ap (λ k. k ∷ numbers_of (now ++ ys)) all.0.longer.number ∙ ap (λ ks. number_of x ∷ ks) (went_numbers old new xs now ys all.1)

not_empty : (zs : List Held) (z : Held) → zs ++ z ∷ [] ≢ []
not_empty [] z e = cc
not_empty (y ∷ zs) z e = cc

went_have : (old new : List Held) (xs now : List Played) → AllZip (WentOn old new) xs now → All (HasPass new) now
went_have old new [] [] all = All-nil (HasPass new)
went_have old new [] (n ∷ now) all = absurd all
went_have old new (x ∷ xs) [] all = absurd all
went_have old new (x ∷ xs) (n ∷ now) all =
    let one = all.0 in
    All-cons (HasPass new) n now (λ none. not_empty one.others one.later (sym one.new_are ∙ ap (λ k. passes_for k new) (sym one.longer.number) ∙ none)) (went_have old new xs now all.1)

other_front : (xs ys : List Played) (n : ℕ) → IsOther (xs ++ ys) (Some n) → IsOther xs (Some n)
other_front [] ys n other = tt
other_front (x ∷ xs) ys n other = (other.0, other_front xs ys n other.1)

-- who stayed behind still has its pass
stayed : (old new : List Held) (xs more ys : List Played) → AreDistinct (numbers_of ((xs ++ more) ++ ys)) → ((n : ℕ) → IsOther xs (Some n) → passes_for n new ≡ passes_for n old) → All (HasPass old) ys → All (HasPass new) ys
stayed old new xs more [] distinct same have = All-nil (HasPass new)
stayed old new xs more (y ∷ ys) distinct same have =
    let other = other_front xs more (number_of y) (others_before (xs ++ more) y ys distinct) in
    let whole : (xs ++ more) ++ y ∷ ys ≡ (xs ++ (more ++ y ∷ [])) ++ ys = sym (append_assoc (xs ++ more) (y ∷ []) ys) ∙ ap (λ zs. zs ++ ys) (append_assoc xs more (y ∷ [])) in
    All-cons (HasPass new) y ys (λ none. All-head (HasPass old) y ys have (sym (same (number_of y) other) ∙ none))
    (stayed old new xs (more ++ y ∷ []) ys (subst (λ (zs : List Played). AreDistinct (numbers_of zs)) whole distinct) same (All-tail (HasPass old) y ys have))

-- the agents that come back, and others that stayed behind
pub ready_after : (jobs : List NamedJob) (passes : List Held) (xs ys : List Played) (pool : Pool) → AreReady passes (xs ++ ys) → IsPoolOf jobs xs passes pool → AreReady pool.passes.items (pool.agents.items ++ ys)
ready_after jobs passes xs ys pool ready is =
    let now = pool.agents.items in
    let new = pool.passes.items in
    let behind = stayed passes new xs [] ys (subst (λ (zs : List Played). AreDistinct (numbers_of (zs ++ ys))) (sym (append-nil xs)) ready.distinct) (λ n other. is.others (Some n) other) (all_back (HasPass passes) xs ys ready.have) in
    record {
      distinct = subst (λ ns. AreDistinct ns) (sym (went_numbers passes new xs now ys is.agents)) ready.distinct;
      idle = all_both IsIdle now ys is.idle (all_back IsIdle xs ys ready.idle);
      have = all_both (HasPass new) now ys (went_have passes new xs now is.agents) behind;
    }

-- ---- one agent more

other_at : (n : ℕ) (xs : List Played) (j : ℕ) → IsOther xs (Some n) → slice_get (numbers_of xs) j ≡ Some n → ⊥
other_at n [] j other at = cc
other_at n (x ∷ xs) zero other at = other.0 (sym at)
other_at n (x ∷ xs) (suc j) other at = other_at n xs j other.1 at

distinct_cons : (x : Played) (xs : List Played) → IsOther xs (Some (number_of x)) → AreDistinct (numbers_of xs) → AreDistinct (numbers_of (x ∷ xs))
distinct_cons x xs other distinct zero zero n at there = refl
distinct_cons x xs other distinct zero (suc j) n at there = absurd (other_at (number_of x) xs j other (there ∙ sym at))
distinct_cons x xs other distinct (suc i) zero n at there = absurd (other_at (number_of x) xs i other (at ∙ sym there))
distinct_cons x xs other distinct (suc i) (suc j) n at there = ap suc (distinct i j n at there)

pub ready_none : (passes : List Held) → AreReady passes []
ready_none passes = record { distinct = λ i j n at there. cc; idle = All-nil IsIdle; have = All-nil (HasPass passes) }

pub ready_cons : (passes : List Held) (x : Played) (xs : List Played) → IsIdle x → HasPass passes x → IsOther xs (Some (number_of x)) → AreReady passes xs → AreReady passes (x ∷ xs)
ready_cons passes x xs idle has other ready = record {
  distinct = distinct_cons x xs other ready.distinct;
  idle = All-cons IsIdle x xs idle ready.idle;
  have = All-cons (HasPass passes) x xs has ready.have;
}

-- what is so of the first, and of the others
pub record Parts (passes : List Held) (x : Played) (xs : List Played) : Type 0 where
  pub idle : IsIdle x
  pub has : HasPass passes x
  pub other : IsOther xs (Some (number_of x))
  pub rest : AreReady passes xs

pub ready_parts : (passes : List Held) (x : Played) (xs : List Played) → AreReady passes (x ∷ xs) → Parts passes x xs
ready_parts passes x xs ready = record {
  idle = All-head IsIdle x xs ready.idle;
  has = All-head (HasPass passes) x xs ready.have;
  other = (apart_from (x ∷ xs) ready.distinct).0;
  rest = record {
    distinct = λ i j n at there. let e = ready.distinct (suc i) (suc j) n at there in omega arith;
    idle = All-tail IsIdle x xs ready.idle;
    have = All-tail (HasPass passes) x xs ready.have;
  };
}

-- who can work beside those after it: what is so of these is so of all
pub ready_on : (passes : List Held) (x : Played) (later rest all : List Played) → rest ≡ x ∷ later → IsIdle x → HasPass passes x → IsOther later (Some (number_of x))
    → (AreReady passes rest ↔ AreReady passes all) → (AreReady passes later ↔ AreReady passes all)
ready_on passes x later rest all split idle has other same = (
  λ ready. same.0 (subst (λ (ps : List Played). AreReady passes ps) (sym split) (ready_cons passes x later idle has other ready)),
  λ ready. (ready_parts passes x later (subst (λ (ps : List Played). AreReady passes ps) split (same.1 ready))).rest,
)

-- what is so of all is so of these, and of the first of them
pub ready_all : (passes : List Held) (x : Played) (later rest all : List Played) → rest ≡ x ∷ later → (AreReady passes rest ↔ AreReady passes all) → AreReady passes all → Parts passes x later
ready_all passes x later rest all split same ready = ready_parts passes x later (subst (λ (ps : List Played). AreReady passes ps) split (same.1 ready))
