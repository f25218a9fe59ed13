-- A server at which one transaction alone has locks, and that is up; or that is down and has none of it.
use Rattle.law_run_alone.proofs.Vocabulary.{◌≡◌, ⊎_elim, inl, inr, ℕ, Bool, true, false, cond, List, [], ◌∷◌, Some, None, refl, sym, ap, ◌∙◌, arith, ◌||◌, not, find, filter, map, nat_tests, LockMode, Exclusive, Lock, Request, Stamped, is_busy}
use Rattle.law_run_alone.proofs.Vocabulary.{is_down, in_the_way, has_lock, locked, raised, raised_lock, with_lock, before, copy_of, State, reply_of, reply_up, reply_down, locking_reply, stands_prepared, can_prepare, Has, has_filter, has_between}
use Rattle.law_run_alone.proofs.Vocabulary.{has_map, any_has, Ways, by_step}
use Rattle.rep_core.specs.Serving.{step}
use Rattle.rep_core.specs.declared.request.Request.TheVariants as request
use Rattle.rep_core.specs.declared.reply.Reply.TheVariants as reply

-- all locks are of this transaction
abbrev pub AreOwn : ℕ → List Lock → Type 0
AreOwn t locks = (lock : Lock) → Has locks lock → lock.t ≡ t

-- none is
abbrev pub AreOthers : ℕ → List Lock → Type 0
AreOthers t locks = (lock : Lock) → Has locks lock → lock.t ≡ t → ⊥

-- a server that is up has locks of this transaction alone; one that is down has none of it
abbrev pub IsOwnAt : Bool → ℕ → State → Type 0
IsOwnAt true t st = (st.up ≡ true) × AreOwn t st.locks
IsOwnAt false t st = (st.up ≡ false) × AreOthers t st.locks

-- a lock is asked for in its name alone
abbrev pub PollsFor : ℕ → Request → Type 0
PollsFor t (request.Poll named suite mode) = named ≡ t
PollsFor t other = Unit {0}

abbrev pub is_crash : Request → Bool
is_crash request.Crash = true
is_crash other = false

abbrev pub is_return : Request → Bool
is_return request.Return = true
is_return other = false

own_filter : (t : ℕ) (p : Lock → Bool) (locks : List Lock) → AreOwn t locks → AreOwn t (filter p locks)
own_filter t p locks own lock has = own lock (has_filter p locks lock has).0

own_map : (t : ℕ) (f : Lock → Lock) (locks : List Lock) → ((lock : Lock) → (f lock).t ≡ lock.t) → AreOwn t locks → AreOwn t (map f locks)
own_map t f locks same own lock has = let was = has_map f locks lock has in ap (λ (lock : Lock). lock.t) (sym was.2) ∙ same was.0 ∙ own was.0 was.1

own_locked : (t named suite : ℕ) (mode : LockMode) (locks : List Lock) → named ≡ t → AreOwn t locks → AreOwn t (locked named suite mode locks)
own_locked t named suite mode locks is own =
    let new : Lock = record { t = named; suite = suite; mode = mode; prepared = false } in
    elim (has_lock named suite locks) as (λ b. AreOwn t (cond b (raised named suite mode locks) (with_lock new locks))) [
      | true ↦ own_map t (raised_lock named suite mode) locks (λ lock. refl) own
      | false ↦ λ lock has. ⊎_elim (λ old. own lock old) (λ same. ap (λ (lock : Lock). lock.t) (sym same) ∙ is) (has_between (λ other. before other new) locks new lock has)
    ]

-- whose lock is there already is this transaction
own_has : (t named suite : ℕ) (locks : List Lock) → AreOwn t locks → has_lock named suite locks ≡ true → named ≡ t
own_has t named suite locks own has = search (any_has, nat_tests, arith)

-- what stays so after a request
abbrev StaysOwn : ℕ → Request → State → Type 0
StaysOwn t asked new = PollsFor t asked → AreOwn t new.locks

abbrev StaysUp : Request → State → Type 0
StaysUp asked new = is_crash asked ≡ false → new.up ≡ true

own_ways : (t : ℕ) (st : State) → AreOwn t st.locks → Ways st (StaysOwn t)
own_ways t st own = search (own_locked, own_has, own_map, own_filter, arith)

up_ways : (st : State) → st.up ≡ true → Ways st StaysUp
up_ways st up = search arith

-- all locks stay this transaction's own, as long as nobody else asks for one
pub own_stays : (t : ℕ) (st : State) (asked : Stamped Request) → PollsFor t asked.value → AreOwn t st.locks → AreOwn t (step st asked).locks
own_stays t st asked polls own = by_step st (StaysOwn t) (own_ways t st own) (λ asked new stamp stays. stays) asked polls

-- a server that is up stays so, as long as it does not crash
pub up_stays : (st : State) (asked : Stamped Request) → is_crash asked.value ≡ false → st.up ≡ true → (step st asked).up ≡ true
up_stays st asked other up = by_step st StaysUp (up_ways st up) (λ asked new stamp stays. stays) asked other

down_stays : (t : ℕ) (st : State) (asked : Stamped Request) → is_return asked.value ≡ false → IsOwnAt false t st → IsOwnAt false t (step st asked)
down_stays t st asked other was = search arith

-- so it stays of each server
pub own_at_stays : (b : Bool) (t : ℕ) (st : State) (asked : Stamped Request) → PollsFor t asked.value → is_crash asked.value ≡ false → (b ≡ false → is_return asked.value ≡ false) → IsOwnAt b t st → IsOwnAt b t (step st asked)
own_at_stays b t st asked h4 h5 h6 h7 = search (up_stays, own_stays, down_stays, arith)

-- and each is up as it was
pub up_as : (b : Bool) (t : ℕ) (st : State) → IsOwnAt b t st → st.up ≡ b
up_as b t st h3 = search arith

-- where it has a lock the server is up
pub up_where : (b : Bool) (t : ℕ) (st : State) → IsOwnAt b t st → (lock : Lock) → Has st.locks lock → lock.t ≡ t → b ≡ true
up_where b t st h3 lock h5 h6 = search arith

-- ---- what such a server replies

none_found : (p : Lock → Bool) (locks : List Lock) → ((lock : Lock) → Has locks lock → p lock ≡ false) → find p locks ≡ None
none_found p [] misses = refl
none_found p (lock ∷ locks) misses = ap (λ b. cond b (Some lock) (find p locks)) (misses lock (inl refl)) ∙ none_found p locks (λ other has. misses other (inr has))

-- nothing is in the way of its transaction
pub nothing_in_the_way : (t suite : ℕ) (mode : LockMode) (locks : List Lock) → AreOwn t locks → in_the_way t suite mode locks ≡ None
nothing_in_the_way t suite mode locks own = search (none_found, nat_tests, arith)

-- it is not told Busy, nor Down
pub not_busy : (t : ℕ) (st : State) (asked : Request) → st.up ≡ true → PollsFor t asked → AreOwn t st.locks → is_busy (reply_of st asked) ≡ false
not_busy t st asked up polls own = ap (λ b. is_busy (cond b (reply_up st asked) (reply_down asked))) up ∙ of asked polls
  where
    polled : (named suite : ℕ) (mode : LockMode) → named ≡ t → is_busy (locking_reply (in_the_way named suite mode st.locks) (copy_of st.store suite)) ≡ false
    polled named suite mode same = search (nothing_in_the_way, arith)

    of : (asked : Request) → PollsFor t asked → is_busy (reply_up st asked) ≡ false
    of (request.Poll named suite mode) polls = polled named suite mode polls
    of (request.Upgrade named suite) polls =
        elim (has_lock named suite st.locks) as (λ b. has_lock named suite st.locks ≡ b → is_busy (cond b (locking_reply (in_the_way named suite Exclusive st.locks) (copy_of st.store suite)) reply.Lost) ≡ false) [
          | true ↦ λ has. polled named suite Exclusive (own_has t named suite st.locks own has)
          | false ↦ λ _. refl
        ] refl
    of (request.Fetch named suite) polls = elim (has_lock named suite st.locks) as (λ b. is_busy (cond b (reply.Given (copy_of st.store suite).dver (copy_of st.store suite).content) reply.Lost) ≡ false) [ true ↦ refl | false ↦ refl ]
    of (request.Prepare named parts) polls = elim (stands_prepared st named parts || can_prepare st named parts) as (λ b. is_busy (cond b reply.Prepared reply.Lost) ≡ false) [ true ↦ refl | false ↦ refl ]
    of other polls = refl

pub not_down : (st : State) (asked : Request) → st.up ≡ true → is_down (reply_of st asked) ≡ false
not_down st asked up = search arith

-- one that is down is down to all that an agent asks
down_replies : (asked : Request) → is_return asked ≡ false → reply_down asked ≡ reply.Down
down_replies asked h1 = search arith

pub replies_down : (st : State) (asked : Request) → is_return asked ≡ false → st.up ≡ false → reply_of st asked ≡ reply.Down
replies_down st asked other down = ap (λ b. cond b (reply_up st asked) (reply_down asked)) down ∙ down_replies asked other

-- the transaction is not told Busy, and Down by those alone that are down
pub not_busy_at : (b : Bool) (t : ℕ) (st : State) (asked : Request) → is_return asked ≡ false → PollsFor t asked → IsOwnAt b t st → is_busy (reply_of st asked) ≡ false
not_busy_at b t st asked h4 h5 h6 = search (not_busy, replies_down, arith)

pub down_at : (b : Bool) (t : ℕ) (st : State) (asked : Request) → is_return asked ≡ false → IsOwnAt b t st → is_down (reply_of st asked) ≡ not b
down_at b t st asked h4 h5 = search arith
