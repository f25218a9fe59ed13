-- What a collector that falls short was told, in the words of the exchanges.
use Rattle.txn_core.proofs.Vocabulary.{◌≡◌, ℕ, ◌+◌, Bool, true, false, cond, List, [], ◌∷◌, Option, Some, None, refl, ap, ◌∙◌, ◌==◌, ◌&&◌, ◌||◌, Representative, votes_in, LockMode, Said, Told, has_told, arith, first_busy, Collector, all_told, Short}
use Rattle.txn_core.proofs.Vocabulary.{next, Exchange, locks, told_of, told_by, heard_in, is_said, has_said, busy_at, first_of, first_busy_in}

abbrev pub kind_of : (LockMode → Said → Bool) → Told → Bool
kind_of kind one = kind one.mode one.said

-- what was told is what was said
told_now : (kind : LockMode → Said → Bool) (before : List Told) (one : Exchange) (suite server : ℕ)
    → has_told (kind_of kind) (cond (locks suite one.request) (told_by before one one.response) before) server
    ≡ (((one.server == server) && locks suite one.request && is_said kind one.request (heard_in one.request one.response)) || has_told (kind_of kind) before server)
told_now kind before one suite server = search arith

pub told_said : (kind : LockMode → Said → Bool) (suite server : ℕ) (before : List Told) (past : List Exchange)
    → has_told (kind_of kind) (told_of suite before past) server ≡ (has_told (kind_of kind) before server || has_said past suite kind server)
told_said kind suite server before [] = of (has_told (kind_of kind) before server)
  where
    of : (b : Bool) → b ≡ (b || false)
    of true = refl
    of false = refl
told_said kind suite server before (one ∷ past) =
    told_said kind suite server (cond (locks suite one.request) (told_by before one one.response) before) past
    ∙ ap (λ b. b || has_said past suite kind server) (told_now kind before one suite server)
    ∙ swap ((one.server == server) && locks suite one.request && is_said kind one.request (heard_in one.request one.response)) (has_told (kind_of kind) before server) (has_said past suite kind server)
  where
    swap : (a b c : Bool) → ((a || b) || c) ≡ (b || (a || c))
    swap true true c = refl
    swap true false c = refl
    swap false b c = refl

-- and who was busy first
busy_now : (before : List Told) (one : Exchange) (suite : ℕ)
    → first_busy (cond (locks suite one.request) (told_by before one one.response) before) ≡ first_of (first_busy before) (cond (locks suite one.request) (busy_at one.server (heard_in one.request one.response)) None)
busy_now before one suite = search arith

pub busy_said : (suite : ℕ) (before : List Told) (past : List Exchange) → first_busy (told_of suite before past) ≡ first_of (first_busy before) (first_busy_in suite past)
busy_said suite before [] = of (first_busy before)
  where
    of : (first : Option (ℕ × ℕ)) → first ≡ first_of first None
    of (Some first) = refl
    of None = refl
busy_said suite before (one ∷ past) =
    busy_said suite (cond (locks suite one.request) (told_by before one one.response) before) past
    ∙ ap (λ first. first_of first (first_busy_in suite past)) (busy_now before one suite)
    ∙ of (first_busy before) (cond (locks suite one.request) (busy_at one.server (heard_in one.request one.response)) None)
  where
    of : (a b : Option (ℕ × ℕ)) → first_of (first_of a b) (first_busy_in suite past) ≡ first_of a (first_of b (first_busy_in suite past))
    of (Some a) b = refl
    of None b = refl

pub votes_same : (reps : List Representative) (f g : ℕ → Bool) → ((server : ℕ) → f server ≡ g server) → votes_in reps f ≡ votes_in reps g
votes_same [] f g same = refl
votes_same (rep ∷ reps) f g same = ap (λ b. cond b rep.1 0 + votes_in reps f) (same rep.0) ∙ ap (λ n. cond (g rep.0) rep.1 0 + n) (votes_same reps f g same)

pub tells_busy : (c : Collector) (had wanting : ℕ) (busy : Option (ℕ × ℕ)) → next c ≡ Short had wanting busy → busy ≡ first_busy (all_told c)
tells_busy c had wanting busy is = search arith
