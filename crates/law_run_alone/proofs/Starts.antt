-- A transaction that begins asks somebody something: none ends at once.
use Rattle.law_run_alone.proofs.Vocabulary.{◌≡◌, inl, inr, ℕ, ◌+◌, ◌<◌, false, List, [], ◌∷◌, Option, refl, arith, false≢true, Representative, total_votes, IsValid, Prefix, LockMode, Has, contains_from, Short, collect, next, Cache, Suites, Fixed}
use Rattle.law_run_alone.proofs.Vocabulary.{Task, Granted, Running, gather_by, widen_all, execute, is_idle, left}
use Rattle.suite_collect.proofs.Shortness.{short_has_none_left}
use Rattle.txn_core.specs.Transactions.{Step}
use Rattle.law_run_alone.proofs.Votes.{HasValidVotes, start_valid}

abbrev GoesOn' : Step → Type 0
GoesOn' step = is_idle (left Running step.after) ≡ false

-- where nobody has a vote there are none
no_votes : (reps : List Representative) → ((rep : Representative) → Has reps rep → 0 < rep.1 → ⊥) → total_votes reps ≡ 0
no_votes [] none = refl
no_votes (rep ∷ reps) none =
    let rest = no_votes reps (λ other has some. none other (inr has) some) in
    let here = none rep (inl refl) in
    none_here rep.1 here rest
  where
    none_here : (votes : ℕ) → (0 < votes → ⊥) → total_votes reps ≡ 0 → votes + total_votes reps ≡ 0
    none_here votes h1 h2 = search arith

-- a collector that was told nothing does not fall short of valid votes
asks_first : (mode : LockMode) (start : Prefix) (got needed : ℕ) (busy : Option (ℕ × ℕ)) → IsValid start.votes → next (collect mode start) ≡ Short got needed busy → ⊥
asks_first mode start got needed busy valid is = search (short_has_none_left (collect mode start) got needed busy is, no_votes, false≢true, contains_from, arith)

gathers : (task : Task) (cache : Cache) (suites : Suites) (number : ℕ) (mode : LockMode) (start : Prefix) → IsValid start.votes → GoesOn' (gather_by task cache suites number (next (collect mode start)))
gathers task cache suites number mode start valid = search (asks_first, arith)

widens : (task : Task) (cache : Cache) (granted : Granted) (numbers : List ℕ) → GoesOn' (widen_all task cache [] granted numbers)
widens task cache granted [] = refl
widens task cache granted (number ∷ numbers) = widens task cache granted numbers

pub starts : (fixed : Fixed) (task : Task) (cache : Cache) → IsValid fixed.service.c0 → HasValidVotes cache → is_idle (left Running (execute fixed task (record { suites = []; cache = cache })).after) ≡ false
starts fixed task cache c0 valid = search (gathers, start_valid, widens, arith)
