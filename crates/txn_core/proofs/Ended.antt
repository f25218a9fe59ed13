-- The end of a transaction, as its code goes about it.
use Rattle.txn_core.proofs.Vocabulary.{◌≡◌, ℕ, List, ◌∷◌, Option, ap, ◌∙◌, subst, Verdict, Lack, Cache, Ending, Task, Proposal, Phase, Finishing, TransactionRun, Steps, phase_of, Suites, locked_at, tell_end, give_up, finish, arith, prepare}
use Rattle.txn_core.proofs.Vocabulary.{after_lack, lack_cause}
use Rattle.txn_core.specs.declared.phase.Phase.{Phase as Coded}
use Rattle.txn_core.specs.declared.phase.Phase.TheVariants as coded

-- the servers that hold a lock, as the code finds them
module _ (task : Task) (cache : Cache) (suites given : Suites) (servers : List ℕ) (after : TransactionRun) (found : servers ≡ locked_at given) (same : given ≡ suites) where
  pub finishes : (verdict : Verdict) (ending : Ending) (result : Option Ending) → Steps (tell_end task cache suites verdict ending servers) result after cache → Steps (finish task cache suites verdict ending) result after cache
  finishes verdict ending result steps =
      let Told : List ℕ → Type 0 = λ servers. Steps (tell_end task cache suites verdict ending servers) result after cache in
      subst Told (found ∙ ap locked_at same) steps

  pub prepares : (outcome : Proposal) (result : Option Ending) → Steps (prepare task cache suites outcome servers) result after cache → Steps (prepare task cache suites outcome (locked_at suites)) result after cache
  prepares outcome result steps =
      let Prepares : List ℕ → Type 0 = λ servers. Steps (prepare task cache suites outcome servers) result after cache in
      subst Prepares (found ∙ ap locked_at same) steps

-- what a Finish is answered changes nothing
pub lacks_at_end : (task : Task) (cache : Cache) (suites : Suites) (phase : Phase) (server : ℕ) (lacked : Lack) (now : ℕ) (left : List ℕ) (verdict : Verdict) (ending : Ending)
    (result : Option Ending) (after : TransactionRun) → phase ≡ Finishing (now ∷ left) verdict ending
    → Steps (tell_end task cache suites verdict ending left) result after cache → Steps (after_lack task cache suites phase server lacked) result after cache
lacks_at_end task cache suites phase server lacked now left verdict ending result after is steps = search arith

-- where nothing is told yet, the transaction gives up
pub lacks_before_end : (task : Task) (cache : Cache) (suites : Suites) (phase : Coded) (server : ℕ) (lacked : Lack)
    → ((now : ℕ) (left : List ℕ) (verdict : Verdict) (ending : Ending) → phase ≡ coded.Finishing now left verdict ending → ⊥)
    → after_lack task cache suites (phase_of phase) server lacked ≡ give_up task cache suites (lack_cause server lacked)
lacks_before_end task cache suites phase server lacked h6 = search arith
