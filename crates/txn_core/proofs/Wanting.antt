-- Where memory may be wanting, phase by phase.
use Rattle.txn_core.proofs.Vocabulary.{◌≡◌, ℕ, true, Result, List, ◌∷◌, is_some, IfErr, AllocError, Reply, is_held, Flow, Replied, Fixed, Proposal, arith, Gathering, Widening, Deciding, Granted, TransactionRun, verdict_in, request_of, by_taking}
use Rattle.txn_core.proofs.Vocabulary.{asks_in}
use Rattle.rep_core.specs.Service.{is_answered}
use Rattle.rep_core.specs.declared.reply.Verdict.TheVariants as verdict

-- ---- a transaction's run

-- a suite is answered by the server that it asks
module _ (fixed : Fixed) (txn_run : TransactionRun) (said : Reply) (number : ℕ) (result : Result Flow AllocError) where
  pub gathering_wants_asked : txn_run.phase ≡ Gathering number → IfErr result (λ _. is_some (asks_in txn_run number) ≡ true) → IfErr result (λ _. is_held said ≡ true)
      → IfErr result (λ _. by_taking (request_of fixed txn_run) (Replied said) ≡ true)
  gathering_wants_asked is some told = search arith

  pub widening_wants_asked : (left : List ℕ) (granted : Granted) → txn_run.phase ≡ Widening (number ∷ left) granted → IfErr result (λ _. is_some (asks_in txn_run number) ≡ true) → IfErr result (λ _. is_held said ≡ true)
      → IfErr result (λ _. by_taking (request_of fixed txn_run) (Replied said) ≡ true)
  widening_wants_asked left granted is some told = search arith

-- the home decides
pub deciding_wants : (fixed : Fixed) (txn_run : TransactionRun) (said : Reply) (outcome : Proposal) (result : Result Flow AllocError) → txn_run.phase ≡ Deciding outcome
    → IfErr result (λ _. is_answered (verdict_in said verdict.Aborted) ≡ true)
    → IfErr result (λ _. by_taking (request_of fixed txn_run) (Replied said) ≡ true)
deciding_wants fixed txn_run said outcome result h5 h6 = search arith
