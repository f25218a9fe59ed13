-- What an agent asks in a transaction's name, and where it asks for a decision.
use Rattle.law_runs.proofs.Vocabulary.{◌≡◌, ℕ, true, false, Some, arith, ◌==◌, nat_tests, Request, Service, Suites, Fixed, Task, home_of, Proposal, Phase, Deciding, Sweeping, SweepRun, request_in, decision_of, asked_now, is_decide, names, may_sweep}
use Rattle.rep_core.specs.declared.request.Request.TheVariants as request

itself : (t : ℕ) → (t == t) ≡ true
itself t = grind (arith, nat_tests)

-- ---- a transaction asks in its own name

pub asks_in_its_name : (fixed : Fixed) (task : Task) (suites : Suites) (phase : Phase) (server : ℕ) (asked : Request) → request_in fixed task suites phase ≡ Some (server, asked) → names task.t asked ≡ true
asks_in_its_name fixed task suites phase server asked h6 = search arith

-- ---- a sweep asks for locks, and what ends others' transactions

pub asks_to_sweep : (service : Service) (sweep_run : SweepRun) (now : Sweeping) → may_sweep (asked_now service sweep_run now).1 ≡ true
asks_to_sweep service sweep_run now = search arith

pub sweep_decides_none : (service : Service) (sweep_run : SweepRun) (now : Sweeping) → is_decide (asked_now service sweep_run now).1 ≡ false
sweep_decides_none service sweep_run now = search arith

-- ---- a decision is asked for at the transaction's home

pub record Decides (fixed : Fixed) (task : Task) (phase : Phase) (server : ℕ) (asked : Request) : Type 0 where
  pub outcome : Proposal
  pub deciding : phase ≡ Deciding outcome
  pub at_home : server ≡ home_of fixed.service task.t
  pub decide : asked ≡ request.Decide task.t (decision_of task outcome)

calm : {A : Type 0} (asked : Request) → is_decide asked ≡ true → is_decide asked ≡ false → A
calm asked is other = absurd cc

pub decides : (fixed : Fixed) (task : Task) (suites : Suites) (phase : Phase) (server : ℕ) (asked : Request) → request_in fixed task suites phase ≡ Some (server, asked) → is_decide asked ≡ true → Decides fixed task phase server asked
decides fixed task suites phase server asked h6 h7 = search arith
