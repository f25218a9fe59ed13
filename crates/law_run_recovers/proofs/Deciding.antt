-- What is decided by a Decide that is served is answered as it was to be.
use Rattle.law_run_recovers.proofs.Vocabulary.{◌≡◌, ℕ, List, Option, Some, Result, Ok, Err, Answer, Refusal, Request, arith, State, Fixed, Task, Proposal, decision_of, Actor, World, server_at, asks_at, Decided, decided_by}
use Rattle.rep_core.specs.declared.request.Request.TheVariants as request

-- the answer of an outcome
abbrev pub answer_as : Proposal → Result (List Answer) Refusal
answer_as (Ok granted) = Ok granted.answers
answer_as (Err refusal) = Err refusal

module _ (fixed : Fixed) (w : World) (i : ℕ) (actor : Actor) (task : Task) (outcome : Proposal) (one : Decided) where
  abbrev asked : Request
  asked = request.Decide task.t (decision_of task outcome)

  pub decides_answer : (server : ℕ) (found : Option State) → server_at w server ≡ found → decided_by w (Some task)
      (asks_at fixed w i actor (server, request.Decide task.t (decision_of task outcome)) found).done.served ≡ Some one → one.answer ≡ answer_as outcome
  decides_answer server found h2 h3 = search arith
