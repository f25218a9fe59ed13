use Rattle.txn_core.proofs.Vocabulary.{◌≡◌, ℕ, List, ◌∷◌, true, Option, drop, sym, ap, ◌∙◌, AllocError, option_map, IfOk-weaker, IfErr-weaker, Request, Limits, phase_of, Ending, TransactionRun, Fixed, Preparing, Deciding, Finishing}
use Rattle.txn_core.proofs.Vocabulary.{request_in, request_of, by_asking}
use Rattle.txn_core.proofs.Passing.{phase_at, proposing_first, proposing_none}
use Rattle.txn_core.proofs.transaction_run.TransactionRun.ask.Goals as goal

pub returns-in-Finishing-clause-ok : goal.returns-in-Finishing-clause-ok
returns-in-Finishing-clause-ok c =
    let now = c.args.self.now in
    let is : now.phase ≡ Finishing (c.in-Finishing.server ∷ c.in-Finishing.left) c.in-Finishing.verdict c.in-Finishing.ending = ap (λ (txn_run : TransactionRun). txn_run.phase) (sym c.self.view_is) ∙ ap phase_of c.in-Finishing.is in
    let put : Option ℕ → Option (ℕ × Request) = λ server. option_map (λ server. (server, c.ask_finish.new.request)) server in
    let Said : Option ℕ → Type 0 = λ server. (left : List ℕ) (ending : Ending) (fixed : Fixed) → put server ≡ request_in fixed now.task now.suites (Finishing (c.in-Finishing.server ∷ left) c.in-Finishing.verdict ending) in
    let Asked : Option ℕ → Type 0 = λ server. (limits : Limits) → put server ≡ request_of (record { service = c.args.fixed_parts.now; limits = limits }) now in
    IfOk-weaker c.ask_finish.result Said Asked
    (λ server same limits. same c.in-Finishing.left c.in-Finishing.ending (record { service = c.args.fixed_parts.now; limits = limits }) ∙ ap
    (request_in (record { service = c.args.fixed_parts.now; limits = limits }) now.task now.suites) (sym is)) c.ask_finish.ensures.ok

pub returns-in-Finishing-clause-memory : goal.returns-in-Finishing-clause-memory
returns-in-Finishing-clause-memory c =
    let now = c.args.self.now in
    let is : now.phase ≡ Finishing (c.in-Finishing.server ∷ c.in-Finishing.left) c.in-Finishing.verdict c.in-Finishing.ending = ap (λ (txn_run : TransactionRun). txn_run.phase) (sym c.self.view_is) ∙ ap phase_of c.in-Finishing.is in
    let Said : AllocError → Type 0 = λ _. (left : List ℕ) (ending : Ending) (fixed : Fixed) → by_asking (request_in fixed now.task now.suites (Finishing (c.in-Finishing.server ∷ left) c.in-Finishing.verdict ending)) ≡ true in
    let Asked : AllocError → Type 0 = λ _. (limits : Limits) → by_asking (request_of (record { service = c.args.fixed_parts.now; limits = limits }) now) ≡ true in
    IfErr-weaker c.ask_finish.result Said Asked
    (λ refused wants limits. ap (λ phase. by_asking (request_in (record { service = c.args.fixed_parts.now; limits = limits }) now.task now.suites phase)) is
    ∙ wants c.in-Finishing.left c.in-Finishing.ending (record { service = c.args.fixed_parts.now; limits = limits })) c.ask_finish.ensures.memory

pub returns-in-Some-clause-ok : goal.returns-in-Some-clause-ok
returns-in-Some-clause-ok c =
    let now = c.args.self.now in
    let at = c.in-Proposing in
    let server = c.in-Some.server in
    let is : now.phase ≡ Preparing (server ∷ drop 1 at.servers) at.outcome =
    phase_at now _ _ c.self.view_is (ap phase_of at.is) ∙ proposing_first at.servers at.outcome server (sym c.first.ensures ∙ c.in-Some.is) in
    let put : Option ℕ → Option (ℕ × Request) = λ server. option_map (λ server. (server, c.ask_prepare.new.request)) server in
    let Said : Option ℕ → Type 0 = λ asked. (left : List ℕ) (fixed : Fixed) → put asked ≡ request_in fixed now.task now.suites (Preparing (server ∷ left) at.outcome) in
    let Asked : Option ℕ → Type 0 = λ server. (limits : Limits) → put server ≡ request_of (record { service = c.args.fixed_parts.now; limits = limits }) now in
    let fixed : Limits → Fixed = λ limits. record { service = c.args.fixed_parts.now; limits = limits } in
    IfOk-weaker c.ask_prepare.result Said Asked
    (λ asked same limits. same (drop 1 at.servers) (fixed limits) ∙ ap (request_in (fixed limits) now.task now.suites) (sym is)) c.ask_prepare.ensures.ok

pub returns-in-Some-clause-memory : goal.returns-in-Some-clause-memory
returns-in-Some-clause-memory c =
    let now = c.args.self.now in
    let at = c.in-Proposing in
    let server = c.in-Some.server in
    let is : now.phase ≡ Preparing (server ∷ drop 1 at.servers) at.outcome =
    phase_at now _ _ c.self.view_is (ap phase_of at.is) ∙ proposing_first at.servers at.outcome server (sym c.first.ensures ∙ c.in-Some.is) in
    let Said : AllocError → Type 0 = λ _. (left : List ℕ) (fixed : Fixed) → by_asking (request_in fixed now.task now.suites (Preparing (server ∷ left) at.outcome)) ≡ true in
    let Asked : AllocError → Type 0 = λ _. (limits : Limits) → by_asking (request_of (record { service = c.args.fixed_parts.now; limits = limits }) now) ≡ true in
    let fixed : Limits → Fixed = λ limits. record { service = c.args.fixed_parts.now; limits = limits } in
    IfErr-weaker c.ask_prepare.result Said Asked
    (λ refused wants limits. ap (λ phase. by_asking (request_in (fixed limits) now.task now.suites phase)) is ∙ wants (drop 1 at.servers) (fixed limits)) c.ask_prepare.ensures.memory

pub returns-in-None-clause-ok : goal.returns-in-None-clause-ok
returns-in-None-clause-ok c =
    let now = c.args.self.now in
    let at = c.in-Proposing in
    let is : now.phase ≡ Deciding at.outcome = phase_at now _ _ c.self.view_is (ap phase_of at.is) ∙ proposing_none at.servers at.outcome (sym c.first.ensures ∙ c.in-None.is) in
    let put : Option ℕ → Option (ℕ × Request) = λ server. option_map (λ server. (server, c.ask_decide.new.request)) server in
    let fixed : Limits → Fixed = λ limits. record { service = c.args.fixed_parts.now; limits = limits } in
    let Said : Option ℕ → Type 0 = λ server. (limits : Limits) → put server ≡ request_in (fixed limits) now.task now.suites (Deciding at.outcome) in
    let Asked : Option ℕ → Type 0 = λ server. (limits : Limits) → put server ≡ request_of (fixed limits) now in
    IfOk-weaker c.ask_decide.result Said Asked
    (λ server same limits. same limits ∙ ap (request_in (fixed limits) now.task now.suites) (sym is)) c.ask_decide.ensures.ok

pub returns-in-None-clause-memory : goal.returns-in-None-clause-memory
returns-in-None-clause-memory c =
    let now = c.args.self.now in
    let at = c.in-Proposing in
    let is : now.phase ≡ Deciding at.outcome = phase_at now _ _ c.self.view_is (ap phase_of at.is) ∙ proposing_none at.servers at.outcome (sym c.first.ensures ∙ c.in-None.is) in
    let fixed : Limits → Fixed = λ limits. record { service = c.args.fixed_parts.now; limits = limits } in
    let Said : AllocError → Type 0 = λ _. (limits : Limits) → by_asking (request_in (fixed limits) now.task now.suites (Deciding at.outcome)) ≡ true in
    let Asked : AllocError → Type 0 = λ _. (limits : Limits) → by_asking (request_of (fixed limits) now) ≡ true in
    IfErr-weaker c.ask_decide.result Said Asked
    (λ refused wants limits. ap (λ phase. by_asking (request_in (fixed limits) now.task now.suites phase)) is ∙ wants limits) c.ask_decide.ensures.memory
