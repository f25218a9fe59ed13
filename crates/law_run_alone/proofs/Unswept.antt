-- Nobody resolves a transaction as long as no sweep goes: so its home does not answer Aborted where it is to be decided.
use Rattle.law_run_alone.proofs.Vocabulary.{◌≡◌, ⊎_elim, ℕ, Bool, true, false, Some, sym, ap, ◌∙◌, false≢true, same_Some, Decision, Request, Verdict, Stamped, State, record_of, reply_of, arith, verdict_of, audit_of, record_here, record_apart, Ways}
use Rattle.law_run_alone.proofs.Vocabulary.{recording, by_step, Fixed, Task, Phase, Suites, request_in, is_decide, names, same_or}
use Rattle.rep_core.specs.Serving.{step}
use Rattle.rep_core.specs.declared.request.Decision.TheVariants as decision
use Rattle.rep_core.specs.declared.request.Request.TheVariants as request
use Rattle.rep_core.specs.declared.reply.Reply.TheVariants as reply
use Rattle.rep_core.specs.declared.reply.Verdict.TheVariants as verdict

abbrev pub is_resolve : Request → Bool
is_resolve (request.Resolve t) = true
is_resolve other = false

-- a transaction resolves none
pub never_resolves : (fixed : Fixed) (task : Task) (suites : Suites) (phase : Phase) (server : ℕ) (asked : Request) → request_in fixed task suites phase ≡ Some (server, asked) → is_resolve asked ≡ false
never_resolves fixed task suites phase server asked h6 = search arith

-- a server has not recorded it Aborted
abbrev pub Unswept : ℕ → State → Type 0
Unswept t st = record_of st t ≡ Some verdict.Aborted → ⊥

-- what a decision records is not Aborted
decides : (decision : Decision) → verdict_of decision ≡ verdict.Aborted → ⊥
decides decision h1 = search arith

abbrev Stays : ℕ → Request → State → Type 0
Stays t asked new = is_resolve asked ≡ false → Unswept t new

ways : (t : ℕ) (st : State) → Unswept t st → Ways st (Stays t)
ways t st unswept = record {
  same = λ asked other. unswept;
  poll = λ named suite mode free other. unswept;
  upgrade = λ named suite has free other. unswept;
  prepare = λ named parts may room other. unswept;
  decide = λ named decision free other. recorded_so named decision;
  resolve = λ named free other. absurd (false≢true (sym other));
  finish = λ named verdict up other. unswept;
  break = λ named suite other. unswept;
  crash = λ other. unswept;
  return = λ other. unswept;
}
  where
    recorded_so : (named : ℕ) (decision : Decision) → Unswept t (recording named (verdict_of decision) (audit_of named decision) st)
    recorded_so named decision is =
        ⊎_elim
        (λ same. decides decision (same_Some (verdict_of decision) verdict.Aborted
        (sym (record_here st named (verdict_of decision) (audit_of named decision)) ∙ ap (record_of (recording named (verdict_of decision) (audit_of named decision) st))
        (sym same) ∙ is)))
        (λ apart. unswept (sym (record_apart st named t (verdict_of decision) (audit_of named decision) apart) ∙ is))
        (same_or t named)

pub stays_unswept : (t : ℕ) (st : State) (asked : Stamped Request) → is_resolve asked.value ≡ false → Unswept t st → Unswept t (step st asked)
stays_unswept t st asked other unswept = by_step st (Stays t) (ways t st unswept) (λ asked new stamp stays. stays) asked other

-- so a Decide of it is not answered Aborted
pub not_aborted : (t : ℕ) (st : State) (asked : Request) → Unswept t st → names t asked ≡ true → is_decide asked ≡ true → reply_of st asked ≡ reply.Verdict verdict.Aborted → ⊥
not_aborted t st asked h3 h4 h5 h6 = search arith
