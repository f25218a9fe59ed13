-- A request that an agent's transaction makes of a server: what it decides, and what it says.
use Rattle.law_runs.proofs.Vocabulary.{◌≡◌, ◌⊎◌, inl, inr, ℕ, Bool, false, cond, List, [], ◌∷◌, ◌++◌, Option, Some, None, refl, sym, ap, subst, is_some, option_to_list, Ok, Err, Refusal, denials, arith, Request, Reply, Verdict, Stamped, State}
use Rattle.law_runs.proofs.Vocabulary.{record_of, reply_of, after_record, recorded, verdict_of, audit_of, denial_of, with_item, is_full, served, record_here, record_apart, record_step, recording, Replied, Fixed, Task, Phase, Deciding, Proposal}
use Rattle.law_runs.proofs.Vocabulary.{home_of, decision_of, is_decide, said_by, Agent, Decided, to_decide, answer_in, decided_as, decided_at}
use Rattle.file_ops.specs.declared.audit.AuditItem.{AuditItem}
use Rattle.rep_core.specs.Service.{after}
use Rattle.rep_core.specs.Serving.{step}
use Rattle.run_core.specs.Decisions.{answer_of}
use Rattle.rep_core.specs.declared.request.Request.TheVariants as request
use Rattle.rep_core.specs.declared.reply.Reply.TheVariants as reply
use Rattle.rep_core.specs.declared.reply.Verdict.TheVariants as verdict
use Rattle.law_runs.proofs.Standing.{Stands, Recorded, none_in, stands_more, stands_last, stands_if}
use Rattle.law_runs.proofs.Records as records
use Rattle.law_runs.proofs.Records.{Records, Aborted}
use Rattle.law_runs.proofs.Servers.{Quiet, Deciding as DecidingAt, append_none}
use Rattle.law_runs.proofs.Words.{Tells}
use Rattle.law_runs.proofs.Agents.{IsOf, AreOf, none_of}

-- What comes of a request that a transaction makes of a server: at most the transaction is decided, and what is said of it stands.
pub record Turn (fixed : Fixed) (agent : Agent) (i : ℕ) (task : Task) (phase : Phase) (ds : List Decided) (s : ℕ) (st new : State) (asked : Request) (said : Reply) (d : Option Decided) : Type 0 where
  pub served : Quiet st new (option_to_list d) ⊎ DecidingAt fixed s st new (option_to_list d)
  pub of : AreOf agent i (option_to_list d)
  pub says : (v : Verdict) → Tells v phase → Stands ds task.t v → Stands (ds ++ option_to_list d) task.t (cond (is_decide asked) (said_by (Replied said) v) v)

-- what it decides
abbrev pub decides_at : State → Task → Request → Reply → Option Decided
decides_at st task asked said = decided_at (Some st) (to_decide asked) (decided_as (Some task) (answer_in said))

-- ---- any request but a Decide

pub no_decide : (asked : Request) → is_decide asked ≡ false → to_decide asked ≡ None
no_decide asked h1 = search arith

quiet_records : (st new : State) (asked : Request) → is_decide asked ≡ false → Records st asked new → Quiet st new []
quiet_records st new asked h3 h4 = search arith

pub step_is : (st : State) (asked : Stamped Request) → is_full st asked ≡ false → step st asked ≡ served st asked
step_is st asked room = ap (λ b. cond b st (served st asked)) room

pub quiet_served : (st : State) (asked : Stamped Request) → is_full st asked ≡ false → is_decide asked.value ≡ false → Quiet st (served st asked) []
quiet_served st asked room other = quiet_records st (served st asked) asked.value other (subst (Records st asked.value) (step_is st asked room) (records.records st asked))

pub stays_served : (st : State) (asked : Stamped Request) → is_full st asked ≡ false → (t : ℕ) (v : Verdict) → record_of st t ≡ Some v → record_of (served st asked) t ≡ Some v
stays_served st asked room t v has = subst (λ new. record_of new t ≡ Some v) (step_is st asked room) (record_step st asked t v has)

pub other_turn : (fixed : Fixed) (agent : Agent) (i : ℕ) (task : Task) (phase : Phase) (ds : List Decided) (s : ℕ) (st : State) (asked : Stamped Request) (said : Reply)
    → is_full st asked ≡ false → is_decide asked.value ≡ false → Turn fixed agent i task phase ds s st (served st asked) asked.value said (decides_at st task asked.value said)
other_turn fixed agent i task phase ds s st asked said room other = search (no_decide, quiet_served, none_of, stands_more, none_in, arith)

-- ---- a Decide

-- the state as it is, but for its stamp
abbrev stamped : ℕ → State → State
stamped stamp st = record st { stamp = stamp }

item_is : (t : ℕ) (task : Task) (refusal : Refusal) (audit : List AuditItem) → with_item (denial_of t task.caller.uid refusal.op refusal.why) audit ≡ audit ++ denials t task.caller refusal
item_is t task refusal audit = search (append_none, arith)

module _ (fixed : Fixed) (agent : Agent) (i : ℕ) (task : Task) (ds : List Decided) (s : ℕ) (st : State) (stamp : ℕ) (home : home_of fixed.service task.t ≡ s)
    (is : (d : Decided) → d.t ≡ task.t → IsOf agent i d) (recorded_so : (v : Verdict) → record_of st task.t ≡ Some v → Recorded ds task.t v) where
  abbrev asked_by : Proposal → Request
  asked_by outcome = request.Decide task.t (decision_of task outcome)

  of_last : (d : Decided) → d.t ≡ task.t → AreOf agent i (d ∷ [])
  of_last d same e has = elim has [ inl last ↦ subst (IsOf agent i) last (is d same) | inr rest ↦ absurd rest ]

  -- the home has a record already, or is down: nothing is decided
  nothing_new : (outcome : Proposal) (said : Reply) → ((v : Verdict) → v ≡ verdict.Aborted → Stands ds task.t v → Stands ds task.t (said_by (Replied said) v))
      → Turn fixed agent i task (Deciding outcome) ds s st (stamped stamp st) (asked_by outcome) said None
  nothing_new outcome said says = search (none_of, stands_more, none_in, arith)

  -- it has none: what is carried is recorded
  first : (outcome : Proposal) → record_of st task.t ≡ None
      → Turn fixed agent i task (Deciding outcome) ds s st
      (stamped stamp (recording task.t (verdict_of (decision_of task outcome)) (audit_of task.t (decision_of task outcome)) st)) (asked_by outcome)
      (reply.Verdict (verdict_of (decision_of task outcome))) (decided_as (Some task) (answer_of (verdict_of (decision_of task outcome))))
  first (Ok granted) free =
      let d : Decided = record { t = task.t; caller = task.caller; ops = task.ops; answer = Ok granted.answers } in
      record {
        served = inr (record {
          decision = d;
          one = refl;
          home = home;
          free = free;
          here = record_here st task.t (verdict.Answered granted.answers) None;
          apart = λ t other. record_apart st task.t t (verdict.Answered granted.answers) None other;
          audit = sym (append_none st.audit);
        });
        of = of_last d refl;
        says = λ v tells stands. stands_last ds d (Ok granted.answers) refl;
      }
  first (Err refusal) free =
      let d : Decided = record { t = task.t; caller = task.caller; ops = task.ops; answer = Err refusal } in
      record {
        served = inr (record {
          decision = d;
          one = refl;
          home = home;
          free = free;
          here = record_here st task.t (verdict.Refused refusal) (denial_of task.t task.caller.uid refusal.op refusal.why);
          apart = λ t other. record_apart st task.t t (verdict.Refused refusal) (denial_of task.t task.caller.uid refusal.op refusal.why) other;
          audit = item_is task.t task refusal st.audit;
        });
        of = of_last d refl;
        says = λ v tells stands. stands_last ds d (Err refusal) refl;
      }

  by_record : (outcome : Proposal) (old : Option Verdict) → record_of st task.t ≡ old
      → Turn fixed agent i task (Deciding outcome) ds s st
      (stamped stamp (after_record old task.t (verdict_of (decision_of task outcome)) (audit_of task.t (decision_of task outcome)) st)) (asked_by outcome)
      (reply.Verdict (recorded old (verdict_of (decision_of task outcome))))
      (decides_at st task (asked_by outcome) (reply.Verdict (recorded old (verdict_of (decision_of task outcome)))))
  by_record outcome (Some old) has =
      subst (Turn fixed agent i task (Deciding outcome) ds s st (stamped stamp st) (asked_by outcome) (reply.Verdict old))
      (ap (λ r. cond (is_some r) None (decided_as (Some task) (answer_of old))) (sym has))
      (nothing_new outcome (reply.Verdict old) (λ v aborted stands. stands_if ds task.t old (recorded_so old has) (subst (Stands ds task.t) aborted stands)))
  by_record outcome None free = search (recording, first, arith)

  down : (outcome : Proposal) → Turn fixed agent i task (Deciding outcome) ds s st (stamped stamp st) (asked_by outcome) reply.Down (decides_at st task (asked_by outcome) reply.Down)
  down outcome =
      subst (Turn fixed agent i task (Deciding outcome) ds s st (stamped stamp st) (asked_by outcome) reply.Down)
      (same (is_some (record_of st task.t)))
      (nothing_new outcome reply.Down (λ v aborted stands. stands))
    where
      same : (b : Bool) → None ≡ cond b None (decided_as (Some task) None)
      same b = search arith

  pub decide_turn : (outcome : Proposal) → Turn fixed agent i task (Deciding outcome) ds s st (stamped stamp (after st (asked_by outcome))) (asked_by outcome)
      (reply_of st (asked_by outcome)) (decides_at st task (asked_by outcome) (reply_of st (asked_by outcome)))
  decide_turn outcome = search (down outcome, by_record, arith)
