-- An entry that was used is played.
use Rattle.run_certify.proofs.Vocabulary.{◌≡◌, ◌≢◌, ◌⊎◌, ⊎_elim, inl, ℕ, zero, suc, ◌<◌, ◌≤◌, Bool, true, false, List, [], ◌∷◌, ◌++◌, length, slice_set, subst, refl, ap, ◌∙◌, sym, arith, append_assoc, ◌&&◌, nat_lt, slice_index_or, Option, Some, None}
use Rattle.run_certify.proofs.Vocabulary.{Opening, Job, fixed_of, max_jobs, asked_at, asked_by, Done, EndedJob, Event, Begin, Lack, Forget, Decided, has_sense, actor_at, has_no_job, step, AgentEntry, Begun, Ended, Forgot, Lacked, count_at, ended}
use Rattle.run_certify.proofs.Vocabulary.{lacked, served_as, EndsOtherwise, HasEnded, EntryFails, EntryGoes, IsBegin, IsEnd, IsEvent, IsShorter, IsSound, IsUse, Walked}
use Rattle.std.proofs.lemmas.List.{append-nil}
use Rattle.rep_core.specs.declared.stamped.Lack.{Lack as Why}
use Rattle.txn_core.specs.Agents as agents
use Rattle.run_certify.proofs.Counted.{begin_sense_is}
use Rattle.run_certify.proofs.Deciding.{decides_nothing}
use Rattle.run_certify.proofs.Events.{begin_after, end_after, ended_by, event_after, otherwise_by}
use Rattle.run_certify.proofs.Facts.{begin_quiet, forget_far, forget_none, forget_quiet, forget_sense, lack_other, lack_puts, lack_sense, lack_serves_none}
use Rattle.run_certify.proofs.Lengths.{counts}
use Rattle.run_certify.proofs.Lists.{long_set, same_tail, set_again, set_here}
use Rattle.run_certify.proofs.Walking.{IsAfter, entry_goes, entry_senseless, entry_so}

-- ---- where an entry was used

pub use_sound : (was old : Walked) (agent : ℕ) (entry : AgentEntry) → IsUse was agent entry old → IsSound was → IsSound old
use_sound was old agent entry it sound = search (long_set, arith)

use_sense : (was old : Walked) (agent : ℕ) (entry : AgentEntry) (event : Event) (b : Bool) → IsUse was agent entry old
    → (IsSound old → has_sense (fixed_of old.given) old.world event ≡ b) → IsSound was → has_sense (fixed_of was.given) was.world event ≡ b
use_sense was old agent entry event b it so sound = sym (ap (λ (w : Walked). has_sense (fixed_of w.given) w.world event) it.kept) ∙ so (use_sound was old agent entry it sound)

pub after_use : (was old now : Walked) (agent : ℕ) (entry : AgentEntry) (event : Event) (left : List (List AgentEntry)) (ds : List Decided) → IsUse was agent entry old → IsAfter old event left ds now → IsAfter was event left ds now
after_use was old now agent entry event left ds it after = search arith

-- ---- whether an agent may begin a job

pub may_begin_is : (walked : Walked) (agent : ℕ) (job : Job) → IsSound walked
    → (has_no_job (actor_at walked.world agent) && nat_lt agent walked.settings.agents && agents.has_sense (fixed_of walked.settings) job && nat_lt
    (count_at walked.begun.counts agent) max_jobs) ≡ has_sense (fixed_of walked.given) walked.world (Begin agent job)
may_begin_is walked agent job sound =
    let idle = has_no_job (actor_at walked.world agent) in
    let few = nat_lt (count_at walked.begun.counts agent) max_jobs in
    let many : walked.settings.agents ≡ length walked.world.agents = ap (λ (given : Opening). given.agents) sound.same ∙ sym (counts walked.given walked.world walked.begun.jobs sound.played).1 in
    ap (λ n. idle && nat_lt agent n && agents.has_sense (fixed_of walked.settings) job && few) many
    ∙ ap (λ given. idle && nat_lt agent (length walked.world.agents) && agents.has_sense (fixed_of given) job && few) sound.same
    ∙ sym (begin_sense_is (fixed_of walked.given) walked.world walked.begun.counts sound.counted agent job)

-- ---- begins and forgets

pub begin_goes : (old now : Walked) (agent : ℕ) (job : Job) → (IsSound old → has_sense (fixed_of old.given) old.world (Begin agent job) ≡ true) → IsAfter old (Begin agent job) old.unused [] now → EntryGoes agent (Begun job) old now
begin_goes old now agent job sense after was taken it turn =
    let fixed = fixed_of was.given in
    entry_goes was old now agent (Begun job) (Begin agent job) it.used.rest it.used.rest taken it turn it.used.first (inl refl)
    (record {
      other = refl;
      spells = refl;
      of = refl;
      has = use_sense was old agent (Begun job) (Begin agent job) true it sense;
      quiet = ap (λ (done : Done). served_as None done.served) (begin_quiet fixed was.world agent job);
      silent = decides_nothing fixed was.world (Begin agent job) refl;
      told = it.used.first;
    })
    (after_use was old now agent (Begun job) (Begin agent job) (slice_set was.unused agent it.used.rest) [] it (subst (λ us. IsAfter old (Begin agent job) us [] now) it.used.set after))

pub begin_fails : (old : Walked) (agent : ℕ) (job : Job) → (IsSound old → has_sense (fixed_of old.given) old.world (Begin agent job) ≡ false) → EntryFails agent (Begun job) old
begin_fails old agent job none was taken it turn = entry_senseless was old agent (Begun job) (Begin agent job) taken it turn refl refl (use_sense was old agent (Begun job) (Begin agent job) false it none)

pub forget_goes : (old now : Walked) (agent site : ℕ) → agent < old.settings.agents → site < 16 → IsAfter old (Forget agent site) old.unused [] now → EntryGoes agent (Forgot site) old now
forget_goes old now agent site low small after was taken it turn =
    let fixed = fixed_of was.given in
    entry_goes was old now agent (Forgot site) (Forget agent site) it.used.rest it.used.rest taken it turn it.used.first (inl refl)
    (record {
      other = refl;
      spells = refl;
      of = refl;
      has = use_sense was old agent (Forgot site) (Forget agent site) true it (λ sound.
          let many : old.settings.agents ≡ length old.world.agents = ap (λ (given : Opening). given.agents) sound.same ∙ sym (counts old.given old.world old.begun.jobs sound.played).1 in
          forget_sense (fixed_of old.given) old.world agent site (subst (λ n. agent < n) many low) small);
      quiet = ap (λ (done : Done). served_as None done.served) (forget_quiet fixed was.world agent site);
      silent = decides_nothing fixed was.world (Forget agent site) refl;
      told = it.used.first;
    })
    (after_use was old now agent (Forgot site) (Forget agent site) (slice_set was.unused agent it.used.rest) [] it (subst (λ us. IsAfter old (Forget agent site) us [] now) it.used.set after))

pub forget_fails : (old : Walked) (agent site : ℕ) → (old.settings.agents ≤ agent) ⊎ (16 ≤ site) → EntryFails agent (Forgot site) old
forget_fails old agent site why was taken it turn =
    entry_senseless was old agent (Forgot site) (Forget agent site) taken it turn refl refl
    (use_sense was old agent (Forgot site) (Forget agent site) false it (λ sound. ⊎_elim
    (λ (past : old.settings.agents ≤ agent).
    let many : old.settings.agents ≡ length old.world.agents = ap (λ (given : Opening). given.agents) sound.same ∙ sym (counts old.given old.world old.begun.jobs sound.played).1 in
    forget_none (fixed_of old.given) old.world agent site (subst (λ n. n ≤ agent) many past))
    (λ (far : 16 ≤ site). forget_far (fixed_of old.given) old.world agent site far)
    why))

-- ---- what is not served

-- what was put down next, and what is left once the end of the job was used, if it ended
pub record Ends (was : List (List AgentEntry)) (agent : ℕ) (ys : List AgentEntry) (outcome : Option EndedJob) (now : List (List AgentEntry)) : Type 0 where
  pub rest : List AgentEntry
  pub past : (ys ≡ rest) ⊎ ((one : EndedJob) × (ys ≡ Ended one ∷ rest))
  pub parts : ys ≡ ended outcome ++ rest
  pub set : now ≡ slice_set was agent rest

pub ends : (was old now : List (List AgentEntry)) (agent : ℕ) (ys : List AgentEntry) (outcome : Option EndedJob) → agent < length was → old ≡ slice_set was agent ys → HasEnded old agent outcome now → Ends was agent ys outcome now
ends was old now agent ys outcome h6 h7 h8 = search (set_here, slice_set, set_again, arith)

pub lack_goes : (old now : Walked) (agent server : ℕ) (why : Why) → asked_at (fixed_of old.given) old.world agent ≡ Some server
    → HasEnded old.unused agent (step (fixed_of old.given) old.world (Lack agent why)).done.outcome now.unused → IsAfter old (Lack agent why) now.unused [] now → EntryGoes agent (Lacked server why) old now
lack_goes old now agent server why asks so after was taken it turn =
    let fixed = fixed_of was.given in
    let event = Lack agent why in
    let asks' : asked_at fixed was.world agent ≡ Some server = sym (ap (λ (w : Walked). asked_at (fixed_of w.given) w.world agent) it.kept) ∙ asks in
    let so' : HasEnded old.unused agent (step fixed was.world event).done.outcome now.unused =
    subst (λ (w : Walked). HasEnded old.unused agent (step (fixed_of w.given) w.world event).done.outcome now.unused) it.kept so in
    let end = ends was.unused old.unused now.unused agent it.used.rest (step fixed was.world event).done.outcome it.used.there it.used.set so' in
    entry_goes was old now agent (Lacked server why) event it.used.rest end.rest taken it turn it.used.first end.past
    (record {
      other = refl;
      spells = refl;
      of = refl;
      has = λ sound. lack_sense fixed was.world agent server why asks';
      quiet = ap (λ what. served_as None what) (lack_serves_none fixed was.world agent why);
      silent = decides_nothing fixed was.world event refl;
      told = search (lack_puts, arith);
    })
    (after_use was old now agent (Lacked server why) event (slice_set was.unused agent end.rest) [] it (subst (λ us. IsAfter old event us [] now) end.set after))

pub lack_fails : (old : Walked) (agent server : ℕ) (why : Why) → asked_at (fixed_of old.given) old.world agent ≢ Some server → EntryFails agent (Lacked server why) old
lack_fails old agent server why other was taken it turn =
    let fixed = fixed_of was.given in
    let event = Lack agent why in
    let other' : asked_at fixed was.world agent ≢ Some server = λ asks. other (ap (λ (w : Walked). asked_at (fixed_of w.given) w.world agent) it.kept ∙ asks) in
    entry_so was old agent (Lacked server why) event taken it turn refl refl refl
    (λ rest sense told. lack_other fixed was.world agent server why why other' sense (ended (step fixed was.world event).done.outcome ++ rest) it.used.rest
    (sym (append_assoc (lacked why (asked_by fixed (actor_at was.world agent))) (ended (step fixed was.world event).done.outcome) rest) ∙ sym told ∙ it.used.first))

pub otherwise : (was old : List (List AgentEntry)) (agent : ℕ) (ys rest : List AgentEntry) (outcome : Option EndedJob) → agent < length was → old ≡ slice_set was agent ys → EndsOtherwise old agent outcome → ys ≡ ended outcome ++ rest → ⊥
otherwise was old agent ys rest outcome h6 h7 h8 h9 = search (set_here, arith)

pub lack_ends_otherwise : (old : Walked) (agent server : ℕ) (why : Why) → asked_at (fixed_of old.given) old.world agent ≡ Some server
    → EndsOtherwise old.unused agent (step (fixed_of old.given) old.world (Lack agent why)).done.outcome → EntryFails agent (Lacked server why) old
lack_ends_otherwise old agent server why asks not was taken it turn =
    let fixed = fixed_of was.given in
    let event = Lack agent why in
    let outcome = (step fixed was.world event).done.outcome in
    let asks' : asked_at fixed was.world agent ≡ Some server = sym (ap (λ (w : Walked). asked_at (fixed_of w.given) w.world agent) it.kept) ∙ asks in
    let not' : EndsOtherwise old.unused agent outcome = subst (λ (w : Walked). EndsOtherwise old.unused agent (step (fixed_of w.given) w.world event).done.outcome) it.kept not in
    entry_so was old agent (Lacked server why) event taken it turn refl refl refl
    (λ rest sense told. otherwise was.unused old.unused agent it.used.rest rest outcome it.used.there it.used.set not'
    (same_tail (Lacked server why) (Lacked server why) it.used.rest (ended outcome ++ rest)
    (sym it.used.first ∙ told ∙ ap (λ es. (es ++ ended outcome) ++ rest) (lack_puts fixed was.world agent server why asks'))))

-- ---- as the walk plays them

pub begun_goes : (old mid now : Walked) (agent : ℕ) (job : Job) (done : Done) → (IsSound old → has_sense (fixed_of old.given) old.world (Begin agent job) ≡ true) → IsEvent old (Begin agent job) done mid → IsBegin mid agent job now
    → EntryGoes agent (Begun job) old now
begun_goes old mid now agent job done sense played begun = begin_goes old now agent job sense (begin_after old mid now agent job done played begun)

pub forgot_goes : (old now : Walked) (agent site : ℕ) (done : Done) → agent < old.settings.agents → site < 16 → IsEvent old (Forget agent site) done now → EntryGoes agent (Forgot site) old now
forgot_goes old now agent site done low small played = forget_goes old now agent site low small (event_after old now (Forget agent site) done played refl refl)

pub lacked_goes : (old mid now : Walked) (agent server : ℕ) (why : Why) (done : Done) → asked_at (fixed_of old.given) old.world agent ≡ Some server → IsEvent old (Lack agent why) done mid → IsEnd mid agent done.outcome now
    → EntryGoes agent (Lacked server why) old now
lacked_goes old mid now agent server why done asks played end = search (lack_goes, ended_by, end_after, append-nil, arith)

pub lacked_otherwise : (old mid : Walked) (agent server : ℕ) (why : Why) (done : Done) → asked_at (fixed_of old.given) old.world agent ≡ Some server → IsEvent old (Lack agent why) done mid → EndsOtherwise mid.unused agent done.outcome
    → EntryFails agent (Lacked server why) old
lacked_otherwise old mid agent server why done asks played not = lack_ends_otherwise old agent server why asks (otherwise_by old mid (Lack agent why) done played mid agent refl not)

-- ---- entries are used, and no items

set_same : (xs : List (List AgentEntry)) (i : ℕ) → slice_set xs i (slice_index_or xs i []) ≡ xs
set_same [] i = refl
set_same (x ∷ xs) zero = refl
set_same (x ∷ xs) (suc i) = ap (λ ys. x ∷ ys) (set_same xs i)

pub no_longer : (old now : Walked) (agent : ℕ) → now.histories ≡ old.histories → now.unused ≡ old.unused → IsShorter old agent now
no_longer old now agent histories unused = search (set_same old.unused agent, arith)

pub ended_shorter : (old now : Walked) (agent : ℕ) (outcome : Option EndedJob) → now.histories ≡ old.histories → HasEnded old.unused agent outcome now.unused → IsShorter old agent now
ended_shorter old now agent outcome h4 h5 = search (no_longer, arith)

pub event_shorter : (old now : Walked) (agent : ℕ) (event : Event) (done : Done) → IsEvent old event done now → IsShorter old agent now
event_shorter old now agent event done played = no_longer old now agent (ap (λ (w : Walked). w.histories) played.kept) (ap (λ (w : Walked). w.unused) played.kept)

pub begun_shorter : (old mid now : Walked) (agent : ℕ) (event : Event) (job : Job) (done : Done) → IsEvent old event done mid → IsBegin mid agent job now → IsShorter old agent now
begun_shorter old mid now agent event job done played begun = search (no_longer, arith)

pub lacked_shorter : (old mid now : Walked) (agent : ℕ) (event : Event) (done : Done) → IsEvent old event done mid → IsEnd mid agent done.outcome now → IsShorter old agent now
lacked_shorter old mid now agent event done played end = search (ended_shorter, ended_by, arith)
