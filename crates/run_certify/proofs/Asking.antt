-- A step of an agent is played, of which it put down what it was told.
use Rattle.run_certify.proofs.Vocabulary.{◌≡◌, ℕ, true, List, [], ◌∷◌, ◌++◌, slice_set, subst, refl, ap, ◌∙◌, sym, Option, Some, None, cons_option, same_Some, Fixed, fixed_of, asked_by, Done, EndedJob, Served, Step, decided, arith, has_sense}
use Rattle.run_certify.proofs.Vocabulary.{Stepped, World, actor_at, step, AgentEntry, Asked, decision_by, job_at, ItemAt, asked, ended, entries_by, item_by, served_as, EndsOtherwise, HasEnded, AskedFails, AskedGoes, Fails, IsEnd, IsEvent, IsSound}
use Rattle.run_certify.proofs.Vocabulary.{IsUse, Walked}
use Rattle.run_certify.proofs.Deciding.{decided_is}
use Rattle.run_certify.proofs.Events.{end_after, ended_by, otherwise_by}
use Rattle.run_certify.proofs.Facts.{served_sense, unserved}
use Rattle.run_certify.proofs.Lists.{same_head, same_tail}
use Rattle.run_certify.proofs.Playing.{after_use, ends, otherwise}
use Rattle.run_certify.proofs.Walking.{IsAfter, asked_fails, asked_goes}

-- what was told of a step in which an item was served, and what was put down after it
pub record IsAnswered (fixed : Fixed) (world : World) (agent server stamp : ℕ) (one : ItemAt) (ys : List AgentEntry) : Type 0 where
  pub at : server ≡ one.server
  pub told : stamp ≡ one.item.stamp
  pub served : served_as (Some agent) (step fixed world (Step agent)).done.served ≡ Some one
  pub rest : List AgentEntry
  pub past : ys ≡ ended (step fixed world (Step agent)).done.outcome ++ rest

abbrev server_in : AgentEntry → ℕ
server_in (Asked server stamp) = server
server_in other = 0

abbrev stamp_in : AgentEntry → ℕ
stamp_in (Asked server stamp) = stamp
stamp_in other = 0

module _ (fixed : Fixed) (world : World) (agent : ℕ) where
  abbrev done : Done
  done = (step fixed world (Step agent)).done

  answered_by : (server stamp : ℕ) (one : ItemAt) (ys rest : List AgentEntry) (what : Served) → done.served ≡ Some what → Asked server stamp ∷ ys ≡ entries_by fixed world (Step agent) done ++ rest
      → ((it : ItemAt) → served_as (Some agent) done.served ≡ Some it → one ≡ it) → IsAnswered fixed world agent server stamp one ys
  answered_by server stamp one ys rest what is told same =
      let first : Asked server stamp ∷ ys ≡ Asked what.server what.reply.stamp ∷ (ended done.outcome ++ rest) = told ∙ ap (λ o. (asked (asked_by fixed (actor_at world agent)) o ++ ended done.outcome) ++ rest) is in
      let heads = same_head (Asked server stamp) (Asked what.server what.reply.stamp) ys (ended done.outcome ++ rest) first in
      let shown : served_as (Some agent) done.served ≡ Some (item_by (Some agent) what) = ap (λ o. served_as (Some agent) o) is in
      let one_is : one ≡ item_by (Some agent) what = same (item_by (Some agent) what) shown in
      record {
        at = ap server_in heads ∙ sym (ap (λ (it : ItemAt). it.server) one_is);
        told = ap stamp_in heads ∙ sym (ap (λ (it : ItemAt). it.item.stamp) one_is);
        served = shown ∙ ap (λ it. Some it) (sym one_is);
        rest = rest;
        past = same_tail (Asked server stamp) (Asked what.server what.reply.stamp) ys (ended done.outcome ++ rest) first;
      }

  answered : (server stamp : ℕ) (one : ItemAt) (ys rest : List AgentEntry) → has_sense fixed world (Step agent) ≡ true → Asked server stamp ∷ ys ≡ entries_by fixed world (Step agent) done ++ rest
      → ((it : ItemAt) → served_as (Some agent) done.served ≡ Some it → one ≡ it) → IsAnswered fixed world agent server stamp one ys
  answered server stamp one ys rest sense told same = by_served done.served refl
    where
      by_served : (served : Option Served) → done.served ≡ served → IsAnswered fixed world agent server stamp one ys
      by_served (Some what) is = answered_by server stamp one ys rest what is told same
      by_served None is = absurd (unserved fixed world agent is server stamp rest ys sense (sym told))

-- it was not so
asked_unlike : (was old : Walked) (agent server stamp : ℕ) (one : ItemAt) → one.item.agent ≡ Some agent → (it : IsUse was agent (Asked server stamp) old)
    → (IsAnswered (fixed_of old.given) old.world agent server stamp one it.used.rest → ⊥) → Fails was (one ∷ [])
asked_unlike was old agent server stamp one of it not =
    asked_fails was one agent server stamp it.used.rest of it.used.first (λ sense rest told same.
    not (subst (λ (w : Walked). IsAnswered (fixed_of w.given) w.world agent server stamp one it.used.rest) (sym it.kept)
    (answered (fixed_of was.given) was.world agent server stamp one it.used.rest rest sense (sym it.used.first ∙ told) same)))

-- the job ended otherwise
pub ended_otherwise : (old mid noted : Walked) (agent server stamp : ℕ) (one : ItemAt) (done : Done) → one.item.agent ≡ Some agent → IsEvent old (Step agent) done mid
    → noted.unused ≡ mid.unused → EndsOtherwise noted.unused agent done.outcome
    → AskedFails agent server stamp one old
ended_otherwise old mid noted agent server stamp one done of played same not was it =
    asked_unlike was old agent server stamp one of it (λ so.
    otherwise was.unused old.unused agent it.used.rest so.rest (step (fixed_of old.given) old.world (Step agent)).done.outcome it.used.there it.used.set
    (otherwise_by old mid (Step agent) done played noted agent same not) so.past)

-- ---- the item was served

some_what : (who : Option ℕ) (served : Option Served) (one : ItemAt) → served_as who served ≡ Some one → (what : Served) × (served ≡ Some what)
some_what who served one h3 = search arith

-- what was decided in it
decided_so : (was old mid : Walked) (agent : ℕ) (entry : AgentEntry) (done : Done) → IsUse was agent entry old → IsEvent old (Step agent) done mid
    → step (fixed_of was.given) was.world (Step agent) ≡ record { world = mid.world; done = done } → IsSound was
    → decided (fixed_of was.given) was.world (Step agent) ≡ decision_by (job_at mid.begun.jobs agent) done.served
decided_so was old mid agent entry done it played stepped sound = search (decided_is, arith)

pub asked_served : (old mid noted now : Walked) (agent server stamp : ℕ) (one : ItemAt) (done : Done) → one.item.agent ≡ Some agent → server ≡ one.server → stamp ≡ one.item.stamp → IsEvent old (Step agent) done mid
    → served_as one.item.agent done.served ≡ Some one → noted ≡ record mid { made = mid.made ++ cons_option (decision_by (job_at mid.begun.jobs agent) done.served) [] }
    → IsEnd noted agent done.outcome now → AskedGoes agent server stamp one old now
asked_served old mid noted now agent server stamp one done of at told played served decides end was it =
    let fixed : Fixed = fixed_of was.given in
    let same : noted.unused ≡ mid.unused = ap (λ (w : Walked). w.unused) decides in
    let stepped : step fixed was.world (Step agent) ≡ record { world = mid.world; done = done } = sym (ap (λ (w : Walked). step (fixed_of w.given) w.world (Step agent)) it.kept) ∙ played.is in
    let outcome : Option EndedJob = (step fixed was.world (Step agent)).done.outcome in
    let shown : served_as (Some agent) (step fixed was.world (Step agent)).done.served ≡ Some one =
    ap (λ (s : Stepped). served_as (Some agent) s.done.served) stepped ∙ ap (λ who. served_as who done.served) (sym of) ∙ served in
    let what = some_what (Some agent) (step fixed was.world (Step agent)).done.served one shown in
    let one_is : item_by (Some agent) what.0 ≡ one = same_Some (item_by (Some agent) what.0) one (sym (ap (λ o. served_as (Some agent) o) what.1) ∙ shown) in
    let puts : asked (asked_by fixed (actor_at was.world agent)) (step fixed was.world (Step agent)).done.served ≡ Asked server stamp ∷ [] =
    ap (λ o. asked (asked_by fixed (actor_at was.world agent)) o) what.1 ∙ ap (λ (it : ItemAt). Asked it.server it.item.stamp ∷ []) one_is
    ∙ ap (λ n. Asked n one.item.stamp ∷ []) (sym at) ∙ ap (λ n. Asked server n ∷ []) (sym told) in
    let ended_is : HasEnded old.unused agent outcome now.unused =
    subst (λ (w : Walked). HasEnded old.unused agent (step (fixed_of w.given) w.world (Step agent)).done.outcome now.unused) it.kept (ended_by old mid (Step agent) done played noted now agent same end.ended) in
    let used = ends was.unused old.unused now.unused agent it.used.rest outcome it.used.there it.used.set ended_is in
    asked_goes was now one agent server stamp it.used.rest used.rest of it.used.there it.used.first (served_sense fixed was.world agent what.0 what.1) shown
    (it.used.first ∙ ap (λ es. Asked server stamp ∷ es) used.parts ∙ sym (ap (λ es. (es ++ ended outcome) ++ used.rest) puts))
    used.past
    (λ sound.
    subst (λ d. IsAfter was (Step agent) (slice_set was.unused agent used.rest) (cons_option d []) now) (sym (decided_so was old mid agent (Asked server stamp) done it played stepped sound))
    (after_use was old now agent (Asked server stamp) (Step agent) (slice_set was.unused agent used.rest) (cons_option (decision_by (job_at mid.begun.jobs agent) done.served) []) it
    (subst (λ us. IsAfter old (Step agent) us (cons_option (decision_by (job_at mid.begun.jobs agent) done.served) []) now) used.set
    (end_after old mid (Step agent) done played noted now (cons_option (decision_by (job_at mid.begun.jobs agent) done.served) []) agent done.outcome refl refl decides end))))
