-- What an agent may ask may come late.
use Rattle.law_server_moves.proofs.Vocabulary.{◌≡◌, ℕ, true, false, cond, List, [], ◌∷◌, Option, Some, None, refl, sym, ap, ◌∙◌, itself, Beginning, Verdict, World, Event, run, decided}
use Rattle.law_server_moves.proofs.Vocabulary.{ended_as}
use Rattle.rep_core.specs.declared.request.Request.TheVariants as request
use Rattle.rep_core.specs.Service as service
use Rattle.std.specs.List.{AllByRecursion}
use Rattle.law_suite_machine.specs.Registers.{Entry, Read}
use Rattle.law_suite_machine.specs.Events as events
use Rattle.law_suite_machine.specs.Machine as machine
use Rattle.law_suite_machine.specs.Laws.{Stays, after}
use Rattle.law_suite_machine.specs.Licences.{DecidesIt}
use Rattle.law_suite_machine.proofs.Places.{at2}
use Rattle.law_suite_machine.proofs.Conclusions.{what_was_stays}
use Rattle.law_suite_machine.proofs.Licences.{decisions_wait, licences_stay}
use Rattle.law_server_moves.specs.Licences.{IsNoGrant, SidesWait}

-- ---- Poll

ungranted_event : (start : Beginning) (w : World) (i t : ℕ) (event : Event) → IsNoGrant i t event → w.granted i t ≡ false → (events.happens start w event).granted i t ≡ false
ungranted_event start w i t (events.Grant j u e) other none = at2 (λ b. b ≡ false) w.granted j u true i t (λ here. absurd (other (sym here.0, sym here.1))) (λ _. none)
ungranted_event start w i t (events.Raise j u) other none = none
ungranted_event start w i t (events.Hear j u e) other none = none
ungranted_event start w i t (events.Aim u new) other none = none
ungranted_event start w i t (events.Prepare j u left) other none = none
ungranted_event start w i t (events.DecideRead u set known) other none = none
ungranted_event start w i t (events.DecideRefused u set known) other none = none
ungranted_event start w i t (events.DecideWrite u set known new) other none = none
ungranted_event start w i t (events.DecideElsewhere u v) other none = none
ungranted_event start w i t (events.Overrule u) other none = none
ungranted_event start w i t (events.GiveUp u) other none = none
ungranted_event start w i t (events.Finish j u v) other none = none
ungranted_event start w i t (events.Lose keep) other none = none

ungranted_all : (start : Beginning) (w : World) (i t : ℕ) (meanwhile : List Event) → AllByRecursion (IsNoGrant i t) meanwhile → w.granted i t ≡ false → (run start w meanwhile).granted i t ≡ false
ungranted_all start w i t [] other none = none
ungranted_all start w i t (event ∷ meanwhile) other none = ungranted_all start (events.happens start w event) i t meanwhile other.1 (ungranted_event start w i t event other.0 none)

-- ---- Decide

same_some : (a b : Verdict) → Some a ≡ Some b → a ≡ b
same_some a b e = cc

-- the verdict of a decision is the one that is recorded
recorded_is : (w : World) (u t : ℕ) (a v : Verdict) (one other : List Entry) → u ≡ t → decided w u a one ≡ decided w t v other → a ≡ v
recorded_is w u t a v one other same is =
    same_some a v (sym (ap (λ b. cond b (Some a) (w.verdict t)) (itself u t (sym same))) ∙ ap (λ (w : World). w.verdict t) is ∙ ap (λ b. cond b (Some v) (w.verdict t)) (itself t t refl))

as_recorded : (later : World) (u t : ℕ) (a v : Verdict) (log : List Entry) → u ≡ t → a ≡ v → decided later u a log ≡ decided later t v log
as_recorded later u t a v log same is = λ k. decided later (same k) (is k) log

decides_later : (start : Beginning) (w later : World) (t : ℕ) (v : Verdict) (decision : Event) → DecidesIt t decision → (log : List Entry) → events.happens start w decision ≡ decided w t v log
    → (new : List Entry) × (events.happens start later decision ≡ decided later t v new)
decides_later start w later t v (events.DecideRead u set known) same log is = (_, as_recorded later u t machine.Answered v (Read u known ∷ later.log) same (recorded_is w u t machine.Answered v _ log same is))
decides_later start w later t v (events.DecideRefused u set known) same log is = (_, as_recorded later u t machine.Refused v (Read u known ∷ later.log) same (recorded_is w u t machine.Refused v _ log same is))
decides_later start w later t v (events.DecideWrite u set known new) same log is = (_, as_recorded later u t machine.Answered v _ same (recorded_is w u t machine.Answered v _ log same is))
decides_later start w later t v (events.DecideElsewhere u a) same log is = (_, as_recorded later u t a v later.log same (recorded_is w u t a v _ log same is))
decides_later start w later t v (events.Grant j u e) same log is = absurd same
decides_later start w later t v (events.Raise j u) same log is = absurd same
decides_later start w later t v (events.Hear j u e) same log is = absurd same
decides_later start w later t v (events.Aim u new) same log is = absurd same
decides_later start w later t v (events.Prepare j u left) same log is = absurd same
decides_later start w later t v (events.Overrule u) same log is = absurd same
decides_later start w later t v (events.GiveUp u) same log is = absurd same
decides_later start w later t v (events.Finish j u a) same log is = absurd same
decides_later start w later t v (events.Lose keep) same log is = absurd same

none_before : (start : Beginning) (w later : World) → Stays start w later → (t : ℕ) → later.verdict t ≡ None → (o : Option Verdict) → w.verdict t ≡ o → o ≡ None
none_before start w later stays t none None is = refl
none_before start w later stays t none (Some v) is = absurd (let kept = sym (stays.verdicts t v is) ∙ none in cc)

-- ---- each request

pub sides_wait : SidesWait
sides_wait start begins events meanwhile obeys obey_on z home decision i before locks (request.Poll t s mode) side may = λ same. ungranted_all start (after start events) i t meanwhile may (side same)
sides_wait start begins events meanwhile obeys obey_on z home decision i before locks (request.Prepare t parts) side may = λ part is.
    let old = side part is in
    let stays = licences_stay start begins events meanwhile obeys obey_on in
    record { first = may.0; unanswered = may.1; fixed = λ some. let new = old.fixed some in (new.0, stays.aimed t new.0 new.1, new.2) }
sides_wait start begins events meanwhile obeys obey_on z home decision i before locks (request.Decide t asked) side may = λ at_home.
    let old = side at_home in
    let w = after start events in
    let later = run start w meanwhile in
    let stays = what_was_stays start begins events meanwhile obeys obey_on in
    let is = decides_later start w later t (ended_as (service.verdict_of asked)) decision may.0 old.log old.is in
    record {
      log = is.0;
      is = is.1;
      may = λ none. decisions_wait start begins events meanwhile obeys obey_on t decision may.0 (old.may (none_before start w later stays t none (w.verdict t) refl)) may.1 none;
    }
sides_wait start begins events meanwhile obeys obey_on z home decision i before locks (request.Finish t v) side may = (licences_stay start begins events meanwhile obeys obey_on).finish t (ended_as v) side
sides_wait start begins events meanwhile obeys obey_on z home decision i before locks asked side may = tt
