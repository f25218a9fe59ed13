-- What may be asked for may be asked for later.
use Rattle.law_suite_machine.proofs.Vocabulary.{◌≡◌, ℕ, Bool, IsTrue, true, inl, inr, List, [], ◌∷◌, Some, None, refl, sym, ap, subst, ◌∙◌, Content, Prefix, is_write_quorum, Beginning, Known, Change}
use Rattle.law_suite_machine.proofs.Vocabulary.{GoesWith, World, Told, Verdict, begun, after, Event, Grant, Raise, Hear, Aim, Prepare, DecideRead, DecideRefused, DecideWrite, DecideElsewhere, Overrule, GiveUp, Finish, Lose, happens, run, heard, aimed}
use Rattle.law_suite_machine.proofs.Vocabulary.{May, Obeys, IsReady, Knows, MayRead, MayWrite, MayFinish, MayHear, MayAim, holds_exclusively, is_exclusive, Stays}
use Rattle.law_suite_machine.specs.Conditions.{CoversPrefix, CoversContent}
use Rattle.law_suite_machine.specs.Licences.{IsOther, AllOther, DecidesIt, DecisionsWait, LicencesStay}
use Rattle.law_suite_machine.proofs.Places.{at1, at2}
use Rattle.law_suite_machine.proofs.Invariant.{Inv}
use Rattle.law_suite_machine.proofs.Steps.{step, all_steps}
use Rattle.law_suite_machine.proofs.Starting.{begins}
use Rattle.law_suite_machine.proofs.Lasting.{run_stays}

-- ---- what others leave of a transaction

pub record Same (w later : World) (t : ℕ) : Type 0 where
  pub told : (i : ℕ) → later.told i t ≡ w.told i t
  pub ready : (i : ℕ) → later.ready i t ≡ w.ready i t
  pub aim : later.aim t ≡ w.aim t
  pub gave_up : later.gave_up t ≡ w.gave_up t

same_self : (w : World) (t : ℕ) → Same w w t
same_self w t = record { told = λ i. refl; ready = λ i. refl; aim = refl; gave_up = refl }

same_on : (a b c : World) (t : ℕ) → Same a b t → Same b c t → Same a c t
same_on a b c t first second = record {
  told = λ i. second.told i ∙ first.told i;
  ready = λ i. second.ready i ∙ first.ready i;
  aim = second.aim ∙ first.aim;
  gave_up = second.gave_up ∙ first.gave_up;
}

same_event : (start : Beginning) (w : World) (t : ℕ) (event : Event) → IsOther t event → Same w (happens start w event) t
same_event start w t (Hear i u e) other = record { told = λ j. at2 (λ o. o ≡ w.told j t) w.told i u _ j t (λ here. absurd (other (sym here.1))) (λ _. refl); ready = λ j. refl; aim = refl; gave_up = refl }
same_event start w t (Aim u new) other = record { told = λ j. refl; ready = λ j. refl; aim = at1 (λ o. o ≡ w.aim t) w.aim u _ t (λ here. absurd (other (sym here))) (λ _. refl); gave_up = refl }
same_event start w t (Prepare i u left) other = record { told = λ j. refl; ready = λ j. at2 (λ o. o ≡ w.ready j t) w.ready i u _ j t (λ here. absurd (other (sym here.1))) (λ _. refl); aim = refl; gave_up = refl }
same_event start w t (GiveUp u) other = record { told = λ j. refl; ready = λ j. refl; aim = refl; gave_up = at1 (λ b. b ≡ w.gave_up t) w.gave_up u true t (λ here. absurd (other (sym here))) (λ _. refl) }
same_event start w t (Grant i u e) other = record { told = λ j. refl; ready = λ j. refl; aim = refl; gave_up = refl }
same_event start w t (Raise i u) other = record { told = λ j. refl; ready = λ j. refl; aim = refl; gave_up = refl }
same_event start w t (DecideRead u set known) other = record { told = λ j. refl; ready = λ j. refl; aim = refl; gave_up = refl }
same_event start w t (DecideRefused u set known) other = record { told = λ j. refl; ready = λ j. refl; aim = refl; gave_up = refl }
same_event start w t (DecideWrite u set known new) other = record { told = λ j. refl; ready = λ j. refl; aim = refl; gave_up = refl }
same_event start w t (DecideElsewhere u v) other = record { told = λ j. refl; ready = λ j. refl; aim = refl; gave_up = refl }
same_event start w t (Overrule u) other = record { told = λ j. refl; ready = λ j. refl; aim = refl; gave_up = refl }
same_event start w t (Finish i u v) other = record { told = λ j. refl; ready = λ j. refl; aim = refl; gave_up = refl }
same_event start w t (Lose keep) other = record { told = λ j. refl; ready = λ j. refl; aim = refl; gave_up = refl }

same_all : (start : Beginning) (w : World) (t : ℕ) (later : List Event) → AllOther t later → Same w (run start w later) t
same_all start w t [] other = same_self w t
same_all start w t (event ∷ later) other = same_on w (happens start w event) (run start (happens start w event) later) t (same_event start w t event other.0) (same_all start (happens start w event) t later other.1)

-- ---- so what may be decided may be decided later

module _ (start : Beginning) (w later : World) (t : ℕ) (same : Same w later t) (stays : Stays start w later) (undecided : later.verdict t ≡ None) where
  ready_later : IsReady w t → IsReady later t
  ready_later ready = record {
    undecided = undecided;
    going = same.gave_up ∙ ready.going;
    prepared = λ i told is. let old = ready.prepared i told (sym (same.told i) ∙ is) in (old.0, same.ready i ∙ old.1);
  }

  goes_later : (prefix : Prefix) (d : ℕ) (content : Content) → GoesWith start w.log prefix d content → GoesWith start later.log prefix d content
  goes_later prefix d content (inl was) = inl (stays.contents d content was)
  goes_later prefix d content (inr zero) = inr zero

  knows_later : (set : ℕ → Bool) (known : Known) → Knows start w t set known → Knows start later t set known
  knows_later set known k = record {
    told = λ i inside. let old = k.told i inside in (old.0, same.told i ∙ old.1);
    quorum = k.quorum;
    was = stays.prefixes known.prefix k.was;
    newest = λ i told inside is. k.newest i told inside (sym (same.told i) ∙ is);
    greatest = λ i told inside is. k.greatest i told inside (sym (same.told i) ∙ is);
    from = k.from;
    from_told = k.from_told;
    told_from = same.told k.from ∙ k.told_from;
    told_dver = k.told_dver;
    content = λ content is. goes_later known.prefix known.dver content (k.content content is);
  }

  read_later : (set : ℕ → Bool) (known : Known) → MayRead start w t set known → MayRead start later t set known
  read_later set known may = record { ready = ready_later may.ready; knows = knows_later set known may.knows; unaimed = same.aim ∙ may.unaimed }

  -- the servers that it holds exclusively
  exclusive_same : holds_exclusively w t ≡ holds_exclusively later t
  exclusive_same = λ k i. is_exclusive (sym (same.told i) k)

  held_before : (i : ℕ) → IsTrue (holds_exclusively later t i) → IsTrue (holds_exclusively w t i)
  held_before i is = subst (λ o. IsTrue (is_exclusive o)) (same.told i) is

  prefix_later : (known : Known) (new : Change) → CoversPrefix w t known new → CoversPrefix later t known new
  prefix_later known new (inl kept) = inl kept
  prefix_later known new (inr up) = inr (up.0, λ i is. let old = up.1 i (held_before i is) in (old.0, same.ready i ∙ old.1, old.2))

  content_later : (known : Known) (new : Change) → CoversContent w t known new → CoversContent later t known new
  content_later known new (inl kept) = inl kept
  content_later known new (inr more) = inr (more.0, λ i is some. let old = more.1 i (held_before i is) some in (old.0, same.ready i ∙ old.1, old.2))

  write_later : (set : ℕ → Bool) (known : Known) (new : Change) → MayWrite start w t set known new → MayWrite start later t set known new
  write_later set known new may = record {
    ready = ready_later may.ready;
    knows = knows_later set known may.knows;
    aimed = same.aim ∙ may.aimed;
    under = may.under;
    under_was = stays.prefixes may.under may.under_was;
    under_newest = may.under_newest;
    quorum = subst (λ set. IsTrue (is_write_quorum may.under.votes set)) exclusive_same may.quorum;
    widened = elim (may.widened) [ inl kept ↦ inl kept | inr wide ↦ inr (subst (λ set. IsTrue (is_write_quorum new.prefix.votes set)) exclusive_same wide) ];
    valid = may.valid;
    kind = may.kind;
    covers_prefix = prefix_later known new may.covers_prefix;
    covers_content = content_later known new may.covers_content;
  }

moved : (start : Beginning) (w later : World) (t : ℕ) → Same w later t → Stays start w later → later.verdict t ≡ None → (decision : Event) → DecidesIt t decision → May start w decision → May start later decision
moved start w later t same stays none (DecideRead u set known) is may = subst (λ u. MayRead start w u set known → MayRead start later u set known) (sym is) (read_later start w later t same stays none set known) may
moved start w later t same stays none (DecideRefused u set known) is may = subst (λ u. MayRead start w u set known → MayRead start later u set known) (sym is) (read_later start w later t same stays none set known) may
moved start w later t same stays none (DecideWrite u set known new) is may = subst (λ u. MayWrite start w u set known new → MayWrite start later u set known new) (sym is) (write_later start w later t same stays none set known new) may
moved start w later t same stays none (DecideElsewhere u v) is may =
    record {
      undecided = ap later.verdict is ∙ none;
      going = ap later.gave_up is ∙ same.gave_up ∙ ap w.gave_up (sym is) ∙ may.going;
      untold = λ i. ap (later.told i) is ∙ same.told i ∙ ap (w.told i) (sym is) ∙ may.untold i;
      unaimed = ap later.aim is ∙ same.aim ∙ ap w.aim (sym is) ∙ may.unaimed;
    }
moved start w later t same stays none (Hear i u e) is may = absurd is
moved start w later t same stays none (Aim u new) is may = absurd is
moved start w later t same stays none (Prepare i u left) is may = absurd is
moved start w later t same stays none (GiveUp u) is may = absurd is
moved start w later t same stays none (Grant i u e) is may = absurd is
moved start w later t same stays none (Raise i u) is may = absurd is
moved start w later t same stays none (Overrule u) is may = absurd is
moved start w later t same stays none (Finish i u v) is may = absurd is
moved start w later t same stays none (Lose keep) is may = absurd is

pub decisions_wait : DecisionsWait
decisions_wait start is events later obeys obey_later t decision decides may other none =
    let w = after start events in
    let inv = all_steps start (begun start) (begins start is) events obeys in
    moved start w (run start w later) t (same_all start w t later other) (run_stays start w inv later obey_later) none decision decides may

-- ---- what stays so, whatever happens

-- one event
pub record Good (w later : World) : Type 0 where
  pub aimed : (t : ℕ) (new : Change) → w.aim t ≡ Some new → later.aim t ≡ Some new
  pub told : (i t : ℕ) (one : Told) → w.told i t ≡ Some one → (more : Told) × (later.told i t ≡ Some more) × (more.copy ≡ one.copy)

good_same : (w later : World) → later.aim ≡ w.aim → later.told ≡ w.told → Good w later
good_same w later aim told = record { aimed = λ t new is. ap (λ f. f t) aim ∙ is; told = λ i t one is. (one, ap (λ f. f i t) told ∙ is, refl) }

aim_stays : (w : World) (u : ℕ) (change : Change) → MayAim w u → (t : ℕ) (new : Change) → w.aim t ≡ Some new → (aimed w u change).aim t ≡ Some new
aim_stays w u change may t new is = at1 (λ o. o ≡ Some new) w.aim u (Some change) t (λ here. absurd (let at = sym (ap w.aim here) ∙ is in let none = may.unaimed in cc)) (λ _. is)

told_stays : (start : Beginning) (w : World) → Inv start w → (i u : ℕ) (e : Bool) → MayHear w i u e → (j t : ℕ) (one : Told) → w.told j t ≡ Some one → (more : Told) × ((heard w i u e).told j t ≡ Some more) × (more.copy ≡ one.copy)
told_stays start w inv i u e may j t one is = at2 (λ o. (more : Told) × (o ≡ Some more) × (more.copy ≡ one.copy)) w.told i u _ j t
    (λ here. (record { exclusive = e; copy = w.copy i }, refl, inv.sound.shown i u one may.lock ((λ k. w.told (sym here.0 k) (sym here.1 k)) ∙ is) may.stands))
    (λ _. (one, is, refl))

good_event : (start : Beginning) (w : World) → Inv start w → (event : Event) → May start w event → Good w (happens start w event)
good_event start w inv (Hear i u e) may = record { aimed = λ t new is. is; told = told_stays start w inv i u e may }
good_event start w inv (Aim u new) may = record { aimed = aim_stays w u new may; told = λ i t one is. (one, is, refl) }
good_event start w inv (Prepare i u left) may = good_same w _ refl refl
good_event start w inv (GiveUp u) may = good_same w _ refl refl
good_event start w inv (Grant i u e) may = good_same w _ refl refl
good_event start w inv (Raise i u) may = good_same w _ refl refl
good_event start w inv (DecideRead u set known) may = good_same w _ refl refl
good_event start w inv (DecideRefused u set known) may = good_same w _ refl refl
good_event start w inv (DecideWrite u set known new) may = good_same w _ refl refl
good_event start w inv (DecideElsewhere u v) may = good_same w _ refl refl
good_event start w inv (Overrule u) may = good_same w _ refl refl
good_event start w inv (Finish i u v) may = good_same w _ refl refl
good_event start w inv (Lose keep) may = good_same w _ refl refl

pub good_all : (start : Beginning) (w : World) → Inv start w → (later : List Event) → Obeys start w later → Good w (run start w later)
good_all start w inv [] may = good_same w w refl refl
good_all start w inv (event ∷ later) may =
    let first = good_event start w inv event may.0 in
    let rest = good_all start (happens start w event) (step start w inv event may.0) later may.1 in
    record {
      aimed = λ t new is. rest.aimed t new (first.aimed t new is);
      told = λ i t one is.
          let mid = first.told i t one is in
          let last = rest.told i t mid.0 mid.1 in
          (last.0, last.1, last.2 ∙ mid.2);
    }

finish_stays : (start : Beginning) (w later : World) → Stays start w later → (t : ℕ) (v : Verdict) → MayFinish w t v → MayFinish later t v
finish_stays start w later stays t v may = record { ended = elim (may.ended) [ inl recorded ↦ inl (stays.verdicts t v recorded) | inr gone ↦ inr (gone.0, stays.given_up t gone.1) ] }

pub licences_stay : LicencesStay
licences_stay start is events later obeys obey_later =
    let w = after start events in
    let inv = all_steps start (begun start) (begins start is) events obeys in
    let good = good_all start w inv later obey_later in
    record { finish = finish_stays start w (run start w later) (run_stays start w inv later obey_later); aimed = good.aimed; told = good.told }
