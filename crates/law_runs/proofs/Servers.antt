-- What servers have recorded of the decisions so far, and what a served request adds.
use Rattle.law_runs.proofs.Vocabulary.{◌≡◌, ◌≢◌, ◌⊎◌, ⊎_elim, ℕ, true, false, cond, List, [], ◌∷◌, ◌++◌, Option, Some, None, refl, sym, ap, subst, ◌∙◌, arith, ◌==◌, nat_tests, same_Some, Verdict, State, record_of, Has, Fixed, home_of, Decided}
use Rattle.law_runs.proofs.Vocabulary.{denials_of, denials_at}
use Rattle.rep_core.specs.declared.reply.Verdict.TheVariants as verdict
use Rattle.law_runs.proofs.Standing.{Recorded, recorded_more, recorded_last, verdict_as, has_append}
use Rattle.law_runs.proofs.Places.{Puts, at_puts, same_or}

-- ---- denials of more decisions

pub denials_more : (fixed : Fixed) (s : ℕ) (ds more : List Decided) → denials_at fixed.service s (ds ++ more) ≡ denials_at fixed.service s ds ++ denials_at fixed.service s more
denials_more fixed s [] more = refl
denials_more fixed s (d ∷ ds) more = search (denials_more fixed s ds more, arith)

pub append_none : {X : Type 0} (xs : List X) → xs ++ [] ≡ xs
append_none [] = refl
append_none (x ∷ xs) = ap (λ rest. x ∷ rest) (append_none xs)

is_equal : (a b : ℕ) → a ≡ b → (a == b) ≡ true
is_equal a b same = grind (arith, nat_tests)

is_other : (a b : ℕ) → (a ≡ b → ⊥) → (a == b) ≡ false
is_other a b apart = grind (arith, nat_tests)

denials_here : (fixed : Fixed) (s : ℕ) (d : Decided) → home_of fixed.service d.t ≡ s → denials_at fixed.service s (d ∷ []) ≡ denials_of d
denials_here fixed s d at = ap (λ b. cond b (denials_of d) [] ++ []) (is_equal (home_of fixed.service d.t) s at) ∙ append_none (denials_of d)

denials_there : (fixed : Fixed) (s : ℕ) (d : Decided) → (home_of fixed.service d.t ≡ s → ⊥) → denials_at fixed.service s (d ∷ []) ≡ []
denials_there fixed s d apart = ap (λ b. cond b (denials_of d) [] ++ []) (is_other (home_of fixed.service d.t) s apart)

-- ---- what is kept of the decisions so far

-- its home has a record of a decision
pub record Kept (fixed : Fixed) (f : ℕ → Option State) (d : Decided) : Type 0 where
  pub st : State
  pub at : f (home_of fixed.service d.t) ≡ Some st
  pub is : record_of st d.t ≡ Some (verdict_as d.answer)

-- Each decision stands in its home's record; each record but of Aborted is of a decision; and the audits are the denials.
pub record AreKept (fixed : Fixed) (f : ℕ → Option State) (ds : List Decided) : Type 0 where
  pub kept : (d : Decided) → Has ds d → Kept fixed f d
  pub recorded : (s : ℕ) (st : State) (t : ℕ) (v : Verdict) → f s ≡ Some st → record_of st t ≡ Some v → Recorded ds t v
  pub audited : (s : ℕ) (st : State) → f s ≡ Some st → st.audit ≡ denials_at fixed.service s ds

-- a served request: nothing is decided by it, and at most Aborted is recorded; or a transaction is, at its home, which had no record of it
pub record Quiet (st new : State) (more : List Decided) : Type 0 where
  pub none : more ≡ []
  pub old : (t : ℕ) (v : Verdict) → record_of new t ≡ Some v → (record_of st t ≡ Some v) ⊎ (v ≡ verdict.Aborted)
  pub audit : new.audit ≡ st.audit

pub record Deciding (fixed : Fixed) (s : ℕ) (st new : State) (more : List Decided) : Type 0 where
  pub decision : Decided
  pub one : more ≡ decision ∷ []
  pub home : home_of fixed.service decision.t ≡ s
  pub free : record_of st decision.t ≡ None
  pub here : record_of new decision.t ≡ Some (verdict_as decision.answer)
  pub apart : (t : ℕ) → t ≢ decision.t → record_of new t ≡ record_of st t
  pub audit : new.audit ≡ st.audit ++ denials_of decision

module _ (fixed : Fixed) (f g : ℕ → Option State) (s : ℕ) (st new : State) (ds : List Decided) (puts : Puts f g s st new)
    (stays : (t : ℕ) (v : Verdict) → record_of st t ≡ Some v → record_of new t ≡ Some v) (holds : AreKept fixed f ds) where
  -- what was kept
  kept_old : (d : Decided) → Has ds d → Kept fixed g d
  kept_old d has = search arith

  pub kept_quietly : (more : List Decided) → Quiet st new more → AreKept fixed g (ds ++ more)
  kept_quietly more quiet = search (append_none, kept_old, at_puts, arith)

  pub kept_deciding : (more : List Decided) → Deciding fixed s st new more → AreKept fixed g (ds ++ more)
  kept_deciding more does = subst (λ more. AreKept fixed g (ds ++ more)) (sym does.one) (record {
    kept = search (kept_old, has_append, arith);
    recorded = λ at st' t v is has. ⊎_elim
        (λ here. ⊎_elim
        (λ same. subst (λ t. Recorded (ds ++ does.decision ∷ []) t v) (sym same) (subst (Recorded (ds ++ does.decision ∷ []) does.decision.t)
        (same_Some (verdict_as does.decision.answer) v (sym does.here ∙ ap (record_of new) (sym same) ∙ ap (λ (st : State). record_of st t) (sym here.is) ∙ has))
        (recorded_last ds does.decision does.decision.answer refl)))
        (λ apart. recorded_more ds (does.decision ∷ []) t v (holds.recorded s st t v puts.was (sym (does.apart t apart) ∙ ap (λ (st : State). record_of st t) (sym here.is) ∙ has)))
        (same_or t does.decision.t))
        (λ there. recorded_more ds (does.decision ∷ []) t v (holds.recorded at st' t v there.was has))
        (at_puts f g s st new puts at st' is);
    audited = search (denials_here, denials_more, append_none, denials_there, at_puts, arith);
  })

-- where no server changes
pub kept_none : (fixed : Fixed) (f : ℕ → Option State) (ds : List Decided) → AreKept fixed f ds → AreKept fixed f (ds ++ [])
kept_none fixed f ds holds = subst (AreKept fixed f) (sym (append_none ds)) holds
