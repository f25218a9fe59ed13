-- What a transaction sets votes of it asks for exclusively.
use Rattle.law_run_recovers.proofs.Vocabulary.{◌≡◌, ◌⊎◌, inl, inr, ⊎_elim, ℕ, Bool, true, false, cond, List, [], ◌∷◌, Option, Result, Ok, Err, refl, ap, subst, ◌∙◌, ◌==◌, list_any, arith, nat_cmp, false≢true, eqb-true, eq-eqb, insert, Identity}
use Rattle.law_run_recovers.proofs.Vocabulary.{Configuration, LockMode, Exclusive, Answer, Op, Refusal, PlainTable, Row, row_of, Change, Edit, Need, Hold, Know, changes_at, Course, Give, Refuse, Look, Read, Set, Edits, Ended, is_set, unless_set}
use Rattle.law_run_recovers.proofs.Vocabulary.{looked, content_read, needs, ending, transaction, Has, has_filter, has_map, has_asked, not_asked, locks_asked, change_in, changes_on, votes_set, or_right, or_cases, serves_itself, tied}
use Rattle.law_run_recovers.proofs.Asked.{asked_exclusive}
use Rattle.law_run_recovers.proofs.Asking.{suite_in, mode_in, is_hold}

-- ---- edits

abbrev pub at : ℕ → ℕ × Edit → Bool
at z e = e.0 == z

abbrev edits_of : {A E : Type 0} → Edits → Result (Ended A) E → Edits
edits_of other (Ok ended) = ended.edits
edits_of other (Err why) = other

-- what a course edits it needs exclusively
pub sets_needed : {A E : Type 0} (rows : ℕ → Option Row) (z : ℕ) (edits : Edits) (course : Course A E) (ended : Ended A) → ending rows edits course ≡ Ok ended → list_any (at z) ended.edits ≡ true
    → (list_any (at z) edits ≡ true) ⊎ Has (needs rows edits course) (Hold z Exclusive)
sets_needed rows z edits (Give given) ended is any = inl (ap (list_any (at z)) (ap (edits_of edits) is) ∙ any)
sets_needed rows z edits (Refuse why) ended is any = absurd cc
sets_needed rows z edits (Look suite mode later) ended is any =
    ⊎_elim (λ old. inl old) (λ has. inr (inr has)) (sets_needed rows z edits (later (looked rows edits suite)) ended is any)
sets_needed rows z edits (Read suite later) ended is any =
    ⊎_elim (λ old. inl old) (λ has. inr (of (is_set edits suite) has)) (sets_needed rows z edits (later (content_read rows edits suite)) ended is any)
  where
    of : (b : Bool) → Has (needs rows edits (later (content_read rows edits suite))) (Hold z Exclusive) → Has (unless_set b suite (needs rows edits (later (content_read rows edits suite)))) (Hold z Exclusive)
    of b h1 = search arith
sets_needed rows z edits (Set suite edit later) ended is any =
    ⊎_elim
    (λ old. ⊎_elim (λ here. inr (inl (ap (λ n. Hold n Exclusive) (eqb-true suite z here)))) (λ before. inl before) (or_cases (suite == z) (list_any (at z) edits) old))
    (λ has. inr (inr has))
    (sets_needed rows z ((suite, edit) ∷ edits) later ended is any)

-- ---- changes

has_insert : (all : List (ℕ × Change)) (key : ℕ) (value : Change) (one : ℕ × Change) → Has (insert nat_cmp all key value) one → (key ≡ one.0) ⊎ Has all one
has_insert [] key value one has = ⊎_elim (λ same. inl (ap (λ (one : ℕ × Change). one.0) same)) (λ none. absurd none) has
has_insert (e ∷ es) key value one has = search (tied, has_insert es key value one, arith)

-- what changes was edited
changed_at : (f : ℕ → Option Change) (edits : Edits) (one : ℕ × Change) → Has (changes_at f edits) one → list_any (at one.0) edits ≡ true
changed_at f [] one has = absurd has
changed_at f (e ∷ edits) one has = search (or_right, eq-eqb, has_insert, changed_at f edits one, arith)

-- ---- what is needed is asked for

pub needed_asked : (needed : List Need) (asked : List (ℕ × LockMode)) (z : ℕ) (mode : LockMode) → Has needed (Hold z mode) → (has_asked asked z mode ≡ true) ⊎ (has_asked (not_asked asked needed) z mode ≡ true)
needed_asked [] asked z mode has = absurd has
needed_asked (Know s ∷ needed) asked z mode has = ⊎_elim (λ same. absurd (false≢true (ap is_hold same))) (λ later. needed_asked needed asked z mode later) has
needed_asked (Hold s k ∷ needed) asked z mode has = of (has_asked asked s k) refl (λ asked. needed_asked needed asked z mode) has
  where
    of : (b : Bool) → has_asked asked s k ≡ b → ((asked : List (ℕ × LockMode)) → Has needed (Hold z mode)
        → (has_asked asked z mode ≡ true) ⊎ (has_asked (not_asked asked needed) z mode ≡ true)) → (Hold s k ≡ Hold z mode) ⊎ Has needed (Hold z mode)
        → (has_asked asked z mode ≡ true) ⊎ (has_asked (cond b (not_asked asked needed) ((s, k) ∷ not_asked ((s, k) ∷ asked) needed)) z mode ≡ true)
    of b h1 h2 h3 = search (suite_in, mode_in, eq-eqb, serves_itself, or_cases, or_right, arith)

-- ---- so what it sets votes of it asks for exclusively

pub sets_asked : (table : PlainTable) (t : ℕ) (caller : Identity) (ops : List Op) (set : ℕ × Configuration) → Has (votes_set table t caller ops) set → Has (locks_asked table t caller ops) (set.0, Exclusive)
sets_asked table t caller ops set has =
    asked_exclusive (locks_asked table t caller ops) set.0
    (⊎_elim (λ none. absurd (false≢true none)) (λ is. is) (needed_asked (needs (row_of table.rows) [] (transaction table.service t caller ops)) [] set.0 Exclusive
    (of (ending (row_of table.rows) [] (transaction table.service t caller ops)) refl (changed.1, changed.2))))
  where
    changed : (one : ℕ × Change) × Has (changes_on table.rows (ending (row_of table.rows) [] (transaction table.service t caller ops))) one × (one.0 ≡ set.0)
    changed = search (has_map, has_filter, arith)

    of : (result : Result (Ended (List Answer)) Refusal) → ending (row_of table.rows) [] (transaction table.service t caller ops) ≡ result → Has (changes_on table.rows result) changed.0 × (changed.0.0 ≡ set.0)
        → Has (needs (row_of table.rows) [] (transaction table.service t caller ops)) (Hold set.0 Exclusive)
    of (Err refusal) is one = absurd one.0
    of (Ok ended) is one =
        ⊎_elim
        (λ none. absurd (false≢true none))
        (λ has. has)
        (sets_needed (row_of table.rows) set.0 [] (transaction table.service t caller ops) ended is
        (subst (λ z. list_any (at z) ended.edits ≡ true) one.1 (changed_at (change_in table.rows ended.edits) ended.edits changed.0 one.0)))
