-- Walks that go on from where they came.
use Rattle.file_exec.proofs.Vocabulary.{◌≡◌, ℕ, ◌+◌, ◌<◌, List, [], ◌∷◌, ◌++◌, length, get_or, take, drop, Ok, Err, refl, sym, ap, ◌∙◌, take-append-drop, take_more, drop_more, Identity, Why, root, Edits, Ended, Known, Heard, Needs, Done, step, walk}
use Rattle.file_exec.proofs.Vocabulary.{Leads, run, then_run}
use Rattle.file_exec.proofs.Running.{runs_in_turn}

-- a walk along some names and then others is one walk after the other
walk_parts : (known : Known) (edits : Edits) (caller : Identity) (suite : ℕ) (first then : List (List ℕ))
    → run known edits (walk caller suite (first ++ then)) ≡ then_run known (λ suite. walk caller suite then) (run known edits (walk caller suite first))
walk_parts known edits caller suite [] then = refl
walk_parts known edits caller suite (name ∷ first) then =
    runs_in_turn known edits (step caller suite name) (λ next. walk caller next (first ++ then))
    ∙ of (λ ended. walk_parts known ended.edits caller ended.given first then) (run known edits (step caller suite name))
    ∙ sym (ap (then_run known (λ suite. walk caller suite then)) (runs_in_turn known edits (step caller suite name) (λ next. walk caller next first)))
  where
    of : ((ended : Ended ℕ) → run known ended.edits (walk caller ended.given (first ++ then)) ≡ then_run known (λ suite. walk caller suite then) (run known ended.edits (walk caller ended.given first))) → (heard : Heard ℕ Why)
        → then_run known (λ next. walk caller next (first ++ then)) heard ≡ then_run known (λ suite. walk caller suite then) (then_run known (λ next. walk caller next first) heard)
    of rest (Needs need) = refl
    of rest (Done (Ok ended)) = rest ended
    of rest (Done (Err why)) = refl

module _ (known : Known) (edits : Edits) (caller : Identity) (names : List (List ℕ)) (depth suite : ℕ) (leads : Leads known edits caller names depth suite) where
  -- the names that are left lead on from the suite that was reached
  pub walks_on : run known edits (walk caller suite (drop depth names)) ≡ run known edits (walk caller root names)
  walks_on =
      sym (ap (then_run known (λ suite. walk caller suite (drop depth names))) leads)
      ∙ sym (walk_parts known edits caller root (take depth names) (drop depth names))
      ∙ ap (λ names. run known edits (walk caller root names)) (take-append-drop depth names)

  -- of the names that are left one is the next
  pub next_step : (name : List ℕ) → depth < length names → name ≡ get_or names depth name
      → run known edits (walk caller suite (name ∷ drop (depth + 1) names)) ≡ run known edits (walk caller root names)
  next_step name below is = ap (λ left. run known edits (walk caller suite left)) (sym (drop_more names depth name below ∙ ap (λ name. name ∷ drop (depth + 1) names) (sym is))) ∙ walks_on

  -- one name more leads to the suite of that name
  pub leads_on : (name : List ℕ) (next : ℕ) → depth < length names → name ≡ get_or names depth name
      → run known edits (step caller suite name) ≡ Done (Ok (record { given = next; edits = edits })) → Leads known edits caller names (depth + 1) next
  leads_on name next below is steps =
      ap (λ names. run known edits (walk caller root names)) (take_more names depth name below ∙ ap (λ name. take depth names ++ name ∷ []) (sym is))
      ∙ walk_parts known edits caller root (take depth names) (name ∷ [])
      ∙ ap (then_run known (λ suite. walk caller suite (name ∷ []))) leads
      ∙ runs_in_turn known edits (step caller suite name) (λ next. walk caller next [])
      ∙ ap (then_run known (λ next. walk caller next [])) steps
