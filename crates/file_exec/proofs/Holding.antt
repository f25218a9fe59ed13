-- What is reached exclusively is held so.
use Rattle.file_exec.proofs.Vocabulary.{◌≡◌, ℕ, true, List, Option, Result, Ok, sym, ap, ◌∙◌, Identity, LockMode, Exclusive, Why, Parent, Row, root, Object, names_in, to_change, permit, owner_only, arith, Course, Give, ◌>>=◌, ◌>>◌, rule, look, Hold}
use Rattle.file_exec.proofs.Vocabulary.{Edits, Ended, Known, is_met, Heard, Done, run, RunsOr}
use Rattle.file_exec.specs.Operations as asked
use Rattle.file_exec.proofs.Running.{runs_in_turn}
use Rattle.file_exec.proofs.Steps.{HoldsAll}

-- where two courses are done, the first was, and then the second
parted : {A B E P : Type 0} (known : Known) (edits : Edits) (first : Course A E) (next : A → Course B E) (ended : Ended B) → run known edits (◌>>=◌ first next) ≡ Done (Ok ended)
    → ((middle : Ended A) → run known edits first ≡ Done (Ok middle) → run known middle.edits (next middle.given) ≡ Done (Ok ended) → P) → P
parted known edits first next ended is then = search (runs_in_turn, arith)

placed : (known : Known) (edits : Edits) (suite : ℕ) (row : Option Row) (ended : Ended Object) → run known edits (asked.place_at suite row) ≡ Done (Ok ended) → suite ≡ ended.given.suite
placed known edits suite row ended h5 = search arith

held_holds : (known : Known) (edits : Edits) (suite : ℕ) (mode : LockMode) (ended : Ended Object) → run known edits (asked.held suite mode) ≡ Done (Ok ended) → is_met known (Hold ended.given.suite mode) ≡ true
held_holds known edits suite mode ended is = search arith

reach_holds : (known : Known) (edits : Edits) (caller : Identity) (names : List (List ℕ)) (mode : LockMode) (ended : Ended Object)
    → run known edits (asked.reach caller names mode) ≡ Done (Ok ended) → is_met known (Hold ended.given.suite mode) ≡ true
reach_holds known edits caller names mode ended is =
    parted known edits (asked.walk caller root names) (λ suite. asked.held suite mode) ended is (λ middle _ is. held_holds known middle.edits middle.given mode ended is)

owned_holds : (known : Known) (edits : Edits) (caller : Identity) (names : List (List ℕ)) (ended : Ended Object) → run known edits (asked.owned caller names) ≡ Done (Ok ended) → is_met known (Hold ended.given.suite Exclusive) ≡ true
owned_holds known edits caller names ended is =
    parted known edits (asked.reach caller names Exclusive) (λ place. ◌>>◌ (rule (owner_only caller place)) (Give place)) ended is (λ middle was is.
    ap (λ suite. is_met known (Hold suite Exclusive)) (sym (of middle (owner_only caller middle.given) is)) ∙ reach_holds known edits caller names Exclusive middle was)
  where
    of : (middle : Ended Object) (owner : Result (Unit {0}) Why) → run known middle.edits (◌>>◌ (rule owner) (Give middle.given)) ≡ Done (Ok ended) → middle.given.suite ≡ ended.given.suite
    of middle owner h2 = search arith

parent_holds : (known : Known) (edits : Edits) (caller : Identity) (names : List (List ℕ)) (ended : Ended Parent)
    → run known edits (asked.parent_of caller names) ≡ Done (Ok ended) → is_met known (Hold ended.given.place.suite Exclusive) ≡ true
parent_holds known edits caller names ended is =
    parted known edits (asked.reach caller names Exclusive) _ ended is (λ middle was is.
    ap (λ suite. is_met known (Hold suite Exclusive)) (sym (folder middle (names_in middle.given.row.content) is)) ∙ reach_holds known edits caller names Exclusive middle was)
  where
    last : Object → Course Parent Why
    last place = ◌>>=◌ (asked.names_at place.suite) (λ names. Give (record { place = place; names = names }))

    named : (place : Object) (edits : Edits) → run known edits (last place) ≡ Done (Ok ended) → place.suite ≡ ended.given.place.suite
    named place edits is = search (parted, arith)

    let_in : (middle : Ended Object) (permit : Result (Unit {0}) Why) → run known middle.edits (◌>>◌ (rule permit) (last middle.given)) ≡ Done (Ok ended) → middle.given.suite ≡ ended.given.place.suite
    let_in middle permit h2 = search (named, arith)

    folder : (middle : Ended Object) (names : Result (List (List ℕ × ℕ)) Why) → run known middle.edits
        (◌>>◌ (rule names) (◌>>◌ (rule (permit caller middle.given to_change)) (last middle.given))) ≡ Done (Ok ended) → middle.given.suite ≡ ended.given.place.suite
    folder middle names h2 = search (let_in, arith)

look_holds : {E : Type 0} (known : Known) (edits : Edits) (suite : ℕ) (mode : LockMode) (ended : Ended (Option Row)) → run known edits (look {E = E} suite mode) ≡ Done (Ok ended) → is_met known (Hold suite mode) ≡ true
look_holds known edits suite mode ended is = search arith

-- ---- the same of what the code has reached

module _ {A : Type 0} {known : Known} {before after : Edits} {x : A} (caller : Identity) (names : List (List ℕ)) where
  pub reached : {memory : Heard Object Why → Type 0} {see : A → Object} → RunsOr memory see (Ok x) known before after (asked.reach caller names Exclusive) → HoldsAll known (see x).suite
  reached {see = see} gave = record { held = reach_holds known before caller names Exclusive (record { given = see x; edits = after }) gave.told }

  pub owns : {memory : Heard Object Why → Type 0} {see : A → Object} → RunsOr memory see (Ok x) known before after (asked.owned caller names) → HoldsAll known (see x).suite
  owns {see = see} gave = record { held = owned_holds known before caller names (record { given = see x; edits = after }) gave.told }

  pub parent_reached : {memory : Heard Parent Why → Type 0} {see : A → Parent} → RunsOr memory see (Ok x) known before after (asked.parent_of caller names) → HoldsAll known (see x).place.suite
  parent_reached {see = see} gave = record { held = parent_holds known before caller names (record { given = see x; edits = after }) gave.told }

pub looked_at : {A : Type 0} {known : Known} {before after : Edits} {suite : ℕ} {x : A} {memory : Heard (Option Row) Why → Type 0} {see : A → Option Row}
    → RunsOr memory see (Ok x) known before after (look suite Exclusive) → HoldsAll known suite
looked_at {known = known} {before = before} {after = after} {suite = suite} {x = x} {see = see} gave = record { held = look_holds known before suite Exclusive (record { given = see x; edits = after }) gave.told }
