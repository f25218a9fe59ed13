-- Operations of a transaction one after the other.
use Rattle.file_exec.proofs.Vocabulary.{◌≡◌, ℕ, zero, suc, ◌+◌, ◌≤◌, true, false, cond, List, [], ◌∷◌, ◌++◌, Result, Ok, Err, length, get_or, take, arith, refl, sym, ap, ◌∙◌, ◌<◌, eq-zero-or-pos, ◌==◌, ◌||◌, IfOk, OnErr, nat_tests, result_ok}
use Rattle.file_exec.proofs.Vocabulary.{Identity, Exclusive, Answer, Op, Refusal, Why, Service, is_miscounted, Outcome, Hold, Know, Stop, Course, Give, Refuse, Look, Read, Set, at_place, Edits, Ended, is_set, looked, content_read, operation, play}
use Rattle.file_exec.proofs.Vocabulary.{Known, known_rows, is_met, Heard, Needs, Done, is_given, exec_of, run, then_run, answered, end_of, Told, Runs}
use Rattle.file_ops.specs.declared.refusal.Why.TheVariants as why
use Rattle.file_exec.proofs.Running.{runs_in_turn, exec_runs}

-- what an operation at a place comes to, its refusal naming it
abbrev pub named : {A : Type 0} → ℕ → Heard A Why → Heard A Refusal
named at (Needs need) = Needs need
named at (Done (Ok ended)) = Done (Ok ended)
named at (Done (Err why)) = Done (Err (record { op = at + 1; why = why }))

pub run_at_place : {A : Type 0} (known : Known) (edits : Edits) (at : ℕ) (course : Course A Why) → run known edits (at_place at course) ≡ named at (run known edits course)
run_at_place known edits at (Give given) = refl
run_at_place known edits at (Refuse why) = refl
run_at_place known edits at (Look suite mode later) =
    elim (is_met known (Hold suite mode)) as (λ b. cond b (run known edits (at_place at (later (looked (known_rows known) edits suite)))) (Needs (Hold suite mode)) ≡ named at
    (cond b (run known edits (later (looked (known_rows known) edits suite))) (Needs (Hold suite mode)))) [
      | true ↦ run_at_place known edits at (later (looked (known_rows known) edits suite))
      | false ↦ refl
    ]
run_at_place known edits at (Read suite later) =
    elim (is_set edits suite || is_met known (Know suite)) as (λ b. cond b (run known edits (at_place at (later (content_read (known_rows known) edits suite))))
    (Needs (Know suite)) ≡ named at (cond b (run known edits (later (content_read (known_rows known) edits suite))) (Needs (Know suite)))) [
      | true ↦ run_at_place known edits at (later (content_read (known_rows known) edits suite))
      | false ↦ refl
    ]
run_at_place known edits at (Set suite edit later) =
    elim (is_met known (Hold suite Exclusive)) as (λ b. cond b (run known ((suite, edit) ∷ edits) (at_place at later)) (Needs (Hold suite Exclusive)) ≡ named at
    (cond b (run known ((suite, edit) ∷ edits) later) (Needs (Hold suite Exclusive)))) [
      | true ↦ run_at_place known ((suite, edit) ∷ edits) at later
      | false ↦ refl
    ]

module _ (known : Known) (service : Service) (t : ℕ) (caller : Identity) where
  -- the operations from one on, by what that one comes to
  from_one : (edits : Edits) (answers : List Answer) (at : ℕ) (op : Op) (ops : List Op)
      → run known edits (play service answers t at caller (op ∷ ops)) ≡ then_run known (λ answer. play service (answers ++ answer ∷ []) t (at + 1) caller ops) (named at (run known edits (operation service t at caller op)))
  from_one edits answers at op ops = search (runs_in_turn, run_at_place, arith)

  -- the operations before a place, and then the others
  pub parts : (edits : Edits) (answers : List Answer) (at to : ℕ) (first then : List Op) → to ≡ at + length first
      → run known edits (play service answers t at caller (first ++ then)) ≡ then_run known (λ answers. play service answers t to caller then) (run known edits (play service answers t at caller first))
  parts edits answers at to [] then is = ap (λ at. run known edits (play service answers t at caller then)) (let same : at ≡ to = grind (arith, is) in same)
  parts edits answers at to (op ∷ first) then is =
      from_one edits answers at op (first ++ then)
      ∙ of (λ ended. parts ended.edits (answers ++ ended.given ∷ []) (at + 1) to first then (grind (arith, is))) (named at (run known edits (operation service t at caller op)))
      ∙ sym (ap (then_run known (λ answers. play service answers t to caller then)) (from_one edits answers at op first))
    where
      of : ((ended : Ended Answer) → run known ended.edits (play service (answers ++ ended.given ∷ []) t (at + 1) caller (first ++ then)) ≡ then_run known
          (λ answers. play service answers t to caller then) (run known ended.edits (play service (answers ++ ended.given ∷ []) t (at + 1) caller first)))
          → (heard : Heard Answer Refusal)
          → then_run known (λ answer. play service (answers ++ answer ∷ []) t (at + 1) caller (first ++ then)) heard
          ≡ then_run known (λ answers. play service answers t to caller then) (then_run known (λ answer. play service (answers ++ answer ∷ []) t (at + 1) caller first) heard)
      of h0 heard = search arith

  pub one_more : (before after : Edits) (answers : List Answer) (at : ℕ) (op : Op) (ops : List Op) (answer : Answer) → Runs (λ answer. answer) (Ok answer) known before after (operation service t at caller op)
      → run known before (play service answers t at caller (op ∷ ops)) ≡ run known after (play service (answers ++ answer ∷ []) t (at + 1) caller ops)
  one_more before after answers at op ops answer gave = search (from_one, arith)

  pub one_ends : {E : Type 0} (before after : Edits) (answers : List Answer) (at : ℕ) (op : Op) (ops : List Op) (e : Stop) (result : Result Outcome E)
      → Runs (λ (answer : Answer). answer) (Err e) known before after (operation service t at caller op)
      → result_ok result ≡ end_of at e → IfOk result (λ outcome. outcome ≡ answered known (run known before (play service answers t at caller (op ∷ ops))))
  one_ends before after answers at op ops e result h8 h9 = search (from_one, arith)

  -- the executor plays the operations, where they are well counted
  pub exec_plays : (ops : List Op) → is_miscounted ops ≡ false → exec_of service known t caller ops ≡ run known [] (play service [] t 0 caller ops)
  exec_plays ops counted = exec_runs service known t caller ops ∙ ap (λ b. run known [] (cond b (Refuse (record { op = 0; why = why.OpCount })) (play service [] t 0 caller ops))) counted

pub well_counted : (ops : List Op) → false ≡ (length ops == 0) → length ops ≤ 8 → is_miscounted ops ≡ false
well_counted ops some few = grind (arith, nat_tests)

-- ---- the first operation

-- the executor gives something of one operation alone where that does
first_given : (known : Known) (service : Service) (t : ℕ) (caller : Identity) (op : Op) → is_given (run known [] (operation service t 0 caller op)) ≡ true → is_given (exec_of service known t caller (op ∷ [])) ≡ true
first_given known service t caller op given =
    ap is_given (exec_plays known service t caller (op ∷ []) refl ∙ from_one known service t caller [] [] 0 op []) ∙ of (run known [] (operation service t 0 caller op)) given
  where
    next : Answer → Course (List Answer) Refusal
    next answer = play service ([] ++ answer ∷ []) t 1 caller []

    of : (heard : Heard Answer Why) → is_given heard ≡ true → is_given (then_run known next (named 0 heard)) ≡ true
    of heard h1 = search arith

first_taken : (ops : List Op) (op : Op) → 0 < length ops → op ≡ get_or ops 0 op → op ∷ [] ≡ take 1 ops
first_taken ops op h2 h3 = search arith

-- once an operation gives something, the first one did
pub begins : (known : Known) (service : Service) (t : ℕ) (caller : Identity) (ops : List Op) (log : Edits) (at index : ℕ) (op : Op)
    → (index ≡ 0 → log ≡ []) → (0 < index → is_given (exec_of service known t caller (take 1 ops)) ≡ true) → at ≡ index → index < length ops → op ≡ get_or ops index op
    → is_given (run known log (operation service t at caller op)) ≡ true → is_given (exec_of service known t caller (take 1 ops)) ≡ true
begins known service t caller ops log at index op unbegun begun counted below is given = search (eq-zero-or-pos, first_taken, first_given, arith)

-- once some operations were done, the first one gave something
pub begun_first : (known : Known) (service : Service) (t : ℕ) (caller : Identity) (ops : List Op) (at : ℕ) (ended : Ended (List Answer)) → 0 < at → 0 < length ops
    → run known [] (play service [] t 0 caller (take at ops)) ≡ Done (Ok ended) → is_given (exec_of service known t caller (take 1 ops)) ≡ true
begun_first known service t caller ops zero ended some any is = absurd (omega arith)
begun_first known service t caller [] (suc at) ended some any is = absurd (omega arith)
begun_first known service t caller (op ∷ ops) (suc at) ended some any is = search (first_given, from_one, arith)

-- memory is refused to an operation only where it gives something
pub ends_given : {E : Type 0} (at : ℕ) (e : Stop) (result : Result Outcome E) (heard : Heard Answer Why) (after : Edits) {P : Type 0} → Told (λ heard. is_given heard ≡ true) (λ (answer : Answer). answer) (Err e) after heard
    → result_ok result ≡ end_of at e → (is_given heard ≡ true → P) → OnErr result P
ends_given at e result heard after h5 h6 h7 = search arith
