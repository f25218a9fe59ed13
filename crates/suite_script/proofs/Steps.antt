-- Readings step by step.
use Rattle.suite_script.proofs.Vocabulary.{◌≡◌, ℕ, zero, suc, ◌+◌, ◌<◌, ◌≤◌, nat_le, true, List, [], ◌∷◌, ◌++◌, length, take, Result, Ok, Err, refl, ◌∙◌, ap}
use Rattle.suite_script.proofs.Vocabulary.{sym, inl, inr, append_assoc, arith, cases_Bool, nat_tests, length-take-le, take-append-le, take_all, Identity, Rows}
use Rattle.suite_script.proofs.Vocabulary.{is_miscounted, max_operations, transaction, Service, OpCount, Tables, ◌>>=◌, ok_map, Op, FirstAreEnough, operation}
use Rattle.suite_script.proofs.Vocabulary.{operations_in, kept, LineFault}

-- operations, where some were read already
abbrev pub ops_after : List Op → Result (List Op) LineFault → Result (List Op) LineFault
ops_after front (Ok ops) = Ok (front ++ ops)
ops_after front (Err fault) = Err fault

-- an operation before others
abbrev with_op : Op → Result (List Op) LineFault → Result (List Op) LineFault
with_op op (Ok ops) = Ok (op ∷ ops)
with_op op (Err fault) = Err fault

-- one operation more was read
one_more : (front : List Op) (op : Op) (rest : Result (List Op) LineFault) → ops_after (front ++ op ∷ []) rest ≡ ops_after front (with_op op rest)
one_more front op (Ok ops) = ap Ok (append_assoc front (op ∷ []) ops)
one_more front op (Err fault) = refl

added : (op : Op) (rest : Result (List Op) LineFault) → ◌>>=◌ rest (λ ops. Ok (op ∷ ops)) ≡ with_op op rest
added op (Ok ops) = refl
added op (Err fault) = refl

joined : (names : Tables) (phrase : List (List ℕ)) (phrases : List (List (List ℕ))) (op : Op) → operation names phrase ≡ Ok op → operations_in names (phrase ∷ phrases) ≡ with_op op (operations_in names phrases)
joined names phrase phrases op read =
    ap (λ first. ◌>>=◌ first (λ o. ◌>>=◌ (operations_in names phrases) (λ ops. Ok (o ∷ ops)))) read ∙ added op (operations_in names phrases)

ops_more : (names : Tables) (front : List Op) (phrase : List (List ℕ)) (phrases : List (List (List ℕ))) (op : Op) → operation names phrase ≡ Ok op
    → ops_after (front ++ op ∷ []) (operations_in names phrases) ≡ ops_after front (operations_in names (phrase ∷ phrases))
ops_more names front phrase phrases op read =
    one_more front op (operations_in names phrases) ∙ ap (ops_after front) (sym (joined names phrase phrases op read))

take_front : (n : ℕ) (front ops : List Op) → take n (take n front ++ ops) ≡ take n (front ++ ops)
take_front zero front ops = refl
take_front (suc n) [] ops = refl
take_front (suc n) (op ∷ front) ops = ap (λ more. op ∷ more) (take_front n front ops)

-- what is kept of some operations is kept of them with those after them
kept_before : (front : List Op) (ops : Result (List Op) LineFault) → ok_map kept (ops_after (kept front) ops) ≡ ok_map kept (ops_after front ops)
kept_before front (Ok ops) = ap Ok (take_front (max_operations + 1) front ops)
kept_before front (Err fault) = refl

-- where enough are kept, one more is not kept
pub kept_full : (ops : List Op) (op : Op) → length ops ≡ max_operations + 1 → ops ≡ kept (ops ++ op ∷ [])
kept_full ops op full =
    sym (take-append-le (max_operations + 1) ops (op ∷ []) (omega (arith, full)) ∙ take_all (max_operations + 1) ops (omega (arith, full)))

too_many : (service : Service) (rows : Rows) (t : ℕ) (caller : Identity) (ops : List Op) → max_operations < length ops → transaction service rows t caller ops ≡ Err (record { op = 0; why = OpCount })
too_many service rows t caller ops many =
    let counted : is_miscounted ops ≡ true = grind (arith, nat_tests) in
    rw counted refl

-- one operation more was read, and is kept where it matters
pub kept_more : (names : Tables) (front : List Op) (phrase : List (List ℕ)) (phrases : List (List (List ℕ))) (op : Op) → operation names phrase ≡ Ok op
    → ok_map kept (ops_after (kept (front ++ op ∷ [])) (operations_in names phrases)) ≡ ok_map kept (ops_after front (operations_in names (phrase ∷ phrases)))
kept_more names front phrase phrases op read =
    kept_before (front ++ op ∷ []) (operations_in names phrases) ∙ ap (ok_map kept) (ops_more names front phrase phrases op read)

pub kept_enough : FirstAreEnough
kept_enough service rows t caller ops =
    elim (cases_Bool (nat_le (length ops) (max_operations + 1))) [
      | inl few ↦
          let fits : length ops ≤ max_operations + 1 = grind (arith, nat_tests) in
          ap (transaction service rows t caller) (take_all (max_operations + 1) ops fits)
      | inr many ↦
          let above : max_operations + 1 < length ops = grind (arith, nat_tests) in
          let nine : length (kept ops) ≡ max_operations + 1 = length-take-le (max_operations + 1) ops (omega arith) in
          too_many service rows t caller (kept ops) (omega (arith, nine)) ∙ sym (too_many service rows t caller ops (omega arith))
    ]
