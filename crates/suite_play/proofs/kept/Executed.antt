-- One operation more than a transaction may have is as good as any more: both are refused for their count.
use Rattle.suite_play.proofs.Vocabulary.{◌≡◌, ℕ, ◌+◌, ◌<◌, ◌≤◌, nat_le, true, List, length, refl, ◌∙◌, ap, sym, inl, inr, arith, cases_Bool, length-take-le, take_all, Op}
use Rattle.std.proofs.lemmas.Bool.Decides.{nat_tests}
use Rattle.acl_core.specs.Identity.{Identity}
use Rattle.file_ops.specs.Limits.{max_operations}
use Rattle.file_ops.specs.Transactions.{is_miscounted}
use Rattle.file_ops.specs.declared.refusal.Why.TheVariants.{OpCount}
use Rattle.file_ops.specs.declared.service.Service.{Service}
use Rattle.file_exec.specs.Courses.{Refuse}
use Rattle.file_exec.specs.Known.{Known, exec_of, followed, known_rows}
use Rattle.file_exec.specs.Operations.{transaction}
use Rattle.std.proofs.Common.{take}

-- the first of some operations, one more than a transaction may have
abbrev pub few : List Op → List Op
few ops = take (max_operations + 1) ops

too_many : (service : Service) (t : ℕ) (caller : Identity) (ops : List Op) → max_operations < length ops → transaction service t caller ops ≡ Refuse (record { op = 0; why = OpCount })
too_many service t caller ops many =
    let counted : is_miscounted ops ≡ true = grind (arith, nat_tests) in
    rw counted refl

few_enough : (service : Service) (t : ℕ) (caller : Identity) (ops : List Op) → transaction service t caller (few ops) ≡ transaction service t caller ops
few_enough service t caller ops =
    elim (cases_Bool (nat_le (length ops) (max_operations + 1))) [
      | inl fit ↦
          let fits : length ops ≤ max_operations + 1 = grind (arith, nat_tests) in
          ap (transaction service t caller) (take_all (max_operations + 1) ops fits)
      | inr many ↦
          let above : max_operations + 1 < length ops = grind (arith, nat_tests) in
          let nine : length (few ops) ≡ max_operations + 1 = length-take-le (max_operations + 1) ops (omega arith) in
          too_many service t caller (few ops) (omega (arith, nine)) ∙ sym (too_many service t caller ops (omega arith))
    ]

-- the executor goes the same way with them
pub same_executed : (service : Service) (known : Known) (t : ℕ) (caller : Identity) (ops : List Op) → exec_of service known t caller (few ops) ≡ exec_of service known t caller ops
same_executed service known t caller ops = ap (followed known (known_rows known)) (few_enough service t caller ops)
