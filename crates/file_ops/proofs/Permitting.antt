-- The rules of permission look at nothing but what is handed to them.
use Rattle.file_ops.proofs.Vocabulary.{◌≡◌, ℕ, List, cond, eqb, Ok, refl, ap, ◌∙◌, Identity, unless_denied}
use Rattle.acl_core.specs.Checks.{check_of}
use Rattle.acl_core.specs.declared.entry.Entry.{Entry}
use Rattle.acl_core.specs.declared.perms.Perms.{Perms}

pub same_permit : (caller : Identity) (wanted : Perms) {s s' o o' g g' : ℕ} {a a' : List Entry} → s ≡ s' → o ≡ o' → g ≡ g' → a ≡ a'
    → unless_denied s wanted (check_of a o g caller wanted) ≡ unless_denied s' wanted (check_of a' o' g' caller wanted)
same_permit caller wanted {s = s} {s' = s'} {o = o} {o' = o'} {g = g} {g' = g'} {a = a} {a' = a'} suites owners groups lists =
    ap (λ s. unless_denied s wanted (check_of a o g caller wanted)) suites
    ∙ ap (λ o. unless_denied s' wanted (check_of a o g caller wanted)) owners
    ∙ ap (λ g. unless_denied s' wanted (check_of a o' g caller wanted)) groups
    ∙ ap (λ a. unless_denied s' wanted (check_of a o' g' caller wanted)) lists

pub same_permit_others : (caller : Identity) (wanted : Perms) {s s' o o' g g' : ℕ} {a a' : List Entry} → s ≡ s' → o ≡ o' → g ≡ g' → a ≡ a'
    → cond (eqb caller.uid o) (Ok tt) (unless_denied s wanted (check_of a o g caller wanted)) ≡ cond (eqb caller.uid o') (Ok tt) (unless_denied s' wanted (check_of a' o' g' caller wanted))
same_permit_others caller wanted {s = s} {o' = o'} {g = g} {a = a} suites owners groups lists =
    ap (λ o. cond (eqb caller.uid o) (Ok tt) (unless_denied s wanted (check_of a o g caller wanted))) owners
    ∙ ap (λ permitted. cond (eqb caller.uid o') (Ok tt) permitted) (same_permit caller wanted suites refl groups lists)
