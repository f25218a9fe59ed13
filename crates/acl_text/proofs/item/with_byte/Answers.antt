use Rattle.acl_text.proofs.Vocabulary.{◌≡◌, true, false, [], ◌∷◌, ◌++◌, subst, sym, rules, arith, nat_tests, IsReadOf}
use Rattle.acl_text.proofs.Granting.{spoils, takes_r, takes_w, takes_x}
use Rattle.acl_text.proofs.item.with_byte.Goals as goal

pub returns-in-114 : goal.returns-in-114
returns-in-114 c = λ front is.
    let unread : c.args.letters.reads ≡ false = first_of (cc, search rules, grind (arith, nat_tests)) in
    subst (λ byte. IsReadOf (record c.args.letters { reads = true }) (front ++ byte ∷ [])) (sym c.in-114.is) (takes_r c.args.letters front is unread)

pub returns-in-119 : goal.returns-in-119
returns-in-119 c = λ front is.
    let unread : c.args.letters.writes ≡ false = first_of (cc, search rules, grind (arith, nat_tests)) in
    subst (λ byte. IsReadOf (record c.args.letters { writes = true }) (front ++ byte ∷ [])) (sym c.in-119.is) (takes_w c.args.letters front is unread)

pub returns-in-120 : goal.returns-in-120
returns-in-120 c = λ front is.
    let unread : c.args.letters.executes ≡ false = first_of (cc, search rules, grind (arith, nat_tests)) in
    subst (λ byte. IsReadOf (record c.args.letters { executes = true }) (front ++ byte ∷ [])) (sym c.in-120.is) (takes_x c.args.letters front is unread)

pub returns-in_default : goal.returns-in_default
returns-in_default c = λ front is.
    let there : c.args.letters.reads ≡ true = first_of (cc, search rules, grind (arith, nat_tests)) in
    spoils c.args.letters front c.args.byte is (λ here. there) (λ here. absurd (omega (arith, here, c.in-114.is))) (λ here. absurd (omega (arith, here, c.in-114.is))) (λ here. absurd (omega (arith, here, c.in-114.is)))

pub returns-in_default-2 : goal.returns-in_default-2
returns-in_default-2 c = λ front is.
    let there : c.args.letters.writes ≡ true = first_of (cc, search rules, grind (arith, nat_tests)) in
    spoils c.args.letters front c.args.byte is (λ here. absurd (omega (arith, here, c.in-119.is))) (λ here. there) (λ here. absurd (omega (arith, here, c.in-119.is))) (λ here. absurd (omega (arith, here, c.in-119.is)))

pub returns-in_default-3 : goal.returns-in_default-3
returns-in_default-3 c = λ front is.
    let there : c.args.letters.executes ≡ true = first_of (cc, search rules, grind (arith, nat_tests)) in
    spoils c.args.letters front c.args.byte is (λ here. absurd (omega (arith, here, c.in-120.is))) (λ here. absurd (omega (arith, here, c.in-120.is))) (λ here. there) (λ here. absurd (omega (arith, here, c.in-120.is)))

pub returns-in_default-5 : goal.returns-in_default-5
returns-in_default-5 c = λ front is.
    spoils c.args.letters front c.args.byte is (λ here. absurd (omega (arith, here, c.in_default))) (λ here. absurd (omega (arith, here, c.in_default)))
    (λ here. absurd (omega (arith, here, c.in_default))) (λ here. absurd (omega (arith, here, c.in_default)))
