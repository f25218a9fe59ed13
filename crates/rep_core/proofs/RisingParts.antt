-- Parts whose suites rise list none twice.
use Rattle.rep_core.proofs.Vocabulary.{◌≡◌, ℕ, ◌<◌, Bool, true, false, List, [], ◌∷◌, length, refl, ap, ◌∙◌, arith, ◌==◌, ◌&&◌, ◌||◌, nat_lt, list_any, and_parts, nat_tests, Part, lists_twice}

-- whether each part's suite is above the one before
abbrev pub suites_rise : List Part → Bool
suites_rise [] = true
suites_rise (part ∷ []) = true
suites_rise (part ∷ next ∷ parts) = nat_lt part.suite next.suite && suites_rise (next ∷ parts)

pub one_rises : (parts : List Part) → length parts < 2 → suites_rise parts ≡ true
one_rises [] few = refl
one_rises (part ∷ []) few = refl
one_rises (part ∷ next ∷ parts) few = absurd (omega arith)

other : (suite later : ℕ) → suite < later → (later == suite) ≡ false
other suite later below = grind (arith, nat_tests)

above : (suite later : ℕ) → nat_lt suite later ≡ true → suite < later
above suite later below = grind (arith, nat_tests)

-- a suite below the first is not among them
not_among : (suite : ℕ) (next : Part) (parts : List Part) → suite < next.suite → suites_rise (next ∷ parts) ≡ true → list_any (λ later. later.suite == suite) (next ∷ parts) ≡ false
not_among suite next [] below rise = ap (λ b. b || false) (other suite next.suite below)
not_among suite next (part ∷ parts) below rise =
    let each = and_parts (nat_lt next.suite part.suite) (suites_rise (part ∷ parts)) rise in
    let higher = above next.suite part.suite each.0 in
    ap (λ b. b || list_any (λ later. later.suite == suite) (part ∷ parts)) (other suite next.suite below)
    ∙ not_among suite part parts (omega (arith, below, higher)) each.1

pub none_twice : (parts : List Part) → suites_rise parts ≡ true → lists_twice parts ≡ false
none_twice [] rise = refl
none_twice (part ∷ []) rise = refl
none_twice (part ∷ next ∷ parts) rise =
    let each = and_parts (nat_lt part.suite next.suite) (suites_rise (next ∷ parts)) rise in
    ap (λ b. b || lists_twice (next ∷ parts)) (not_among part.suite next parts (above part.suite next.suite each.0) each.1)
    ∙ none_twice (next ∷ parts) each.1
