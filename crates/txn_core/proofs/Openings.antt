-- Contents that are to be had without asking: what is known with them, and what they leave as it was.
use Rattle.txn_core.proofs.Vocabulary.{◌≡◌, ℕ, Bool, true, false, cond, [], ◌∷◌, Option, Some, refl, sym, ap, ◌∙◌, is_some, option_map_or, nat_cmp, is_at, nat_cmp_total, same_Some, IsOrdered, replace, insert_present, arith, Content, KnownSuite}
use Rattle.txn_core.proofs.Vocabulary.{ReadPoint, GatheredSuite, Suites, suite_of, with_suite, known_row, known_if, known_of}
use Rattle.file_exec.specs.Known as known
use Rattle.txn_core.proofs.Setting.{known_at}

-- ---- what is known of a suite that gets its content

abbrev with_it : GatheredSuite → Content → GatheredSuite
with_it suite content = record suite { content = Some content }

row_opened : (suite : GatheredSuite) (first : ReadPoint) (content : Content) → known.opened (known_row suite first) content ≡ known_row (record suite { content = Some content }) first
row_opened suite first content = search arith

-- another value at the number of a suite that had a quorum
replaced_known : (suites : Suites) (number : ℕ) (suite new : GatheredSuite) (first : ReadPoint) → suite_of suites number ≡ Some suite → suite.first ≡ Some first → new.first ≡ Some first
    → replace nat_cmp (known_of suites) number (known_row new first) ≡ known_of (replace nat_cmp suites number new)
replaced_known [] number suite new first is was now = refl
replaced_known (e ∷ es) number suite new first is was now = of (λ is. replaced_known es number suite new first is was now) (is_at (nat_cmp number) e.0) refl is
  where
    row : KnownSuite
    row = known_row new first

    here : (found : Option ReadPoint) → found ≡ Some first → is_at (nat_cmp number) e.0 ≡ true → replace nat_cmp (known_if e.0 e.1 found (known_of es)) number row ≡ (e.0, row) ∷ known_of es
    here found h1 h2 = search (row, arith)

    later : (found : Option ReadPoint) → is_at (nat_cmp number) e.0 ≡ false → replace nat_cmp (known_of es) number row ≡ known_of (replace nat_cmp es number new)
        → replace nat_cmp (known_if e.0 e.1 found (known_of es)) number row ≡ known_if e.0 e.1 found (known_of (replace nat_cmp es number new))
    later found h1 h2 = search (row, arith)

    of : (suite_of es number ≡ Some suite → replace nat_cmp (known_of es) number row ≡ known_of (replace nat_cmp es number new))
        → (b : Bool) → is_at (nat_cmp number) e.0 ≡ b → cond b (Some e.1) (suite_of es number) ≡ Some suite
        → replace nat_cmp (known_of (e ∷ es)) number row ≡ known_of (replace nat_cmp (e ∷ es) number new)
    of h0 b h2 h3 = search (same_Some, here, later, arith)

pub known_opened : (suites : Suites) (number : ℕ) (suite : GatheredSuite) (first : ReadPoint) (content : Content) → IsOrdered nat_cmp suites → suite_of suites number ≡ Some suite → suite.first ≡ Some first
    → known.opened_suite (known_of suites) number content ≡ known_of (with_suite number (record suite { content = Some content }) suites)
known_opened suites number suite first content ordered is was =
    let new = with_it suite content in
    let known' = known_of suites in
    ap (λ o. option_map_or (λ held. replace nat_cmp known' number (known.opened held content)) o known') (known_at suites number suite first is was)
    ∙ ap (λ held. replace nat_cmp known' number held) (row_opened suite first content)
    ∙ replaced_known suites number suite new first is was was
    ∙ ap known_of (sym (insert_present nat_cmp_total suites number new ordered (ap is_some is)))
