-- What the caller's steps come to.
use Rattle.file_exec.proofs.Vocabulary.{◌≡◌, ℕ, Bool, true, cond, Option, Some, arith, refl, sym, ap, subst, ◌∙◌, ◌==◌, option_map, option_map_or, unsigned_tied, nat_cmp, eqb-true, nat_tests, nat_cmp_total, get-replace, replace, LockMode, serves}
use Rattle.file_exec.proofs.Vocabulary.{Row, with_content, KnownSuite, Know, head, Known, known_of, opened, is_opened, IsMore, IsMoreAt, MoreKnown, IsStep, FitsRow, OpeningMeets}

-- one suite was changed
replaced : (known : Known) (suite : ℕ) (before after : KnownSuite) (q : ℕ) → known_of known suite ≡ Some before → known_of (replace nat_cmp known suite after) q ≡ cond (suite == q) (Some after) (known_of known q)
replaced known suite before after q was =
    get-replace nat_cmp_total known suite after q
    ∙ ap (λ b. cond b (option_map (λ _. after) (known_of known q)) (known_of known q)) (unsigned_tied suite q)
    ∙ at (suite == q) refl
  where
    at : (b : Bool) → (suite == q) ≡ b → cond b (option_map (λ _. after) (known_of known q)) (known_of known q) ≡ cond b (Some after) (known_of known q)
    at b h1 = search (eqb-true, arith)

more_at : (known more : Known) (suite : ℕ) (after : KnownSuite) → ((q : ℕ) → known_of more q ≡ cond (suite == q) (Some after) (known_of known q)) → IsMoreAt (known_of known suite) (Some after) → MoreKnown known more
more_at known more suite after changed is_more q = search arith

itself : (suite : ℕ) → (suite == suite) ≡ true
itself suite = grind (arith, nat_tests)

found_at : (known more : Known) (suite : ℕ) (after : KnownSuite) → ((q : ℕ) → known_of more q ≡ cond (suite == q) (Some after) (known_of known q)) → known_of more suite ≡ Some after
found_at known more suite after changed = changed suite ∙ ap (λ b. cond b (Some after) (known_of known suite)) (itself suite)

-- ---- the laws

pub opening_meets : OpeningMeets
opening_meets known suite held content was closed fits =
    subst (λ found. IsStep known (option_map_or (λ held. replace nat_cmp known suite (opened held content)) found known) (Know suite)) (sym was) (record {
      more_known = more_at known (replace nat_cmp known suite (opened held content)) suite (opened held content) changed (subst (λ found. IsMoreAt found (Some (opened held content))) (sym was) is_more);
      met = ap is_opened (found_at known (replace nat_cmp known suite (opened held content)) suite (opened held content) changed);
    })
  where
    changed : (q : ℕ) → known_of (replace nat_cmp known suite (opened held content)) q ≡ cond (suite == q) (Some (opened held content)) (known_of known q)
    changed q = replaced known suite held (opened held content) q was

    serves_itself : (mode : LockMode) → serves mode mode ≡ true
    serves_itself mode = search arith

    same_head : (row : Option Row) → FitsRow row content → head row ≡ head (option_map (λ row. with_content row content) row)
    same_head row h1 = search arith

    is_more : IsMore held (opened held content)
    is_more = record { mode = serves_itself held.mode; head = same_head held.row fits; opened = λ _. refl; content = λ is. cc }
