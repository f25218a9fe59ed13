-- Lists of names.
use Rattle.suite_content.proofs.Vocabulary.{◌≡◌, ℕ, false, ◌&&◌, ◌-◌, ◌≤◌, List, [], ◌∷◌, ◌++◌, length, take, drop, codes, Option, Some, None, is_some, list_all, zip, flat_map, get_or, refl, ap, arith, take_all, with_commas, names_in, same_names}
use Rattle.std.specs.Str.{bytes_eq}

-- a folder without names
pub no_names : (folder : List (List ℕ × ℕ)) → names_in folder ≡ [] → folder ≡ []
no_names [] none = refl
no_names (e ∷ es) none = cc

pub none_if : (o : Option ℕ) → false ≡ is_some o → o ≡ None
none_if None empty = refl
none_if (Some x) empty = cc

-- as many names, compared one by one
pub same_names-one_by_one : (own theirs : List (List ℕ × ℕ)) → length own ≡ length theirs → list_all (λ pair. bytes_eq pair.0.0 pair.1.0) (zip own theirs) ≡ same_names (names_in own) (names_in theirs)
same_names-one_by_one [] [] same = refl
same_names-one_by_one [] (e ∷ es) same = absurd (omega arith)
same_names-one_by_one (e ∷ es) [] same = absurd (omega arith)
same_names-one_by_one (d ∷ ds) (e ∷ es) same = ap (λ rest. bytes_eq d.0 e.0 && rest) (same_names-one_by_one ds es (omega arith))

-- the names of a folder behind commas
behind_commas : (folder : List (List ℕ × ℕ)) → flat_map (λ entry. codes "," ++ entry.0) folder ≡ flat_map (λ next. codes "," ++ next) (names_in folder)
behind_commas [] = refl
behind_commas (e ∷ es) = ap (λ rest. (codes "," ++ e.0) ++ rest) (behind_commas es)

-- the first name, and behind it the others
pub first_and_others : (folder : List (List ℕ × ℕ)) (first : List ℕ × ℕ) → 1 ≤ length folder → first ≡ get_or folder 0 first
    → first.0 ++ flat_map (λ entry. codes "," ++ entry.0) (take (length folder - 1) (drop 1 folder)) ≡ with_commas (names_in folder)
first_and_others folder first h2 h3 = search (take_all, behind_commas, arith)
