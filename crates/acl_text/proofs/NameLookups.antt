-- A map whose keys show names, seen as pairs of a name and a number.
use Rattle.acl_text.proofs.Vocabulary.{◌≡◌, ℕ, Bool, cond, List, [], ◌∷◌, ◌++◌, Option, None, Some, is_some, not, map, refl, ap, bytes_eq, cases_Bool, number_in, is_name, name_fault, arith}
use Rattle.std.specs.Map.{lookup}
use Rattle.indexmap.specs.IndexMap.{insert_entry}
use Rattle.acl_text.specs.declared.names.NameError.TheVariants.{BadName, NameTwice}

module _ {K : Type 0} (bytes : K → List ℕ) where
  -- a pair as it is shown
  abbrev shown : K × ℕ → List ℕ × ℕ
  shown e = (bytes e.0, e.1)

  -- what is found among the pairs is what is found in the map
  pub number_in-shown : (es : List (K × ℕ)) (name : List ℕ) → number_in (map shown es) name ≡ lookup (λ key. bytes_eq name (bytes key)) es
  number_in-shown [] name = refl
  number_in-shown (e ∷ es) name = ap (cond (bytes_eq name (bytes e.0)) (Some e.1)) (number_in-shown es name)

  -- a name that is not there goes last
  pub shown-insert_entry : (es : List (K × ℕ)) (key : K) (id : ℕ) → number_in (map shown es) (bytes key) ≡ None
      → map shown (insert_entry (λ a b. bytes_eq (bytes a) (bytes b)) es key id) ≡ map shown es ++ (bytes key, id) ∷ []
  shown-insert_entry [] key id absent = refl
  shown-insert_entry (e ∷ es) key id absent = search (cases_Bool, shown-insert_entry es key id, arith)

-- a name that is taken has no number yet
absent_by : (good : Bool) (number : Option ℕ) → None ≡ cond (not good) (Some BadName) (cond (is_some number) (Some NameTwice) None) → number ≡ None
absent_by good number h2 = search arith

pub absent_without_fault : (table : List (List ℕ × ℕ)) (name : List ℕ) → None ≡ name_fault table name → number_in table name ≡ None
absent_without_fault table name h = absent_by (is_name name) (number_in table name) h
