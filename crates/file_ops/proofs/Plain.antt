-- Stored rows as the rows that are seen of them: an edit of the ones is an edit of the others.
use Rattle.file_ops.proofs.Vocabulary.{◌≡◌, ℕ, List, [], ◌∷◌, Some, None, refl, sym, ap, ◌∙◌, subst, is_some, option_map, option_map_or, nat_cmp, is_at, cases_Bool, nat_cmp_total, none-some, IsOrdered, get, insert, replace, remove, arith}
use Rattle.file_ops.proofs.Vocabulary.{insert_present, replace_same, StoredContent, StoredRow, StoredRows, plain, plain_content, plain_row, Row, row_of, with_row, with_content, edited, in_names, number_in, number_at}
use Rattle.std.specs.List.Sorted.{IsStrictlySortedBy}
use Rattle.std.proofs.lemmas.Map.Made.{lookup-map_values, keys_of-map_values}

-- what is seen of a stored row is the row
pub row_of-plain : (rows : StoredRows) (suite : ℕ) → row_of (plain rows) suite ≡ option_map plain_row (get nat_cmp rows suite)
row_of-plain rows suite = lookup-map_values plain_row (is_at (nat_cmp suite)) rows

pub plain-replace : (rows : StoredRows) (suite : ℕ) (row : StoredRow) → plain (replace nat_cmp rows suite row) ≡ replace nat_cmp (plain rows) suite (plain_row row)
plain-replace [] suite row = refl
plain-replace (e ∷ es) suite row = search (cases_Bool, plain-replace es suite row, arith)

pub plain-insert : (rows : StoredRows) (suite : ℕ) (row : StoredRow) → plain (insert nat_cmp rows suite row) ≡ insert nat_cmp (plain rows) suite (plain_row row)
plain-insert [] suite row = refl
plain-insert (e ∷ es) suite row = search (plain-insert es suite row, arith)

pub plain-remove : (rows : StoredRows) (suite : ℕ) → plain (remove nat_cmp rows suite) ≡ remove nat_cmp (plain rows) suite
plain-remove [] suite = refl
plain-remove (e ∷ es) suite = search (cases_Bool, plain-remove es suite, arith)

pub ordered-plain : (rows : StoredRows) → IsOrdered nat_cmp rows → IsOrdered nat_cmp (plain rows)
ordered-plain rows ordered = subst (IsStrictlySortedBy nat_cmp) (sym (keys_of-map_values plain_row rows)) ordered

-- a row that was there, edited
pub edited-there : (rows : StoredRows) (suite : ℕ) (before row : StoredRow) (edit : Row → Row) → IsOrdered nat_cmp rows → get nat_cmp rows suite ≡ Some before
    → plain_row row ≡ edit (plain_row before) → plain (replace nat_cmp rows suite row) ≡ edited (plain rows) suite edit
edited-there rows suite before row edit ordered there is =
    let seen : row_of (plain rows) suite ≡ Some (plain_row before) = row_of-plain rows suite ∙ ap (option_map plain_row) there in
    plain-replace rows suite row
    ∙ sym (insert_present nat_cmp_total (plain rows) suite (plain_row row) (ordered-plain rows ordered) (ap is_some seen))
    ∙ ap (with_row (plain rows) suite) is
    ∙ sym (ap (λ found. option_map_or (λ r. with_row (plain rows) suite (edit r)) found (plain rows)) seen)

-- no row to edit
pub edited-absent : (rows : StoredRows) (suite : ℕ) (edit : Row → Row) → get nat_cmp rows suite ≡ None → plain rows ≡ edited (plain rows) suite edit
edited-absent rows suite edit absent =
    sym (ap (λ found. option_map_or (λ r. with_row (plain rows) suite (edit r)) found (plain rows)) (row_of-plain rows suite ∙ ap (option_map plain_row) absent))

-- a row in which nothing is seen to change
pub unchanged : (rows : StoredRows) (suite : ℕ) (before row : StoredRow) → get nat_cmp rows suite ≡ Some before → plain_row row ≡ plain_row before → plain (replace nat_cmp rows suite row) ≡ plain rows
unchanged rows suite before row there same =
    plain-replace rows suite row ∙ replace_same nat_cmp_total (plain rows) suite (plain_row row) (row_of-plain rows suite ∙ ap (option_map plain_row) there ∙ ap Some (sym same))

-- a row that holds something else
pub other_content : (rows : StoredRows) (suite : ℕ) (before : StoredRow) (held : StoredContent) (edit : List (List ℕ × ℕ) → List (List ℕ × ℕ)) → IsOrdered nat_cmp rows
    → get nat_cmp rows suite ≡ Some before → plain_content held ≡ in_names edit (plain_content before.content)
    → plain (replace nat_cmp rows suite (record before { content = held })) ≡ edited (plain rows) suite (λ row. with_content row (in_names edit row.content))
other_content rows suite before held edit ordered there is =
    edited-there rows suite before (record before { content = held }) (λ row. with_content row (in_names edit row.content)) ordered there (ap (with_content (plain_row before)) is)

pub same_content : (rows : StoredRows) (suite : ℕ) (before : StoredRow) (held : StoredContent) → get nat_cmp rows suite ≡ Some before
    → plain_content held ≡ plain_content before.content → plain (replace nat_cmp rows suite (record before { content = held })) ≡ plain rows
same_content rows suite before held there is =
    unchanged rows suite before (record before { content = held }) there (ap (with_content (plain_row before)) is)

-- a row that holds what it held
pub kept_row : (rows : StoredRows) (suite : ℕ) (before : StoredRow) (held : StoredContent) → get nat_cmp rows suite ≡ Some before → held ≡ before.content → replace nat_cmp rows suite (record before { content = held }) ≡ rows
kept_row rows suite before held there same =
    replace_same nat_cmp_total rows suite (record before { content = held }) (there ∙ ap Some (ap (λ h. record before { content = h }) (sym same)))

pub same_row : (a b : Row) → Some a ≡ Some b → a ≡ b
same_row a b h = cc h

-- no name where there is no row
pub no_number : (rows : StoredRows) (suite : ℕ) (name : List ℕ) (number : ℕ) → get nat_cmp rows suite ≡ None → number_at (plain rows) suite name ≡ Some number → ⊥
no_number rows suite name number absent there =
    none-some number (sym (ap (λ found. option_map_or (λ row. number_in row.content name) found None) (row_of-plain rows suite ∙ ap (option_map plain_row) absent)) ∙ there)
