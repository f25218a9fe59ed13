-- A file has no default list: so it is of each row that a transaction sets, where it is of the row that was there.
use Rattle.law_run_alone.proofs.Vocabulary.{◌≡◌, ℕ, true, false, [], ◌∷◌, Option, Some, is_some, eqb-true, arith, Content, Kind, kind_of, is_valid_prefix, Prefix, is_misplaced, Row, Edit, SetAcl, Make, Edits, changed, seen, head, ReadPoint}
use Rattle.law_run_alone.proofs.Vocabulary.{GatheredSuite, row_with, prefix_kind, FitsAs, FitsRow, AllFit, head_of}

-- the lists of a row fit its kind
abbrev pub ListsFit : Row → Type 0
ListsFit row = is_misplaced (kind_of row.content) (is_some row.acl.default) ≡ false

abbrev pub ListsFitIn : Option Row → Type 0
ListsFitIn row = (r : Row) → row ≡ Some r → ListsFit r

-- the lists that an edit sets fit the row that it meets
abbrev pub SetsFitting : Edit → Option Row → Type 0
SetsFitting (SetAcl acl) row = (r : Row) → row ≡ Some r → is_misplaced (kind_of r.content) (is_some acl.default) ≡ false
SetsFitting (Make made) row = ListsFit made
SetsFitting other row = Unit {0}

-- each of these edits, the newest first
abbrev pub AllSetFitting : (ℕ → Option Row) → Edits → Type 0
AllSetFitting rows [] = Unit {0}
AllSetFitting rows (e ∷ edits) = SetsFitting e.1 (seen edits e.0 (rows e.0)) × AllSetFitting rows edits

-- ---- rows after fitting edits

changed_fit : (edit : Edit) (row : Option Row) → FitsRow edit row → SetsFitting edit row → ListsFitIn row → ListsFitIn (changed edit row)
changed_fit edit row h2 h3 h4 h5 h6 = search arith

pub seen_fit : (rows : ℕ → Option Row) (edits : Edits) (suite : ℕ) → AllFit rows edits → AllSetFitting rows edits → ListsFitIn (rows suite) → ListsFitIn (seen edits suite (rows suite))
seen_fit rows [] suite kinds sets fit = fit
seen_fit rows (e ∷ edits) suite kinds sets fit = search (changed_fit, eqb-true, seen_fit rows edits suite, arith)

-- ---- the row that a valid prefix shows

valid_fits : (kind : Kind) (prefix : Prefix) → prefix_kind kind ≡ prefix.kind → is_valid_prefix prefix ≡ true → is_misplaced kind (is_some prefix.acl.default) ≡ false
valid_fits kind prefix h2 h3 = search arith

pub shown_fit : (suite : GatheredSuite) (first : ReadPoint) (row : Option Row) → ((c : Content) → suite.content ≡ Some c → FitsAs first.prefix.kind c) → head row ≡ head (row_with first.prefix.kind first.prefix suite.content)
    → is_valid_prefix first.prefix ≡ true → ListsFitIn row
shown_fit suite first row fits heads valid r at = search (head_of, valid_fits, arith)
