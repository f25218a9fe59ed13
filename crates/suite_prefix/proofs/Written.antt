-- A canonical shape is how its copy is written.
use Rattle.suite_prefix.proofs.Vocabulary.{◌≡◌, ℕ, ◌<◌, true, eqb, List, [], ◌∷◌, ◌++◌, length, map, All, refl, sym, ap, ◌∙◌, append_assoc, flat_map, eqb-true, and_parts, append-nil, length-map, flat_map-cons, arith, All-head, All-tail, Entry}
use Rattle.suite_prefix.proofs.Vocabulary.{qualifier, Form, EntryShape, entry_bytes, list_bytes, lists_bytes, bytes_in, default_entries, default_of, numbers_belong, Shape, entry_from, copy_of}
use Rattle.suite_prefix.proofs.Takes.{entry_text, identity_text, list_text, lists_text, shape_text, votes_text}

same_entry_text : (e : EntryShape) → e.number ≡ qualifier e.tag → e.permissions < 8 → entry_text e ≡ entry_bytes (entry_from e)
same_entry_text e belongs known = search arith

same_entries_text : (es : List EntryShape) → numbers_belong es ≡ true → All (λ entry. entry.permissions < 8) es → flat_map entry_text es ≡ flat_map entry_bytes (map entry_from es)
same_entries_text [] belong known = refl
same_entries_text (e ∷ es) belong known =
    let parts = and_parts (eqb e.number (qualifier e.tag)) (numbers_belong es) belong in
    let one = same_entry_text e (eqb-true e.number (qualifier e.tag) parts.0) (All-head (λ (entry : EntryShape). entry.permissions < 8) e es known) in
    let others = same_entries_text es parts.1 (All-tail (λ (entry : EntryShape). entry.permissions < 8) e es known) in
    flat_map-cons entry_text e es ∙ ap (λ (t : List ℕ). t ++ flat_map entry_text es) one ∙ ap (λ (t : List ℕ). entry_bytes (entry_from e) ++ t) others
    ∙ sym (flat_map-cons entry_bytes (entry_from e) (map entry_from es))

count_from : (es : List EntryShape) → length (map entry_from es) ≡ length es
count_from es = simp length-map

same_list_text : (es : List EntryShape) → numbers_belong es ≡ true → All (λ entry. entry.permissions < 8) es → list_text es ≡ list_bytes (map entry_from es)
same_list_text es belong known =
    ap (λ (n : ℕ). n ∷ flat_map entry_text es) (sym (count_from es)) ∙ ap (λ (t : List ℕ). length (map entry_from es) ∷ t) (same_entries_text es belong known)

pub entries_again : (es : List Entry) → default_entries (default_of es) ≡ es
entries_again [] = refl
entries_again (e ∷ es) = refl

same_lists_text : (form : Form) (entries default : List EntryShape) → numbers_belong entries ≡ true → numbers_belong default ≡ true → All (λ entry. entry.permissions < 8) entries → All (λ entry. entry.permissions < 8) default
    → lists_text form (entries, default) ≡ lists_bytes form (record { access = map entry_from entries; default = default_of (map entry_from default) })
same_lists_text form entries default h3 h4 h5 h6 = search (append-nil, list_text, same_list_text, entries_again, arith)

pub same_text : (s : Shape) → numbers_belong s.entries ≡ true → numbers_belong s.default ≡ true → All (λ entry. entry.permissions < 8) s.entries → All (λ entry. entry.permissions < 8) s.default
    → shape_text s ≡ bytes_in s.form (copy_of s)
same_text s belong default_belongs known default_known = search (same_lists_text, votes_text, append_assoc, identity_text, arith)
