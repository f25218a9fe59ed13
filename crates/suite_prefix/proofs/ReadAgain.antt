-- What was written is read again, whatever follows.
use Rattle.suite_prefix.proofs.Vocabulary.{◌≡◌, ℕ, ◌^◌, ◌<◌, List, [], ◌∷◌, ◌++◌, length, map, None, Result, Ok, refl, ap, ◌∙◌, append_assoc, arith, All, flat_map, AllByRecursion, Width, w16, w32, w64, byte_len, from_be_bytes, to_be_bytes, le-ltb}
use Rattle.suite_prefix.proofs.Vocabulary.{take_at, drop_at, length-append, flat_map-cons, recursion_from_All, Entry, Lists, qualifier, Configuration, Representative, kind_of, Content, Bytes, Names, PrefixKind, Prefix, Replica, Form, One, Two}
use Rattle.suite_prefix.proofs.Vocabulary.{entry_bytes, list_bytes, lists_bytes, representative_bytes, votes_bytes, identity_bytes, name_bytes, content_bytes, bytes_in, NumbersFit, default_entries, IsCopy, PrefixFits, IsContent, held_by, CanHold}
use Rattle.suite_prefix.proofs.Vocabulary.{form_code, CopyFault, Identity}
use Rattle.std.proofs.lemmas.Nat.{from_be_bytes-to_be_bytes_2, from_be_bytes-to_be_bytes_4, from_be_bytes-to_be_bytes_8}
use Rattle.suite_prefix.specs.Reading.{identity_at, entry_at, representative_at, name_at, many_at, list_at, lists_at, listed_at, votes_at, file_at, folder_at, shape_at, number_at, bytes_at, form_at, content_at}
use Rattle.suite_prefix.proofs.Joins.{five_pieces}
use Rattle.suite_prefix.proofs.ShapeOf.{entry_shape, shape_of}

-- ---- numbers and bytes

pub record IsWide (w : Width) (limit : ℕ) : Type 0 where
  pub len : (n : ℕ) → length (to_be_bytes w n) ≡ byte_len w
  pub again : (n : ℕ) → n < limit → from_be_bytes w (to_be_bytes w n) ≡ n

pub wide16 : IsWide w16 (2 ^ 16)
wide16 = record { len = λ n. refl; again = λ n lt. from_be_bytes-to_be_bytes_2 n lt }

pub wide32 : IsWide w32 (2 ^ 32)
wide32 = record { len = λ n. refl; again = λ n lt. from_be_bytes-to_be_bytes_4 n lt }

pub wide64 : IsWide w64 (2 ^ 64)
wide64 = record { len = λ n. refl; again = λ n lt. from_be_bytes-to_be_bytes_8 n lt }

pub number_again : (w : Width) (limit : ℕ) (wide : IsWide w limit) (n : ℕ) (rest : List ℕ) → n < limit → number_at w (to_be_bytes w n ++ rest) ≡ Ok (n, rest)
number_again w limit wide n rest lt = search (le-ltb, length-append, take_at, drop_at, arith)

pub bytes_again : (bytes rest : List ℕ) → bytes_at (length bytes) (bytes ++ rest) ≡ Ok (bytes, rest)
bytes_again bytes rest = search (le-ltb, length-append, take_at, drop_at, arith)

-- ---- so many of a kind

pub many_again : {X Y : Type 0} (one : List ℕ → Result (Y × List ℕ) CopyFault) (write : X → List ℕ) (shape : X → Y) (Fits : X → Type 0)
    → ((x : X) (rest : List ℕ) → Fits x → one (write x ++ rest) ≡ Ok (shape x, rest))
    → (xs : List X) (rest : List ℕ) → AllByRecursion Fits xs → many_at one (length xs) (flat_map write xs ++ rest) ≡ Ok (map shape xs, rest)
unfolding many_at
many_again one write shape Fits again [] rest fits = refl
many_again one write shape Fits again (x ∷ xs) rest fits = search (flat_map-cons, append_assoc, many_again one write shape Fits again xs rest, arith)

-- ---- entries and representatives

entry_again : (entry : Entry) (rest : List ℕ) → qualifier entry.tag < 2 ^ 32 → entry_at (entry_bytes entry ++ rest) ≡ Ok (entry_shape entry, rest)
unfolding entry_at
entry_again entry rest fits = search arith

representative_again : (rep : Representative) (rest : List ℕ) → Unit {0} → representative_at (representative_bytes rep ++ rest) ≡ Ok (rep, rest)
unfolding representative_at
representative_again rep rest fits = refl

name_again : (entry : List ℕ × ℕ) (rest : List ℕ) → entry.1 < 2 ^ 64 → name_at (name_bytes entry ++ rest) ≡ Ok (entry, rest)
unfolding name_at
name_again entry rest fits =
    let suite = to_be_bytes w64 entry.1 in
    let regrouped : name_bytes entry ++ rest ≡ length entry.0 ∷ (entry.0 ++ (suite ++ rest)) = ap (λ t. length entry.0 ∷ t) (append_assoc entry.0 suite rest) in
    ap name_at regrouped ∙ rw (bytes_again entry.0 (suite ++ rest), number_again w64 (2 ^ 64) wide64 entry.1 rest fits) refl

-- ---- the parts of a copy

list_again : (entries : List Entry) (rest : List ℕ) → All (λ entry. qualifier entry.tag < 2 ^ 32) entries → list_at (list_bytes entries ++ rest) ≡ Ok (map entry_shape entries, rest)
unfolding list_at
list_again entries rest fits =
    many_again entry_at entry_bytes entry_shape (λ entry. qualifier entry.tag < 2 ^ 32) entry_again entries rest (recursion_from_All (λ entry. qualifier entry.tag < 2 ^ 32) entries fits)

-- where a form knows no default list, there is none
abbrev pub IsKnown : Form → Lists → Type 0
IsKnown One lists = lists.default ≡ None
IsKnown Two lists = Unit {0}

pub is_known : (form : Form) (prefix : Prefix) → CanHold form prefix → IsKnown form prefix.acl
is_known One prefix held = held.no_default
is_known Two prefix held = tt

pub lists_again : (form : Form) (lists : Lists) (rest : List ℕ) → NumbersFit lists → IsKnown form lists
    → lists_at form (lists_bytes form lists ++ rest) ≡ Ok ((map entry_shape lists.access, map entry_shape (default_entries lists.default)), rest)
unfolding lists_at
lists_again form lists rest h3 h4 = search (list_again, entry_shape, append_assoc, arith)

all_units : {X : Type 0} (xs : List X) → AllByRecursion (λ x. Unit {0}) xs
all_units [] = tt
all_units (x ∷ xs) = (tt, all_units xs)

same_map : {X : Type 0} (xs : List X) → map (λ x. x) xs ≡ xs
same_map [] = refl
same_map (x ∷ xs) = ap (λ t. x ∷ t) (same_map xs)

reps_again : (reps : List Representative) (rest : List ℕ) → many_at representative_at (length reps) (flat_map representative_bytes reps ++ rest) ≡ Ok (reps, rest)
reps_again reps rest =
    many_again representative_at representative_bytes (λ rep. rep) (λ rep. Unit {0}) representative_again reps rest (all_units reps) ∙ ap (λ xs. Ok (xs, rest)) (same_map reps)

names_again : (names : List (List ℕ × ℕ)) (rest : List ℕ) → All (λ entry. entry.1 < 2 ^ 64) names → many_at name_at (length names) (flat_map name_bytes names ++ rest) ≡ Ok (names, rest)
names_again names rest fits =
    many_again name_at name_bytes (λ entry. entry) (λ entry. entry.1 < 2 ^ 64) name_again names rest (recursion_from_All (λ entry. entry.1 < 2 ^ 64) names fits) ∙ ap (λ xs. Ok (xs, rest)) (same_map names)

pub votes_again : (votes : Configuration) (rest : List ℕ) → votes.r < 2 ^ 16 → votes.w < 2 ^ 16 → votes_at (votes_bytes votes ++ rest) ≡ Ok (votes, rest)
unfolding votes_at listed_at
votes_again votes rest r_fits w_fits = search (append_assoc, reps_again, number_again, wide16, arith)

abbrev pub identity_of : Prefix → Identity
identity_of prefix = record { pver = prefix.pver; kind = prefix.kind; owner = prefix.owner; group = prefix.group }

pub identity_again : (prefix : Prefix) (rest : List ℕ) → PrefixFits prefix → identity_at (identity_bytes prefix ++ rest) ≡ Ok (identity_of prefix, rest)
unfolding identity_at
identity_again prefix rest fits = search arith

file_again : (bytes rest : List ℕ) → length bytes < 2 ^ 32 → file_at (content_bytes (Bytes bytes) ++ rest) ≡ Ok (Bytes bytes, rest)
unfolding file_at
file_again bytes rest fits =
    let len = to_be_bytes w32 (length bytes) in
    ap file_at (append_assoc len bytes rest) ∙ rw (number_again w32 (2 ^ 32) wide32 (length bytes) (bytes ++ rest) fits, bytes_again bytes rest) refl

folder_again : (names : List (List ℕ × ℕ)) (rest : List ℕ) → length names < 2 ^ 16 → All (λ entry. entry.1 < 2 ^ 64) names → folder_at (content_bytes (Names names) ++ rest) ≡ Ok (Names names, rest)
unfolding folder_at
folder_again names rest fits suites = search (append_assoc, number_again, wide16, names_again, arith)

pub content_again : (kind : PrefixKind) (content : Content) (rest : List ℕ) → kind_of content ≡ held_by kind → IsContent content → content_at kind (content_bytes content ++ rest) ≡ Ok (content, rest)
content_again kind content rest h3 h4 = search (file_again, folder_again, arith)

-- ---- a copy

pub form_again : (form : Form) (rest : List ℕ) → form_at (form_code form ∷ rest) ≡ Ok (form, rest)
form_again One rest = refl
form_again Two rest = refl

pub shape_again : (form : Form) (copy : Replica) (rest : List ℕ) → IsCopy copy → CanHold form copy.prefix → shape_at (bytes_in form copy ++ rest) ≡ Ok (shape_of form copy, rest)
unfolding shape_at
shape_again form copy rest valid held =
    let p = copy.prefix in
    let identity = identity_bytes p in
    let list = lists_bytes form p.acl in
    let votes = votes_bytes p.votes in
    let dver = to_be_bytes w64 copy.dver in
    let content = content_bytes copy.content in
    let after_dver = content ++ rest in
    let after_votes = dver ++ after_dver in
    let after_list = votes ++ after_votes in
    let regrouped : bytes_in form copy ++ rest ≡ form_code form ∷ (identity ++ (list ++ after_list)) =
    ap (λ t. form_code form ∷ t) (five_pieces identity list votes dver content rest) in
    ap shape_at regrouped
    ∙ rw (
      form_again form (identity ++ (list ++ after_list)),
      identity_again p (list ++ after_list) valid.prefix.fits,
      lists_again form p.acl after_list valid.prefix.fits.qualifiers (is_known form p held),
      votes_again p.votes after_votes valid.prefix.fits.r valid.prefix.fits.w,
      number_again w64 (2 ^ 64) wide64 copy.dver after_dver valid.dver_fits,
      content_again p.kind copy.content rest valid.kinds_agree valid.content,
    ) refl
