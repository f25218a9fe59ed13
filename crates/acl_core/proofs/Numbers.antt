-- Users and groups by their numbers: which stand among entries, and whether one stands twice.
use Rattle.acl_core.proofs.Vocabulary.{◌≡◌, ℕ, ◌+◌, ◌<◌, Bool, eqb, ltb, cond, not, ◌&&◌, ◌||◌, List, [], ◌∷◌, length, get_or, drop, map, refl, sym, ap, ◌∙◌, arith, IsPermutation, IsSorted, list_any, count_by, cons_option, filter_map, zip}
use Rattle.acl_core.proofs.Vocabulary.{IsNonDecreasingBy, nat_cmp, le-ltb, get_or-map, length-map, IsNonDecreasingBy-from_sort, IsPermutation-map, Tag, User, Group, Entry, rank, same_tag, precedes, is_user, is_group, count_of, has_named, has_twice}
use Rattle.acl_core.proofs.Vocabulary.{IsSortedCopy, stands_beside, is_doubled, user_of, group_of}
use Rattle.acl_core.specs.Entries.{entry_of}
use Rattle.acl_core.proofs.Doubles.{beside-twice}
use Rattle.acl_core.proofs.ListFacts.{count_by-cons}

-- the users of some entries, and the groups
abbrev pub user_before : Tag → List ℕ → List ℕ
user_before tag users = cons_option (user_of tag) users

abbrev pub users_in : List Entry → List ℕ
users_in entries = filter_map (λ e. user_of e.tag) entries

abbrev pub group_before : Tag → List ℕ → List ℕ
group_before tag groups = cons_option (group_of tag) groups

abbrev pub groups_in : List Entry → List ℕ
groups_in entries = filter_map (λ e. group_of e.tag) entries

-- ---- how often a user stands

one_user : (id : ℕ) (tag : Tag) (users : List ℕ) → cond (same_tag tag (User id)) 1 0 + count_by (λ other. eqb other id) users ≡ count_by (λ other. eqb other id) (user_before tag users)
one_user id (User user) users = sym (count_by-cons (λ (other : ℕ). eqb other id) user users)
one_user id _ users = omega arith

count_users : (id : ℕ) (entries : List Entry) → count_of (User id) entries ≡ count_by (λ other. eqb other id) (users_in entries)
count_users id [] = refl
count_users id (e ∷ es) = search (count_by-cons, one_user, count_users id es, arith)

any_user : (p : Tag → Bool) (q : ℕ → Bool) → ((id : ℕ) → p (User id) ≡ q id) → (tag : Tag) (users : List ℕ) → ((is_user tag && p tag) || list_any q users) ≡ list_any q (user_before tag users)
any_user p q same (User id) users = ap (λ b. b || list_any q users) (same id)
any_user p q same _ users = refl

any_users : (p : Tag → Bool) (q : ℕ → Bool) → ((id : ℕ) → p (User id) ≡ q id) → (entries : List Entry) → list_any (λ e. is_user e.tag && p e.tag) entries ≡ list_any q (users_in entries)
any_users p q same [] = refl
any_users p q same (e ∷ es) = ap (λ b. (is_user e.tag && p e.tag) || b) (any_users p q same es) ∙ any_user p q same e.tag (users_in es)

pub twice_users : (entries : List Entry) → has_twice is_user entries ≡ is_doubled (users_in entries)
twice_users entries =
    any_users (λ tag. ltb 1 (count_of tag entries)) (λ id. ltb 1 (count_by (λ other. eqb other id) (users_in entries))) (λ id. ap (ltb 1) (count_users id entries)) entries

-- ---- how often a group stands

one_group : (id : ℕ) (tag : Tag) (groups : List ℕ) → cond (same_tag tag (Group id)) 1 0 + count_by (λ other. eqb other id) groups ≡ count_by (λ other. eqb other id) (group_before tag groups)
one_group id (Group group) groups = sym (count_by-cons (λ (other : ℕ). eqb other id) group groups)
one_group id _ groups = omega arith

count_groups : (id : ℕ) (entries : List Entry) → count_of (Group id) entries ≡ count_by (λ other. eqb other id) (groups_in entries)
count_groups id [] = refl
count_groups id (e ∷ es) = search (count_by-cons, one_group, count_groups id es, arith)

any_group : (p : Tag → Bool) (q : ℕ → Bool) → ((id : ℕ) → p (Group id) ≡ q id) → (tag : Tag) (groups : List ℕ) → ((is_group tag && p tag) || list_any q groups) ≡ list_any q (group_before tag groups)
any_group p q same (Group id) groups = ap (λ b. b || list_any q groups) (same id)
any_group p q same _ groups = refl

any_groups : (p : Tag → Bool) (q : ℕ → Bool) → ((id : ℕ) → p (Group id) ≡ q id) → (entries : List Entry) → list_any (λ e. is_group e.tag && p e.tag) entries ≡ list_any q (groups_in entries)
any_groups p q same [] = refl
any_groups p q same (e ∷ es) = ap (λ b. (is_group e.tag && p e.tag) || b) (any_groups p q same es) ∙ any_group p q same e.tag (groups_in es)

pub twice_groups : (entries : List Entry) → has_twice is_group entries ≡ is_doubled (groups_in entries)
twice_groups entries =
    any_groups (λ tag. ltb 1 (count_of tag entries)) (λ id. ltb 1 (count_by (λ other. eqb other id) (groups_in entries))) (λ id. ap (ltb 1) (count_groups id entries)) entries

-- ---- whether there is one

abbrev pub is_some : List ℕ → Bool
is_some numbers = not (eqb (length numbers) 0)

named_step : (tag : Tag) (users groups : List ℕ) → (is_some (user_before tag users) || is_some (group_before tag groups)) ≡ ((is_user tag || is_group tag) || (is_some users || is_some groups))
named_step tag users groups = search arith

pub named_some : (entries : List Entry) → (is_some (users_in entries) || is_some (groups_in entries)) ≡ has_named entries
named_some [] = refl
named_some (e ∷ es) = named_step e.tag (users_in es) (groups_in es) ∙ ap (λ b. (is_user e.tag || is_group e.tag) || b) (named_some es)

-- ---- neighbours

abbrev user_entry : ℕ → Entry
user_entry id = entry_of (User id) 0

users_back : (ids : List ℕ) → users_in (map user_entry ids) ≡ ids
users_back [] = refl
users_back (id ∷ ids) = ap (λ more. id ∷ more) (users_back ids)

beside_numbers : (sorted : List ℕ) → list_any (λ pair. eqb pair.0 pair.1) (zip sorted (drop 1 sorted)) ≡ stands_beside (λ t. eqb (rank t) 1) (map user_entry sorted)
beside_numbers [] = refl
beside_numbers (x ∷ []) = refl
beside_numbers (x ∷ y ∷ ys) = ap (λ b. eqb x y || b) (beside_numbers (y ∷ ys))

sorted_entries : (ids sorted : List ℕ) → IsPermutation ids sorted → IsNonDecreasingBy (λ x. x) sorted → IsSortedCopy (map user_entry ids) (map user_entry sorted)
sorted_entries ids sorted moved rises = record {
  moved = IsPermutation-map user_entry ids sorted moved;
  ordered = λ k d low high.
      let same = length-map sorted user_entry in
      let next : k + 1 < length sorted = omega (arith, high, same) in
      let here : k < length sorted = omega (arith, next) in
      (λ i. precedes (get_or-map user_entry sorted (k + 1) 0 d next i).tag (get_or-map user_entry sorted k 0 d here i).tag)
      ∙ le-ltb (get_or sorted (k + 1) 0) (get_or sorted k 0) (rises k (k + 1) 0 (omega arith) next);
}

-- neighbours in rising order tell whether a number stands twice
pub beside_doubled : (ids sorted : List ℕ) → IsPermutation ids sorted → IsSorted nat_cmp sorted → list_any (λ pair. eqb pair.0 pair.1) (zip sorted (drop 1 sorted)) ≡ is_doubled ids
beside_doubled ids sorted moved rising =
    beside_numbers sorted
    ∙ beside-twice 1 (map user_entry ids) (map user_entry sorted) (sorted_entries ids sorted moved (IsNonDecreasingBy-from_sort (λ x. x) sorted rising))
    ∙ twice_users (map user_entry ids)
    ∙ ap is_doubled (users_back ids)
