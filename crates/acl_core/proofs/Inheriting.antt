-- What is made in a folder with a default list gets a valid list: cutting permissions leaves each entry's tag.
use Rattle.acl_core.proofs.Vocabulary.{◌≡◌, ℕ, ◌+◌, ◌<◌, ◌≤◌, ◌||◌, Bool, cond, List, [], ◌∷◌, Option, Some, None, length, get_or, map, refl, ◌∙◌, ap, subst, sym, arith, list_any, count_by, length-map, get_or-map, Tag, Entry, UserObj, User, GroupObj}
use Rattle.acl_core.proofs.Vocabulary.{Group, Mask, Other, is_group, is_user, precedes, same_tag, IsAcl, IsCanonical, count_of, max_entries, cut_to, has_mask, inherited, limit_of}
use Rattle.acl_core.proofs.ListFacts.{count_by-cons}

cut_tag : (limit : Option ℕ) (e : Entry) → (cut_to limit e).tag ≡ e.tag
cut_tag None e = refl
cut_tag (Some digit) e = refl

count_mapped : (p : Tag → Bool) (f : Entry → Entry) → ((e : Entry) → (f e).tag ≡ e.tag) → (xs : List Entry) → count_by (λ e. p e.tag) (map f xs) ≡ count_by (λ e. p e.tag) xs
count_mapped p f kept [] = refl
count_mapped p f kept (x ∷ xs) =
    count_by-cons (λ (e : Entry). p e.tag) (f x) (map f xs)
    ∙ ap (λ t. cond (p t) 1 0 + count_by (λ (e : Entry). p e.tag) (map f xs)) (kept x)
    ∙ ap (λ n. cond (p x.tag) 1 0 + n) (count_mapped p f kept xs)
    ∙ sym (count_by-cons (λ (e : Entry). p e.tag) x xs)

any_mapped : (p : Tag → Bool) (f : Entry → Entry) → ((e : Entry) → (f e).tag ≡ e.tag) → (xs : List Entry) → list_any (λ e. p e.tag) (map f xs) ≡ list_any (λ e. p e.tag) xs
any_mapped p f kept [] = refl
any_mapped p f kept (x ∷ xs) = rw (kept x, any_mapped p f kept xs) refl

canonical_mapped : (f : Entry → Entry) → ((e : Entry) → (f e).tag ≡ e.tag) → (xs : List Entry) → IsCanonical xs → IsCanonical (map f xs)
canonical_mapped f kept xs canonical = λ i j d lt inside.
    let within : j < length xs = subst (λ n. j < n) (length-map xs f) inside in
    let before : i < length xs = omega arith in
    let first : (get_or (map f xs) i d).tag ≡ (get_or xs i d).tag = ap (λ (e : Entry). e.tag) (get_or-map f xs i d d before) ∙ kept (get_or xs i d) in
    let second : (get_or (map f xs) j d).tag ≡ (get_or xs j d).tag = ap (λ (e : Entry). e.tag) (get_or-map f xs j d d within) ∙ kept (get_or xs j d) in
    ap (λ t. precedes t (get_or (map f xs) j d).tag) first ∙ ap (precedes (get_or xs i d).tag) second ∙ canonical i j d lt within

-- a list with the same tags is valid where the first is
acl_mapped : (f : Entry → Entry) → ((e : Entry) → (f e).tag ≡ e.tag) → (xs : List Entry) → IsAcl xs → IsAcl (map f xs)
acl_mapped f kept xs acl =
    let valid = acl.accepted.valid in
    let counted : (tag : Tag) → count_of tag (map f xs) ≡ count_of tag xs = λ tag. count_mapped (λ t. same_tag t tag) f kept xs in record {
      accepted = record {
        valid = record {
          one_user_obj = counted UserObj ∙ valid.one_user_obj;
          one_group_obj = counted GroupObj ∙ valid.one_group_obj;
          one_other = counted Other ∙ valid.one_other;
          one_mask_at_most = subst (λ n. n ≤ 1) (sym (counted Mask)) valid.one_mask_at_most;
          mask_if_named = λ named. counted Mask ∙ valid.mask_if_named (sym (any_mapped (λ t. is_user t || is_group t) f kept xs) ∙ named);
          users_apart = λ user. subst (λ n. n ≤ 1) (sym (counted (User user))) (valid.users_apart user);
          groups_apart = λ group. subst (λ n. n ≤ 1) (sym (counted (Group group))) (valid.groups_apart group);
        };
        few = subst (λ n. n ≤ max_entries) (sym (length-map xs f)) acl.accepted.few;
      };
      canonical = canonical_mapped f kept xs acl.canonical;
    }

pub inherited_acl : (list : List Entry) (mode : ℕ) → IsAcl list → IsAcl (inherited list mode)
inherited_acl list mode acl = acl_mapped (λ e. cut_to (limit_of (has_mask list) mode e.tag) e) (λ e. cut_tag (limit_of (has_mask list) mode e.tag) e) list acl
