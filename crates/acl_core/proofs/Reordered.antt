-- Entries in another order have the same first fault.
use Rattle.acl_core.proofs.Vocabulary.{◌≡◌, Bool, eqb, ltb, ◌&&◌, ◌||◌, List, [], ◌∷◌, sym, ap, ◌∙◌, IsPermutation, list_any, find, list_any-IsPermutation, length_permutation, Tag, UserObj, GroupObj, Mask, Other, Entry, AclFault, NoUserObj}
use Rattle.acl_core.proofs.Vocabulary.{NoGroupObj, NoOther, TwiceSingle, UserTwice, GroupTwice, MaskMissing, TooMany, is_user, is_group, count_of, has_twice, has_fault, has_named, max_entries, faults, first_fault}
use Rattle.acl_core.proofs.Sorting.{count_of_permutation}

twice_permutation : (kind : Tag → Bool) (xs ys : List Entry) → IsPermutation xs ys → has_twice kind ys ≡ has_twice kind xs
twice_permutation kind xs ys h =
    (λ i. list_any (λ e. kind e.tag && ltb 1 (count_of_permutation xs ys h e.tag i)) ys)
    ∙ sym (list_any-IsPermutation (λ (e : Entry). kind e.tag && ltb 1 (count_of e.tag xs)) xs ys h)

named_permutation : (xs ys : List Entry) → IsPermutation xs ys → has_named ys ≡ has_named xs
named_permutation xs ys h = sym (list_any-IsPermutation (λ (e : Entry). is_user e.tag || is_group e.tag) xs ys h)

fault_permutation : (fault : AclFault) (xs ys : List Entry) → IsPermutation xs ys → has_fault fault ys ≡ has_fault fault xs
fault_permutation NoUserObj xs ys h = ap (λ n. eqb n 0) (count_of_permutation xs ys h UserObj)
fault_permutation NoGroupObj xs ys h = ap (λ n. eqb n 0) (count_of_permutation xs ys h GroupObj)
fault_permutation NoOther xs ys h = ap (λ n. eqb n 0) (count_of_permutation xs ys h Other)
fault_permutation TwiceSingle xs ys h = λ i. list_any (λ tag. ltb 1 (count_of_permutation xs ys h tag i)) (UserObj ∷ GroupObj ∷ Mask ∷ Other ∷ [])
fault_permutation UserTwice xs ys h = twice_permutation is_user xs ys h
fault_permutation GroupTwice xs ys h = twice_permutation is_group xs ys h
fault_permutation MaskMissing xs ys h = λ i. named_permutation xs ys h i && eqb (count_of_permutation xs ys h Mask i) 0
fault_permutation TooMany xs ys h = ap (ltb max_entries) (length_permutation xs ys h)

pub first_fault_permutation : (xs ys : List Entry) → IsPermutation xs ys → first_fault ys ≡ first_fault xs
first_fault_permutation xs ys h = λ i. find (λ fault. fault_permutation fault xs ys h i) faults
