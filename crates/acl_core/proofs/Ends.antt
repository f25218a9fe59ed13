-- Which entries stand at the ends of a valid list: the owner's first, the others' last, and the mask right before it.
use Rattle.acl_core.proofs.Vocabulary.{◌≡◌, ℕ, zero, suc, ◌+◌, ◌<◌, ◌≤◌, Bool, true, false, cond, eqb, List, [], ◌∷◌, length, get_or, refl, ◌∙◌, ap, sym, inl, inr, filter, arith, list_any, cases_Bool, nat_tests, get_or_default, Tag, UserObj, User}
use Rattle.acl_core.proofs.Vocabulary.{Mask, Other, Entry, same_tag, precedes, is_user, IsAcl, IsCanonical, count_of, Perms, has_all, Identity, answer, check_of, mask_grants, one_grants}
use Rattle.acl_core.proofs.TagFacts.{same_tag_is}
use Rattle.acl_core.proofs.Answering.{answer_named, one_any}
use Rattle.acl_core.proofs.OneEntry.{any_kept, none_at_end, one_at}

-- nothing stands before the owner's tag, nothing after the others', and nothing between the mask's and that one
none_before : (t : Tag) → precedes t UserObj ≡ false
none_before UserObj = refl
none_before _ = refl

none_behind : (t : Tag) → precedes Other t ≡ false
none_behind UserObj = refl
none_behind _ = refl

-- what has another behind it stands before the others' tag
before_others : (a b : Tag) → precedes a b ≡ true → precedes a Other ≡ true
before_others Other b h = let bad : true ≡ false = sym h ∙ none_behind b in cc
before_others _ b h = refl

-- and what has two behind it, before the mask's
before_mask : (a b c : Tag) → precedes a b ≡ true → precedes b c ≡ true → precedes a Mask ≡ true
before_mask a b c h3 h4 = search arith

before_or_mask : (a : Tag) → precedes a Other ≡ true → same_tag a Mask ≡ false → precedes a Mask ≡ true
before_or_mask a h1 h2 = search arith

behind_mask : (a : Tag) → precedes a Other ≡ false → (precedes a Mask ≡ false) × (same_tag a Mask ≡ false)
behind_mask Other h = (refl, refl)
behind_mask _ h = cc

-- what stands behind another and names no user stands behind all users
behind_users : (a b : Tag) (user : ℕ) → precedes a b ≡ true → is_user b ≡ false → (precedes b (User user) ≡ false) × (same_tag b (User user) ≡ false)
behind_users a b user h3 h4 = search arith

-- an entry that is counted is left when those of its tag are
not_empty : (tag : Tag) (entries : List Entry) → count_of tag entries ≡ 1 → filter (λ e. same_tag e.tag tag) entries ≡ [] → true ≡ false
not_empty tag entries one none =
    sym (one_any tag entries one) ∙ any_kept (λ e. same_tag e.tag tag) entries ∙ ap (list_any (λ (e : Entry). true)) none

-- a test that passes before a place and at it
up_to : (p : Entry → Bool) (entries : List Entry) (place : ℕ) (e : Entry) → place < length entries
    → ((k : ℕ) (x : Entry) → k < place → p (get_or entries k x) ≡ true) → p (get_or entries place e) ≡ true
    → (k : ℕ) (x : Entry) → k ≤ place → p (get_or entries k x) ≡ true
up_to p entries place e inside before at k x le = search (cases_Bool, nat_tests, get_or_default, arith)

-- the owner's entry stands first
first_at : (entries : List Entry) (e : Entry) → IsAcl entries → 0 < length entries
    → filter (λ x. same_tag x.tag UserObj) entries ≡ cond (same_tag (get_or entries 0 e).tag UserObj) (get_or entries 0 e ∷ []) []
first_at entries e acl inside =
    one_at UserObj entries 0 e acl.canonical inside (λ k x lt. absurd (omega (arith, lt))) (none_before (get_or entries 0 e).tag)

first_is_owner : (entries : List Entry) (e : Entry) → IsAcl entries → 0 < length entries → (get_or entries 0 e).tag ≡ UserObj
first_is_owner entries e acl inside =
    elim (cases_Bool (same_tag (get_or entries 0 e).tag UserObj)) [
      | inl same ↦ same_tag_is (get_or entries 0 e).tag UserObj same
      | inr other ↦
          let none = first_at entries e acl inside ∙ ap (λ b. cond b (get_or entries 0 e ∷ []) []) other in
          let bad = not_empty UserObj entries acl.accepted.valid.one_user_obj none in
          cc
    ]

pub owner_first : (entries : List Entry) (e : Entry) → IsAcl entries → 0 < length entries → e ≡ get_or entries 0 e → filter (λ x. same_tag x.tag UserObj) entries ≡ e ∷ []
owner_first entries e acl inside is =
    first_at entries e acl inside
    ∙ ap (λ t. cond (same_tag t UserObj) (get_or entries 0 e ∷ []) []) (first_is_owner entries e acl inside)
    ∙ ap (λ (x : Entry). x ∷ []) (sym is)

-- named users stand right behind it
first_before : (entries : List Entry) (user k : ℕ) (x : Entry) → IsAcl entries → 0 < length entries → k < 1 → precedes (get_or entries k x).tag (User user) ≡ true
first_before entries user zero x acl inside lt = ap (λ t. precedes t (User user)) (first_is_owner entries x acl inside)
first_before entries user (suc k) x acl inside lt = absurd (omega (arith, lt))

pub no_user : (entries : List Entry) (user : ℕ) (e : Entry) → IsAcl entries → 1 < length entries → is_user (get_or entries 1 e).tag ≡ false → filter (λ x. same_tag x.tag (User user)) entries ≡ []
no_user entries user e acl inside other =
    let behind = behind_users (get_or entries 0 e).tag (get_or entries 1 e).tag user (acl.canonical 0 1 e (omega arith) inside) other in
    one_at (User user) entries 1 e acl.canonical inside (λ k x lt. first_before entries user k x acl (omega (arith, inside)) lt) behind.0
    ∙ ap (λ b. cond b (get_or entries 1 e ∷ []) []) behind.1

pub no_user_in_short : (entries : List Entry) (user : ℕ) → IsAcl entries → length entries < 2 → filter (λ x. same_tag x.tag (User user)) entries ≡ []
no_user_in_short [] user acl short = refl
no_user_in_short (e ∷ []) user acl short = ap (λ t. cond (same_tag t (User user)) (e ∷ []) []) (first_is_owner (e ∷ []) e acl (omega arith))
no_user_in_short (e ∷ f ∷ es) user acl short = absurd (omega (arith, short))

-- the others' entry stands last
before_last : (entries : List Entry) (place : ℕ) → IsCanonical entries → length entries ≡ place + 1 → (k : ℕ) (x : Entry) → k < place → precedes (get_or entries k x).tag Other ≡ true
before_last entries place canonical len k x lt =
    before_others (get_or entries k x).tag (get_or entries place x).tag (canonical k place x lt (omega (arith, len)))

last_is_others : (entries : List Entry) (place : ℕ) (e : Entry) → IsAcl entries → length entries ≡ place + 1 → precedes (get_or entries place e).tag Other ≡ false
last_is_others entries place e acl len =
    elim (cases_Bool (precedes (get_or entries place e).tag Other)) [
      | inl before ↦
          let inside : place < length entries = omega (arith, len) in
          let none = none_at_end Other entries (λ k x lt. up_to (λ (y : Entry). precedes y.tag Other) entries place e inside (before_last entries place acl.canonical len) before k x (omega (arith, len, lt))) in
          let bad = not_empty Other entries acl.accepted.valid.one_other none in
          cc
      | inr at ↦ at
    ]

is_others : (t : Tag) → precedes t Other ≡ false → same_tag t Other ≡ true
is_others Other h = refl
is_others _ h = cc

pub others_last : (entries : List Entry) (place : ℕ) (e : Entry) → IsAcl entries → length entries ≡ place + 1 → e ≡ get_or entries place e → filter (λ x. same_tag x.tag Other) entries ≡ e ∷ []
others_last entries place e acl len is =
    let at = last_is_others entries place e acl len in
    one_at Other entries place e acl.canonical (omega (arith, len)) (before_last entries place acl.canonical len) at
    ∙ ap (λ b. cond b (get_or entries place e ∷ []) []) (is_others (get_or entries place e).tag at)
    ∙ ap (λ (x : Entry). x ∷ []) (sym is)

-- the mask stands right before it, or nowhere
before_place : (entries : List Entry) (place : ℕ) → IsCanonical entries → length entries ≡ place + 2 → (k : ℕ) (x : Entry) → k < place → precedes (get_or entries k x).tag Mask ≡ true
before_place entries place canonical len k x lt =
    before_mask (get_or entries k x).tag (get_or entries place x).tag (get_or entries (place + 1) x).tag
    (canonical k place x lt (omega (arith, len))) (canonical place (place + 1) x (omega arith) (omega (arith, len)))

pub mask_there : (entries : List Entry) (place : ℕ) (e : Entry) → IsAcl entries → length entries ≡ place + 2 → e ≡ get_or entries place e → e.tag ≡ Mask → filter (λ x. same_tag x.tag Mask) entries ≡ e ∷ []
mask_there entries place e acl len is mask =
    let at : (get_or entries place e).tag ≡ Mask = ap (λ (x : Entry). x.tag) (sym is) ∙ mask in
    one_at Mask entries place e acl.canonical (omega (arith, len)) (before_place entries place acl.canonical len) (ap (λ t. precedes t Mask) at)
    ∙ ap (λ t. cond (same_tag t Mask) (get_or entries place e ∷ []) []) at
    ∙ ap (λ (x : Entry). x ∷ []) (sym is)

pub no_mask : (entries : List Entry) (place : ℕ) (e : Entry) → IsAcl entries → length entries ≡ place + 2 → e ≡ get_or entries place e → same_tag e.tag Mask ≡ false → filter (λ x. same_tag x.tag Mask) entries ≡ []
no_mask entries place e acl len is other =
    let last : length entries ≡ place + 1 + 1 = omega (arith, len) in
    let behind = behind_mask (get_or entries (place + 1) e).tag (last_is_others entries (place + 1) e acl last) in
    let before : precedes (get_or entries place e).tag Other ≡ true = before_last entries (place + 1) acl.canonical last place e (omega arith) in
    let there : precedes (get_or entries place e).tag Mask ≡ true = before_or_mask (get_or entries place e).tag before (ap (λ (x : Entry). same_tag x.tag Mask) (sym is) ∙ other) in
    one_at Mask entries (place + 1) e acl.canonical (omega (arith, len))
    (λ k x lt. up_to (λ (y : Entry). precedes y.tag Mask) entries place e (omega (arith, len)) (before_place entries place acl.canonical len) there k x (omega (arith, lt))) behind.0
    ∙ ap (λ b. cond b (get_or entries (place + 1) e ∷ []) []) behind.1

pub no_mask_in_short : (entries : List Entry) → IsAcl entries → length entries < 2 → filter (λ x. same_tag x.tag Mask) entries ≡ []
no_mask_in_short [] acl short = refl
no_mask_in_short (e ∷ []) acl short = ap (λ b. cond b (e ∷ []) []) ((behind_mask e.tag (last_is_others (e ∷ []) 0 e acl refl)).1)
no_mask_in_short (e ∷ f ∷ es) acl short = absurd (omega (arith, short))

-- what one entry grants
pub granted_by_one : (e : Entry) (wanted : Perms) → has_all e.perms wanted ≡ one_grants (e ∷ []) wanted
granted_by_one e wanted = elim (cases_Bool (has_all e.perms wanted)) [ inl all ↦ rw all refl | inr lacks ↦ rw lacks refl ]

-- the answer by the one entry of a user, and that there is none
pub answer_user : (entries : List Entry) (owner group : ℕ) (caller : Identity) (wanted : Perms) (user : Entry) → eqb caller.uid owner ≡ false → filter (λ e. same_tag e.tag (User caller.uid)) entries ≡ user ∷ []
    → check_of entries owner group caller wanted ≡ answer (has_all user.perms wanted) (mask_grants entries wanted) (User caller.uid)
answer_user entries owner group caller wanted user other one =
    let there : list_any (λ (e : Entry). same_tag e.tag (User caller.uid)) entries ≡ true =
    any_kept (λ e. same_tag e.tag (User caller.uid)) entries ∙ ap (list_any (λ (e : Entry). true)) one in
    answer_named entries owner group caller wanted other there
    ∙ ap (λ (list : List Entry). answer (one_grants list wanted) (mask_grants entries wanted) (User caller.uid)) one
    ∙ ap (λ b. answer b (mask_grants entries wanted) (User caller.uid)) (sym (granted_by_one user wanted))

pub none_kept : (p : Entry → Bool) (entries : List Entry) → filter p entries ≡ [] → list_any p entries ≡ false
none_kept p entries none = any_kept p entries ∙ ap (list_any (λ (e : Entry). true)) none
