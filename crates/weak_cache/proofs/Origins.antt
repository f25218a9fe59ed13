-- Where the entries of a cache come from.
use Rattle.weak_cache.proofs.Vocabulary.{◌≡◌, ℕ, suc, ◌-◌, leb, ltb, Bool, true, false, cond, not, ◌&&◌, ◌⊎◌, inl, inr, Some, [], ◌∷◌, refl, sym, ap, ◌∙◌, arith, filter, find, option_map, All, Contains, All-nil, All-cons, All-weaker, All-contains}
use Rattle.weak_cache.proofs.Vocabulary.{Entry, Cache, size_of, is_at, is_of, forgotten, entry_of, Limits, searched, put, within_quota, within_budget}
use Rattle.suite_prefix.specs.declared.copies.Prefix.{Prefix}
use Rattle.weak_cache.specs.Laws.{SearchKeepsAll, EntriesComeFromPuts}
use Rattle.weak_cache.proofs.Found.{find_passes, searched_found}
use Rattle.weak_cache.proofs.Puts.{beside, put_is, put_none}

-- ---- an entry of a list, by recursion

abbrev pub Has : Cache → Entry → Type 0
Has [] x = ⊥
Has (y ∷ ys) x = (y ≡ x) ⊎ Has ys x

all_has : (c : Cache) → All (Has c) c
all_has [] = All-nil (Has [])
all_has (y ∷ ys) = All-cons (Has (y ∷ ys)) y ys (inl refl) (All-weaker (Has ys) (Has (y ∷ ys)) (λ x h. inr h) ys (all_has ys))

pub has_from : (c : Cache) (x : Entry) → Contains c x → Has c x
has_from c x there = All-contains (Has c) c x (all_has c) there

pub has_to : (c : Cache) (x : Entry) → Has c x → Contains c x
has_to [] x has = absurd has
has_to (y ∷ ys) x has = elim has [ inl same ↦ (0, omega arith, same) | inr rest ↦ let there = has_to ys x rest in (suc there.0, omega (arith, there.1), there.2) ]

-- ---- what is left was there

abbrev Within : Cache → Cache → Type 0
Within a b = (x : Entry) → Has a x → Has b x

more : (e : Entry) (a b : Cache) → Within a b → Within (e ∷ a) (e ∷ b)
more e a b within x has = elim has [ inl same ↦ inl same | inr rest ↦ inr (within x rest) ]

has_filter : (p : Entry → Bool) (c : Cache) (x : Entry) → Has (filter p c) x → Has c x × (p x ≡ true)
has_filter p [] x has = absurd has
has_filter p (e ∷ c) x has =
    elim (p e) as (λ t. p e ≡ t → Has (cond t (e ∷ filter p c) (filter p c)) x → Has (e ∷ c) x × (p x ≡ true)) [
      | true ↦ λ passes has. elim has [
        | inl same ↦ (inl same, ap p (sym same) ∙ passes)
        | inr rest ↦ let there = has_filter p c x rest in (inr there.0, there.1)
      ]
      | false ↦ λ _ has. let there = has_filter p c x has in (inr there.0, there.1)
    ] refl has

quota_within : (site room : ℕ) (c : Cache) → Within (within_quota site room c) c
quota_within site room [] x has = has
quota_within site room (e ∷ c) x has =
    elim (is_at site e) as (λ b. Has (cond b (cond (leb (size_of e.content) room) (e ∷ within_quota site (room - size_of e.content) c) (forgotten site c)) (e ∷ within_quota site room c)) x → Has (e ∷ c) x) [
      | true ↦ elim (leb (size_of e.content) room) as (λ t. Has (cond t (e ∷ within_quota site (room - size_of e.content) c) (forgotten site c)) x → Has (e ∷ c) x) [
        | true ↦ more e (within_quota site (room - size_of e.content) c) c (quota_within site (room - size_of e.content) c) x
        | false ↦ λ has. inr (has_filter (λ entry. not (is_at site entry)) c x has).0
      ]
      | false ↦ more e (within_quota site room c) c (quota_within site room c) x
    ] has

budget_within : (room slots : ℕ) (c : Cache) → Within (within_budget room slots c) c
budget_within room slots [] x has = has
budget_within room slots (e ∷ c) x has =
    elim (leb (size_of e.content) room && ltb 0 slots) as (λ t. Has (cond t (e ∷ within_budget (room - size_of e.content) (slots - 1) c) []) x → Has (e ∷ c) x) [
      | true ↦ more e (within_budget (room - size_of e.content) (slots - 1) c) c (budget_within (room - size_of e.content) (slots - 1) c) x
      | false ↦ λ has. absurd has
    ] has

-- ---- calls

pub put_has : (limits : Limits) (new : Entry) (c : Cache) (x : Entry) → Has (put limits new c) x → (x ≡ new) ⊎ Has c x
put_has limits new c x has = search (put_is, put_none, has_filter, beside, quota_within, budget_within, arith)

found_has : (q : Entry → Bool) (c : Cache) (x : Entry) → find q c ≡ Some x → Has c x
found_has q [] x is = cc
found_has q (e ∷ c) x is =
    elim (q e) as (λ t. cond t (Some e) (find q c) ≡ Some x → Has (e ∷ c) x) [
      | true ↦ λ is. inl (let same : e ≡ x = cc in same)
      | false ↦ λ is. inr (found_has q c x is)
    ] is

pub searched_has : (site suite dver : ℕ) (c : Cache) (x : Entry) → Has (searched site suite dver c) x → Has c x
searched_has site suite dver c x has = search (found_has, has_filter, arith)

pub forgotten_has : (site : ℕ) (c : Cache) (x : Entry) → Has (forgotten site c) x → Has c x × (is_at site x ≡ false)
forgotten_has site c x has = search (has_filter, arith)

pub hint_has : (c : Cache) (site suite : ℕ) (prefix : Prefix) → option_map (λ (entry : Entry). entry.prefix) (entry_of c site suite) ≡ Some prefix → (entry : Entry) × Has c entry × (is_of site suite entry ≡ true) × (entry.prefix ≡ prefix)
hint_has c site suite prefix is = search (found_has, find_passes, arith)

pub search_keeps_all : SearchKeepsAll
search_keeps_all = search (searched_found, arith)

pub entries_come_from_puts : EntriesComeFromPuts
entries_come_from_puts = record {
  put = λ limits new cache entry there. elim (put_has limits new cache entry (has_from _ entry there)) [ inl same ↦ inl same | inr has ↦ inr (has_to cache entry has) ];
  searched = λ site suite dver cache entry there. has_to cache entry (searched_has site suite dver cache entry (has_from _ entry there));
  forgotten = λ site cache entry there. let has = forgotten_has site cache entry (has_from _ entry there) in (has_to cache entry has.0, has.1);
  hint = λ cache site suite prefix is. let has = hint_has cache site suite prefix is in (has.0, has_to cache has.0 has.1, has.2, has.3);
}
