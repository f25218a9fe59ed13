-- The counts of entries when one comes or goes.
use Rattle.weak_cache.proofs.Vocabulary.{◌≡◌, ℕ, ◌+◌, ◌-◌, ◌≤◌, ◌<◌, ◌≢◌, true, false, cond, [], ◌∷◌, ◌++◌, set, refl, sym, ap, ◌∙◌, arith, length-append, eq-eqb, slice_index, eqb-true, false≢true, get_or-set_same, get_or-set_other, length-set}
use Rattle.weak_cache.proofs.Vocabulary.{Entry, Cache, size_of, sum_of, is_at, list_of, forgotten, Sums, IsEntry, IsTally}
use Rattle.weak_cache.proofs.Keeping.{sum_of-append}

-- and without it
abbrev pub dropped : Sums → ℕ → ℕ → Sums
dropped t site size = record {
  count = t.count - 1;
  sum = t.sum - size;
  sites = set t.sites site (slice_index t.sites site - size);
}

-- what an entry adds, wherever it stands
sum_between : (newer : Cache) (e : Entry) (older : Cache) → sum_of (newer ++ e ∷ older) ≡ size_of e.content + sum_of (newer ++ older)
sum_between newer e older = omega (arith, sum_of-append newer (e ∷ older), sum_of-append newer older)

own_between : (site : ℕ) (newer : Cache) (e : Entry) (older : Cache) → is_at site e ≡ true → sum_of (list_of site (newer ++ e ∷ older)) ≡ size_of e.content + sum_of (list_of site (newer ++ older))
own_between site [] e older own = rw own refl
own_between site (x ∷ newer) e older own = search (own_between site newer e older own, arith)

other_between : (site : ℕ) (newer : Cache) (e : Entry) (older : Cache) → is_at site e ≡ false → list_of site (newer ++ e ∷ older) ≡ list_of site (newer ++ older)
other_between site [] e older other = rw other refl
other_between site (x ∷ newer) e older other = ap (λ l. cond (is_at site x) (x ∷ l) l) (other_between site newer e older other)

at_own : (e : Entry) → is_at e.site e ≡ true
at_own e = eq-eqb e.site e.site refl

apart : (site : ℕ) (e : Entry) → is_at site e ≡ false → site ≢ e.site
apart site e other same = false≢true (sym other ∙ eq-eqb e.site site (sym same))

pub tally_dropped : (t : Sums) (newer : Cache) (e : Entry) (older : Cache) → e.site < 16 → IsTally t (newer ++ e ∷ older) → IsTally (dropped t e.site (size_of e.content)) (newer ++ older)
tally_dropped t newer e older small h = search (length-append, sum_between, eqb-true, get_or-set_same, own_between, at_own, get_or-set_other, apart, other_between, length-set, arith)

-- what goes was counted
pub counted_between : (t : Sums) (newer : Cache) (e : Entry) (older : Cache) → e.site < 16 → IsTally t (newer ++ e ∷ older) → (size_of e.content ≤ t.sum) × (size_of e.content ≤ slice_index t.sites e.site) × (1 ≤ t.count)
counted_between t newer e older small h = search (sum_between, own_between, at_own, length-append, arith)

-- what an entry less leaves, and one more
pub tally_less : (t : Sums) (newer : Cache) (e : Entry) (older : Cache) (site size at : ℕ) → at ≡ site → e.site < 16 → IsEntry e site size → IsTally t (newer ++ e ∷ older)
    → IsTally (record { count = t.count - 1; sum = t.sum - size; sites = set t.sites at (slice_index t.sites at - size) }) (newer ++ older)
tally_less t newer e older site size at place small is h = rw (place, sym is.own_site, sym is.own_size) (tally_dropped t newer e older small h)

-- an entry that becomes the newest
pub tally_moved : (t : Sums) (newer : Cache) (e : Entry) (older : Cache) → IsTally t (newer ++ e ∷ older) → IsTally t (e ∷ newer ++ older)
tally_moved t newer e older h = search (length-append, sum_between, own_between, other_between, arith)

-- ---- sums of what is left

sum_split : (site : ℕ) (c : Cache) → sum_of c ≡ sum_of (list_of site c) + sum_of (forgotten site c)
sum_split site [] = refl
sum_split site (e ∷ c) = search (sum_split site c, arith)

pub sites_within : (t : Sums) (c : Cache) (site : ℕ) → site < 16 → IsTally t c → slice_index t.sites site ≤ sum_of c
sites_within t c site small h = omega (arith, h.sites site small, sum_split site c)
