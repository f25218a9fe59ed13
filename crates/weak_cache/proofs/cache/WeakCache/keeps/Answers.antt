use Rattle.weak_cache.proofs.Vocabulary.{◌≡◌, ℕ, ◌==◌, [], ◌∷◌, ◌||◌, refl, ap, ◌∙◌, rules, tests, list_any, Cache, keeps, keys_of}
use Rattle.std.proofs.lemmas.Iterator.Consumers.{YieldsList-from_first}
use Rattle.std.proofs.lemmas.Iterator.Search.{any_from_yields_List}
use Rattle.weak_cache.proofs.cache.WeakCache.keeps.Goals as goal

has_site : (site : ℕ) (cache : Cache) → list_any (λ (key : ℕ × ℕ). key.0 == site) (keys_of cache) ≡ keeps site cache
has_site site [] = refl
has_site site (entry ∷ cache) = ap (λ b. (entry.site == site) || b) (has_site site cache)

pub returns : goal.returns
returns c =
    let keys = keys_of c.args.self.now.entries in
    any_from_yields_List (λ (key : ℕ × ℕ). key.0 == c.args.site) _ _ c.any.result c.any.ensures.ran (YieldsList-from_first (λ x. x) (λ entries. entries) keys c.entries.ensures) (λ x b q k. search (rules, tests))
    ∙ has_site c.args.site c.args.self.now.entries
