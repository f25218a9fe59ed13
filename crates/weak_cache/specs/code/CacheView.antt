-- The fields of a cache as contracts see them.
use Rattle.weak_cache.specs.declared.cache.WeakCache.TheInside.{Inside}
use Rattle.weak_cache.specs.Cache.{Limited}

abbrev pub limited_in : Inside → Limited
limited_in fields = record {
  limits = record { budget = fields.budget; quota = fields.quota; slots = fields.slots };
  entries = fields.entries;
}
