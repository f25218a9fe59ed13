-- What a collector's replies give: its newest prefix was the register's, and the source of a content showed its version.
use Rattle.law_run_knowledge.proofs.Vocabulary.{◌≡◌, ℕ, ◌<◌, true, false, List, [], ◌∷◌, None, subst, arith, nat_lt, cases_lt, eq-eqb, eqb-true, false≢true, Prefix, Said, newer, newest, shown, greatest, source_of, Beginning, WasPrefix, World}
use Rattle.law_run_knowledge.proofs.Vocabulary.{CopiesWere, told_to, ToldOf, SaidIs, AreTold, ToldVersion}
use Rattle.suite_collect.specs.Collecting.{Collector, next, Current}
use Rattle.suite_collect.specs.declared.told.Told as collect

module _ (start : Beginning) (w : World) (t : ℕ) (copies : CopiesWere start w) where
  -- ---- prefixes

  told_prefix : (i : ℕ) (prefix : Prefix) (dver : ℕ) → ToldOf (w.told i t) prefix dver → WasPrefix start w.log prefix
  told_prefix i prefix dver is = subst (WasPrefix start w.log) is.prefix_is (copies.told i t is.one is.is).0

  newer_was : (i : ℕ) (before : Prefix) (said : Said) → WasPrefix start w.log before → SaidIs (w.told i t) said → WasPrefix start w.log (newer before said)
  newer_was i before said h3 h4 = search (nat_lt, told_prefix, arith)

  pub newest_was : (first : Prefix) (told : List collect.Told) → WasPrefix start w.log first → AreTold (told_to w t) told → WasPrefix start w.log (newest first told)
  newest_was first [] was are = was
  newest_was first (last ∷ told) was are = newer_was last.server (newest first told) last.said (newest_was first told was are.1) are.0

-- ---- versions

module _ (w : World) (t : ℕ) where
  -- a server that showed a version above 0 was told of
  pub showed : (told : List collect.Told) (server dver : ℕ) → AreTold (told_to w t) told → 0 < dver → shown told server ≡ dver → ToldVersion w t server dver
  showed [] server dver are some is = absurd (omega (arith, some, is))
  showed (last ∷ told) server dver are some is = search (eqb-true, showed told server dver, arith)

-- the first that showed the greatest version showed it
pub sourced : (c : Collector) (dver : ℕ) (members : List ℕ) → 0 < dver → dver ≡ greatest c.told members → shown c.told (source_of c dver members) ≡ dver
sourced c dver [] some is = absurd (omega (arith, some, is))
sourced c dver (server ∷ members) some is = search (eqb-true, cases_lt, false≢true, eq-eqb, sourced c dver members some, arith)

-- before a widening the members that a Current gives are those whose greatest version it gives
pub narrow_version : (c : Collector) (prefix : Prefix) (dver : ℕ) (members : List ℕ) → c.widening ≡ None → next c ≡ Current prefix dver members → dver ≡ greatest c.told members
narrow_version c prefix dver members same is = search arith
