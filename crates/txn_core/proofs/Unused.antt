-- Versions that are not used up.
use Rattle.txn_core.proofs.Vocabulary.{◌≡◌, ℕ, max, Bool, true, false, cond, inl, inr, List, [], ◌∷◌, Option, Some, None, refl, sym, ap, ◌∙◌, arith, ◌==◌, ◌&&◌, not, IfSome, option_or, nat_tests, Prefix, is_used_up, fits, Reply, Said, Told}
use Rattle.txn_core.proofs.Vocabulary.{read_point, newer, newest, version_in, shown, greatest, Entry, Cache, forgotten, Limits, Limited, hint, searched, put, entries_come_from_puts, ReadPoint, Fixed, Task, start_from, Learned, Fits, kept_by, shelved}
use Rattle.txn_core.proofs.Vocabulary.{HasUnused, SawUnused, GaveUnused, first_unused, shows_unused, says_unused}
use Rattle.txn_core.specs.declared.learned.Learned.TheVariants.{Content as Given}
use Rattle.suite_collect.specs.Collecting.{Widening, told_by, Collector, Next, first_members, version, tell_at, tell, next}
use Rattle.suite_collect.specs.declared.told.Said.TheVariants as said

-- ---- what a collector saw

both : (a b : Bool) → (not a && not b) ≡ true → (a ≡ false) × (b ≡ false)
both a b h2 = search arith

newer_unused : (prefix : Prefix) (what : Said) → is_used_up prefix.pver ≡ false → ((other : Prefix) (dver : ℕ) → what ≡ said.Held other dver → is_used_up other.pver ≡ false) → is_used_up (newer prefix what).pver ≡ false
newer_unused prefix what h2 h3 = search arith

version_unused : (what : Said) (before : ℕ) → is_used_up before ≡ false → ((other : Prefix) (dver : ℕ) → what ≡ said.Held other dver → is_used_up dver ≡ false) → is_used_up (version_in what before) ≡ false
version_unused what before h2 h3 = search arith

tell_unused : (c : Collector) (one : Told) → ((other : Prefix) (dver : ℕ) → one.said ≡ said.Held other dver → (is_used_up other.pver ≡ false) × (is_used_up dver ≡ false)) → SawUnused c → SawUnused (tell one c)
tell_unused c one shows saw = at c.widening
  where
    of : (server : ℕ) (b : Bool) → is_used_up (cond b (version_in one.said (shown c.told server)) (shown c.told server)) ≡ false
    of server true = version_unused one.said (shown c.told server) (saw.shown server) (λ other dver is. (shows other dver is).1)
    of server false = saw.shown server

    at : (w : Option Widening) → SawUnused (tell_at w one c)
    at (Some w) = record { prefix = saw.prefix; shown = saw.shown }
    at None = record {
      prefix = newer_unused (newest c.start c.told) one.said saw.prefix (λ other dver is. (shows other dver is).0);
      shown = λ server. of server (one.server == server);
    }

told_shows : (next : Next) (answer : Reply) (one : Told) → told_by next answer ≡ Some one → shows_unused answer ≡ true → (other : Prefix) (dver : ℕ)
    → one.said ≡ said.Held other dver → (is_used_up other.pver ≡ false) × (is_used_up dver ≡ false)
told_shows next answer one h3 h4 other dver h7 = search arith

-- it is kept by a reply that fits
pub saw_more : (c : Collector) (next : Next) (answer : Reply) (one : Told) → told_by next answer ≡ Some one → shows_unused answer ≡ true → SawUnused c → SawUnused (tell one c)
saw_more c next answer one was unused saw = tell_unused c one (told_shows next answer one was unused) saw

-- and so what a Current gives is not used up
pub max_unused : (a b : ℕ) → is_used_up a ≡ false → is_used_up b ≡ false → is_used_up (max a b) ≡ false
max_unused a b one other = grind (arith, nat_tests)

greatest_unused : (told : List Told) (servers : List ℕ) → ((server : ℕ) → is_used_up (shown told server) ≡ false) → is_used_up (greatest told servers) ≡ false
greatest_unused told [] unused = refl
greatest_unused told (server ∷ servers) unused = max_unused (shown told server) (greatest told servers) (unused server) (greatest_unused told servers unused)

-- ---- caches

-- the same of what is told, and of what a quorum then gives
pub tell_says : (c : Collector) (one : Told) → says_unused one.said ≡ true → SawUnused c → SawUnused (tell one c)
tell_says c one unused saw = tell_unused c one (λ other dver is. both (is_used_up other.pver) (is_used_up dver) (sym (ap says_unused is) ∙ unused)) saw

pub told_says : (next : Next) (answer : Reply) (one : Told) → told_by next answer ≡ Some one → shows_unused answer ≡ true → says_unused one.said ≡ true
told_says next answer one told unused = search arith

pub given_unused : (c : Collector) → SawUnused c → first_unused (Some (read_point c)) ≡ true
given_unused c saw = ap (λ b. not b && not (is_used_up (version c))) saw.prefix ∙ ap (λ b. not b) (greatest_unused c.told (first_members c) saw.shown)

-- what the first quorum gave stays
pub or_unused : (first given : Option ReadPoint) → first_unused first ≡ true → first_unused given ≡ true → first_unused (option_or first given) ≡ true
or_unused first given h2 h3 = search arith

pub first_gave : (first : Option ReadPoint) → first_unused first ≡ true → IfSome first GaveUnused
first_gave first h1 = search arith

pub unused_put : (limits : Limits) (entry : Entry) (cache : Cache) → is_used_up entry.prefix.pver ≡ false → HasUnused cache → HasUnused (put limits entry cache)
unused_put limits entry cache unused all other there =
    elim (entries_come_from_puts.put limits entry cache other there) [
      | inl same ↦ ap (λ (entry : Entry). is_used_up entry.prefix.pver) same ∙ unused
      | inr before ↦ all other before
    ]

-- and once something was learned
pub unused_learned : (just_learned : Learned) (cache : Limited) → Fits just_learned → HasUnused cache.entries → HasUnused (shelved cache (kept_by just_learned))
unused_learned (Given fetched) cache fits all = search (unused_put, arith)
unused_learned _ cache fits all = all

pub unused_searched : (site suite dver : ℕ) (cache : Cache) → HasUnused cache → HasUnused (searched site suite dver cache)
unused_searched site suite dver cache all other there = all other (entries_come_from_puts.searched site suite dver cache other there)

pub unused_forgotten : (site : ℕ) (cache : Cache) → HasUnused cache → HasUnused (forgotten site cache)
unused_forgotten site cache all other there = all other (entries_come_from_puts.forgotten site cache other there).0

pub unused_hint : (cache : Cache) (site suite : ℕ) (prefix : Prefix) → hint cache site suite ≡ Some prefix → HasUnused cache → is_used_up prefix.pver ≡ false
unused_hint cache site suite prefix is all =
    let found = entries_come_from_puts.hint cache site suite prefix is in
    ap (λ (prefix : Prefix). is_used_up prefix.pver) (sym found.3) ∙ all found.0 found.1

pub unused_start : (fixed : Fixed) (task : Task) (cache : Cache) (suite : ℕ) → HasUnused cache → is_used_up (start_from fixed task cache suite).pver ≡ false
unused_start fixed task cache suite all = search (unused_hint, arith)
