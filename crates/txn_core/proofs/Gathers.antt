-- What is kept of the suites that a transaction gathers: from where each was gathered, what its first Current gave, and to which votes it was widened.
use Rattle.txn_core.proofs.Vocabulary.{◌≡◌, ℕ, Bool, true, false, cond, ◌⊎◌, inl, inr, List, [], ◌∷◌, ◌++◌, Option, Some, None, refl, sym, ap, subst, ◌∙◌, ◌==◌, map, filter, option_map, nat_cmp, is_at, unsigned_tied, eqb-true, eq-eqb, arith}
use Rattle.txn_core.proofs.Vocabulary.{false≢true, same_Some, append-nil, append_assoc, nat_cmp_total, get-insert, Configuration, Content, Prefix, LockMode, Answer, Change, Hold, Told, Said, Collector, all_told, tell_at, tell, collect, Asked, Next}
use Rattle.txn_core.proofs.Vocabulary.{Current, Ask, next, Has, ReadPoint, GatheredSuite, Suites, suite_of, with_suite, source_of, first_or, settled, change_of, Response, Replied, Lacked, Changes, Fixed, Task, heard_on, to_widen, widened, said_to}
use Rattle.txn_core.proofs.Vocabulary.{Exchange, locks, told_of, told_by, more_told, gathered_from, IsCurrent, FirstGave}
use Rattle.suite_collect.specs.Collecting.{Widening}
use Rattle.file_exec.specs.declared.executor.Outcome.TheVariants as exec

-- ---- lists

nothing_after : {X : Type 0} (y : X) (early rest : List X) → [] ≡ early ++ y ∷ rest → ⊥
nothing_after y [] rest is = cc
nothing_after y (e ∷ early) rest is = cc

-- what is cut off before the last one is cut off before it came
pub cut_before : {X : Type 0} (past early rest : List X) (x y : X) → past ++ x ∷ [] ≡ early ++ y ∷ rest → (later : List X) × (past ≡ early ++ later)
cut_before past [] rest x y is = (past, refl)
cut_before [] (e ∷ early) rest x y is = absurd (nothing_after y early rest (let tail : [] ≡ early ++ y ∷ rest = cc in tail))
cut_before (p ∷ past) (e ∷ early) rest x y is = search (cut_before past early rest x y, arith)

-- what was told is told later too
pub told-append : (number : ℕ) (before : List Told) (past later : List Exchange) → told_of number before (past ++ later) ≡ told_of number (told_of number before past) later
told-append number before [] later = refl
told-append number before (one ∷ past) later = told-append number (cond (locks number one.request) (told_by before one one.response) before) past later

untold_first : (number : ℕ) (before : List Told) (past : List Exchange) → told_of number before past ≡ [] → before ≡ []
untold_first number before [] is = is
untold_first number before (one ∷ past) is = of (locks number one.request) one.response (untold_first number (cond (locks number one.request) (told_by before one one.response) before) past is)
  where
    by : (heard : Option Said) → more_told before one.server one.request heard ≡ [] → before ≡ []
    by None is = is
    by (Some heard) is = cc

    of : (b : Bool) (response : Response) → cond b (told_by before one response) before ≡ [] → before ≡ []
    of false response is = is
    of true (Lacked lacked) is = is
    of true (Replied said) is = by (said_to one.request said) is

pub untold_before : (number : ℕ) (past early rest : List Exchange) → told_of number [] past ≡ [] → past ≡ early ++ rest → told_of number [] early ≡ []
untold_before number past early rest is parts = untold_first number (told_of number [] early) rest (sym (told-append number [] early rest) ∙ ap (told_of number []) (sym parts) ∙ is)

-- ---- suites by their numbers

pub self : (number : ℕ) → (number == number) ≡ true
self number = eq-eqb number number refl

pub with_at : (number : ℕ) (suite : GatheredSuite) (suites : Suites) (n : ℕ) → suite_of (with_suite number suite suites) n ≡ cond (number == n) (Some suite) (suite_of suites n)
with_at number suite suites n = get-insert nat_cmp_total suites number suite n ∙ ap (λ b. cond b (Some suite) (suite_of suites n)) (unsigned_tied number n)

pub at_with : (number : ℕ) (suite other : GatheredSuite) (suites : Suites) → suite_of (with_suite number suite suites) number ≡ Some other → suite ≡ other
at_with number suite other suites is = same_Some suite other (sym (with_at number suite suites number ∙ ap (λ b. cond b (Some suite) (suite_of suites number)) (self number)) ∙ is)

-- of each suite; of each but one
abbrev pub Each : (ℕ → GatheredSuite → Type 0) → Suites → Type 0
Each K suites = (n : ℕ) (suite : GatheredSuite) → suite_of suites n ≡ Some suite → K n suite

abbrev pub EachBut : (ℕ → GatheredSuite → Type 0) → ℕ → Suites → Type 0
EachBut K number suites = (n : ℕ) (suite : GatheredSuite) → (number == n) ≡ false → suite_of suites n ≡ Some suite → K n suite

module _ (K : ℕ → GatheredSuite → Type 0) (number : ℕ) (suites : Suites) where
  pub each_but : Each K suites → EachBut K number suites
  each_but each n suite other is = each n suite is

  pub each_with : (suite : GatheredSuite) → EachBut K number suites → K number suite → Each K (with_suite number suite suites)
  each_with suite others own n found is = search (with_at, eqb-true, same_Some, arith)

  pub but_with : (suite : GatheredSuite) → EachBut K number suites → EachBut K number (with_suite number suite suites)
  but_with suite others n found other is = others n found other (sym (with_at number suite suites n ∙ ap (λ b. cond b (Some suite) (suite_of suites n)) other) ∙ is)

-- ---- collectors

pub tell_start : (one : Told) (c : Collector) → (tell one c).start ≡ c.start
tell_start one c = search arith

tell_mode : (one : Told) (c : Collector) → (tell one c).mode ≡ c.mode
tell_mode one c = search arith

tell_narrow : (one : Told) (c : Collector) → c.widening ≡ None → (tell one c).widening ≡ None
tell_narrow one c narrow = ap (λ w. (tell_at w one c).widening) narrow ∙ narrow

tell_votes : (one : Told) (c : Collector) (after : Widening) → (tell one c).widening ≡ Some after → (w : Widening) × (c.widening ≡ Some w) × (w.votes ≡ after.votes)
tell_votes one c after is = search arith

-- before a widening a collector is what it was told
narrow_is : (c : Collector) (told : List Told) → c.widening ≡ None → all_told c ≡ told → c ≡ record { start = c.start; mode = c.mode; told = told; widening = None }
narrow_is c told narrow is = search arith

-- ---- what a first Current gave

pub gave_more : (start : Prefix) (number : ℕ) (past more : List Exchange) (first : ReadPoint) → FirstGave start number past first → FirstGave start number (past ++ more) first
gave_more start number past more first gave = search (append_assoc, arith)

-- ---- suites that were gathered

-- what must be so of a suite from without: of the prefix from which it was gathered, and of the content that is known of it
pub record Base : Type 1 where
  pub start : ℕ → Prefix → Type 0
  pub content : ℕ → ReadPoint → Content → Type 0

-- of a suite whose content is there: it had a Current, and this holds of what that gave and of the content
abbrev pub Knows : (ℕ → ReadPoint → Content → Type 0) → ℕ → GatheredSuite → Type 0
Knows C number suite = (content : Content) → suite.content ≡ Some content → (first : ReadPoint) × (suite.first ≡ Some first) × C number first content

pub knows_settled : (C : ℕ → ReadPoint → Content → Type 0) (number : ℕ) (suite : GatheredSuite) (prefix : Prefix) (dver : ℕ) (members : List ℕ) → Knows C number suite → Knows C number (settled prefix dver members suite)
knows_settled h0 number suite prefix dver members knows content is = search arith

pub knows_map : (C D : ℕ → ReadPoint → Content → Type 0) (number : ℕ) (suite : GatheredSuite)
    → ((number : ℕ) (first : ReadPoint) (content : Content) → C number first content → D number first content) → Knows C number suite → Knows D number suite
knows_map C D number suite maps knows content is = let was = knows content is in (was.0, was.1, maps number was.0 content was.2)

pub record FirstKept (past : List Exchange) (number : ℕ) (suite : GatheredSuite) : Type 0 where
  pub first : ReadPoint
  pub was : suite.first ≡ Some first
  pub gave : FirstGave suite.collector.start number past first

first_more : (past more : List Exchange) (number : ℕ) (suite : GatheredSuite) → FirstKept past number suite → FirstKept (past ++ more) number suite
first_more past more number suite kept = record { first = kept.first; was = kept.was; gave = gave_more suite.collector.start number past more kept.first kept.gave }

-- all of them
abbrev pub AllGathered : Base → List Exchange → Suites → Type 0
AllGathered Old past suites = (n : ℕ) (suite : GatheredSuite) → suite_of suites n ≡ Some suite → Old.start n suite.collector.start × FirstKept past n suite × Knows Old.content n suite

gathered_more : (Old : Base) (past more : List Exchange) (suites : Suites) → AllGathered Old past suites → AllGathered Old (past ++ more) suites
gathered_more Old past more suites gathered n suite there = let was = gathered n suite there in (was.0, first_more past more n suite was.1, was.2)

-- another of which all the same is so
pub record Follows (Old Old' : Base) : Type 0 where
  pub start : (n : ℕ) (start : Prefix) → Old.start n start → Old'.start n start
  pub content : (n : ℕ) (first : ReadPoint) (content : Content) → Old.content n first content → Old'.content n first content

gathered_map : (Old Old' : Base) (past : List Exchange) (suites : Suites) → Follows Old Old' → AllGathered Old past suites → AllGathered Old' past suites
gathered_map Old Old' past suites old gathered n suite there =
    let was = gathered n suite there in (old.start n suite.collector.start was.0, was.1, knows_map Old.content Old'.content n suite old.content was.2)

-- ---- modes that are wanted

pub record Wants (fixed : Fixed) (task : Task) (Old : Base) (past : List Exchange) (number : ℕ) (mode : LockMode) : Type 0 where
  pub suites : Suites
  pub gathered : AllGathered Old past suites
  pub needs : heard_on fixed task suites ≡ exec.Need (Hold number mode)

-- ---- votes that are set

pub record Sets (fixed : Fixed) (task : Task) (Old : Base) (past : List Exchange) (number : ℕ) (votes : Configuration) : Type 0 where
  pub suites : Suites
  pub gathered : AllGathered Old past suites
  pub answers : List Answer
  pub changes : Changes
  pub done : heard_on fixed task suites ≡ exec.Done answers changes
  pub gets : Has (to_widen changes) number
  pub are : option_map (λ (change : Change). change.row.votes) (change_of changes number) ≡ Some votes

-- what the executor has set
pub record Grants (fixed : Fixed) (task : Task) (Old : Base) (past : List Exchange) (answers : List Answer) (changes : Changes) : Type 0 where
  pub suites : Suites
  pub gathered : AllGathered Old past suites
  pub done : heard_on fixed task suites ≡ exec.Done answers changes

module _ (fixed : Fixed) (task : Task) (Old : Base) (past more : List Exchange) where
  pub wants_more : (number : ℕ) (mode : LockMode) → Wants fixed task Old past number mode → Wants fixed task Old (past ++ more) number mode
  wants_more number mode wants = record { suites = wants.suites; gathered = gathered_more Old past more wants.suites wants.gathered; needs = wants.needs }

  pub sets_more : (number : ℕ) (votes : Configuration) → Sets fixed task Old past number votes → Sets fixed task Old (past ++ more) number votes
  sets_more number votes sets = search (gathered_more, arith)

  pub grants_more : (answers : List Answer) (changes : Changes) → Grants fixed task Old past answers changes → Grants fixed task Old (past ++ more) answers changes
  grants_more answers changes grants = record { suites = grants.suites; gathered = gathered_more Old past more grants.suites grants.gathered; done = grants.done }

module _ (fixed : Fixed) (task : Task) (Old Old' : Base) (past : List Exchange) (old : Follows Old Old') where
  pub wants_map : (number : ℕ) (mode : LockMode) → Wants fixed task Old past number mode → Wants fixed task Old' past number mode
  wants_map number mode wants = record { suites = wants.suites; gathered = gathered_map Old Old' past wants.suites old wants.gathered; needs = wants.needs }

  pub sets_map : (number : ℕ) (votes : Configuration) → Sets fixed task Old past number votes → Sets fixed task Old' past number votes
  sets_map number votes sets = search (gathered_map, arith)

  pub grants_map : (answers : List Answer) (changes : Changes) → Grants fixed task Old past answers changes → Grants fixed task Old' past answers changes
  grants_map answers changes grants = record { suites = grants.suites; gathered = gathered_map Old Old' past grants.suites old grants.gathered; done = grants.done }

listed_change : (changes : Changes) (number : ℕ) → Has (to_widen changes) number → (change : Change) × (change_of changes number ≡ Some change)
listed_change [] number has = absurd has
listed_change (one ∷ changes) number has = of (is_at (nat_cmp number) one.0) refl one.1.votes has (listed_change changes number)
  where
    rest : is_at (nat_cmp number) one.0 ≡ false → (change : Change) × (change_of changes number ≡ Some change) → (change : Change) × (change_of (one ∷ changes) number ≡ Some change)
    rest other found = (found.0, ap (λ b. cond b (Some one.1) (change_of changes number)) other ∙ found.1)

    of : (b : Bool) → is_at (nat_cmp number) one.0 ≡ b → (v : Bool)
        → Has (map (λ one. one.0) (cond v (one ∷ filter (λ one. one.1.votes) changes) (filter (λ one. one.1.votes) changes))) number
        → (Has (to_widen changes) number → (change : Change) × (change_of changes number ≡ Some change))
        → (change : Change) × (change_of (one ∷ changes) number ≡ Some change)
    of true here v has later = (one.1, ap (λ b. cond b (Some one.1) (change_of changes number)) here)
    of false other false has later = rest other (later has)
    of false other true (inr has) later = rest other (later has)
    of false other true (inl same) later = absurd (false≢true (sym other ∙ unsigned_tied number one.0 ∙ eq-eqb number one.0 (sym same)))

-- ---- what is kept of a suite

abbrev pub Wide : Fixed → Task → Base → List Exchange → ℕ → GatheredSuite → Type 0
Wide fixed task Old past number suite = (w : Widening) → suite.collector.widening ≡ Some w → Sets fixed task Old past number w.votes

-- a suite that had a Current
pub record Kept (fixed : Fixed) (task : Task) (Old : Base) (past : List Exchange) (number : ℕ) (suite : GatheredSuite) : Type 0 where
  pub start : Old.start number suite.collector.start
  pub first : FirstKept past number suite
  pub content : Knows Old.content number suite
  pub wide : Wide fixed task Old past number suite
  pub wanted : Wants fixed task Old past number suite.collector.mode

-- none was Current of what was told
abbrev pub NoneYet : Prefix → LockMode → ℕ → List Exchange → Type 0
NoneYet start mode number past = (early rest : List Exchange) → past ≡ early ++ rest → IsCurrent (next (gathered_from start mode number early)) → ⊥

abbrev pub FirstOrAsks : List Exchange → ℕ → GatheredSuite → Type 0
FirstOrAsks past number suite =
    FirstKept past number suite
    ⊎ ((suite.first ≡ None) × (suite.collector.widening ≡ None)
    × ((server : ℕ) (asked : Asked) → next suite.collector ≡ Ask server asked → NoneYet suite.collector.start suite.collector.mode number past))

-- a suite that is gathered
pub record Asking (fixed : Fixed) (task : Task) (Old : Base) (Start : ℕ → Prefix → Type 0) (past : List Exchange) (number : ℕ) (suite : GatheredSuite) : Type 0 where
  pub start : Start number suite.collector.start
  pub first : FirstOrAsks past number suite
  pub content : Knows Old.content number suite
  pub wide : Wide fixed task Old past number suite
  pub wanted : Wants fixed task Old past number suite.collector.mode

-- another with the same start and the same first
first_same : (past : List Exchange) (number : ℕ) (suite other : GatheredSuite) → other.collector.start ≡ suite.collector.start → other.first ≡ suite.first → FirstKept past number suite → FirstKept past number other
first_same past number suite other start first kept = record { first = kept.first; was = first ∙ kept.was; gave = subst (λ start. FirstGave start number past kept.first) (sym start) kept.gave }

module _ (fixed : Fixed) (task : Task) (Old : Base) (past : List Exchange) where
  pub wide_told : (number : ℕ) (suite : GatheredSuite) (one : Told) (more : List Exchange) → Wide fixed task Old past number suite → Wide fixed task Old (past ++ more) number (record suite { collector = tell one suite.collector })
  wide_told number suite one more wide after is = search (tell_votes, sets_more, arith)

  pub wants_told : (number : ℕ) (suite : GatheredSuite) (one : Told) (more : List Exchange) → Wants fixed task Old past number suite.collector.mode → Wants fixed task Old (past ++ more) number (tell one suite.collector).mode
  wants_told number suite one more wanted = subst (Wants fixed task Old (past ++ more) number) (sym (tell_mode one suite.collector)) (wants_more fixed task Old past more number suite.collector.mode wanted)

  pub wide_widened : (changes : Changes) (answers : List Answer) (number : ℕ) (suite : GatheredSuite) → Grants fixed task Old past answers changes → Has (to_widen changes) number
      → Wide fixed task Old past number (widened changes number suite)
  wide_widened changes answers number suite grants gets after is = search (listed_change, same_Some, arith)

-- ---- how it is kept

asks_not : (server : ℕ) (asked : Asked) (next : Next) → next ≡ Ask server asked → IsCurrent next → ⊥
asks_not server asked next is current = let same : Ask server asked ≡ Current current.0 current.1 current.2 = sym is ∙ current.3 in cc

none_more : (start : Prefix) (mode : LockMode) (number : ℕ) (past : List Exchange) (one : Exchange) (server : ℕ) (asked : Asked) → NoneYet start mode number past → next (gathered_from start mode number (past ++ one ∷ [])) ≡ Ask server asked
    → NoneYet start mode number (past ++ one ∷ [])
none_more start mode number past one server asked none is early [] parts current = search (append-nil early, arith)
none_more start mode number past one server asked none is early (y ∷ rest) parts current = let before = cut_before past early rest one y parts in none early before.0 before.1 current

none_same : (start other : Prefix) (mode another : LockMode) (number : ℕ) (past : List Exchange) → other ≡ start → another ≡ mode → NoneYet start mode number past → NoneYet other another number past
none_same start other mode another number past same_start same_mode none early rest parts current = search arith

module _ (fixed : Fixed) (task : Task) (Old : Base) (past : List Exchange) (number : ℕ) where
  pub kept_same : (suite other : GatheredSuite) → other.collector.start ≡ suite.collector.start → other.first ≡ suite.first → Knows Old.content number other
      → Wide fixed task Old past number other → Wants fixed task Old past number other.collector.mode → Kept fixed task Old past number suite
      → Kept fixed task Old past number other
  kept_same suite other start first content wide wanted kept = search arith

  pub kept_more : (more : List Exchange) (suite : GatheredSuite) → Kept fixed task Old past number suite → Kept fixed task Old (past ++ more) number suite
  kept_more more suite kept = record {
    start = kept.start;
    first = first_more past more number suite kept.first;
    content = kept.content;
    wide = λ w is. sets_more fixed task Old past more number w.votes (kept.wide w is);
    wanted = wants_more fixed task Old past more number suite.collector.mode kept.wanted;
  }

  pub asking_of : (suite : GatheredSuite) → Kept fixed task Old past number suite → Asking fixed task Old Old.start past number suite
  asking_of suite kept = record { start = kept.start; first = inl kept.first; content = kept.content; wide = kept.wide; wanted = kept.wanted }

  -- a suite that is new
  pub asks_new : (Start : ℕ → Prefix → Type 0) (mode another : LockMode) (start : Prefix) → told_of number [] past ≡ [] → Start number start
      → Wants fixed task Old past number mode → Asking fixed task Old Start past number (record { collector = collect mode start; first = None; mode = another; content = None })
  asks_new h0 mode another start untold old wanted = search (asks_not, untold_before, arith)

  -- a suite that was told something more
  module _ (suite : GatheredSuite) (one : Told) (x : Exchange) (heard : all_told (tell one suite.collector) ≡ told_of number [] (past ++ x ∷ [])) where
    abbrev now : GatheredSuite
    now = record suite { collector = tell one suite.collector }

    now_is : suite.collector.widening ≡ None → now.collector ≡ gathered_from now.collector.start now.collector.mode number (past ++ x ∷ [])
    now_is narrow = narrow_is (tell one suite.collector) (told_of number [] (past ++ x ∷ [])) (tell_narrow one suite.collector narrow) heard

    first_told : FirstKept past number suite → FirstKept (past ++ x ∷ []) number now
    first_told kept = first_same (past ++ x ∷ []) number suite now (tell_start one suite.collector) refl (first_more past (x ∷ []) number suite kept)

    pub kept_told : Kept fixed task Old past number suite → Kept fixed task Old (past ++ x ∷ []) number now
    kept_told kept = search (tell_start, first_told, wide_told, wants_told, arith)

    module _ (server : ℕ) (asked : Asked) (asks : next suite.collector ≡ Ask server asked) (asking : Asking fixed task Old Old.start past number suite) where
      none_now : NoneYet suite.collector.start suite.collector.mode number past → NoneYet now.collector.start now.collector.mode number past
      none_now = none_same suite.collector.start now.collector.start suite.collector.mode now.collector.mode number past (tell_start one suite.collector) (tell_mode one suite.collector)

      -- and asks on
      pub asks_on : (who : ℕ) (what : Asked) → next now.collector ≡ Ask who what → Asking fixed task Old Old.start (past ++ x ∷ []) number now
      asks_on who what is = record {
        start = subst (Old.start number) (sym (tell_start one suite.collector)) asking.start;
        first = of asking.first;
        content = asking.content;
        wide = wide_told fixed task Old past number suite one (x ∷ []) asking.wide;
        wanted = wants_told fixed task Old past number suite one (x ∷ []) asking.wanted;
      }
        where
          of : FirstOrAsks past number suite → FirstOrAsks (past ++ x ∷ []) number now
          of (inl kept) = inl (first_told kept)
          of (inr none) = inr (
            none.0,
            tell_narrow one suite.collector none.1,
            λ _ _ _. none_more now.collector.start now.collector.mode number past x who what (none_now (none.2 server asked asks)) (ap next (sym (now_is none.1)) ∙ is),
          )

      -- or is Current
      pub settles_on : (prefix : Prefix) (dver : ℕ) (members : List ℕ) → next now.collector ≡ Current prefix dver members → Kept fixed task Old (past ++ x ∷ []) number (settled prefix dver members now)
      settles_on prefix dver members is = record {
        start = subst (Old.start number) (sym (tell_start one suite.collector)) asking.start;
        first = of asking.first;
        content = knows_settled Old.content number now prefix dver members asking.content;
        wide = wide_told fixed task Old past number suite one (x ∷ []) asking.wide;
        wanted = wants_told fixed task Old past number suite one (x ∷ []) asking.wanted;
      }
        where
          new : ReadPoint
          new = record { prefix = prefix; dver = dver; source = source_of now.collector dver members }

          of : FirstOrAsks past number suite → FirstKept (past ++ x ∷ []) number (settled prefix dver members now)
          of (inl kept) = let told = first_told kept in record { first = told.first; was = ap (λ first. first_or first new) told.was; gave = told.gave }
          of (inr none) = record {
            first = new;
            was = ap (λ first. first_or first new) none.0;
            gave = record {
              mode = now.collector.mode;
              members = members;
              before = past ++ x ∷ [];
              later = [];
              parts = sym (append-nil (past ++ x ∷ []));
              gave = ap next (sym (now_is none.1)) ∙ is;
              source = ap (λ c. source_of c dver members) (now_is none.1);
              never_before = λ early y rest parts current. let before = cut_before past early rest x y parts in none_now (none.2 server asked asks) early before.0 before.1 current;
            };
          }
