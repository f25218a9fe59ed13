-- A suite that had a Current is held on a quorum, and its prefixes only grow newer.
use Rattle.txn_core.proofs.Vocabulary.{◌≡◌, ℕ, ◌≤◌, ◌<◌, Bool, true, false, cond, ◌⊎◌, List, [], ◌∷◌, Option, Some, None, refl, sym, ap, subst, ◌∙◌, arith, ◌==◌, ◌||◌, list_any, unsigned_tied, eqb-true, false≢true, nat_tests, nat_cmp_total}
use Rattle.txn_core.proofs.Vocabulary.{same_Some, get-insert, Representative, Configuration, votes_in, Content, Prefix, LockMode, Exclusive, Told, newest, holds, Collector, all_told, needed_of, tell, Current, next, ReadPoint, GatheredSuite, Suites}
use Rattle.txn_core.proofs.Vocabulary.{suite_of, with_suite, settled, is_changed, sets_votes, Changes, Phase, Gathering, Fetching, Widening, Preparing, Deciding, TransactionRun, After, GoesOn, Ends, votes_after, changes_of, newest_of}
use Rattle.suite_collect.specs.Collecting as collecting
use Rattle.txn_core.proofs.Setting.{Keeps}

-- ---- quorums and newer prefixes

abbrev pub Enough : LockMode → Configuration → List Told → Type 0
Enough mode votes told = needed_of mode votes ≤ votes_in votes.reps (holds mode told)

pub or_true : (a : Bool) {b : Bool} → b ≡ true → (a || b) ≡ true
or_true a h1 = search arith

pub votes_more : (reps : List Representative) (f g : ℕ → Bool) → ((server : ℕ) → f server ≡ true → g server ≡ true) → votes_in reps f ≤ votes_in reps g
votes_more [] f g h = omega arith
votes_more (rep ∷ reps) f g h = search (false≢true, votes_more reps f g h, arith)

pub enough_more : (mode : LockMode) (votes : Configuration) (one : Told) (told : List Told) → Enough mode votes told → Enough mode votes (one ∷ told)
enough_more mode votes one told enough = search (votes_more, or_true, arith)

-- a prefix is the same, or it is newer
abbrev IsSince : Prefix → Prefix → Type 0
IsSince old new = (new ≡ old) ⊎ (old.pver < new.pver)

pub tell_since : (old : Prefix) (one : Told) (c : Collector) → IsSince old (newest c.start c.told) → IsSince old (newest (tell one c).start (tell one c).told)
tell_since old one c since = search arith

pub tell_narrow : (one : Told) (c : Collector) → c.widening ≡ None → (tell one c).widening ≡ None
tell_narrow one c none = search arith

pub tell_mode : (one : Told) (c : Collector) → (tell one c).mode ≡ c.mode
tell_mode one c = search arith

-- ---- what holds of a suite

-- its prefixes only grow newer; and once it had a Current, a quorum of its mode is held
abbrev pub Grown : GatheredSuite → Type 0
Grown suite = (first : ReadPoint) → suite.first ≡ Some first → IsSince first.prefix (newest_of suite)

pub record Sound (suite : GatheredSuite) : Type 0 where
  pub first : ReadPoint
  pub was : suite.first ≡ Some first
  pub since : IsSince first.prefix (newest_of suite)
  pub mode : suite.mode ≡ suite.collector.mode
  pub quorum : Enough suite.mode (newest_of suite).votes (all_told suite.collector)

pub sound_grown : (suite : GatheredSuite) → Sound suite → Grown suite
sound_grown suite sound first is = subst (λ (first : ReadPoint). IsSince first.prefix (newest_of suite)) (same_Some sound.first first (sym sound.was ∙ is)) sound.since

pub sound_content : (suite : GatheredSuite) (content : Option Content) → Sound suite → Sound (record suite { content = content })
sound_content suite content sound = record { first = sound.first; was = sound.was; since = sound.since; mode = sound.mode; quorum = sound.quorum }

pub sound_settled : (suite : GatheredSuite) (prefix : Prefix) (dver : ℕ) (members : List ℕ) → Grown suite → suite.collector.widening ≡ None → next suite.collector ≡ Current prefix dver members → Sound (settled prefix dver members suite)
sound_settled suite prefix dver members grown narrow is = search arith

-- ---- all suites

abbrev pub Each : (ℕ → GatheredSuite → Type 0) → Suites → Type 0
Each p suites = (number : ℕ) (suite : GatheredSuite) → suite_of suites number ≡ Some suite → p number suite

pub each_with : (p q : ℕ → GatheredSuite → Type 0) (suites : Suites) (number : ℕ) (suite : GatheredSuite) → ((other : ℕ) (it : GatheredSuite) → (number == other) ≡ false → p other it → q other it) → q number suite → Each p suites
    → Each q (with_suite number suite suites)
each_with p q suites number suite others here each other it is =
    of (number == other) refl (ap (λ b. cond b (Some suite) (suite_of suites other)) (sym (unsigned_tied number other)) ∙ sym (get-insert nat_cmp_total suites number suite other) ∙ is)
  where
    of : (b : Bool) → (number == other) ≡ b → cond b (Some suite) (suite_of suites other) ≡ Some it → q other it
    of b h1 h2 = search (eqb-true, same_Some, arith)

-- in order: gathered; gathered but for one; and done, but for the widenings that are to do
abbrev pub IsNarrow : GatheredSuite → Type 0
IsNarrow suite = suite.collector.widening ≡ None

abbrev pub Settled : ℕ → GatheredSuite → Type 0
Settled number suite = Sound suite × IsNarrow suite

abbrev pub But : ℕ → ℕ → GatheredSuite → Type 0
But now number suite = Grown suite × IsNarrow suite × ((now == number) ≡ false → Sound suite)

abbrev pub Wide : Changes → ℕ → GatheredSuite → Type 0
Wide changes number suite = Enough Exclusive (votes_after changes number suite) (all_told suite.collector)

abbrev pub among : List ℕ → ℕ → Bool
among numbers number = list_any (λ one. one == number) numbers

abbrev pub Ready : Changes → List ℕ → ℕ → GatheredSuite → Type 0
Ready changes todo number suite = Sound suite × (is_changed changes number ≡ true → suite.mode ≡ Exclusive) × (among todo number ≡ false → sets_votes changes number ≡ true → Wide changes number suite) × Keeps changes number suite

pub record IsWidened (changes : Changes) (number : ℕ) (suite : GatheredSuite) : Type 0 where
  pub widening : collecting.Widening
  pub is : suite.collector.widening ≡ Some widening
  pub votes : widening.votes ≡ votes_after changes number suite

abbrev pub InWidening : Changes → ℕ → List ℕ → ℕ → GatheredSuite → Type 0
InWidening changes now left number suite = Ready changes (now ∷ left) number suite × ((now == number) ≡ true → IsWidened changes number suite)

abbrev pub PhaseReady : Suites → Phase → Type 0
PhaseReady suites (Gathering now) = Each (But now) suites
PhaseReady suites (Fetching number) = Each Settled suites
PhaseReady suites (Widening (now ∷ left) granted) = Each (InWidening granted.changes now left) suites
PhaseReady suites (Preparing left outcome) = Each (Ready (changes_of outcome) []) suites
PhaseReady suites (Deciding outcome) = Each (Ready (changes_of outcome) []) suites
PhaseReady suites _ = Unit {0}

abbrev pub LeftReady : After TransactionRun → Type 0
LeftReady (GoesOn txn_run) = PhaseReady txn_run.suites txn_run.phase
LeftReady (Ends ending) = Unit {0}

pub self : (number : ℕ) → (number == number) ≡ true
self number = grind (arith, nat_tests)
