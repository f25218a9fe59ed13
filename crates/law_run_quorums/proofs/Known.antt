-- What a transaction knows of a suite, it knows from a quorum.
use Rattle.law_run_quorums.proofs.Vocabulary.{false≢true, eqb-true, nat_tests, Representative, Configuration, votes_in, Prefix, LockMode, Said, Collector, all_told, needed_of, ReadPoint, GatheredSuite, Beginning, Known, WasPrefix, Told, World}
use Rattle.law_run_quorums.proofs.Vocabulary.{IsQuorum, Inv, showed, known_by, told_to, AreTold, KnowsFromAQuorum}
use Rattle.suite_collect.specs.declared.told.Said.TheVariants.{Held}
use Rattle.std.proofs.Common.{◌≡◌, ℕ, ◌≤◌, Bool, true, false, ◌⊎◌, inl, inr, List, [], ◌∷◌, ◌++◌, Option, Some, refl, sym, ap, subst, ◌∙◌, arith, ◌==◌, ◌||◌, nat_le, max}
use Rattle.vote_core.specs.Validity.{IsValid}
use Rattle.suite_collect.specs.Telling.{newer, newest, holds, shown, greatest}
use Rattle.suite_collect.specs.Laws.{among, IsCurrent}
use Rattle.suite_collect.proofs.Collected.{gives_of, current_is_a_quorum}
use Rattle.suite_collect.proofs.Sources.{some_needed}
use Rattle.txn_core.proofs.SuiteQuorums.{votes_more}
use Rattle.law_run_quorums.specs.Firsts.{FirstFrom, early_collector}
use Rattle.suite_collect.specs.declared.told.Told as collect

-- ---- what a server showed

newer_above : (prefix : Prefix) (said : Said) → prefix.pver ≤ (newer prefix said).pver
newer_above prefix said = search arith

newer_least : (prefix other : Prefix) (dver : ℕ) → other.pver ≤ (newer prefix (Held other dver)).pver
newer_least prefix other dver = search arith

-- a server that holds a lock was told of, with the version that it showed and no newer prefix
record Showed (f : ℕ → Option Told) (start : Prefix) (list : List collect.Told) (i : ℕ) : Type 0 where
  one : Told
  is : f i ≡ Some one
  prefix : one.copy.prefix.pver ≤ (newest start list).pver
  dver : one.copy.dver ≡ shown list i

showed_on : (f : ℕ → Option Told) (start : Prefix) (mode : LockMode) (list : List collect.Told) (i : ℕ) → AreTold f list → holds mode list i ≡ true → Showed f start list i
showed_on f start mode [] i are held = absurd (false≢true held)
showed_on f start mode (last ∷ list) i are held = search (newer_above, eqb-true, newer_least, showed_on f start mode list i, arith)

-- ---- the greatest version

max_left : (a b : ℕ) → a ≤ max a b
max_left a b = grind (arith, nat_tests)

max_right : (a b : ℕ) → b ≤ max a b
max_right a b = grind (arith, nat_tests)

max_is : (a b : ℕ) → (max a b ≡ a) ⊎ (max a b ≡ b)
max_is a b = elim (nat_le a b) as (λ c. nat_le a b ≡ c → (max a b ≡ a) ⊎ (max a b ≡ b)) [ true ↦ λ e. inr (grind (arith, nat_tests)) | false ↦ λ e. inl (grind (arith, nat_tests)) ] refl

greatest_above : (list : List collect.Told) (members : List ℕ) (i : ℕ) → among members i ≡ true → shown list i ≤ greatest list members
greatest_above list [] i is = absurd (false≢true is)
greatest_above list (first ∷ members) i is =
    elim (first == i) as (λ b. (first == i) ≡ b → (b || among members i) ≡ true → shown list i ≤ greatest list (first ∷ members)) [
      | true ↦ λ e _. subst (λ i. shown list i ≤ greatest list (first ∷ members)) (eqb-true first i e) (max_left (shown list first) (greatest list members))
      | false ↦ λ _ is. let rest = greatest_above list members i is in let more = max_right (shown list first) (greatest list members) in omega arith
    ] refl is

self : (i : ℕ) → (i == i) ≡ true
self i = grind (arith, nat_tests)

or_true : (a b : Bool) → b ≡ true → (a || b) ≡ true
or_true a b h2 = search arith

-- one of them showed it
greatest_of : (list : List collect.Told) (first : ℕ) (members : List ℕ) → (i : ℕ) × (among (first ∷ members) i ≡ true) × (shown list i ≡ greatest list (first ∷ members))
greatest_of list first [] = search (self first, max_is (shown list first) 0, max_left (shown list first) 0, arith)
greatest_of list first (second ∷ members) = search (max_is (shown list first) (greatest list (second ∷ members)), self first, or_true, greatest_of list second members, arith)

-- ---- quorums

no_votes : (reps : List Representative) → votes_in reps (among []) ≡ 0
no_votes [] = refl
no_votes (rep ∷ reps) = let rest = no_votes reps in omega arith

is_quorum : (mode : LockMode) (votes : Configuration) (set : ℕ → Bool) → needed_of mode votes ≤ votes_in votes.reps set → IsQuorum votes set
is_quorum mode votes set h3 = search arith

showed_is : (known : Known) (o : Option Told) (one : Told) → o ≡ Some one → one.copy.prefix.pver ≤ known.prefix.pver → one.copy.dver ≤ known.dver → showed known o ≡ true
showed_is known o one is prefix dver = search arith

-- ---- the lists of a collector

are_later : (f : ℕ → Option Told) (later early : List collect.Told) → AreTold f (later ++ early) → AreTold f early
are_later f [] early are = are
are_later f (one ∷ later) early are = are_later f later early are.1

module _ (f : ℕ → Option Told) (suite : GatheredSuite) (first : ReadPoint) (from : FirstFrom suite first) (told : AreTold f (all_told suite.collector)) where
  abbrev early : Collector
  early = early_collector suite.collector.start from.mode from.earlier

  told_early : AreTold f from.earlier
  told_early = are_later f from.later from.earlier (subst (AreTold f) from.parts told)

  is_current : IsCurrent early first.prefix first.dver from.members
  is_current = current_is_a_quorum early first.prefix first.dver from.members refl from.gave

  newest_is : newest suite.collector.start from.earlier ≡ first.prefix
  newest_is = (gives_of early first.prefix first.dver from.members from.gave).prefix_is

  member : (i : ℕ) → among from.members i ≡ true → Showed f suite.collector.start from.earlier i
  member i is = showed_on f suite.collector.start from.mode from.earlier i told_early (is_current.held i is)

  showed_member : (i : ℕ) → among from.members i ≡ true → showed (known_by first suite) (f i) ≡ true
  showed_member i is = search (member i is, showed_is, newest_is, greatest_above, arith)

  pub quorum : IsQuorum first.prefix.votes (λ i. showed (known_by first suite) (f i))
  quorum =
      let more = votes_more first.prefix.votes.reps (among from.members) (λ i. showed (known_by first suite) (f i)) showed_member in
      let enough = is_current.quorum in
      is_quorum from.mode first.prefix.votes (λ i. showed (known_by first suite) (f i)) (omega arith)

  pub source : IsValid first.prefix.votes → (i : ℕ) × (one : Told) × (f i ≡ Some one) × (one.copy.dver ≡ first.dver)
  source valid = of from.members refl
    where
      of : (members : List ℕ) → from.members ≡ members → (i : ℕ) × (one : Told) × (f i ≡ Some one) × (one.copy.dver ≡ first.dver)
      of [] same =
          let enough : needed_of from.mode first.prefix.votes ≤ votes_in first.prefix.votes.reps (among []) = subst
          (λ members. needed_of from.mode first.prefix.votes ≤ votes_in first.prefix.votes.reps (among members)) same is_current.quorum in
          let none = no_votes first.prefix.votes.reps in
          let some = some_needed from.mode first.prefix.votes valid in
          absurd (omega arith)
      of (one ∷ members) same =
          let found = greatest_of from.earlier one members in
          let it = member found.0 (ap (λ members. among members found.0) same ∙ found.1) in
          (found.0, it.one, it.is, it.dver ∙ found.2 ∙ ap (greatest from.earlier) (sym same) ∙ sym is_current.latest)

-- ---- what is owed of a suite that it knows

pub valid_was : (start : Beginning) (w : World) (prefix : Prefix) → Inv start w → WasPrefix start w.log prefix → IsValid prefix.votes
valid_was start w prefix inv was = subst (λ (p : Prefix). IsValid p.votes) was.1 (inv.logged.valid prefix.pver)

pub knows_from_a_quorum : KnowsFromAQuorum
knows_from_a_quorum start w t suite first valid from agrees was content =
    let told = agrees.copies in
    let found = source (told_to w t) suite first from told valid in
    record { quorum = quorum (told_to w t) suite first from told; was = was; from = found.0; from_told = found.1; told_from = found.2; told_dver = found.3; content = content }
