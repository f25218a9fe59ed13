-- What a collector asks, and when it has a quorum of nothing.
use Rattle.law_agents.proofs.Vocabulary.{◌≡◌, ℕ, ◌≤◌, ◌<◌, Bool, true, false, cond, List, [], ◌∷◌, ◌++◌, Some, None, refl, sym, ap, ◌∙◌, arith, ◌==◌, ◌&&◌, not, nat_lt, find, filter, map, list_any, nat_tests, Representative, Configuration, votes_in}
use Rattle.law_agents.proofs.Vocabulary.{Prefix, LockMode, Shared, Exclusive, Said, Told, holds, newer, newest, Collector, all_told, counted, wanted, mode_or, needed, got, is_member, is_left, members_of, asked_of, mode_asked, Ask, Current, Asked}
use Rattle.law_agents.proofs.Vocabulary.{Poll, Upgrade, next, source_of}
use Rattle.suite_collect.specs.declared.told.Said.TheVariants.{Held}
use Rattle.rep_core.proofs.Finding.{find_some}

-- ---- its answers

-- what it asks is of one that is left
pub record AskedOne (c : Collector) (server : ℕ) (asked : Asked) : Type 0 where
  pub rep : Representative
  pub found : find (is_left c) (counted c).reps ≡ Some rep
  pub at : rep.0 ≡ server
  pub question : asked ≡ asked_of c rep.0

pub asked_one : (c : Collector) (server : ℕ) (asked : Asked) → next c ≡ Ask server asked → AskedOne c server asked
asked_one c server asked is = search arith

-- a Current gives the newest prefix, and members that the votes list, where these suffice
pub record Gives (c : Collector) (prefix : Prefix) (members : List ℕ) : Type 0 where
  pub prefix_is : newest c.start c.told ≡ prefix
  pub members_are : members_of (counted c) (is_member c) ≡ members
  pub enough : needed c ≤ got c

pub current_gives : (c : Collector) (prefix : Prefix) (dver : ℕ) (members : List ℕ) → next c ≡ Current prefix dver members → Gives c prefix members
current_gives c prefix dver members is = search arith

-- ---- nothing is held

votes_none : (reps : List Representative) (held : ℕ → Bool) → ((server : ℕ) → held server ≡ false) → votes_in reps held ≡ 0
votes_none [] held none = refl
votes_none (rep ∷ reps) held none = search (votes_none reps held none, arith)

-- where nobody holds what is wanted, and votes are needed, it is not Current
pub not_current : (c : Collector) (prefix : Prefix) (dver : ℕ) (members : List ℕ) → 0 < needed c → ((server : ℕ) → is_member c server ≡ false) → next c ≡ Current prefix dver members → ⊥
not_current c prefix dver members some none is = search (current_gives, votes_none, arith)

-- ---- shared locks

-- all was told of shared locks
abbrev pub AllShared : List Told → Type 0
AllShared [] = Unit {0}
AllShared (one ∷ told) = (one.mode ≡ Shared) × AllShared told

pub none_exclusive : (told : List Told) (server : ℕ) → AllShared told → holds Exclusive told server ≡ false
none_exclusive [] server all = refl
none_exclusive (one ∷ told) server all = search (none_exclusive told server, arith)

-- a collector of shared locks was told of no others, and asks for no others
abbrev pub IsPlain : Collector → Type 0
IsPlain c = c.mode ≡ Shared → AllShared c.told

left_parts : (a b c : Bool) → (a && not b && not c) ≡ true → b ≡ false
left_parts a b c h3 = search arith

pub asks_shared : (c : Collector) (server : ℕ) (asked : Asked) → c.widening ≡ None → c.mode ≡ Shared → next c ≡ Ask server asked → mode_asked asked ≡ Shared
asks_shared c server asked narrow mode is =
    let one = asked_one c server asked is in
    let passes = (find_some (is_left c) (counted c).reps one.rep one.found).1 in
    let free = left_parts (nat_lt 0 one.rep.1) (is_member c one.rep.0) _ passes in
    let wants : wanted c ≡ Shared = ap (λ w. mode_or w c.mode) narrow ∙ mode in
    let unheld : holds Shared (all_told c) one.rep.0 ≡ false = ap (λ (m : LockMode). holds m (all_told c) one.rep.0) (sym wants) ∙ free in
    ap mode_asked one.question
    ∙ ap (λ b. mode_asked (cond b Upgrade (Poll (wanted c)))) unheld
    ∙ wants

-- ---- prefixes and servers

module _ (V : Configuration → Type 0) (S : ℕ → Type 0) where
  abbrev pub AllReps : List Representative → Type 0
  AllReps [] = Unit {0}
  AllReps (rep ∷ reps) = S rep.0 × AllReps reps

  abbrev pub SaysSo : Said → Type 0
  SaysSo (Held prefix dver) = V prefix.votes
  SaysSo other = Unit {0}

  abbrev pub AllTold : List Told → Type 0
  AllTold [] = Unit {0}
  AllTold (one ∷ told) = S one.server × SaysSo one.said × AllTold told

  newer_so : (prefix : Prefix) (said : Said) → V prefix.votes → SaysSo said → V (newer prefix said).votes
  newer_so prefix said h2 h3 = search arith

  pub newest_so : (start : Prefix) (told : List Told) → V start.votes → AllTold told → V (newest start told).votes
  newest_so start [] is all = is
  newest_so start (one ∷ told) is all = newer_so (newest start told) one.said (newest_so start told is all.2) all.1

  pub all_append : (first second : List Told) → AllTold first → AllTold second → AllTold (first ++ second)
  all_append [] second a b = b
  all_append (one ∷ first) second a b = (a.0, a.1, all_append first second a.2 b)

  -- who said something was asked
  pub teller : (kind : Told → Bool) (told : List Told) (server : ℕ) → AllTold told → list_any (λ one. (one.server == server) && kind one) told ≡ true → S server
  teller kind [] server all is = cc
  teller kind (one ∷ told) server all is = search (nat_tests, teller kind told server, arith)

  found_so : (p : Representative → Bool) (reps : List Representative) (rep : Representative) → AllReps reps → find p reps ≡ Some rep → S rep.0
  found_so p [] rep all is = cc
  found_so p (first ∷ reps) rep all is = search (found_so p reps rep, arith)

  pub asked_so : (c : Collector) (server : ℕ) (asked : Asked) → AllReps (counted c).reps → next c ≡ Ask server asked → S server
  asked_so c server asked all is = search (asked_one, found_so, arith)

  -- members, and so the source
  abbrev pub AllIn : List ℕ → Type 0
  AllIn [] = Unit {0}
  AllIn (server ∷ servers) = S server × AllIn servers

  members_so : (p : Representative → Bool) (reps : List Representative) → AllReps reps → AllIn (map (λ rep. rep.0) (filter p reps))
  members_so p [] all = tt
  members_so p (rep ∷ reps) all = elim (p rep) as (λ b. AllIn (map (λ rep. rep.0) (cond b (rep ∷ filter p reps) (filter p reps)))) [ true ↦ (all.0, members_so p reps all.1) | false ↦ members_so p reps all.1 ]

  pub source_so : (c : Collector) (dver : ℕ) (members : List ℕ) → S 0 → AllIn members → S (source_of c dver members)
  source_so c dver [] zero' all = zero'
  source_so c dver (server ∷ members) zero' all = search (source_so c dver members zero', arith)

  pub given_so : (c : Collector) (prefix : Prefix) (dver : ℕ) (members : List ℕ) → S 0 → AllReps (counted c).reps → next c ≡ Current prefix dver members → S (source_of c dver members)
  given_so c prefix dver members zero' all is = search (current_gives, source_so, members_so, nat_lt, arith)
