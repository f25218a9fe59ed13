-- What the collector's answers mean.
use Rattle.suite_collect.proofs.Vocabulary.{◌≡◌, ℕ, ◌+◌, ◌<◌, ◌≤◌, Bool, true, false, cond, ◌⊎◌, inl, inr, List, [], ◌∷◌, Option, Some, None, refl, sym, ap, subst, ◌∙◌, arith, nat_lt, nat_le, not, ◌&&◌, ◌||◌, ◌==◌, find, filter, map}
use Rattle.suite_collect.proofs.Vocabulary.{option_map, ◌++◌, nat_tests, false≢true, eqb-true, Representative, Configuration, votes_in, votes_at, Prefix, LockMode, Shared, Exclusive, is_exclusive, serves, Said, Held, Told, is_held, newer}
use Rattle.suite_collect.proofs.Vocabulary.{newest, has_told, holds, has_refused, greatest, Widening, Collector, told_since, all_told, votes_or, counted, wanted, mode_or, needed, needed_of, got, is_member, is_left, members_of, version}
use Rattle.suite_collect.proofs.Vocabulary.{asked_of, mode_asked, ask_or_short, Asked, Poll, Upgrade, Current, Ask, next, among, WasShown, EachHasAVote, IsCurrent, CurrentIsAQuorum, WidenedIsAWriteQuorum, NobodyIsAskedTwice}
use Rattle.rep_core.proofs.Members.{Has, has_from, contains_from}
use Rattle.rep_core.proofs.Finding.{find_some}

-- ---- the newest prefix

newer_pver : (prefix other : Prefix) (b : Bool) → nat_lt prefix.pver other.pver ≡ b → (prefix.pver ≤ (cond b other prefix).pver) × (other.pver ≤ (cond b other prefix).pver)
newer_pver prefix other true e = (grind (arith, nat_tests), omega arith)
newer_pver prefix other false e = (omega arith, grind (arith, nat_tests))

newer_above : (prefix : Prefix) (said : Said) → prefix.pver ≤ (newer prefix said).pver
newer_above prefix (Held other dver) = (newer_pver prefix other (nat_lt prefix.pver other.pver) refl).0
newer_above prefix _ = omega arith

-- a prefix that some copy showed, by recursion
abbrev Shown : List Told → Prefix → Type 0
Shown told prefix = (one : Told) × (dver : ℕ) × Has told one × (one.said ≡ Held prefix dver)

pub newest_above : (start : Prefix) (told : List Told) (one : Told) (other : Prefix) (dver : ℕ) → Has told one → one.said ≡ Held other dver → other.pver ≤ (newest start told).pver
newest_above start [] one other dver has is = absurd has
newest_above start (last ∷ told) one other dver has is =
    elim has [
      | inl same ↦ subst (λ said. other.pver ≤ (newer (newest start told) said).pver) (sym (ap (λ (one : Told). one.said) same ∙ is)) (newer_pver (newest start told) other (nat_lt (newest start told).pver other.pver) refl).1
      | inr rest ↦ let old = newest_above start told one other dver rest is in let up = newer_above (newest start told) last.said in omega arith
    ]

-- it is the start or was shown
newest_known : (start : Prefix) (told : List Told) → (newest start told ≡ start) ⊎ Shown told (newest start told)
newest_known start [] = inl refl
newest_known start (last ∷ told) = at last.said refl (newest_known start told)
  where
    before : (newest start told ≡ start) ⊎ Shown told (newest start told) → newer (newest start told) last.said ≡ newest start told → (newest start (last ∷ told) ≡ start) ⊎ Shown (last ∷ told) (newest start (last ∷ told))
    before was same =
        elim was [
          | inl first ↦ inl (same ∙ first)
          | inr shown ↦ inr (shown.0, shown.1, inr shown.2, shown.3 ∙ ap (λ prefix. Held prefix shown.1) (sym same))
        ]

    shows : (other : Prefix) (dver : ℕ) → last.said ≡ Held other dver → (b : Bool) → nat_lt (newest start told).pver other.pver ≡ b
        → (newest start told ≡ start) ⊎ Shown told (newest start told) → (newest start (last ∷ told) ≡ start) ⊎ Shown (last ∷ told) (newest start (last ∷ told))
    shows other dver is true newer_is _ =
        let same : newest start (last ∷ told) ≡ other = ap (newer (newest start told)) is ∙ ap (λ b. cond b other (newest start told)) newer_is in
        inr (last, dver, inl refl, is ∙ ap (λ prefix. Held prefix dver) (sym same))
    shows other dver is false older was = before was (ap (newer (newest start told)) is ∙ ap (λ b. cond b other (newest start told)) older)

    at : (said : Said) → last.said ≡ said → (newest start told ≡ start) ⊎ Shown told (newest start told) → (newest start (last ∷ told) ≡ start) ⊎ Shown (last ∷ told) (newest start (last ∷ told))
    at (Held other dver) is was = shows other dver is (nat_lt (newest start told).pver other.pver) refl was
    at _ is was = before was (ap (newer (newest start told)) is)

newest_from : (start : Prefix) (told : List Told) → start.pver ≤ (newest start told).pver
newest_from start [] = omega arith
newest_from start (last ∷ told) = let old = newest_from start told in let up = newer_above (newest start told) last.said in omega arith

-- ---- members

any_here : (server : ℕ) (servers : List ℕ) → among (server ∷ servers) server ≡ true
any_here server servers = grind (arith, nat_tests)

-- a voting representative that is held is a member
among_members : (reps : List Representative) (held : ℕ → Bool) (rep : Representative) → Has reps rep → (nat_lt 0 rep.1 && held rep.0) ≡ true → among (map (λ rep. rep.0) (filter (λ rep. nat_lt 0 rep.1 && held rep.0) reps)) rep.0 ≡ true
among_members [] held rep has is = absurd has
among_members (first ∷ reps) held rep has is =
    elim (nat_lt 0 first.1 && held first.0) as (λ b. (nat_lt 0 first.1 && held first.0) ≡ b
    → among (map (λ rep. rep.0) (cond b (first ∷ filter (λ rep. nat_lt 0 rep.1 && held rep.0) reps) (filter (λ rep. nat_lt 0 rep.1 && held rep.0) reps))) rep.0 ≡ true) [
      | true ↦ λ _. elim has [
        | inl same ↦ subst (λ (other : Representative). among (first.0 ∷ map (λ rep. rep.0) (filter (λ rep. nat_lt 0 rep.1 && held rep.0) reps)) other.0 ≡ true) same (any_here first.0 _)
        | inr rest ↦ later (first.0 == rep.0) (among_members reps held rep rest is)
      ]
      | false ↦ λ fails. elim has [ inl same ↦ absurd (false≢true (sym fails ∙ ap (λ (rep : Representative). nat_lt 0 rep.1 && held rep.0) same ∙ is)) | inr rest ↦ among_members reps held rep rest is ]
    ] refl
  where
    later : (a : Bool) {b : Bool} → b ≡ true → (a || b) ≡ true
    later true is = refl
    later false is = is

-- and each member is held
members_held : (reps : List Representative) (held : ℕ → Bool) (server : ℕ) → among (map (λ rep. rep.0) (filter (λ rep. nat_lt 0 rep.1 && held rep.0) reps)) server ≡ true → held server ≡ true
members_held [] held server is = cc
members_held (first ∷ reps) held server is =
    elim (nat_lt 0 first.1 && held first.0) as (λ b. (nat_lt 0 first.1 && held first.0) ≡ b
    → among (map (λ rep. rep.0) (cond b (first ∷ filter (λ rep. nat_lt 0 rep.1 && held rep.0) reps) (filter (λ rep. nat_lt 0 rep.1 && held rep.0) reps))) server ≡ true
    → held server ≡ true) [
      | true ↦ λ passes is. here (first.0 == server) refl is passes (members_held reps held server)
      | false ↦ λ _ is. members_held reps held server is
    ] refl is
  where
    second : (a b : Bool) → (a && b) ≡ true → b ≡ true
    second true b is = is
    second false b is = cc

    here : (b : Bool) → (first.0 == server) ≡ b → (b || among (map (λ rep. rep.0) (filter (λ rep. nat_lt 0 rep.1 && held rep.0) reps)) server) ≡ true
        → (nat_lt 0 first.1 && held first.0) ≡ true → (among (map (λ rep. rep.0) (filter (λ rep. nat_lt 0 rep.1 && held rep.0) reps)) server ≡ true → held server ≡ true)
        → held server ≡ true
    here true same is passes _ = subst (λ server. held server ≡ true) (eqb-true first.0 server same) (second (nat_lt 0 first.1) (held first.0) passes)
    here false _ is passes again = again is

-- and each has a vote
members_vote : (reps : List Representative) (held : ℕ → Bool) (server : ℕ) → among (map (λ rep. rep.0) (filter (λ rep. nat_lt 0 rep.1 && held rep.0) reps)) server ≡ true → 0 < votes_at reps server
members_vote [] held server is = cc
members_vote (first ∷ reps) held server is = at (nat_lt 0 first.1 && held first.0) refl is (members_vote reps held server)
  where
    later : 0 < votes_at reps server → 0 < cond (first.0 == server) first.1 0 + votes_at reps server
    later some = omega (arith, some)

    left : (a b : Bool) → (a && b) ≡ true → a ≡ true
    left true b is = refl
    left false b is = cc

    here : (b : Bool) → (first.0 == server) ≡ b → nat_lt 0 first.1 ≡ true → (b || among (map (λ rep. rep.0) (filter (λ rep. nat_lt 0 rep.1 && held rep.0) reps)) server) ≡ true
        → (among (map (λ rep. rep.0) (filter (λ rep. nat_lt 0 rep.1 && held rep.0) reps)) server ≡ true → 0 < votes_at reps server) → 0 < cond b first.1 0 + votes_at reps server
    here true same some is _ = let more : 0 < first.1 = grind (arith, nat_tests) in omega (arith, more)
    here false _ some is rest = let more = rest is in omega (arith, more)

    at : (b : Bool) → (nat_lt 0 first.1 && held first.0) ≡ b
        → among (map (λ rep. rep.0) (cond b (first ∷ filter (λ rep. nat_lt 0 rep.1 && held rep.0) reps) (filter (λ rep. nat_lt 0 rep.1 && held rep.0) reps))) server ≡ true
        → (among (map (λ rep. rep.0) (filter (λ rep. nat_lt 0 rep.1 && held rep.0) reps)) server ≡ true → 0 < votes_at reps server)
        → 0 < cond (first.0 == server) first.1 0 + votes_at reps server
    at true passes is rest = here (first.0 == server) refl (left (nat_lt 0 first.1) (held first.0) passes) is rest
    at false _ is rest = later (rest is)

-- members have the votes of all that are held
term_le : (f g : Bool) (v : ℕ) → ((nat_lt 0 v && f) ≡ true → g ≡ true) → cond f v 0 ≤ cond g v 0
term_le false g v h = omega arith
term_le true true v h = omega arith
term_le true false v h = grind (arith, nat_tests)

votes_le : (reps : List Representative) (f g : ℕ → Bool) → ((rep : Representative) → Has reps rep → (nat_lt 0 rep.1 && f rep.0) ≡ true → g rep.0 ≡ true) → votes_in reps f ≤ votes_in reps g
votes_le [] f g h = omega arith
votes_le (rep ∷ reps) f g h =
    let first = term_le (f rep.0) (g rep.0) rep.1 (h rep (inl refl)) in
    let rest = votes_le reps f g (λ other has. h other (inr has)) in
    omega arith

-- ---- next

-- what stands behind a Current
pub record Gives (c : Collector) (prefix : Prefix) (dver : ℕ) (members : List ℕ) : Type 0 where
  pub enough : needed c ≤ got c
  pub prefix_is : newest c.start c.told ≡ prefix
  pub version_is : version c ≡ dver
  pub members_are : members_of (counted c) (is_member c) ≡ members

current_of : (c : Collector) (b : Bool) (prefix : Prefix) (dver : ℕ) (members : List ℕ) → nat_le (needed c) (got c) ≡ b
    → cond b (Current (newest c.start c.told) (version c) (members_of (counted c) (is_member c))) (ask_or_short c (find (is_left c) (counted c).reps)) ≡ Current prefix dver members
    → Gives c prefix dver members
current_of c true prefix dver members enough is = record { enough = grind (arith, nat_tests); prefix_is = cc; version_is = cc; members_are = cc }
current_of c false prefix dver members enough is = absurd (none (find (is_left c) (counted c).reps) is)
  where
    none : (found : Option Representative) → ask_or_short c found ≡ Current prefix dver members → ⊥
    none (Some rep) is = cc
    none None is = cc

pub gives_of : (c : Collector) (prefix : Prefix) (dver : ℕ) (members : List ℕ) → next c ≡ Current prefix dver members → Gives c prefix dver members
gives_of c prefix dver members is = current_of c (nat_le (needed c) (got c)) prefix dver members refl is

-- the members that are given have all votes that are held
members_enough : (needed : ℕ) (votes : Configuration) (held : ℕ → Bool) (members : List ℕ) → members_of votes held ≡ members → needed ≤ votes_in votes.reps held → needed ≤ votes_in votes.reps (among members)
members_enough needed votes held members are enough =
    subst (λ members. needed ≤ votes_in votes.reps (among members)) are
    (let more = votes_le votes.reps held (among (members_of votes held)) (among_members votes.reps held) in omega arith)

each_held : (votes : Configuration) (held : ℕ → Bool) (members : List ℕ) → members_of votes held ≡ members → (server : ℕ) → among members server ≡ true → held server ≡ true
each_held votes held members are server in' = members_held votes.reps held server (ap (λ members. among members server) are ∙ in')

each_votes : (votes : Configuration) (held : ℕ → Bool) (members : List ℕ) → members_of votes held ≡ members → EachHasAVote votes members
each_votes votes held members are server in' = members_vote votes.reps held server (ap (λ members. among members server) are ∙ in')

pub current_is_a_quorum : CurrentIsAQuorum
current_is_a_quorum c prefix dver members narrow is = at c.widening refl narrow
  where
    at : (w : Option Widening) → c.widening ≡ w → w ≡ None → IsCurrent c prefix dver members
    at (Some w) same none = cc
    at None same none =
        let gives = gives_of c prefix dver members is in
        let told : all_told c ≡ c.told = ap (λ w. told_since w ++ c.told) same in
        let mode : wanted c ≡ c.mode = ap (λ w. mode_or w c.mode) same in
        let votes : counted c ≡ prefix.votes = ap (λ w. votes_or w (newest c.start c.told)) same ∙ ap (λ (prefix : Prefix). prefix.votes) gives.prefix_is in
        let held : is_member c ≡ holds c.mode c.told = ap (λ mode. holds mode (all_told c)) mode ∙ ap (holds c.mode) told in
        let are : members_of prefix.votes (holds c.mode c.told) ≡ members = ap (λ votes. members_of votes (holds c.mode c.told)) (sym votes) ∙ ap (members_of (counted c)) (sym held) ∙ gives.members_are in
        let enough : needed_of c.mode prefix.votes ≤ votes_in prefix.votes.reps (holds c.mode c.told) =
        subst (λ (mode : LockMode). needed_of mode prefix.votes ≤ votes_in prefix.votes.reps (holds c.mode c.told)) mode
        (subst (λ (votes : Configuration). needed_of (wanted c) votes ≤ votes_in votes.reps (holds c.mode c.told)) votes
        (subst (λ held. needed c ≤ votes_in (counted c).reps held) held gives.enough)) in
        record {
          known =
              subst (λ prefix. (prefix ≡ c.start) ⊎ WasShown c.told prefix) gives.prefix_is
              (elim (newest_known c.start c.told) [ inl first ↦ inl first | inr shown ↦ inr (shown.0, shown.1, contains_from c.told shown.0 shown.2, shown.3) ]);
          not_older = subst (λ (prefix : Prefix). c.start.pver ≤ prefix.pver) gives.prefix_is (newest_from c.start c.told);
          voting = each_votes prefix.votes (holds c.mode c.told) members are;
          quorum = members_enough (needed_of c.mode prefix.votes) prefix.votes (holds c.mode c.told) members are enough;
          held = each_held prefix.votes (holds c.mode c.told) members are;
          newest = λ one other dver there said. subst (λ (prefix : Prefix). other.pver ≤ prefix.pver) gives.prefix_is (newest_above c.start c.told one other dver (has_from c.told one there) said);
          latest =
              sym gives.version_is
              ∙ ap (λ (prefix : Prefix). greatest c.told (members_of prefix.votes (holds c.mode c.told))) gives.prefix_is
              ∙ ap (greatest c.told) are;
        }

pub widened_is_a_write_quorum : WidenedIsAWriteQuorum
widened_is_a_write_quorum c widening prefix dver members wide is =
    let gives = gives_of c prefix dver members is in
    let mode : wanted c ≡ Exclusive = ap (λ w. mode_or w c.mode) wide in
    let votes : counted c ≡ widening.votes = ap (λ w. votes_or w (newest c.start c.told)) wide in
    let held : is_member c ≡ holds Exclusive (all_told c) = ap (λ mode. holds mode (all_told c)) mode in
    let are : members_of widening.votes (holds Exclusive (all_told c)) ≡ members = ap (λ votes. members_of votes (holds Exclusive (all_told c))) (sym votes) ∙ ap (members_of (counted c)) (sym held) ∙ gives.members_are in
    let enough : widening.votes.w ≤ votes_in widening.votes.reps (holds Exclusive (all_told c)) =
    subst (λ (mode : LockMode). needed_of mode widening.votes ≤ votes_in widening.votes.reps (holds Exclusive (all_told c))) mode
    (subst (λ (votes : Configuration). needed_of (wanted c) votes ≤ votes_in votes.reps (holds Exclusive (all_told c))) votes
    (subst (λ held. needed c ≤ votes_in (counted c).reps held) held gives.enough)) in
    record {
      voting = each_votes widening.votes (holds Exclusive (all_told c)) members are;
      quorum = members_enough widening.votes.w widening.votes (holds Exclusive (all_told c)) members are enough;
      held = each_held widening.votes (holds Exclusive (all_told c)) members are;
    }

-- ---- whom it asks

-- what is told of one kind is told of one of two
covered : (kind a b : Told → Bool) → ((one : Told) → kind one ≡ true → (a one || b one) ≡ true) → (told : List Told) (server : ℕ) → has_told a told server ≡ false → has_told b told server ≡ false → has_told kind told server ≡ false
covered kind a b covers [] server no_a no_b = refl
covered kind a b covers (one ∷ told) server no_a no_b = step (one.server == server) (kind one) (a one) (b one) _ _ _ (covers one) (covered kind a b covers told server) no_a no_b
  where
    right : (a b : Bool) → (a || b) ≡ false → b ≡ false
    right false b is = is
    right true b is = cc

    step : (here k x y rest_k rest_x rest_y : Bool) → (k ≡ true → (x || y) ≡ true) → (rest_x ≡ false → rest_y ≡ false → rest_k ≡ false) → ((here && x) || rest_x) ≡ false → ((here && y) || rest_y) ≡ false → ((here && k) || rest_k) ≡ false
    step true true x y rest_k rest_x rest_y one rest no_x no_y = grind (arith, one refl)
    step true false x y rest_k rest_x rest_y one rest no_x no_y = rest (right x rest_x no_x) (right y rest_y no_y)
    step false k x y rest_k rest_x rest_y one rest no_x no_y = rest no_x no_y

-- a request is to a member that is left
asked_left : (c : Collector) (server : ℕ) (asked : Asked) → next c ≡ Ask server asked → (is_member c server ≡ false) × (has_refused (all_told c) server ≡ false) × (asked_of c server ≡ asked)
asked_left c server asked is = at (nat_le (needed c) (got c)) is
  where
    found_left : (found : Option Representative) → find (is_left c) (counted c).reps ≡ found → ask_or_short c found ≡ Ask server asked → (is_member c server ≡ false) × (has_refused (all_told c) server ≡ false) × (asked_of c server ≡ asked)
    found_left None was is = cc
    found_left (Some rep) was is =
        let same : rep.0 ≡ server = cc in
        let left = parts (nat_lt 0 rep.1) (is_member c rep.0) (has_refused (all_told c) rep.0) (find_some (is_left c) (counted c).reps rep was).1 in
        let question : asked_of c rep.0 ≡ asked = cc in
        (ap (is_member c) (sym same) ∙ left.0, ap (has_refused (all_told c)) (sym same) ∙ left.1, ap (asked_of c) (sym same) ∙ question)
      where
        parts : (a b d : Bool) → (a && not b && not d) ≡ true → (b ≡ false) × (d ≡ false)
        parts true false false is = (refl, refl)
        parts true false true is = cc
        parts true true d is = cc
        parts false b d is = cc

    at : (b : Bool) → cond b (Current (newest c.start c.told) (version c) (members_of (counted c) (is_member c)))
        (ask_or_short c (find (is_left c) (counted c).reps)) ≡ Ask server asked → (is_member c server ≡ false) × (has_refused (all_told c) server ≡ false)
        × (asked_of c server ≡ asked)
    at true is = cc
    at false is = found_left (find (is_left c) (counted c).reps) refl is

-- and in the mode that is wanted: a lock that is held, and not in that mode, is to become exclusive
pub asked_as_wanted : (c : Collector) (server : ℕ) → option_map (λ rep. rep.0) (find (is_left c) (counted c).reps) ≡ Some server → mode_asked (asked_of c server) ≡ wanted c
asked_as_wanted c server is = at (find (is_left c) (counted c).reps) refl is
  where
    of : (mode : LockMode) → wanted c ≡ mode → (b : Bool) → holds Shared (all_told c) server ≡ b → holds (wanted c) (all_told c) server ≡ false → mode_asked (cond b Upgrade (Poll (wanted c))) ≡ wanted c
    of mode want false held left = refl
    of Exclusive want true held left = sym want
    of Shared want true held left = absurd (false≢true (sym left ∙ ap (λ mode. holds mode (all_told c) server) want ∙ held))

    parts : (a b d : Bool) → (a && not b && not d) ≡ true → b ≡ false
    parts true false d is = refl
    parts true true d is = cc
    parts false b d is = cc

    at : (found : Option Representative) → find (is_left c) (counted c).reps ≡ found → option_map (λ rep. rep.0) found ≡ Some server → mode_asked (asked_of c server) ≡ wanted c
    at None was is = cc
    at (Some rep) was is =
        let same : rep.0 ≡ server = cc in
        let left = parts (nat_lt 0 rep.1) (is_member c rep.0) (has_refused (all_told c) rep.0) (find_some (is_left c) (counted c).reps rep was).1 in
        of (wanted c) refl (holds Shared (all_told c) server) refl (ap (is_member c) (sym same) ∙ left)

pub nobody_is_asked_twice : NobodyIsAskedTwice
nobody_is_asked_twice c server = (
  λ mode is. let left = asked_left c server _ is in
      polled mode (holds Shared (all_told c) server) refl left.2 left.1,
  λ is. let left = asked_left c server _ is in
      upgraded (wanted c) refl (holds Shared (all_told c) server) refl left.2 left.0 left.1,
)
  where
    any_covers : (one : Told) → true ≡ true → ((is_held one.said && serves one.mode Shared) || not (is_held one.said)) ≡ true
    any_covers one _ = all (is_held one.said) (is_exclusive one.mode)
      where
        all : (a b : Bool) → ((a && (b || true)) || not a) ≡ true
        all true true = refl
        all true false = refl
        all false b = refl

    polled : (mode : LockMode) (b : Bool) → holds Shared (all_told c) server ≡ b → cond b Upgrade (Poll (wanted c)) ≡ Poll mode → has_refused (all_told c) server ≡ false → has_told (λ _. true) (all_told c) server ≡ false
    polled mode true not_held is fine = cc
    polled mode false not_held is fine = covered (λ _. true) _ _ any_covers (all_told c) server not_held fine

    exclusive_covers : (one : Told) → is_exclusive one.mode ≡ true → ((is_held one.said && serves one.mode Exclusive) || not (is_held one.said)) ≡ true
    exclusive_covers one is = all (is_held one.said) (is_exclusive one.mode) is
      where
        all : (a b : Bool) → b ≡ true → ((a && (b || false)) || not a) ≡ true
        all true true _ = refl
        all true false is = cc
        all false b _ = refl

    upgraded : (mode : LockMode) → wanted c ≡ mode → (b : Bool) → holds Shared (all_told c) server ≡ b → cond b Upgrade (Poll (wanted c)) ≡ Upgrade → is_member c server ≡ false
        → has_refused (all_told c) server ≡ false → has_told (λ one. is_exclusive one.mode) (all_told c) server ≡ false
    upgraded mode want false held is no_member fine = cc
    upgraded Shared want true held is no_member fine = absurd (false≢true (sym no_member ∙ ap (λ mode. holds mode (all_told c) server) want ∙ held))
    upgraded Exclusive want true held is no_member fine = covered _ _ _ exclusive_covers (all_told c) server (ap (λ mode. holds mode (all_told c) server) (sym want) ∙ no_member) fine
