-- Where a collector ends to which servers stand as a sight says: at the prefix that its start leads to, with the votes of the servers that are open.
use Rattle.law_run_recovers.proofs.Vocabulary.{◌≡◌, ◌⊎◌, inl, inr, ℕ, suc, ◌≤◌, Bool, true, false, cond, List, [], ◌∷◌, Option, Some, None, refl, sym, ap, subst, ◌∙◌, arith, ◌&&◌, not, nat_lt, nat_le, find, option_map, false≢true, and_parts}
use Rattle.law_run_recovers.proofs.Vocabulary.{and_from, ltb-false, nat_tests, none-some, Representative, votes_in, votes_in-wider, Prefix, LockMode, serves, Reply, find_some, Has, Said, Told, newer, newest, holds, has_refused, Collector, all_told}
use Rattle.law_run_recovers.proofs.Vocabulary.{needed_of, is_left, tell, told_by, Current, Short, next, collect, raise, Opening, fixed_of, Fixed, World, row, WasPrefix, IsQuorum, Inv, beginning, shown_at, shows_newer_by, newer_by, led_so_far_by}
use Rattle.law_run_recovers.proofs.Vocabulary.{led_to_by, serves_itself}
use Rattle.suite_collect.specs.declared.told.Said.TheVariants.{Held}
use Rattle.law_suite_machine.specs.Machine as machine
use Rattle.law_run_recovers.proofs.Found.{Answering, newest_is_row}
use Rattle.law_run_recovers.proofs.Leading as leading
use Rattle.law_run_recovers.proofs.Leading.{one_step, one_end}
use Rattle.law_run_recovers.proofs.Picks.{find_first, find_fails}
use Rattle.law_run_recovers.proofs.Asked.{next_mode}
use Rattle.law_run_recovers.proofs.Polled.{Sight, finds_at, opens_wider, serves_all, gathering, first_left, at_current, at_short, IsAnswered, RightSaid, AllRight, all_wider, held_open, Refusing, refusing, told_is, newer_left}
use Rattle.law_run_recovers.proofs.Polled.{none_shows, held_are_open}

-- ---- what holds all along

-- Known: what a prefix that is found is said to be, as that the suite had it. What servers show that answer is that; and where servers that answer, none
-- of which shows a newer one, have the votes that are needed in some mode under one that is known, none of its voting members shows a newer one.
pub record Rules (fixed : Fixed) (world : World) (answers : ℕ → Bool) (suite : ℕ) (Known : Prefix → Type 0) (start : Prefix) : Type 0 where
  pub begins : Known start
  pub goes : (server : ℕ) → answers server ≡ true → Known (shown_at fixed world suite server)
  pub settled : (mode : LockMode) (prefix : Prefix) (held : ℕ → Bool) → Known prefix
      → ((server : ℕ) → held server ≡ true → (answers server ≡ true) × (nat_lt prefix.pver (shown_at fixed world suite server).pver ≡ false))
      → nat_le (needed_of mode prefix.votes) (votes_in prefix.votes.reps held) ≡ true → newer_by fixed world answers suite prefix ≡ None
  pub last : newer_by fixed world answers suite (led_to_by fixed world answers suite start) ≡ None

module _ (fixed : Fixed) (world : World) (sight : Sight) (suite : ℕ) (Known : Prefix → Type 0) (start : Prefix) (rules : Rules fixed world (finds_at sight suite) suite Known start) where
  abbrev pub Settled : Prefix → Type 0
  Settled prefix = newer_by fixed world (finds_at sight suite) suite prefix ≡ None

  -- The newest prefix is one that the start leads to. It is asked for as it was first, or none shows a newer one.
  pub record Going (mode : LockMode) (told : List Told) : Type 0 where
    pub right : AllRight fixed world sight suite mode told
    pub steps : ℕ
    pub at : led_so_far_by steps fixed world (finds_at sight suite) suite start ≡ newest start told
    pub known : Known (newest start told)
    pub strong : serves mode (sight.first suite) ≡ true
    pub settled : (mode ≡ sight.first suite) ⊎ Settled (newest start told)

  going_first : Going (sight.first suite) []
  going_first = record { right = tt; steps = 0; at = refl; known = rules.begins; strong = serves_itself (sight.first suite); settled = inl refl }

  -- a voting member that shows a newer one than the newest, which so is shown
  not_settled : (told : List Told) (rep : Representative) → Has (newest start told).votes.reps rep → nat_lt 0 rep.1 ≡ true → finds_at sight suite rep.0 ≡ true
      → nat_lt (newest start told).pver (shown_at fixed world suite rep.0).pver ≡ true → Settled (newest start told) → ⊥
  not_settled told rep has some found less none = search (finds_at, false≢true, find_fails, and_from, nat_lt, none-some, arith)

  going_on : (mode : LockMode) (told : List Told) → Going mode told → (answer : Reply) (one : Told) → IsAnswered fixed world sight suite (gathering start mode told) answer
      → told_by (next (gathering start mode told)) answer ≡ Some one → Going mode (one ∷ told)
  going_on mode told going answer one so is =
      let asks = told_is fixed world sight suite (next (gathering start mode told)) answer one is so in
      let modes : one.mode ≡ mode = sym asks.1.2 ∙ next_mode (gathering start mode told) one.server asks.1.0 asks.1.1 in
      let right = subst (λ mode. RightSaid fixed world sight suite mode mode one.server one.said) modes asks.0 in
      let left = first_left (gathering start mode told) one.server asks.1.0 asks.1.1 in
      let after = of one.server one.said right left.0 left.1 left.2 going.settled in
      record {
        right = (subst (λ own. RightSaid fixed world sight suite mode own one.server one.said) (sym modes) right, going.right);
        steps = after.0;
        at = after.1;
        known = after.2;
        strong = going.strong;
        settled = after.3;
      }
    where
      of : (server : ℕ) (said : Said) → RightSaid fixed world sight suite mode mode server said → (rep : Representative) → find (is_left (gathering start mode told)) (newest start told).votes.reps ≡ Some rep → rep.0 ≡ server
          → (mode ≡ sight.first suite) ⊎ Settled (newest start told)
          → (steps : ℕ) × (led_so_far_by steps fixed world (finds_at sight suite) suite start ≡ newer (newest start told) said) × Known
          (newer (newest start told) said) × ((mode ≡ sight.first suite) ⊎ Settled (newer (newest start told) said))
      of server (Held prefix dver) right rep left same settled = by (nat_lt (newest start told).pver prefix.pver) refl settled
        where
          has : Has (newest start told).votes.reps rep
          has = (find_some (is_left (gathering start mode told)) (newest start told).votes.reps rep left).0

          some : nat_lt 0 rep.1 ≡ true
          some =
              let test = (find_some (is_left (gathering start mode told)) (newest start told).votes.reps rep left).1 in
              (and_parts (nat_lt 0 rep.1) (not (holds mode told rep.0)) (and_parts (nat_lt 0 rep.1 && not (holds mode told rep.0)) (not (has_refused told rep.0)) test).0).0

          shows : shown_at fixed world suite rep.0 ≡ prefix
          shows = ap (shown_at fixed world suite) same ∙ sym right.1

          open' : sight.opens suite mode rep.0 ≡ true
          open' = ap (sight.opens suite mode) same ∙ right.0

          finds : finds_at sight suite rep.0 ≡ true
          finds = opens_wider sight suite mode (sight.first suite) rep.0 going.strong open'

          is_newer : mode ≡ sight.first suite → nat_lt (newest start told).pver prefix.pver ≡ true → newer_by fixed world (finds_at sight suite) suite (newest start told) ≡ Some prefix
          is_newer first less =
              let newer : shows_newer_by fixed world (sight.opens suite mode) suite (newest start told) rep ≡ true =
              and_from (nat_lt 0 rep.1 && sight.opens suite mode rep.0) (nat_lt (newest start told).pver (shown_at fixed world suite rep.0).pver) (and_from (nat_lt 0 rep.1) (sight.opens suite mode rep.0) some open')
              (ap (λ (p : Prefix). nat_lt (newest start told).pver p.pver) shows ∙ less) in
              subst (λ mode. newer_by fixed world (sight.opens suite mode) suite (newest start told) ≡ Some prefix) first
              (ap (option_map (λ (rep : Representative). shown_at fixed world suite rep.0))
              (find_first (is_left (gathering start mode told)) (shows_newer_by fixed world (sight.opens suite mode) suite (newest start told))
              (newer_left fixed world sight suite start mode told going.right) (newest start told).votes.reps rep left newer)
              ∙ ap (λ p. Some p) shows)

          by : (b : Bool) → nat_lt (newest start told).pver prefix.pver ≡ b → (mode ≡ sight.first suite) ⊎ Settled (newest start told)
              → (steps : ℕ) × (led_so_far_by steps fixed world (finds_at sight suite) suite start ≡ cond b prefix (newest start told)) × Known
              (cond b prefix (newest start told)) × ((mode ≡ sight.first suite) ⊎ Settled (cond b prefix (newest start told)))
          by false less settled = (going.steps, going.at, going.known, settled)
          by true less (inl first) = (
            suc going.steps,
            one_step fixed world (finds_at sight suite) suite going.steps start (newest start told) prefix going.at (is_newer first less),
            subst Known (sym right.1) (rules.goes server (subst (λ server. finds_at sight suite server ≡ true) same finds)),
            inl first,
          )
          by true less (inr none) = absurd (not_settled told rep has some finds (ap (λ (p : Prefix). nat_lt (newest start told).pver p.pver) shows ∙ less) none)
      of server other right rep left same settled = (going.steps, going.at, going.known, settled)

  -- where none is newer, that is where the start leads
  ends_at : (mode : LockMode) (told : List Told) → Going mode told → Settled (newest start told) → newest start told ≡ led_to_by fixed world (finds_at sight suite) suite start
  ends_at mode told going none = search (one_end, finds_at, arith)

  -- ---- where it ends

  -- the votes that are open in a mode under where it leads
  abbrev pub votes_open : LockMode → ℕ
  votes_open mode = votes_in (led_to_by fixed world (finds_at sight suite) suite start).votes.reps (sight.opens suite mode)

  pub record EndsCurrent (mode : LockMode) (prefix : Prefix) : Type 0 where
    pub prefix_is : prefix ≡ led_to_by fixed world (finds_at sight suite) suite start
    pub enough : nat_le (needed_of mode (led_to_by fixed world (finds_at sight suite) suite start).votes) (votes_open mode) ≡ true

  pub record EndsShort (mode : LockMode) (had wanting : ℕ) (busy : Option (ℕ × ℕ)) : Type 0 where
    pub had_is : had ≡ votes_open mode
    pub wanting_is : wanting ≡ needed_of mode (led_to_by fixed world (finds_at sight suite) suite start).votes
    pub too_few : nat_le (needed_of mode (led_to_by fixed world (finds_at sight suite) suite start).votes) (votes_open mode) ≡ false
    pub refuses : Refusing fixed world sight suite mode (led_to_by fixed world (finds_at sight suite) suite start).votes.reps busy

  held_finds : (mode : LockMode) (told : List Told) → Going mode told → (server : ℕ) → holds mode told server ≡ true → (finds_at sight suite server ≡ true) × (nat_lt (newest start told).pver (shown_at fixed world suite server).pver ≡ false)
  held_finds mode told going server has =
      let held = held_open fixed world sight suite start mode told going.right mode server has in (opens_wider sight suite mode (sight.first suite) server going.strong held.0, held.1)

  current_settled : (mode : LockMode) (told : List Told) → Going mode told → (prefix : Prefix) (dver : ℕ) (members : List ℕ) → next (gathering start mode told) ≡ Current prefix dver members → Settled (newest start told)
  current_settled mode told going prefix dver members is = search (held_finds, at_current, gathering, arith)

  ends_current : (mode : LockMode) (told : List Told) → Going mode told → (prefix : Prefix) (dver : ℕ) (members : List ℕ)
      → next (gathering start mode told) ≡ Current prefix dver members → EndsCurrent mode prefix
  ends_current mode told going prefix dver members is =
      let at = at_current (gathering start mode told) prefix dver members is in
      let same = ends_at mode told going (current_settled mode told going prefix dver members is) in
      let more = votes_in-wider (newest start told).votes.reps (holds mode told) (sight.opens suite mode) (λ server has. (held_open fixed world sight suite start mode told going.right mode server has).0) in
      record {
        prefix_is = sym at.prefix_is ∙ same;
        enough = search (nat_le, up_to, arith);
      }
    where
      up_to : (a b c : ℕ) → nat_le a b ≡ true → b ≤ c → nat_le a c ≡ true
      up_to a b c le more = grind (arith, nat_tests)

  none_so : (mode : LockMode) (told : List Told) → Going mode told → find (is_left (gathering start mode told)) (newest start told).votes.reps ≡ None → Settled (newest start told)
  none_so mode told going nobody = of going.settled
    where
      of : (mode ≡ sight.first suite) ⊎ Settled (newest start told) → Settled (newest start told)
      of (inl first) = subst (λ mode. newer_by fixed world (sight.opens suite mode) suite (newest start told) ≡ None) first (none_shows fixed world sight suite start mode told going.right nobody)
      of (inr none) = none

  ends_short : (mode : LockMode) (told : List Told) → Going mode told → (had wanting : ℕ) (busy : Option (ℕ × ℕ))
      → next (gathering start mode told) ≡ Short had wanting busy → EndsShort mode had wanting busy
  ends_short mode told going had wanting busy is =
      let at = at_short (gathering start mode told) had wanting busy is in
      let same = ends_at mode told going (none_so mode told going at.nobody) in
      let held = held_are_open fixed world sight suite mode told going.right (newest start told).votes.reps at.nobody in
      record {
        had_is = sym at.had_is ∙ held ∙ ap (λ (p : Prefix). votes_in p.votes.reps (sight.opens suite mode)) same;
        wanting_is = sym at.wanting_is ∙ ap (λ (p : Prefix). needed_of mode p.votes) same;
        too_few = search (nat_le, arith);
        refuses = subst (λ (p : Prefix). Refusing fixed world sight suite mode p.votes.reps busy) same
            (subst (Refusing fixed world sight suite mode (newest start told).votes.reps) at.busy_is (refusing fixed world sight suite mode mode told going.right (newest start told).votes.reps at.nobody));
      }

  -- ---- all along, raised or not: step by step, as an invariant of who drives it

  pub record Reached (c : Collector) : Type 0 where
    pub mode : LockMode
    pub told : List Told
    pub is : c ≡ gathering start mode told
    pub going : Going mode told

  pub reached_first : (mode : LockMode) → mode ≡ sight.first suite → Reached (collect mode start)
  reached_first mode first = record { mode = mode; told = []; is = refl; going = subst (λ mode. Going mode []) (sym first) going_first }

  -- it is raised where none shows a newer prefix
  pub reached_raise : (c : Collector) → Reached c → Settled (newest c.start c.told) → Reached (raise c)
  reached_raise c at none = search (all_wider, serves_all, arith)

  pub reached_told : (c : Collector) → Reached c → (answer : Reply) (one : Told) → IsAnswered fixed world sight suite c answer → told_by (next c) answer ≡ Some one → Reached (tell one c)
  reached_told c at answer one so is = search (going_on, arith)

  -- One that is Current has the prefix that its start leads to, and the servers that are open have the votes that it wants, and none of them shows a newer
  -- one; one that is Short found the same prefix, and they have not.
  pub reached_settled : (c : Collector) → Reached c → (prefix : Prefix) (dver : ℕ) (members : List ℕ) → next c ≡ Current prefix dver members → Settled (newest c.start c.told)
  reached_settled c at prefix dver members = search (current_settled, arith)

  pub reached_current : (c : Collector) → Reached c → (prefix : Prefix) (dver : ℕ) (members : List ℕ) → next c ≡ Current prefix dver members → EndsCurrent c.mode prefix
  reached_current c at prefix dver members = search (ends_current, arith)

  pub reached_short : (c : Collector) → Reached c → (had wanting : ℕ) (busy : Option (ℕ × ℕ)) → next c ≡ Short had wanting busy → EndsShort c.mode had wanting busy
  reached_short c at had wanting busy = search (ends_short, arith)

  -- that is the newest that it was told of
  pub reached_leads : (c : Collector) → Reached c → (had wanting : ℕ) (busy : Option (ℕ × ℕ)) → next c ≡ Short had wanting busy
      → newest c.start (all_told c) ≡ led_to_by fixed world (finds_at sight suite) suite start
  reached_leads c at had wanting busy =
      subst (λ (c : Collector). next c ≡ Short had wanting busy → newest c.start (all_told c) ≡ led_to_by fixed world (finds_at sight suite) suite start) (sym at.is)
      (λ is. ends_at at.mode at.told at.going (none_so at.mode at.told at.going (at_short (gathering start at.mode at.told) had wanting busy is).nobody))

-- ---- in a world

-- where servers answer what is in effect, what the suite's machine had is known so
module _ (given : Opening) (z : ℕ) (w : machine.World) (world : World) (inv : Inv (beginning z given) w) (answers : ℕ → Bool) (answering : Answering (fixed_of given) world z w answers) where
  -- a quorum that is held, none of which shows a newer one, is of the row's votes: nobody shows a newer one
  none_above : (prefix : Prefix) → prefix ≡ (row (beginning z given) w.log).prefix → newer_by (fixed_of given) world answers z prefix ≡ None
  none_above prefix is = of (find (shows_newer_by (fixed_of given) world answers z prefix) prefix.votes.reps) refl
    where
      not_above : (p shown top : ℕ) → p ≡ top → shown ≤ top → nat_lt p shown ≡ true → false ≡ true
      not_above p shown top same le less = grind (arith, nat_tests)

      of : (found : Option Representative) → find (shows_newer_by (fixed_of given) world answers z prefix) prefix.votes.reps ≡ found → option_map (λ (rep : Representative). shown_at (fixed_of given) world z rep.0) found ≡ None
      of None found = refl
      of (Some rep) found =
          let test = (find_some (shows_newer_by (fixed_of given) world answers z prefix) prefix.votes.reps rep found).1 in
          let parts = and_parts (nat_lt 0 rep.1 && answers rep.0) (nat_lt prefix.pver (shown_at (fixed_of given) world z rep.0).pver) test in
          let up = (and_parts (nat_lt 0 rep.1) (answers rep.0) parts.0).1 in
          let was = subst (WasPrefix (beginning z given) w.log) (answering.stored rep.0 up) (inv.current.were rep.0).0 in
          absurd (false≢true (not_above prefix.pver (shown_at (fixed_of given) world z rep.0).pver (row (beginning z given) w.log).prefix.pver (ap (λ (p : Prefix). p.pver) is) was.0 parts.1))

  pub rules_of : (start : Prefix) → WasPrefix (beginning z given) w.log start → Rules (fixed_of given) world answers z (WasPrefix (beginning z given) w.log) start
  rules_of start was = record {
    begins = was;
    goes = λ server up. subst (WasPrefix (beginning z given) w.log) (answering.stored server up) (inv.current.were server).0;
    settled = search (none_above, newest_is_row, quorum, ltb-false, arith);
    last = (leading.led given z w world inv answers answering start was).last;
  }
    where
      quorum : (mode : LockMode) (prefix : Prefix) (held : ℕ → Bool) → nat_le (needed_of mode prefix.votes) (votes_in prefix.votes.reps held) ≡ true → IsQuorum prefix.votes held
      quorum mode prefix held h3 = search arith
