-- A collector of a transaction to which servers stand as a sight says: what it is told, and what it asks next.
use Rattle.law_run_recovers.proofs.Vocabulary.{◌≡◌, ◌⊎◌, inl, inr, ℕ, ◌≤◌, Bool, true, false, List, [], ◌∷◌, Option, Some, None, refl, sym, ◌∙◌, arith, ◌&&◌, not, nat_lt, nat_le, max, find, option_map, false≢true, and_parts, or_cases}
use Rattle.law_run_recovers.proofs.Vocabulary.{false_from_ne_true, eqb-true, nat_tests, none-some, same_Some, Representative, votes_in, Prefix, LockMode, Shared, Exclusive, serves, Reply, has_lock, reply_of, copy_of, Said, Told, Collector, Asked}
use Rattle.law_run_recovers.proofs.Vocabulary.{Upgrade, request_for, mode_asked, said_to, all_told, counted, needed, got, is_left, version, told_by, Next, Current, Ask, Short, next, State, Has, Fixed, World, server_at, is_up, shown_at, way_in}
use Rattle.law_run_recovers.proofs.Vocabulary.{is_open_way, shows_newer_by, newer_by}
use Rattle.suite_collect.specs.declared.told.Said.TheVariants.{Held, Busy, Down}
use Rattle.suite_collect.specs.Telling.{is_held, newer, newest, holds, has_refused, first_busy, greatest}
use Rattle.rep_core.specs.declared.reply.Reply.TheVariants as reply
use Rattle.suite_collect.specs.Telling as telling
use Rattle.law_run_recovers.proofs.Picks.{find_nobody, find_fails, three, votes_alike}

-- ---- how servers stand to a transaction

-- Of a suite and a mode, which servers are open to it; in which mode it asks for a suite first; and whose lock it may be told of, of a suite at a server.
-- Who is open to one that writes is open to one that reads.
pub record Sight : Type 0 where
  pub opens : ℕ → LockMode → ℕ → Bool
  pub first : ℕ → LockMode
  pub met : ℕ → ℕ → ℕ → Bool
  pub weaker : (suite server : ℕ) → opens suite Exclusive server ≡ true → opens suite Shared server ≡ true

-- the servers among which its votes are found
abbrev pub finds_at : Sight → ℕ → ℕ → Bool
finds_at sight suite server = sight.opens suite (sight.first suite) server

pub opens_wider : (sight : Sight) (suite : ℕ) (mode other : LockMode) (server : ℕ) → serves mode other ≡ true → sight.opens suite mode server ≡ true → sight.opens suite other server ≡ true
opens_wider sight suite mode other server h5 h6 = search arith

pub closed_wider : (sight : Sight) (suite : ℕ) (mode other : LockMode) (server : ℕ) → serves other mode ≡ true → sight.opens suite mode server ≡ false → sight.opens suite other server ≡ false
closed_wider sight suite mode other server wide is = false_from_ne_true (sight.opens suite other server) (λ open'. false≢true (sym is ∙ opens_wider sight suite other mode server wide open'))

pub serves_all : (mode : LockMode) → serves Exclusive mode ≡ true
serves_all mode = search arith

-- ---- a collector that nothing widens

abbrev pub gathering : Prefix → LockMode → List Told → Collector
gathering start mode told = record { start = start; mode = mode; told = told; widening = None }

-- ---- what it asks next, and where it ends

-- it is told something only where it asks the first that is left
pub first_left : (c : Collector) (server : ℕ) (asked : Asked) → next c ≡ Ask server asked → (rep : Representative) × (find (is_left c) (counted c).reps ≡ Some rep) × (rep.0 ≡ server)
first_left c server asked is = search arith

pub record AtCurrent (c : Collector) (prefix : Prefix) (dver : ℕ) : Type 0 where
  pub enough : nat_le (needed c) (got c) ≡ true
  pub prefix_is : newest c.start c.told ≡ prefix
  pub version_is : version c ≡ dver

pub at_current : (c : Collector) (prefix : Prefix) (dver : ℕ) (members : List ℕ) → next c ≡ Current prefix dver members → AtCurrent c prefix dver
at_current c prefix dver members is = search arith

pub record AtShort (c : Collector) (had wanting : ℕ) (busy : Option (ℕ × ℕ)) : Type 0 where
  pub too_few : nat_le (needed c) (got c) ≡ false
  pub nobody : find (is_left c) (counted c).reps ≡ None
  pub had_is : got c ≡ had
  pub wanting_is : needed c ≡ wanting
  pub busy_is : first_busy (all_told c) ≡ busy

pub at_short : (c : Collector) (had wanting : ℕ) (busy : Option (ℕ × ℕ)) → next c ≡ Short had wanting busy → AtShort c had wanting busy
at_short c had wanting busy is = search arith

-- ---- what servers say

-- the version of the content that a server has stored of a suite
abbrev pub dver_in : Option State → ℕ → ℕ
dver_in (Some st) suite = (copy_of st.store suite).dver
dver_in None suite = 0

abbrev pub dver_at : World → ℕ → ℕ → ℕ
dver_at world suite server = dver_in (server_at world server) suite

most : (a b n : ℕ) → a ≤ n → b ≤ n → max a b ≤ n
most a b n one other = grind (arith, nat_tests)

module _ (fixed : Fixed) (world : World) (sight : Sight) (suite : ℕ) where
  abbrev shown : ℕ → Prefix
  shown server = shown_at fixed world suite server

  -- A server that is open answers a poll or upgrade with what it shows, one that is not with the lock in the way, or that it is down, which is heard.
  abbrev pub Answers : Asked → ℕ → Reply → Type 0
  Answers asked server (reply.Held prefix dver) = (sight.opens suite (mode_asked asked) server ≡ true) × (prefix ≡ shown_at fixed world suite server) × (dver ≡ dver_at world suite server)
  Answers asked server (reply.Busy holder prepared) = (sight.opens suite (mode_asked asked) server ≡ false) × (sight.met suite server holder ≡ true)
  Answers asked server reply.Down = (sight.opens suite (mode_asked asked) server ≡ false) × (is_up world server ≡ false) × (said_to asked reply.Down ≡ Some Down)
  Answers asked server other = ⊥

  abbrev pub IsAnswered : Collector → Reply → Type 0
  IsAnswered c answer = (server : ℕ) (asked : Asked) → next c ≡ Ask server asked → Answers asked server answer

  -- so does a server that is up or down as it was, stands to it as the sight says, and has stored what it showed
  pub answers_so : (server t : ℕ) (st : State) (asked : Asked) → st.up ≡ is_up world server
      → is_open_way (way_in t suite (mode_asked asked) (Some st)) ≡ sight.opens suite (mode_asked asked) server
      → ((holder : ℕ) → way_in t suite (mode_asked asked) (Some st) ≡ Some (Some holder) → sight.met suite server holder ≡ true)
      → (sight.opens suite (mode_asked asked) server ≡ true → ((copy_of st.store suite).prefix ≡ shown_at fixed world suite server) × ((copy_of st.store suite).dver ≡ dver_at world suite server))
      → (asked ≡ Upgrade → (st.up ≡ true) × (has_lock t suite st.locks ≡ true))
      → Answers asked server (reply_of st (request_for t suite asked))
  answers_so server t st asked up opens met stored own = search arith

  -- What was said in a mode is right: who held is open in that mode, and showed this; who refused is closed to one that wants a lock in the mode wanted now.
  abbrev pub RightSaid : LockMode → LockMode → ℕ → Said → Type 0
  RightSaid wanted mode server (Held prefix dver) = (sight.opens suite mode server ≡ true) × (prefix ≡ shown_at fixed world suite server) × (dver ≡ dver_at world suite server)
  RightSaid wanted mode server (Busy holder) = (sight.opens suite wanted server ≡ false) × (sight.met suite server holder ≡ true)
  RightSaid wanted mode server Down = (sight.opens suite wanted server ≡ false) × (is_up world server ≡ false)

  abbrev pub AllRight : LockMode → List Told → Type 0
  AllRight wanted [] = Unit {0}
  AllRight wanted (one ∷ told) = RightSaid wanted one.mode one.server one.said × AllRight wanted told

  -- as it is for one that wants more
  pub right_wider : (wanted more mode : LockMode) (server : ℕ) (said : Said) → serves more wanted ≡ true → RightSaid wanted mode server said → RightSaid more mode server said
  right_wider wanted more mode server said h5 h6 = search arith

  pub all_wider : (wanted more : LockMode) (told : List Told) → serves more wanted ≡ true → AllRight wanted told → AllRight more told
  all_wider wanted more [] wide right = tt
  all_wider wanted more (one ∷ told) wide right = (right_wider wanted more one.mode one.server one.said wide right.0, all_wider wanted more told wide right.1)

  newer_not : (before : Prefix) (said : Said) (n : ℕ) → nat_lt before.pver n ≡ false → nat_lt (newer before said).pver n ≡ false
  newer_not before said n h3 = search arith

  -- a server that said it held is open, and shows none that is newer than the newest since
  said_open : (wanted mode : LockMode) (server : ℕ) (said : Said) (before : Prefix) → RightSaid wanted mode server said → is_held said ≡ true
      → (sight.opens suite mode server ≡ true) × (nat_lt (newer before said).pver (shown server).pver ≡ false)
  said_open wanted mode server said before h5 h6 = search arith

  pub held_open : (start : Prefix) (wanted : LockMode) (told : List Told) → AllRight wanted told → (mode : LockMode) (server : ℕ) → holds mode told server ≡ true
      → (sight.opens suite mode server ≡ true) × (nat_lt (newest start told).pver (shown server).pver ≡ false)
  held_open start wanted [] right mode server is = absurd (false≢true is)
  held_open start wanted (one ∷ told) right mode server is = search (or_cases, and_parts, said_open, nat_lt, eqb-true, opens_wider, newer_not, held_open start wanted told, arith)

  -- no version was shown above what servers that are open have
  abbrev pub AllBelow : ℕ → Type 0
  AllBelow n = (mode : LockMode) (server : ℕ) → sight.opens suite mode server ≡ true → dver_at world suite server ≤ n

  shown_below : (wanted : LockMode) (told : List Told) → AllRight wanted told → (n : ℕ) → AllBelow n → (server : ℕ) → telling.shown told server ≤ n
  shown_below wanted [] right n below server = omega arith
  shown_below wanted (one ∷ told) right n below server = search (shown_below wanted told, arith)

  pub greatest_below : (wanted : LockMode) (told : List Told) → AllRight wanted told → (n : ℕ) → AllBelow n → (servers : List ℕ) → greatest told servers ≤ n
  greatest_below wanted told right n below [] = omega arith
  greatest_below wanted told right n below (server ∷ servers) = search (most, shown_below, greatest_below wanted told right n below servers, arith)

  -- one that refused is closed
  said_closed : (wanted mode : LockMode) (server : ℕ) (said : Said) → RightSaid wanted mode server said → not (is_held said) ≡ true → sight.opens suite wanted server ≡ false
  said_closed wanted mode server said h4 h5 = search arith

  pub refused_closed : (wanted : LockMode) (told : List Told) → AllRight wanted told → (server : ℕ) → has_refused told server ≡ true → sight.opens suite wanted server ≡ false
  refused_closed wanted [] right server is = absurd (false≢true is)
  refused_closed wanted (one ∷ told) right server is = search (or_cases, and_parts, eqb-true, said_closed, refused_closed wanted told, arith)

  -- ---- who was busy

  pub busy_met : (wanted : LockMode) (told : List Told) → AllRight wanted told → (server holder : ℕ) → first_busy told ≡ Some (server, holder) → sight.met suite server holder ≡ true
  busy_met wanted [] right server holder is = absurd (none-some (server, holder) is)
  busy_met wanted (one ∷ told) right server holder is = search (same_Some, none-some, busy_met wanted told, arith)

  -- where none was, who refused is down
  pub refused_down : (wanted : LockMode) (told : List Told) → AllRight wanted told → first_busy told ≡ None → (server : ℕ) → has_refused told server ≡ true → is_up world server ≡ false
  refused_down wanted [] right none server is = absurd (false≢true is)
  refused_down wanted (one ∷ told) right none server is = search (or_cases, false≢true, none-some, and_parts, eqb-true, refused_down wanted told, arith)

  -- Who is left out of a quorum that is not to be had: whoever was said to be in the way may be; and where none was, each voting member is open or down.
  pub record Refusing (mode : LockMode) (reps : List Representative) (busy : Option (ℕ × ℕ)) : Type 0 where
    pub met : (server holder : ℕ) → busy ≡ Some (server, holder) → sight.met suite server holder ≡ true
    pub free : busy ≡ None → (rep : Representative) → Has reps rep → nat_lt 0 rep.1 ≡ true → (sight.opens suite mode rep.0 ≡ true) ⊎ (is_up world rep.0 ≡ false)

  pub refusing : (mode wanted : LockMode) (told : List Told) → AllRight wanted told → (reps : List Representative)
      → find (λ (rep : Representative). nat_lt 0 rep.1 && not (holds mode told rep.0) && not (has_refused told rep.0)) reps ≡ None → Refusing mode reps (first_busy told)
  refusing mode wanted told right reps none = record {
    met = busy_met wanted told right;
    free =
        λ free rep has some. of rep free (find_fails (λ (rep : Representative). nat_lt 0 rep.1 && not (holds mode told rep.0) && not (has_refused told rep.0)) reps none rep has) some (holds mode told rep.0)
        (has_refused told rep.0) refl refl;
  }
    where
      of : (rep : Representative) → first_busy told ≡ None → (nat_lt 0 rep.1 && not (holds mode told rep.0) && not (has_refused told rep.0)) ≡ false → nat_lt 0 rep.1 ≡ true
          → (m r : Bool) → holds mode told rep.0 ≡ m → has_refused told rep.0 ≡ r → (sight.opens suite mode rep.0 ≡ true) ⊎ (is_up world rep.0 ≡ false)
      of rep free fails some true r member refused = inl (held_open (shown rep.0) wanted told right mode rep.0 member).0
      of rep free fails some false true member refused = inr (refused_down wanted told right free rep.0 refused)
      of rep free fails some false false member refused = absurd (false≢true (sym fails ∙ three (nat_lt 0 rep.1) (holds mode told rep.0) (has_refused told rep.0) some member refused))

  -- the members that are held are those that are open
  pub held_are_open : (mode : LockMode) (told : List Told) → AllRight mode told → (reps : List Representative)
      → find (λ (rep : Representative). nat_lt 0 rep.1 && not (holds mode told rep.0) && not (has_refused told rep.0)) reps ≡ None → votes_in reps (holds mode told) ≡ votes_in reps (sight.opens suite mode)
  held_are_open mode told right reps none =
      votes_alike reps (holds mode told) (sight.opens suite mode)
      (λ rep has some. of rep (find_fails (λ (rep : Representative). nat_lt 0 rep.1 && not (holds mode told rep.0) && not (has_refused told rep.0)) reps none rep has) some (holds mode told rep.0) (has_refused told rep.0) refl refl)
    where
      of : (rep : Representative) → (nat_lt 0 rep.1 && not (holds mode told rep.0) && not (has_refused told rep.0)) ≡ false → nat_lt 0 rep.1 ≡ true
          → (m r : Bool) → holds mode told rep.0 ≡ m → has_refused told rep.0 ≡ r → holds mode told rep.0 ≡ sight.opens suite mode rep.0
      of rep fails some true r member refused = member ∙ sym (held_open (shown rep.0) mode told right mode rep.0 member).0
      of rep fails some false true member refused = member ∙ sym (refused_closed mode told right rep.0 refused)
      of rep fails some false false member refused = absurd (false≢true (sym fails ∙ three (nat_lt 0 rep.1) (holds mode told rep.0) (has_refused told rep.0) some member refused))

  -- what is told is so
  pub told_is : (after : Next) (answer : Reply) (one : Told) → told_by after answer ≡ Some one → ((server : ℕ) (asked : Asked) → after ≡ Ask server asked → Answers asked server answer)
      → RightSaid one.mode one.mode one.server one.said × ((asked : Asked) × (after ≡ Ask one.server asked) × (mode_asked asked ≡ one.mode))
  told_is (Ask server asked) answer one told so = by answer (so server asked refl) told
    where
      Is : Told → Type 0
      Is one = RightSaid one.mode one.mode one.server one.said × ((other : Asked) × (Ask server asked ≡ Ask one.server other) × (mode_asked other ≡ one.mode))

      by : (answer : Reply) → Answers asked server answer → option_map (λ said. record { server = server; mode = mode_asked asked; said = said }) (said_to asked answer) ≡ Some one
          → RightSaid one.mode one.mode one.server one.said × ((other : Asked) × (Ask server asked ≡ Ask one.server other) × (mode_asked other ≡ one.mode))
      by answer h1 h2 = search (Is, same_Some, arith)
  told_is other answer one told so = absurd (none-some one told)

  -- whatever is answered rightly is heard
  pub hears : (asked : Asked) (server : ℕ) (answer : Reply) → Answers asked server answer → (said : Said) × (said_to asked answer ≡ Some said)
  hears asked server (reply.Held prefix dver) right = (Held prefix dver, refl)
  hears asked server (reply.Busy holder prepared) right = (Busy holder, refl)
  hears asked server reply.Down right = (Down, right.2)
  hears asked server other right = absurd right

  -- ---- who is left

  -- one that is open and shows a newer one than the newest is left
  pub newer_left : (start : Prefix) (mode : LockMode) (told : List Told) → AllRight mode told → (rep : Representative)
      → shows_newer_by fixed world (sight.opens suite mode) suite (newest start told) rep ≡ true → is_left (gathering start mode told) rep ≡ true
  newer_left start mode told right rep is = search (and_parts, nat_lt, three, false_from_ne_true, false≢true, held_open, refused_closed, arith)

  -- where nobody is left, none shows a newer one
  pub none_shows : (start : Prefix) (mode : LockMode) (told : List Told) → AllRight mode told → find (is_left (gathering start mode told)) (newest start told).votes.reps ≡ None
      → newer_by fixed world (sight.opens suite mode) suite (newest start told) ≡ None
  none_shows start mode told right none = search (find_nobody, newer_left, arith)
