-- Of two that meet at one suite, by votes that are tight, one is decided, whatever others do beside: else each had been refused by the other, and had votes that the other wanted.
use Rattle.law_run_recovers.proofs.Vocabulary.{Bool, Contains, List, Some, [], ap, append-nil, append_assoc, arith, false, inl, inr, refl, subst, sym, true, ℕ, ⊎_elim, ◌++◌, ◌<◌, ◌==◌, ◌||◌, ◌∙◌, ◌∷◌, ◌≡◌, ◌⊎◌, eq-eqb, eqb-true, false≢true, list_any}
use Rattle.law_run_recovers.proofs.Vocabulary.{is_decided, machine_of, IsNotDecided, beginning, row, find_some, Has, contains_from, has_any, has_from, State, Lock, decisions, run, table_of, server_at, step, EndedJob, Served, Event, Begin, Step}
use Rattle.law_run_recovers.proofs.Vocabulary.{mode_of, Opening, LockMode, Exclusive, fixed_of, has_vote, Transaction, Configuration, votes_at, Begun, clashes, any_has, append_has_left, append_has_right, has_append, CanBe, votes_set, EndsThen}
use Rattle.law_run_recovers.proofs.Vocabulary.{AreTight, first_clash, locks_at, locks_in, SetsApart, votes_now, asks_for, shown_at, world_after, IsTrue, not, ◌≤◌, World, begun_world, needed_of, shared_member, total_votes, votes_in, Always}
use Rattle.law_run_recovers.proofs.Vocabulary.{OneThatMeetsBesideIsDecidedAt, AllOthers, TheyMeetBeside, first_asks, meets_some}
use Rattle.txn_core.specs.Doing as doing
use Rattle.law_run_recovers.proofs.AmongCourse.{head_or, tail_or}
use Rattle.law_run_recovers.proofs.Keeps.{IsAtWork, at_work_before}
use Rattle.law_run_recovers.proofs.MeetApart.{clashes_back, Room, granted_since, stand_apart}
use Rattle.law_run_recovers.proofs.MeetBarred.{barred_by}
use Rattle.law_run_recovers.proofs.MeetBehind.{reach, bound}
use Rattle.law_run_recovers.proofs.MeetBoth.{Place, place, its_event, in_part, cancel, held_in, none_yet, IsGranted, granted_now, all_granted}
use Rattle.law_run_recovers.proofs.MeetCalm.{Calm, IsOurs, Ours, ours_front}
use Rattle.law_run_recovers.proofs.MeetClear.{calm_beside}
use Rattle.law_run_recovers.proofs.MeetCount.{votes_split, Falls, falls_by, Met, OtherMet, Same, IsRefused, IsRefusedToo, not_both_short}
use Rattle.law_run_recovers.proofs.MeetEnds.{fronts, Fixed, undecided_not, fixed_at}
use Rattle.law_run_recovers.proofs.MeetLocks.{owned_at}
use Rattle.law_run_recovers.proofs.MeetQuiet.{GoesQuietly}
use Rattle.law_run_recovers.proofs.Stands.{asks_of}
use Rattle.law_run_recovers.proofs.MeetReach.{Reached, reaches_asks, reached_first}
use Rattle.law_run_recovers.proofs.MeetRun.{its_actor, goes_of, run_is}
use Rattle.law_run_recovers.proofs.MeetTold.{for_lock, says_held, asks_at_work, refuses, some_step, found_in, there_in}
use Rattle.law_run_recovers.proofs.MeetWants.{upto, whole, calm_upto, ours_upto, goes as its_goes, had, Wants, wants}

-- what one asks for that clashes with some lock of the other's clashes with one of them
clashes_some : (others : List (ℕ × LockMode)) (one way : ℕ × LockMode) → Contains others way → clashes one way ≡ true → list_any (clashes one) others ≡ true
clashes_some others one way has is = has_any (clashes one) others way (has_from others way has) is

-- of two that are not both undecided one is decided
pub not_neither : (a b : Bool) → (a ≡ false → b ≡ false → ⊥) → (a || b) ≡ true
not_neither a b h2 = search arith

-- ---- who is refused

pub none_apart : (given : Opening) (events : List Event) (sets : List (ℕ × Configuration)) → SetsApart given events sets []
none_apart given events sets one has = inr (λ mode there. has_from [] (one.0, mode) there)

pub open_not : (b : Bool) → IsTrue (not b) → b ≡ false
open_not b h1 = search arith

-- what some step of a front does some step of all does
pub some_more : (p : Served → Bool) (agent : ℕ) (fixed : doing.Fixed) (w : World) (front back : List Event) → some_step p agent fixed w front ≡ true → some_step p agent fixed w (front ++ back) ≡ true
some_more p agent fixed w front back is =
    let f = found_in p agent fixed w front is in
    subst (λ all. some_step p agent fixed w all ≡ true) (sym (ap (λ front. front ++ back) f.parts ∙ append_assoc f.front (Step agent ∷ f.back) back)) (there_in p agent fixed f.front (f.back ++ back) w f.what f.served f.is)

-- where too few are open some server with a vote is not
pub some_shut : (votes : Configuration) (open' : ℕ → Bool) (needed : ℕ) → votes_in votes.reps open' < needed → needed ≤ total_votes votes.reps → (server : ℕ) × (0 < votes_at votes.reps server) × (open' server ≡ false)
some_shut votes open' needed few most =
    let all = votes_split votes.reps open' in
    let s = shared_member (λ _. true) (λ s. not (open' s)) votes.reps (omega (arith, all, few, most)) in
    (s.server, s.has_vote, open_not (open' s.server) s.in_second)

-- one in whose way nobody is wants for no votes
module _ (given : Opening) (events later : List Event) (one : Begun given events later) {still : ℕ → Type 0} (calm : Calm given events later still) (ours : Ours given events later still one)
    (undecided : IsNotDecided (decisions given (events ++ later)) one.t) (f : Fixed given events later one)
    (apart : (so_far back : List Event) → later ≡ so_far ++ back → (s : ℕ) (st : State) → server_at (run given (events ++ so_far)) s ≡ Some st → (lock : Lock) → Has st.locks lock
    → (lock.t ≡ one.t) ⊎ (list_any (clashes (lock.suite, lock.mode)) (asks_for given events one.t one.caller one.ops) ≡ false)) where
  abbrev its_all : List (ℕ × LockMode)
  its_all = asks_for given events one.t one.caller one.ops

  abbrev OwnOrApart : ℕ → ℕ → ℕ → LockMode → Type 0
  OwnOrApart s t y mode = (t ≡ one.t) ⊎ (list_any (clashes (y, mode)) (asks_for given events one.t one.caller one.ops) ≡ false)

  in_no_way : (y : ℕ) (mode way : LockMode) → list_any (clashes (y, way)) (asks_for given events one.t one.caller one.ops) ≡ false → Contains (asks_for given events one.t one.caller one.ops) (y, mode) → clashes (y, mode) (y, way) ≡ true → ⊥
  in_no_way y mode way none has is = false≢true (sym none ∙ has_any (clashes (y, way)) its_all (y, mode) (has_from its_all (y, mode) has) (clashes_back y mode way is))

  pub never_by_itself : ⊥
  never_by_itself =
      let w = wants given events later calm one ours f undecided [] (none_apart given events (votes_set (table_of given events) one.t one.caller one.ops)) in
      let s = some_shut w.votes w.open' (needed_of w.mode w.votes) w.few w.most in
      let then' =
      subst (λ after. some_step (refuses one.t w.suite w.mode s.0) one.agent (fixed_of given) (begun_world given (events ++ one.before) one.agent one.caller one.site one.ops) after ≡ true) (sym f.parts)
      (some_more (refuses one.t w.suite w.mode s.0) one.agent (fixed_of given) (begun_world given (events ++ one.before) one.agent one.caller one.site one.ops) f.front f.back (w.shut s.0 s.1 s.2)) in
      let b = barred_by given events later later calm one ours one.after one.parts OwnOrApart (λ so_far back split s st at lock has. apart so_far back split s st at lock has) w.suite w.mode s.0 then' in
      ⊎_elim
      (λ own. b.not_own own)
      (λ none. in_no_way w.suite b.mode b.way none (reaches_asks (votes_now given events) its_all (held_in given events later one.agent one.t) (w.suite, b.mode) b.reached) b.clashing)
      b.stands

module _ (given : Opening) (events later : List Event) (one other : Begun given events later) {still : ℕ → Type 0} (calm : Calm given events later still) (ours : Ours given events later still one) (other_ours : Ours given events later still other)
    (beside : AllOthers given events later one other (λ lock. meets_some lock (first_asks given events later one ++ first_asks given events later other) ≡ false)) (undecided : IsNotDecided (decisions given (events ++ later)) one.t) (other_undecided : IsNotDecided (decisions given (events ++ later)) other.t) (two : (one.t == other.t) ≡ false)
    (sets_apart : SetsApart given events (votes_set (table_of given events) one.t one.caller one.ops) (asks_for given events other.t other.caller other.ops))
    (other_sets_apart : SetsApart given events (votes_set (table_of given events) other.t other.caller other.ops) (asks_for given events one.t one.caller one.ops))
    (z : ℕ) (m k : LockMode)
    (first : first_clash (asks_for given events one.t one.caller one.ops) (asks_for given events other.t other.caller other.ops) ≡ Some (z, m))
    (other_first : first_clash (asks_for given events other.t other.caller other.ops) (asks_for given events one.t one.caller one.ops) ≡ Some (z, k))
    (clash : clashes (z, m) (z, k) ≡ true)
    (tight : AreTight (votes_now given events z) z (asks_for given events one.t one.caller one.ops) (asks_for given events other.t other.caller other.ops))
    (f : Fixed given events later one) (other_f : Fixed given events later other)
    (more : List Event) (order : other.before ++ Begin other.agent (Transaction other.caller other.site other.ops) ∷ other_f.front ≡ (one.before ++ Begin one.agent (Transaction one.caller one.site one.ops) ∷ f.front) ++ more) where
  abbrev shows' : ℕ → ℕ → ℕ
  shows' y server = (shown_at (fixed_of given) (run given events) y server).pver

  abbrev newest' : ℕ → ℕ
  newest' y = (row (beginning y given) (machine_of given y events).log).prefix.pver

  abbrev mine : List (ℕ × LockMode)
  mine = asks_for given events one.t one.caller one.ops

  abbrev theirs : List (ℕ × LockMode)
  theirs = asks_for given events other.t other.caller other.ops

  -- the ends of both are fixed, the one's first
  abbrev part : List Event
  part = upto given events later calm one ours f

  abbrev rest : List Event
  rest = f.back

  abbrev part_whole : later ≡ upto given events later calm one ours f ++ f.back
  part_whole = whole given events later calm one ours f

  abbrev part_calm : Calm given events (upto given events later calm one ours f) still
  part_calm = calm_upto given events later calm one ours f

  part_ours : IsOurs given events (upto given events later calm one ours f) still one.agent one.t one.caller one.ops
  part_ours = ours_upto given events later calm one ours f

  part_other : IsOurs given events (upto given events later calm one ours f) still other.agent other.t other.caller other.ops
  part_other = ours_front given events later part rest still other.agent other.t other.caller other.ops part_whole other_ours

  abbrev all : List Event
  all = upto given events later calm other other_ours other_f

  abbrev all_whole : later ≡ upto given events later calm other other_ours other_f ++ other_f.back
  all_whole = whole given events later calm other other_ours other_f

  abbrev all_calm : Calm given events (upto given events later calm other other_ours other_f) still
  all_calm = calm_upto given events later calm other other_ours other_f

  all_ours : IsOurs given events (upto given events later calm other other_ours other_f) still one.agent one.t one.caller one.ops
  all_ours = ours_front given events later all other_f.back still one.agent one.t one.caller one.ops all_whole ours

  all_other : IsOurs given events (upto given events later calm other other_ours other_f) still other.agent other.t other.caller other.ops
  all_other = ours_upto given events later calm other other_ours other_f

  abbrev can : CanBe given (events ++ later)
  can = calm.fair.can

  abbrev held : ℕ → LockMode → ℕ → Bool
  held = held_in given events (upto given events later calm one ours f) one.agent one.t

  abbrev other_held : ℕ → LockMode → ℕ → Bool
  other_held = held_in given events (upto given events later calm one ours f) other.agent other.t

  abbrev Granted' : ℕ → ℕ → ℕ → LockMode → Type 0
  Granted' s t y mode = IsGranted given events later can part rest part_whole part_calm one part_ours s t y mode

  abbrev OtherGranted : ℕ → ℕ → ℕ → LockMode → Type 0
  OtherGranted s t y mode = IsGranted given events later can part rest part_whole part_calm other part_other s t y mode

  -- ---- locks of both stand apart

  abbrev room : Room given events later one other can part rest part_whole part_calm one
  room = record { fixed = f; more = []; room = sym (append-nil part); ours = part_ours }

  abbrev other_room : Room given events later one other can part rest part_whole part_calm other
  other_room = record { fixed = other_f; more = more; room = order; ours = part_other }

  apart : (y server : ℕ) (a b : LockMode) → held y a server ≡ true → other_held y b server ≡ true → clashes (y, a) (y, b) ≡ true → ⊥
  apart = stand_apart given events later one other can part rest part_whole part_calm room other_room two

  -- ---- each was refused by the other

  its_wants : Wants given events later calm one ours f (asks_for given events other.t other.caller other.ops)
  its_wants = wants given events later calm one ours f undecided theirs sets_apart

  other_wants : Wants given events later calm other other_ours other_f (asks_for given events one.t one.caller one.ops)
  other_wants = wants given events later calm other other_ours other_f other_undecided mine other_sets_apart

  -- what each found it found by what it was granted
  its_falls : Falls (votes_now given events) held shows' theirs its_wants.suite its_wants.votes its_wants.open'
  its_falls =
      falls_by (votes_now given events) (had given events later calm one ours f) held shows' theirs its_wants.suite its_wants.votes its_wants.open'
      (λ mode server is. granted_since given events later one other can part rest part_whole part_calm one room its_wants.suite server mode is) its_wants.falls

  other_falls : Falls (votes_now given events) other_held shows' mine other_wants.suite other_wants.votes other_wants.open'
  other_falls =
      falls_by (votes_now given events) (had given events later calm other other_ours other_f) other_held shows' mine other_wants.suite other_wants.votes other_wants.open'
      (λ mode server is. granted_since given events later one other can part rest part_whole part_calm other other_room other_wants.suite server mode is) other_wants.falls

  has_first : Contains mine (z, m)
  has_first = contains_from mine (z, m) (find_some (λ x. list_any (clashes x) theirs) mine (z, m) first).0

  has_other_first : Contains theirs (z, k)
  has_other_first = contains_from theirs (z, k) (find_some (λ x. list_any (clashes x) mine) theirs (z, k) other_first).0

  -- what one asked for that clashes with what the other asks for: it had its first clash before, or this is it
  before_it : (y : ℕ) (mode way : LockMode) → Reached (votes_now given events) mine held (y, mode) → Contains theirs (y, way) → clashes (y, mode) (y, way) ≡ true
      → Met mine theirs (votes_now given events) shows' newest' z m k tight has_first has_other_first clash held other_held ⊎ Same (y, mode) (z, m)
  before_it y mode way reached has is = reached_first (votes_now given events) mine held (λ x. list_any (clashes x) theirs) (y, mode) (z, m) reached (clashes_some theirs (y, mode) (y, way) has is) first

  other_before_it : (y : ℕ) (mode way : LockMode) → Reached (votes_now given events) theirs other_held (y, mode) → Contains mine (y, way) → clashes (y, mode) (y, way) ≡ true
      → OtherMet mine theirs (votes_now given events) shows' newest' z m k tight has_first has_other_first clash held other_held ⊎ Same (y, mode) (z, k)
  other_before_it y mode way reached has is = reached_first (votes_now given events) theirs other_held (λ x. list_any (clashes x) mine) (y, mode) (z, k) reached (clashes_some mine (y, mode) (y, way) has is) other_first

  -- a lock of somebody else is in the way of nothing that they ask for
  abbrev IsAside : ℕ → LockMode → Type 0
  IsAside y way = list_any (clashes (y, way)) (asks_for given events one.t one.caller one.ops ++ asks_for given events other.t other.caller other.ops) ≡ false

  aside_not : (y : ℕ) (mode way : LockMode) → IsAside y way → Has (asks_for given events one.t one.caller one.ops ++ asks_for given events other.t other.caller other.ops) (y, mode) → clashes (y, mode) (y, way) ≡ true → ⊥
  aside_not y mode way none has is = false≢true (sym none ∙ has_any (clashes (y, way)) (mine ++ theirs) (y, mode) has (clashes_back y mode way is))

  others : (so_far back : List Event) → later ≡ so_far ++ back → (s : ℕ) (st : State) → server_at (run given (events ++ so_far)) s ≡ Some st → (lock : Lock) → Has st.locks lock
      → (lock.t ≡ one.t) ⊎ ((lock.t ≡ other.t) ⊎ IsAside lock.suite lock.mode)
  others so_far back split s st at lock has =
      beside so_far back s lock split (contains_from (locks_at (run given (events ++ so_far)) s) lock (subst (λ found. Has (locks_in found) lock) (sym at) has))

  abbrev Stands : ℕ → ℕ → ℕ → LockMode → Type 0
  Stands s t y mode = Granted' s t y mode ⊎ (OtherGranted s t y mode ⊎ IsAside y mode)

  stands : (so_far back : List Event) → part ≡ so_far ++ back → (s : ℕ) (st : State) → server_at (run given (events ++ so_far)) s ≡ Some st → (lock : Lock) → Has st.locks lock → Stands s lock.t lock.suite lock.mode
  stands so_far back split s st at lock has = ⊎_elim
      (λ same. inl (all_granted given events later can part rest part_whole part_calm one part_ours so_far back split s st at lock has same))
      (λ more. ⊎_elim
      (λ same. inr (inl (all_granted given events later can part rest part_whole part_calm other part_other so_far back split s st at lock has same)))
      (λ aside. inr (inr aside))
      more)
      (others so_far (back ++ rest) (part_whole ∙ ap (λ part. part ++ rest) split ∙ append_assoc so_far back rest) s st at lock has)

  refused : (server : ℕ) → 0 < votes_at its_wants.votes.reps server → its_wants.open' server ≡ false
      → IsRefused mine theirs (votes_now given events) shows' newest' z m k tight has_first has_other_first clash held other_held its_wants.suite its_wants.mode server
  refused server has_vote shut =
      let y = its_wants.suite in
      let b = barred_by given events later part part_calm one part_ours f.front refl Stands stands y its_wants.mode server (its_wants.shut server has_vote shut) in
      let its_has = reaches_asks (votes_now given events) mine held (y, b.mode) b.reached in
      let theirs' = by_other y server b.holder b.mode b.way its_has b.clashing b.not_own b.stands in
      let has = reaches_asks (votes_now given events) theirs other_held (y, b.way) theirs'.reached in
      record {
        mode = b.mode;
        strong = b.strong;
        way = b.way;
        asks = has;
        clashing = b.clashing;
        by = theirs'.held;
        before = before_it y b.mode b.way b.reached has b.clashing;
        other_before = other_before_it y b.way b.mode theirs'.reached its_has (clashes_back y b.mode b.way b.clashing);
      }
    where
      by_other : (y server t : ℕ) (mode way : LockMode) → Contains (asks_for given events one.t one.caller one.ops) (y, mode) → clashes (y, mode) (y, way) ≡ true → (t ≡ one.t → ⊥) → Stands server t y way → OtherGranted server t y way
      by_other y server t mode way has is not_own (inl granted) = absurd (not_own granted.number)
      by_other y server t mode way has is not_own (inr (inl granted)) = granted
      by_other y server t mode way has is not_own (inr (inr aside)) = absurd (aside_not y mode way aside (append_has_left mine theirs (y, mode) (has_from mine (y, mode) has)) is)

  -- ---- and the other by the one

  abbrev StandsToo : ℕ → ℕ → ℕ → LockMode → Type 0
  StandsToo s t y mode = Granted' s t y mode ⊎ ((t ≡ other.t) ⊎ IsAside y mode)

  -- the one asks for no lock once its end is fixed
  module _ (so_far back : List Event) (i : ℕ) (split : all ≡ so_far ++ Step i ∷ back) (what : Served) (served : (step (fixed_of given) (run given (events ++ so_far)) (Step i)).done.served ≡ Some what)
      (t y : ℕ) (lock : for_lock t y what.request.value ≡ true) (p : Place given events later one so_far i t) where
    abbrev begins : Event
    begins = its_event given events later one

    all_is : all ≡ one.before ++ Begin one.agent (Transaction one.caller one.site one.ops) ∷ (p.mid ++ Step one.agent ∷ back)
    all_is = split ∙ ap (λ i. so_far ++ Step i ∷ back) p.who_is ∙ ap (λ xs. xs ++ Step one.agent ∷ back) p.parts ∙ append_assoc one.before (begins ∷ p.mid) (Step one.agent ∷ back)

    abbrev its : Begun given events all
    its = in_part given events later all one (p.mid ++ Step one.agent ∷ back) all_is

    goes : GoesQuietly given events (events ++ one.before) (p.mid ++ Step one.agent ∷ back) one.agent one.t one.caller one.site one.ops (its_actor given events all all_calm its).0
    goes = goes_of given events all all_calm its all_ours

    works : IsAtWork (world_after given (events ++ one.before) one.agent one.caller one.site one.ops p.mid) one.agent one.t
    works =
        asks_at_work given events (events ++ one.before) (p.mid ++ Step one.agent ∷ back) one.agent one.t one.caller one.site one.ops (its_actor given events all all_calm its).0 goes p.mid back refl what
        (ap (λ w. (step (fixed_of given) w (Step one.agent)).done.served) (run_is given events all all_calm its p.mid ∙ ap (λ xs. run given (events ++ xs)) (sym p.parts))
        ∙ ap (λ i. (step (fixed_of given) (run given (events ++ so_far)) (Step i)).done.served) (sym p.who_is) ∙ served) y (subst (λ t. for_lock t y what.request.value ≡ true) p.number lock)

    not_after : (u : List Event) → so_far ≡ part ++ u → ⊥
    not_after u is =
        let mid : p.mid ≡ f.front ++ u =
        ap tail_or (cancel one.before (begins ∷ p.mid) (begins ∷ (f.front ++ u)) (sym p.parts ∙ is ∙ append_assoc one.before (begins ∷ f.front) u)) in
        f.rests (at_work_before given (events ++ one.before) (p.mid ++ Step one.agent ∷ back) one.agent one.t one.caller one.site one.ops (its_actor given events all all_calm its).0 goes.can goes.there goes.begins f.front u
        (subst (λ mid. IsAtWork (world_after given (events ++ one.before) one.agent one.caller one.site one.ops mid) one.agent one.t) mid works))

    -- so it did before
    in_front : (u : List Event) → part ≡ so_far ++ u → (back' : List Event) × (part ≡ so_far ++ Step i ∷ back')
    in_front [] is = absurd (not_after [] (sym (is ∙ append-nil so_far) ∙ sym (append-nil part)))
    in_front (e ∷ u) is = grind (cancel, append_assoc, head_or, arith)

    stands_before : says_held what.reply.value ≡ true → Granted' what.server t y (mode_of what.request.value)
    stands_before said =
        let at = ⊎_elim (λ after. absurd (not_after after.0 after.1)) (λ front. in_front front.0 front.1) (fronts part so_far more (Step i ∷ back) (sym order ∙ split)) in
        granted_now given events later can part rest part_whole part_calm one part_ours so_far at.0 i at.1 what served t y lock said p.number

  granted_before : (so_far back : List Event) → all ≡ so_far ++ back → (s : ℕ) (st : State) → server_at (run given (events ++ so_far)) s ≡ Some st → (lock : Lock) → Has st.locks lock → lock.t ≡ one.t
      → Granted' s lock.t lock.suite lock.mode
  granted_before so_far back split s st at lock has =
      owned_at given events all all_calm.fair (λ s t y mode. t ≡ one.t → Granted' s t y mode)
      (λ so_far back i split what served t y lock said same.
      stands_before so_far back i split what served t y lock (place given events later can all other_f.back all_whole all_calm.fair so_far back i split what served t y lock one same) said)
      (λ s st at lock has same. absurd (none_yet given events later can one s st at lock has same)) so_far back split s st at lock has

  stands_too : (so_far back : List Event) → all ≡ so_far ++ back → (s : ℕ) (st : State) → server_at (run given (events ++ so_far)) s ≡ Some st → (lock : Lock) → Has st.locks lock → StandsToo s lock.t lock.suite lock.mode
  stands_too so_far back split s st at lock has = ⊎_elim
      (λ same. inl (granted_before so_far back split s st at lock has same))
      (λ more. inr more)
      (others so_far (back ++ other_f.back) (all_whole ∙ ap (λ all. all ++ other_f.back) split ∙ append_assoc so_far back other_f.back) s st at lock has)

  refused_too : (server : ℕ) → 0 < votes_at other_wants.votes.reps server → other_wants.open' server ≡ false
      → IsRefusedToo mine theirs (votes_now given events) shows' newest' z m k tight has_first has_other_first clash held other_held other_wants.suite other_wants.mode server
  refused_too server has_vote shut =
      let y = other_wants.suite in
      let b =
      barred_by given events later all all_calm other all_other other_f.front refl StandsToo stands_too y other_wants.mode server (other_wants.shut server has_vote shut) in
      let has = reaches_asks (votes_now given events) theirs (held_in given events all other.agent other.t) (y, b.mode) b.reached in
      let its = by_one y server b.holder b.mode b.way has b.clashing b.not_own b.stands in
      let back = clashes_back y b.mode b.way b.clashing in
      record {
        mode = b.mode;
        strong = b.strong;
        way = b.way;
        asks = reaches_asks (votes_now given events) mine held (y, b.way) its.reached;
        clashing = back;
        by = its.held;
        before = before_it y b.way b.mode its.reached has back;
      }
    where
      by_one : (y server t : ℕ) (mode way : LockMode) → Contains (asks_for given events other.t other.caller other.ops) (y, mode) → clashes (y, mode) (y, way) ≡ true → (t ≡ other.t → ⊥) → StandsToo server t y way → Granted' server t y way
      by_one y server t mode way has is not_own (inl granted) = granted
      by_one y server t mode way has is not_own (inr (inl own)) = absurd (not_own own)
      by_one y server t mode way has is not_own (inr (inr aside)) = absurd (aside_not y mode way aside (append_has_right mine theirs (y, mode) (has_from theirs (y, mode) has)) is)

  pub never_both : ⊥
  never_both =
      let its = its_goes given events later calm one ours f in
      let is_met = has_any (λ (one : ℕ × LockMode). one.0 == z) mine (z, m) (has_from mine (z, m) has_first) (eq-eqb z z refl) in
      not_both_short mine theirs (votes_now given events) shows' newest' z m k tight has_first has_other_first clash held other_held apart (reach given events its.can_base calm.fair.up z (its.answers z is_met))
      (bound given events its.can_base calm.fair.up z (its.answers z is_met)) its_wants.suite its_wants.mode its_wants.asks its_wants.votes its_wants.open' its_wants.few its_wants.most its_falls refused
      other_wants.suite other_wants.mode other_wants.asks other_wants.votes other_wants.open' other_wants.few other_wants.most other_falls refused_too

-- ---- the law

tight_back : (votes : Configuration) (suite : ℕ) (asked others : List (ℕ × LockMode)) → AreTight votes suite asked others → AreTight votes suite others asked
tight_back votes suite asked others tight mine theirs has there clash = search (clashes_back, arith)

-- one of these that is so
pub any_front : {X : Type 0} (p : X → Bool) (xs ys : List X) → list_any p xs ≡ true → list_any p (xs ++ ys) ≡ true
any_front p xs ys is = let some = any_has p xs is in has_any p (xs ++ ys) some.0 (append_has_left xs ys some.0 some.1) some.2

pub any_back : {X : Type 0} (p : X → Bool) (xs ys : List X) → list_any p ys ≡ true → list_any p (xs ++ ys) ≡ true
any_back p xs ys is = let some = any_has p ys is in has_any p (xs ++ ys) some.0 (append_has_right xs ys some.0 some.1) some.2

-- an exclusive lock clashes with any of its suite
pub exclusive_clashes : (asked : List (ℕ × LockMode)) (y : ℕ) (mode : LockMode) → mode ≡ Exclusive → asks_of asked y ≡ true → list_any (clashes (y, mode)) asked ≡ true
exclusive_clashes asked y mode is has = search arith

never_meets : (lock : Lock) (asked : List (ℕ × LockMode)) → meets_some lock asked ≡ false → list_any (clashes (lock.suite, lock.mode)) asked ≡ true → ⊥
never_meets lock asked none is = false≢true (sym none ∙ is)

module _ (given : Opening) (events later : List Event) (one other : Begun given events later) (meets : TheyMeetBeside given events later one other) (job outcome : EndedJob)
    (ends : EndsThen given (events ++ one.before) one.after one.agent one.t one.caller one.site one.ops job)
    (other_ends : EndsThen given (events ++ other.before) other.after other.agent other.t other.caller other.site other.ops outcome) where
  module _ (undecided : is_decided job.ending ≡ false) (other_undecided : is_decided outcome.ending ≡ false) where
    not_one : IsNotDecided (decisions given (events ++ later)) one.t
    not_one = undecided_not given events later meets.goes one job ends undecided

    not_other : IsNotDecided (decisions given (events ++ later)) other.t
    not_other = undecided_not given events later meets.goes other outcome other_ends other_undecided

    abbrev Mine : List (ℕ × LockMode)
    Mine = first_asks given events later one

    abbrev Theirs : List (ℕ × LockMode)
    Theirs = first_asks given events later other

    abbrev Still : ℕ → Type 0
    Still z = asks_of (first_asks given events later one ++ first_asks given events later other) z ≡ true

    -- what one of them asks for nobody else has locked exclusively
    calm : Calm given events later Still
    calm = search (calm_beside, not_one, not_other, never_meets, exclusive_clashes, arith)

    ours : Ours given events later Still one
    ours = record { asks = λ z has. any_front (λ (one : ℕ × LockMode). one.0 == z) Mine Theirs has; served = meets.served }

    other_ours : Ours given events later Still other
    other_ours = record { asks = λ z has. any_back (λ (one : ℕ × LockMode). one.0 == z) Mine Theirs has; served = meets.other_served }

    f : Fixed given events later one
    f = fixed_at given events later calm one job ends

    other_f : Fixed given events later other
    other_f = fixed_at given events later calm other outcome other_ends

    -- the same, the other first
    none_back : (lock : Lock) → meets_some lock (Mine ++ Theirs) ≡ false → meets_some lock (Theirs ++ Mine) ≡ false
    none_back lock none = grind (any_has, never_meets, has_any, append_has_right, append_has_left, has_append, arith)

    beside_back : AllOthers given events later other one (λ lock. meets_some lock (first_asks given events later other ++ first_asks given events later one) ≡ false)
    beside_back before after server lock split has = ⊎_elim
        (λ same. inr (inl same))
        (λ more. ⊎_elim (λ same. inl same) (λ aside. inr (inr (none_back lock aside))) more)
        (meets.beside before after server lock split has)

    -- they are two
    module _ (two : (one.t == other.t) ≡ false) where
      two_back : (other.t == one.t) ≡ false
      two_back = search (false≢true, eq-eqb, eqb-true, arith)

      neither_of_two : ⊥
      neither_of_two = ⊎_elim
          (λ first_one.
          never_both given events later one other calm ours other_ours meets.beside not_one not_other two meets.sets_apart meets.other_sets_apart meets.suite meets.mine meets.theirs meets.first meets.other_first
          meets.not_both_raise meets.tight f other_f first_one.0 first_one.1)
          (λ first_other.
          never_both given events later other one calm other_ours ours beside_back not_other not_one two_back meets.other_sets_apart meets.sets_apart
          meets.suite meets.theirs meets.mine meets.other_first meets.first (clashes_back meets.suite meets.mine meets.theirs meets.not_both_raise)
          (tight_back (votes_now given events meets.suite) meets.suite Mine Theirs meets.tight) other_f f first_other.0 first_other.1)
          (fronts (upto given events later calm one ours f) (upto given events later calm other other_ours other_f) f.back other_f.back
          (sym (whole given events later calm one ours f) ∙ whole given events later calm other other_ours other_f))

    -- or one, in whose way nobody is
    none_mine : (lock : Lock) → meets_some lock (Mine ++ Theirs) ≡ false → list_any (clashes (lock.suite, lock.mode)) (asks_for given events one.t one.caller one.ops) ≡ false
    none_mine lock none = grind (never_meets, any_front, arith)

    apart_from_others : one.t ≡ other.t → (so_far back : List Event) → later ≡ so_far ++ back → (s : ℕ) (st : State) → server_at (run given (events ++ so_far)) s ≡ Some st → (lock : Lock) → Has st.locks lock
        → (lock.t ≡ one.t) ⊎ (list_any (clashes (lock.suite, lock.mode)) (asks_for given events one.t one.caller one.ops) ≡ false)
    apart_from_others same so_far back split s st at lock has =
        by lock (meets.beside so_far back s lock split (contains_from (locks_at (run given (events ++ so_far)) s) lock (subst (λ found. Has (locks_in found) lock) (sym at) has)))
      where
        by : (lock : Lock) → (lock.t ≡ one.t) ⊎ ((lock.t ≡ other.t) ⊎ (meets_some lock (first_asks given events later one ++ first_asks given events later other) ≡ false))
            → (lock.t ≡ one.t) ⊎ (list_any (clashes (lock.suite, lock.mode)) (asks_for given events one.t one.caller one.ops) ≡ false)
        by lock h1 = search (none_mine, arith)

    pub neither : ⊥
    neither = of (one.t == other.t) refl
      where
        of : (b : Bool) → (one.t == other.t) ≡ b → ⊥
        of false two = neither_of_two two
        of true same = never_by_itself given events later one calm ours not_one f (apart_from_others (eqb-true one.t other.t same))

  pub decided_one : (is_decided job.ending || is_decided outcome.ending) ≡ true
  decided_one = not_neither (is_decided job.ending) (is_decided outcome.ending) (λ one_is other_is. neither one_is other_is)

pub one_that_meets_beside_is_decided : Always OneThatMeetsBesideIsDecidedAt
one_that_meets_beside_is_decided given events later one other meets job outcome ends other_ends = decided_one given events later one other meets job outcome ends other_ends
