-- A run that obeys. Transaction 5 makes the suite. In transaction 7 the votes move from server 0 to server 1 with a write; a lock of transaction 8 is lost in a crash, transaction 9 is overruled,
-- and transaction 10 reads what was written. Server 0 keeps the older content.
use Rattle.law_suite_machine.proofs.Vocabulary.{◌≡◌, ℕ, ◌+◌, ◌*◌, ◌<◌, ◌≤◌, Bool, IsTrue, true, false, ◌⊎◌, inl, inr, List, [], ◌∷◌, Option, Some, None, cond, refl, sym, ap, subst, arith, lit≤, lit<, ◌==◌, ◌++◌, Configuration, votes_at, IsValid}
use Rattle.law_suite_machine.proofs.Vocabulary.{max_servers, Content, Prefix, Replica, Beginning, IsBeginning, Known, Change, World, Hold, Told, Answered, Aborted, begun, set2, Event, Grant, Raise, Hear, Aim, Prepare, DecideRead, DecideWrite, Overrule}
use Rattle.law_suite_machine.proofs.Vocabulary.{GiveUp, Finish, Lose, run, happens, Obeys, IsReady, Knows, MayRead, MayWrite, MayLose, is_exclusive, holds_exclusively, SomeRunObeys}
use Rattle.suite_content.specs.declared.content.Content.TheVariants.{Bytes}
use Rattle.suite_prefix.specs.TwoLists.{closed_lists}
use Rattle.suite_prefix.specs.declared.copies.PrefixKind.TheVariants.{Absent, File}
use Rattle.std.specs.List.{IsDistinct}
use Rattle.law_suite_machine.proofs.Places.{one_is}

-- ---- what there is

abbrev c0 : Configuration
c0 = record { reps = (0, 1) ∷ []; r = 1; w = 1 }

abbrev c1 : Configuration
c1 = record { reps = (1, 2) ∷ []; r = 1; w = 2 }

abbrev never : Replica
never = record { prefix = record { pver = 0; kind = Absent; owner = 0; group = 0; acl = closed_lists; votes = c0 }; dver = 0; content = Bytes [] }

abbrev made : Replica
made = record { prefix = record { pver = 1; kind = File; owner = 7; group = 7; acl = closed_lists; votes = c0 }; dver = 1; content = Bytes (1 ∷ []) }

abbrev start : Beginning
start = record { never = never; row = never }

abbrev moved : Prefix
moved = record { pver = 2; kind = File; owner = 7; group = 7; acl = closed_lists; votes = c1 }

abbrev new : Change
new = record { prefix = moved; dver = 2; content = Some (Bytes (2 ∷ [])) }

-- what servers 0 and 1 take
abbrev left0 : Replica
left0 = record { prefix = moved; dver = 1; content = Bytes (1 ∷ []) }

abbrev left1 : Replica
left1 = record { prefix = moved; dver = 2; content = Bytes (2 ∷ []) }

-- what transaction 5 writes
abbrev making : Change
making = record { prefix = made.prefix; dver = 1; content = Some (Bytes (1 ∷ [])) }

-- what transactions 5, 7 and 10 know
abbrev known5 : Known
known5 = record { prefix = never.prefix; dver = 0; content = None }

abbrev known7 : Known
known7 = record { prefix = made.prefix; dver = 1; content = None }

abbrev known10 : Known
known10 = record { prefix = moved; dver = 2; content = Some (Bytes (2 ∷ [])) }

abbrev just : ℕ → ℕ → Bool
just server i = i == server

-- the crash of server 2
abbrev keep : ℕ → ℕ → Bool
keep = set2 (λ _ _. true) 2 8 false

-- ---- what happens

abbrev makes : List Event
makes = Grant 0 5 true ∷ Hear 0 5 true ∷ Aim 5 making ∷ Prepare 0 5 (Some made) ∷ []

abbrev w3 : World
w3 = run start (begun start) makes

abbrev w5 : World
w5 = run start w3 (DecideWrite 5 (just 0) known5 making ∷ Finish 0 5 Answered ∷ [])

abbrev firsts : List Event
firsts = Grant 0 7 false ∷ Hear 0 7 false ∷ Raise 0 7 ∷ Hear 0 7 true ∷ Grant 1 7 true ∷ Hear 1 7 true ∷ Aim 7 new ∷ Prepare 0 7 (Some left0) ∷ Prepare 1 7 (Some left1) ∷ []

abbrev w6 : World
w6 = run start w5 firsts

abbrev nexts_then : List Event → List Event
nexts_then later =
    DecideWrite 7 (just 0) known7 new ∷ Finish 1 7 Answered
    ∷ Grant 2 8 true ∷ Hear 2 8 true ∷ Lose keep ∷ GiveUp 8
    ∷ Grant 3 9 true ∷ Hear 3 9 true ∷ Prepare 3 9 None ∷ Overrule 9 ∷ Finish 3 9 Aborted
    ∷ Finish 0 7 Answered
    ∷ Grant 1 10 false ∷ Hear 1 10 false ∷ Prepare 1 10 None ∷ later

-- before and after transaction 10 is held and prepared
abbrev w16 : World
w16 = run start w6 (DecideWrite 7 (just 0) known7 new ∷ Finish 1 7 Answered ∷ Grant 2 8 true ∷ Hear 2 8 true ∷ Lose keep ∷ GiveUp 8 ∷ Grant 3 9 true ∷ Hear 3 9 true ∷ Prepare 3 9 None ∷ Overrule 9 ∷ Finish 3 9 Aborted ∷ Finish 0 7 Answered ∷ [])

abbrev w18 : World
w18 = run start w6 (nexts_then [])

-- ---- the beginning

valid_one : (server n r w : ℕ) → server < max_servers → n < 256 → (0 < n) → (0 < r) × (r ≤ n) → (0 < w) × (w ≤ n) → n < r + w → n < 2 * w → IsValid (record { reps = (server, n) ∷ []; r = r; w = w })
unfolding IsDistinct
valid_one server n r w known few some r_fits w_fits meets others = search arith

begins : IsBeginning start
begins = search (valid_one 0 1 1 1 (lit< tt) (lit< tt) (lit< tt) (lit< tt, lit≤ tt) (lit< tt, lit≤ tt) (lit< tt) (lit< tt), arith)

-- ---- the making

said5 : (i : ℕ) (a : Told) → w3.told i 5 ≡ Some a → (i ≡ 0) × (a ≡ record { exclusive = true; copy = never })
said5 i a = search arith

exclusive5 : (i : ℕ) → IsTrue (holds_exclusively w3 5 i) → i ≡ 0
exclusive5 i = search arith

ready5 : IsReady w3 5
ready5 = record {
  undecided = refl;
  going = refl;
  prepared = λ i a e. subst (λ i. (left : Option Replica) × (w3.ready i 5 ≡ Some left)) (sym (said5 i a e).0) (Some made, refl);
}

knows5 : Knows start w3 5 (just 0) known5
knows5 = record {
  told = λ i e. subst (λ i. (a : Told) × (w3.told i 5 ≡ Some a)) (sym (one_is 0 i e)) (record { exclusive = true; copy = never }, refl);
  quorum = inl refl;
  was = (lit≤ tt, refl);
  newest = λ i a _ e. subst (λ (a : Told). a.copy.prefix.pver ≤ 0) (sym (said5 i a e).1) (lit≤ tt);
  greatest = λ i a _ e. subst (λ (a : Told). a.copy.dver ≤ 0) (sym (said5 i a e).1) (lit≤ tt);
  from = 0;
  from_told = record { exclusive = true; copy = never };
  told_from = refl;
  told_dver = refl;
  content = λ c e. cc;
}

write5 : MayWrite start w3 5 (just 0) known5 making
write5 = record {
  ready = ready5;
  knows = knows5;
  aimed = refl;
  under = never.prefix;
  under_was = (lit≤ tt, refl);
  under_newest = lit≤ tt;
  quorum = refl;
  widened = inr refl;
  valid = valid_one 0 1 1 1 (lit< tt) (lit< tt) (lit< tt) (lit< tt, lit≤ tt) (lit< tt, lit≤ tt) (lit< tt) (lit< tt);
  kind = λ e. absurd (omega arith);
  covers_prefix = inr (refl, λ i e. subst (λ i. (left : Replica) × (w3.ready i 5 ≡ Some (Some left)) × (left.prefix.pver ≡ 1)) (sym (exclusive5 i e)) (made, refl, refl));
  covers_content = inr (inr refl, λ i e _. subst (λ i. (left : Replica) × (w3.ready i 5 ≡ Some (Some left)) × (left.dver ≡ 1)) (sym (exclusive5 i e)) (made, refl, refl));
}

some_left : (a b : Replica) → Some a ≡ Some b → a ≡ b
some_left a b e = cc

obeys_makes : Obeys start (begun start) makes
obeys_makes = search arith

-- ---- what transaction 7 was told

abbrev said0 : Told
said0 = record { exclusive = true; copy = made }

abbrev said1 : Told
said1 = record { exclusive = true; copy = never }

abbrev IsSaid : ℕ → Told → Type 0
IsSaid i a = ((i ≡ 0) × (a ≡ said0)) ⊎ ((i ≡ 1) × (a ≡ said1))

told7 : (i : ℕ) (a : Told) → w6.told i 7 ≡ Some a → IsSaid i a
told7 i a = search arith

exclusive7 : (i : ℕ) → IsTrue (holds_exclusively w6 7 i) → (a : Told) × IsSaid i a
exclusive7 i = go (w6.told i 7) refl
  where
    go : (o : Option Told) → w6.told i 7 ≡ o → IsTrue (is_exclusive o) → (a : Told) × IsSaid i a
    go None e x = cc
    go (Some a) e x = (a, told7 i a e)

-- what holds at servers 0 and 1 holds where it was told something
at_each : (P : ℕ → Type 0) → P 0 → P 1 → (i : ℕ) (a : Told) → IsSaid i a → P i
at_each P p0 p1 i a (inl here) = subst P (sym here.0) p0
at_each P p0 p1 i a (inr here) = subst P (sym here.0) p1

each_said : (P : Told → Type 0) → P said0 → P said1 → (i : ℕ) (a : Told) → IsSaid i a → P a
each_said P p0 p1 i a (inl here) = subst P (sym here.1) p0
each_said P p0 p1 i a (inr here) = subst P (sym here.1) p1

-- ---- its write

ready7 : IsReady w6 7
ready7 = record {
  undecided = refl;
  going = refl;
  prepared = λ i a e. at_each (λ i. (left : Option Replica) × (w6.ready i 7 ≡ Some left)) (Some left0, refl) (Some left1, refl) i a (told7 i a e);
}

knows7 : Knows start w6 7 (just 0) known7
knows7 = record {
  told = λ i e. subst (λ i. (a : Told) × (w6.told i 7 ≡ Some a)) (sym (one_is 0 i e)) (said0, refl);
  quorum = inl refl;
  was = (lit≤ tt, refl);
  newest = λ i a _ e. each_said (λ a. a.copy.prefix.pver ≤ 1) (lit≤ tt) (lit≤ tt) i a (told7 i a e);
  greatest = λ i a _ e. each_said (λ a. a.copy.dver ≤ 1) (lit≤ tt) (lit≤ tt) i a (told7 i a e);
  from = 0;
  from_told = said0;
  told_from = refl;
  told_dver = refl;
  content = λ c e. cc;
}

write7 : MayWrite start w6 7 (just 0) known7 new
write7 = record {
  ready = ready7;
  knows = knows7;
  aimed = refl;
  under = made.prefix;
  under_was = (lit≤ tt, refl);
  under_newest = lit≤ tt;
  quorum = refl;
  widened = inr refl;
  valid = valid_one 1 2 1 2 (lit< tt) (lit< tt) (lit< tt) (lit< tt, lit≤ tt) (lit< tt, lit≤ tt) (lit< tt) (lit< tt);
  kind = λ e. absurd (omega arith);
  covers_prefix = inr (
    refl,
    λ i e. let x = exclusive7 i e in
        at_each (λ i. (left : Replica) × (w6.ready i 7 ≡ Some (Some left)) × (left.prefix.pver ≡ 2)) (left0, refl, refl) (left1, refl, refl) i x.0 x.1,
  );
  covers_content = inr (
    inr refl,
    λ i e. let x = exclusive7 i e in
        at_each (λ i. 0 < votes_at c1.reps i → (left : Replica) × (w6.ready i 7 ≡ Some (Some left)) × (left.dver ≡ 2)) (λ m. absurd (omega arith)) (λ _. (left1, refl, refl)) i x.0 x.1,
  );
}

-- ---- locks

-- the locks of a transaction that is finished at a server, before and after another is held there
abbrev gone : Bool → Option Hold
gone mine = cond mine None (cond mine (Some (record { exclusive = true; prepared = true })) (cond mine (Some (record { exclusive = true; prepared = false })) None))

obeys_firsts : Obeys start w5 firsts
obeys_firsts = search arith

-- ---- the crash

abbrev w9 : World
w9 = run start w6 (DecideWrite 7 (just 0) known7 new ∷ Finish 1 7 Answered ∷ Grant 2 8 true ∷ Hear 2 8 true ∷ [])

-- the lock that it loses is not prepared
crash : MayLose w9 keep
crash = search arith

-- when transaction 10 asks, no lock stands at server 1
free1 : (u : ℕ) (k : Hold) → w16.lock 1 u ≡ Some k → u ≡ 10
free1 u k = elim (u == 7) as (λ b. gone b ≡ Some k → u ≡ 10) [ true ↦ λ e. cc | false ↦ λ e. cc ]

-- ---- transaction 10

abbrev said10 : Told
said10 = record { exclusive = false; copy = left1 }

told10 : (i : ℕ) (a : Told) → w18.told i 10 ≡ Some a → (i ≡ 1) × (a ≡ said10)
told10 i a = search arith

some_content : (a b : Content) → Some a ≡ Some b → a ≡ b
some_content a b e = cc

read10 : MayRead start w18 10 (just 1) known10
read10 = record {
  ready = search (told10, arith);
  knows = record {
    told = λ i e. subst (λ i. (a : Told) × (w18.told i 10 ≡ Some a)) (sym (one_is 1 i e)) (said10, refl);
    quorum = inl refl;
    was = (lit≤ tt, refl);
    newest = λ i a _ e. subst (λ (a : Told). a.copy.prefix.pver ≤ 2) (sym (told10 i a e).1) (lit≤ tt);
    greatest = λ i a _ e. subst (λ (a : Told). a.copy.dver ≤ 2) (sym (told10 i a e).1) (lit≤ tt);
    from = 1;
    from_told = said10;
    told_from = refl;
    told_dver = refl;
    content = λ c e. inl (lit< tt, lit≤ tt, some_content (Bytes (2 ∷ [])) c e);
  };
  unaimed = refl;
}

-- ---- the run

-- at the end a Poll of transaction 7 arrives late at server 4
abbrev lasts : List Event
lasts = nexts_then (DecideRead 10 (just 1) known10 ∷ Grant 4 7 true ∷ [])

obeys_nexts : Obeys start w6 lasts
obeys_nexts = search (write7, crash, free1, read10, arith)

joined : (w : World) (first later : List Event) → Obeys start w first → Obeys start (run start w first) later → Obeys start w (first ++ later)
joined w [] later may next = next
joined w (event ∷ first) later may next = (may.0, joined (happens start w event) first later may.1 next)

abbrev events : List Event
events = makes ++ (DecideWrite 5 (just 0) known5 making ∷ Finish 0 5 Answered ∷ (firsts ++ lasts))

pub some_run_obeys : SomeRunObeys
some_run_obeys = record {
  start = start;
  begins = begins;
  events = events;
  obeys =
      joined (begun start) makes (DecideWrite 5 (just 0) known5 making ∷ Finish 0 5 Answered ∷ (firsts ++ lasts)) obeys_makes
      (write5, (record { ended = inl refl }, joined w5 firsts lasts obeys_firsts obeys_nexts));
  absent = refl;
  made = refl;
  moved = λ e. let w = ap (λ (v : Configuration). v.w) e in absurd (omega arith);
  lost = (2, 8, record { exclusive = true; copy = never }, refl, refl, refl);
  overruled = (9, refl);
  stale = (0, lit< tt, lit< tt);
  unheard = (4, 7, record { exclusive = true; prepared = false }, refl, refl, refl);
  decided = refl;
}
