-- One item after another, one entry after another, to the end.
use Rattle.run_certify.proofs.Vocabulary.{◌≡◌, ◌≢◌, ◌⊎◌, ⊎_elim, ℕ, zero, suc, ◌+◌, ◌<◌, ◌≤◌, true, false, true≢false, List, [], ◌∷◌, ◌++◌, length, slice_set, subst, refl, ap, ◌∙◌, sym, arith, slice_index_or, Option, Some, None, Result, Err, Opening}
use Rattle.run_certify.proofs.Vocabulary.{IsAccepted, Fixed, fixed_of, EndedJob, Served, Begin, Step, Forget, Lack, Decided, decisions, World, opening, step, Item, CertifyFault, AgentEntry, Asked, Begun, Ended, Forgot, Lacked, IsCertified}
use Rattle.run_certify.proofs.Vocabulary.{IsCertifiedAs, can_all_be_told, ItemAt, IsMerge, item_by, served_as, transcript_of, weave, AreAllPlayed, IsTaken, at_server, IsTurn, is_asked, AskedFails, AskedGoes, EntryFails, EntryGoes, Fails, Goes}
use Rattle.run_certify.proofs.Vocabulary.{IsItemTaken, IsLeft, IsOfRun, IsShorter, IsSound, IsStart, IsUse, Walked}
use Rattle.run_certify.proofs.Counted.{count_opens}
use Rattle.run_certify.proofs.Deciding.{opens}
use Rattle.run_certify.proofs.Facts.{no_agent, unserved}
use Rattle.run_certify.proofs.Lengths.{counts}
use Rattle.run_certify.proofs.Lists.{long_set, no_cons, same_or, set_apart, set_here}
use Rattle.run_certify.proofs.Moves.{turn_of_item, turn_of_rest}
use Rattle.run_certify.proofs.Walking.{ended_fails, entry_senseless, fails_further, goes_further, goes_nowhere, nothing_fails, nothing_left, rest_fails, taken_goes}

-- a fault of one call is that of another
pub told_on : {T U : Type 0} (fault other : CertifyFault) → ◌≡◌ {A = Result T CertifyFault} (Err fault) (Err other) → ◌≡◌ {A = Result U CertifyFault} (Err fault) (Err other)
told_on fault other is = let same : fault ≡ other = cc in ap (λ (f : CertifyFault). Err f) same

-- ---- items

-- how many are left
abbrev pub left_in : {A : Type 0} → List (List A) → ℕ
left_in [] = 0
left_in (xs ∷ lists) = length xs + left_in lists

less_set : {A : Type 0} (lists : List (List A)) (i : ℕ) (x : A) (xs : List A) → slice_index_or lists i [] ≡ x ∷ xs → left_in (slice_set lists i xs) < left_in lists
less_set [] i x xs at = absurd (no_cons x xs at)
less_set (ys ∷ lists) zero x xs at = let long = ap length at in omega (arith, long)
less_set (ys ∷ lists) (suc i) x xs at = let less = less_set lists i x xs at in omega (arith, less)

pub taken_less : (was now : List (List Item)) (server : ℕ) (item : Item) → IsTaken was server item now → left_in now < left_in was
taken_less was now server item taken = subst (λ hs. left_in hs < left_in was) (sym taken.set) (less_set was server item taken.later taken.is.first)

-- an item was taken, and played
pub item_goes : (init cur mid new : Walked) (server : ℕ) (item : Item) → Goes init [] cur [] → IsItemTaken cur server item mid → Goes mid (at_server server item ∷ []) new [] → Goes init [] new []
item_goes init cur mid new server item goes took more = search (goes_further, taken_goes, arith)

pub item_fails : (init cur mid : Walked) (server : ℕ) (item : Item) → Goes init [] cur [] → IsItemTaken cur server item mid → Fails mid (at_server server item ∷ []) → Fails init []
item_fails init cur mid server item goes took fails = search (fails_further, taken_goes, arith)

-- a stamp falls
pub unmerged_fails : (init cur : Walked) → Goes init [] cur [] → ((items : List ItemAt) → IsMerge cur.histories items → ⊥) → Fails init []
unmerged_fails init cur goes none = fails_further init cur [] [] goes (λ sound total run. none run.left.items run.left.merge)

-- ---- an agent's entries

module _ (cur mid new : Walked) (agent : ℕ) (entry : AgentEntry) (it : IsUse cur agent entry mid) (shorter : IsShorter mid agent new) where
  unused_is : new.unused ≡ slice_set (slice_set cur.unused agent it.used.rest) agent shorter.rest
  unused_is = shorter.set ∙ ap (λ us. slice_set us agent shorter.rest) it.used.set

  pub as_long : length new.unused ≡ length cur.unused
  as_long = ap length unused_is ∙ long_set (slice_set cur.unused agent it.used.rest) agent shorter.rest ∙ long_set cur.unused agent it.used.rest

  pub same_histories : new.histories ≡ cur.histories
  same_histories = shorter.histories ∙ ap (λ (w : Walked). w.histories) it.kept

  pub less_of : length (transcript_of new.unused agent) < length (transcript_of cur.unused agent)
  less_of = search (slice_set, long_set, unused_is, set_here, arith)

  pub others_as_before : (i : ℕ) → i ≢ agent → transcript_of new.unused i ≡ transcript_of cur.unused i
  others_as_before i apart = grind (unused_is, set_apart, slice_set, arith)

pub other_than_asked : (entry : AgentEntry) → ((server stamp : ℕ) → entry ≡ Asked server stamp → ⊥) → is_asked entry ≡ false
other_than_asked entry h1 = search arith

-- an end is no entry to be played
pub no_play : (old : Walked) (agent : ℕ) (entry : AgentEntry) → is_asked entry ≡ false → ((server : ℕ) × (stamp : ℕ) × (entry ≡ Asked server stamp)) ⊎ ((outcome : EndedJob) × (entry ≡ Ended outcome)) → EntryFails agent entry old
no_play old agent entry other is was taken it turn = ⊎_elim
    (λ (h : (server : ℕ) × (stamp : ℕ) × (entry ≡ Asked server stamp)). absurd (true≢false (sym (ap is_asked h.2) ∙ other)))
    (λ (h : (outcome : EndedJob) × (entry ≡ Ended outcome)). ended_fails was old agent h.0 taken (subst (λ e. IsUse was agent e old) h.1 it))
    is

-- up to an item of the agent's
module _ (init cur : Walked) (agent : ℕ) (one : ItemAt) (of : one.item.agent ≡ Some agent) (goes : Goes init (one ∷ []) cur (one ∷ [])) where
  pub serve_none : transcript_of cur.unused agent ≡ [] → Fails init (one ∷ [])
  serve_none none = fails_further init cur (one ∷ []) (one ∷ []) goes (nothing_fails cur one agent of none)

  module _ (mid : Walked) (entry : AgentEntry) (it : IsUse cur agent entry mid) where
    pub serve_on : (new : Walked) → EntryGoes agent entry mid new → Goes init (one ∷ []) new (one ∷ [])
    serve_on new more = goes_further init cur new (one ∷ []) (one ∷ []) (one ∷ []) goes (more cur (one ∷ []) it (turn_of_item one cur.histories cur.unused agent of it.used.there))

    pub serve_fails : EntryFails agent entry mid → Fails init (one ∷ [])
    serve_fails fails = fails_further init cur (one ∷ []) (one ∷ []) goes (fails cur (one ∷ []) it (turn_of_item one cur.histories cur.unused agent of it.used.there))

  module _ (mid : Walked) (server stamp : ℕ) (it : IsUse cur agent (Asked server stamp) mid) where
    pub serve_asked : (new : Walked) → AskedGoes agent server stamp one mid new → Goes init (one ∷ []) new []
    serve_asked new more = goes_further init cur new (one ∷ []) (one ∷ []) [] goes (more cur it)

    pub serve_asked_fails : AskedFails agent server stamp one mid → Fails init (one ∷ [])
    serve_asked_fails fails = fails_further init cur (one ∷ []) (one ∷ []) goes (fails cur it)

-- ---- once no items are left

-- nothing is left of those before an agent
abbrev pub NoneBefore : ℕ → List (List AgentEntry) → Type 0
NoneBefore agent unused = (i : ℕ) → i < agent → transcript_of unused i ≡ []

-- the walk came so far: nothing is left of the transcripts before an agent's
pub record IsAsFar (init cur : Walked) (agent : ℕ) : Type 0 where
  pub goes : Goes init [] cur []
  pub histories : cur.histories ≡ init.histories
  pub before : NoneBefore agent cur.unused
  pub long : length cur.unused ≡ length init.unused

-- the numbers of agents fit a byte
far_fails : (was old : Walked) (agent : ℕ) (entry : AgentEntry) (taken : List ItemAt) → IsUse was agent entry old → IsTurn taken was.histories was.unused agent → 256 ≤ agent → is_asked entry ≡ false → Fails was taken
far_fails was old agent entry taken it turn far other = by_entry entry it other
  where
    past : IsSound was → length was.world.agents ≤ agent
    past sound = let many = (counts was.given was.world was.begun.jobs sound.played).1 in let few = sound.accepted.some_agents.1 in omega (arith, many, few, far)

    by_entry : (entry : AgentEntry) → IsUse was agent entry old → is_asked entry ≡ false → Fails was taken
    by_entry (Begun job) it other = entry_senseless was old agent (Begun job) (Begin agent job) taken it turn refl refl (λ sound. no_agent (fixed_of was.given) was.world agent (Begun job) (Begin agent job) (past sound) refl)
    by_entry (Asked server stamp) it other = absurd (true≢false other)
    by_entry (Lacked server why) it other = entry_senseless was old agent (Lacked server why) (Lack agent why) taken it turn refl refl
        (λ sound. no_agent (fixed_of was.given) was.world agent (Lacked server why) (Lack agent why) (past sound) refl)
    by_entry (Forgot site) it other = entry_senseless was old agent (Forgot site) (Forget agent site) taken it turn refl refl (λ sound. no_agent (fixed_of was.given) was.world agent (Forgot site) (Forget agent site) (past sound) refl)
    by_entry (Ended outcome) it other = ended_fails was old agent outcome taken it

none_served : (fixed : Fixed) (world : World) (agent : ℕ) (served : Option Served) → ((what : ItemAt) → served_as (Some agent) served ≡ Some what → ⊥) → served ≡ None
none_served fixed world agent None none = refl
none_served fixed world agent (Some what) none = absurd (none (item_by (Some agent) what) refl)

asked_last : (was old : Walked) (agent server stamp : ℕ) → AreAllPlayed was.histories → NoneBefore agent was.unused → IsUse was agent (Asked server stamp) old → Fails was []
asked_last was old agent server stamp played before it =
    rest_fails was agent server stamp it.used.rest played before it.used.there it.used.first (λ sense rest told none.
    unserved (fixed_of was.given) was.world agent (none_served (fixed_of was.given) was.world agent (step (fixed_of was.given) was.world (Step agent)).done.served none) server stamp rest it.used.rest sense (sym told ∙ it.used.first))

module _ (init cur : Walked) (agent : ℕ) (goes : Goes init [] cur []) (played : AreAllPlayed cur.histories) (before : NoneBefore agent cur.unused) (mid : Walked) where
  pub rest_asked : (server stamp : ℕ) → IsUse cur agent (Asked server stamp) mid → Fails init []
  rest_asked server stamp it = fails_further init cur [] [] goes (asked_last cur mid agent server stamp played before it)

  module _ (entry : AgentEntry) (it : IsUse cur agent entry mid) where
    turn : IsTurn [] cur.histories cur.unused agent
    turn = turn_of_rest cur.histories cur.unused agent played before it.used.there

    pub rest_on : (new : Walked) → EntryGoes agent entry mid new → Goes init [] new []
    rest_on new more = goes_further init cur new [] [] [] goes (more cur [] it turn)

    pub rest_fails_at : EntryFails agent entry mid → Fails init []
    rest_fails_at fails = fails_further init cur [] [] goes (fails cur [] it turn)

    pub rest_far : 256 ≤ agent → is_asked entry ≡ false → Fails init []
    rest_far far other = fails_further init cur [] [] goes (far_fails cur mid agent entry [] it turn far other)

    pub before_on : (new : Walked) → IsShorter mid agent new → NoneBefore agent new.unused
    before_on new shorter i low = others_as_before cur mid new agent entry it shorter i (λ same. omega arith) ∙ before i low

pub start_far : (init : Walked) (agent : ℕ) → NoneBefore agent init.unused → IsAsFar init init agent
start_far init agent before = record { goes = goes_nowhere init []; histories = refl; before = before; long = refl }

-- an entry was played
pub far_on : (init cur mid new : Walked) (agent : ℕ) (entry : AgentEntry) → IsAsFar init cur agent → AreAllPlayed init.histories → IsUse cur agent entry mid → EntryGoes agent entry mid new → IsShorter mid agent new → IsAsFar init new agent
far_on init cur mid new agent entry far played it more shorter = record {
  goes = rest_on init cur agent far.goes (subst (λ hs. AreAllPlayed hs) (sym far.histories) played) far.before mid entry it new more;
  histories = same_histories cur mid new agent entry it shorter ∙ far.histories;
  before = before_on init cur agent far.goes (subst (λ hs. AreAllPlayed hs) (sym far.histories) played) far.before mid entry it new shorter;
  long = as_long cur mid new agent entry it shorter ∙ far.long;
}

-- nothing is left of this one too
pub none_up_to : (agent : ℕ) (unused : List (List AgentEntry)) → NoneBefore agent unused → transcript_of unused agent ≡ [] → NoneBefore (agent + 1) unused
none_up_to agent unused before here i low = ⊎_elim (λ (same : i ≡ agent). ap (λ n. transcript_of unused n) same ∙ here) (λ (apart : i ≢ agent). before i (omega arith)) (same_or i agent)

nothing_past : (unused : List (List AgentEntry)) (i : ℕ) → length unused ≤ i → transcript_of unused i ≡ []
nothing_past [] i past = refl
nothing_past (es ∷ unused) zero past = absurd (omega arith)
nothing_past (es ∷ unused) (suc i) past = nothing_past unused i (omega arith)

-- nothing is left of any
pub none_at_all : (unused : List (List AgentEntry)) (agents : ℕ) → length unused ≤ agents → NoneBefore agents unused → (agent : ℕ) → transcript_of unused agent ≡ []
none_at_all unused agents long before agent = search (nothing_past, arith)

-- ---- from the start to the end

module _ (given : Opening) (histories : List (List Item)) (transcripts : List (List AgentEntry)) (start : Walked) (is : IsStart given histories transcripts start) where
  start_sound : IsAccepted given → IsSound start
  start_sound accepted = search (opens, count_opens, arith)

  to_start : (ds : List Decided) → IsLeft (fixed_of given) (opening given) [] histories transcripts ds → IsLeft (fixed_of start.given) start.world [] start.histories start.unused ds
  to_start ds left = search arith

  from_start : (ds : List Decided) → IsLeft (fixed_of start.given) start.world [] start.histories start.unused ds → IsLeft (fixed_of given) (opening given) [] histories transcripts ds
  from_start ds left = search arith

  -- what is certified is of a run
  of_run : (certified : IsCertified given histories transcripts) → IsOfRun start [] (decisions given (weave certified.items transcripts))
  of_run certified =
      let ds : List Decided = decisions given (weave certified.items transcripts) in
      record {
        later = ds;
        parts = sym (ap (λ made. made ++ ds) is.made);
        left = to_start ds (record { items = certified.items; merge = certified.merge; run = certified.run; is = refl });
      }

  certified_by : (total : List Decided) → can_all_be_told histories transcripts ≡ true → IsOfRun start [] total → IsCertifiedAs given histories transcripts total
  certified_by total full run =
      let left = from_start run.later run.left in
      record {
        certified = record { items = left.items; merge = left.merge; run = left.run; full = full };
        decided = run.parts ∙ ap (λ made. made ++ run.later) is.made ∙ left.is;
      }

  pub walked_to_end : (mid end : Walked) → can_all_be_told histories transcripts ≡ true → IsAccepted given → Goes start [] mid [] → Goes mid [] end [] → AreAllPlayed end.histories
      → ((agent : ℕ) → transcript_of end.unused agent ≡ []) → IsCertifiedAs given histories transcripts end.made
  walked_to_end mid end full accepted one two played used =
      certified_by end.made full ((goes_further start mid end [] [] [] one two).back (start_sound accepted) end.made (nothing_left end played used))

  pub walked_no_further : IsAccepted given → Fails start [] → ¬ (IsCertified given histories transcripts)
  walked_no_further accepted fails certified = fails (start_sound accepted) (decisions given (weave certified.items transcripts)) (of_run certified)
