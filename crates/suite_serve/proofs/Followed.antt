-- Agents that go on after what another did.
use Rattle.suite_serve.proofs.Vocabulary.{◌≡◌, ◌≢◌, ◌∙◌, ap, sym, refl, subst, inl, inr, arith, ℕ, zero, suc, ◌+◌, ◌<◌, ◌≤◌, min, List, [], ◌∷◌, ◌++◌, length}
use Rattle.suite_serve.proofs.Vocabulary.{slice_index, All, Contains, slice_get, Some, AllZip, All-cons, All-head, All-nil, All-tail, none-some, same_Some}
use Rattle.suite_serve.proofs.Vocabulary.{Opening, Held, is_idle, Standing, EndedJob, AgentEntry, Begun, Asked, Ended, JobOutcome, begun_by, AreReady, HasPass}
use Rattle.suite_serve.proofs.Vocabulary.{WentOn, numbers_of, passes_for, IsIdle, IsTold, Played, begins, first_player, known_at, most_numbers, number_of}
use Rattle.suite_serve.proofs.Vocabulary.{players_from, AreNumbered, FollowsAll, HasEnded, StandBefore, transcripts_of}
use Rattle.txn_core.specs.declared.job.Job.{Job}
use Rattle.suite_serve.proofs.Learned.{contains_or, told_known, told_later}
use Rattle.suite_serve.proofs.Places.{get_past}

-- ---- who follows can work as before

same_numbers : (leaders front others later : List Played) → AllZip (FollowsAll leaders) others later → numbers_of (front ++ later) ≡ numbers_of (front ++ others)
same_numbers leaders [] [] [] all = refl
same_numbers leaders [] [] (l ∷ later) all = absurd all
same_numbers leaders [] (o ∷ others) [] all = absurd all
same_numbers leaders [] (o ∷ others) (l ∷ later) all = ap (λ (s : Standing). s.state.index ∷ numbers_of later) all.0.agent ∙ ap (λ ns. number_of o ∷ ns) (same_numbers leaders [] others later all.1)
same_numbers leaders (p ∷ front) others later all = ap (λ ns. number_of p ∷ ns) (same_numbers leaders front others later all)

all_follow : (P : Played → Type 0) → ((o l : Played) → l.agent ≡ o.agent → P o → P l) → (leaders front others later : List Played) → AllZip (FollowsAll leaders) others later → All P (front ++ others) → All P (front ++ later)
all_follow P each leaders [] [] [] all so = so
all_follow P each leaders [] [] (l ∷ later) all so = absurd all
all_follow P each leaders [] (o ∷ others) [] all so = absurd all
all_follow P each leaders [] (o ∷ others) (l ∷ later) all so =
    All-cons P l later (each o l all.0.agent (All-head P o others so)) (all_follow P each leaders [] others later all.1 (All-tail P o others so))
all_follow P each leaders (p ∷ front) others later all so =
    All-cons P p (front ++ later) (All-head P p (front ++ others) so) (all_follow P each leaders front others later all (All-tail P p (front ++ others) so))

pub ready_followers : (passes : List Held) (leaders front others later : List Played) → AllZip (FollowsAll leaders) others later → AreReady passes (front ++ others) → AreReady passes (front ++ later)
ready_followers passes leaders front others later all ready = record {
  distinct = λ i j n at there.
      let same = same_numbers leaders front others later all in
      ready.distinct i j n (subst (λ (ns : List ℕ). slice_get ns i ≡ Some n) same at) (subst (λ (ns : List ℕ). slice_get ns j ≡ Some n) same there);
  idle = all_follow IsIdle (λ o l same idle. ap (λ (s : Standing). is_idle s.state.doing) same ∙ idle) leaders front others later all ready.idle;
  have = all_follow (HasPass passes) (λ o l same has. subst (λ (s : Standing). passes_for s.state.index passes ≢ []) (sym same) has) leaders front others later all ready.have;
}

pub numbered_followers : (leaders : List Played) (start : ℕ) (others later : List Played) → AllZip (FollowsAll leaders) others later → AreNumbered start others → AreNumbered start later
numbered_followers leaders start [] [] all are = tt
numbered_followers leaders start [] (l ∷ later) all are = absurd all
numbered_followers leaders start (o ∷ others) [] all are = absurd all
numbered_followers leaders start (o ∷ others) (l ∷ later) all are =
    (ap (λ (s : Standing). s.state.index) all.0.agent ∙ are.0, numbered_followers leaders (start + 1) others later all.1 are.1)

-- ---- what they are told is later than what their leader was

-- agents that were told nothing yet
abbrev pub AreNew : List Played → Type 0
AreNew players = (player : Played) → Contains players player → player.entries ≡ []

new_from : (given : Opening) (start count : ℕ) → AreNew (players_from given start count)
new_from given start zero player has = let low = has.1 in absurd (omega arith)
new_from given start (suc count) player has =
    elim (contains_or (first_player given start) (players_from given (start + 1) count) player has) [
      | inl same ↦ ap (λ (p : Played). p.entries) (sym same)
      | inr later ↦ new_from given (start + 1) count player later
    ]

new_rest : (player : Played) (others : List Played) → AreNew (player ∷ others) → AreNew others
new_rest player others new one has = new one (suc has.0, (let low = has.1 in omega arith), has.2)

-- the others of those that begin
pub new_others : (given : Opening) (others : List Played) → first_player given 0 ∷ others ≡ players_from given 0 given.agents → AreNew others
new_others given others are = new_rest (first_player given 0) others (subst AreNew (sym are) (new_from given 0 given.agents))

-- who followed began nothing yet
pub none_begun : (leaders others later : List Played) → AllZip (FollowsAll leaders) others later → AreNew others → begun_by later ≡ 0
none_begun leaders [] [] all fresh = refl
none_begun leaders [] (l ∷ later) all fresh = absurd all
none_begun leaders (o ∷ others) [] all fresh = absurd all
none_begun leaders (o ∷ others) (l ∷ later) all fresh =
    let e : begins l.entries ≡ 0 = ap begins (all.0.entries ∙ fresh o (0, omega arith, refl)) in
    let rest = none_begun leaders others later all.1 (new_rest o others fresh) in
    omega arith

pub begun_both : (xs ys : List Played) → begun_by (xs ++ ys) ≡ begun_by xs + begun_by ys
begun_both [] ys = omega arith
begun_both (x ∷ xs) ys = let e = begun_both xs ys in omega arith

later_all : (old new : List Held) (lead : Played) (others later now : List Played) → AllZip (FollowsAll (lead ∷ [])) others later → AllZip (WentOn old new) later now
    → AreNew others → (entries : List AgentEntry) → Contains (transcripts_of now) entries
    → (server stamp : ℕ) → server < most_numbers → Contains entries (Asked server stamp) → known_at lead server < stamp
later_all old new lead [] [] [] follow went fresh entries has server stamp there asked = let low = has.1 in absurd (omega arith)
later_all old new lead [] [] (n ∷ now) follow went fresh entries has server stamp there asked = absurd went
later_all old new lead [] (l ∷ later) now follow went fresh entries has server stamp there asked = absurd follow
later_all old new lead (o ∷ others) [] now follow went fresh entries has server stamp there asked = absurd follow
later_all old new lead (o ∷ others) (l ∷ later) [] follow went fresh entries has server stamp there asked = absurd went
later_all old new lead (o ∷ others) (l ∷ later) (n ∷ now) follow went fresh entries has server stamp there asked =
    elim (contains_or n.entries (transcripts_of now) entries has) [
      | inl same ↦
          let longer = went.0.longer in
          let none : l.entries ≡ [] = follow.0.entries ∙ fresh o (0, omega arith, refl) in
          let is : entries ≡ longer.rest = sym same ∙ longer.entries ∙ ap (λ es. es ++ longer.rest) none in
          let told = told_later longer.rest l.known n.known server stamp longer.knows (subst (λ es. Contains es (Asked server stamp)) is asked) in
          let above = told.above in
          let knows = follow.0.known 0 lead server refl there in
          omega arith
      | inr rest ↦ later_all old new lead others later now follow.1 went.1 (new_rest o others fresh) entries rest server stamp there asked
    ]

-- ---- how the first jobs ended

ends_at : (before asked after : List AgentEntry) (begun : AgentEntry) (end : EndedJob) → slice_get (before ++ begun ∷ (asked ++ Ended end ∷ after)) (length before + (length asked + 1)) ≡ Some (Ended end)
ends_at before asked after begun end =
    let next : length asked + 1 ≡ suc (length asked + 0) = omega arith in
    ap (λ n. slice_get (before ++ begun ∷ (asked ++ Ended end ∷ after)) (length before + n)) next
    ∙ get_past before (begun ∷ (asked ++ Ended end ∷ after)) (suc (length asked + 0))
    ∙ get_past asked (Ended end ∷ after) 0

pub end_stands : (player : Played) (job : Job) (number place : ℕ) → IsTold player job number place → (told : EndedJob) × (slice_get player.entries place ≡ Some (Ended told))
end_stands player job number place told =
    let end : EndedJob = record { agent = number_of player; count = number; steps = length told.asked; ending = told.ending } in (
      end,
      ap (λ es. slice_get es place) told.split
          ∙ ap (λ n. slice_get (told.before ++ Begun job ∷ (told.asked ++ Ended end ∷ told.after)) n) (sym told.at)
          ∙ ends_at told.before told.asked told.after (Begun job) end,
    )

-- What one agent did alone stands before what it and others did then, who follow it.
pub stand_before : (given : Opening) (alone : ℕ) (p q r : List Held) (lead : Played) (others later second : List Played) (outcomes : List JobOutcome)
    → AllZip (WentOn p q) (first_player given 0 ∷ []) (lead ∷ []) → AllZip (FollowsAll (lead ∷ [])) others later → AllZip (WentOn q r) (lead ∷ later) second → AreNew others
    → begins lead.entries ≡ min alone (length outcomes)
    → ((place : ℕ) (outcome : JobOutcome) → place < alone → slice_get outcomes place ≡ Some outcome → (told : EndedJob) × (slice_get lead.entries outcome.at ≡ Some (Ended told)))
    → StandBefore alone outcomes (transcripts_of second)
stand_before given alone p q r lead others later [] outcomes one follow two fresh just ended = absurd two
stand_before given alone p q r lead others later (n ∷ now) outcomes one follow two fresh just ended =
    let did = one.0.longer in
    let more = two.0.longer in
    record {
      first = lead.entries;
      rest = more.rest;
      others = transcripts_of now;
      split = ap (λ es. es ∷ transcripts_of now) more.entries;
      just = just;
      ended = ended;
      before = λ server stamp next entries early has asked.
          let early' = subst (λ es. Contains es (Asked server stamp)) did.entries early in
          let known = told_known did.rest (first_player given 0).known lead.known server stamp did.knows early' in
          let there : server < most_numbers = (told_later did.rest (first_player given 0).known lead.known server stamp did.knows early').there in
          elim (contains_or more.rest (transcripts_of now) entries has) [
            | inl same ↦
                let above = (told_later more.rest lead.known n.known server next more.knows (subst (λ es. Contains es (Asked server next)) (sym same) asked)).above in
                omega arith
            | inr late ↦ let above = later_all q r lead others later now follow two.1 fresh entries late server next there asked in omega arith
          ];
    }
