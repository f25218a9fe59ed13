-- From what agent 0 did alone, and what all agents did after it, to what was done with all jobs.
use Rattle.suite_serve.proofs.Vocabulary.{◌≡◌, ◌∙◌, ap, sym, refl, subst, inl, inr, arith, ℕ, zero, suc, ◌+◌, ◌-◌, ◌<◌, ◌≤◌, min, List, [], ◌∷◌, ◌++◌, length}
use Rattle.suite_serve.proofs.Vocabulary.{AllZip-long, length-append, Contains-append_left, none-some, same_Some, slice_get-get_or, slice_get_within, Contains}
use Rattle.suite_serve.proofs.Vocabulary.{slice_get, slice_index_or, Some, AllZip, Opening, Held, passes_of, AgentEntry, Begun, Asked, Lacked, Forgot, Ended}
use Rattle.suite_serve.proofs.Vocabulary.{JobOutcome, Pool, NamedJob, IsOutcome, IsPoolOf, begun_by, AreReady, WentOn, IsLonger, IsTold, Played, begins}
use Rattle.suite_serve.proofs.Vocabulary.{first_player, number_of, players_from, ready_first, told_longer, AreDone, AreNumbered, AreOfFirst, FollowsAll}
use Rattle.suite_serve.proofs.Vocabulary.{HasEnded, HaveEnded, StandBefore, transcripts_of, Worked}
use Rattle.agent_pool.specs.Pools.{AreApart, AreInOrder}
use Rattle.txn_core.specs.declared.job.Job.{Job}
use Rattle.suite_serve.proofs.Followed.{AreNew, begun_both, none_begun, end_stands, new_others, numbered_followers, stand_before}
use Rattle.suite_serve.proofs.Numbers.{number_at}
use Rattle.suite_serve.proofs.Places.{contained_get, get_contained, get_either, zip_append, zip_at, zip_map}

-- ---- what was told is told still

-- an agent later
record Later (was : Played) (players : List Played) : Type 0 where
  now : Played
  there : Contains players now
  longer : IsLonger was now

later_at : (old new : List Held) (was now : List Played) → AllZip (WentOn old new) was now → (player : Played) (place : ℕ) → slice_get was place ≡ Some player → (later : Played) × ((slice_get now place ≡ Some later) × IsLonger player later)
later_at old new [] now all player place there = absurd (none-some player there)
later_at old new (w ∷ was) [] all player place there = absurd all
later_at old new (w ∷ was) (n ∷ now) all player zero there = (n, (refl, subst (λ (p : Played). IsLonger p n) (same_Some w player there) all.0.longer))
later_at old new (w ∷ was) (n ∷ now) all player (suc place) there = later_at old new was now all.1 player place there

later_of : (old new : List Held) (was now : List Played) → AllZip (WentOn old new) was now → (player : Played) → Contains was player → Later player now
later_of old new was now all player has =
    let later = later_at old new was now all player has.0 (contained_get was player has) in
    record { now = later.0; there = get_contained now later.0 has.0 later.1.0; longer = later.1.1 }

ended_still : (old new : List Held) (was now : List Played) → AllZip (WentOn old new) was now → (named : NamedJob) (outcome : JobOutcome) → HasEnded was named outcome → HasEnded now named outcome
ended_still old new was now all named outcome has =
    let later = later_of old new was now all has.player has.there in
    record {
      of = has.of;
      player = later.now;
      there = later.there;
      number = later.longer.number ∙ has.number;
      told = told_longer has.player later.now named.job outcome.count outcome.at later.longer has.told;
    }

ended_among : (players others : List Played) (named : NamedJob) (outcome : JobOutcome) → HasEnded players named outcome → HasEnded (players ++ others) named outcome
ended_among players others named outcome has =
    record { of = has.of; player = has.player; there = Contains-append_left players others has.player has.there; number = has.number; told = has.told }

has_ended : (was players : List Played) (named : NamedJob) (outcome : JobOutcome) → IsOutcome was players named outcome → HasEnded players named outcome
has_ended was players named outcome is = record { of = is.of; player = is.player; there = is.by.has; number = is.by.new; told = is.told }

pub have_ended : (jobs : List NamedJob) (was : List Played) (passes : List Held) (pool : Pool) → IsPoolOf jobs was passes pool → HaveEnded pool.agents.items jobs pool.outcomes.items
have_ended jobs was passes pool is = zip_map (IsOutcome was pool.agents.items) (HasEnded pool.agents.items) (has_ended was pool.agents.items) jobs pool.outcomes.items is.each

-- ---- numbers of agents

pub numbered_still : (old new : List Held) (number : ℕ) (was now : List Played) → AllZip (WentOn old new) was now → AreNumbered number was → AreNumbered number now
numbered_still old new number [] [] all are = tt
numbered_still old new number [] (n ∷ now) all are = absurd all
numbered_still old new number (w ∷ was) [] all are = absurd all
numbered_still old new number (w ∷ was) (n ∷ now) all are = (all.0.longer.number ∙ are.0, numbered_still old new (number + 1) was now all.1 are.1)

pub players_numbered : (given : Opening) (start count : ℕ) → AreNumbered start (players_from given start count)
players_numbered given start zero = tt
players_numbered given start (suc count) = (refl, players_numbered given (start + 1) count)

-- ---- agent 0 alone, and then all

-- one agent is left one
of_one : (old new : List Held) (was : Played) (now : List Played) → AllZip (WentOn old new) (was ∷ []) now → (player : Played) → Contains now player → number_of player ≡ number_of was
of_one old new was [] all player has = absurd all
of_one old new was (n ∷ []) all player (zero, low, has) = ap number_of (sym has) ∙ all.0.longer.number
of_one old new was (n ∷ []) all player (suc place, low, has) = absurd (omega arith)
of_one old new was (n ∷ m ∷ now) all player has = absurd all.1

numbered_one : (old new : List Held) (was : Played) (now others : List Played) → AllZip (WentOn old new) (was ∷ []) now → number_of was ≡ 0 → AreNumbered 1 others → AreNumbered 0 (now ++ others)
numbered_one old new was [] others all is are = absurd all
numbered_one old new was (n ∷ []) others all is are = (all.0.longer.number ∙ is, are)
numbered_one old new was (n ∷ m ∷ now) others all is are = absurd all.1

-- each of these outcomes is of agent 0, and of a job of so many
abbrev AllOfFirst : ℕ → List JobOutcome → Type 0
AllOfFirst few outcomes = (place : ℕ) (outcome : JobOutcome) → slice_get outcomes place ≡ Some outcome → (outcome.agent ≡ 0) × (outcome.count < few)

begins_more : (before rest : List AgentEntry) (job : Job) → begins before < begins (before ++ Begun job ∷ rest)
begins_more [] rest job = omega arith
begins_more (Begun other ∷ before) rest job = let e = begins_more before rest job in omega arith
begins_more (Asked server stamp ∷ before) rest job = begins_more before rest job
begins_more (Lacked server lack ∷ before) rest job = begins_more before rest job
begins_more (Forgot site ∷ before) rest job = begins_more before rest job
begins_more (Ended outcome ∷ before) rest job = begins_more before rest job

-- an agent began a job that it has told
began : (player : Played) (job : Job) (number place : ℕ) → IsTold player job number place → number < begins player.entries
began player job number place told =
    let end : AgentEntry = Ended (record { agent = number_of player; count = number; steps = length told.asked; ending = told.ending }) in
    let more = begins_more told.before (told.asked ++ end ∷ told.after) job in
    let split = ap begins told.split in
    let count = told.count in
    omega arith

begun_one : (old new : List Held) (was : Played) (now : List Played) → AllZip (WentOn old new) (was ∷ []) now → (player : Played) → Contains now player → begins player.entries ≡ begun_by now
begun_one old new was [] all player has = absurd all
begun_one old new was (n ∷ []) all player (zero, low, has) = let same = ap (λ (p : Played). begins p.entries) (sym has) in omega arith
begun_one old new was (n ∷ []) all player (suc place, low, has) = absurd (omega arith)
begun_one old new was (n ∷ m ∷ now) all player has = absurd all.1

pub all_of_first : (old new : List Held) (was : Played) (now : List Played) (jobs : List NamedJob) (outcomes : List JobOutcome) → AllZip (WentOn old new) (was ∷ []) now → number_of was ≡ 0 → HaveEnded now jobs outcomes
    → AllOfFirst (begun_by now) outcomes
all_of_first old new was now jobs outcomes all is ended place outcome there =
    let one = zip_at (HasEnded now) jobs outcomes ended place outcome there in
    let has = one.1 in
    let told = began has.player one.0.job outcome.count outcome.at has.told in
    let begun = begun_one old new was now all has.player has.there in
    (sym has.number ∙ of_one old new was now all has.player has.there ∙ is, omega arith)

-- counts of one agent, which rise, rise by one at least from place to place
rises : (os : List JobOutcome) (few : ℕ) → AreInOrder os → AllOfFirst few os → (k i : ℕ) (a b : JobOutcome) → slice_get os i ≡ Some a → slice_get os (i + k) ≡ Some b → a.count + k ≤ b.count
rises os few order all zero i a b at_a at_b =
    let here : slice_get os i ≡ Some b = subst (λ (n : ℕ). slice_get os n ≡ Some b) (omega arith) at_b in
    let same = ap (λ (o : JobOutcome). o.count) (same_Some a b (sym at_a ∙ here)) in
    omega arith
rises os few order all (suc k) i a b at_a at_b =
    let within = slice_get_within os (i + suc k) b at_b in
    let c = slice_index_or os (i + k) a in
    let at_c : slice_get os (i + k) ≡ Some c = slice_get-get_or os (i + k) a (omega arith) in
    let so_far = rises os few order all k i a c at_a at_c in
    let more = order (i + k) (i + suc k) c b at_c at_b ((all (i + k) c at_c).0 ∙ sym (all (i + suc k) b at_b).0) (omega arith) in
    omega arith

-- so as many as there are places are the places
at_its_place : (os : List JobOutcome) (few : ℕ) → few ≡ length os → AreInOrder os → AllOfFirst few os → (i : ℕ) (a : JobOutcome) → slice_get os i ≡ Some a → a.count ≡ i
at_its_place os few long order all i a at =
    let within = slice_get_within os i a at in
    let first = slice_index_or os 0 a in
    let at_first : slice_get os 0 ≡ Some first = slice_get-get_or os 0 a (omega arith) in
    let low = rises os few order all i 0 first a at_first (subst (λ (n : ℕ). slice_get os n ≡ Some a) (omega arith) at) in
    let left = length os - 1 - i in
    let last = slice_index_or os (i + left) a in
    let at_last : slice_get os (i + left) ≡ Some last = slice_get-get_or os (i + left) a (omega arith) in
    let high = rises os few order all left i a last at at_last in
    let top = (all (i + left) last at_last).1 in
    omega arith

first_of_both : (few : ℕ) (before after : List JobOutcome) → few ≡ length before → AreInOrder before → AllOfFirst few before → (place : ℕ) (outcome : JobOutcome) → place < length before → slice_get (before ++ after) place ≡ Some outcome
    → (outcome.agent ≡ 0) × (outcome.count ≡ place)
first_of_both few before after long order all place outcome low there =
    elim (get_either before after place outcome there) [
      | inl first ↦ ((all place outcome first).0, at_its_place before few long order all place outcome first)
      | inr second ↦ let past = second.1.0 in absurd (omega arith)
    ]

-- ---- no two are of one job

-- what agent 0 did alone is behind what it does later
since_alone : (old new : List Held) (was : Played) (now others : List Played) → AllZip (WentOn old new) (was ∷ []) now → AreNumbered 0 (now ++ others) → (player : Played)
    → Contains (now ++ others) player → number_of player ≡ 0 → begins player.entries ≡ begun_by now
since_alone old new was [] others all are player has is = absurd all
since_alone old new was (n ∷ []) others all are player (zero, low, has) is = let same = ap (λ (p : Played). begins p.entries) (sym has) in omega arith
since_alone old new was (n ∷ []) others all are player (suc place, low, has) is =
    let at = number_at 0 (n ∷ others) are player (suc place) (contained_get (n ∷ others) player (suc place, low, has)) in
    absurd (omega arith)
since_alone old new was (n ∷ m ∷ now) others all are player has is = absurd all.1

apart_both : (before after : List JobOutcome) → AreApart before → AreApart after
    → ((i j : ℕ) (a b : JobOutcome) → slice_get before i ≡ Some a → slice_get after j ≡ Some b → a.agent ≡ b.agent → a.count ≡ b.count → ⊥)
    → AreApart (before ++ after)
apart_both before after one two cross i j a b at_i at_j agent count =
    elim (get_either before after i a at_i) [
      | inl first ↦ elim (get_either before after j b at_j) [
        | inl other ↦ one i j a b first other agent count
        | inr other ↦ absurd (cross i other.0 a b first other.1.1 agent count)
      ]
      | inr second ↦ elim (get_either before after j b at_j) [
        | inl other ↦ absurd (cross j second.0 b a other second.1.1 (sym agent) (sym count))
        | inr other ↦ let same = two second.0 other.0 a b second.1.1 other.1.1 agent count in let x = second.1.0 in let y = other.1.0 in omega arith
      ]
    ]

order_both : (before after : List JobOutcome) → AreInOrder before → AreInOrder after
    → ((i j : ℕ) (a b : JobOutcome) → slice_get before i ≡ Some a → slice_get after j ≡ Some b → a.agent ≡ b.agent → a.count < b.count)
    → AreInOrder (before ++ after)
order_both before after one two cross i j a b at_i at_j agent less =
    elim (get_either before after i a at_i) [
      | inl first ↦ elim (get_either before after j b at_j) [
        | inl other ↦ one i j a b first other agent less
        | inr other ↦ cross i other.0 a b first other.1.1 agent
      ]
      | inr second ↦ elim (get_either before after j b at_j) [
        | inl other ↦ let within = slice_get_within before j b other in let past = second.1.0 in absurd (omega arith)
        | inr other ↦ two second.0 other.0 a b second.1.1 other.1.1 agent (let x = second.1.0 in let y = other.1.0 in omega arith)
      ]
    ]

-- who did the first jobs, alone
lead_of : (old new : List Held) (was : Played) (now : List Played) → AllZip (WentOn old new) (was ∷ []) now → (lead : Played) × (now ≡ lead ∷ [])
lead_of old new was [] all = absurd all
lead_of old new was (n ∷ []) all = (n, refl)
lead_of old new was (n ∷ m ∷ now) all = absurd all.1

one_of : (lead player : Played) → Contains (lead ∷ []) player → player ≡ lead
one_of lead player (zero, low, is) = sym is
one_of lead player (suc place, low, is) = absurd (omega arith)

-- what agent 0 did alone stands before all that was done then
alone_before : (given : Opening) (jobs above : List NamedJob) (alone : ℕ) (passes : List Held) (others later : List Played) (first second : Pool) {below : List NamedJob}
    → IsPoolOf above (first_player given 0 ∷ []) passes first → AllZip (FollowsAll first.agents.items) others later → IsPoolOf below (first.agents.items ++ later) first.passes.items second → AreNew others
    → HaveEnded first.agents.items above first.outcomes.items → length above ≡ min alone (length jobs) → length (first.outcomes.items ++ second.outcomes.items) ≡ length jobs
    → StandBefore alone (first.outcomes.items ++ second.outcomes.items) (transcripts_of second.agents.items)
alone_before given jobs above alone passes others later first second one follow two fresh ended cut many =
    let found = lead_of passes first.passes.items (first_player given 0) first.agents.items one.agents in
    let lead = found.0 in
    let is = found.1 in
    let once = one.once in
    let none : begun_by (first_player given 0 ∷ []) ≡ 0 = refl in
    let began : begun_by first.agents.items ≡ begins lead.entries = ap begun_by is ∙ omega arith in
    let long = AllZip-long (HasEnded first.agents.items) above first.outcomes.items ended in
    let both = length-append first.outcomes.items second.outcomes.items in
    stand_before given alone passes first.passes.items second.passes.items lead others later second.agents.items (first.outcomes.items ++ second.outcomes.items)
    (subst (λ (ps : List Played). AllZip (WentOn passes first.passes.items) (first_player given 0 ∷ []) ps) is one.agents)
    (subst (λ (ps : List Played). AllZip (FollowsAll ps) others later) is follow)
    (subst (λ (ps : List Played). AllZip (WentOn first.passes.items second.passes.items) (ps ++ later) second.agents.items) is two.agents)
    fresh (omega arith)
    (λ place outcome low there.
    let within = slice_get_within (first.outcomes.items ++ second.outcomes.items) place outcome there in
    let early : place < length first.outcomes.items = omega arith in
    let at : slice_get first.outcomes.items place ≡ Some outcome = elim (get_either first.outcomes.items second.outcomes.items place outcome there) [
      | inl here ↦ here
      | inr past ↦ let gone = past.1.0 in absurd (omega arith)
    ] in
    let found_at = zip_at (HasEnded first.agents.items) above first.outcomes.items ended place outcome at in
    let job = found_at.0.job in
    let has = found_at.1 in
    let same : has.player ≡ lead = one_of lead has.player (subst (λ (ps : List Played). Contains ps has.player) is has.there) in
    end_stands lead job outcome.count outcome.at (subst (λ (p : Played). IsTold p job outcome.count outcome.at) same has.told))

-- agent 0 did the jobs above, and then all agents those below
pub both_done : (given : Opening) (jobs above below : List NamedJob) (alone : ℕ) (passes : List Held) (others later : List Played) (first : Pool) (second : Pool) (worked : Worked)
    → jobs ≡ above ++ below → length above ≡ min alone (length jobs) → first_player given 0 ∷ others ≡ players_from given 0 given.agents
    → IsPoolOf above (first_player given 0 ∷ []) passes first
    → AllZip (FollowsAll first.agents.items) others later
    → IsPoolOf below (first.agents.items ++ later) first.passes.items second
    → worked.agents.items ≡ second.agents.items → worked.outcomes.items ≡ first.outcomes.items ++ second.outcomes.items
    → AreDone jobs alone worked
both_done given jobs above below alone passes others later first second worked split cut are one follow two agents outcomes =
    let was = first.agents.items ++ later in
    let ended = have_ended above (first_player given 0 ∷ []) passes first one in
    let among = zip_map (HasEnded first.agents.items) (HasEnded was) (ended_among first.agents.items later) above first.outcomes.items ended in
    let still = zip_map (HasEnded was) (HasEnded second.agents.items) (ended_still first.passes.items second.passes.items was second.agents.items two.agents) above first.outcomes.items among in
    let rest = have_ended below was first.passes.items second two in
    let both = zip_append (HasEnded second.agents.items) above below first.outcomes.items second.outcomes.items still rest in
    let each = subst (λ (js : List NamedJob). HaveEnded second.agents.items js (first.outcomes.items ++ second.outcomes.items)) (sym split) both in
    let numbered = numbered_one passes first.passes.items (first_player given 0) first.agents.items later one.agents refl
    (numbered_followers first.agents.items 1 others later follow (subst (AreNumbered 0) (sym are) (players_numbered given 0 given.agents)).1)
    in
    let all = all_of_first passes first.passes.items (first_player given 0) first.agents.items above first.outcomes.items one.agents refl ended in
    let long = AllZip-long (HasEnded first.agents.items) above first.outcomes.items ended in
    let longer = AllZip-long (HasEnded second.agents.items) jobs (first.outcomes.items ++ second.outcomes.items) each in
    let once = one.once in
    let none : begun_by (first_player given 0 ∷ []) ≡ 0 = refl in
    let cross : (i j : ℕ) (a b : JobOutcome) → slice_get first.outcomes.items i ≡ Some a → slice_get second.outcomes.items j ≡ Some b → a.agent ≡ b.agent → a.count < b.count = λ i j a b at_i at_j agent.
    let here = all i a at_i in
    let named = zip_at (IsOutcome was second.agents.items) below second.outcomes.items two.each j b at_j in
    let is = named.1 in
    let begun = since_alone passes first.passes.items (first_player given 0) first.agents.items later one.agents numbered is.before is.by.had (is.by.old ∙ sym agent ∙ here.0) in
    let since = is.since in
    let less = here.1 in
    omega arith
    in
    let halves = length-append above below in
    let whole : length jobs ≡ length (above ++ below) = ap length split in
    let sum = begun_both first.agents.items later in
    let fresh = none_begun first.agents.items others later follow (new_others given others are) in
    let then = two.once in
    let here : begun_by worked.agents.items ≡ begun_by second.agents.items = ap begun_by agents in
    record {
      once = omega arith;
      numbered = subst (AreNumbered 0) (sym agents) (numbered_still first.passes.items second.passes.items 0 was second.agents.items two.agents numbered);
      each = subst (λ (ps : List Played). HaveEnded ps jobs worked.outcomes.items) (sym agents) (subst (λ (os : List JobOutcome). HaveEnded second.agents.items jobs os) (sym outcomes) each);
      apart = subst AreApart (sym outcomes) (apart_both first.outcomes.items second.outcomes.items one.apart two.apart (λ i j a b at_i at_j agent count. let less = cross i j a b at_i at_j agent in omega arith));
      order = subst AreInOrder (sym outcomes) (order_both first.outcomes.items second.outcomes.items one.order two.order cross);
      first =
          subst (AreOfFirst alone) (sym outcomes)
          (λ (place : ℕ) (outcome : JobOutcome) (low : place < alone) (there : slice_get (first.outcomes.items ++ second.outcomes.items) place ≡ Some outcome).
          let within = slice_get_within (first.outcomes.items ++ second.outcomes.items) place outcome there in
          let before : place < length first.outcomes.items = omega arith in
          first_of_both (begun_by first.agents.items) first.outcomes.items second.outcomes.items (omega arith) one.order all place outcome before there);
      before = subst (λ (ps : List Played). StandBefore alone worked.outcomes.items (transcripts_of ps)) (sym agents)
          (subst (λ (os : List JobOutcome). StandBefore alone os (transcripts_of second.agents.items)) (sym outcomes)
          (alone_before given jobs above alone passes others later first second one follow two (new_others given others are) ended (omega arith) (omega arith)));
    }

-- ---- agents who can work

pub all_ready : (given : Opening) (passes : List Held) (players : List Played) → passes ≡ passes_of given.agents → players ≡ players_from given 0 given.agents → AreReady passes players
all_ready given passes players is are = subst (λ (ps : List Played). AreReady passes ps) (sym are) (subst (λ (held : List Held). AreReady held (players_from given 0 given.agents)) (sym is) (ready_first given))
