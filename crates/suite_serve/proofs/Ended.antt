-- From outcomes to how jobs ended in the agents' transcripts.
use Rattle.suite_serve.proofs.Vocabulary.{◌≡◌, ◌∙◌, ap, sym, refl, subst, arith, ℕ, zero, suc, ◌+◌, ◌<◌, List, [], ◌∷◌, ◌++◌, length, map, length-map}
use Rattle.suite_serve.proofs.Vocabulary.{none-some, same_Some, slice_get-map, Contains, slice_get, Option, Some, option_map, EndedJob, AgentEntry, Begun}
use Rattle.suite_serve.proofs.Vocabulary.{Ended, JobOutcome, NamedJob, end_of, Played, number_of, AreBefore, AreFirst, AreJobEnds, EndsIn, IsJobEnd, JobEnd}
use Rattle.suite_serve.proofs.Vocabulary.{done_as, end_in, end_there, named_end, AreNumbered, AreOfFirst, HasEnded, HaveEnded, StandBefore, named_from}
use Rattle.suite_serve.proofs.Vocabulary.{transcripts_of}
use Rattle.suite_serve.specs.Served.{AreApart, AreInOrder}
use Rattle.txn_core.specs.declared.job.Job.{Job}
use Rattle.agent_pool.specs.Pools.{AreApart as ApartOutcomes, AreInOrder as OutcomesInOrder}
use Rattle.suite_serve.proofs.Numbers.{number_at}
use Rattle.suite_serve.proofs.Places.{contained_get, get_contained, get_front, get_past, mapped_get}

-- its transcript stands at its number
transcript_at : (players : List Played) → AreNumbered 0 players → (player : Played) → Contains players player → slice_get (transcripts_of players) (number_of player) ≡ Some player.entries
transcript_at players are player has =
    let there = contained_get players player has in
    let number = number_at 0 players are player has.0 there in
    let at : number_of player ≡ has.0 = omega arith in
    ap (slice_get (transcripts_of players)) at
    ∙ slice_get-map (λ (p : Played). p.entries) players has.0
    ∙ ap (option_map (λ (p : Played). p.entries)) there

ends_there : (before asked after : List AgentEntry) (begun : AgentEntry) (end : EndedJob) → end_of (slice_get (before ++ begun ∷ (asked ++ Ended end ∷ after)) (length before + (length asked + 1))) ≡ Some end
ends_there before asked after begun end =
    let next : length asked + 1 ≡ suc (length asked + 0) = omega arith in
    ap (λ n. end_of (slice_get (before ++ begun ∷ (asked ++ Ended end ∷ after)) (length before + n))) next
    ∙ ap end_of (get_past before (begun ∷ (asked ++ Ended end ∷ after)) (suc (length asked + 0)))
    ∙ ap end_of (get_past asked (Ended end ∷ after) 0)

one_end : (players : List Played) → AreNumbered 0 players → (named : NamedJob) (outcome : JobOutcome) → HasEnded players named outcome
    → IsJobEnd (transcripts_of players) named.number named.job (end_in (transcripts_of players) outcome)
one_end players are named outcome has =
    let told = has.told in
    let end : EndedJob = record { agent = number_of has.player; count = outcome.count; steps = length told.asked; ending = told.ending } in
    let there = transcript_at players are has.player has.there ∙ ap Some told.split in
    let name : named_end (transcripts_of players) outcome ≡ Some end =
    ap (λ n. end_there (slice_get (transcripts_of players) n) outcome.at) (sym has.number)
    ∙ ap (λ (o : Option (List AgentEntry)). end_there o outcome.at) there
    ∙ ap (λ n. end_of (slice_get (told.before ++ Begun named.job ∷ (told.asked ++ Ended end ∷ told.after)) n)) (sym told.at)
    ∙ ends_there told.before told.asked told.after (Begun named.job) end
    in
    record {
      told = end;
      is = λ i. record { job = has.of i; told = name i };
      ended = record { before = told.before; asked = told.asked; after = told.after; there = there; count = told.count; asks = told.asks; steps = refl };
    }

pub all_ends : (players : List Played) → AreNumbered 0 players → (number : ℕ) (jobs : List Job) (outcomes : List JobOutcome) → HaveEnded players (named_from number jobs) outcomes
    → AreJobEnds (transcripts_of players) number jobs (map (end_in (transcripts_of players)) outcomes)
all_ends players are number [] [] all = tt
all_ends players are number [] (o ∷ outcomes) all = absurd all
all_ends players are number (job ∷ jobs) [] all = absurd all
all_ends players are number (job ∷ jobs) (o ∷ outcomes) all =
    (one_end players are (record { number = number; job = job }) o all.0, all_ends players are (number + 1) jobs outcomes all.1)

-- ---- who did them

done_by : (players : List Played) → AreNumbered 0 players → (named : NamedJob) (outcome : JobOutcome) → HasEnded players named outcome → done_as (end_in (transcripts_of players) outcome) ≡ Some (outcome.agent, outcome.count)
unfolding one_end
done_by players are named outcome has =
    let one = one_end players are named outcome has in
    ap done_as one.is ∙ ap (λ (n : ℕ). Some (n, outcome.count)) has.number

-- the outcome of an end
record From (players : List Played) (outcomes : List JobOutcome) (place : ℕ) (end : JobEnd) : Type 0 where
  outcome : JobOutcome
  there : slice_get outcomes place ≡ Some outcome
  done : done_as end ≡ Some (outcome.agent, outcome.count)

from_outcome : (players : List Played) → AreNumbered 0 players → (jobs : List NamedJob) (outcomes : List JobOutcome) → HaveEnded players jobs outcomes → (place : ℕ) (end : JobEnd)
    → slice_get (map (end_in (transcripts_of players)) outcomes) place ≡ Some end → From players outcomes place end
from_outcome players are [] [] all place end there = absurd (none-some end there)
from_outcome players are [] (o ∷ outcomes) all place end there = absurd all
from_outcome players are (j ∷ jobs) [] all place end there = absurd all
from_outcome players are (j ∷ jobs) (o ∷ outcomes) all zero end there =
    record { outcome = o; there = refl; done = ap done_as (sym (same_Some (end_in (transcripts_of players) o) end there)) ∙ done_by players are j o all.0 }
from_outcome players are (j ∷ jobs) (o ∷ outcomes) all (suc place) end there =
    let from = from_outcome players are jobs outcomes all.1 place end there in
    record { outcome = from.outcome; there = from.there; done = from.done }

pub first_ends : (players : List Played) → AreNumbered 0 players → (alone : ℕ) (jobs : List NamedJob) (outcomes : List JobOutcome) → HaveEnded players jobs outcomes → AreOfFirst alone outcomes
    → AreFirst alone (map (end_in (transcripts_of players)) outcomes)
first_ends players are alone jobs outcomes all first place end low there =
    let from = from_outcome players are jobs outcomes all place end there in
    let one = first place from.outcome low from.there in
    from.done ∙ (ap (λ (n : ℕ). Some (n, from.outcome.count)) one.0 ∙ ap (λ (n : ℕ). Some (0, n)) one.1)

pub apart_ends : (players : List Played) → AreNumbered 0 players → (jobs : List NamedJob) (outcomes : List JobOutcome) → HaveEnded players jobs outcomes → ApartOutcomes outcomes
    → AreApart (map (end_in (transcripts_of players)) outcomes)
apart_ends players are jobs outcomes all apart i j a b at_i at_j same =
    let x = from_outcome players are jobs outcomes all i a at_i in
    let y = from_outcome players are jobs outcomes all j b at_j in
    let both : (x.outcome.agent, x.outcome.count) ≡ (y.outcome.agent, y.outcome.count) = same_Some (x.outcome.agent, x.outcome.count) (y.outcome.agent, y.outcome.count) (sym x.done ∙ same ∙ y.done) in
    apart i j x.outcome y.outcome x.there y.there (ap (λ (p : ℕ × ℕ). p.0) both) (ap (λ (p : ℕ × ℕ). p.1) both)

pub order_ends : (players : List Played) → AreNumbered 0 players → (jobs : List NamedJob) (outcomes : List JobOutcome) → HaveEnded players jobs outcomes → OutcomesInOrder outcomes
    → AreInOrder (map (end_in (transcripts_of players)) outcomes)
order_ends players are jobs outcomes all order i j a b agent first second at_i at_j before is_a is_b =
    let x = from_outcome players are jobs outcomes all i a at_i in
    let y = from_outcome players are jobs outcomes all j b at_j in
    let one : (x.outcome.agent, x.outcome.count) ≡ (agent, first) = same_Some (x.outcome.agent, x.outcome.count) (agent, first) (sym x.done ∙ is_a) in
    let other : (y.outcome.agent, y.outcome.count) ≡ (agent, second) = same_Some (y.outcome.agent, y.outcome.count) (agent, second) (sym y.done ∙ is_b) in
    let agents : x.outcome.agent ≡ y.outcome.agent = ap (λ (p : ℕ × ℕ). p.0) one ∙ sym (ap (λ (p : ℕ × ℕ). p.0) other) in
    let less : x.outcome.count < y.outcome.count = order i j x.outcome y.outcome x.there y.there agents before in
    let from : x.outcome.count ≡ first = ap (λ (p : ℕ × ℕ). p.1) one in
    let to : y.outcome.count ≡ second = ap (λ (p : ℕ × ℕ). p.1) other in
    omega (arith, less, from, to)

-- the first had ended before any other was begun
pub before_ends : (alone : ℕ) (outcomes : List JobOutcome) (transcripts : List (List AgentEntry)) → AreOfFirst alone outcomes → StandBefore alone outcomes transcripts → AreBefore alone (map (end_in transcripts) outcomes) transcripts
before_ends alone outcomes transcripts are stand = record {
  first = stand.first;
  rest = stand.rest;
  others = stand.others;
  split = stand.split;
  just = let long = length-map outcomes (end_in transcripts) in stand.just ∙ omega arith;
  ended = λ place end low there.
      let from = mapped_get (end_in transcripts) outcomes place end there in
      let outcome = from.0 in
      let stands = stand.ended place outcome low from.1.0 in
      let agent = (are place outcome low from.1.0).0 in
      let told : end.told ≡ Some stands.0 =
      ap (λ (e : JobEnd). e.told) (sym from.1.1)
      ∙ ap (λ n. end_there (slice_get transcripts n) outcome.at) agent
      ∙ ap (λ (ts : List (List AgentEntry)). end_there (slice_get ts 0) outcome.at) stand.split
      ∙ ap end_of (get_front stand.first stand.rest outcome.at (Ended stands.0) stands.1)
      in
      subst (λ (told : Option EndedJob). EndsIn stand.first told) (sym told) (get_contained stand.first (Ended stands.0) outcome.at stands.1);
  before = stand.before;
}
