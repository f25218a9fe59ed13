-- The rule of the channel through which jobs go.
use Rattle.std.specs.Prelude.{◌≡◌, ℕ, zero, suc, ◌+◌, ◌<◌, ◌≤◌, Bool, true, false, List, [], ◌∷◌, ◌++◌, length}
use mathlib.Core.Option.{some}
use lib.ListN.{get_elem?}
use Rattle.agent_pool.specs.declared.line.Hand.{Hand}
use Rattle.agent_pool.specs.declared.line.PoolItem.{PoolItem}
use Rattle.agent_pool.specs.declared.line.PoolItem.TheVariants.{End, Job}

-- ---- hands, and what they do

-- the one that puts, after so many jobs and end marks, beside so many that take
abbrev pub feeder : ℕ → ℕ → ℕ → Hand
feeder put ends takers = record { puts = true; takes = false; put = put; ends = ends; takers = takers; back = 0; low = 0; ended = false; taken = [] }

-- one that takes, and one that neither puts nor takes
abbrev pub taker : Hand
taker = record { puts = false; takes = true; put = 0; ends = 0; takers = 0; back = 0; low = 0; ended = false; taken = [] }

abbrev pub spent : Hand
spent = record { puts = false; takes = false; put = 0; ends = 0; takers = 0; back = 0; low = 0; ended = false; taken = [] }

-- the one that puts, beside one more that takes
abbrev pub with_taker : Hand → Hand
with_taker hand = record hand { takers = hand.takers + 1 }

abbrev pub either_one : Bool → Bool → Bool
either_one true other = true
either_one false other = other

-- the one that puts, with all that another has taken, which takes no more
abbrev pub with_taken : Hand → Hand → Hand
with_taken hand other = record hand { back = hand.back + 1; ended = either_one hand.ended other.ended; taken = hand.taken ++ other.taken }

abbrev pub after_put : Hand → PoolItem → Hand
after_put hand End = record hand { ends = hand.ends + 1 }
after_put hand (Job place) = record hand { put = place + 1 }

abbrev pub after_take : Hand → PoolItem → Hand
after_take hand End = record hand { ended = true }
after_take hand (Job place) = record hand { low = place + 1; taken = hand.taken ++ place ∷ [] }

-- what is taken stands behind all jobs that this hand has taken
abbrev pub IsBehind : Hand → PoolItem → Type 0
IsBehind hand End = Unit {0}
IsBehind hand (Job place) = hand.low ≤ place

-- an item was taken so
abbrev pub TakesItem : Hand → PoolItem → Hand → Type 0
TakesItem hand item after = IsBehind hand item × (after ≡ after_take hand item)

-- it is one of those that take
abbrev pub IsTaker : Hand → Type 0
IsTaker hand = (hand.puts ≡ false) × (hand.takes ≡ true)

-- the one that puts, before it has put anything
abbrev pub IsFirst : Hand → Type 0
IsFirst hand = (hand.puts ≡ true) × (hand.put ≡ 0) × (hand.ends ≡ 0)

-- it may put this: the next job, before all end marks, or an end mark for a hand that takes
abbrev pub MayPut : Hand → PoolItem → Type 0
MayPut hand End = (hand.puts ≡ true) × (hand.ends < hand.takers)
MayPut hand (Job place) = (hand.puts ≡ true) × (hand.put ≡ place) × (hand.ends ≡ 0)

-- ---- what was put

-- the jobs at the places below a number, in their order
abbrev pub jobs_below : ℕ → List PoolItem
jobs_below zero = []
jobs_below (suc n) = jobs_below n ++ Job n ∷ []

abbrev pub marks : ℕ → List PoolItem
marks zero = []
marks (suc n) = marks n ++ End ∷ []

-- these places
abbrev pub places_below : ℕ → List ℕ
places_below zero = []
places_below (suc n) = places_below n ++ n ∷ []

-- the places of the jobs among these items
abbrev pub places_in : List PoolItem → List ℕ
places_in [] = []
places_in (End ∷ items) = places_in items
places_in (Job place ∷ items) = place ∷ places_in items

-- ---- lists of places, with each as often as in another list

-- the weights of all, added up
abbrev pub weigh : (ℕ → ℕ) → List ℕ → ℕ
weigh h [] = 0
weigh h (place ∷ places) = h place + weigh h places

-- two lists have each place equally often: so they weigh the same, whatever each place weighs
abbrev pub HaveSame : List ℕ → List ℕ → Type 0
HaveSame places others = (h : ℕ → ℕ) → weigh h places ≡ weigh h others

abbrev pub total : (Hand → ℕ) → List Hand → ℕ
total f [] = 0
total f (hand ∷ hands) = f hand + total f hands

abbrev pub one_if : Bool → ℕ
one_if true = 1
one_if false = 0

abbrev pub one_that_takes : Hand → ℕ
one_that_takes hand = one_if hand.takes

-- ---- the rule

-- what is known of a hand, where so many jobs and end marks were put beside so many that take, of which so many are back, and so many items are gone
pub record IsKnown (put ends takers back gone seat : ℕ) (hand : Hand) : Type 0 where
  pub puts : hand.puts ≡ true → (seat ≡ 0) × (hand.put ≡ put) × (hand.ends ≡ ends) × (hand.takers ≡ takers) × (hand.back ≡ back) × (hand.takes ≡ false)
  pub low : hand.low ≤ gone
  pub idle : hand.puts ≡ false → hand.takes ≡ false → hand.taken ≡ []
  pub ended : hand.ended ≡ true → (0 < ends) × (put ≤ gone)

-- What was put is so many jobs, each once, in their order, and after them end marks, no more than there are hands that take. What the channel holds
-- is the rest of it. Who takes has taken no job behind those that are gone, and the jobs that are gone are those that were taken, each as often.
pub record IsEachOnce (items : List PoolItem) (hands : List Hand) : Type 0 where
  pub put : ℕ
  pub ends : ℕ
  pub takers : ℕ
  pub back : ℕ
  pub gone : List PoolItem
  pub split : gone ++ items ≡ jobs_below put ++ marks ends
  pub few : ends ≤ takers
  pub out : total one_that_takes hands + back ≡ takers
  pub taken : (h : ℕ → ℕ) → total (λ hand. weigh h hand.taken) hands ≡ weigh h (places_in gone)
  pub known : (seat : ℕ) (hand : Hand) → get_elem? hands seat ≡ some hand → IsKnown put ends takers back (length gone) seat hand

-- where all that took are back, and one has taken an end mark, what they took is all that was put
abbrev pub TookAll : Hand → Type 0
TookAll hand = hand.back ≡ hand.takers → hand.ended ≡ true → HaveSame hand.taken (places_below hand.put)
