-- What a step leaves in the cache.
use Rattle.txn_core.proofs.Vocabulary.{◌≡◌, ℕ, ◌⊎◌, inl, inr, Some, refl, ap, subst, Content, Request, Reply, Entry, Cache, put_has, searched_has, ReadPoint, GatheredSuite, Suites, arith, suite_of, Response, Replied, Fixed, Task, Phase, Fetching}
use Rattle.txn_core.proofs.Vocabulary.{Executes, Point, point, EndsIn, Move, MovesTo, entry_of, Hears, gets, Step, after_search, Gathered, execute, after_response, given_in}
use Rattle.weak_cache.proofs.Origins.{Has}
use Rattle.rep_core.specs.declared.reply.Reply.TheVariants as reply
use Rattle.txn_core.proofs.Moving.{kept, left_by, execute_moves, response_moves}

-- ---- what follows a word

-- where a step ends the cache is as it was
pub ends_same : (task : Task) (at : Point) (step : Step) → EndsIn task at.cache at.suites at.stage step → step.cache ≡ at.cache
ends_same task at step ends = left_by task (λ step. step.cache ≡ at.cache) at step (λ phase. refl) (λ ending. refl) ends

-- what was looked for moves, and no more
searched_back : (task : Task) (cache : Cache) (number : ℕ) (first : ReadPoint) (x : Entry) → Has (after_search task cache number first) x → Has cache x
searched_back task cache number first x has = search (searched_has, arith)

move_has : (fixed : Fixed) (task : Task) (x : Entry) {at next : Point} → Move fixed task at next → Has next.cache x → Has at.cache x
move_has fixed task x h3 h4 = search (searched_back, arith)

moves_has : (fixed : Fixed) (task : Task) (x : Entry) (at : Point) (step : Step) → MovesTo fixed task at step → Has step.cache x → Has at.cache x
moves_has fixed task x at step moves has =
    kept fixed task (λ now. Has now.cache x → Has at.cache x) (λ at next move before has. before (move_has fixed task x move has)) moves.moves (λ has. has) (subst (λ cache. Has cache x) (ends_same task moves.end step moves.ends) has)

pub execute_has : (fixed : Fixed) (task : Task) (all : Gathered) (x : Entry) → Has (execute fixed task all).cache x → Has all.cache x
execute_has fixed task all x has = moves_has fixed task x (point Executes all.cache all.suites) (execute fixed task all) (execute_moves fixed task all) has

-- ---- responses

-- an entry that a response puts
pub record PutBy (fixed : Fixed) (task : Task) (suites : Suites) (phase : Phase) (response : Response) (x : Entry) : Type 0 where
  pub number : ℕ
  pub fetching : phase ≡ Fetching number
  pub suite : GatheredSuite
  pub there : suite_of suites number ≡ Some suite
  pub first : ReadPoint
  pub was : suite.first ≡ Some first
  pub dver : ℕ
  pub content : Content
  pub told : response ≡ Replied (reply.Given dver content)
  pub is : x ≡ record { site = task.site; suite = number; prefix = first.prefix; dver = first.dver; content = content }

pub given_is : (said : Reply) (content : Content) → given_in said ≡ Some content → (dver : ℕ) × (said ≡ reply.Given dver content)
given_is said content h2 = search arith

hears_has : (fixed : Fixed) (task : Task) (cache : Cache) (suites : Suites) (x : Entry) (server : ℕ) (asked : Request) {phase : Phase} {response : Response} {heard : Point} → Hears fixed task cache suites server asked phase response heard
    → Has heard.cache x → Has cache x ⊎ PutBy fixed task suites phase response x
hears_has fixed task cache suites x server asked (gets {number = number} {suite = suite} {first = first} {reply = reply} {content = content} there was given) has =
    elim (put_has fixed.limits (entry_of task number first content) cache x has) [
      | inl same ↦
          let told = given_is reply content given in
          inr (record { number = number; fetching = refl; suite = suite; there = there; first = first; was = was; dver = told.0; content = content; told = ap Replied told.1; is = same })
      | inr before ↦ inl before
    ]
hears_has fixed task cache suites x server asked _ has = inl has

pub response_has : (fixed : Fixed) (task : Task) (cache : Cache) (suites : Suites) (x : Entry) (phase : Phase) (server : ℕ) (asked : Request) (response : Response)
    → Has (after_response fixed (record { task = task; suites = suites; phase = phase }) cache server asked response).cache x → Has cache x ⊎ PutBy fixed task suites phase response x
response_has fixed task cache suites x phase server asked response has = search (response_moves fixed task cache suites server asked phase response, hears_has, moves_has, arith)
