use Rattle.agent_pool.proofs.Vocabulary.{rules, ◌≡◌, ◌∙◌, ◌++◌, List, ℕ, refl, arith, ◌+◌, subst, sym, drop_more, take_all, JobDone, places_by, AreSeen}
use Rattle.agent_pool.proofs.Vocabulary.{filled_in}
use Rattle.std.proofs.Common.{append-nil}
use Rattle.agent_pool.proofs.Seen.{double_next, passed_on, seen_next, within_at}
use Rattle.agent_pool.specs.Transcripts.{begins}
use Rattle.agent_pool.proofs.Apart.{at_next}
use Rattle.agent_pool.proofs.Filling.{done_at, put_many}
use Rattle.agent_pool.proofs.gather.place_all.Goals as goal

pub loop-one-init : goal.loop-one-init
loop-one-init c = (
  (λ was players before player by all filled. filled),
  (λ numbers low high floor roof fresh rise places order below. record { low = low; floor = floor; rise = rise; places = places; order = order; below = below }),
  omega arith,
  refl,
  (λ seen was. subst (λ (ps : List ℕ). AreSeen ps c.args.slots.now) (sym (append-nil seen)) was),
)

pub loop-one-preserved : goal.loop-one-preserved
loop-one-preserved c = (
  (λ was players before player by all filled.
      c.in_ok-place_one.ensures.filled was players before player by
      (done_at c.args.jobs.now (begins before.entries) player c.args.done.now c.loop-one.one-index _ all c.loop-one-test.true (search rules))
      (c.loop-one.invariant.0 was players before player by all filled)),
  (λ numbers low high floor roof fresh rise places order below.
      at_next c.args.agent numbers high roof _ _ _ _ _ c.in_ok-place_one.ensures.put.0 fresh (drop_more c.args.done.now c.loop-one.one-index _ c.loop-one-test.true)
      (c.loop-one.invariant.1 numbers low high floor roof fresh rise places order below) c.in_ok-place_one.ensures.put.1),
  (let more : filled_in c.place_one.new.slots ≡ filled_in c.loop-one.slots + 1 = put_many _ _ _ _ c.in_ok-place_one.ensures.put.1 in
      let were = c.loop-one.invariant.2 in
      omega arith),
  c.in_ok-place_one.ensures.long ∙ c.loop-one.invariant.3,
  (λ seen was. seen_next seen c.args.done.now c.loop-one.one-index _ _ _ _ _ c.loop-one-test.true (search rules) (c.loop-one.invariant.4 seen was) c.in_ok-place_one.ensures.put.1),
)

pub place_one-requires-clause-within : goal.place_one-requires-clause-within
place_one-requires-clause-within c = within_at _ c.args.done.now c.loop-one.one-index _ c.requires.within c.loop-one-test.true (search rules)

pub returns-clause-many : goal.returns-clause-many
returns-clause-many c = let past = c.loop-one-test.false in let few = c.loop-one.auto in let were = c.loop-one.invariant.2 in omega arith

pub returns-clause-seen : goal.returns-clause-seen
returns-clause-seen c seen was =
    let past = c.loop-one-test.false in
    subst (λ (ds : List JobDone). AreSeen (seen ++ places_by ds) c.loop-one.slots) (take_all c.loop-one.one-index c.args.done.now (omega arith)) (c.loop-one.invariant.4 seen was)

pub returns-clause-order : goal.returns-clause-order
returns-clause-order c numbers low high floor roof fresh rise places order below =
    let at = c.loop-one.invariant.1 numbers low high floor roof fresh rise places order below in
    (at.order, (at.low, at.floor, at.below))

pub returns-in_err-place_one-clause-double : goal.returns-in_err-place_one-clause-double
returns-in_err-place_one-clause-double c =
    passed_on _ _ _ c.from_residual.ensures.1
    (λ seen was.
    let err = c.in_err-place_one.ensures.double in
    (err.0, err.1, double_next c.args.jobs.now c.loop-one.slots seen c.args.done.now c.loop-one.one-index _ err.0 c.loop-one-test.true (search rules) (c.loop-one.invariant.4 seen was) err.2))
