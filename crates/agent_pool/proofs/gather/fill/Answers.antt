use Rattle.agent_pool.proofs.Vocabulary.{◌≡◌, ℕ, List, ◌∙◌, refl, sym, subst, ap, rules, arith, length, ◌++◌, ◌∷◌, [], take_all, Contains, Some, slice_get}
use Rattle.agent_pool.proofs.Vocabulary.{slice_index_or, AreOfThese, done_in, players_of, sitting, JobDone, Worked, AreSeen, AreWithin, IsDouble, places}
use Rattle.agent_pool.proofs.Vocabulary.{places_by, numbers_of, AllDone, RiseBetween, RiseInPlace, number_of}
use Rattle.std.proofs.Common.{take}
use Rattle.agent_pool.specs.Transcripts.{begins}
use Rattle.agent_pool.proofs.Apart.{below_none, is_fresh, none_at, of_more}
use Rattle.agent_pool.proofs.Filling.{is_of, more_many, none_filled, none_many, number_at, take_numbers, worked_at}
use Rattle.agent_pool.proofs.Seen.{done_within, double_further, passed_on, seen_none, worked_next, worked_split}
use Rattle.agent_pool.proofs.gather.fill.Goals as goal

pub loop-one-init : goal.loop-one-init
loop-one-init c = (
  (λ seats works. none_filled (sitting seats) (players_of c.args.worked.now) c.args.jobs.now c.args.slots.now c.requires.none c.requires.long),
  (λ i j a b ati atj same before. absurd (none_at c.args.slots.now c.requires.none i a ati)),
  (λ i a at. absurd (none_at c.args.slots.now c.requires.none i a at)),
  none_many c.args.slots.now c.requires.none,
  refl,
  seen_none c.args.slots.now c.requires.none,
)

pub loop-one-preserved : goal.loop-one-preserved
loop-one-preserved c =
    let w = c.one-item.result in
    let was = c.loop-one.invariant in
    let index = c.loop-one.one-index in
    let ns = numbers_of (players_of c.args.worked.now) in
    let jobs = c.args.jobs.now in
    let worked = c.args.worked.now in
    let here_is : slice_index_or worked index w ≡ w = search rules in
    let low = c.loop-one-test.true in
    let at = worked_at jobs c.requires.worked.0 worked index w c.requires.worked.1 low here_is in
    let here : slice_get ns index ≡ Some (number_of w.player) = number_at c.args.worked.now index w c.loop-one-test.true (search rules) in
    let num = c.number.ensures in
    let n = c.number.result in
    let fresh = subst (λ m. ¬ (Contains (take index ns) m)) (sym num) (is_fresh ns index (number_of w.player) c.requires.distinct here) in
    let lowest = begins at.seat.player.entries in
    let order = c.in_ok-place_all.ensures.order (take index ns) lowest (begins w.player.entries) 0 at.work.next fresh
    (subst (λ (ds : List JobDone). RiseBetween lowest ds (begins w.player.entries)) (sym c.deref.ensures.value) at.work.rise)
    (subst (λ (ds : List JobDone). RiseInPlace 0 ds at.work.next) (sym c.deref.ensures.value) at.work.order) was.1 (below_none (take index ns) n lowest 0 c.loop-one.slots was.2) in (
      (λ seats works.
          let on = worked_at jobs seats worked index w works low here_is in
          c.in_ok-place_all.ensures.filled (sitting seats) (players_of worked) on.seat.player w.player (is_of jobs seats worked w n on num)
          (subst (λ (ds : List JobDone). AllDone jobs (begins on.seat.player.entries) w.player ds) (sym c.deref.ensures.value) on.work.done) (was.0 seats works)),
      order.0,
      subst (λ l. AreOfThese l c.place_all.new.slots)
          (sym (take_numbers c.args.worked.now index w c.loop-one-test.true (search rules) ∙ ap (λ m. take index ns ++ m ∷ []) (sym num)))
          (of_more (take index ns) n order.1.0 order.1.1 c.place_all.new.slots order.1.2),
      (let all = c.in_ok-place_all.ensures.many in let done = ap length c.deref.ensures.value in let were = was.3 in let more = more_many worked index w low here_is in omega arith),
      c.in_ok-place_all.ensures.long ∙ was.4,
      (let before = places (take index worked) in
          subst (λ (ps : List ℕ). AreSeen ps c.place_all.new.slots) (ap (λ (ds : List JobDone). before ++ places_by ds) c.deref.ensures.value ∙ sym (worked_next worked index w low here_is)) (c.in_ok-place_all.ensures.seen before was.5)),
    )

pub place_all-requires-clause-within : goal.place_all-requires-clause-within
place_all-requires-clause-within c =
    let w = c.one-item.result in
    let jobs = c.args.jobs.now in
    let at = worked_at jobs c.requires.worked.0 c.args.worked.now c.loop-one.one-index w c.requires.worked.1 c.loop-one-test.true (search rules) in
    subst (λ (ds : List JobDone). AreWithin (length jobs) ds) (sym c.deref.ensures.value) (done_within jobs (begins at.seat.player.entries) w.player w.done.items at.work.done)

pub returns-clause-seen : goal.returns-clause-seen
returns-clause-seen c =
    let past = c.loop-one-test.false in
    subst (λ (ws : List Worked). AreSeen (places ws) c.loop-one.slots) (take_all c.loop-one.one-index c.args.worked.now (omega arith)) c.loop-one.invariant.5

pub returns-clause-many : goal.returns-clause-many
returns-clause-many c =
    let past = c.loop-one-test.false in
    c.loop-one.invariant.3 ∙ ap done_in (take_all c.loop-one.one-index c.args.worked.now (omega arith))

pub returns-in_err-place_all-clause-double : goal.returns-in_err-place_all-clause-double
returns-in_err-place_all-clause-double c =
    let w = c.one-item.result in
    let worked = c.args.worked.now in
    let index = c.loop-one.one-index in
    let jobs = c.args.jobs.now in
    let before = places (take index worked) in
    let more = worked_split worked index w c.loop-one-test.true (search rules) in
    let err = c.in_err-place_all.ensures.double before c.loop-one.invariant.5 in
    passed_on _ _ _ c.from_residual.ensures.1
    (err.0, err.1, subst (λ (ps : List ℕ). IsDouble jobs ps err.0) (ap (λ (ds : List JobDone). (before ++ places_by ds) ++ more.0) c.deref.ensures.value ∙ sym more.1) (double_further jobs _ more.0 err.0 err.2))
