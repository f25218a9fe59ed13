use Rattle.weak_cache.proofs.Vocabulary.{◌<◌, length, sym, ap, ◌∙◌, subst, refl, arith, IsSome, list_of, sum_of, values}
use Rattle.weak_cache.proofs.Keeping.{quota_fits, quota_none, quota_step}
use Rattle.weak_cache.proofs.Oldest.{oldest_at, none_at}
use Rattle.weak_cache.proofs.kept.Kept.keep_in_quota.Goals as goal

pub let_go-requires-clause-there : goal.let_go-requires-clause-there
let_go-requires-clause-there c =
    let o = oldest_at c.args.site c.in-Some.oldest c.loop-self.self.shelf.entries c.is_valid.ensures.once c.loop-self.invariant.kept.sited (sym c.in-Some.ensures) in
    subst IsSome (sym o.there) refl

pub loop-self-smaller : goal.loop-self-smaller
loop-self-smaller c =
    let o = oldest_at c.args.site c.in-Some.oldest c.loop-self.self.shelf.entries c.is_valid.ensures.once c.loop-self.invariant.kept.sited (sym c.in-Some.ensures) in
    omega (arith, o.fewer, ap length c.let_go.ensures.gone)

pub loop-self-preserved : goal.loop-self-preserved
loop-self-preserved c =
    let all = c.loop-self.self.shelf.entries in
    let o = oldest_at c.args.site c.in-Some.oldest all c.is_valid.ensures.once c.loop-self.invariant.kept.sited (sym c.in-Some.ensures) in
    let above : c.args.room < sum_of (list_of c.args.site (values all)) = omega (arith, c.loop-self-test.true, c.sum_at.ensures (values all) c.loop-self.invariant.kept.counted) in
    record {
      kept = c.let_go.ensures.kept;
      same = quota_step c.args.site c.args.room (values all) (values c.let_go.new.self.shelf.entries) o.newer o.entry o.older o.ends (ap values c.let_go.ensures.gone ∙ o.left) above ∙ c.loop-self.invariant.same;
    }

pub returns-in_default-clause-entries : goal.returns-in_default-clause-entries
returns-in_default-clause-entries c =
    let all = c.loop-self.self.shelf.entries in
    sym (quota_none c.args.site c.args.room (values all) (none_at c.args.site all c.loop-self.invariant.kept.sited (sym c.in_default.ensures))) ∙ c.loop-self.invariant.same

pub returns-clause-entries : goal.returns-clause-entries
returns-clause-entries c =
    let all = c.loop-self.self.shelf.entries in
    sym (quota_fits c.args.site c.args.room (values all) (omega (arith, c.loop-self-test.false, c.sum_at.ensures (values all) c.loop-self.invariant.kept.counted))) ∙ c.loop-self.invariant.same
