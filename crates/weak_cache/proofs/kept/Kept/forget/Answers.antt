use Rattle.weak_cache.proofs.Vocabulary.{length, sym, ap, ◌∙◌, subst, refl, arith, IsSome, values}
use Rattle.weak_cache.proofs.Keeping.{forgotten_none, forgotten_step}
use Rattle.weak_cache.proofs.Oldest.{oldest_at, none_at, none_beyond}
use Rattle.weak_cache.proofs.kept.Kept.forget.Goals as goal

pub returns-then-site-ge-MAX_SITES-clause-entries : goal.returns-then-site-ge-MAX_SITES-clause-entries
returns-then-site-ge-MAX_SITES-clause-entries c =
    let all = c.args.self.now.shelf.entries in
    sym (forgotten_none c.args.site (values all) (none_beyond c.args.site all c.requires.sited c.is_valid.ensures.sites (omega (arith, c.if-site-ge-MAX_SITES.true))))

pub let_go-requires-clause-there : goal.let_go-requires-clause-there
let_go-requires-clause-there c =
    let o = oldest_at c.args.site c.in-Some.oldest c.loop-oldest.self.shelf.entries c.is_valid-in-Some.ensures.once c.loop-oldest.invariant.kept.sited (sym c.in-Some.ensures) in
    subst IsSome (sym o.there) refl

pub loop-oldest-smaller : goal.loop-oldest-smaller
loop-oldest-smaller c =
    let o = oldest_at c.args.site c.in-Some.oldest c.loop-oldest.self.shelf.entries c.is_valid-in-Some.ensures.once c.loop-oldest.invariant.kept.sited (sym c.in-Some.ensures) in
    omega (arith, o.fewer, ap length c.let_go.ensures.gone)

pub loop-oldest-preserved : goal.loop-oldest-preserved
loop-oldest-preserved c =
    let all = c.loop-oldest.self.shelf.entries in
    let o = oldest_at c.args.site c.in-Some.oldest all c.is_valid-in-Some.ensures.once c.loop-oldest.invariant.kept.sited (sym c.in-Some.ensures) in
    record {
      kept = c.let_go.ensures.kept;
      same = forgotten_step c.args.site (values all) (values c.let_go.new.self.shelf.entries) o.newer o.entry o.older o.ends (ap values c.let_go.ensures.gone ∙ o.left) ∙ c.loop-oldest.invariant.same;
    }

pub returns-clause-entries : goal.returns-clause-entries
returns-clause-entries c =
    let all = c.loop-oldest.self.shelf.entries in
    sym (forgotten_none c.args.site (values all) (none_at c.args.site all c.loop-oldest.invariant.kept.sited (sym c.in_default.ensures))) ∙ c.loop-oldest.invariant.same
