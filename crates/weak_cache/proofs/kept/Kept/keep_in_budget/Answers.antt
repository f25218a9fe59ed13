use Rattle.weak_cache.proofs.Vocabulary.{◌≡◌, ◌<◌, ◌⊎◌, inl, inr, [], ◌∷◌, length, sym, ap, ◌∙◌, subst, refl, arith, IsSome, sum_of, values}
use Rattle.weak_cache.proofs.Keeping.{budget_fits, budget_step}
use Rattle.weak_cache.proofs.Oldest.{oldest_of_all}
use Rattle.weak_cache.proofs.Shelving.{none_oldest, values_append}
use Rattle.weak_cache.proofs.kept.Kept.keep_in_budget.Goals as goal

pub let_go-requires-clause-there : goal.let_go-requires-clause-there
let_go-requires-clause-there c =
    let o = oldest_of_all c.in-Some.oldest c.loop-self.self.shelf.entries c.is_valid.ensures.once (sym c.in-Some.ensures) in
    subst IsSome (sym o.there) refl

pub loop-self-smaller : goal.loop-self-smaller
loop-self-smaller c =
    let o = oldest_of_all c.in-Some.oldest c.loop-self.self.shelf.entries c.is_valid.ensures.once (sym c.in-Some.ensures) in
    omega (arith, o.fewer, ap length c.let_go.ensures.gone)

pub loop-self-preserved : goal.loop-self-preserved
loop-self-preserved c =
    let all = c.loop-self.self.shelf.entries in
    let counted = c.loop-self.invariant.kept.counted in
    let o = oldest_of_all c.in-Some.oldest all c.is_valid.ensures.once (sym c.in-Some.ensures) in
    let above : (c.args.room < sum_of (values all)) ⊎ (c.args.slots < length (values all)) =
    elim (c.is_too_much.ensures.above c.loop-self-test.true) [ inl sum ↦ inl (omega (arith, sum, counted.sum)) | inr count ↦ inr (omega (arith, count, counted.count)) ] in
    record {
      kept = c.let_go.ensures.kept;
      same = budget_step c.args.room c.args.slots (values all) (values c.let_go.new.self.shelf.entries) (values o.newer) o.last.value (ap values o.parts ∙ values_append o.newer (o.last ∷ []))
          (ap values (c.let_go.ensures.gone ∙ o.left) ∙ values_append o.newer []) above ∙ c.loop-self.invariant.same;
    }

pub returns-in_default-clause-entries : goal.returns-in_default-clause-entries
returns-in_default-clause-entries c =
    let all = c.loop-self.self.shelf.entries in
    let none : all ≡ [] = none_oldest all (sym c.in_default.ensures) in
    sym (budget_fits c.args.room c.args.slots (values all) (omega (arith, ap (λ l. sum_of (values l)) none)) (omega (arith, ap (λ l. length (values l)) none))) ∙ c.loop-self.invariant.same

pub returns-clause-entries : goal.returns-clause-entries
returns-clause-entries c =
    let all = c.loop-self.self.shelf.entries in
    let counted = c.loop-self.invariant.kept.counted in
    let fits = c.is_too_much.ensures.within c.loop-self-test.false in
    sym (budget_fits c.args.room c.args.slots (values all) (omega (arith, fits.0, counted.sum)) (omega (arith, fits.1, counted.count))) ∙ c.loop-self.invariant.same
