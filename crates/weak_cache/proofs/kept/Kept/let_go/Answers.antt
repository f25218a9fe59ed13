-- An entry goes from the shelf, from the index and from the counts.
use Rattle.weak_cache.proofs.Vocabulary.{◌∙◌, sym, ap, subst, refl, arith, Entry, size_of, IsTally, same_key, values, get_by, None, cond}
use Rattle.weak_cache.proofs.Oldest.{site_below}
use Rattle.weak_cache.proofs.Shelving.{cut_of, values_cut, kept_less}
use Rattle.weak_cache.proofs.kept.Kept.let_go.Goals as goal

pub sub-requires-clause-site : goal.sub-requires-clause-site
sub-requires-clause-site c =
    let all = c.args.self.now.shelf.entries in
    let d = cut_of c.args.slot all c.in-Some.entry c.is_valid.ensures.once (sym c.in-Some.ensures.value) in
    omega (arith, site_below d.newer d.s d.older all d.cut.parts c.requires.kept.sited c.is_valid.ensures.sites, ap (λ (e : Entry). e.site) d.value, c.site.ensures)

pub sub-requires-clause-counted : goal.sub-requires-clause-counted
sub-requires-clause-counted c =
    let all = c.args.self.now.shelf.entries in
    let d = cut_of c.args.slot all c.in-Some.entry c.is_valid.ensures.once (sym c.in-Some.ensures.value) in
    record {
      newer = values d.newer;
      entry = d.s.value;
      older = values d.older;
      counted = subst (IsTally c.args.self.now.tally) (values_cut c.args.slot all c.in-Some.entry d) c.requires.kept.counted;
      is = record { own_site = ap (λ (e : Entry). e.site) d.value ∙ sym c.site.ensures; own_size = ap (λ (e : Entry). size_of e.content) d.value ∙ sym c.size.ensures };
    }

pub returns-clause-kept : goal.returns-clause-kept
returns-clause-kept c =
    let k = c.args.self.now in
    let e = c.in-Some.entry in
    let d = cut_of c.args.slot k.shelf.entries e c.is_valid.ensures.once (sym c.in-Some.ensures.value) in
    kept_less k (record { alloc = k.alloc; shelf = c.take.new.self; slots = k.slots; index = c.swap_remove.new.self; tally = c.sub.new.self }) c.requires.kept refl c.args.slot e d c.in-Some.ensures.entries
    (λ q. c.swap_remove.ensures.updates.0 q ∙ ap (λ key. cond (same_key key q) None (get_by (same_key q) k.index)) c.key.ensures)
    (λ newer x older counted same. c.sub.ensures newer x older counted (record { own_site = ap (λ (e : Entry). e.site) same ∙ sym c.site.ensures; own_size = ap (λ (e : Entry). size_of e.content) same ∙ sym c.size.ensures }))
