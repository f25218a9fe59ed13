use Rattle.rep_core.proofs.Vocabulary.{rules, ◌≡◌, [], subst, sym, empty_content, Content, IsCopy, held_by, Prefix, Replica}
use Rattle.rep_core.proofs.store.first_copy.Goals as goal

pub new-requires : goal.new-requires
new-requires c =
    let same : c.in_ok-prefix.prefix ≡ c.args.prefix.now = search rules in
    let empty : c.empty-content.result ≡ empty_content (held_by c.args.prefix.now.kind) = search (rules, same) in
    let copy : Prefix → Content → Replica = λ prefix content. record { prefix = prefix; dver = 0; content = content } in
    subst (λ content. IsCopy (copy c.in_ok-prefix.prefix content)) (sym empty) (subst (λ prefix. IsCopy (copy prefix (empty_content (held_by c.args.prefix.now.kind)))) (sym same) (c.requires (record { reps = []; r = 0; w = 0 })))
