use Rattle.acl_text.proofs.Vocabulary.{◌≡◌, ◌∙◌, false, Result, Ok, Err, ap, sym, rules, IsOkAnd, MatchResult, result_map_both, entry_of, digit_of, Entry, Tag, ItemFault, are_permissions, entry_reading, IsReadOf}
use Rattle.std.proofs.lemmas.Option.{MatchOption-at_some}
use Rattle.acl_text.proofs.Granting.{entry_by}
use Rattle.acl_text.proofs.item.read_entry.Goals as goal

-- what a closure makes of a tag
mapped : {P : Tag → Entry → Type 0} (found : Result Tag ItemFault) (made : Result Entry ItemFault) (entry : Tag → Entry)
    → MatchResult found (λ tag. IsOkAnd made (P tag)) (λ fault. made ≡ Err fault) → ((tag : Tag) (e : Entry) → P tag e → e ≡ entry tag)
    → made ≡ result_map_both entry (λ fault. fault) found
mapped (Ok tag) (Ok e) entry cases is = ap Ok (is tag e cases)
mapped (Ok tag) (Err fault) entry cases is = absurd cases
mapped (Err fault) made entry cases is = cases

pub returns : goal.returns
returns c =
    let letters = c.in-Some-Some.letters in
    let field = c.args.field.now in
    let is : IsReadOf letters field = MatchOption-at_some (are_permissions field ≡ false) (λ found. IsReadOf found field) letters c.in-Some-Some.is-1 c.permissions.ensures in
    let entry = λ (tag : Tag). entry_of tag (digit_of letters.reads letters.writes letters.executes) in
    mapped c.tag.result c.map.result entry c.map.ensures.cases (λ tag e post. search rules)
    ∙ ap (result_map_both entry (λ fault. fault)) c.tag.ensures
    ∙ sym (ap (λ keyword. entry_reading c.args.names.now keyword c.args.qualifier.now field) c.in-Some-Some.is-0
    ∙ entry_by c.args.names.now c.in-Some-Some.keyword c.args.qualifier.now field letters is)
