use Rattle.suite_content.proofs.Vocabulary.{◌≡◌, ap, sym, ◌∙◌, list_all, take_all, is_name_byte}
use Rattle.std.proofs.lemmas.List.Sums.{AllPass-from_list_all, list_all-from_AllPass}
use Rattle.suite_content.proofs.name.are_portable.Goals as goal

pub returns : goal.returns
returns c =
    let bytes = c.args.bytes.now in
    let all : c.loop-byte.all ≡ list_all is_name_byte bytes = c.loop-byte.invariant ∙ ap (list_all is_name_byte) (take_all c.loop-byte.byte-index bytes c.loop-byte-test.false) in
    (λ passes. AllPass-from_list_all is_name_byte bytes (sym all ∙ passes), λ each. all ∙ list_all-from_AllPass is_name_byte bytes each)
