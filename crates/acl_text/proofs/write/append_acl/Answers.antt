use Rattle.acl_text.proofs.write.append_acl.Goals as goal

pub returns-clause-spells : goal.returns-clause-spells
returns-clause-spells c = λ names. c.long_text_spells_its_lists.ensures c.args.lists.now names c.all_numbers_fit.ensures
