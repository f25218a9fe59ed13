use Rattle.acl_text.proofs.write.append_short.Goals as goal

pub returns-clause-spells : goal.returns-clause-spells
returns-clause-spells c = λ names. c.short_text_spells_its_lists.ensures c.args.lists.now names c.all_numbers_fit.ensures
