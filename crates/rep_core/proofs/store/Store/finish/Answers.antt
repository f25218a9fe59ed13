use Rattle.rep_core.proofs.Vocabulary.{◌≡◌, true, false, arith, Store, copies_in, forms_in, intentions_in, store_of, finished}
use Rattle.rep_core.proofs.Planned.{rising_in}
use Rattle.rep_core.proofs.Soundness.{sound_once_answered, sound_once_dropped}
use Rattle.rep_core.proofs.store.Store.finish.Goals as goal

pub invariant_of-self : goal.invariant_of-self
invariant_of-self c =
    let old : Store = store_of c.self.inside in
    let new : Store = record { c0 = old.c0; copies = copies_in c.install.new.copies.pairs; forms = forms_in c.install.new.copies.pairs; intentions = intentions_in c.install.new.intentions.pairs } in
    let is : new ≡ finished c.args.t true old = λ i. record { c0 = old.c0; copies = c.install.ensures.copies old.c0 i; forms = c.install.ensures.forms i; intentions = c.install.ensures.others i } in
    (c.self.invariant.0, c.install.ensures.room, sound_once_answered old new c.args.t c.self.invariant.2 is (rising_in c.install.new.intentions.pairs c.install.ensures.rising), c.install.ensures.leaves)

pub invariant_of-self-else-answered : goal.invariant_of-self-else-answered
invariant_of-self-else-answered c =
    let old : Store = store_of c.self.inside in
    let new : Store = record { c0 = old.c0; copies = old.copies; forms = old.forms; intentions = intentions_in c.forget.new.intentions.pairs } in
    let is : new ≡ finished c.args.t false old = λ i. record { c0 = old.c0; copies = old.copies; forms = old.forms; intentions = c.forget.ensures.others i } in (
      c.self.invariant.0,
      omega (arith, c.forget.ensures.fewer, c.self.invariant.1),
      sound_once_dropped old new c.args.t c.self.invariant.2 is (rising_in c.forget.new.intentions.pairs c.forget.ensures.rising),
      λ c0 suite planned has. c.self.invariant.3 c0 suite planned (c.forget.ensures.kept suite planned has),
    )
