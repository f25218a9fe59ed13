use Rattle.rep_core.proofs.Vocabulary.{rules, ◌≡◌, ℕ, List, true, false, length, ap, subst, sym, ◌∙◌, arith, list_all, Intention, Storing, Leaves, intentions_in, planned_of, with_all, Store, intended, is_keep, is_sound_part, overfills}
use Rattle.rep_core.proofs.Vocabulary.{with_intentions, store_of}
use Rattle.rep_core.proofs.Intentions.{nothing_taken}
use Rattle.rep_core.proofs.Planned.{few_planned, leaves_planned, planned_kept, rising_in}
use Rattle.rep_core.proofs.Soundness.{sound_once_intended}
use Rattle.rep_core.proofs.store.Store.intend.Goals as goal

pub keep_all-requires : goal.keep_all-requires
keep_all-requires c =
    let parts = c.args.parts.now in
    let old : Store = store_of c.self.inside in
    let room = ap (λ (shown : Storing). shown.room) c.self.view_is in
    let store_is = ap (λ (shown : Storing). shown.store) c.self.view_is in
    let made : c.args.planned.items ≡ planned_of old.c0 old.copies c.args.t parts = c.requires.made ∙ ap (λ (store : Store). planned_of store.c0 store.copies c.args.t parts) (sym store_is) in
    let few = few_planned old.c0 old.copies c.args.t parts in
    omega (arith, room, c.requires.room, ap length made, few)

pub invariant_of-self : goal.invariant_of-self
invariant_of-self c =
    let parts = c.args.parts.now in
    let old : Store = store_of c.self.inside in
    let kept = c.self.inside.intentions.pairs in
    let new : Store = record { c0 = old.c0; copies = old.copies; forms = old.forms; intentions = intentions_in c.keep_all.new.intentions.pairs } in
    let store_is = ap (λ (shown : Storing). shown.store) c.self.view_is in
    let made : c.args.planned.items ≡ planned_of old.c0 old.copies c.args.t parts = c.requires.made ∙ ap (λ (store : Store). planned_of store.c0 store.copies c.args.t parts) (sym store_is) in
    let put : c.keep_all.new.intentions.pairs ≡ with_all (planned_of old.c0 old.copies c.args.t parts) kept = c.keep_all.ensures.pairs ∙ ap (λ l. with_all l kept) made in
    let seen : intentions_in c.keep_all.new.intentions.pairs ≡ with_intentions c.args.t parts old.intentions = ap intentions_in put ∙ planned_kept old.c0 old.copies c.args.t parts kept in
    let is : new ≡ intended c.args.t parts old = λ i. record { c0 = old.c0; copies = old.copies; forms = old.forms; intentions = seen i } in
    let are : list_all (is_sound_part old) parts ≡ true = subst (λ (store : Store). list_all (is_sound_part store) parts ≡ true) (sym store_is) c.requires.sound in
    let few : overfills c.args.t old parts ≡ false = subst (λ (store : Store). overfills c.args.t store parts ≡ false) (sym store_is) c.requires.few in
    let room = ap (λ (shown : Storing). shown.room) c.self.view_is in
    let fewer = few_planned old.c0 old.copies c.args.t parts in (
      c.self.invariant.0,
      omega (arith, c.keep_all.ensures.few, c.self.invariant.1, room, c.requires.room, ap length made, fewer),
      sound_once_intended old new c.args.t parts c.self.invariant.2 are few is (rising_in c.keep_all.new.intentions.pairs c.keep_all.ensures.rising),
      subst (Leaves old.copies) (sym put) (leaves_planned old.c0 old.copies c.args.t parts kept c.self.invariant.3),
    )

pub returns-then-take_nothing : goal.returns-then-take_nothing
returns-then-take_nothing c =
    let parts = c.args.parts.now in
    let store : Store = c.args.self.now.store in
    let keeps : list_all (λ part. is_keep part.take) parts ≡ true = search rules in
    ap (λ intentions. record store { intentions = intentions }) (sym (nothing_taken c.args.t parts store.intentions keeps))

pub returns : goal.returns
returns c =
    let parts = c.args.parts.now in
    let old : Store = store_of c.self.inside in
    let kept = c.self.inside.intentions.pairs in
    let store_is = ap (λ (shown : Storing). shown.store) c.self.view_is in
    let made : c.args.planned.items ≡ planned_of old.c0 old.copies c.args.t parts = c.requires.made ∙ ap (λ (store : Store). planned_of store.c0 store.copies c.args.t parts) (sym store_is) in
    let put : c.keep_all.new.intentions.pairs ≡ with_all (planned_of old.c0 old.copies c.args.t parts) kept = c.keep_all.ensures.pairs ∙ ap (λ l. with_all l kept) made in
    let seen : intentions_in c.keep_all.new.intentions.pairs ≡ with_intentions c.args.t parts old.intentions = ap intentions_in put ∙ planned_kept old.c0 old.copies c.args.t parts kept in
    let with_these : List (ℕ × Intention) → Store = λ intentions. record { c0 = old.c0; copies = old.copies; forms = old.forms; intentions = intentions } in
    ap with_these seen ∙ ap (intended c.args.t parts) store_is
