use Rattle.rep_core.proofs.Vocabulary.{rules, ◌≡◌, ℕ, ◌<◌, ◌≤◌, true, false, drop, get_or, length, [], not, Some, refl, ap, sym, subst, ◌∙◌, arith, list_all, IfSome, nat_cmp, get, insert, remove, Configuration, Intention, Planned, copy_in}
use Rattle.rep_core.proofs.Vocabulary.{left_by, with_taken, with_form, with_forms, Leaves, copies_in, forms_in, intention_in, intentions_in, take_in}
use Rattle.rep_core.proofs.Intentions.{is_of}
use Rattle.rep_core.proofs.Installing.{has_at, length-taken, passed-taken, others-taken, with_copies-taken, with_copies-other, with_forms-taken, with_forms-other, passed-other, all_passed}
use Rattle.rep_core.proofs.Planned.{at_in, becomes, leaves_taken, length_in, remove_in, rising_in}
use Rattle.rep_core.proofs.Kept.{insert_copies, insert_forms, form_becomes}
use Rattle.rep_core.proofs.maps.install.Goals as goal

nowhere : Configuration
nowhere = record { reps = []; r = 0; w = 0 }

pub loop-place-init : goal.loop-place-init
loop-place-init c = record { copies = λ c0. refl; forms = refl; others = refl; passed = refl; leaves = c.requires.leaves; within = omega arith; room = c.requires.room }

pub loop-place-preserved-then-pair-t : goal.loop-place-preserved-then-pair-t
loop-place-preserved-then-pair-t c =
    let t = c.args.t in
    let i = c.loop-place.place in
    let kept = c.loop-place.intentions.pairs in
    let pairs = intentions_in kept in
    let planned : ℕ × Planned = c.index-as_slice-place.result in
    let pair : ℕ × Intention = (planned.0, intention_in planned.1) in
    let left = c.install_at.new.intentions.pairs in
    let after = intentions_in left in
    let within : i < length kept = search rules in
    let in_range : i < length pairs = omega (arith, within, length_in kept) in
    let there : planned ≡ get_or kept i planned = search rules in
    let is : pair ≡ get_or pairs i pair = at_in kept i planned within there in
    let mine : is_of t pair ≡ true = search rules in
    let removed : left ≡ remove nat_cmp kept planned.0 = search rules in
    let gone : after ≡ remove nat_cmp pairs pair.0 = ap intentions_in removed ∙ sym (remove_in kept planned.0) in
    let ordered = c.len.ensures.ordered in
    let rising = rising_in kept ordered in
    let before = c.loop-place.invariant in
    let has : get nat_cmp kept planned.0 ≡ Some planned.1 = has_at kept i planned ordered within there in
    let put : c.install_at.new.copies.pairs ≡ insert nat_cmp c.loop-place.copies.pairs planned.0 planned.1.left =
    subst (λ o. IfSome o (λ (x : Planned). c.install_at.new.copies.pairs ≡ insert nat_cmp c.loop-place.copies.pairs planned.0 x.left)) has c.install_at.ensures.copies in
    let copies = copies_in c.loop-place.copies.pairs in
    let put_copy : copies_in c.install_at.new.copies.pairs ≡ insert nat_cmp copies planned.0 planned.1.left.copy = ap copies_in put ∙ insert_copies c.loop-place.copies.pairs planned.0 planned.1.left in
    let put_form : forms_in c.install_at.new.copies.pairs ≡ with_form planned.0 pair.1.take (forms_in c.loop-place.copies.pairs) =
    ap forms_in put ∙ insert_forms c.loop-place.copies.pairs planned.0 planned.1.left
    ∙ form_becomes planned.0 planned.1 (left_by (take_in planned.1.whole planned.1.left.copy) (copy_in nowhere copies planned.0)) (forms_in c.loop-place.copies.pairs) (before.leaves nowhere planned.0 planned.1 has) in
    let taken : IfSome (get nat_cmp pairs pair.0) (λ intention. (c0 : Configuration) → copies_in c.install_at.new.copies.pairs ≡ with_taken c0 pair.0 intention.take copies) =
    subst (λ o. IfSome o (λ (intention : Intention). (c0 : Configuration) → copies_in c.install_at.new.copies.pairs ≡ with_taken c0 pair.0 intention.take copies)) (sym (has_at pairs i pair rising in_range is))
    (λ c0. put_copy ∙ becomes c0 planned.0 planned.1 copies (before.leaves c0 planned.0 planned.1 has)) in
    let shorter = length-taken t pairs i pair in_range is mine after rising gone in
    record {
      copies = λ c0. sym (with_copies-taken t pairs i pair in_range is mine after rising gone c0 copies (copies_in c.install_at.new.copies.pairs) taken) ∙ before.copies c0;
      forms = ap (with_forms t (drop i after)) put_form ∙ sym (with_forms-taken t pairs i pair in_range is mine after rising gone (forms_in c.loop-place.copies.pairs)) ∙ before.forms;
      others = others-taken t pairs i pair in_range is mine after rising gone ∙ before.others;
      passed = ap (list_all (λ p. not (is_of t p))) (passed-taken t pairs i pair in_range is mine after rising gone) ∙ before.passed;
      leaves = subst (λ copies. Leaves copies left) (sym put_copy) (subst (λ l. Leaves (insert nat_cmp copies planned.0 planned.1.left.copy) l) (sym removed) (leaves_taken copies kept planned.0 planned.1.left.copy ordered before.leaves));
      within = omega (arith, shorter, in_range, length_in kept, length_in left);
      room = omega (arith, shorter, before.room, c.install_at.ensures.room, length_in kept, length_in left);
    }

pub loop-place-smaller-then-pair-t : goal.loop-place-smaller-then-pair-t
loop-place-smaller-then-pair-t c =
    let kept = c.loop-place.intentions.pairs in
    let pairs = intentions_in kept in
    let planned : ℕ × Planned = c.index-as_slice-place.result in
    let pair : ℕ × Intention = (planned.0, intention_in planned.1) in
    let left = c.install_at.new.intentions.pairs in
    let within : c.loop-place.place < length kept = search rules in
    let in_range : c.loop-place.place < length pairs = omega (arith, within, length_in kept) in
    let there : planned ≡ get_or kept c.loop-place.place planned = search rules in
    let mine : is_of c.args.t pair ≡ true = search rules in
    let removed : left ≡ remove nat_cmp kept planned.0 = search rules in
    let gone : intentions_in left ≡ remove nat_cmp pairs pair.0 = ap intentions_in removed ∙ sym (remove_in kept planned.0) in
    let shorter = length-taken c.args.t pairs c.loop-place.place pair in_range (at_in kept c.loop-place.place planned within there) mine (intentions_in left) (rising_in kept c.len.ensures.ordered) gone in
    omega (arith, shorter, in_range, length_in kept, length_in left)

pub loop-place-preserved : goal.loop-place-preserved
loop-place-preserved c =
    let t = c.args.t in
    let i = c.loop-place.place in
    let kept = c.loop-place.intentions.pairs in
    let pairs = intentions_in kept in
    let planned : ℕ × Planned = c.index-as_slice-place.result in
    let pair : ℕ × Intention = (planned.0, intention_in planned.1) in
    let within : i < length kept = search rules in
    let in_range : i < length pairs = omega (arith, within, length_in kept) in
    let there : planned ≡ get_or kept i planned = search rules in
    let is : pair ≡ get_or pairs i pair = at_in kept i planned within there in
    let other : is_of t pair ≡ false = search rules in
    let before = c.loop-place.invariant in
    record {
      copies = λ c0. sym (with_copies-other t pairs i pair in_range is other c0 (copies_in c.loop-place.copies.pairs)) ∙ before.copies c0;
      forms = sym (with_forms-other t pairs i pair in_range is other (forms_in c.loop-place.copies.pairs)) ∙ before.forms;
      others = before.others;
      passed = passed-other t pairs i pair in_range is other before.passed;
      leaves = before.leaves;
      within = omega (arith, within);
      room = before.room;
    }

pub returns-clause-others : goal.returns-clause-others
returns-clause-others c =
    let kept = c.loop-place.intentions.pairs in
    let over : length (intentions_in kept) ≤ c.loop-place.place = omega (arith, c.loop-place-test.false, c.len.ensures.len, length_in kept) in
    sym (all_passed c.args.t (intentions_in kept) c.loop-place.place over c.loop-place.invariant.passed) ∙ c.loop-place.invariant.others
