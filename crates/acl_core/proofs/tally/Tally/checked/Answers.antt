use Rattle.acl_core.proofs.Vocabulary.{◌≡◌, ◌≤◌, true, false, None, Some, length, ap, sym, ◌∙◌, arith, find, ne_eqb, lt-ltb, le-ltb, NoUserObj, NoGroupObj, NoOther, TwiceSingle, UserTwice, GroupTwice, MaskMissing, TooMany, faults}
use Rattle.acl_core.proofs.Vocabulary.{max_entries, is_doubled}
use Rattle.acl_core.specs.code.TallyFields.{tallied}
use Rattle.acl_core.proofs.Tallying.{first_of_eight, first_told, kept_accepted, told_fault}
use Rattle.acl_core.proofs.tally.Tally.checked.Goals as goal

pub returns-then-has_twice-clause-fault : goal.returns-then-has_twice-clause-fault
returns-then-has_twice-clause-fault c =
    let tally = c.args.self in
    let seen = c.self.view_is in
    let user_obj : told_fault tally NoUserObj ≡ false = ne_eqb tally.user_objs 0 (λ e. c.if-self-eq0.false (ap (λ t. t.user_objs) seen ∙ e)) in
    let group_obj : told_fault tally NoGroupObj ≡ false = ne_eqb tally.group_objs 0 (λ e. c.if-self-eq0-2.false (ap (λ t. t.group_objs) seen ∙ e)) in
    let other : told_fault tally NoOther ≡ false = ne_eqb tally.others 0 (λ e. c.if-self-eq0-3.false (ap (λ t. t.others) seen ∙ e)) in
    let single : told_fault tally TwiceSingle ≡ true = sym c.has_single_twice-has_twice.ensures ∙ c.if-has_twice.true in
    let told : find (told_fault tally) faults ≡ Some TwiceSingle = λ i. first_of_eight (user_obj i) (group_obj i) (other i) (single i) (told_fault tally UserTwice)
    (told_fault tally GroupTwice) (told_fault tally MaskMissing) (told_fault tally TooMany) in
    λ entries is. sym (first_told tally entries is) ∙ told

pub returns-then-has_doubled-clause-fault : goal.returns-then-has_doubled-clause-fault
returns-then-has_doubled-clause-fault c =
    let tally = c.args.self in
    let seen = c.self.view_is in
    let user_obj : told_fault tally NoUserObj ≡ false = ne_eqb tally.user_objs 0 (λ e. c.if-self-eq0.false (ap (λ t. t.user_objs) seen ∙ e)) in
    let group_obj : told_fault tally NoGroupObj ≡ false = ne_eqb tally.group_objs 0 (λ e. c.if-self-eq0-2.false (ap (λ t. t.group_objs) seen ∙ e)) in
    let other : told_fault tally NoOther ≡ false = ne_eqb tally.others 0 (λ e. c.if-self-eq0-3.false (ap (λ t. t.others) seen ∙ e)) in
    let single : told_fault tally TwiceSingle ≡ false = sym c.has_single_twice-has_twice.ensures ∙ c.if-has_twice.false in
    let users : told_fault tally UserTwice ≡ true = sym (c.has_doubled.ensures ∙ ap is_doubled (c.deref_mut.ensures.value ∙ ap (λ t. t.users) seen)) ∙ c.if-has_doubled.true in
    let told : find (told_fault tally) faults ≡ Some UserTwice = λ i. first_of_eight (user_obj i) (group_obj i) (other i) (single i) (users i) (told_fault tally GroupTwice) (told_fault tally MaskMissing) (told_fault tally TooMany) in
    λ entries is. sym (first_told tally entries is) ∙ told

pub returns-then-has_doubled-2-clause-fault : goal.returns-then-has_doubled-2-clause-fault
returns-then-has_doubled-2-clause-fault c =
    let tally = c.args.self in
    let seen = c.self.view_is in
    let user_obj : told_fault tally NoUserObj ≡ false = ne_eqb tally.user_objs 0 (λ e. c.if-self-eq0.false (ap (λ t. t.user_objs) seen ∙ e)) in
    let group_obj : told_fault tally NoGroupObj ≡ false = ne_eqb tally.group_objs 0 (λ e. c.if-self-eq0-2.false (ap (λ t. t.group_objs) seen ∙ e)) in
    let other : told_fault tally NoOther ≡ false = ne_eqb tally.others 0 (λ e. c.if-self-eq0-3.false (ap (λ t. t.others) seen ∙ e)) in
    let single : told_fault tally TwiceSingle ≡ false = sym c.has_single_twice-has_twice.ensures ∙ c.if-has_twice.false in
    let users : told_fault tally UserTwice ≡ false = sym (c.has_doubled.ensures ∙ ap is_doubled (c.deref_mut.ensures.value ∙ ap (λ t. t.users) seen)) ∙ c.if-has_doubled.false in
    let groups : told_fault tally GroupTwice ≡ true = sym (c.has_doubled-else-has_doubled.ensures ∙ ap is_doubled (c.deref_mut-else-has_doubled.ensures.value ∙ ap (λ t. t.groups) seen)) ∙ c.if-has_doubled-2.true in
    let told : find (told_fault tally) faults ≡ Some GroupTwice = λ i. first_of_eight (user_obj i) (group_obj i) (other i) (single i) (users i) (groups i) (told_fault tally MaskMissing) (told_fault tally TooMany) in
    λ entries is. sym (first_told tally entries is) ∙ told

pub returns-then-lacks_mask-clause-fault : goal.returns-then-lacks_mask-clause-fault
returns-then-lacks_mask-clause-fault c =
    let tally = c.args.self in
    let seen = c.self.view_is in
    let user_obj : told_fault tally NoUserObj ≡ false = ne_eqb tally.user_objs 0 (λ e. c.if-self-eq0.false (ap (λ t. t.user_objs) seen ∙ e)) in
    let group_obj : told_fault tally NoGroupObj ≡ false = ne_eqb tally.group_objs 0 (λ e. c.if-self-eq0-2.false (ap (λ t. t.group_objs) seen ∙ e)) in
    let other : told_fault tally NoOther ≡ false = ne_eqb tally.others 0 (λ e. c.if-self-eq0-3.false (ap (λ t. t.others) seen ∙ e)) in
    let single : told_fault tally TwiceSingle ≡ false = sym c.has_single_twice-has_twice.ensures ∙ c.if-has_twice.false in
    let users : told_fault tally UserTwice ≡ false = sym (c.has_doubled.ensures ∙ ap is_doubled (c.deref_mut.ensures.value ∙ ap (λ t. t.users) seen)) ∙ c.if-has_doubled.false in
    let groups : told_fault tally GroupTwice ≡ false = sym (c.has_doubled-else-has_doubled.ensures ∙ ap is_doubled (c.deref_mut-else-has_doubled.ensures.value ∙ ap (λ t. t.groups) seen)) ∙ c.if-has_doubled-2.false in
    let mask : told_fault tally MaskMissing ≡ true = sym c.lacks_mask-lacks_mask.ensures ∙ c.if-lacks_mask.true in
    let told : find (told_fault tally) faults ≡ Some MaskMissing = λ i. first_of_eight (user_obj i) (group_obj i) (other i) (single i) (users i) (groups i) (mask i) (told_fault tally TooMany) in
    λ entries is. sym (first_told tally entries is) ∙ told

pub returns-then-len-gt-MAX_ENTRIES-clause-fault : goal.returns-then-len-gt-MAX_ENTRIES-clause-fault
returns-then-len-gt-MAX_ENTRIES-clause-fault c =
    let tally = c.args.self in
    let seen = c.self.view_is in
    let user_obj : told_fault tally NoUserObj ≡ false = ne_eqb tally.user_objs 0 (λ e. c.if-self-eq0.false (ap (λ t. t.user_objs) seen ∙ e)) in
    let group_obj : told_fault tally NoGroupObj ≡ false = ne_eqb tally.group_objs 0 (λ e. c.if-self-eq0-2.false (ap (λ t. t.group_objs) seen ∙ e)) in
    let other : told_fault tally NoOther ≡ false = ne_eqb tally.others 0 (λ e. c.if-self-eq0-3.false (ap (λ t. t.others) seen ∙ e)) in
    let single : told_fault tally TwiceSingle ≡ false = sym c.has_single_twice-has_twice.ensures ∙ c.if-has_twice.false in
    let users : told_fault tally UserTwice ≡ false = sym (c.has_doubled.ensures ∙ ap is_doubled (c.deref_mut.ensures.value ∙ ap (λ t. t.users) seen)) ∙ c.if-has_doubled.false in
    let groups : told_fault tally GroupTwice ≡ false = sym (c.has_doubled-else-has_doubled.ensures ∙ ap is_doubled (c.deref_mut-else-has_doubled.ensures.value ∙ ap (λ t. t.groups) seen)) ∙ c.if-has_doubled-2.false in
    let mask : told_fault tally MaskMissing ≡ false = sym c.lacks_mask-lacks_mask.ensures ∙ c.if-lacks_mask.false in
    let many : told_fault tally TooMany ≡ true = lt-ltb max_entries (length tally.kept) (omega (arith, ap (λ t. length t.kept) seen, c.self.inside.kept.ok.0)) in
    let told : find (told_fault tally) faults ≡ Some TooMany = λ i. first_of_eight (user_obj i) (group_obj i) (other i) (single i) (users i) (groups i) (mask i) (many i) in
    λ entries is. sym (first_told tally entries is) ∙ told

pub returns-else-len-gt-MAX_ENTRIES-clause-fault : goal.returns-else-len-gt-MAX_ENTRIES-clause-fault
returns-else-len-gt-MAX_ENTRIES-clause-fault c =
    let tally = c.args.self in
    let seen = c.self.view_is in
    let user_obj : told_fault tally NoUserObj ≡ false = ne_eqb tally.user_objs 0 (λ e. c.if-self-eq0.false (ap (λ t. t.user_objs) seen ∙ e)) in
    let group_obj : told_fault tally NoGroupObj ≡ false = ne_eqb tally.group_objs 0 (λ e. c.if-self-eq0-2.false (ap (λ t. t.group_objs) seen ∙ e)) in
    let other : told_fault tally NoOther ≡ false = ne_eqb tally.others 0 (λ e. c.if-self-eq0-3.false (ap (λ t. t.others) seen ∙ e)) in
    let single : told_fault tally TwiceSingle ≡ false = sym c.has_single_twice-has_twice.ensures ∙ c.if-has_twice.false in
    let users : told_fault tally UserTwice ≡ false = sym (c.has_doubled.ensures ∙ ap is_doubled (c.deref_mut.ensures.value ∙ ap (λ t. t.users) seen)) ∙ c.if-has_doubled.false in
    let groups : told_fault tally GroupTwice ≡ false = sym (c.has_doubled-else-has_doubled.ensures ∙ ap is_doubled (c.deref_mut-else-has_doubled.ensures.value ∙ ap (λ t. t.groups) seen)) ∙ c.if-has_doubled-2.false in
    let mask : told_fault tally MaskMissing ≡ false = sym c.lacks_mask-lacks_mask.ensures ∙ c.if-lacks_mask.false in
    let few : length tally.kept ≤ max_entries = omega (arith, ap (λ t. length t.kept) seen, c.self.inside.kept.ok.0) in
    let many : told_fault tally TooMany ≡ false = le-ltb max_entries (length tally.kept) few in
    let told : find (told_fault tally) faults ≡ None = λ i. first_of_eight (user_obj i) (group_obj i) (other i) (single i) (users i) (groups i) (mask i) (many i) in
    λ entries is. sym (first_told tally entries is) ∙ told

pub returns-else-len-gt-MAX_ENTRIES-clause-accepted : goal.returns-else-len-gt-MAX_ENTRIES-clause-accepted
returns-else-len-gt-MAX_ENTRIES-clause-accepted c =
    let tally = c.args.self in
    let seen = c.self.view_is in
    let user_obj : told_fault tally NoUserObj ≡ false = ne_eqb tally.user_objs 0 (λ e. c.if-self-eq0.false (ap (λ t. t.user_objs) seen ∙ e)) in
    let group_obj : told_fault tally NoGroupObj ≡ false = ne_eqb tally.group_objs 0 (λ e. c.if-self-eq0-2.false (ap (λ t. t.group_objs) seen ∙ e)) in
    let other : told_fault tally NoOther ≡ false = ne_eqb tally.others 0 (λ e. c.if-self-eq0-3.false (ap (λ t. t.others) seen ∙ e)) in
    let single : told_fault tally TwiceSingle ≡ false = sym c.has_single_twice-has_twice.ensures ∙ c.if-has_twice.false in
    let users : told_fault tally UserTwice ≡ false = sym (c.has_doubled.ensures ∙ ap is_doubled (c.deref_mut.ensures.value ∙ ap (λ t. t.users) seen)) ∙ c.if-has_doubled.false in
    let groups : told_fault tally GroupTwice ≡ false = sym (c.has_doubled-else-has_doubled.ensures ∙ ap is_doubled (c.deref_mut-else-has_doubled.ensures.value ∙ ap (λ t. t.groups) seen)) ∙ c.if-has_doubled-2.false in
    let mask : told_fault tally MaskMissing ≡ false = sym c.lacks_mask-lacks_mask.ensures ∙ c.if-lacks_mask.false in
    let few : length tally.kept ≤ max_entries = omega (arith, ap (λ t. length t.kept) seen, c.self.inside.kept.ok.0) in
    let many : told_fault tally TooMany ≡ false = le-ltb max_entries (length tally.kept) few in
    let told : find (told_fault tally) faults ≡ None = λ i. first_of_eight (user_obj i) (group_obj i) (other i) (single i) (users i) (groups i) (mask i) (many i) in
    kept_accepted (tallied c.self.inside) c.self.invariant (omega (arith, ap (λ t. length t.kept) seen, few)) (ap (λ t. find (told_fault t) faults) seen ∙ told)
