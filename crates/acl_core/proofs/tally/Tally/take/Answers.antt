use Rattle.acl_core.proofs.Vocabulary.{◌≡◌, ◌+◌, ◌≤◌, true, false, cond, ltb, List, [], ◌∷◌, ◌++◌, length, vec_len, sym, ap, subst, ◌∙◌, arith, lt-ltb, le-ltb, nat_tests, Entry, max_entries, IsTallyOf, IsWhole, Tallied}
use Rattle.std.specs.Vec.{vec_capacity}
use Rattle.acl_core.specs.code.TallyFields.{tallied}
use Rattle.acl_core.proofs.Tallying.{counted_as, counted_kept, kept_with, tallied_with, tally_more, whole_more}
use Rattle.acl_core.proofs.tally.Tally.take.Goals as goal
use Rattle.acl_core.proofs.tally.Tally.take.Goals.{then-is_kept+in_ok-reserve, else-is_kept, in-UserObj, in-User+in_ok-push-in-User, in-GroupObj, in-Group+in_ok-push-in-Group, in-Mask, in-Other}

pub invariant_of-self-in-Continue-branch-4 : goal.invariant_of-self-in-Continue-branch-4
invariant_of-self-in-Continue-branch-4 c =
    let old = tallied c.self.inside in
    let e = c.args.entry in
    let reserved = tallied c.if-is_kept.self-inside in
    let room_kept : reserved ≡ old = elim c.if-is_kept.branch [
      | then-is_kept+in_ok-reserve w ↦ ap tallied w.self-inside-is ∙ ap (λ kept. record old { kept = kept }) w.reserve.ensures.items
      | else-is_kept w ↦ ap tallied w.self-inside-is
    ] in
    let counted : tallied c.match-entry.self-inside ≡ counted_as reserved e.tag = elim c.match-entry.branch [
      | in-UserObj w ↦ ap tallied w.self-inside-is ∙ ap (λ n. record reserved { user_objs = n }) w.counted-self-inside.ensures ∙ ap (counted_as reserved) (sym w.in-UserObj.is)
      | in-User+in_ok-push-in-User w ↦ ap tallied w.self-inside-is ∙ ap (λ users. record reserved { users = users }) w.in_ok-push-in-User.ensures.items ∙ ap (counted_as reserved) (sym w.in-User.is)
      | in-GroupObj w ↦ ap tallied w.self-inside-is ∙ ap (λ n. record reserved { group_objs = n }) w.counted-self-inside-in-GroupObj.ensures ∙ ap (counted_as reserved) (sym w.in-GroupObj.is)
      | in-Group+in_ok-push-in-Group w ↦ ap tallied w.self-inside-is ∙ ap (λ groups. record reserved { groups = groups }) w.in_ok-push-in-Group.ensures.items ∙ ap (counted_as reserved) (sym w.in-Group.is)
      | in-Mask w ↦ ap tallied w.self-inside-is ∙ ap (λ n. record reserved { masks = n }) w.counted-self-inside-in-Mask.ensures ∙ ap (counted_as reserved) (sym w.in-Mask.is)
      | in-Other w ↦ ap tallied w.self-inside-is ∙ ap (λ n. record reserved { others = n }) w.counted-self-inside-in-Other.ensures ∙ ap (counted_as reserved) (sym w.in-Other.is)
    ] in
    let same : c.match-entry.self-inside.kept.items ≡ old.kept = ap (λ (t : Tallied). t.kept) counted ∙ counted_kept reserved e.tag ∙ ap (λ (t : Tallied). t.kept) room_kept in
    let few : ltb max_entries (length old.kept) ≡ false = le-ltb max_entries (length old.kept) (first_of (omega (arith, c.self.inside.kept.ok.0), grind (arith, nat_tests))) in
    let kept : c.push-then-is_kept-2.new.self.items ≡ kept_with old.kept e =
    c.in_ok-push.ensures.items ∙ ap (λ kept. kept ++ e ∷ []) same ∙ sym (ap (λ b. cond b old.kept (old.kept ++ e ∷ [])) few) in
    let now : record (tallied c.match-entry.self-inside) { kept = c.push-then-is_kept-2.new.self.items } ≡ tallied_with old e =
    ap (λ (t : Tallied). record t { kept = c.push-then-is_kept-2.new.self.items }) (counted ∙ ap (λ (t : Tallied). counted_as t e.tag) room_kept) ∙ ap (λ (kept : List Entry). record (counted_as old e.tag) { kept = kept }) kept in
    subst IsWhole (sym now) (whole_more old e c.self.invariant)

pub invariant_of-self-in_err-push : goal.invariant_of-self-in_err-push
invariant_of-self-in_err-push c =
    let kept = c.if-is_kept.self-inside.kept in
    let same : c.match-entry.self-inside.kept ≡ kept = elim c.match-entry.branch [
      | in-UserObj w ↦ ap (λ fields. fields.kept) w.self-inside-is
      | in-User+in_ok-push-in-User w ↦ ap (λ fields. fields.kept) w.self-inside-is
      | in-GroupObj w ↦ ap (λ fields. fields.kept) w.self-inside-is
      | in-Group+in_ok-push-in-Group w ↦ ap (λ fields. fields.kept) w.self-inside-is
      | in-Mask w ↦ ap (λ fields. fields.kept) w.self-inside-is
      | in-Other w ↦ ap (λ fields. fields.kept) w.self-inside-is
    ] in
    let full : vec_capacity kept ≤ vec_len kept = subst (λ v. vec_capacity v ≤ vec_len v) same c.in_err-push.ensures.full in
    absurd (elim c.if-is_kept.branch [
      | then-is_kept+in_ok-reserve w ↦
          let room : vec_len kept + 1 ≤ vec_capacity kept = subst (λ v. vec_len v + 1 ≤ vec_capacity v) (sym (ap (λ fields. fields.kept) w.self-inside-is)) w.in_ok-reserve.ensures.ok in
          omega (arith, full, room)
      | else-is_kept w ↦ first_of (omega arith, cc, grind (arith, nat_tests))
    ])

pub returns-in_ok-push-clause-taken : goal.returns-in_ok-push-clause-taken
returns-in_ok-push-clause-taken c =
    let old = tallied c.self.inside in
    let e = c.args.entry in
    let reserved = tallied c.if-is_kept.self-inside in
    let room_kept : reserved ≡ old = elim c.if-is_kept.branch [
      | then-is_kept+in_ok-reserve w ↦ ap tallied w.self-inside-is ∙ ap (λ kept. record old { kept = kept }) w.reserve.ensures.items
      | else-is_kept w ↦ ap tallied w.self-inside-is
    ] in
    let counted : tallied c.match-entry.self-inside ≡ counted_as reserved e.tag = elim c.match-entry.branch [
      | in-UserObj w ↦ ap tallied w.self-inside-is ∙ ap (λ n. record reserved { user_objs = n }) w.counted-self-inside.ensures ∙ ap (counted_as reserved) (sym w.in-UserObj.is)
      | in-User+in_ok-push-in-User w ↦ ap tallied w.self-inside-is ∙ ap (λ users. record reserved { users = users }) w.in_ok-push-in-User.ensures.items ∙ ap (counted_as reserved) (sym w.in-User.is)
      | in-GroupObj w ↦ ap tallied w.self-inside-is ∙ ap (λ n. record reserved { group_objs = n }) w.counted-self-inside-in-GroupObj.ensures ∙ ap (counted_as reserved) (sym w.in-GroupObj.is)
      | in-Group+in_ok-push-in-Group w ↦ ap tallied w.self-inside-is ∙ ap (λ groups. record reserved { groups = groups }) w.in_ok-push-in-Group.ensures.items ∙ ap (counted_as reserved) (sym w.in-Group.is)
      | in-Mask w ↦ ap tallied w.self-inside-is ∙ ap (λ n. record reserved { masks = n }) w.counted-self-inside-in-Mask.ensures ∙ ap (counted_as reserved) (sym w.in-Mask.is)
      | in-Other w ↦ ap tallied w.self-inside-is ∙ ap (λ n. record reserved { others = n }) w.counted-self-inside-in-Other.ensures ∙ ap (counted_as reserved) (sym w.in-Other.is)
    ] in
    let same : c.match-entry.self-inside.kept.items ≡ old.kept = ap (λ (t : Tallied). t.kept) counted ∙ counted_kept reserved e.tag ∙ ap (λ (t : Tallied). t.kept) room_kept in
    let few : ltb max_entries (length old.kept) ≡ false = le-ltb max_entries (length old.kept) (first_of (omega (arith, c.self.inside.kept.ok.0), grind (arith, nat_tests))) in
    let kept : c.push-then-is_kept-2.new.self.items ≡ kept_with old.kept e =
    c.in_ok-push.ensures.items ∙ ap (λ kept. kept ++ e ∷ []) same ∙ sym (ap (λ b. cond b old.kept (old.kept ++ e ∷ [])) few) in
    let now : record (tallied c.match-entry.self-inside) { kept = c.push-then-is_kept-2.new.self.items } ≡ tallied_with old e =
    ap (λ (t : Tallied). record t { kept = c.push-then-is_kept-2.new.self.items }) (counted ∙ ap (λ (t : Tallied). counted_as t e.tag) room_kept) ∙ ap (λ (kept : List Entry). record (counted_as old e.tag) { kept = kept }) kept in
    λ entries is. subst (λ t. IsTallyOf t (entries ++ e ∷ [])) (sym now) (tally_more old entries e (subst (λ t. IsTallyOf t entries) (sym c.self.view_is) is))

pub returns-else-is_kept-2-clause-taken : goal.returns-else-is_kept-2-clause-taken
returns-else-is_kept-2-clause-taken c =
    let old = tallied c.self.inside in
    let e = c.args.entry in
    let reserved = tallied c.if-is_kept.self-inside in
    let room_kept : reserved ≡ old = elim c.if-is_kept.branch [
      | then-is_kept+in_ok-reserve w ↦ ap tallied w.self-inside-is ∙ ap (λ kept. record old { kept = kept }) w.reserve.ensures.items
      | else-is_kept w ↦ ap tallied w.self-inside-is
    ] in
    let counted : tallied c.match-entry.self-inside ≡ counted_as reserved e.tag = elim c.match-entry.branch [
      | in-UserObj w ↦ ap tallied w.self-inside-is ∙ ap (λ n. record reserved { user_objs = n }) w.counted-self-inside.ensures ∙ ap (counted_as reserved) (sym w.in-UserObj.is)
      | in-User+in_ok-push-in-User w ↦ ap tallied w.self-inside-is ∙ ap (λ users. record reserved { users = users }) w.in_ok-push-in-User.ensures.items ∙ ap (counted_as reserved) (sym w.in-User.is)
      | in-GroupObj w ↦ ap tallied w.self-inside-is ∙ ap (λ n. record reserved { group_objs = n }) w.counted-self-inside-in-GroupObj.ensures ∙ ap (counted_as reserved) (sym w.in-GroupObj.is)
      | in-Group+in_ok-push-in-Group w ↦ ap tallied w.self-inside-is ∙ ap (λ groups. record reserved { groups = groups }) w.in_ok-push-in-Group.ensures.items ∙ ap (counted_as reserved) (sym w.in-Group.is)
      | in-Mask w ↦ ap tallied w.self-inside-is ∙ ap (λ n. record reserved { masks = n }) w.counted-self-inside-in-Mask.ensures ∙ ap (counted_as reserved) (sym w.in-Mask.is)
      | in-Other w ↦ ap tallied w.self-inside-is ∙ ap (λ n. record reserved { others = n }) w.counted-self-inside-in-Other.ensures ∙ ap (counted_as reserved) (sym w.in-Other.is)
    ] in
    let same : c.match-entry.self-inside.kept.items ≡ old.kept = ap (λ (t : Tallied). t.kept) counted ∙ counted_kept reserved e.tag ∙ ap (λ (t : Tallied). t.kept) room_kept in
    let full : ltb max_entries (length old.kept) ≡ true = lt-ltb max_entries (length old.kept) (first_of (omega (arith, c.self.inside.kept.ok.0), grind (arith, nat_tests))) in
    let kept : c.match-entry.self-inside.kept.items ≡ kept_with old.kept e = same ∙ sym (ap (λ b. cond b old.kept (old.kept ++ e ∷ [])) full) in
    let now : tallied c.match-entry.self-inside ≡ tallied_with old e =
    ap (λ (t : Tallied). record t { kept = c.match-entry.self-inside.kept.items }) (counted ∙ ap (λ (t : Tallied). counted_as t e.tag) room_kept) ∙ ap (λ (kept : List Entry). record (counted_as old e.tag) { kept = kept }) kept in
    λ entries is. subst (λ t. IsTallyOf t (entries ++ e ∷ [])) (sym now) (tally_more old entries e (subst (λ t. IsTallyOf t entries) (sym c.self.view_is) is))
