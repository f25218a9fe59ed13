use Rattle.suite_prefix.proofs.Vocabulary.{rules, ◌≡◌, ◌-◌, ◌+◌, ◌<◌, List, [], ◌∷◌, ◌++◌, map, Ok, sym, ap, subst, ◌∙◌, append_assoc, append-nil, arith, All, IsOk, All-head, All-tail, EntryShape, entries_in, entry_at, entry_from, many_at}
use Rattle.suite_prefix.proofs.Loop.{reads_ok, reads_some, splits_below, none_listed}
use Rattle.suite_prefix.proofs.entries.entries_in.Goals as goal

abbrev IsKnown : List EntryShape → Type 0
IsKnown entries = All (λ (entry : EntryShape). entry.permissions < 8) entries

pub unwrap-requires : goal.unwrap-requires
unwrap-requires c = reads_some entry_at _ c.entry_at.result (c.args.count - c.loop-place.place) c.loop-place.rest.now (omega (arith, c.loop-place-test.true)) c.entry_at.ensures c.loop-place.invariant.whole

pub from_digit-requires : goal.from_digit-requires
from_digit-requires c =
    let one : entry_at c.loop-place.rest.now ≡ Ok (c.unwrap.result.0, c.unwrap.result.1.now) = reads_ok _ c.entry_at.result (entry_at c.loop-place.rest.now) c.unwrap.result c.unwrap.ensures c.entry_at.ensures in
    let s = splits_below entry_at (c.args.count - c.loop-place.place) c.loop-place.rest.now c.unwrap.result.0 c.unwrap.result.1.now (omega (arith, c.loop-place-test.true)) one c.loop-place.invariant.whole in
    All-head (λ (entry : EntryShape). entry.permissions < 8) c.unwrap.result.0 _ (subst IsKnown s.0 c.loop-place.invariant.known)

pub loop-place-preserved : goal.loop-place-preserved
loop-place-preserved c =
    let left = c.args.count - c.loop-place.place in
    let rest = c.loop-place.rest.now in
    let shape = c.unwrap.result.0 in
    let after = c.unwrap.result.1.now in
    let one : entry_at rest ≡ Ok (shape, after) = reads_ok _ c.entry_at.result (entry_at rest) c.unwrap.result c.unwrap.ensures c.entry_at.ensures in
    let s = splits_below entry_at left rest shape after (omega (arith, c.loop-place-test.true)) one c.loop-place.invariant.whole in
    let down : left - 1 ≡ c.args.count - (c.loop-place.place + 1) = omega arith in
    let first : entries_in left rest ≡ shape ∷ entries_in (c.args.count - (c.loop-place.place + 1)) after = s.0 ∙ ap (λ n. shape ∷ entries_in n after) down in
    let pushed : c.push.new.self.items ≡ c.loop-place.entries.items ++ entry_from shape ∷ [] = search rules in
    record {
      so_far = ap (λ l. l ++ map entry_from (entries_in (c.args.count - (c.loop-place.place + 1)) after)) pushed
          ∙ append_assoc c.loop-place.entries.items (entry_from shape ∷ []) _
          ∙ ap (λ l. c.loop-place.entries.items ++ map entry_from l) (sym first)
          ∙ c.loop-place.invariant.so_far;
      whole = subst (λ n. IsOk (many_at entry_at n after)) down s.1;
      known = All-tail (λ (entry : EntryShape). entry.permissions < 8) shape _ (subst IsKnown first c.loop-place.invariant.known);
    }

pub returns : goal.returns
returns c =
    let none : c.args.count - c.loop-place.place ≡ 0 = omega (arith, c.loop-place-test.false) in
    let nothing : entries_in (c.args.count - c.loop-place.place) c.loop-place.rest.now ≡ [] = ap (λ n. entries_in n c.loop-place.rest.now) none ∙ none_listed entry_at c.loop-place.rest.now in
    sym (append-nil c.loop-place.entries.items) ∙ ap (λ l. c.loop-place.entries.items ++ map entry_from l) (sym nothing) ∙ c.loop-place.invariant.so_far
