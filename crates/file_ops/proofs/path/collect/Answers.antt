use Rattle.file_ops.proofs.Vocabulary.{◌≡◌, ℕ, ◌≤◌, Bor, true, List, [], ◌∷◌, ◌++◌, length, map, Some, sym, ap, ◌∙◌, arith, rules, tests, list_all, slice_split, list_all_at, false≢true, max_path_names, is_slash, is_name}
use Rattle.std.proofs.lemmas.Iterator.Splits.{YieldsList-from_slice_split}
use Rattle.std.proofs.lemmas.Iterator.Consumers.{YieldsList-turn, YieldsList-end}
use Rattle.std.proofs.lemmas.List.{length-map, map-append}
use Rattle.file_ops.proofs.PathFacts.{too_many, all_names, not_all, no_name, test_name, one_more, some_part}
use Rattle.file_ops.proofs.path.collect.Goals as goal

pub returns-then-len-eq-MAX_PATH_NAMES : goal.returns-then-len-eq-MAX_PATH_NAMES
returns-then-len-eq-MAX_PATH_NAMES c =
    let turn = YieldsList-turn (YieldsList-from_slice_split _ is_slash c.args.text.now (cc) (cc) (cc) (λ x b q k. search (rules, tests))) c.loop-part.yielded _ c.loop-part.yielded_by _ _ c.in-Some.part c.in-Some.is c.next.ensures.steps in
    let count = c.loop-part.names.ok.0 ∙ ap length c.loop-part.invariant.3 ∙ length-map c.loop-part.yielded (λ (x : Bor (List ℕ)). x.now) in
    sym (too_many (slice_split is_slash c.args.text.now) (omega (arith, turn.0, count, c.len.ensures, c.if-len-eq-MAX_PATH_NAMES.true)))

pub returns-then-not-is_name : goal.returns-then-not-is_name
returns-then-not-is_name c =
    let parts = slice_split is_slash c.args.text.now in
    let turn = YieldsList-turn (YieldsList-from_slice_split _ is_slash c.args.text.now (cc) (cc) (cc) (λ x b q k. search (rules, tests))) c.loop-part.yielded _ c.loop-part.yielded_by _ _ c.in-Some.part c.in-Some.is c.next.ensures.steps in
    sym (not_all parts (list_all_at is_name parts (length c.loop-part.yielded) c.in-Some.part.now turn.0 (ap is_name (sym turn.1) ∙ no_name c.in-Some.part.now (λ name. false≢true (search rules)))))

pub loop-part-preserved : goal.loop-part-preserved
loop-part-preserved c =
    let name : is_name c.in-Some.part.now ≡ true = test_name c.in-Some.part.now (search rules) in
    let so_far : List (List ℕ) = map (λ x. x.now) c.loop-part.yielded in
    let one_further = map-append (λ (x : Bor (List ℕ)). x.now) c.loop-part.yielded (c.in-Some.part ∷ []) in (
      search rules,
      search rules,
      omega (arith, c.loop-part.invariant.2, c.len.ensures, c.if-len-eq-MAX_PATH_NAMES.false, c.in_ok-push.ensures.len),
      c.in_ok-push.ensures.items ∙ (λ i. c.loop-part.invariant.3 i ++ c.known.ensures i ∷ []) ∙ sym one_further,
      ap (list_all is_name) one_further ∙ one_more so_far c.in-Some.part.now c.loop-part.invariant.4 name,
    )

pub returns : goal.returns
returns c =
    let parts = slice_split is_slash c.args.text.now in
    let end = YieldsList-end (YieldsList-from_slice_split _ is_slash c.args.text.now (cc) (cc) (cc) (λ x b q k. search (rules, tests))) c.loop-part.yielded _ c.loop-part.yielded_by _ _ c.in-None.is c.next.ensures.steps in
    let count = c.loop-part.names.ok.0 ∙ ap length c.loop-part.invariant.3 ∙ ap length end.0 in
    let names : list_all is_name parts ≡ true = ap (list_all is_name) (sym end.0) ∙ c.loop-part.invariant.4 in
    let few : length parts ≤ max_path_names = omega (arith, count, c.loop-part.invariant.2) in
    ap Some (c.loop-part.invariant.3 ∙ end.0) ∙ sym (all_names parts (some_part c.args.text.now) few names)
