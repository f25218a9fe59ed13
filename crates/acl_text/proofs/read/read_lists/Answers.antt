use Rattle.acl_text.proofs.Vocabulary.{◌≡◌, ◌+◌, List, [], ◌∷◌, ◌++◌, length, map, None, Some, Ok, refl, ap, subst, sym, ◌∙◌, append-nil, append_assoc, length-append, arith, filter_map, SidedEntry, reading, items_left, AreTallied, items_of}
use Rattle.acl_text.proofs.Vocabulary.{readings, first_item_fault, entry_said, said_before, said_in}
use Rattle.acl_text.proofs.ItemCounts.{few_items}
use Rattle.acl_text.proofs.Spelling.{spelled_from_faultless}
use Rattle.acl_text.proofs.EntryByEntry.{lists_spelled}
use Rattle.acl_text.proofs.read.read_lists.Goals as goal

-- entries of which one was taken are some
some_taken : (taken later : List SidedEntry) (said : SidedEntry) → taken ++ said ∷ later ≡ [] → ⊥
some_taken taken later said none =
    let long = length-append taken (said ∷ later) in
    let short = ap length none in
    omega (arith, long, short)

pub loop-item-init : goal.loop-item-init
loop-item-init c =
    let all : items_left c.into_iter-item-iterator.result ≡ items_of c.args.text.now = ap items_left c.into_iter-item-iterator.ensures.into_iter_gives ∙ c.of-item-items.ensures in
    (tt, tt, ([], c.new-tallies.ensures, rw all refl), rw all refl, rw all (omega (arith, few_items c.args.text.now)), ([], c.new-tallies.ensures, rw all refl))

pub loop-item-preserved : goal.loop-item-preserved
loop-item-preserved c =
    let invariant = c.loop-item.invariant.2 in
    let said = c.in-Ok-Some.said in
    let read_all = map (reading c.args.names.now) in
    let rest = read_all (items_left c.next.new.self) in
    let read : reading c.args.names.now c.in-Some.item.now ≡ Ok (Some said) = sym c.read_item.ensures ∙ c.in-Ok-Some.is ∙ ap Ok c.in-Ok-Some.field-0-is in
    let cut : read_all (items_left c.loop-item.item-iterator) ≡ Ok (Some said) ∷ rest = ap read_all c.in-Some.ensures.steps ∙ ap (λ first. first ∷ rest) read in
    let all : (invariant.0 ++ said ∷ []) ++ filter_map entry_said rest ≡ said_in c.args.text.now c.args.names.now =
    append_assoc invariant.0 (said ∷ []) (filter_map entry_said rest) ∙ sym (ap (λ left. invariant.0 ++ filter_map entry_said left) cut) ∙ invariant.2 in
    let faults : first_item_fault (c.loop-item.number + 1 + 1) rest ≡ first_item_fault 1 (readings c.args.text.now c.args.names.now) =
    sym (ap (first_item_fault (c.loop-item.number + 1)) cut) ∙ c.loop-item.invariant.3 in
    let fewer = ap length c.in-Some.ensures.steps in
    let front = c.loop-item.invariant.5 in
    let before : (front.0 ++ said ∷ []) ++ said_before rest ≡ said_before (readings c.args.text.now c.args.names.now) =
    append_assoc front.0 (said ∷ []) (said_before rest) ∙ sym (ap (λ left. front.0 ++ said_before left) cut) ∙ front.2 in (
      tt,
      tt,
      (invariant.0 ++ said ∷ [], c.in_ok-take-in-Ok-Some.ensures.taken invariant.0 invariant.1, all),
      faults,
      omega (arith, fewer, c.loop-item.invariant.4),
      (front.0 ++ said ∷ [], c.in_ok-take-in-Ok-Some.ensures.taken front.0 front.1, before),
    )

pub returns-in_err-take-in-Ok-Some-clause-memory : goal.returns-in_err-take-in-Ok-Some-clause-memory
returns-in_err-take-in-Ok-Some-clause-memory c = λ memory none.
    let invariant = c.loop-item.invariant.5 in
    let said = c.in-Ok-Some.said in
    let read_all = map (reading c.args.names.now) in
    let rest = read_all (items_left c.next.new.self) in
    let read : reading c.args.names.now c.in-Some.item.now ≡ Ok (Some said) = sym c.read_item.ensures ∙ c.in-Ok-Some.is ∙ ap Ok c.in-Ok-Some.field-0-is in
    let cut : read_all (items_left c.loop-item.item-iterator) ≡ Ok (Some said) ∷ rest = ap read_all c.in-Some.ensures.steps ∙ ap (λ first. first ∷ rest) read in
    some_taken invariant.0 (said_before rest) said
    (sym (ap (λ left. invariant.0 ++ said_before left) cut) ∙ invariant.2 ∙ none)

pub returns-clause-memory : goal.returns-clause-memory
returns-clause-memory c = λ memory none.
    let front = c.loop-item.invariant.5 in
    let nothing_left : map (reading c.args.names.now) (items_left c.loop-item.item-iterator) ≡ [] = ap (map (reading c.args.names.now)) c.in-None.ensures.steps.0 in
    let all : front.0 ≡ said_before (readings c.args.text.now c.args.names.now) =
    sym (append-nil front.0) ∙ sym (ap (λ left. front.0 ++ said_before left) nothing_left) ∙ front.2 in
    c.finish.ensures.memory memory front.0 front.1 (all ∙ none)

pub returns-clause-spelled : goal.returns-clause-spelled
returns-clause-spelled c =
    let text = c.args.text.now in
    let names = c.args.names.now in
    let invariant = c.loop-item.invariant.2 in
    let nothing_left : map (reading names) (items_left c.loop-item.item-iterator) ≡ [] = ap (map (reading names)) c.in-None.ensures.steps.0 in
    let all : invariant.0 ≡ said_in text names =
    sym (append-nil invariant.0) ∙ sym (ap (λ left. invariant.0 ++ filter_map entry_said left) nothing_left) ∙ invariant.2 in
    let faultless : first_item_fault 1 (readings text names) ≡ None =
    sym c.loop-item.invariant.3 ∙ ap (first_item_fault (c.loop-item.number + 1)) nothing_left in
    lists_spelled c.finish.result c.loop-item.tallies text names (said_in text names) (subst (AreTallied c.loop-item.tallies) all invariant.1)
    (spelled_from_faultless text names faultless) c.finish.ensures.same_access c.finish.ensures.same_default
