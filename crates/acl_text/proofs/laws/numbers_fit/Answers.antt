use Rattle.acl_text.proofs.Vocabulary.{◌≤◌, List, [], ◌∷◌, take, sym, arith, All, Entry, qualifier, NumbersFit, max_id, take_all}
use Rattle.std.proofs.lemmas.List.Elements.{All-more, All-same, All-tail}
use Rattle.acl_text.proofs.laws.numbers_fit.Goals as goal

each_fits : (list : List Entry) → All (λ e. qualifier e.tag ≤ max_id) list → NumbersFit list
each_fits [] all = tt
each_fits (e ∷ list) all = (all 0 e (omega arith), each_fits list (All-tail (λ (e : Entry). qualifier e.tag ≤ max_id) e list all))

pub loop-entry-preserved : goal.loop-entry-preserved
loop-entry-preserved c =
    let entries = c.args.entries.now in
    let i = c.loop-entry.entry-index in
    let entry = c.entry-item.result in
    All-more (λ (e : Entry). qualifier e.tag ≤ max_id) entries i entry c.loop-entry-test.true c.loop-entry.invariant (rw c.entry-item.is at c.number_fits.ensures)

pub returns : goal.returns
returns c =
    let entries = c.args.entries.now in
    let i = c.loop-entry.entry-index in
    each_fits entries (All-same (λ (e : Entry). qualifier e.tag ≤ max_id) entries (take i entries) (sym (take_all i entries c.loop-entry-test.false)) c.loop-entry.invariant)
