use Rattle.file_ops.proofs.Vocabulary.{◌≡◌, Ok, arith, refl, ap, sym, ◌∙◌, ok_map, plain, names_in, reach}
use Rattle.file_ops.specs.code.Found.{plain_place}
use Rattle.suite_content.specs.Folders as folders
use Rattle.file_ops.proofs.Listing.{listed, listed_is, reached}
use Rattle.file_ops.proofs.act.list.Goals as goal

pub returns-clause-acts : goal.returns-clause-acts
returns-clause-acts c =
    let rows = plain c.args.rows.now in
    let caller = c.args.caller.now in
    let names = c.args.names.now in
    let place = plain_place c.in_ok-place.place in
    let entries = c.in_ok-names.field-0.now.pairs in
    let there : reach rows caller names ≡ Ok place = sym c.reach.ensures ∙ ap (ok_map plain_place) c.in_ok-place.was in
    let holds : names_in place.row.content ≡ Ok entries = sym c.names.ensures ∙ ap (ok_map (λ found. found.now.pairs)) c.in_ok-names.was in
    let is : c.in_ok-list.list ≡ folders.names_in entries = c.in_ok-list.ensures.list place.row (reached rows caller names place there) ∙ listed place.row.content entries holds in
    rw c.list_names.ensures.same (record {
      does = listed_is rows caller names place entries c.in_ok-list.list there (sym c.permit.ensures ∙ c.in_ok-permit.was) holds is;
      takes_back = record { rows = refl; capacity = λ suite. omega arith; there = tt };
    })
