use Rattle.run_certify.proofs.Vocabulary.{rules, ◌≡◌, true, List, [], sym, subst, err_from_is_err_and, Decided, Item, AgentEntry, Mismatch, IsCertifiedAs, can_all_be_told, AreAllPlayed, AllBegunAreValid, IsStart, Walked, Opening}
use Rattle.run_certify.proofs.Going.{told_on, walked_no_further, walked_to_end}
use Rattle.run_certify.proofs.Promised.{certified_is_promised}
use Rattle.run_certify.proofs.Walking.{fails_further}
use Rattle.run_certify.proofs.judging.certify.Goals as goal

started : (given : Opening) (h histories : List (List Item)) (t transcripts : List (List AgentEntry)) (walk : Walked) → h ≡ histories → t ≡ transcripts → IsStart given h t walk → IsStart given histories transcripts walk
started given h histories t transcripts walk same_h same_t start = subst (λ hs. IsStart given hs transcripts walk) same_h (subst (λ ts. IsStart given h ts walk) same_t start)

pub returns-in_err-items-clause-mismatch : goal.returns-in_err-items-clause-mismatch
returns-in_err-items-clause-mismatch c =
    let s = c.args.settings.now in
    let hs = c.args.histories.now in
    let ts = c.args.transcripts.now in
    let start = started s c.as_slice-histories.result.now hs c.as_slice-transcripts.result.now ts c.in_ok-walk.walk c.as_slice-histories.ensures c.as_slice-transcripts.ensures c.in_ok-walk.ensures in
    let p = err_from_is_err_and c.from_residual-in_err-items.result c.from_residual-in_err-items.ensures.1 in
    rw (p.1, p.2) (λ is. walked_no_further s hs ts c.in_ok-walk.walk start c.fits.ensures.accepted (c.in_err-items.ensures.mismatch (told_on c.in_err-items.field-0.0 Mismatch is)))

pub returns-in_err-rest-clause-mismatch : goal.returns-in_err-rest-clause-mismatch
returns-in_err-rest-clause-mismatch c =
    let s = c.args.settings.now in
    let hs = c.args.histories.now in
    let ts = c.args.transcripts.now in
    let start = started s c.as_slice-histories.result.now hs c.as_slice-transcripts.result.now ts c.in_ok-walk.walk c.as_slice-histories.ensures c.as_slice-transcripts.ensures c.in_ok-walk.ensures in
    let p = err_from_is_err_and c.from_residual-in_err-rest.result c.from_residual-in_err-rest.ensures.1 in
    rw (p.1, p.2) (λ is. walked_no_further s hs ts c.in_ok-walk.walk start c.fits.ensures.accepted
    (fails_further c.in_ok-walk.walk c.items.new.self [] [] c.in_ok-items.ensures.ok (c.in_err-rest.ensures.mismatch (told_on c.in_err-rest.field-0.0 Mismatch is))))

pub returns-clause-certified : goal.returns-clause-certified
returns-clause-certified c =
    let s = c.args.settings.now in
    let hs = c.args.histories.now in
    let ts = c.args.transcripts.now in
    let start = started s c.as_slice-histories.result.now hs c.as_slice-transcripts.result.now ts c.in_ok-walk.walk c.as_slice-histories.ensures c.as_slice-transcripts.ensures c.in_ok-walk.ensures in
    let full : can_all_be_told hs ts ≡ true = search rules in
    subst (λ (ds : List Decided). IsCertifiedAs s hs ts ds) (sym c.into_decided.ensures)
    (walked_to_end s hs ts c.in_ok-walk.walk start c.items.new.self c.rest.new.self full c.fits.ensures.accepted c.in_ok-items.ensures.ok c.in_ok-rest.ensures.ok
    (subst AreAllPlayed (sym c.in_ok-rest.ensures.histories) c.in_ok-items.ensures.played) c.in_ok-rest.ensures.used)

pub returns-clause-promised : goal.returns-clause-promised
returns-clause-promised c =
    certified_is_promised c.args.settings.now c.fits.ensures.accepted c.fits.ensures.root.votes c.args.histories.now c.args.transcripts.now (subst AllBegunAreValid c.as_slice-transcripts.ensures c.begun_are_valid.ensures)
