-- What a reply tells is what the machine has.
use Rattle.law_server_moves.proofs.Vocabulary.{◌≡◌, ℕ, false, Some, refl, ap, ◌∙◌, Content, Prefix, LockMode, Request, Reply, Stamped, State, record_of, reply_of, after, is_full, step, decide_ruled, arith, resolve_ruled, lock_there, World, set1}
use Rattle.law_server_moves.proofs.Vocabulary.{ended_as, Shows, TellsCopy, TellsContent, Tells, RepliesTell}
use Rattle.rep_core.proofs.RepliesTell.{LockTold, poll_told, upgrade_told, ContentTold, fetch_told}
use Rattle.rep_core.specs.declared.request.Request.TheVariants as request
use Rattle.rep_core.specs.declared.reply.Reply.TheVariants as reply
use Rattle.rep_core.specs.declared.reply.Verdict as replied
use Rattle.law_server_moves.proofs.Placing.{here1}

module _ (z : ℕ) (home : ℕ → ℕ) (servers : ℕ → State) (i : ℕ) (w : World) (shows : Shows z home servers w) where
  copy_told : (new : State) (t : ℕ) (m : LockMode) (prefix : Prefix) (dver : ℕ) → LockTold (servers i) new t z m prefix dver → TellsCopy w i prefix dver
  copy_told new t m prefix dver told = search arith

  content_told : (t dver : ℕ) (content : Content) → ContentTold (servers i) t z dver content → TellsContent w i t dver content
  content_told t dver content told = search (lock_there, arith)

  module _ (later : World) (asked : Stamped Request) (not_full : is_full (servers i) asked ≡ false) (shows_later : Shows z home (set1 servers i (step (servers i) asked)) later) where
    -- what is recorded after the request is the machine's verdict
    verdict_there : (t : ℕ) (said : replied.Verdict) → home t ≡ i → record_of (after (servers i) asked.value) t ≡ Some said → later.verdict t ≡ Some (ended_as said)
    verdict_there t said at_home recorded = search (here1, arith)

    tells : (value : Request) (said : Reply) → asked.value ≡ value → reply_of (servers i) value ≡ said → Tells z home i w later value said
    tells (request.Poll t s m) (reply.Held prefix dver) is e = search (copy_told, poll_told, arith)
    tells (request.Upgrade t s) (reply.Held prefix dver) is e = search (copy_told, upgrade_told, arith)
    tells (request.Fetch t s) (reply.Given dver content) is e = λ same. content_told t dver content (fetch_told (servers i) t z dver content (ap (λ s. reply_of (servers i) (request.Fetch t s)) same ∙ e))
    tells (request.Decide t decided) (reply.Verdict said) is e = λ at_home. verdict_there t said at_home (ap (λ value. record_of (after (servers i) value) t) is ∙ decide_ruled (servers i) t decided said e)
    tells (request.Resolve t) (reply.Verdict said) is e = λ at_home. verdict_there t said at_home (ap (λ value. record_of (after (servers i) value) t) is ∙ resolve_ruled (servers i) t said e)
    tells value said is e = tt

pub replies_tell : RepliesTell
replies_tell z home servers i w later asked shows not_full shows_later = tells z home servers i w shows later asked not_full shows_later asked.value (reply_of (servers i) asked.value) refl refl
