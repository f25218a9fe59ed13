-- A word, and then moves, come to what the function makes of the word, and to nothing else.
use Rattle.law_protocol.proofs.Vocabulary.{nat_cmp_total, IsOrdered-insert, Next, next, Cache, GatheredSuite, Suites, suite_of, with_suite, step_at, step_from, IsEager, Rises, GoesTo, MovesAreTheProtocol, ◌≡◌, ℕ, cond, List, [], arith, ◌∷◌, Option}
use Rattle.law_protocol.proofs.Vocabulary.{Some, None, refl, sym, ap, subst, ◌∙◌, Fixed, Task, Phase, Finishing}
use Rattle.rep_core.specs.declared.request.Request.{Request}
use Rattle.rep_core.specs.declared.reply.Reply.{Reply}
use Rattle.rep_core.specs.declared.reply.Verdict.{Verdict}
use Rattle.rep_core.specs.declared.stamped.Lack.{Lack}
use Rattle.suite_collect.specs.declared.told.Said.{Said}
use Rattle.txn_core.specs.declared.response.Response.{Response}
use Rattle.txn_core.specs.declared.response.Response.TheVariants.{Replied}
use Rattle.txn_core.specs.declared.ending.Cause.TheVariants.{Lost}
use Rattle.txn_core.specs.declared.ending.Ending.{Ending}
use Rattle.txn_core.specs.Transactions.{Step, tell_end, give_up, prepare, said_to, collected, hear, fetched, after_reply, after_lack, after_response, lack_cause}
use Rattle.txn_core.specs.Moves.{Stage, Point, IsOpen, Collects, gathering, widening, now_told, AsksNothing, Hears, asks_on, falls_short, settles, loses, gets, misses, prepared_by, unprepared, decides}
use Rattle.txn_core.specs.Moves.{tells_next, told_all, is_lacked, strays}
use Rattle.txn_core.proofs.Moving.{response_moves}
use Rattle.law_protocol.proofs.Gone.{comes_to, goes_from}

module _ (fixed : Fixed) (task : Task) (cache : Cache) (suites : Suites) (server : ℕ) (asked : Request) where
  -- what the function makes of a word in a phase
  abbrev After : Phase → Response → Step
  After phase response = after_response fixed (record { task = task; suites = suites; phase = phase }) cache server asked response

  -- ---- the collector of a suite is answered

  heard_by : {phase : Phase} {number : ℕ} {stage : Stage} (reply : Reply) (suite : GatheredSuite) (said : Option Said) → Collects phase number stage → suite_of suites number ≡ Some suite → said_to asked reply ≡ said
      → After phase (Replied reply) ≡ hear task cache suites phase number suite server asked said (λ suite. step_at fixed task cache (with_suite number suite suites) stage)
  heard_by reply suite said (gathering {number = number}) there heard = search arith
  heard_by reply suite said (widening {number = number} {left = left} {granted = granted}) there heard = search arith

  told_by : {phase : Phase} {number : ℕ} {stage : Stage} (reply : Reply) (suite : GatheredSuite) (said : Said) (coming : Next) → Collects phase number stage → suite_of suites number ≡ Some suite → said_to asked reply ≡ Some said
      → next (now_told server asked said suite).collector ≡ coming
      → After phase (Replied reply) ≡ collected task cache suites phase number (now_told server asked said suite) coming (λ suite. step_at fixed task cache (with_suite number suite suites) stage)
  told_by reply suite said coming collects there heard is = search (heard_by reply suite (Some said) collects there heard, arith)

  -- ---- the other words

  not_given : (number : ℕ) (found : Option GatheredSuite) → fetched fixed task cache suites number found server None ≡ give_up task cache suites (Lost server)
  not_given number found = search arith

  told_on : (now : ℕ) (left : List ℕ) (v : Verdict) (ending : Ending) (response : Response) → tell_end task cache suites v ending left ≡ After (Finishing (now ∷ left) v ending) response
  told_on now left v ending response = search arith

  all_told : (v : Verdict) (ending : Ending) (response : Response) → tell_end task cache suites v ending [] ≡ After (Finishing [] v ending) response
  all_told v ending response = search arith

  lacks : (phase : Phase) (lack : Lack) → IsOpen phase → give_up task cache suites (lack_cause server lack) ≡ after_lack task cache suites phase server lack
  lacks phase lack h2 = search arith

  nothing_asked : (phase : Phase) (reply : Reply) → AsksNothing suites phase → after_reply fixed task cache suites phase server asked reply ≡ give_up task cache suites (Lost server)
  nothing_asked phase reply h2 = search arith

  hears_step : {phase : Phase} {response : Response} {heard : Point} → Hears fixed task cache suites server asked phase response heard → step_from fixed task heard ≡ After phase response
  hears_step (asks_on {suite = suite} {reply = reply} {said = said} collects there heard is) = sym (told_by reply suite said _ collects there heard is)
  hears_step (falls_short {suite = suite} {reply = reply} {said = said} collects there heard is) = sym (told_by reply suite said _ collects there heard is)
  hears_step (settles {suite = suite} {reply = reply} {said = said} collects there heard is) = sym (told_by reply suite said _ collects there heard is)
  hears_step (loses {suite = suite} {reply = reply} collects there heard) = sym (heard_by reply suite None collects there heard)
  hears_step (gets {number = number} {suite = suite} {reply = reply} {content = content} there was given) = search arith
  hears_step (misses {number = number} {reply = reply} given) = sym (ap (fetched fixed task cache suites number (suite_of suites number) server) given ∙ not_given number (suite_of suites number))
  hears_step (prepared_by {left = left} {outcome = outcome} is) = sym (ap (λ b. cond b (prepare task cache suites outcome left) (give_up task cache suites (Lost server))) is)
  hears_step (unprepared {left = left} {outcome = outcome} is) = sym (ap (λ b. cond b (prepare task cache suites outcome left) (give_up task cache suites (Lost server))) is)
  hears_step decides = refl
  hears_step (tells_next {now = now} {left = left} {v = v} {ending = ending} {response = response}) = told_on now left v ending response
  hears_step (told_all {v = v} {ending = ending} {response = response}) = all_told v ending response
  hears_step (is_lacked {phase = phase} {lack = lack} before) = lacks phase lack before
  hears_step (strays {phase = phase} {reply = reply} nothing) = sym (nothing_asked phase reply nothing)

  hears_rises : {phase : Phase} {response : Response} {heard : Point} → Hears fixed task cache suites server asked phase response heard → Rises suites → Rises heard.suites
  hears_rises (asks_on {number = number} collects there heard is) rises = IsOrdered-insert nat_cmp_total suites number _ rises
  hears_rises (falls_short {number = number} collects there heard is) rises = IsOrdered-insert nat_cmp_total suites number _ rises
  hears_rises (settles {number = number} collects there heard is) rises = IsOrdered-insert nat_cmp_total suites number _ rises
  hears_rises (gets {number = number} there was given) rises = IsOrdered-insert nat_cmp_total suites number _ rises
  hears_rises _ rises = rises

  hears_eager : {phase : Phase} {response : Response} {heard : Point} → Hears fixed task cache suites server asked phase response heard → IsEager task heard
  hears_eager h0 = search arith

pub moves_are_the_protocol : MovesAreTheProtocol
moves_are_the_protocol = record {
  goes = λ fixed task at rises eager. goes_from fixed task at.cache at.suites at.stage rises eager;
  goes_nowhere_else = λ fixed task at step rises it. comes_to fixed task step it.moves.moves it.moves.ends rises it.eager;
  takes = λ fixed txn_run cache server asked response rises.
      let it = response_moves fixed txn_run.task cache txn_run.suites server asked txn_run.phase response in
      let rest = subst (GoesTo fixed txn_run.task it.heard) (hears_step fixed txn_run.task cache txn_run.suites server asked it.hears)
      (goes_from fixed txn_run.task it.heard.cache it.heard.suites it.heard.stage (hears_rises fixed txn_run.task cache txn_run.suites server asked it.hears rises)
      (hears_eager fixed txn_run.task cache txn_run.suites server asked it.hears)) in
      record { hears = record { heard = it.heard; hears = it.hears; moves = rest.moves }; eager = rest.eager };
  takes_nothing_else = search (comes_to, hears_rises, hears_step, arith);
}
