-- Replies, verdicts and decisions as JSON has them.
use Rattle.std.specs.Prelude.{ℕ, Bool, List, [], ◌++◌, codes}
use Rattle.rep_core.specs.declared.lock.Lock.{Lock}
use Rattle.rep_core.specs.declared.reply.Reply.{Reply}
use Rattle.rep_core.specs.declared.reply.Reply.TheVariants as reply
use Rattle.rep_core.specs.declared.reply.Verdict.{Verdict}
use Rattle.rep_core.specs.declared.reply.Verdict.TheVariants as verdict
use Rattle.rep_core.specs.declared.request.Decision.{Decision}
use Rattle.rep_core.specs.declared.request.Decision.TheVariants as decision
use Rattle.suite_prefix.specs.declared.copies.Prefix.{Prefix}
use Rattle.suite_script.specs.Texts.{answered_text, refusal_text}
use Rattle.event_json.specs.Copies.{prefix_text, version_text}
use Rattle.event_json.specs.Locks.{locks_text}
use Rattle.event_json.specs.Strings.{member, truth}

-- how a transaction ended, in the words of `play`
abbrev pub ended_text : Verdict → List ℕ
ended_text (verdict.Answered answers) = answered_text answers
ended_text (verdict.Refused refusal) = refusal_text refusal
ended_text verdict.Aborted = codes "aborted"

abbrev pub verdict_text : Verdict → List ℕ
verdict_text verdict = codes "\"" ++ ended_text verdict ++ codes "\""

-- how it is to be decided
abbrev pub decided_text : Decision → List ℕ
decided_text (decision.Answered answers) = answered_text answers
decided_text (decision.Refused uid refusal) = refusal_text refusal

abbrev pub decision_text : Decision → List ℕ
decision_text decision = codes "\"" ++ decided_text decision ++ codes "\""

-- ---- replies

-- what a server answers, in a word
abbrev pub said_word : Reply → List ℕ
said_word (reply.Held prefix dver) = codes "held"
said_word (reply.Busy holder prepared) = codes "busy"
said_word (reply.Given dver content) = codes "given"
said_word (reply.Verdict verdict) = codes "verdict"
said_word (reply.Locked locks) = codes "locked"
said_word reply.Lost = codes "lost"
said_word reply.Prepared = codes "prepared"
said_word reply.Done = codes "done"
said_word reply.Down = codes "down"

abbrev pub held_text : Prefix → ℕ → List ℕ
held_text prefix dver = codes "," ++ prefix_text prefix ++ member (codes ",\"content\":") dver

abbrev pub busy_text : ℕ → Bool → List ℕ
busy_text holder prepared = member (codes ",\"holder\":") holder ++ codes ",\"prepared\":" ++ truth prepared

abbrev pub told_text : Verdict → List ℕ
told_text verdict = codes ",\"verdict\":" ++ verdict_text verdict

abbrev pub locked_text : List Lock → List ℕ
locked_text locks = codes ",\"locks\":" ++ locks_text locks

-- what stands behind the word
abbrev pub said_text : Reply → List ℕ
said_text (reply.Held prefix dver) = held_text prefix dver
said_text (reply.Busy holder prepared) = busy_text holder prepared
said_text (reply.Given dver content) = version_text dver content
said_text (reply.Verdict verdict) = told_text verdict
said_text (reply.Locked locks) = locked_text locks
said_text reply.Lost = []
said_text reply.Prepared = []
said_text reply.Done = []
said_text reply.Down = []

abbrev pub reply_text : Reply → List ℕ
reply_text reply = codes "{\"says\":\"" ++ said_word reply ++ codes "\"" ++ said_text reply ++ codes "}"
