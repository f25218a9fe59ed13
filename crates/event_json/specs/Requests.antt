-- What is asked, as JSON has it.
use Rattle.std.specs.Prelude.{ℕ, List, [], ◌++◌, codes}
use Rattle.rep_core.specs.declared.reply.Verdict.{Verdict}
use Rattle.rep_core.specs.declared.request.Decision.{Decision}
use Rattle.rep_core.specs.declared.request.Part.{Part}
use Rattle.rep_core.specs.declared.request.Take.{Take}
use Rattle.rep_core.specs.declared.request.Take.TheVariants.{Keep, Whole}
use Rattle.rep_core.specs.declared.request.Take.TheVariants as take
use Rattle.rep_core.specs.declared.request.Request.{Request}
use Rattle.rep_core.specs.declared.request.Request.TheVariants as request
use Rattle.suite_prefix.specs.declared.copies.Prefix.{Prefix}
use Rattle.suite_prefix.specs.declared.copies.Replica.{Replica}
use Rattle.suite_prefix.specs.declared.lock_mode.LockMode.{LockMode}
use Rattle.event_json.specs.Copies.{prefix_text, replica_text}
use Rattle.event_json.specs.Locks.{mode_text}
use Rattle.event_json.specs.Replies.{decision_text, verdict_text}
use Rattle.event_json.specs.Strings.{listed, member}

-- what is asked, in a word
abbrev pub asked_word : Request → List ℕ
asked_word (request.Poll t suite mode) = codes "poll"
asked_word (request.Upgrade t suite) = codes "upgrade"
asked_word (request.Fetch t suite) = codes "fetch"
asked_word (request.Prepare t parts) = codes "prepare"
asked_word (request.Decide t decision) = codes "decide"
asked_word (request.Resolve t) = codes "resolve"
asked_word (request.Finish t verdict) = codes "finish"
asked_word (request.Break t suite) = codes "break"
asked_word request.Locks = codes "locks"
asked_word request.Crash = codes "crash"
asked_word request.Return = codes "return"

-- ---- what is left of a suite

abbrev pub take_word : Take → List ℕ
take_word Keep = codes "nothing"
take_word (take.Prefix prefix) = codes "prefix"
take_word (Whole replica) = codes "whole"

-- a prefix, or a copy, that is left
abbrev pub left_prefix : Prefix → List ℕ
left_prefix prefix = codes "," ++ prefix_text prefix

abbrev pub left_whole : Replica → List ℕ
left_whole replica = codes "," ++ replica_text replica

abbrev pub left_text : Take → List ℕ
left_text Keep = []
left_text (take.Prefix prefix) = left_prefix prefix
left_text (Whole replica) = left_whole replica

abbrev pub take_text : Take → List ℕ
take_text take = codes ",\"takes\":\"" ++ take_word take ++ codes "\"" ++ left_text take

-- a suite in a Prepare, with the lock on it
abbrev pub part_text : Part → List ℕ
part_text part = member (codes "{\"suite\":") part.suite ++ mode_text part.mode ++ take_text part.take ++ codes "}"

abbrev pub parts_text : List Part → List ℕ
parts_text parts = codes ",\"parts\":[" ++ listed part_text parts ++ codes "]"

-- ---- requests

-- by which transaction
abbrev pub t_text : ℕ → List ℕ
t_text t = member (codes ",\"t\":") t

-- and of which suite
abbrev pub of_text : ℕ → ℕ → List ℕ
of_text t suite = t_text t ++ member (codes ",\"suite\":") suite

abbrev pub poll_text : ℕ → ℕ → LockMode → List ℕ
poll_text t suite mode = of_text t suite ++ mode_text mode

abbrev pub prepare_text : ℕ → List Part → List ℕ
prepare_text t parts = t_text t ++ parts_text parts

abbrev pub decide_text : ℕ → Decision → List ℕ
decide_text t decision = t_text t ++ codes ",\"decision\":" ++ decision_text decision

abbrev pub finish_text : ℕ → Verdict → List ℕ
finish_text t verdict = t_text t ++ codes ",\"verdict\":" ++ verdict_text verdict

-- what stands behind the word
abbrev pub about_text : Request → List ℕ
about_text (request.Poll t suite mode) = poll_text t suite mode
about_text (request.Upgrade t suite) = of_text t suite
about_text (request.Fetch t suite) = of_text t suite
about_text (request.Prepare t parts) = prepare_text t parts
about_text (request.Decide t decision) = decide_text t decision
about_text (request.Resolve t) = t_text t
about_text (request.Finish t verdict) = finish_text t verdict
about_text (request.Break t suite) = of_text t suite
about_text request.Locks = []
about_text request.Crash = []
about_text request.Return = []

abbrev pub request_text : Request → List ℕ
request_text request = codes "{\"asks\":\"" ++ asked_word request ++ codes "\"" ++ about_text request ++ codes "}"
