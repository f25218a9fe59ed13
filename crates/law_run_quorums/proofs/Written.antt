-- What a transaction writes to a suite covers enough servers.
use Rattle.law_run_quorums.proofs.Vocabulary.{nat_tests, same_Some, Representative, votes_at, is_write_quorum, Replica, all_told, ReadPoint, GatheredSuite, Changes, newest_of, IsReady, Beginning, Change, WasPrefix, World, holds_exclusively}
use Rattle.law_run_quorums.proofs.Vocabulary.{CoversPrefix, KeepsContent, CoversContent, known_by, change_to, OwesKnown, OwesWritten, told_to, Agrees, WritesToQuorums}
use Rattle.std.proofs.Common.{◌≡◌, ℕ, ◌<◌, ◌≤◌, IsTrue, true, false, List, [], ◌∷◌, Some, sym, ap, subst, ◌∙◌, arith, ◌==◌, ◌&&◌, ◌||◌, nat_lt, is_some}
use Rattle.std.specs.List.{list_any}
use Rattle.txn_core.specs.Writing.{change_of, take_of_changed, part_of}
use Rattle.law_server_moves.specs.Preparing.{left_of}
use Rattle.law_run_quorums.specs.Fairness.{IsFair, PreparedPart}
use Rattle.file_exec.specs.declared.changes.Change as executor
use Rattle.rep_core.specs.declared.request.Take.TheVariants as take
use Rattle.txn_core.specs.Suites as suites

same_set : (w : World) (t : ℕ) (suite : GatheredSuite) → Agrees (told_to w t) (all_told suite.collector) → suites.holds_exclusively suite ≡ holds_exclusively w t
same_set w t suite agrees = λ n i. sym (agrees.exclusive i) n

-- a server with votes has one
votes_has : (reps : List Representative) (server : ℕ) → 0 < votes_at reps server → list_any (λ rep. (rep.0 == server) && nat_lt 0 rep.1) reps ≡ true
votes_has [] server some = absurd (omega arith)
votes_has (rep ∷ reps) server some = search (nat_lt, nat_tests, votes_has reps server, arith)

module _ (start : Beginning) (w : World) (t : ℕ) (z : ℕ) (suite : GatheredSuite) (changes : Changes) (change : executor.Change) (first : ReadPoint)
    (agrees : Agrees (told_to w t) (all_told suite.collector)) (was : suite.first ≡ Some first) (changed : change_of changes z ≡ Some change) (fair : IsFair suite first change)
    (prepared : (i : ℕ) → IsTrue (holds_exclusively w t i) → PreparedPart w t i (part_of changes i (z, suite))) where
  abbrev new : Change
  new = change_to first change

  -- at a server that is held exclusively
  record Left (i : ℕ) : Type 0 where
    copy : Replica
    is : w.ready i t ≡ Some (left_of (record { suite = z; mode = suites.lock_mode suite i; take = take_of_changed first change i }) copy)

  left : (i : ℕ) → IsTrue (holds_exclusively w t i) → Left i
  left i held = search arith

  pub covers_prefix : CoversPrefix w t (known_by first suite) new
  covers_prefix = search arith

  keeps_content : change.content ≡ false → change.votes ≡ true → KeepsContent (known_by first suite) new
  keeps_content unset votes = search arith

  -- whoever has a vote takes it whole
  whole : (change.content || change.votes) ≡ true → (i : ℕ) → IsTrue (holds_exclusively w t i) → 0 < votes_at new.prefix.votes.reps i → (x : Replica) × (w.ready i t ≡ Some (Some x)) × (x.dver ≡ new.dver)
  whole sets' i held votes = search (left, votes_has, arith)

  pub covers_content : CoversContent w t (known_by first suite) new
  covers_content = search (whole, keeps_content, arith)

  -- a kind changes only with a content
  kind : new.dver ≡ 0 → new.prefix.kind ≡ first.prefix.kind
  kind none = search arith

  -- ---- what is owed of a suite that it writes

  pub owes_written : OwesKnown start w t (known_by first suite) → IsReady suite z changes → WasPrefix start w.log (newest_of suite) → OwesWritten start w t (known_by first suite) new
  owes_written knows ready under_was =
      let same = same_set w t suite agrees in
      let first_is : ready.first ≡ first = same_Some ready.first first (sym ready.was ∙ was) in
      let is_changed : is_some (change_of changes z) ≡ true = ap is_some changed in
      record {
        knows = knows;
        under = newest_of suite;
        under_was = under_was;
        under_newest = subst (λ (first : ReadPoint). first.prefix.pver ≤ (newest_of suite).pver) first_is ready.not_older;
        quorum = subst (λ set. IsTrue (is_write_quorum (newest_of suite).votes set)) same (ready.before is_changed);
        widened = search arith;
        valid = fair.valid;
        kind = kind;
        covers_prefix = covers_prefix;
        covers_content = covers_content;
      }

pub writes_to_quorums : WritesToQuorums
writes_to_quorums start w t z suite changes change first agrees was changed fair prepared knows ready under_was = owes_written start w t z suite changes change first agrees was changed fair prepared knows ready under_was
