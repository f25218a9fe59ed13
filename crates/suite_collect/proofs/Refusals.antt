-- Who is down or busy gives no quorum.
use Rattle.suite_collect.proofs.Vocabulary.{◌≡◌, Bool, true, false, cond, ◌∷◌, ◌++◌, List, Option, Some, None, refl, sym, ap, ◌∙◌, nat_le, ◌&&◌, ◌||◌, ◌==◌, find, votes_in, Prefix, LockMode, Exclusive, serves, Reply, Said, Held, Busy, Down}
use Rattle.suite_collect.proofs.Vocabulary.{Told, is_held, newer, newest, holds, Widening, Collector, Poll, Upgrade, mode_asked, counted, needed, needed_of, got, is_member, is_left, members_of, version, ask_or_short, tell, told_by, Next}
use Rattle.suite_collect.proofs.Vocabulary.{Current, Ask, Short, next, has_quorum, shows_lock}
use Rattle.std.proofs.lemmas.Option.{same_Some}
use Rattle.rep_core.specs.declared.reply.Reply.TheVariants as reply
use Rattle.suite_collect.proofs.Dues.{quorum_reached}

-- it is told something only where it has too few votes
too_few : (c : Collector) (answer : Reply) (last : Told) → told_by (next c) answer ≡ Some last → nat_le (needed c) (got c) ≡ false
too_few c answer last is = at (nat_le (needed c) (got c)) is
  where
    at : (b : Bool) → told_by (cond b (Current (newest c.start c.told) (version c) (members_of (counted c) (is_member c))) (ask_or_short c (find (is_left c) (counted c).reps))) answer ≡ Some last → b ≡ false
    at true is = cc
    at false is = refl

-- who is down or busy holds nothing, and shows no prefix
module _ (one : Told) (none : is_held one.said ≡ false) where
  holds_same : (mode : LockMode) (told : List Told) → holds mode (one ∷ told) ≡ holds mode told
  holds_same mode told = λ i server. (of (one.server == server) (serves one.mode mode) (holds mode told server) (is_held one.said) none) i
    where
      of : (a x b h : Bool) → h ≡ false → ((a && (h && x)) || b) ≡ b
      of true x b false is = refl
      of false x b h is = refl
      of true x b true is = cc

  newest_same : (prefix : Prefix) → newer prefix one.said ≡ prefix
  newest_same prefix = of one.said none
    where
      of : (said : Said) → is_held said ≡ false → newer prefix said ≡ prefix
      of (Held other dver) is = cc
      of (Busy holder) is = refl
      of Down is = refl

  votes_same : (c : Collector) → nat_le (needed (tell one c)) (got (tell one c)) ≡ nat_le (needed c) (got c)
  votes_same c = of c.widening
    where
      of : (widening : Option Widening) → (let was : Collector = record c { widening = widening } in nat_le (needed (tell one was)) (got (tell one was)) ≡ nat_le (needed was) (got was))
      of None =
          ap (λ (prefix : Prefix). nat_le (needed_of c.mode prefix.votes) (votes_in prefix.votes.reps (holds c.mode (one ∷ c.told)))) (newest_same (newest c.start c.told))
          ∙ ap (λ held. nat_le (needed_of c.mode (newest c.start c.told).votes) (votes_in (newest c.start c.told).votes.reps held)) (holds_same c.mode c.told)
      of (Some w) = ap (λ held. nat_le w.votes.w (votes_in w.votes.reps held)) (holds_same Exclusive (w.told ++ c.told))

unheld_told : (next : Next) (answer : Reply) (last : Told) → told_by next answer ≡ Some last → shows_lock answer ≡ false → is_held last.said ≡ false
unheld_told (Ask server asked) (reply.Busy holder prepared) last told none =
    sym (ap (λ (one : Told). is_held one.said) (same_Some (record { server = server; mode = mode_asked asked; said = Busy holder }) last told))
unheld_told (Ask server (Poll mode)) reply.Down last told none =
    sym (ap (λ (one : Told). is_held one.said) (same_Some (record { server = server; mode = mode; said = Down }) last told))
unheld_told (Ask server Upgrade) reply.Down last told none = cc
unheld_told (Ask server asked) (reply.Held prefix dver) last told none = cc
unheld_told (Ask server asked) _ last told none = cc
unheld_told (Current prefix dver members) answer last told none = cc
unheld_told (Short had wanting busy) answer last told none = cc

-- so a reply with which there is a quorum shows a lock
pub quorum_shows : (c : Collector) (answer : Reply) (last : Told) → told_by (next c) answer ≡ Some last → has_quorum (next (tell last c)) ≡ true → shows_lock answer ≡ true
quorum_shows c answer last told quorum = at (shows_lock answer) refl
  where
    at : (b : Bool) → shows_lock answer ≡ b → b ≡ true
    at true is = refl
    at false is =
        let unheld = unheld_told (next c) answer last told is in
        let none : has_quorum (next (tell last c)) ≡ false = quorum_reached (tell last c) ∙ votes_same last unheld c ∙ too_few c answer last told in
        cc
