use Rattle.rep_core.proofs.Vocabulary.{◌≡◌, ◌+◌, ◌∷◌, [], ◌++◌, true, length, length-append, sym, ap, ◌∙◌, arith, rise}
use Rattle.rep_core.proofs.LockEdits.{put_front, moved}
use Rattle.rep_core.proofs.locks.move_all.Goals as goal

pub loop-lock-preserved : goal.loop-lock-preserved
loop-lock-preserved c =
    let before = c.loop-lock.few.items in
    let few = c.pop.new.self.items in
    let lock = c.in-Some.lock in
    let many = c.loop-lock.many.locks in
    let all : before ++ many ≡ few ++ lock ∷ many = ap (λ l. l ++ many) c.in-Some.ensures.items ∙ moved few lock many in
    let rising : rise (few ++ lock ∷ many) ≡ true = ap rise (sym all ∙ c.loop-lock.invariant.locks) ∙ c.requires.rising in
    let put : c.put.new.self.locks ≡ lock ∷ many = put_front few lock many c.put.new.self.locks rising c.put.ensures.put in
    let long : length before ≡ length few + 1 = ap length c.in-Some.ensures.items ∙ length-append few (lock ∷ []) in
    record {
      locks = ap (λ l. few ++ l) put ∙ sym all ∙ c.loop-lock.invariant.locks;
      room = omega (arith, c.loop-lock.invariant.room, long, c.put.ensures.room);
      fewer = omega (arith, c.loop-lock.invariant.fewer, long, c.put.ensures.room);
    }
