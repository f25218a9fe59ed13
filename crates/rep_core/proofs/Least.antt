-- Of rising locks the first that passes a test is that of the least transaction; and a transaction has one lock on a suite at most.
use Rattle.rep_core.proofs.Vocabulary.{◌≡◌, ℕ, ◌≤◌, Bool, true, List, [], ◌∷◌, Option, Some, None, sym, subst, ◌∙◌, arith, find, and_parts, false≢true, nat_tests, same_Some, LockMode, Lock, Request, before, rise, conflicts, in_the_way}
use Rattle.rep_core.proofs.Vocabulary.{copy_of, State, locking_reply, reply_up, reply_down, reply_of, stands_against, IsLeastHolder}
use Rattle.rep_core.specs.declared.reply.Reply.TheVariants as reply
use Rattle.rep_core.proofs.Members.{Has, has_from, contains_from, all_at}
use Rattle.rep_core.proofs.Finding.{find_some}

not_below : (a b : Lock) → before a b ≡ true → a.t ≤ b.t
not_below a b is = grind (arith, nat_tests)

pub least : (p : Lock → Bool) (ls : List Lock) (first other : Lock) → rise ls ≡ true → find p ls ≡ Some first → Has ls other → p other ≡ true → first.t ≤ other.t
least p [] first other up is there passes = absurd there
least p (l ∷ ls) first other up is there passes = search (and_parts, same_Some, not_below, all_at, false≢true, least p ls first other, arith)

not_before_same : (a b : Lock) → before a b ≡ true → a.t ≡ b.t → a.suite ≡ b.suite → ⊥
not_before_same a b is t suite = grind (arith, nat_tests)

pub same_lock : (ls : List Lock) (a b : Lock) → rise ls ≡ true → Has ls a → Has ls b → a.t ≡ b.t → a.suite ≡ b.suite → a ≡ b
same_lock [] a b up has_a has_b t suite = absurd has_a
same_lock (l ∷ ls) a b up has_a has_b t suite = search (and_parts, not_before_same, all_at, same_lock ls a b, arith)

-- ---- Busy

module _ (st : State) (up : rise st.locks ≡ true) where
  named : (asked : Request) (t suite : ℕ) (mode : LockMode) → ((lock : Lock) → stands_against asked lock ≡ conflicts t suite mode lock)
      → (holder : ℕ) (prepared : Bool) (other : Option Lock) → in_the_way t suite mode st.locks ≡ other → locking_reply other (copy_of st.store suite) ≡ reply.Busy holder prepared
      → IsLeastHolder st.locks asked holder prepared
  named asked t suite mode same holder prepared None is said = absurd cc
  named asked t suite mode same holder prepared (Some lock) is said =
      let holds : lock.t ≡ holder = cc in
      let found = find_some (conflicts t suite mode) st.locks lock is in
      record {
        lock = lock;
        there = contains_from st.locks lock found.0;
        of_holder = holds;
        is_prepared = let ready : lock.prepared ≡ prepared = cc in ready;
        conflicts = same lock ∙ found.1;
        least = λ other there against. subst (λ t. t ≤ other.t) holds (least (conflicts t suite mode) st.locks lock other up is (has_from st.locks other there) (sym (same other) ∙ against));
      }

  busy_up : (asked : Request) (holder : ℕ) (prepared : Bool) → reply_up st asked ≡ reply.Busy holder prepared → IsLeastHolder st.locks asked holder prepared
  busy_up asked holder prepared h3 = search (named, arith)

  never_busy : (asked : Request) (holder : ℕ) (prepared : Bool) → reply_down asked ≡ reply.Busy holder prepared → ⊥
  never_busy asked holder prepared h3 = search arith

  pub busy_least : (asked : Request) (holder : ℕ) (prepared : Bool) → reply_of st asked ≡ reply.Busy holder prepared → IsLeastHolder st.locks asked holder prepared
  busy_least asked holder prepared said = search (busy_up, never_busy, arith)
