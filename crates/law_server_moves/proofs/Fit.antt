-- What a take of a prefix or of a whole copy leaves is a take of the machine.
use Rattle.law_server_moves.proofs.Vocabulary.{◌≡◌, ℕ, true, false, cond, List, [], ◌∷◌, length, refl, sym, ap, ◌∙◌, arith, ◌==◌, not, nat_lt, false≢true, nat_tests, Content, Prefix, Replica, is_valid_copy, is_absent, is_empty, holds, version_agrees}
use Rattle.law_server_moves.proofs.Vocabulary.{Change, empty_of, IsTake, GoesBy}
use Rattle.suite_prefix.specs.declared.copies.PrefixKind.{PrefixKind}
use Rattle.rep_core.specs.declared.request.Take.{Take}
use Rattle.rep_core.specs.Store as server

no_items : {X : Type 0} (xs : List X) → (length xs == 0) ≡ true → xs ≡ []
no_items [] e = refl
no_items (x ∷ xs) e = absurd (grind (arith, nat_tests))

empty_kind : (prefix : Prefix) (kind : PrefixKind) → prefix.kind ≡ kind → (content : Content) → holds kind content ≡ true → is_empty content ≡ true → content ≡ empty_of (record prefix { kind = kind })
empty_kind prefix kind h2 content h4 h5 = search (no_items, arith)

record Parts (copy : Replica) : Type 0 where
  pub holds : holds copy.prefix.kind copy.content ≡ true
  pub version : version_agrees copy ≡ true

parts : (copy : Replica) → is_valid_copy copy ≡ true → Parts copy
parts copy valid = search arith

is_none : (d : ℕ) → d ≡ 0 → nat_lt 0 d ≡ false
is_none d e = rw e refl

empty_if : (copy : Replica) → is_valid_copy copy ≡ true → copy.dver ≡ 0 → copy.content ≡ empty_of copy.prefix
empty_if copy valid none =
    let p = parts copy valid in
    let e : is_empty copy.content ≡ true = ap (λ b. cond b (not (is_absent copy.prefix.kind)) (is_empty copy.content)) (sym (is_none copy.dver none)) ∙ p.version in
    empty_kind copy.prefix copy.prefix.kind refl copy.content p.holds e

-- a valid copy of an absent prefix is of version 0
absent_zero : (copy : Replica) → is_valid_copy copy ≡ true → is_absent copy.prefix.kind ≡ true → copy.dver ≡ 0
absent_zero copy valid absent = search arith

-- what a take leaves is a take of the machine, of a change that it goes by
pub take_is : (what : Take) (copy : Replica) (new : Change) → server.is_keep what ≡ false → GoesBy what new → is_valid_copy copy ≡ true → is_valid_copy (server.left_by what copy) ≡ true → IsTake copy new (server.left_by what copy)
take_is what copy new h3 h4 h5 h6 = search (false≢true, absent_zero, empty_if, arith)
