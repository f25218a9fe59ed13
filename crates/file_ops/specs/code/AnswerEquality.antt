-- When two replies, and the replies of two transactions, are the same. `==` tells it.
use Rattle.std.specs.Prelude.{◌≡◌, ◌==◌, nat_eq, Bool, true, false, List}
use Rattle.std.specs.Bool.{Decides}
use Rattle.std.specs.Cmp.{IsEquivalence, IsPartialEquivalence, partial_equiv_from_equiv, decided}
use Rattle.std.specs.Cmp.Lexicographic.{pointwise, pointwise_decides}
use Rattle.std.proofs.Common.{refl, ap}
use Rattle.std.proofs.lemmas.Bool.Decides.{Decides-eqb, Decides-like}
use Rattle.std.proofs.lemmas.Slice.Eq.{bytes_eq-Decides}
use Rattle.acl_core.specs.Pairs.{same_lists}
use Rattle.acl_core.proofs.ListsEquality.{same_lists_decides}
use Rattle.vote_core.specs.code.SameVotes.{same_votes, same_votes_decides}
use Rattle.suite_content.specs.Folders.{same_names}
use Rattle.suite_content.specs.code.Equality.{same_names_decides}
use Rattle.file_ops.specs.declared.answer.Answer.{Answer}
use Rattle.file_ops.specs.declared.answer.Answer.TheVariants as answer

abbrev pub same_answer : Answer → Answer → Bool
same_answer (answer.Read a) (answer.Read b) = pointwise nat_eq a b
same_answer answer.Wrote answer.Wrote = true
same_answer (answer.List a) (answer.List b) = same_names a b
same_answer (answer.Made a) (answer.Made b) = a == b
same_answer answer.Dropped answer.Dropped = true
same_answer (answer.Acl a) (answer.Acl b) = same_lists a b
same_answer answer.Set answer.Set = true
same_answer (answer.Votes a) (answer.Votes b) = same_votes a b
same_answer _ _ = false

abbrev pub same_answers : List Answer → List Answer → Bool
same_answers a b = pointwise same_answer a b

pub same_answer_decides : (a b : Answer) → Decides (same_answer a b) (a ≡ b)
same_answer_decides (answer.Read a) (answer.Read b) = Decides-like _ (ap answer.Read) (λ same. cc) (bytes_eq-Decides a b)
same_answer_decides answer.Wrote answer.Wrote = (λ same. refl, λ same. refl)
same_answer_decides (answer.List a) (answer.List b) = Decides-like _ (ap answer.List) (λ same. cc) (same_names_decides a b)
same_answer_decides (answer.Made a) (answer.Made b) = Decides-like _ (ap answer.Made) (λ same. cc) (Decides-eqb a b)
same_answer_decides answer.Dropped answer.Dropped = (λ same. refl, λ same. refl)
same_answer_decides (answer.Acl a) (answer.Acl b) = Decides-like _ (ap answer.Acl) (λ same. cc) (same_lists_decides a b)
same_answer_decides answer.Set answer.Set = (λ same. refl, λ same. refl)
same_answer_decides (answer.Votes a) (answer.Votes b) = Decides-like _ (ap answer.Votes) (λ same. cc) (same_votes_decides a b)
same_answer_decides _ _ = (λ same. cc, λ same. cc)

pub same_answers_decides : (a b : List Answer) → Decides (same_answers a b) (a ≡ b)
same_answers_decides a b = pointwise_decides same_answer_decides a b

pub same_answer_laws : IsEquivalence same_answer
same_answer_laws = decided same_answer same_answer_decides

pub same_answer_partial_laws : IsPartialEquivalence same_answer
same_answer_partial_laws = partial_equiv_from_equiv same_answer_laws

pub same_answers_laws : IsEquivalence same_answers
same_answers_laws = decided same_answers same_answers_decides

pub same_answers_partial_laws : IsPartialEquivalence same_answers
same_answers_partial_laws = partial_equiv_from_equiv same_answers_laws
