-- Names are the same where their lengths and all their places are.
use Rattle.suite_content.proofs.Vocabulary.{◌≡◌, ℕ, ◌&&◌, nat_eq, List, length, take, ap, sym, ◌∙◌, pointwise, Decides-eqb, Decides-and, Decides-like, same_from_decides, IsPadded, padded, padded-take, kept_length}
use Rattle.std.proofs.lemmas.Slice.Eq.{bytes_eq-Decides}

pub same_places : (n m : ℕ) (xs ys : List ℕ) → IsPadded n xs → IsPadded m ys → (nat_eq n m && pointwise nat_eq xs ys) ≡ pointwise nat_eq (take n xs) (take m ys)
same_places n m xs ys own other =
    let kept : (n ≡ m) × (xs ≡ ys) → take n xs ≡ take m ys = λ same. λ i. take (same.0 i) (same.1 i) in
    let all : take n xs ≡ take m ys → (n ≡ m) × (xs ≡ ys) = λ same. (
      sym (kept_length n xs own) ∙ ap length same ∙ kept_length m ys other,
      sym (padded-take n xs own) ∙ ap padded same ∙ padded-take m ys other,
    ) in
    let wide = Decides-like _ kept all (Decides-and (nat_eq n m) (pointwise nat_eq xs ys) (Decides-eqb n m) (bytes_eq-Decides xs ys)) in
    same_from_decides _ _ wide (bytes_eq-Decides (take n xs) (take m ys))
