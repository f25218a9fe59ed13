-- Reading so many of a kind one after the other, as a loop does.
use Rattle.suite_prefix.proofs.Vocabulary.{◌≡◌, ℕ, zero, suc, ◌-◌, ◌+◌, ◌≤◌, ◌<◌, List, [], ◌∷◌, ◌++◌, length, Result, Ok, Err, refl, sym, ap, ◌∙◌, append_assoc, arith, append-nil, IsOk, CopyFault, ◌>>=◌, Reads, listed}
use Rattle.suite_prefix.specs.Reading.{many_at}

-- what was read before, and what is still read
abbrev pub with_front : {X : Type 0} → List X → Result (List X × List ℕ) CopyFault → Result (List X × List ℕ) CopyFault
with_front front read = read >>= λ x. Ok (front ++ x.0, x.1)

regroup : {X : Type 0} (front : List X) (x : X) (read : Result (List X × List ℕ) CopyFault) → with_front front (read >>= λ y. Ok (x ∷ y.0, y.1)) ≡ with_front (front ++ x ∷ []) read
regroup front x (Ok y) = ap (λ (xs : List _). Ok (xs, y.1)) (simp append_assoc)
regroup front x (Err f) = refl

pub goes_on : {X : Type 0} (one : List ℕ → Result (X × List ℕ) CopyFault) (front : List X) (count i : ℕ) (bytes : List ℕ) (x : X) (after : List ℕ) (total : Result (List X × List ℕ) CopyFault) → i < count → one bytes ≡ Ok (x, after)
    → with_front front (many_at one (count - i) bytes) ≡ total → with_front (front ++ x ∷ []) (many_at one (count - (i + 1)) after) ≡ total
unfolding many_at
goes_on one front count i bytes x after total lt h so_far =
    let k : count - i ≡ suc (count - (i + 1)) = omega arith in
    let step : with_front front (many_at one (count - i) bytes) ≡ with_front (front ++ x ∷ []) (many_at one (count - (i + 1)) after) = rw (k, h) (regroup front x (many_at one (count - (i + 1)) after)) in
    sym step ∙ so_far

pub ends : {X : Type 0} (one : List ℕ → Result (X × List ℕ) CopyFault) (fault : CopyFault) (front : List X) (count i : ℕ) (bytes : List ℕ) (total : Result (List X × List ℕ) CopyFault) → i < count → one bytes ≡ Err fault
    → with_front front (many_at one (count - i) bytes) ≡ total → total ≡ Err fault
unfolding many_at
ends one fault front count i bytes total lt h so_far = search arith

pub is_done : {X : Type 0} (one : List ℕ → Result (X × List ℕ) CopyFault) (front : List X) (count i : ℕ) (bytes : List ℕ) (total : Result (List X × List ℕ) CopyFault) → count ≤ i
    → with_front front (many_at one (count - i) bytes) ≡ total → total ≡ Ok (front, bytes)
unfolding many_at
is_done one front count i bytes total le so_far = search (append-nil, arith)

-- without the front: where the rest ends
abbrev pub rest_in : {X : Type 0} → Result (List X × List ℕ) CopyFault → Result (List ℕ) CopyFault
rest_in (Ok read) = Ok read.1
rest_in (Err fault) = Err fault

abbrev in_ok : List ℕ → Result (List ℕ) CopyFault → List ℕ
in_ok other (Ok rest) = rest
in_ok other (Err fault) = other

pub read_to : {X : Type 0} (read : Result (List X × List ℕ) CopyFault) (rest : List ℕ) → rest_in read ≡ Ok rest → read ≡ Ok (listed read, rest)
read_to (Ok x) rest e = ap (λ (t : List ℕ). Ok (x.0, t)) (ap (in_ok []) e)
read_to (Err fault) rest e = absurd cc

pub read_fails : {X : Type 0} (read : Result (List X × List ℕ) CopyFault) (fault : CopyFault) → rest_in read ≡ Err fault → read ≡ Err fault
read_fails (Ok x) fault e = absurd cc
read_fails (Err other) fault e = cc

pub rest_goes_on : {X : Type 0} (one : List ℕ → Result (X × List ℕ) CopyFault) (count i : ℕ) (bytes : List ℕ) (x : X) (after : List ℕ) → i < count → one bytes ≡ Ok (x, after)
    → rest_in (many_at one (count - i) bytes) ≡ rest_in (many_at one (count - (i + 1)) after)
unfolding many_at
rest_goes_on one count i bytes x after lt h = search arith

pub rest_ends : {X : Type 0} (one : List ℕ → Result (X × List ℕ) CopyFault) (count i : ℕ) (bytes : List ℕ) (fault : CopyFault) → i < count → one bytes ≡ Err fault → rest_in (many_at one (count - i) bytes) ≡ Err fault
unfolding many_at
rest_ends one count i bytes fault lt h = search arith

pub rest_done : {X : Type 0} (one : List ℕ → Result (X × List ℕ) CopyFault) (count i : ℕ) (bytes : List ℕ) → count ≤ i → rest_in (many_at one (count - i) bytes) ≡ Ok bytes
unfolding many_at
rest_done one count i bytes le = let k : count - i ≡ 0 = omega arith in rw k refl

-- ---- the first of what was read whole

-- so many were read, and not too few
abbrev pub IsRead : {X : Type 0} → Result (List X × List ℕ) CopyFault → Type 0
IsRead {X} read = IsOk {T = List X × List ℕ} {E = CopyFault} read

pub record Splits {X : Type 0} (one : List ℕ → Result (X × List ℕ) CopyFault) (count : ℕ) (bytes : List ℕ) (x : X) (after : List ℕ) : Type 0 where
  pub first : listed (many_at one (suc count) bytes) ≡ x ∷ listed (many_at one count after)
  pub whole : IsRead (many_at one count after)

-- one more before them
abbrev then_first : {X : Type 0} → X → Result (List X × List ℕ) CopyFault → Result (List X × List ℕ) CopyFault
then_first x read = read >>= λ y. Ok (x ∷ y.0, y.1)

pub splits : {X : Type 0} (one : List ℕ → Result (X × List ℕ) CopyFault) (count : ℕ) (bytes : List ℕ) (x : X) (after : List ℕ) → one bytes ≡ Ok (x, after) → IsRead (many_at one (suc count) bytes) → Splits one count bytes x after
unfolding many_at
splits one count bytes x after h ok = search arith

pub never_fails : {X : Type 0} (one : List ℕ → Result (X × List ℕ) CopyFault) (count : ℕ) (bytes : List ℕ) (fault : CopyFault) → one bytes ≡ Err fault → IsRead (many_at one (suc count) bytes) → ⊥
unfolding many_at
never_fails one count bytes fault h ok = let bad = rw h at ok in absurd cc

bound_length : {X : Type 0} (n : ℕ) (x : X) (read : Result (List X × List ℕ) CopyFault) → (IsRead read → length (listed read) ≡ n) → IsRead (then_first x read) → length (listed (then_first x read)) ≡ suc n
bound_length n x (Ok y) others ok = ap suc (others refl)
bound_length n x (Err fault) others ok = absurd cc

first_and : {X : Type 0} (one : List ℕ → Result (X × List ℕ) CopyFault) (n : ℕ) (first : Result (X × List ℕ) CopyFault)
    → ((bytes : List ℕ) → IsRead (many_at one n bytes) → length (listed (many_at one n bytes)) ≡ n)
    → IsRead (first >>= λ x. then_first x.0 (many_at one n x.1)) → length (listed (first >>= λ x. then_first x.0 (many_at one n x.1))) ≡ suc n
first_and one n (Ok x) others ok = bound_length n x.0 (many_at one n x.1) (others x.1) ok
first_and one n (Err fault) others ok = absurd cc

-- so many are read
pub length_listed : {X : Type 0} (one : List ℕ → Result (X × List ℕ) CopyFault) (count : ℕ) (bytes : List ℕ) → IsRead (many_at one count bytes) → length (listed (many_at one count bytes)) ≡ count
unfolding many_at
length_listed one zero bytes ok = refl
length_listed one (suc n) bytes ok = first_and one n (one bytes) (length_listed one n) ok

-- ---- what a call of a reader says of reading

pub ok_is : {A : Type 0} (x y : A) → ◌≡◌ {A = Result A CopyFault} (Ok x) (Ok y) → x ≡ y
ok_is x y e = cc

pub reads_ok : {X Y : Type 0} (view : X → Y) (r : Result X CopyFault) (read : Result Y CopyFault) (x : X) → r ≡ Ok x → Reads view r read → read ≡ Ok (view x)
reads_ok view (Ok y) read x e h = h ∙ ap (λ z. Ok (view z)) (ok_is y x e)
reads_ok view (Err fault) read x e h = absurd cc

pub reads_some : {X Y : Type 0} (one : List ℕ → Result (Y × List ℕ) CopyFault) (view : X → Y × List ℕ) (r : Result X CopyFault) (count : ℕ) (bytes : List ℕ) → 0 < count
    → Reads view r (one bytes) → IsRead (many_at one count bytes) → IsOk r
reads_some one view (Ok x) count bytes some h ok = refl
reads_some one view (Err fault) zero bytes some h ok = absurd (omega arith)
reads_some one view (Err fault) (suc n) bytes some h ok = absurd (never_fails one n bytes fault h ok)

pub none_listed : {X : Type 0} (one : List ℕ → Result (X × List ℕ) CopyFault) (bytes : List ℕ) → listed (many_at one 0 bytes) ≡ []
unfolding many_at
none_listed one bytes = refl

pub splits_below : {X : Type 0} (one : List ℕ → Result (X × List ℕ) CopyFault) (count : ℕ) (bytes : List ℕ) (x : X) (after : List ℕ) → 0 < count → one bytes ≡ Ok (x, after) → IsRead (many_at one count bytes)
    → (listed (many_at one count bytes) ≡ x ∷ listed (many_at one (count - 1) after)) × IsRead (many_at one (count - 1) after)
splits_below one zero bytes x after some h ok = absurd (omega arith)
splits_below one (suc n) bytes x after some h ok =
    let s = splits one n bytes x after h ok in
    let down : suc n - 1 ≡ n = omega arith in
    rw down (s.first, s.whole)
