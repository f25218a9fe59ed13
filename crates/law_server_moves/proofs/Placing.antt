-- One server changes, and the machine with it.
use Rattle.law_server_moves.proofs.Vocabulary.{◌≡◌, ℕ, cond, ◌&&◌, refl, ap, ◌==◌, State, record_of, World, set1, set2, at1, itself, another, ShowsAt, verdict_of, arith}

-- ---- functions changed at one place, read there and elsewhere

pub here1 : {X : Type 0} (f : ℕ → X) (i : ℕ) (x : X) → set1 f i x i ≡ x
here1 f i x = ap (λ b. cond b x (f i)) (itself i i refl)

pub there1 : {X : Type 0} (f : ℕ → X) (i : ℕ) (x : X) (j : ℕ) → (j ≡ i → ⊥) → set1 f i x j ≡ f j
there1 f i x j apart = ap (λ b. cond b x (f j)) (another i j apart)

pub here2 : {X : Type 0} (f : ℕ → ℕ → X) (i t : ℕ) (x : X) (u : ℕ) → set2 f i t x i u ≡ cond (u == t) x (f i u)
here2 f i t x u = ap (λ b. cond (b && (u == t)) x (f i u)) (itself i i refl)

pub there2 : {X : Type 0} (f : ℕ → ℕ → X) (i t : ℕ) (x : X) (j u : ℕ) → (j ≡ i → ⊥) → set2 f i t x j u ≡ f j u
there2 f i t x j u apart = ap (λ b. cond (b && (u == t)) x (f j u)) (another i j apart)

-- ---- servers

-- what a server has does not depend on how it is named
at_name : (suite : ℕ) (st : State) (w : World) (i j : ℕ) → j ≡ i → ShowsAt suite st w i → ShowsAt suite st w j
at_name suite st w i j same shows = rw same shows

-- the machine at the changed server, and at the others
pub placed : (suite : ℕ) (servers : ℕ → State) (i : ℕ) (new : State) (w : World) → ShowsAt suite new w i → ((j : ℕ) → (j ≡ i → ⊥) → ShowsAt suite (servers j) w j) → (j : ℕ) → ShowsAt suite (set1 servers i new j) w j
placed suite servers i new w here there j = at1 (λ st. ShowsAt suite st w j) servers i new j (λ same. at_name suite new w i j same here) (there j)

-- the records stay, of those whose home it is
pub records_stay : (home : ℕ → ℕ) (servers : ℕ → State) (i : ℕ) (new : State) (t : ℕ) → (home t ≡ i → record_of new t ≡ record_of (servers i) t)
    → verdict_of (record_of (servers (home t)) t) ≡ verdict_of (record_of (set1 servers i new (home t)) t)
records_stay home servers i new t same = search arith
