-- Agents with their passes, which are taken out and come back.
use Rattle.agent_pool.proofs.Vocabulary.{◌≡◌, ◌≢◌, ℕ, zero, suc, ◌+◌, ◌-◌, ◌<◌, Bool, true, false, cond, List, [], ◌∷◌, ◌++◌, length, drop, subst, refl, ap}
use Rattle.agent_pool.proofs.Vocabulary.{◌∙◌, sym, arith, All, slice_get, slice_index_or, Option, Some, None, ◌==◌, AllZip, remove, eq-eqb, ne_eqb, All-head}
use Rattle.agent_pool.proofs.Vocabulary.{All-tail, passes_by, seat_of, Held, SeatedAgent, AreDistinct, HasPass, IsOther, numbers_of, passes_for, AreSeated}
use Rattle.agent_pool.proofs.Vocabulary.{IsSeated, IsTakenOut, Played, number_of}
use Rattle.std.proofs.Common.{take}

-- ---- a pass among passes

pub own_cons : (agent : ℕ) (x : Held) (xs : List Held) → x.agent ≡ Some agent → passes_for agent (x ∷ xs) ≡ x ∷ passes_for agent xs
own_cons agent x xs of = ap (λ b. cond b (x ∷ passes_for agent xs) (passes_for agent xs)) (eq-eqb (seat_of x.agent) (agent + 1) (ap seat_of of))

same_seat : (a b : Option ℕ) → seat_of a ≡ seat_of b → a ≡ b
same_seat None None e = refl
same_seat None (Some b) e = absurd (omega arith)
same_seat (Some a) None e = absurd (omega arith)
same_seat (Some a) (Some b) e = ap Some (omega arith)

pub other_cons : (asker : Option ℕ) (agent : ℕ) (x : Held) (xs : List Held) → x.agent ≡ Some agent → asker ≢ Some agent → passes_by asker (x ∷ xs) ≡ passes_by asker xs
other_cons asker agent x xs of other =
    ap (λ b. cond b (x ∷ passes_by asker xs) (passes_by asker xs)) (ne_eqb (seat_of x.agent) (seat_of asker) (λ e. other (sym (same_seat x.agent asker e) ∙ of)))

-- the same in front of both
cons_own : (b : Bool) (y x : Held) (xs ys : List Held) → xs ≡ ys ++ x ∷ [] → cond b (y ∷ xs) xs ≡ cond b (y ∷ ys) ys ++ x ∷ []
cons_own true y x xs ys e = ap (λ zs. y ∷ zs) e
cons_own false y x xs ys e = e

cons_same : (b : Bool) (y : Held) (xs ys : List Held) → xs ≡ ys → cond b (y ∷ xs) xs ≡ cond b (y ∷ ys) ys
cons_same b y xs ys e = ap (λ zs. cond b (y ∷ zs) zs) e

-- the last of an agent's passes is taken out
pub taken_own : (agent : ℕ) (x : Held) (before after : List Held) → x.agent ≡ Some agent → passes_for agent after ≡ [] → passes_for agent (before ++ x ∷ after) ≡ passes_for agent (before ++ after) ++ x ∷ []
taken_own agent x [] after of last = own_cons agent x after of ∙ ap (λ zs. x ∷ zs) last ∙ ap (λ zs. zs ++ x ∷ []) (sym last)
taken_own agent x (y ∷ before) after of last = cons_own (seat_of y.agent == agent + 1) y x (passes_for agent (before ++ x ∷ after)) (passes_for agent (before ++ after)) (taken_own agent x before after of last)

pub taken_other : (asker : Option ℕ) (agent : ℕ) (x : Held) (before after : List Held) → x.agent ≡ Some agent → asker ≢ Some agent → passes_by asker (before ++ after) ≡ passes_by asker (before ++ x ∷ after)
taken_other asker agent x [] after of other = sym (other_cons asker agent x after of other)
taken_other asker agent x (y ∷ before) after of other = cons_same (seat_of y.agent == seat_of asker) y (passes_by asker (before ++ after)) (passes_by asker (before ++ x ∷ after)) (taken_other asker agent x before after of other)

split_at : (xs : List Held) (k : ℕ) (d : Held) → k < length xs → xs ≡ take k xs ++ slice_index_or xs k d ∷ drop (suc k) xs
split_at [] k d low = absurd (omega arith)
split_at (x ∷ xs) zero d low = refl
split_at (x ∷ xs) (suc k) d low = ap (λ zs. x ∷ zs) (split_at xs k d (omega arith))

pub taken_out : (agent k : ℕ) (x : Held) (xs new : List Held) → k < length xs → slice_index_or xs k x ≡ x → x.agent ≡ Some agent → passes_for agent (drop (suc k) xs) ≡ [] → new ≡ remove xs k → IsTakenOut agent xs new x
taken_out agent k x xs new low at of last is =
    let split : xs ≡ take k xs ++ x ∷ drop (suc k) xs = split_at xs k x low ∙ ap (λ y. take k xs ++ y ∷ drop (suc k) xs) at in
    record {
      own = ap (λ zs. passes_for agent zs) split ∙ taken_own agent x (take k xs) (drop (suc k) xs) of last ∙ ap (λ zs. passes_for agent zs ++ x ∷ []) (sym is);
      others = λ asker other. ap (λ zs. passes_by asker zs) is ∙ taken_other asker agent x (take k xs) (drop (suc k) xs) of other ∙ ap (λ zs. passes_by asker zs) (sym split);
      of = of;
    }

-- a pass that is not the agent's is passed over
pub passed_over : (agent k : ℕ) (d : Held) (xs : List Held) → k < length xs → (slice_index_or xs k d).agent ≢ Some agent → passes_for agent (drop (suc k) xs) ≡ [] → passes_for agent (drop k xs) ≡ []
passed_over agent k d [] low other last = absurd (omega arith)
passed_over agent zero d (x ∷ xs) low other last = ap (λ b. cond b (x ∷ passes_for agent xs) (passes_for agent xs)) (ne_eqb (seat_of x.agent) (agent + 1) (λ e. other (same_seat x.agent (Some agent) e))) ∙ last
passed_over agent (suc k) d (x ∷ xs) low other last = passed_over agent k d xs (omega arith) other last

-- ---- distinct agents

pub number_in : (ys : List Played) (x : Played) (zs : List Played) → slice_get (numbers_of (ys ++ x ∷ zs)) (length ys) ≡ Some (number_of x)
number_in [] x zs = refl
number_in (y ∷ ys) x zs = number_in ys x zs

pub others_before : (ys : List Played) (x : Played) (zs : List Played) → AreDistinct (numbers_of (ys ++ x ∷ zs)) → IsOther ys (Some (number_of x))
others_before [] x zs distinct = tt
others_before (y ∷ ys) x zs distinct = (
  (λ e. let same = distinct 0 (suc (length ys)) (number_of x) (sym e) (number_in ys x zs) in omega arith),
  others_before ys x zs (λ i j n at there. let e = distinct (suc i) (suc j) n at there in omega arith),
)

-- each is another than those after it
abbrev pub AreApartFrom : List Played → Type 0
AreApartFrom [] = Unit {0}
AreApartFrom (player ∷ players) = IsOther players (Some (number_of player)) × AreApartFrom players

other_after : (n : ℕ) (players : List Played) → ((j : ℕ) → slice_get (numbers_of players) j ≢ Some n) → IsOther players (Some n)
other_after n [] none = tt
other_after n (p ∷ players) none = ((λ e. none 0 (sym e)), other_after n players (λ j. none (suc j)))

pub apart_from : (players : List Played) → AreDistinct (numbers_of players) → AreApartFrom players
apart_from [] distinct = tt
apart_from (p ∷ players) distinct = (
  other_after (number_of p) players (λ j at. let e = distinct 0 (suc j) (number_of p) refl at in omega arith),
  apart_from players (λ i j n at there. let e = distinct (suc i) (suc j) n at there in omega arith),
)

-- ---- agents who take their seats

others_split : (ys : List Played) (x : Played) (asker : Option ℕ) → IsOther (ys ++ x ∷ []) asker → IsOther ys asker × (asker ≢ Some (number_of x))
others_split [] x asker other = (tt, other.0)
others_split (y ∷ ys) x asker other = let more = others_split ys x asker other.1 in ((other.0, more.0), more.1)

still_seated : (old mid left : List Held) (n : ℕ) (pass : Held) → IsTakenOut n mid left pass → (players : List Played) (seats : List SeatedAgent) → IsOther players (Some n)
    → AllZip (IsSeated old mid) players seats → AllZip (IsSeated old left) players seats
still_seated old mid left n pass out [] [] other all = tt
still_seated old mid left n pass out [] (s ∷ seats) other all = absurd all
still_seated old mid left n pass out (p ∷ players) [] other all = absurd all
still_seated old mid left n pass out (p ∷ players) (s ∷ seats) other all =
    let one = all.0 in (
      record { sits = one.sits; own = one.own ∙ ap (λ zs. zs ++ s.pass ∷ []) (sym (out.others (Some (number_of p)) (λ e. other.0 (sym e)))); of = one.of },
      still_seated old mid left n pass out players seats other.1 all.1,
    )

zip_push : {A B : Type 0} (R : A → B → Type 0) (xs : List A) (ys : List B) (x : A) (y : B) → AllZip R xs ys → R x y → AllZip R (xs ++ x ∷ []) (ys ++ y ∷ [])
zip_push R [] [] x y all one = (one, tt)
zip_push R [] (b ∷ ys) x y all one = absurd all
zip_push R (a ∷ xs) [] x y all one = absurd all
zip_push R (a ∷ xs) (b ∷ ys) x y all one = (all.0, zip_push R xs ys x y all.1 one)

-- one more takes its seat
pub seated_more : (old mid left : List Held) (players : List Played) (seats more : List SeatedAgent) (x : Played) (pass : Held) (seat : SeatedAgent)
    → IsOther players (Some (number_of x)) → AreSeated old mid players seats → IsTakenOut (number_of x) mid left pass
    → seat.player ≡ x → seat.pass ≡ pass → more ≡ seats ++ seat ∷ [] → AreSeated old left (players ++ x ∷ []) more
seated_more old mid left players seats more x pass seat other was out sits has is =
    let one : IsSeated old left x seat = record {
      sits = sits;
      own = sym (was.others (Some (number_of x)) other) ∙ out.own ∙ ap (λ (p : Held). passes_for (number_of x) left ++ p ∷ []) (sym has);
      of = ap (λ (p : Held). p.agent) has ∙ out.of;
    } in
    record {
      each = subst (λ (ss : List SeatedAgent). AllZip (IsSeated old left) (players ++ x ∷ []) ss) (sym is)
          (zip_push (IsSeated old left) players seats x seat (still_seated old mid left (number_of x) pass out players seats other was.each) one);
      others = λ asker among. let two = others_split players x asker among in out.others asker two.1 ∙ was.others asker two.0;
    }

-- there is a pass for whoever comes next
all_middle : (P : Played → Type 0) (ys : List Played) (x : Played) (zs : List Played) → All P (ys ++ x ∷ zs) → P x
all_middle P [] x zs all = All-head P x zs all
all_middle P (y ∷ ys) x zs all = all_middle P ys x zs (All-tail P y (ys ++ x ∷ zs) all)

pub none_left : (old mid : List Held) (players : List Played) (seats : List SeatedAgent) (x : Played) (zs : List Played) → AreDistinct (numbers_of (players ++ x ∷ zs))
    → All (HasPass old) (players ++ x ∷ zs) → AreSeated old mid players seats
    → passes_for (number_of x) mid ≡ [] → ⊥
none_left old mid players seats x zs distinct all was none =
    all_middle (HasPass old) players x zs all (sym (was.others (Some (number_of x)) (others_before players x zs distinct)) ∙ none)

same_at : (xs : List Held) (k : ℕ) (d e : Held) → k < length xs → slice_index_or xs k d ≡ slice_index_or xs k e
same_at [] k d e low = absurd (omega arith)
same_at (x ∷ xs) zero d e low = refl
same_at (x ∷ xs) (suc k) d e low = same_at xs k d e (omega arith)

-- the pass that was looked at is the one that is taken out
pub taken_at : (agent at : ℕ) (x seen : Held) (xs new : List Held) → at - 1 < length xs → 0 < at → x ≡ slice_index_or xs (at - 1) x → seen ≡ slice_index_or xs (at - 1) seen → seen.agent ≡ Some agent → passes_for agent (drop at xs) ≡ []
    → new ≡ remove xs (at - 1) → IsTakenOut agent xs new x
taken_at agent at x seen xs new low above is saw of last cut =
    let next : suc (at - 1) ≡ at = omega arith in
    taken_out agent (at - 1) x xs new low (sym is) (ap (λ (p : Held). p.agent) (is ∙ same_at xs (at - 1) x seen low ∙ sym saw) ∙ of) (ap (λ n. passes_for agent (drop n xs)) next ∙ last) cut
