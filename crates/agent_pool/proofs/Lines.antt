-- Each move keeps the rule of the channel.
use Rattle.agent_pool.proofs.Vocabulary.{◌≡◌, ◌≢◌, ◌⊎◌, inl, inr, ℕ, zero, suc, ◌+◌, ◌<◌, ◌≤◌, Bool, true, false, true≢false, length, List, [], ◌∷◌, ◌++◌, set}
use Rattle.agent_pool.proofs.Vocabulary.{sym, refl, ap, ◌∙◌, subst, ⊎_elim, append_assoc, arith, Some, slice_get, length-append, same_Some, Pushes, Pops}
use Rattle.agent_pool.proofs.Vocabulary.{Forks, Merges, at_set, at_snoc, Hand, PoolItem, End}
use Rattle.std.proofs.lemmas.List.{append-nil}
use Rattle.crossbeam_channel.specs.Fifo.{Learns}
use Rattle.agent_pool.specs.declared.line.PoolItem.TheVariants.{Job}
use mathlib.Core.Option.{some, some-injective, some-ne-none}
use lib.ListN.{get_elem?}
use Rattle.agent_pool.specs.Line.{
  feeder,
  spent,
  taker,
  after_put,
  after_take,
  either_one,
  jobs_below,
  marks,
  one_if,
  one_that_takes,
  places_below,
  places_in,
  total,
  weigh,
  with_taken,
  with_taker,
  IsEachOnce,
  IsKnown,
  IsTaker,
  MayPut,
  TakesItem,
  TookAll,
}

-- ---- what is added up

total_set : (f : Hand → ℕ) (hands : List Hand) (seat : ℕ) (v w : Hand) → get_elem? hands seat ≡ some v → total f (set hands seat w) + f v ≡ total f hands + f w
total_set f [] seat v w e = absurd (some-ne-none v (sym e))
total_set f (x ∷ xs) zero v w e = let same = ap f (some-injective x v e) in omega arith
total_set f (x ∷ xs) (suc seat) v w e = let more = total_set f xs seat v w e in omega arith

total_snoc : (f : Hand → ℕ) (hands : List Hand) (w : Hand) → total f (hands ++ w ∷ []) ≡ total f hands + f w
total_snoc f [] w = omega arith
total_snoc f (x ∷ xs) w = let more = total_snoc f xs w in omega arith

one_of_total : (f : Hand → ℕ) (hands : List Hand) (seat : ℕ) (v : Hand) → get_elem? hands seat ≡ some v → f v ≤ total f hands
one_of_total f [] seat v e = absurd (some-ne-none v (sym e))
one_of_total f (x ∷ xs) zero v e = let same = ap f (some-injective x v e) in omega arith
one_of_total f (x ∷ xs) (suc seat) v e = let more = one_of_total f xs seat v e in omega arith

total_none : (f : Hand → ℕ) (hands : List Hand) → ((j : ℕ) (u : Hand) → get_elem? hands j ≡ some u → f u ≡ 0) → total f hands ≡ 0
total_none f [] none = refl
total_none f (x ∷ xs) none = let one = none 0 x refl in let more = total_none f xs (λ j u e. none (suc j) u e) in omega arith

total_only : (f : Hand → ℕ) (hands : List Hand) (seat : ℕ) (v : Hand) → get_elem? hands seat ≡ some v → ((j : ℕ) (u : Hand) → j ≢ seat → get_elem? hands j ≡ some u → f u ≡ 0) → total f hands ≡ f v
total_only f [] seat v e none = absurd (some-ne-none v (sym e))
total_only f (x ∷ xs) zero v e none =
    let same = ap f (some-injective x v e) in
    let more = total_none f xs (λ j u at. none (suc j) u (λ is. omega arith) at) in
    omega arith
total_only f (x ∷ xs) (suc seat) v e none =
    let one = none 0 x (λ is. omega arith) refl in
    let more = total_only f xs seat v e (λ j u other at. none (suc j) u (λ is. other (omega arith)) at) in
    omega arith

pub weigh_append : (h : ℕ → ℕ) (xs ys : List ℕ) → weigh h (xs ++ ys) ≡ weigh h xs + weigh h ys
weigh_append h [] ys = omega arith
weigh_append h (x ∷ xs) ys = let more = weigh_append h xs ys in omega arith

places_append : (xs ys : List PoolItem) → places_in (xs ++ ys) ≡ places_in xs ++ places_in ys
places_append [] ys = refl
places_append (End ∷ xs) ys = places_append xs ys
places_append (Job place ∷ xs) ys = ap (λ ps. place ∷ ps) (places_append xs ys)

-- ---- all hands

abbrev AllKnown : ℕ → ℕ → ℕ → ℕ → ℕ → List Hand → Type 0
AllKnown put ends takers back gone hands = (seat : ℕ) (hand : Hand) → get_elem? hands seat ≡ some hand → IsKnown put ends takers back gone seat hand

all_set : (P : ℕ → Hand → Type 0) (seat : ℕ) (v w : Hand) (hands : List Hand) → ((j : ℕ) (u : Hand) → j ≢ seat → get_elem? hands j ≡ some u → P j u) → P seat w → (j : ℕ) (u : Hand) → get_elem? (set hands seat w) j ≡ some u → P j u
all_set P seat v w hands others here j u e =
    ⊎_elim (λ (x : (j ≡ seat) × (w ≡ u)). subst (λ (i : ℕ). P i u) (sym x.0) (subst (λ (h : Hand). P seat h) x.1 here))
    (λ (x : (j ≢ seat) × (get_elem? hands j ≡ some u)). others j u x.0 x.1) (at_set hands seat j w u e)

-- another hand than the one that puts does not put
other_puts : (put ends takers back gone seat j : ℕ) (v u : Hand) (hands : List Hand) → AllKnown put ends takers back gone hands → get_elem? hands seat ≡ some v → v.puts ≡ true → j ≢ seat → get_elem? hands j ≡ some u → u.puts ≡ true → ⊥
other_puts put ends takers back gone seat j v u hands all at puts other there also =
    other (((all j u there).puts also).0 ∙ sym ((all seat v at).puts puts).0)

first_known : AllKnown 0 0 0 0 0 (feeder 0 0 0 ∷ [])
first_known zero hand e =
    subst (λ (h : Hand). IsKnown 0 0 0 0 0 0 h) (some-injective (feeder 0 0 0) hand e)
    (record { puts = λ p. (refl, refl, refl, refl, refl, refl); low = omega arith; idle = λ p t. refl; ended = λ p. absurd (true≢false (sym p)) })
first_known (suc seat) hand e = absurd (some-ne-none hand (sym e))

pub begins : IsEachOnce [] (feeder 0 0 0 ∷ [])
begins = record { put = 0; ends = 0; takers = 0; back = 0; gone = []; split = refl; few = omega arith; out = refl; taken = λ h. refl; known = first_known }

pub puts_end : (n seat : ℕ) (v : Hand) → v.puts ≡ true → v.ends < v.takers → Pushes IsEachOnce n seat v End (λ w. w ≡ after_put v End)
puts_end n seat v puts room items hands short h at =
    let w = after_put v End in
    let mine = h.known seat v at in
    let is = mine.puts puts in
    let ends = is.2 in
    let takers = is.3 in
    let changed = total_set one_that_takes hands seat v w at in
    let was = h.out in (
      w,
      record {
        put = h.put;
        ends = suc h.ends;
        takers = h.takers;
        back = h.back;
        gone = h.gone;
        split = sym (append_assoc h.gone items (End ∷ [])) ∙ ap (λ xs. xs ++ End ∷ []) h.split ∙ append_assoc (jobs_below h.put) (marks h.ends) (End ∷ []);
        few = omega arith;
        out = omega arith;
        taken = λ g. let more = total_set (λ hand. weigh g hand.taken) hands seat v w at in let same = h.taken g in omega arith;
        known = all_set (IsKnown h.put (suc h.ends) h.takers h.back (length h.gone)) seat v w hands
            (λ j u other there.
            let k = h.known j u there in
            record { puts = λ p. absurd (other_puts h.put h.ends h.takers h.back (length h.gone) seat j v u hands h.known at puts other there p); low = k.low; idle = k.idle; ended = λ e. ((omega arith), (k.ended e).1) })
            (record { puts = λ p. (is.0, is.1, (omega arith), is.3, is.4, is.5); low = mine.low; idle = mine.idle; ended = λ e. ((omega arith), (mine.ended e).1) });
      },
      refl,
    )

pub puts_job : (n seat place : ℕ) (v : Hand) → v.puts ≡ true → v.put ≡ place → v.ends ≡ 0 → Pushes IsEachOnce n seat v (Job place) (λ w. w ≡ after_put v (Job place))
puts_job n seat place v puts next none items hands short h at =
    let w = after_put v (Job place) in
    let mine = h.known seat v at in
    let is = mine.puts puts in
    let put : h.put ≡ place = sym is.1 ∙ next in
    let ends : h.ends ≡ 0 = sym is.2 ∙ none in
    let before : h.gone ++ items ≡ jobs_below place = h.split ∙ ap (λ m. jobs_below h.put ++ marks m) ends ∙ append-nil (jobs_below h.put) ∙ ap jobs_below put in
    let changed = total_set one_that_takes hands seat v w at in
    let was = h.out in (
      w,
      record {
        put = suc place;
        ends = 0;
        takers = h.takers;
        back = h.back;
        gone = h.gone;
        split = sym (append_assoc h.gone items (Job place ∷ [])) ∙ ap (λ xs. xs ++ Job place ∷ []) before ∙ sym (append-nil (jobs_below (suc place)));
        few = omega arith;
        out = omega arith;
        taken = λ g. let more = total_set (λ hand. weigh g hand.taken) hands seat v w at in let same = h.taken g in omega arith;
        known = all_set (IsKnown (suc place) 0 h.takers h.back (length h.gone)) seat v w hands
            (λ j u other there.
            let k = h.known j u there in
            record {
              puts = λ p. absurd (other_puts h.put h.ends h.takers h.back (length h.gone) seat j v u hands h.known at puts other there p);
              low = k.low;
              idle = k.idle;
              ended = λ e. let some_end = (k.ended e).0 in absurd (omega arith);
            })
            (record { puts = λ p. (is.0, (omega arith), none, is.3, is.4, is.5); low = mine.low; idle = mine.idle; ended = λ e. let some_end = (mine.ended e).0 in absurd (omega arith) });
      },
      refl,
    )

pub puts_item : (n seat : ℕ) (v : Hand) (item : PoolItem) → MayPut v item → Pushes IsEachOnce n seat v item (λ w. w ≡ after_put v item)
puts_item n seat v End may = puts_end n seat v may.0 may.1
puts_item n seat v (Job place) may = puts_job n seat place v may.0 may.1 may.2

-- ---- where a job stands

snoc_cases : {A : Type 0} (xs : List A) (y z : A) (i : ℕ) → slice_get (xs ++ y ∷ []) i ≡ Some z → (slice_get xs i ≡ Some z) ⊎ ((i ≡ length xs) × (y ≡ z))
snoc_cases [] y z zero e = inr (refl, same_Some y z e)
snoc_cases [] y z (suc i) e = cc
snoc_cases (x ∷ xs) y z zero e = inl e
snoc_cases (x ∷ xs) y z (suc i) e = ⊎_elim (λ h. inl h) (λ (h : (i ≡ length xs) × (y ≡ z)). inr ((let l = h.0 in omega arith), h.1)) (snoc_cases xs y z i e)

jobs_long : (n : ℕ) → length (jobs_below n) ≡ n
jobs_long zero = refl
jobs_long (suc n) = length-append (jobs_below n) (Job n ∷ []) ∙ (let more = jobs_long n in omega arith)

in_jobs : (put i place : ℕ) → slice_get (jobs_below put) i ≡ Some (Job place) → place ≡ i
in_jobs zero i place e = cc
in_jobs (suc n) i place e =
    ⊎_elim (in_jobs n i place)
    (λ (h : (i ≡ length (jobs_below n)) × (Job n ≡ Job place)). let same : n ≡ place = (let both = h.1 in cc) in let long = jobs_long n in let here = h.0 in omega arith)
    (snoc_cases (jobs_below n) (Job n) (Job place) i e)

at_place : (put ends i place : ℕ) → slice_get (jobs_below put ++ marks ends) i ≡ Some (Job place) → place ≡ i
at_place put zero i place e = in_jobs put i place (subst (λ (xs : List PoolItem). slice_get xs i ≡ Some (Job place)) (append-nil (jobs_below put)) e)
at_place put (suc ends) i place e =
    ⊎_elim (at_place put ends i place)
    (λ (h : (i ≡ length (jobs_below put ++ marks ends)) × (End ≡ Job place)). absurd (let both = h.1 in cc))
    (snoc_cases (jobs_below put ++ marks ends) End (Job place) i
    (subst (λ (xs : List PoolItem). slice_get xs i ≡ Some (Job place)) (sym (append_assoc (jobs_below put) (marks ends) (End ∷ []))) e))

-- and where an end mark stands
no_end : (put i : ℕ) → slice_get (jobs_below put) i ≡ Some End → ⊥
no_end zero i e = cc
no_end (suc n) i e =
    ⊎_elim (no_end n i) (λ (h : (i ≡ length (jobs_below n)) × (Job n ≡ End)). let both = h.1 in cc) (snoc_cases (jobs_below n) (Job n) End i e)

at_end : (put ends i : ℕ) → slice_get (jobs_below put ++ marks ends) i ≡ Some End → (0 < ends) × (put ≤ i)
at_end put zero i e = absurd (no_end put i (subst (λ (xs : List PoolItem). slice_get xs i ≡ Some End) (append-nil (jobs_below put)) e))
at_end put (suc ends) i e =
    ⊎_elim (λ (at : slice_get (jobs_below put ++ marks ends) i ≡ Some End). ((omega arith), (at_end put ends i at).1))
    (λ (h : (i ≡ length (jobs_below put ++ marks ends)) × (End ≡ End)). (
      (omega arith),
      let long = length-append (jobs_below put) (marks ends) in let jobs = jobs_long put in let here = h.0 in omega arith,
    ))
    (snoc_cases (jobs_below put ++ marks ends) End End i
    (subst (λ (xs : List PoolItem). slice_get xs i ≡ Some End) (sym (append_assoc (jobs_below put) (marks ends) (End ∷ []))) e))

gone_at : (gone items : List PoolItem) (x : PoolItem) → slice_get (gone ++ x ∷ items) (length gone) ≡ Some x
gone_at [] items x = refl
gone_at (y ∷ gone) items x = gone_at gone items x

-- the first job that is left stands at the place behind those that are gone
next_place : (put ends place : ℕ) (gone items : List PoolItem) → gone ++ Job place ∷ items ≡ jobs_below put ++ marks ends → place ≡ length gone
next_place put ends place gone items split =
    at_place put ends (length gone) place (subst (λ (xs : List PoolItem). slice_get xs (length gone) ≡ Some (Job place)) split (gone_at gone items (Job place)))

next_end : (put ends : ℕ) (gone items : List PoolItem) → gone ++ End ∷ items ≡ jobs_below put ++ marks ends → (0 < ends) × (put ≤ length gone)
next_end put ends gone items split =
    at_end put ends (length gone) (subst (λ (xs : List PoolItem). slice_get xs (length gone) ≡ Some End) split (gone_at gone items End))

pub takes : (seat : ℕ) (v : Hand) → IsTaker v → Pops IsEachOnce seat v (λ x w. TakesItem v x w)
takes seat v is End items hands h at =
    let w = after_take v End in
    let mine = h.known seat v at in
    let long = length-append h.gone (End ∷ []) in
    let over = next_end h.put h.ends h.gone items h.split in
    let changed = total_set one_that_takes hands seat v w at in
    let was = h.out in (
      w,
      record {
        put = h.put;
        ends = h.ends;
        takers = h.takers;
        back = h.back;
        gone = h.gone ++ End ∷ [];
        split = append_assoc h.gone (End ∷ []) items ∙ h.split;
        few = h.few;
        out = omega arith;
        taken = λ g.
            let more = total_set (λ hand. weigh g hand.taken) hands seat v w at in
            let same = h.taken g in
            let gone = ap (weigh g) (places_append h.gone (End ∷ []) ∙ append-nil (places_in h.gone)) in
            omega arith;
        known = all_set (IsKnown h.put h.ends h.takers h.back (length (h.gone ++ End ∷ []))) seat v w hands
            (λ j u other there.
            let k = h.known j u there in
            record { puts = k.puts; low = (let low = k.low in omega arith); idle = k.idle; ended = λ e. let ended = k.ended e in (ended.0, (let put = ended.1 in omega arith)) })
            (record { puts = mine.puts; low = (let low = mine.low in omega arith); idle = mine.idle; ended = λ e. (over.0, (let put = over.1 in omega arith)) });
      },
      (tt, refl),
    )
takes seat v is (Job place) items hands h at =
    let w = after_take v (Job place) in
    let mine = h.known seat v at in
    let long = length-append h.gone (Job place ∷ []) in
    let next = next_place h.put h.ends place h.gone items h.split in
    let low = mine.low in
    let changed = total_set one_that_takes hands seat v w at in
    let was = h.out in (
      w,
      record {
        put = h.put;
        ends = h.ends;
        takers = h.takers;
        back = h.back;
        gone = h.gone ++ Job place ∷ [];
        split = append_assoc h.gone (Job place ∷ []) items ∙ h.split;
        few = h.few;
        out = omega arith;
        taken = λ g.
            let more = total_set (λ hand. weigh g hand.taken) hands seat v w at in
            let same = h.taken g in
            let own = weigh_append g v.taken (place ∷ []) in
            let gone = ap (weigh g) (places_append h.gone (Job place ∷ [])) ∙ weigh_append g (places_in h.gone) (place ∷ []) in
            omega arith;
        known = all_set (IsKnown h.put h.ends h.takers h.back (length (h.gone ++ Job place ∷ []))) seat v w hands
            (λ j u other there.
            let k = h.known j u there in
            record { puts = k.puts; low = (let low = k.low in omega arith); idle = k.idle; ended = λ e. let ended = k.ended e in (ended.0, (let put = ended.1 in omega arith)) })
            (record { puts = mine.puts; low = omega arith; idle = λ p none. absurd (true≢false (sym is.1 ∙ none)); ended = λ e. let ended = mine.ended e in (ended.0, (let put = ended.1 in omega arith)) });
      },
      ((omega arith), refl),
    )

-- a job that is taken stands behind those that were
pub behind_job : (v : Hand) (x : PoolItem) (w : Hand) (place : ℕ) → TakesItem v x w → x ≡ Job place → v.low ≤ place
behind_job v End w place took is = absurd (cc)
behind_job v (Job other) w place took is = let same : other ≡ place = cc in let low = took.0 in omega arith

-- an end mark changes nothing else
pub end_taken : (v : Hand) (x : PoolItem) (w : Hand) → TakesItem v x w → x ≡ End → (w.taken ≡ v.taken) × (w.ended ≡ true)
end_taken v End w took is = (ap (λ (h : Hand). h.taken) took.1, ap (λ (h : Hand). h.ended) took.1)
end_taken v (Job other) w took is = absurd (cc)

pub forks : (seat : ℕ) (v : Hand) → v.puts ≡ true → Forks IsEachOnce seat v (with_taker v) taker
forks seat v puts items hands h at =
    let w = with_taker v in
    let mine = h.known seat v at in
    let is = mine.puts puts in
    let more = set hands seat w in
    let changed = total_set one_that_takes hands seat v w at in
    let wider = total_snoc one_that_takes more taker in
    let was = h.out in
    record {
      put = h.put;
      ends = h.ends;
      takers = suc h.takers;
      back = h.back;
      gone = h.gone;
      split = h.split;
      few = (let few = h.few in omega arith);
      out = omega arith;
      taken = λ g.
          let set_one = total_set (λ hand. weigh g hand.taken) hands seat v w at in
          let one_more = total_snoc (λ hand. weigh g hand.taken) more taker in
          let same = h.taken g in
          omega arith;
      known = λ j u e.
          ⊎_elim (λ (x : get_elem? more j ≡ some u).
          all_set (IsKnown h.put h.ends (suc h.takers) h.back (length h.gone)) seat v w hands
          (λ i o other there.
          let k = h.known i o there in
          record { puts = λ p. absurd (other_puts h.put h.ends h.takers h.back (length h.gone) seat i v o hands h.known at puts other there p); low = k.low; idle = k.idle; ended = k.ended })
          (record { puts = λ p. (is.0, is.1, is.2, (let many = is.3 in omega arith), is.4, is.5); low = mine.low; idle = mine.idle; ended = mine.ended }) j u x)
          (λ (x : taker ≡ u).
          subst (λ (o : Hand). IsKnown h.put h.ends (suc h.takers) h.back (length h.gone) j o) x
          (record { puts = λ p. absurd (true≢false (sym p)); low = omega arith; idle = λ p t. refl; ended = λ p. absurd (true≢false (sym p)) }))
          (at_snoc more taker u j e);
    }

-- ---- what was taken comes back

either_ended : (a b : Bool) → either_one a b ≡ true → (a ≡ true) ⊎ (b ≡ true)
either_ended true b e = inl refl
either_ended false b e = inr e

pub either_is : (a b : Bool) → (a ≡ true) ⊎ (b ≡ true) → either_one a b ≡ true
either_is true b e = refl
either_is false b e = ⊎_elim (λ (x : false ≡ true). absurd (true≢false (sym x))) (λ (x : b ≡ true). x) e

pub merges : (seat : ℕ) (v : Hand) (other : ℕ) (o : Hand) → v.puts ≡ true → IsTaker o → Merges IsEachOnce seat v other o (with_taken v o) spent
merges seat v other o puts is items hands h at apart there =
    let w = with_taken v o in
    let mine = h.known seat v at in
    let first = mine.puts puts in
    let more = set hands seat w in
    let still : get_elem? hands other ≡ some o = ⊎_elim (λ (x : (other ≡ seat) × (w ≡ o)). absurd (apart x.0)) (λ (x : (other ≢ seat) × (get_elem? hands other ≡ some o)). x.1) (at_set hands seat other w o there) in
    let theirs = h.known other o still in
    let changed = total_set one_that_takes hands seat v w at in
    let closed = total_set one_that_takes more other o spent there in
    let took : one_that_takes o ≡ 1 = rw is.1 refl in
    let was = h.out in
    record {
      put = h.put;
      ends = h.ends;
      takers = h.takers;
      back = suc h.back;
      gone = h.gone;
      split = h.split;
      few = h.few;
      out = omega arith;
      taken = λ g.
          let one = total_set (λ hand. weigh g hand.taken) hands seat v w at in
          let two = total_set (λ hand. weigh g hand.taken) more other o spent there in
          let both = weigh_append g v.taken o.taken in
          let same = h.taken g in
          omega arith;
      known = all_set (IsKnown h.put h.ends h.takers (suc h.back) (length h.gone)) other o spent more
          (λ j u apart_too at_more.
          all_set (λ i p. i ≢ other → IsKnown h.put h.ends h.takers (suc h.back) (length h.gone) i p) seat v w hands
          (λ i p not_first at_i not_other.
          let k = h.known i p at_i in
          record { puts = λ yes. absurd (other_puts h.put h.ends h.takers h.back (length h.gone) seat i v p hands h.known at puts not_first at_i yes); low = k.low; idle = k.idle; ended = k.ended })
          (λ not_other. record {
            puts = λ p. (first.0, first.1, first.2, first.3, (let many = first.4 in omega arith), first.5);
            low = mine.low;
            idle = λ none. absurd (true≢false (sym puts ∙ none));
            ended = λ e. ⊎_elim (λ (x : v.ended ≡ true). mine.ended x) (λ (x : o.ended ≡ true). theirs.ended x) (either_ended v.ended o.ended e);
          }) j u at_more apart_too)
          (record { puts = λ p. absurd (true≢false (sym p)); low = omega arith; idle = λ p t. refl; ended = λ p. absurd (true≢false (sym p)) });
    }

-- ---- what was taken is what was put

long_cut : {A : Type 0} (xs ys zs ws : List A) → xs ++ ys ≡ zs ++ ws → length zs ≤ length xs → (m : List A) × (xs ≡ zs ++ m) × (m ++ ys ≡ ws)
long_cut xs ys [] ws e long = (xs, refl, e)
long_cut [] ys (z ∷ zs) ws e long = absurd (omega arith)
long_cut (x ∷ xs) ys (z ∷ zs) ws e long =
    let head : x ≡ z = cc in
    let tail : xs ++ ys ≡ zs ++ ws = cc in
    let cut = long_cut xs ys zs ws tail (omega arith) in
    (cut.0, ap (λ y. y ∷ xs) head ∙ ap (λ more. z ∷ more) cut.1, cut.2)

no_places : (n : ℕ) → places_in (marks n) ≡ []
no_places zero = refl
no_places (suc n) = places_append (marks n) (End ∷ []) ∙ append-nil (places_in (marks n)) ∙ no_places n

places_of_jobs : (n : ℕ) → places_in (jobs_below n) ≡ places_below n
places_of_jobs zero = refl
places_of_jobs (suc n) = places_append (jobs_below n) (Job n ∷ []) ∙ ap (λ ps. ps ++ n ∷ []) (places_of_jobs n)

-- where all jobs are gone, and perhaps some end marks, the places are those of the jobs
all_gone : (g : ℕ → ℕ) (put ends : ℕ) (gone items : List PoolItem) → gone ++ items ≡ jobs_below put ++ marks ends → put ≤ length gone → weigh g (places_in gone) ≡ weigh g (places_below put)
all_gone g put ends gone items split long =
    let jobs = jobs_long put in
    let cut = long_cut gone items (jobs_below put) (marks ends) split (omega arith) in
    let none : places_in cut.0 ++ places_in items ≡ [] = sym (places_append cut.0 items) ∙ ap places_in cut.2 ∙ no_places ends in
    let weighs : weigh g (places_in cut.0) + weigh g (places_in items) ≡ 0 = sym (weigh_append g (places_in cut.0) (places_in items)) ∙ ap (weigh g) none in
    let whole : weigh g (places_in gone) ≡ weigh g (places_below put) + weigh g (places_in cut.0) =
    ap (λ xs. weigh g (places_in xs)) cut.1 ∙ ap (weigh g) (places_append (jobs_below put) cut.0) ∙ weigh_append g (places_in (jobs_below put)) (places_in cut.0)
    ∙ ap (λ ps. weigh g ps + weigh g (places_in cut.0)) (places_of_jobs put) in
    omega arith

by_takes : (b : Bool) → one_if b ≡ 0 → b ≡ false
by_takes true none = absurd (omega arith)
by_takes false none = refl

takes_none : (hand : Hand) → one_that_takes hand ≡ 0 → hand.takes ≡ false
takes_none hand none = by_takes hand.takes none

not_true : (b : Bool) → (b ≡ true → ⊥) → b ≡ false
not_true true never = absurd (never refl)
not_true false never = refl

pub learns_all : (seat : ℕ) (v : Hand) → v.puts ≡ true → Learns IsEachOnce seat v (λ items. TookAll v)
learns_all seat v puts items hands h at back ended g =
    let mine = h.known seat v at in
    let first = mine.puts puts in
    let none : total one_that_takes hands ≡ 0 = (let was = h.out in let a = first.3 in let b = first.4 in omega arith) in
    let only = total_only (λ hand. weigh g hand.taken) hands seat v at (λ j u other there.
    let k = h.known j u there in
    let takes_not : u.takes ≡ false = takes_none u (let few = one_of_total one_that_takes hands j u there in omega arith) in
    let puts_not : u.puts ≡ false = not_true u.puts (λ p. other_puts h.put h.ends h.takers h.back (length h.gone) seat j v u hands h.known at puts other there p) in
    ap (weigh g) (k.idle puts_not takes_not)) in
    sym only ∙ h.taken g ∙ all_gone g h.put h.ends h.gone items h.split (mine.ended ended).1 ∙ ap (λ n. weigh g (places_below n)) (sym first.1)
