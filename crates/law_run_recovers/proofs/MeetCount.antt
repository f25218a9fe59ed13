-- Two that meet are not both short: who is refused by the one has given its votes to the other, and where the votes are tight these are enough. Nor is one short of votes
-- that were set anew since: whoever shows newer ones the other has, and so that one has found these.
use Rattle.law_run_recovers.proofs.Vocabulary.{◌≡◌, ◌⊎◌, inl, inr, ℕ, ◌<◌, ◌≤◌, Bool, true, false, List, [], ◌∷◌, refl, sym, ap, subst, ◌∙◌, arith, IsTrue, ◌+◌, ◌&&◌, ◌||◌, not, Contains, eq-eqb, Representative, Configuration, votes_in, votes_at}
use Rattle.law_run_recovers.proofs.Vocabulary.{total_votes, shared_member, LockMode, is_exclusive, serves, needed_of, clashes, AreTight, not-true, serves_itself}

-- ---- votes

-- those in a set and those out of it are all
pub votes_split : (reps : List Representative) (set : ℕ → Bool) → votes_in reps set + votes_in reps (λ s. not (set s)) ≡ total_votes reps
votes_split [] set = refl
votes_split (rep ∷ reps) set = search (votes_split reps set, arith)

-- ---- modes

clash_same : (y : ℕ) (m k : LockMode) → clashes (y, m) (y, k) ≡ (is_exclusive m || is_exclusive k)
clash_same y m k = ap (λ b. b && (is_exclusive m || is_exclusive k)) (eq-eqb y y refl)

or_wider : (m more k other : LockMode) → serves more m ≡ true → serves other k ≡ true → (is_exclusive m || is_exclusive k) ≡ true → (is_exclusive more || is_exclusive other) ≡ true
or_wider m more k other h4 h5 h6 = search arith

-- what is wanted more clashes as well
pub clash_wider : (y : ℕ) (m more k other : LockMode) → serves more m ≡ true → serves other k ≡ true → clashes (y, m) (y, k) ≡ true → clashes (y, more) (y, other) ≡ true
clash_wider y m more k other wide wider is = clash_same y more other ∙ or_wider m more k other wide wider (sym (clash_same y m k) ∙ is)

-- two locks of lists are the same
abbrev pub Same : ℕ × LockMode → ℕ × LockMode → Type 0
Same one other = one ≡ other

-- ---- both

-- Too few votes of a suite, as one found them, though newer ones were set since: some server with one of them shows a newer prefix than that, and did not let it have
-- the suite; and whoever granted it the suite shows none that is newer.
pub record IsBehind (held : ℕ → LockMode → ℕ → Bool) (shown : ℕ → ℕ → ℕ) (y : ℕ) (votes : Configuration) (open' : ℕ → Bool) : Type 0 where
  pub prefix : ℕ
  pub server : ℕ
  pub has_vote : 0 < votes_at votes.reps server
  pub shut : open' server ≡ false
  pub newer : prefix < shown y server
  pub below : (mode : LockMode) (other : ℕ) → held y mode other ≡ true → shown y other ≤ prefix

-- what one did not get: votes of its row, votes that it found and that are not the row's any more, or votes that it sets of what the other does not ask for
abbrev pub Falls : (ℕ → Configuration) → (ℕ → LockMode → ℕ → Bool) → (ℕ → ℕ → ℕ) → List (ℕ × LockMode) → ℕ → Configuration → (ℕ → Bool) → Type 0
Falls rows held shown others y votes open' = (votes ≡ rows y) ⊎ (IsBehind held shown y votes open' ⊎ ((mode : LockMode) → Contains others (y, mode) → ⊥))

-- so it is by whoever it was granted the suite by, of those that granted it
pub falls_by : (rows : ℕ → Configuration) (had held : ℕ → LockMode → ℕ → Bool) (shown : ℕ → ℕ → ℕ) (others : List (ℕ × LockMode)) (y : ℕ) (votes : Configuration) (open' : ℕ → Bool)
    → ((mode : LockMode) (server : ℕ) → held y mode server ≡ true → had y mode server ≡ true) → Falls rows had shown others y votes open' → Falls rows held shown others y votes open'
falls_by rows had held shown others y votes open' h8 h9 = search arith

module _ (mine theirs : List (ℕ × LockMode)) (rows : ℕ → Configuration) (shown : ℕ → ℕ → ℕ) (last : ℕ → ℕ) (z : ℕ) (m k : LockMode) (tight : AreTight (rows z) z mine theirs) (has : Contains mine (z, m)) (there : Contains theirs (z, k))
    (clash : clashes (z, m) (z, k) ≡ true) (held other_held : ℕ → LockMode → ℕ → Bool) where
  abbrev pub Met : Type 0
  Met = needed_of m (rows z) ≤ votes_in (rows z).reps (held z m)

  abbrev pub OtherMet : Type 0
  OtherMet = needed_of k (rows z) ≤ votes_in (rows z).reps (other_held z k)

  -- the one was refused a lock on a suite, wanted in a mode, at a server: a lock of the other was in the way there, that is held. Each has had the first lock that clashes, or asks for it now
  pub record IsRefused (y : ℕ) (wanted : LockMode) (server : ℕ) : Type 0 where
    pub mode : LockMode
    pub strong : serves wanted mode ≡ true
    pub way : LockMode
    pub asks : Contains theirs (y, way)
    pub clashing : clashes (y, mode) (y, way) ≡ true
    pub by : other_held y way server ≡ true
    pub before : Met ⊎ Same (y, mode) (z, m)
    pub other_before : OtherMet ⊎ Same (y, way) (z, k)

  -- and the other by a lock of the one
  pub record IsRefusedToo (y : ℕ) (wanted : LockMode) (server : ℕ) : Type 0 where
    pub mode : LockMode
    pub strong : serves wanted mode ≡ true
    pub way : LockMode
    pub asks : Contains mine (y, way)
    pub clashing : clashes (y, way) (y, mode) ≡ true
    pub by : held y way server ≡ true
    pub before : Met ⊎ Same (y, way) (z, m)

  -- the newest prefix of a suite is shown in every quorum of its row's votes, and none that is newer
  module _ (apart : (y server : ℕ) (a b : LockMode) → held y a server ≡ true → other_held y b server ≡ true → clashes (y, a) (y, b) ≡ true → ⊥)
      (reach : (mode : LockMode) (set : ℕ → Bool) → needed_of mode (rows z) ≤ votes_in (rows z).reps set → (server : ℕ) × (0 < votes_at (rows z).reps server) × (set server ≡ true) × (last z ≤ shown z server))
      (bound : (server : ℕ) → 0 < shown z server → shown z server ≤ last z)
      (y : ℕ) (wanted : LockMode) (asks : Contains mine (y, wanted)) (votes : Configuration) (open' : ℕ → Bool) (few : votes_in votes.reps open' < needed_of wanted votes) (most : needed_of wanted votes ≤ total_votes votes.reps)
      (falls : Falls rows held shown theirs y votes open')
      (refused : (server : ℕ) → 0 < votes_at votes.reps server → open' server ≡ false → IsRefused y wanted server) where
    abbrev closed : ℕ → Bool
    closed server = not (open' server)

    open_not : (b : Bool) → IsTrue (not b) → b ≡ false
    open_not b h1 = search arith

    closed_votes : votes_in votes.reps open' + votes_in votes.reps (λ s. not (open' s)) ≡ total_votes votes.reps
    closed_votes = votes_split votes.reps open'

    some_refused : (server : ℕ) × IsRefused y wanted server
    some_refused =
        let all = closed_votes in
        let s = shared_member (λ _. true) closed votes.reps (omega (arith, all, few, most)) in
        (s.server, refused s.server s.has_vote (open_not (open' s.server) s.in_second))

    -- both cannot have had the first that clashes
    not_both : Met → OtherMet → ⊥
    not_both met other_met =
        let both = tight m k has there clash in
        let s = shared_member (held z m) (other_held z k) (rows z).reps (omega (arith, met, other_met, both)) in
        apart z s.server m k s.in_first s.in_second clash

    second : {A B : Type 0} → A ⊎ B → (A → ⊥) → B
    second h0 h1 = search arith

    shows_newer : (n s : ℕ) → n < s → 0 < s
    shows_newer n s less = omega (arith, less)

    -- the one had not had it
    not_met : Met → ⊥
    not_met met = of falls
      where
        one : (server : ℕ) × IsRefused y wanted server
        one = some_refused

        is : Same (y, one.1.way) (z, k)
        is = second one.1.other_before (not_both met)

        at : y ≡ z
        at = ap (λ (p : ℕ × LockMode). p.0) is

        by_row : votes ≡ rows y → ⊥
        by_row row =
            let votes_are : votes ≡ rows z = row ∙ ap rows at in
            let way : one.1.way ≡ k = ap (λ (p : ℕ × LockMode). p.1) is in
            let asks' = subst (λ y. Contains mine (y, wanted)) at asks in
            let clash' : clashes (z, wanted) (z, k) ≡ true =
            subst (λ y. clashes (y, wanted) (y, k) ≡ true) at (clash_wider y one.1.mode wanted k k one.1.strong (serves_itself k) (subst (λ way. clashes (y, one.1.mode) (y, way) ≡ true) way one.1.clashing)) in
            let one_sum = subst (λ (v : Configuration). needed_of m v + needed_of k v ≡ total_votes v.reps + 1) (sym votes_are) (tight m k has there clash) in
            let other_sum = subst (λ (v : Configuration). needed_of wanted v + needed_of k v ≡ total_votes v.reps + 1) (sym votes_are) (tight wanted k asks' there clash') in
            let met' = subst (λ (v : Configuration). needed_of m v ≤ votes_in v.reps (held z m)) (sym votes_are) met in
            let all = closed_votes in
            let s = shared_member (held z m) closed votes.reps (omega (arith, met', all, few, one_sum, other_sum)) in
            let there' = refused s.server s.has_vote (open_not (open' s.server) s.in_second) in
            let same = second there'.other_before (not_both met) in
            let by = subst (λ (p : ℕ × LockMode). other_held p.0 p.1 s.server ≡ true) same there'.by in
            apart z s.server m k s.in_first by clash

        -- it holds the newest prefix, and so has found it
        by_old : IsBehind held shown y votes open' → ⊥
        by_old b =
            let x = reach m (held z m) met in
            let newest = x.3 in
            let below = subst (λ y. shown y x.0 ≤ b.prefix) at (b.below m x.0 (subst (λ y. held y m x.0 ≡ true) (sym at) x.2)) in
            let newer = subst (λ y. b.prefix < shown y b.server) at b.newer in
            let most' = bound b.server (shows_newer b.prefix (shown z b.server) newer) in
            omega (arith, newest, below, newer, most')

        of : Falls rows held shown theirs y votes open' → ⊥
        of (inl row) = by_row row
        of (inr (inl behind)) = by_old behind
        of (inr (inr none)) = none one.1.way one.1.asks

    pub refused_is : (server : ℕ) (r : IsRefused y wanted server) → Same (y, r.mode) (z, m)
    refused_is server r = second r.before not_met

    -- so where the other is short too, somebody would have refused each
    module _ (y' : ℕ) (wanted' : LockMode) (asks' : Contains theirs (y', wanted')) (votes' : Configuration) (other_open : ℕ → Bool) (few' : votes_in votes'.reps other_open < needed_of wanted' votes')
        (most' : needed_of wanted' votes' ≤ total_votes votes'.reps) (falls' : Falls rows other_held shown mine y' votes' other_open)
        (refused' : (server : ℕ) → 0 < votes_at votes'.reps server → other_open server ≡ false → IsRefusedToo y' wanted' server) where
      one : (server : ℕ) × IsRefused y wanted server
      one = some_refused

      at : y ≡ z
      at = ap (λ (p : ℕ × LockMode). p.0) (refused_is one.0 one.1)

      other : (server : ℕ) × IsRefusedToo y' wanted' server
      other =
          let all' = votes_split votes'.reps other_open in
          let s' = shared_member (λ _. true) (λ s. not (other_open s)) votes'.reps (omega (arith, all', few', most')) in
          (s'.server, refused' s'.server s'.has_vote (open_not (other_open s'.server) s'.in_second))

      is' : Same (y', other.1.way) (z, m)
      is' = second other.1.before not_met

      at' : y' ≡ z
      at' = ap (λ (p : ℕ × LockMode). p.0) is'

      clash' : clashes (z, wanted) (z, wanted') ≡ true
      clash' =
          let mode : one.1.mode ≡ m = ap (λ (p : ℕ × LockMode). p.1) (refused_is one.0 one.1) in
          let way' : other.1.way ≡ m = ap (λ (p : ℕ × LockMode). p.1) is' in
          let wide : serves wanted m ≡ true = subst (λ mode. serves wanted mode ≡ true) mode one.1.strong in
          subst (λ y. clashes (y, wanted) (y, wanted') ≡ true) at'
          (clash_wider y' m wanted other.1.mode wanted' wide other.1.strong (subst (λ way. clashes (y', way) (y', other.1.mode) ≡ true) way' other.1.clashing))

      sum : needed_of wanted (rows z) + needed_of wanted' (rows z) ≡ total_votes (rows z).reps + 1
      sum = tight wanted wanted' (subst (λ y. Contains mine (y, wanted)) at asks) (subst (λ y. Contains theirs (y, wanted')) at' asks') clash'

      -- whom one has not the other has
      other_has : (server : ℕ) → 0 < votes_at votes.reps server → open' server ≡ false → (way : LockMode) × (other_held z way server ≡ true) × (clashes (z, m) (z, way) ≡ true)
      other_has server has_vote shut =
          let r = refused server has_vote shut in (
            r.way,
            subst (λ y. other_held y r.way server ≡ true) at r.by,
            subst (λ y. clashes (y, m) (y, r.way) ≡ true) at (subst (λ mode. clashes (y, mode) (y, r.way) ≡ true) (ap (λ (p : ℕ × LockMode). p.1) (refused_is server r)) r.clashing),
          )

      one_has : (server : ℕ) → 0 < votes_at votes'.reps server → other_open server ≡ false → held z m server ≡ true
      one_has server has_vote shut = let r = refused' server has_vote shut in subst (λ (p : ℕ × LockMode). held p.0 p.1 server ≡ true) (second r.before not_met) r.by

      -- both by the row's votes
      both_now : votes ≡ rows z → votes' ≡ rows z → ⊥
      both_now row row' =
          let same : votes' ≡ votes = row' ∙ sym row in
          let sum' = subst (λ (v : Configuration). needed_of wanted v + needed_of wanted' v ≡ total_votes v.reps + 1) (sym row) sum in
          let all = closed_votes in
          let all' = votes_split votes.reps other_open in
          let few'' = subst (λ (v : Configuration). votes_in v.reps other_open < needed_of wanted' v) same few' in
          let s = shared_member closed (λ s. not (other_open s)) votes.reps (omega (arith, all, few, all', few'', sum')) in
          let o = other_has s.server s.has_vote (open_not (open' s.server) s.in_first) in
          let h = one_has s.server (subst (λ (v : Configuration). 0 < votes_at v.reps s.server) (sym same) s.has_vote) (open_not (other_open s.server) s.in_second) in
          apart z s.server m o.0 h o.1 o.2

      -- the one found older votes, the other those of the row: whom the other has not are a quorum, and so one of them shows the newest
      one_behind : IsBehind held shown y votes open' → votes' ≡ rows z → ⊥
      one_behind b row' =
          let few'' = subst (λ (v : Configuration). votes_in v.reps other_open < needed_of wanted' v) row' few' in
          let all' = votes_split (rows z).reps other_open in
          let sum' = sum in
          let x = reach wanted (λ s. not (other_open s)) (omega (arith, few'', all', sum')) in
          let h = one_has x.0 (subst (λ (v : Configuration). 0 < votes_at v.reps x.0) (sym row') x.1) (not-true (other_open x.0) x.2) in
          let newest = x.3 in
          let below = subst (λ y. shown y x.0 ≤ b.prefix) at (b.below m x.0 (subst (λ y. held y m x.0 ≡ true) (sym at) h)) in
          let newer = subst (λ y. b.prefix < shown y b.server) at b.newer in
          let most'' = bound b.server (shows_newer b.prefix (shown z b.server) newer) in
          omega (arith, newest, below, newer, most'')

      other_behind : votes ≡ rows z → IsBehind other_held shown y' votes' other_open → ⊥
      other_behind row b =
          let few'' = subst (λ (v : Configuration). votes_in v.reps open' < needed_of wanted v) row few in
          let all' = votes_split (rows z).reps open' in
          let sum' = sum in
          let x = reach wanted' (λ s. not (open' s)) (omega (arith, few'', all', sum')) in
          let o = other_has x.0 (subst (λ (v : Configuration). 0 < votes_at v.reps x.0) (sym row) x.1) (not-true (open' x.0) x.2) in
          let newest = x.3 in
          let below = subst (λ y. shown y x.0 ≤ b.prefix) at' (b.below o.0 x.0 (subst (λ y. other_held y o.0 x.0 ≡ true) (sym at') o.1)) in
          let newer = subst (λ y. b.prefix < shown y b.server) at' b.newer in
          let most'' = bound b.server (shows_newer b.prefix (shown z b.server) newer) in
          omega (arith, newest, below, newer, most'')

      -- each found older votes than the other
      both_behind : IsBehind held shown y votes open' → IsBehind other_held shown y' votes' other_open → ⊥
      both_behind b b' = search (other_has, one_has, at', arith)

      pub not_both_short : ⊥
      not_both_short = of falls falls'
        where
          of : Falls rows held shown theirs y votes open' → Falls rows other_held shown mine y' votes' other_open → ⊥
          of (inr (inr none)) other' = none one.1.way one.1.asks
          of (inl row) (inr (inr none)) = none other.1.way other.1.asks
          of (inr (inl b)) (inr (inr none)) = none other.1.way other.1.asks
          of (inl row) (inl row') = both_now (row ∙ ap rows at) (row' ∙ ap rows at')
          of (inl row) (inr (inl b')) = other_behind (row ∙ ap rows at) b'
          of (inr (inl b)) (inl row') = one_behind b (row' ∙ ap rows at')
          of (inr (inl b)) (inr (inl b')) = both_behind b b'
