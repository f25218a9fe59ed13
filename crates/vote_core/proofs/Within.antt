-- Sets whose servers are all numbered below some number.
use Rattle.vote_core.proofs.Vocabulary.{◌≡◌, ℕ, zero, suc, ◌+◌, ◌/◌, ◌%◌, ◌^◌, ◌<◌, ◌≤◌, Bool, true, cond, List, [], ◌∷◌, eqb, ltb, refl, sym, ap, ◌∙◌, zero-add, inl, inr, arith, list_any, list_all, nat_cmp, eq_by_cmp, FinSet, contains, items}
use Rattle.vote_core.proofs.Vocabulary.{contains-items, cases_eq, cases_Bool, and_parts, and_from, eq-eqb, ne_eqb, ltb-true, ltb-false, lt-ltb, eqb-true, false≢true, same_from_decides, bit_at_above, div-eq_of_lt, lt-div-mul-add, bit_at, mod_below}
use Rattle.vote_core.proofs.Vocabulary.{pow_pos, are_below, same_servers, same_servers_decides, word_part, word-set_below, contains-set_below}
use Rattle.std.specs.Bool.{Decides}
use Rattle.std.proofs.Math.Bool.{or-true}
use Rattle.vote_core.specs.code.ServerBits.{set_below, word_below}

has : ℕ → List ℕ → Bool
has q ks = list_any (eq_by_cmp nat_cmp q) ks

each_of : (p : ℕ → Bool) (ks : List ℕ) → list_all p ks ≡ true → (q : ℕ) → has q ks ≡ true → p q ≡ true
unfolding has
each_of p [] all q one = absurd (false≢true one)
each_of p (k ∷ ks) all q one = search (and_parts, cases_eq, has, ne_eqb, each_of p ks, arith)

all_of : (p : ℕ → Bool) (ks : List ℕ) → ((q : ℕ) → has q ks ≡ true → p q ≡ true) → list_all p ks ≡ true
unfolding has
all_of p [] each = refl
all_of p (k ∷ ks) each = search (and_from, has, eq-eqb, or-true, all_of p ks, arith)

-- they are exactly where each server of the set is
pub are_below_decides : (end : ℕ) (servers : FinSet nat_cmp) → Decides (are_below end servers) ((q : ℕ) → contains servers q ≡ true → q < end)
unfolding has
are_below_decides end servers = (
  λ all q one. ltb-true q end (each_of (λ server. ltb server end) (items servers) all q (sym (contains-items servers q) ∙ one)),
  λ each. all_of (λ server. ltb server end) (items servers) (λ q one. lt-ltb q end (each q (contains-items servers q ∙ one))),
)

-- servers that are not there add nothing to a word
none_above : (m n : ℕ) (servers : FinSet nat_cmp) → n ≤ m → ((q : ℕ) → contains servers q ≡ true → q < n) → word_below m servers ≡ word_below n servers
unfolding word_below
none_above zero n servers le each = let end : zero ≡ n = omega (arith, le) in ap (λ k. word_below k servers) end
none_above (suc m) n servers le each =
    elim (cases_Bool (ltb n (suc m))) [
      | inl less ↦
          let within : n ≤ m = let lt = ltb-true n (suc m) less in omega (arith, lt) in
          elim (cases_Bool (contains servers m)) [
            | inl there ↦ let below = each m there in absurd (omega (arith, below, within))
            | inr missing ↦ ap (λ b. cond b (2 ^ m) 0 + word_below m servers) missing ∙ zero-add (word_below m servers) ∙ none_above m n servers within each
          ]
      | inr equal ↦ let end : suc m ≡ n = (let ge = ltb-false n (suc m) equal in omega (arith, ge, le)) in ap (λ k. word_below k servers) end
    ]

-- a word whose servers are below a number is small
pub small_word : (m end bits : ℕ) → end ≤ m → bits < 2 ^ m → ((q : ℕ) → contains (set_below m bits) q ≡ true → q < end) → bits < 2 ^ end
small_word m end bits le lt each =
    let word : bits ≡ bits % 2 ^ end =
    sym (word-set_below m bits lt)
    ∙ none_above m end (set_below m bits) le each
    ∙ word_part end m bits le
    in
    omega (arith, word, mod_below bits (2 ^ end) (pow_pos end))

-- and a small word has no other servers
in_word : (m end bits q : ℕ) → bits < 2 ^ end → contains (set_below m bits) q ≡ true → q < end
in_word m end bits q lt there = search (and_parts (ltb q m) (eqb (bit_at bits q) 1) (sym (contains-set_below m bits q) ∙ there), cases_Bool (ltb q end), ltb-true, bit_at_above, ltb-false, eqb-true, arith)

small_decides : (bits end : ℕ) → Decides (eqb (bits / 2 ^ end) 0) (bits < 2 ^ end)
small_decides bits end = search (eqb-true, lt-div-mul-add, pow_pos, eq-eqb, div-eq_of_lt, arith)

-- a word that has nothing beyond a number has servers below it alone
pub are_below-word : (m end bits : ℕ) → end ≤ m → bits < 2 ^ m → eqb (bits / 2 ^ end) 0 ≡ are_below end (set_below m bits)
are_below-word m end bits le lt =
    let small = small_decides bits end in
    let each = are_below_decides end (set_below m bits) in
    same_from_decides (eqb (bits / 2 ^ end) 0) (are_below end (set_below m bits)) small
    (λ all. small_word m end bits le lt (each.0 all), λ within. each.1 (λ q there. in_word m end bits q within there))

pub are_below-all : (m end bits : ℕ) → m ≤ end → bits < 2 ^ m → true ≡ are_below end (set_below m bits)
are_below-all m end bits le lt = sym ((are_below_decides end (set_below m bits)).1 (λ q there. let below = in_word m m bits q lt there in omega (arith, below, le)))

-- words are the same where their sets are
pub same_words : (m a b : ℕ) → a < 2 ^ m → b < 2 ^ m → eqb a b ≡ same_servers (set_below m a) (set_below m b)
same_words m a b lt_a lt_b =
    let sets = same_servers_decides (set_below m a) (set_below m b) in
    same_from_decides (eqb a b) (same_servers (set_below m a) (set_below m b)) (eqb-true a b, eq-eqb a b)
    (λ same. sym (word-set_below m a lt_a) ∙ ap (word_below m) (sets.0 same) ∙ word-set_below m b lt_b, λ equal. sets.1 (ap (set_below m) equal))
