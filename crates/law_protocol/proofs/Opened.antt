-- Contents that are to be had without asking are opened until none is left that is needed: each takes one suite from those that have none, so
-- that as many rounds as there are suites are enough.
use Rattle.law_protocol.proofs.Vocabulary.{nat_cmp_total, IsOrdered-insert, Content, Know, ReadPoint, GatheredSuite, Suites, suite_of, with_suite, known_of, Rises, ◌≡◌, ℕ, zero, suc, ◌+◌, ◌≤◌, Bool, false, cond, List, [], ◌∷◌, Option, Some, None}
use Rattle.law_protocol.proofs.Vocabulary.{refl, sym, ap, subst, ◌∙◌, arith, length, is_some, Fixed, Task}
use Rattle.std.specs.Ordering.{nat_cmp}
use Rattle.std.specs.BTreeMap.{is_at}
use Rattle.std.proofs.lemmas.Map.{length-set_value}
use Rattle.std.proofs.lemmas.Option.{same_Some}
use Rattle.sorted_map.specs.SortedMap.{replace}
use Rattle.sorted_map.specs.Edits.{insert_present}
use Rattle.file_ops.specs.declared.answer.Answer.{Answer}
use Rattle.file_ops.specs.declared.refusal.Refusal.{Refusal}
use Rattle.file_exec.specs.declared.need.Need.{Need}
use Rattle.file_exec.specs.Changes.{answered}
use Rattle.file_exec.specs.Known.{Known, Heard, Needs}
use Rattle.file_exec.proofs.Unmet.{needs_what_is_unmet}
use Rattle.txn_core.specs.Transactions.{Gathered, free_content, after_search, open_needed, or_all, opened, heard_on}
use Rattle.txn_core.proofs.Setting.{known_at}
use Rattle.file_exec.specs.declared.executor.Outcome.TheVariants as exec
use Rattle.file_exec.specs.Known as known

-- ---- suites without a content

abbrev pub lacking : Option Content → ℕ
lacking (Some content) = 0
lacking None = 1

abbrev pub missing : Suites → ℕ
missing [] = 0
missing (one ∷ suites) = lacking one.1.content + missing suites

pub missing_few : (suites : Suites) → missing suites ≤ length suites
missing_few [] = omega arith
missing_few (one ∷ suites) = search (missing_few suites, arith)

missing_set : (number : ℕ) (suites : Suites) (suite : GatheredSuite) (content : Content) → suite_of suites number ≡ Some suite → suite.content ≡ None
    → suc (missing (replace nat_cmp suites number (record suite { content = Some content }))) ≡ missing suites
missing_set number [] suite content there none = cc
missing_set number (one ∷ suites) suite content there none = of (is_at (nat_cmp number) one.0) there (λ there. missing_set number suites suite content there none)
  where
    new : GatheredSuite
    new = record suite { content = Some content }

    of : (b : Bool) → cond b (Some one.1) (suite_of suites number) ≡ Some suite → (suite_of suites number ≡ Some suite → suc (missing (replace nat_cmp suites number new)) ≡ missing suites)
        → suc (missing (cond b ((one.0, new) ∷ suites) (one ∷ replace nat_cmp suites number new))) ≡ lacking one.1.content + missing suites
    of b h1 h2 = search (same_Some, arith)

-- with a content more
abbrev pub with_content : Task → Gathered → ℕ → GatheredSuite → ReadPoint → Content → Gathered
with_content task all number suite first content = record {
  suites = with_suite number (record suite { content = Some content }) all.suites;
  cache = after_search task all.cache number first;
}

module _ (fixed : Fixed) (task : Task) where
  -- ---- what is needed is not there

  needed_first : (known' : Known) (heard : Heard (List Answer) Refusal) (need : Need) → answered known' heard ≡ exec.Need need → heard ≡ Needs need
  needed_first known' heard need h3 = search arith

  none_there : (content : Option Content) → is_some content ≡ false → content ≡ None
  none_there content h1 = search arith

  away : (suites : Suites) (number : ℕ) (suite : GatheredSuite) (first : ReadPoint) → heard_on fixed task suites ≡ exec.Need (Know number) → suite_of suites number ≡ Some suite → suite.first ≡ Some first → suite.content ≡ None
  away suites number suite first is there was =
      none_there suite.content (sym (ap known.is_opened (known_at suites number suite first there was))
      ∙ needs_what_is_unmet fixed.service (known_of suites) task.t task.caller task.ops (Know number)
      (needed_first (known_of suites) (known.exec_of fixed.service (known_of suites) task.t task.caller task.ops) (Know number) is))

  -- ---- a round

  -- what a round opens
  pub record Opens (all more : Gathered) : Type 0 where
    pub number : ℕ
    pub suite : GatheredSuite
    pub first : ReadPoint
    pub content : Content
    pub needs : heard_on fixed task all.suites ≡ exec.Need (Know number)
    pub there : suite_of all.suites number ≡ Some suite
    pub was : suite.first ≡ Some first
    pub free : free_content task all.cache number first ≡ Some content
    pub is : with_content task all number suite first content ≡ more

  abbrev pub next_round : Gathered → Option Gathered
  next_round all = open_needed task all (heard_on fixed task all.suites)

  pub opens_by : (all more : Gathered) → next_round all ≡ Some more → Opens all more
  opens_by all more is = search arith

  pub round_opens : (all : Gathered) (number : ℕ) (suite : GatheredSuite) (first : ReadPoint) (content : Content) → heard_on fixed task all.suites ≡ exec.Need (Know number)
      → suite_of all.suites number ≡ Some suite → suite.first ≡ Some first
      → free_content task all.cache number first ≡ Some content → next_round all ≡ Some (with_content task all number suite first content)
  round_opens all number suite first content needs there was free = search arith

  -- the suites rise still, are as many, and one less has no content
  pub record Grows (all more : Gathered) : Type 0 where
    pub rises : Rises more.suites
    pub long : length more.suites ≡ length all.suites
    pub less : suc (missing more.suites) ≡ missing all.suites

  pub grows : (all more : Gathered) → Rises all.suites → next_round all ≡ Some more → Grows all more
  grows all more rises is =
      let opens = opens_by all more is in
      let new : GatheredSuite = record opens.suite { content = Some opens.content } in
      let set : with_suite opens.number new all.suites ≡ replace nat_cmp all.suites opens.number new = insert_present nat_cmp_total all.suites opens.number new rises (ap is_some opens.there) in
      subst (Grows all) opens.is (record {
        rises = IsOrdered-insert nat_cmp_total all.suites opens.number new rises;
        long = ap length set ∙ length-set_value (is_at (nat_cmp opens.number)) all.suites new;
        less = ap (λ suites. suc (missing suites)) set ∙ missing_set opens.number all.suites opens.suite opens.content opens.there (away all.suites opens.number opens.suite opens.first opens.needs opens.there opens.was);
      })

  -- ---- rounds

  -- one round more than there are suites without a content changes nothing, and nothing more is to be opened then
  pub enough : (rounds : ℕ) (all : Gathered) → Rises all.suites → missing all.suites ≤ rounds → opened rounds fixed task all ≡ opened (suc rounds) fixed task all
  enough zero all rises few = of (next_round all) refl
    where
      of : (found : Option Gathered) → next_round all ≡ found → all ≡ or_all all (next_round all) (λ all. all)
      of None is = sym (ap (λ found. or_all all found (λ all. all)) is)
      of (Some more) is = let less = (grows all more rises is).less in absurd (omega (arith, less, few))
  enough (suc rounds) all rises few = of (next_round all) refl (λ more. enough rounds more)
    where
      of : (found : Option Gathered) → next_round all ≡ found → ((more : Gathered) → Rises more.suites → missing more.suites ≤ rounds → opened rounds fixed task more ≡ opened (suc rounds) fixed task more)
          → or_all all (next_round all) (λ all. opened rounds fixed task all) ≡ or_all all (next_round all) (λ all. opened (suc rounds) fixed task all)
      of None is rest = ap (λ found. or_all all found (λ all. opened rounds fixed task all)) is ∙ sym (ap (λ found. or_all all found (λ all. opened (suc rounds) fixed task all)) is)
      of (Some more) is rest =
          let g = grows all more rises is in
          let fewer = g.less in
          ap (λ found. or_all all found (λ all. opened rounds fixed task all)) is ∙ rest more g.rises (omega (arith, fewer, few))
          ∙ sym (ap (λ found. or_all all found (λ all. opened (suc rounds) fixed task all)) is)

  pub nothing_opens : (rounds : ℕ) (all : Gathered) → next_round all ≡ None → opened rounds fixed task all ≡ all
  nothing_opens rounds all h2 = search arith

  -- as many rounds as there are suites come to the same from here and from where one content more is opened
  pub one_more : (all more : Gathered) → Rises all.suites → next_round all ≡ Some more → opened (length all.suites) fixed task all ≡ opened (length more.suites) fixed task more
  one_more all more rises is = search (grows, missing_few, enough, arith)
