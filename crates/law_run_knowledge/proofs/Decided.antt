-- What a transaction knows of a suite, from what its agent holds.
use Rattle.law_run_knowledge.proofs.Vocabulary.{◌≡◌, ℕ, Some, refl, subst, Content, newest, ReadPoint, GatheredSuite, suite_of, TransactionRun, Running, Agent, Beginning, WasPrefix, GoesWith, World, Inv, SuiteWas, arith}
use Rattle.law_suite_machine.proofs.Conclusions.{copies_were}
use Rattle.law_run_knowledge.proofs.Showed.{newest_was}
use Rattle.law_run_knowledge.proofs.Lasting.{DoingFits, AgentFits}

module _ (z : ℕ) (start : Beginning) (w : World) where
  -- what its agent holds of the suite
  pub suite_was : (agent : Agent) (txn_run : TransactionRun) (suite : GatheredSuite) → AgentFits z start w agent → agent.doing ≡ Some (Running txn_run) → suite_of txn_run.suites z ≡ Some suite → SuiteWas start w txn_run.task.t suite
  suite_was agent txn_run suite fits running found =
      let doing : DoingFits z start w (Some (Running txn_run)) = subst (DoingFits z start w) running fits.doing in
      doing.0.1 z suite found refl

  module _ (t : ℕ) (suite : GatheredSuite) (was : SuiteWas start w t suite) where
    -- the prefix that it knows was the suite's
    pub known_prefix : (first : ReadPoint) → suite.first ≡ Some first → WasPrefix start w.log first.prefix
    known_prefix first had = (was.first first had).prefix

    -- and the content goes with it
    pub known_content : (first : ReadPoint) → suite.first ≡ Some first → (content : Content) → suite.content ≡ Some content → GoesWith start w.log first.prefix first.dver content
    known_content first had content is = search arith

    -- and so was the newest prefix that it was told by now, under which exclusive votes are counted
    pub newest_prefix : Inv start w → WasPrefix start w.log (newest suite.collector.start suite.collector.told)
    newest_prefix inv = newest_was start w t (copies_were start w inv) suite.collector.start suite.collector.told was.from was.told
