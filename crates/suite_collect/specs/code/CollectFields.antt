-- The fields of `Collect` as contracts see them, and what they keep.
use Rattle.std.specs.Prelude.{◌≡◌, ◌++◌, option_map, unwrap_or, IfSome}
use Rattle.suite_collect.specs.declared.collect.Collect.TheInside.{Inside}
use Rattle.suite_collect.specs.declared.widening.Widening.{Widening}
use Rattle.suite_collect.specs.Telling.{newest}
use Rattle.suite_collect.specs.Collecting as spec
use Rattle.suite_collect.specs.Collecting.{Collecting, Collector, counted, wanted, all_told}
use Rattle.suite_collect.specs.code.Dues.{Due, due_in, due_by, IsKnown}

abbrev pub widening_of : Widening → spec.Widening
widening_of widening = record { votes = widening.votes; told = widening.since.items }

abbrev pub collecting_of : Inside → Collecting
collecting_of fields = record {
  t = fields.t;
  suite = fields.suite;
  collector = record {
    start = fields.start;
    mode = fields.mode;
    told = fields.told;
    widening = option_map widening_of fields.widening;
  };
}

-- what is due of a collector
abbrev pub due_of : Collector → Due
due_of c = due_by (counted c) (wanted c) (all_told c)

pub record IsSummed (fields : Inside) : Type 0 where
  pub newest : unwrap_or fields.newer fields.start ≡ newest fields.start fields.told
  pub all : IfSome fields.widening (λ widening. widening.all ≡ widening.since.items ++ fields.told)
  pub due : due_in fields.due ≡ due_of (collecting_of fields).collector
  pub known : IsKnown fields.due
