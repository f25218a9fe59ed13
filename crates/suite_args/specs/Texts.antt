-- What the errors print.
use Rattle.std.specs.Prelude.{ℕ, List, codes}
use Rattle.suite_args.specs.declared.request.ArgsError.{ArgsError}
use Rattle.suite_args.specs.declared.request.ArgsError.TheVariants.{CommandLine, Memory}

abbrev pub text_of : ArgsError → List ℕ
text_of CommandLine = codes "no command line of this program"
text_of Memory = codes "out of memory"
