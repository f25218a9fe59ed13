use Rattle.script_text.specs.Words.{is_blank}
use Rattle.script_text.proofs.Cuts.{first_at}
use Rattle.script_text.proofs.words.far_blank.Goals as goal

pub returns : goal.returns
returns c = first_at is_blank c.args.rest.now c.memchr2.result c.memchr2.ensures
