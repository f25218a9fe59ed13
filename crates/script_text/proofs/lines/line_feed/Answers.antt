use Rattle.memchr.specs.Find.{is_byte}
use Rattle.script_text.proofs.Cuts.{first_at}
use Rattle.script_text.proofs.lines.line_feed.Goals as goal

pub returns : goal.returns
returns c = first_at (is_byte 10) c.args.text.now c.memchr.result c.memchr.ensures
