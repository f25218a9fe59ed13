use Rattle.std.proofs.Common.{arith}
use Rattle.suite_prefix.proofs.copies.Prefix.fits.Goals as goal

pub returns : goal.returns
returns c = record {
  acl = c.lists_fit.ensures.acls;
  votes = c.reps-reps.ensures.valid;
  pver = c.fits_eight.ensures;
  owner = c.fits_four.ensures;
  group = c.fits_four-2.ensures;
  qualifiers = c.lists_fit.ensures.numbers;
  r = omega arith;
  w = omega arith;
}
