use Rattle.cg_format.proofs.ReadingLaws.{a_reading, one_reading}
use Rattle.cg_format.proofs.laws.texts_are_read.Goals as goal

pub returns : goal.returns
returns c = record {
  some = a_reading;
  one = one_reading;
}
