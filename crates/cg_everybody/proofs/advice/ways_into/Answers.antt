use Rattle.std.proofs.Common.{ap, ◌∙◌}
use Rattle.cg_model.specs.declared.mend.Class.TheVariants.{Group, Others}
use Rattle.cg_everybody.specs.Everybody.{everybody_of, opens_to}
use Rattle.cg_everybody.proofs.advice.ways_into.Goals as goal

pub returns : goal.returns
returns c = λ i. record {
  owner = c.opens_to-owner.ensures i;
  group = c.opens_to-group.ensures i;
  others = c.opens_to-others.ensures i;
  inside =
      (c.opens_to-inside.ensures
      ∙ ap (λ entry. opens_to (everybody_of c.args.asked.now) entry Group) c.handed_back-given.ensures) i;
  outside =
      (c.opens_to-outside.ensures
      ∙ ap (λ entry. opens_to (everybody_of c.args.asked.now) entry Others) c.handed_back-given.ensures) i;
}
