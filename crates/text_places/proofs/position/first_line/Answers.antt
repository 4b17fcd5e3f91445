use Rattle.std.proofs.Common.{◌≤◌, length, arith}
use Rattle.std.proofs.lemmas.Grind.{common_steps}
use Rattle.text_places.proofs.Lines.{up_to}
use Rattle.text_places.proofs.position.first_line.Goals as goal

pub slice_bounds-without_return-end : goal.slice_bounds-without_return-end
slice_bounds-without_return-end c =
    let within : c.in-Some.at ≤ length c.args.text.now = (up_to c.args.text.now c.in-Some.at c.in-Some.ensures).0 in
    grind (arith, common_steps)
