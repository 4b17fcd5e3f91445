use Rattle.cg_places.proofs.Taken.{all_taken}
use Rattle.cg_places.proofs.nodes.take_files.Goals as goal

pub returns : goal.returns
returns c =
    all_taken c.args.changed c.args.from.now c.args.cgroup.now c.take_each.new.files c.take_each.ensures _ c.taken_others.ensures
