use Rattle.machine_view.proofs.Seen.{present, guarded-all, contained-together}
use Rattle.machine_view.proofs.several_users.Goals as goal

pub returns : goal.returns
returns c = record {
  guarded = λ st users subtree formed is holds. (present st formed subtree is.0, guarded-all st users subtree holds);
  held = contained-together;
}
