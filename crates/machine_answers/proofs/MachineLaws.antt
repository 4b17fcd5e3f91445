-- What a report of a status 0 says of the machine that a text tells of.
use Rattle.std.proofs.Common.{◌≡◌, ℕ, List, Some, Ok, sym, ◌∙◌, subst}
use Rattle.std.proofs.lemmas.Option.{cond_some}
use Rattle.cg_cgroup.specs.Identity.{Identity}
use Rattle.cg_cgroup.specs.Users.{is_user, user_of}
use Rattle.cg_format.specs.Readings.{Reading, IsReading}
use Rattle.cg_cli.specs.Containment.{check_report}
use Rattle.machine.specs.Machines.{IsContainedAgainst}
use Rattle.machine_view.specs.Views.{view}
use Rattle.machine_view.proofs.Seen.{contained, has-row}
use Rattle.machine_text.proofs.Rows.{names_as}
use Rattle.machine_text.proofs.Told.{tells}
use Rattle.machine_answers.specs.Contained.{IsContainedIn}
use Rattle.machine_answers.proofs.GuardedLaws.{guarded_by_status}

-- a user that is named is of that uid and those groups
pub user_is : (uid : ℕ) (gids : List ℕ) (user : Identity) → user_of uid gids ≡ Some user → user ≡ record { uid = uid; gids = gids }
user_is uid gids user is =
    let named : Identity = record { uid = uid; gids = gids } in sym (cond_some (is_user named) named user is).1

pub contained_in : (text : List ℕ) (tree : Reading) (uid : ℕ) (gids word : List ℕ) → IsReading text tree
    → (check_report tree uid gids word).ending ≡ Ok 0 → IsContainedIn text (record { uid = uid; gids = gids }) word
contained_in text tree uid gids word reading is =
    let named = guarded_by_status text uid gids word tree reading is in
    let st = named.state in record {
      machine = view st;
      told = tells text st named.read;
      subtree = named.subtree;
      named = names_as word named.subtree named.path;
      below = named.there.1;
      there = has-row st named.subtree ∙ named.there.0;
      contained =
          subst (λ (user : Identity). IsContainedAgainst (view st) user named.subtree) (user_is uid gids named.user named.named)
          (contained st named.user named.subtree named.read.says.formed named.there named.guarded);
    }
