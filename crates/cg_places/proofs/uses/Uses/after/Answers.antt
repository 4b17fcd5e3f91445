use Rattle.std.proofs.Common.{◌≡◌, length, rules}
use mathlib.Core.HLevel.{is_prop→PathP}
use native.Mathlib.Nat.{ℕ_set}
use Rattle.cg_cgroup.specs.Files.{all_controllers}
use Rattle.cg_cgroup.specs.declared.files.Controller.TheVariants.{Cpu}
use Rattle.cg_places.specs.Nodes.{uses_then, uses_after}
use Rattle.cg_places.specs.declared.uses.Uses.{Uses}
use Rattle.cg_cgroup.proofs.Mapped.{mapped}
use Rattle.cg_places.proofs.uses.Uses.after.Goals as goal

same_uses : (uses other : Uses) → uses.counts ≡ other.counts → uses ≡ other
same_uses uses other same =
    λ i. record {
      counts = same i;
      whole = is_prop→PathP (λ j. length (same j) ≡ length all_controllers) (λ j. ℕ_set _ _) uses.whole other.whole i;
    }

pub returns : goal.returns
returns c =
    let then = uses_then c.args.had c.args.has c.args.self in
    same_uses _ (uses_after c.args.had c.args.has c.args.self)
    (mapped all_controllers c.map.result c.map.ensures.items then (λ controller count left called. (search rules, search rules)) Cpu)
