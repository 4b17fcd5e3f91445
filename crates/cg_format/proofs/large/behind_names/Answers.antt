use Rattle.std.proofs.Common.{sym, ap, ◌∙◌, ℕ, ◌+◌, List, drop, Bor}
use Rattle.std.specs.Prelude.{fold}
use Rattle.std.specs.Option.{option_map}
use Rattle.cg_cgroup.specs.Files.{all_controllers}
use Rattle.cg_cgroup.specs.declared.files.Controller.TheVariants.{Cpuset}
use Rattle.cg_format.specs.TreeTexts.{past_name}
use Rattle.cg_format.proofs.LargeLaws.{past_there, past_missing}
use Rattle.cg_format.proofs.large.behind_names.Goals.{in-Some, in_default}
use Rattle.cg_format.proofs.large.behind_names.Goals as goal

pub loop-controller-preserved : goal.loop-controller-preserved
loop-controller-preserved c =
    let now : Bor (List ℕ) → List ℕ = λ rest. rest.now in
    elim c.match-behind_name.branch [
      | in-Some w ↦
          (λ j. fold past_name (w.is_first-is j, (w.rest-is j).now) (drop (c.loop-controller.controller-index + 1) all_controllers))
          ∙ past_there all_controllers c.loop-controller.controller-index Cpuset c.loop-controller-test.true c.loop-controller.is_first
          c.loop-controller.rest.now w.in-Some.behind.now (sym c.behind_name.ensures ∙ ap (option_map now) w.in-Some.is)
          ∙ c.loop-controller.invariant
      | in_default w ↦
          (λ j. fold past_name (w.is_first-is j, (w.rest-is j).now) (drop (c.loop-controller.controller-index + 1) all_controllers))
          ∙ past_missing all_controllers c.loop-controller.controller-index Cpuset c.loop-controller-test.true c.loop-controller.is_first
          c.loop-controller.rest.now (sym c.behind_name.ensures ∙ ap (option_map now) w.in_default.is)
          ∙ c.loop-controller.invariant
    ]
