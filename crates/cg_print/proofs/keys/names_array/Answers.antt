use Rattle.std.proofs.Common.{sym, ap, subst, ◌∙◌}
use Rattle.toml.specs.Data.{string}
use Rattle.toml.proofs.Views.{view-Array}
use Rattle.cg_cgroup.specs.declared.files.Controller.TheVariants.{Cpuset}
use Rattle.cg_print.proofs.NamesInTurn.{AreNames, one_named, one_unnamed, all_named}
use Rattle.cg_print.proofs.keys.names_array.Goals.{then-is_named+in_ok-string+in_ok-push, else-is_named}
use Rattle.cg_print.proofs.keys.names_array.Goals as goal

pub loop-controller-preserved : goal.loop-controller-preserved
loop-controller-preserved c =
    let i = c.loop-controller.controller-index in
    let values = c.loop-controller.names.items in
    elim c.if-is_named.branch [
      | then-is_named+in_ok-string+in_ok-push w ↦
          subst (AreNames c.args.vocabulary c.args.set _) (sym (ap (λ names. names.items) w.names-is ∙ w.in_ok-push.ensures.items))
          (one_named c.args.vocabulary c.args.set i Cpuset values c.loop-controller-test.true c.loop-controller.invariant
          w.in_ok-string.field-0 (sym c.is_named.ensures ∙ w.if-is_named.true) (w.in_ok-string.ensures ∙ ap string w.name.ensures))
      | else-is_named w ↦
          subst (AreNames c.args.vocabulary c.args.set _) (sym (ap (λ names. names.items) w.names-is))
          (one_unnamed c.args.vocabulary c.args.set i Cpuset values c.loop-controller-test.true c.loop-controller.invariant
          (sym c.is_named.ensures ∙ w.if-is_named.false))
    ]

pub returns : goal.returns
returns c =
    view-Array c.loop-controller.names
    ∙ all_named c.args.vocabulary c.args.set c.loop-controller.controller-index c.loop-controller.names.items c.loop-controller-test.false
    c.loop-controller.invariant
