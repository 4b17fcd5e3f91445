use Rattle.std.proofs.Common.{◌≡◌, ◌∙◌, ap, map, subst, inl, inr}
use Rattle.machine_everybody.specs.Everybody.{Everybody}
use Rattle.cg_everybody.specs.Everybody.{members_of}
use Rattle.cg_cli.specs.Everybody.{everybody_report_in}
use Rattle.cg_cli.specs.Reports.{Reports}
use Rattle.cg_cli.specs.declared.everybody.Wanted.{Wanted}
use Rattle.cg_cli.specs.declared.format.Format.{Format}
use Rattle.arguments.specs.Given.{listed_group}
use Rattle.commands.proofs.RequestLaws.{unread_by}
use Rattle.commands.proofs.on_subtrees.against_everybody.Goals as goal

-- there was no memory for the groups as the call takes them
pub returns-in_err-groups : goal.returns-in_err-groups
returns-in_err-groups g c =
    inr (unread_by (g.W.Write.contents c.args.out.now) c.in_err-groups.field-0.0 c.from_residual.result c.from_residual.ensures.1
    (inr c.in_err-groups.ensures.fault))

-- the groups as the call takes them are those of the words
pub returns : goal.returns
returns g c =
    let groups : map members_of c.as_slice-3.result.now ≡ map listed_group c.args.everyone.now.groups.items =
    ap (map members_of) c.as_slice-3.ensures.value ∙ c.in_ok-groups.ensures.members ∙ ap (map listed_group) c.as_slice.ensures.value in
    let said = c.everybody_bytes_in.ensures in inl (
      said.0,
      said.1,
      subst (λ (all : Format × Wanted × Everybody).
          Reports (everybody_report_in all.0 all.1 all.2 said.0 (map (λ subtree. subtree.now) c.args.subtrees.now))
          (g.W.Write.contents c.args.out.now) (g.W.Write.contents c.everybody_bytes_in.new.out) c.everybody_bytes_in.result)
          (λ i. let it : Everybody = record { but = c.as_slice-2.ensures.value i; groups = groups i } in
          (c.format_of-format.ensures i, c.wanted_of-wanted.ensures i, it)) said.2,
    )
