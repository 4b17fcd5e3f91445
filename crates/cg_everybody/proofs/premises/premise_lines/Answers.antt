use Rattle.std.proofs.Common.{◌∙◌, ◌++◌, ap, sym}
use Rattle.std.specs.List.{flat_map}
use Rattle.std.proofs.lemmas.List.Folds.{flat_map-map}
use Rattle.cg_everybody.specs.Everybody.{members_of}
use Rattle.cg_everybody.specs.Premises.{but_line, group_line}
use Rattle.cg_everybody.proofs.premises.premise_lines.Goals as goal

pub returns : goal.returns
returns c =
    c.in_ok-push_groups.ensures
    ∙ ap (λ text. text ++ flat_map (λ group. group_line (members_of group)) c.args.asked.now.groups.now)
    (c.in_ok-push_but.ensures ∙ ap (λ text. text ++ flat_map but_line c.args.asked.now.but.now) c.new-text.ensures.bytes)
    ∙ ap (λ text. flat_map but_line c.args.asked.now.but.now ++ text)
    (sym (flat_map-map group_line members_of c.args.asked.now.groups.now))
