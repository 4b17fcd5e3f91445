use Rattle.std.proofs.Common.{◌≡◌, ◌++◌, sym, ap, ◌∙◌, subst, List, Option, Some, IfOk}
use Rattle.cg_model.specs.declared.operation.Op.{Op}
use Rattle.cg_check.specs.Opened.{is_free}
use Rattle.cg_check.proofs.Openings.{opened_state}
use Rattle.cg_check.proofs.Escaping.{escape-unopened, opened-is, no_length, opened-subtree, opened-unbroken, escape-none, escape-free, escape-joined}
use Rattle.cg_check.proofs.escape.first_unbroken_escape.Given as given
use Rattle.cg_check.proofs.escape.first_unbroken_escape.Goals as goal
use Rattle.cg_check.proofs.escape.first_unbroken_escape.Goals.{In_ok-carry_out}

pub returns-then-is_empty : goal.returns-then-is_empty
returns-then-is_empty g c =
    let P : Option (List Op) → Type 0 = λ e. IfOk c.first_plain_try.result (λ found. found ≡ e) in
    let none =
    sym c.requires.opening ∙ sym c.as_slice.ensures
    ∙ no_length c.as_slice.result.now (sym c.is_empty.ensures ∙ c.if-is_empty.true) in
    subst P (sym (escape-unopened (g.H.Hierarchy.state c.args.tree.now) c.args.user.now c.args.subtree.now none)) c.first_plain_try.ensures

-- the copy is the opened tree
opened : (g : given.Over) (c : In_ok-carry_out g) → g.H.Hierarchy.state c.carry_out.new.tree
    ≡ opened_state (g.H.Hierarchy.state c.args.tree.now) c.args.user.now c.args.subtree.now
opened g c =
    opened-is (g.H.Hierarchy.state c.args.tree.now) (g.H.Hierarchy.state c.in_ok-opened.opened) (g.H.Hierarchy.state c.carry_out.new.tree)
    c.args.user.now c.args.subtree.now c.args.chmods c.as_slice-2.result.now
    c.in_ok-carry_out.ensures c.in_ok-opened.ensures c.as_slice-2.ensures c.requires.opening

pub first_plain_try-requires-2-clause-subtree : goal.first_plain_try-requires-2-clause-subtree
first_plain_try-requires-2-clause-subtree g c =
    opened-subtree (g.H.Hierarchy.state c.args.tree.now) c.args.user.now c.args.subtree.now c.requires.unbroken c.requires.formed
    c.requires.subtree (g.H.Hierarchy.state c.carry_out.new.tree)
    (opened g (goal.at.first_plain_try-requires-2-clause-subtree g c).In_ok-carry_out)

pub first_plain_try-requires-2-clause-unbroken : goal.first_plain_try-requires-2-clause-unbroken
first_plain_try-requires-2-clause-unbroken g c =
    opened-unbroken (g.H.Hierarchy.state c.args.tree.now) c.args.user.now c.args.subtree.now c.requires.unbroken c.requires.formed
    c.requires.subtree (g.H.Hierarchy.state c.carry_out.new.tree)
    (opened g (goal.at.first_plain_try-requires-2-clause-unbroken g c).In_ok-carry_out)

pub returns-in_default : goal.returns-in_default
returns-in_default g c =
    escape-none (g.H.Hierarchy.state c.args.tree.now) c.args.user.now c.args.subtree.now c.requires.unbroken c.requires.formed
    c.requires.subtree (g.H.Hierarchy.state c.carry_out.new.tree) (opened g (goal.at.returns-in_default g c).In_ok-carry_out)
    c.in_ok-found.field-0 c.in_ok-found.ensures c.in_default.not-Some

pub returns-then-is_free : goal.returns-then-is_free
returns-then-is_free g c =
    escape-free (g.H.Hierarchy.state c.args.tree.now) c.args.user.now c.args.subtree.now c.requires.unbroken c.requires.formed
    c.requires.subtree (g.H.Hierarchy.state c.carry_out.new.tree) (opened g (goal.at.returns-then-is_free g c).In_ok-carry_out)
    c.in-Some.found (sym c.in-Some.is ∙ c.in_ok-found.ensures) (ap (is_free (g.H.Hierarchy.state c.args.tree.now) c.args.user.now)
    (sym c.as_slice-3.ensures) ∙ sym c.is_free.ensures ∙ c.if-is_free.true)

pub returns : goal.returns
returns g c =
    ap Some (c.in_ok-append.ensures.ok ∙ ap (λ chmods. chmods ++ c.in-Some.found) c.requires.opening)
    ∙ escape-joined (g.H.Hierarchy.state c.args.tree.now) c.args.user.now c.args.subtree.now c.requires.unbroken c.requires.formed
    c.requires.subtree (g.H.Hierarchy.state c.carry_out.new.tree) (opened g (goal.at.returns g c).In_ok-carry_out)
    c.in-Some.found (sym c.in-Some.is ∙ c.in_ok-found.ensures) (ap (is_free (g.H.Hierarchy.state c.args.tree.now) c.args.user.now)
    (sym c.as_slice-3.ensures) ∙ sym c.is_free.ensures ∙ c.if-is_free.false)
