use Rattle.std.proofs.Common.{◌≡◌, ◌+◌, false, true, None, is_none, drop, take_all, sym, ap, ◌∙◌, arith}
use Rattle.std.specs.FinMap as finite
use Rattle.std.specs.Option.{option_or}
use Rattle.cg_cgroup.specs.Files.{all_others}
use Rattle.cg_cgroup.specs.declared.other_file.OtherFile.TheVariants.{Freeze}
use Rattle.cg_tries.specs.Finding.{first_given, other_set_of, writes_untold}
use Rattle.cg_tries.proofs.Walks.{given_next, given_past}
use Rattle.cg_tries.proofs.OtherSets.{copied_none, none_set}
use Rattle.cg_tries.proofs.write_tries.first_other_set.Goals as goal

-- nothing is told, and the user writes none
pub returns-then-not-writes_untold : goal.returns-then-not-writes_untold
returns-then-not-writes_untold g c =
    let st = g.H.Hierarchy.state c.args.asker.now.tree.now in
    let user = c.args.asker.now.user.now in
    let subtree = c.args.asker.now.subtree.now in
    let whole = take_all c.depth.result subtree (omega (arith, c.depth.ensures.depth)) in
    let none : is_none c.told-files.result ≡ true = grind (arith, c.is_none.ensures, c.if-is_none.true) in
    let untold : finite.get st.told subtree ≡ None =
    ap (finite.get st.told) (sym whole) ∙ sym c.told-files.ensures.told
    ∙ copied_none c.told-files.result none in
    let unwritten : writes_untold user c.args.cgroup.now ≡ false = grind (arith, c.writes_untold.ensures, c.if-not-writes_untold.true) in
    sym (none_set st user subtree c.args.cgroup.now c.requires untold unwritten)

pub loop-file-preserved : goal.loop-file-preserved
loop-file-preserved g c =
    given_past (other_set_of (g.H.Hierarchy.state c.args.asker.now.tree.now) c.args.asker.now.user.now c.args.asker.now.subtree.now)
    all_others c.loop-file.file-index Freeze c.loop-file-test.true (sym c.in_ok-found.ensures ∙ c.in_default.is)
    ∙ c.loop-file.invariant

pub returns-in-Some : goal.returns-in-Some
returns-in-Some g c =
    let set = other_set_of (g.H.Hierarchy.state c.args.asker.now.tree.now) c.args.asker.now.user.now c.args.asker.now.subtree.now in
    sym (sym c.loop-file.invariant
    ∙ given_next set all_others c.loop-file.file-index Freeze c.loop-file-test.true
    ∙ ap (λ found. option_or found (first_given set (drop (c.loop-file.file-index + 1) all_others)))
    (sym c.in_ok-found.ensures ∙ c.in-Some.is))
