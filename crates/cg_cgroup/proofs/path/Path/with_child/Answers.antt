use Rattle.std.proofs.Common.{◌≡◌, ◌+◌, ◌++◌, ◌∷◌, [], length, take, ap, sym, ◌∙◌, ℕ, List, arith, inl, inr, subst}
use Rattle.std.specs.String.{string_bytes}
use Rattle.cg_cgroup.specs.Paths.{IsPath, is_name}
use Rattle.cg_cgroup.specs.PathText.{names_text}
use Rattle.cg_cgroup.proofs.PathEnds.{kept_front, path_bytes, depth_le}
use Rattle.cg_cgroup.proofs.PathNames.{IsPath-take, IsKept-at, names_of-at, first_ends, ends_push, names_text-push, IsPath-push, not_path-push}
use Rattle.cg_cgroup.proofs.path.Path.with_child.Goals as goal
use Rattle.cg_cgroup.proofs.path.Path.with_child.Goals.{then-end-gt-LONGEST_TEXT-via-then-end-gt-LONGEST_TEXT, then-end-gt-LONGEST_TEXT-via-else-end-gt-LONGEST_TEXT+then-not-is_name}

pub returns-then-end-gt-LONGEST_TEXT-clause-bad : goal.returns-then-end-gt-LONGEST_TEXT-clause-bad
returns-then-end-gt-LONGEST_TEXT-clause-bad c =
    let n = ap length c.front-parent.ensures.text in
    λ e.
    not_path-push (take c.args.len c.args.self.now) c.args.name.now
    (elim c.then-end-gt-LONGEST_TEXT.branch [
      | then-end-gt-LONGEST_TEXT-via-then-end-gt-LONGEST_TEXT w ↦ inl (omega (arith, n, w.if-end-gt-LONGEST_TEXT.true))
      | then-end-gt-LONGEST_TEXT-via-else-end-gt-LONGEST_TEXT+then-not-is_name w ↦
          inr (ap is_name (sym w.as_bytes.ensures.value) ∙ sym w.is_name.ensures ∙ w.if-not-is_name.true)
    ])

pub overflow_add-len : goal.overflow_add-len
overflow_add-len c =
    let few = path_bytes c.args.self.now c.front-parent.ensures.path in
    omega (arith, depth_le c.args.self.now)

pub slice_bounds-extend_from_slice-end : goal.slice_bounds-extend_from_slice-end
slice_bounds-extend_from_slice-end c =
    rw c.as_slice.ensures.value (kept_front _ _ c.args.self.now c.args.len c.self.invariant c.self.view_is c.requires)

good : (c : goal.In_ok-push) → IsPath (take c.args.len c.args.self.now ++ c.args.name.now ∷ [])
good c =
    let path = c.args.self.now in
    let n = ap length c.front-parent.ensures.text in
    IsPath-push (take c.args.len path) c.args.name.now (IsPath-take path c.args.len c.front-parent.ensures.path)
    (ap is_name (sym c.as_bytes.ensures.value) ∙ sym c.is_name.ensures ∙ c.if-not-is_name.false) (omega arith)

text : (c : goal.In_ok-push) → string_bytes c.in_ok-text.text ≡ names_text (take c.args.len c.args.self.now ++ c.args.name.now ∷ [])
text c =
    c.in_ok-text.ensures.ok ∙ ap (λ (x : List ℕ). x ++ 47 ∷ c.args.name.now) c.front-parent.ensures.text
    ∙ sym (names_text-push (take c.args.len c.args.self.now) c.args.name.now)

pub invariant_of-result : goal.invariant_of-result
invariant_of-result c =
    let path = c.args.self.now in
    let ends =
    c.in_ok-extend_from_slice.ensures.items
    ∙ ap (λ (x : List ℕ). x ++ take c.args.len c.as_slice.result.now) c.in_ok-ends.ensures.items
    ∙ first_ends _ _ _ path c.args.len c.self.invariant c.self.view_is c.as_slice.ensures.value in
    IsKept-at _ _ (take c.args.len path ++ c.args.name.now ∷ []) (good c) (text c)
    (c.in_ok-push.ensures.items ∙ ends_push (take c.args.len path) c.args.name.now _ _ ends
    (ap (λ (x : List ℕ). length x + 1 + length c.args.name.now) c.front-parent.ensures.text))

pub returns-clause-ok : goal.returns-clause-ok
returns-clause-ok c = names_of-at _ (take c.args.len c.args.self.now ++ c.args.name.now ∷ []) (good c) (text c)

pub returns-clause-path : goal.returns-clause-path
returns-clause-path c =
    subst IsPath (sym (names_of-at _ (take c.args.len c.args.self.now ++ c.args.name.now ∷ []) (good c) (text c))) (good c)
