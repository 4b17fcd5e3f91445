use Rattle.std.proofs.Common.{◌≡◌, ◌≢◌, ◌∷◌, ◌<◌, length, ap, sym, ◌∙◌, lit<, arith, inl, inr, Some, None}
use Rattle.std.specs.String.{string_bytes}
use Rattle.std.proofs.lemmas.Str.Pattern.{strip_prefix_char}
use Rattle.cg_cgroup.specs.Paths.{names_of, path_at, IsPath}
use Rattle.cg_cgroup.specs.PathText.{names_text, ends_from}
use Rattle.cg_cgroup.proofs.PathNames.{IsKept-at}
use Rattle.cg_cgroup.proofs.PathAt.{path_at-is, path_at-none, path_at-some, path_at-no_slash, path_at-found, path_at-bad}
use Rattle.cg_cgroup.proofs.path.Path.parse.Goals as goal
use Rattle.cg_cgroup.proofs.path.Path.parse.Goals.{In_default, Else-not-are_names, then-text-gt-LONGEST_TEXT-via-then-text-gt-LONGEST_TEXT, then-text-gt-LONGEST_TEXT-via-else-text-gt-LONGEST_TEXT+then-not-are_names}

-- no path's text is without a slash at its head
headless : (c : In_default) → path_at c.args.text.now ≡ None
headless c =
    path_at-no_slash c.args.text.now
    (rw c.in_default.is at (strip_prefix_char 47 c.args.text.now _ c.strip_prefix.ensures.cases (lit< tt)))

pub returns-in_default-clause-bad : goal.returns-in_default-clause-bad
returns-in_default-clause-bad c = λ e path h. path_at-none c.args.text.now path (headless c) h

pub returns-in_default-clause-value : goal.returns-in_default-clause-value
returns-in_default-clause-value c = λ e. headless c

pub returns-then-text-gt-LONGEST_TEXT-clause-bad :
    goal.returns-then-text-gt-LONGEST_TEXT-clause-bad
returns-then-text-gt-LONGEST_TEXT-clause-bad c =
    let slash = rw c.in-Some.is at (strip_prefix_char 47 c.args.text.now _ c.strip_prefix.ensures.cases (lit< tt)) in
    let long : 0 < length c.in-Some.names.now = grind arith in
    λ e path h.
    path_at-none c.args.text.now path (path_at-bad c.args.text.now c.in-Some.names.now slash long
    (elim c.then-text-gt-LONGEST_TEXT.branch [
      | then-text-gt-LONGEST_TEXT-via-then-text-gt-LONGEST_TEXT w ↦ inl w.if-text-gt-LONGEST_TEXT.true
      | then-text-gt-LONGEST_TEXT-via-else-text-gt-LONGEST_TEXT+then-not-are_names w ↦
          inr (sym w.are_names.ensures ∙ w.if-not-are_names.true)
    ])) h

-- the text is a path's
record Found (c : Else-not-are_names) : Type 0 where
  slash : c.args.text.now ≡ 47 ∷ c.in-Some.names.now
  path : IsPath (names_of c.args.text.now)
  text : names_text (names_of c.args.text.now) ≡ c.args.text.now
  at : path_at c.args.text.now ≡ Some (names_of c.args.text.now)
  some : path_at c.args.text.now ≢ None

found : (c : Else-not-are_names) → Found c
found c =
    let text = c.args.text.now in
    let slash = rw c.in-Some.is at (strip_prefix_char 47 text _ c.strip_prefix.ensures.cases (lit< tt)) in
    let is = path_at-found text c.in-Some.names.now slash (omega arith) (sym c.are_names.ensures ∙ c.if-not-are_names.false) in
    record { slash = slash; path = is.0; text = is.1; at = is.2; some = path_at-some text (names_of text) is.2 }

pub invariant_of-result : goal.invariant_of-result
invariant_of-result c =
    let is = found (goal.at.invariant_of-result c).Else-not-are_names in
    IsKept-at _ _ (names_of c.args.text.now) is.path (c.in_ok-text.ensures.ok ∙ sym is.text)
    (c.in_ok-ends.ensures ∙ ap (ends_from 0) (sym (ap names_of is.slash)))

pub returns-clause-value : goal.returns-clause-value
returns-clause-value c =
    let same : names_of (string_bytes c.in_ok-text.text) ≡ names_of c.args.text.now = ap names_of c.in_ok-text.ensures.ok in
    (found (goal.at.returns-clause-value c).Else-not-are_names).at ∙ ap Some (sym same)

pub returns-clause-ok : goal.returns-clause-ok
returns-clause-ok c = path_at-is c.args.text.now _ (returns-clause-value c)

pub returns-in_err-ends-clause-none : goal.returns-in_err-ends-clause-none
returns-in_err-ends-clause-none c = λ none. absurd ((found (goal.at.returns-in_err-ends-clause-none c).Else-not-are_names).some none)

pub returns-in_err-text-clause-none : goal.returns-in_err-text-clause-none
returns-in_err-text-clause-none c = λ none. absurd ((found (goal.at.returns-in_err-text-clause-none c).Else-not-are_names).some none)

pub returns-clause-none : goal.returns-clause-none
returns-clause-none c = λ none. absurd ((found (goal.at.returns-clause-none c).Else-not-are_names).some none)
