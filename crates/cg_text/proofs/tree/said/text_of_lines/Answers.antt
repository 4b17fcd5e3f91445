use Rattle.std.proofs.Common.{true, map, filter_map, Some, None, cond, sym, ap, ◌∙◌}
use Rattle.std.specs.String.{string_bytes}
use Rattle.std.specs.Option.{option_copied}
use Rattle.std.proofs.lemmas.List.{drop_all}
use Rattle.toml.specs.Data.{as_str}
use Rattle.toml.specs.View.{view}
use Rattle.cg_text.proofs.LinesLaws.{lines_from, all_lines, line_skipped, line_taken, line_refused, lines_end}
use Rattle.cg_text.proofs.tree.said.text_of_lines.Goals.{in-Some+else-not-is_text_line+in_ok-add_line, in_default}
use Rattle.cg_text.proofs.tree.said.text_of_lines.Goals as goal

pub loop-value-init : goal.loop-value-init
loop-value-init c =
    ap (λ text. lines_from true text (filter_map as_str (map view c.args.lines.now))) c.new-text.ensures.bytes
    ∙ all_lines (filter_map as_str (map view c.args.lines.now))

pub loop-value-preserved : goal.loop-value-preserved
loop-value-preserved c =
    let lines = c.args.lines.now in
    let at = c.loop-value.value-index in
    let is_text = sym c.as_str.ensures in
    elim c.match-as_str.branch [
      | in-Some+else-not-is_text_line+in_ok-add_line w ↦
          line_taken lines at c.value-item.result c.loop-value-test.true c.value-item.is c.loop-value.is_first
          (string_bytes c.loop-value.text) _ c.loop-value.invariant w.in-Some.line.now (is_text ∙ ap option_copied w.in-Some.is)
          c.match-as_str.is_first (string_bytes c.match-as_str.text) w.is_first-is
          (ap string_bytes w.text-is ∙ w.in_ok-add_line.ensures) (sym w.is_text_line.ensures ∙ w.if-not-is_text_line.false)
      | in_default w ↦
          line_skipped lines at c.value-item.result c.loop-value-test.true c.value-item.is c.loop-value.is_first
          (string_bytes c.loop-value.text) _ c.loop-value.invariant c.match-as_str.is_first (string_bytes c.match-as_str.text)
          w.is_first-is (ap string_bytes w.text-is) (is_text ∙ ap option_copied w.in_default.is)
    ]

pub returns-then-not-is_text_line : goal.returns-then-not-is_text_line
returns-then-not-is_text_line c =
    line_refused c.args.lines.now c.loop-value.value-index c.value-item.result c.loop-value-test.true c.value-item.is
    c.loop-value.is_first (string_bytes c.loop-value.text) _ c.loop-value.invariant c.in-Some.line.now
    (sym c.as_str.ensures ∙ ap option_copied c.in-Some.is) (sym c.is_text_line.ensures ∙ c.if-not-is_text_line.true)

pub returns-then-is_first : goal.returns-then-is_first
returns-then-is_first c =
    sym (lines_end _ _ _ _ c.loop-value.invariant
    (ap (λ rest. filter_map as_str (map view rest)) (drop_all c.loop-value.value-index c.args.lines.now c.loop-value-test.false))
    ∙ ap (λ first. cond first None (Some (string_bytes c.loop-value.text))) c.if-is_first.true)

pub returns : goal.returns
returns c =
    sym (lines_end _ _ _ _ c.loop-value.invariant
    (ap (λ rest. filter_map as_str (map view rest)) (drop_all c.loop-value.value-index c.args.lines.now c.loop-value-test.false))
    ∙ ap (λ first. cond first None (Some (string_bytes c.loop-value.text))) c.if-is_first.false)
