-- The clauses on a document's form, as the reader asks them in turn.
use Rattle.std.proofs.Common.{◌≡◌, ℕ, ◌≤◌, true, List, ◌++◌, length, map, nat_le, le-leb, codes, Some, None, sym, ap, ◌∙◌, subst, arith}
use Rattle.std.specs.Option.{option_or}
use Rattle.std.proofs.lemmas.Bool.{and_from}
use Rattle.std.proofs.lemmas.List.{length-map}
use Rattle.std.proofs.lemmas.Option.{same_Some}
use Rattle.toml.specs.Data.{Data, Members, table}
use Rattle.toml.specs.View.{view}
use Rattle.toml.specs.declared.value.Value.{Value}
use Rattle.cg_model.specs.Clauses.{unless, absent, present, first}
use Rattle.cg_model.proofs.ClauseLaws.{none_of_first}
use Rattle.cg_format.specs.Form.{most_rows, is_table, document_keys, row_keys, live_keys}
use Rattle.cg_format.specs.Said.{elements_at, format_said}
use Rattle.cg_format.specs.TextOf.{IsInForm}
use Rattle.cg_format.specs.TextFaults.{each_cgroup, each_process, has_few, form_faults}
use Rattle.cg_format.specs.declared.fault.TreeFault.{TreeFault}
use Rattle.cg_format.specs.declared.fault.TreeFault.TheVariants.{Shape, Format as BadFormat, TooMany}
use Rattle.cg_format.specs.declared.fault.Place.TheVariants.{Top}
use Rattle.cg_format.specs.declared.format.Format.{Format}
use Rattle.cg_text.proofs.EachRow.{first_or}
use Rattle.cg_format.proofs.FormClauses.{in_form}

few_are : (most : ℕ) (some : List Value) (all : List Data) → map view some ≡ all → length some ≤ most → nat_le (length all) most ≡ true
few_are most some all are few = le-leb (length all) most (omega (arith, ap length are, length-map some view))

pub has_few_rows : (format : Format) (document : Members) (cgroups processes : List Value)
    → map view cgroups ≡ elements_at (codes "cgroup") document → length cgroups ≤ most_rows format
    → map view processes ≡ elements_at (codes "process") document → length processes ≤ most_rows format
    → has_few format document ≡ true
has_few_rows format document cgroups processes are few also few_also =
    and_from _ _ (few_are (most_rows format) cgroups (elements_at (codes "cgroup") document) are few)
    (few_are (most_rows format) processes (elements_at (codes "process") document) also few_also)

-- A document whose top table is in form, and which has few rows.
pub record IsCounted (document : Members) (format : Format) : Type 0 where
  pub top : is_table document_keys (table document) ≡ true
  pub said : format_said document ≡ Some format
  pub few : has_few format document ≡ true

module _ (document : Members) (format : Format) (is : IsCounted document format) where
  abbrev cgroup_shapes : Format → List TreeFault
  cgroup_shapes format =
      each_cgroup (λ _ place held. unless (is_table (row_keys format) held) (Shape place)) (elements_at (codes "cgroup") document)

  abbrev process_shapes : List TreeFault
  process_shapes = each_process (λ _ place held. unless (is_table live_keys held) (Shape place)) (elements_at (codes "process") document)

  -- the rows are left
  rows_left : first (form_faults document) ≡ option_or (first (cgroup_shapes format)) (first process_shapes)
  rows_left =
      (λ i. first (unless (is.top i) (Shape Top) ++ absent (is.said i) BadFormat
      ++ present (is.said i) (λ format. unless (has_few format document) TooMany)
      ++ present (is.said i) cgroup_shapes ++ process_shapes))
      ∙ (λ i. first (unless (is.few i) TooMany ++ cgroup_shapes format ++ process_shapes)) ∙ first_or (cgroup_shapes format) process_shapes

  pub at_cgroup : (fault : TreeFault) → first (cgroup_shapes format) ≡ Some fault → first (form_faults document) ≡ Some fault
  at_cgroup fault found = rows_left ∙ ap (λ o. option_or o (first process_shapes)) found

  pub at_process : (fault : TreeFault) → first (cgroup_shapes format) ≡ None → first process_shapes ≡ Some fault
      → first (form_faults document) ≡ Some fault
  at_process fault none found = rows_left ∙ (λ i. option_or (none i) (found i))

  pub no_shape : first (cgroup_shapes format) ≡ None → first process_shapes ≡ None
      → (first (form_faults document) ≡ None) × IsInForm format document
  no_shape none also =
      let passed = rows_left ∙ (λ i. option_or (none i) (also i)) in
      let form = in_form document (none_of_first _ passed) in
      (passed, subst (λ kind. IsInForm kind document) (same_Some form.0 format (sym form.1.format ∙ is.said)) form.1)
