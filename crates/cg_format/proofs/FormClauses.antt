-- A document whose form has no fault is in form.
use Rattle.std.proofs.Common.{◌≡◌, ℕ, ◌+◌, true, nat_le, List, [], ◌∷◌, ◌++◌, length, codes, refl}
use Rattle.std.specs.Prelude.{◌&&◌}
use Rattle.std.specs.List.{list_all}
use Rattle.std.proofs.lemmas.Bool.{and_parts, leb-true}
use Rattle.toml.specs.Data.{Data, Members}
use Rattle.cg_model.specs.Clauses.{unless}
use Rattle.cg_model.proofs.ClauseLaws.{no_parts, no_unless}
use Rattle.cg_format.specs.Form.{Key, most_rows, row_keys, live_keys, is_table}
use Rattle.cg_format.specs.Said.{elements_at}
use Rattle.cg_format.specs.TextOf.{IsInForm}
use Rattle.cg_format.specs.TextFaults.{each, form_faults}
use Rattle.cg_format.specs.declared.format.Format.{Format}
use Rattle.cg_format.specs.declared.fault.Place.{Place}
use Rattle.cg_format.specs.declared.fault.Place.TheVariants.{Cgroup as AtCgroup, Process as AtProcess}
use Rattle.cg_format.specs.declared.fault.TreeFault.TheVariants.{Shape}
use Rattle.cg_format.proofs.KeysOnce.{five_none, absent_none}

shapes_pass : (keys : List Key) (place : ℕ → Place) (i : ℕ) (earlier rows : List Data)
    → each (λ _ place held. unless (is_table keys held) (Shape place)) place i earlier rows ≡ [] → list_all (is_table keys) rows ≡ true
shapes_pass keys place i earlier [] none = refl
shapes_pass keys place i earlier (row ∷ rows) none =
    let parts = no_parts _ _ none in
    let here = no_unless _ _ parts.0 in
    let others = shapes_pass keys place (i + 1) (earlier ++ row ∷ []) rows parts.1 in
    λ k. here k && others k

pub in_form : (document : Members) → form_faults document ≡ [] → (format : Format) × IsInForm format document
in_form document none =
    let cgroups : List Data = elements_at (codes "cgroup") document in
    let lives : List Data = elements_at (codes "process") document in
    let parts = five_none _ _ _ _ _ none in
    let said = absent_none _ _ parts.1 in
    let few = and_parts (nat_le (length cgroups) (most_rows said.0)) (nat_le (length lives) (most_rows said.0)) (no_unless _ _
    (rw said.1 at parts.2)) in (
      said.0,
      record {
        top = no_unless _ _ parts.0;
        format = said.1;
        few_cgroups = leb-true (length cgroups) (most_rows said.0) few.0;
        few_processes = leb-true (length lives) (most_rows said.0) few.1;
        cgroups = shapes_pass (row_keys said.0) AtCgroup 1 [] cgroups (rw said.1 at parts.3);
        processes = shapes_pass live_keys AtProcess 1 [] lives parts.4;
      },
    )
