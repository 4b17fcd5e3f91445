-- The derived `==` of cgroups says that they are the same, field by field.
use Rattle.std.proofs.Common.{rules, ◌≡◌, subst, refl, Bool, true, ◌&&◌, List, [], ◌∷◌, Option}
use Rattle.cg_cgroup.specs.declared.user.Entry.{Entry}
use Rattle.cg_cgroup.specs.declared.controllers.ControllerSet.{ControllerSet}
use Rattle.cg_cgroup.specs.declared.cgroup.LimitEntry.{LimitEntry}
use Rattle.cg_cgroup.specs.declared.brought.BroughtFiles.{BroughtFiles}
use Rattle.cg_cgroup.specs.declared.cgroup.Cgroup.{Cgroup}
use Rattle.cg_cgroup.specs.declared.others.OtherFiles.{OtherFiles}
use Rattle.cg_cgroup.proofs.CgroupLaws.{same_brought, same_others}
use Rattle.cg_cgroup.proofs.ControllerLaws.{flag_same, same_flags}
use mathlib.Core.Bool.{beq}
use Rattle.cg_cgroup.specs.contracts.user.EntryPartialEq.TheImpl as entries
use Rattle.cg_cgroup.specs.contracts.cgroup.LimitEntryPartialEq.TheImpl as limits
use Rattle.cg_cgroup.specs.contracts.brought.BroughtFilesPartialEq.TheImpl as brought
use Rattle.cg_cgroup.specs.contracts.others.OtherFilesPartialEq.TheImpl as others
use Rattle.cg_cgroup.specs.contracts.controllers.ControllerSetPartialEq.TheImpl as sets
use Rattle.cg_cgroup.specs.contracts.cgroup.CgroupPartialEq.TheImpl as cgroups
use Rattle.cg_cgroup.specs.contracts.cgroup.CgroupEq.TheImpl.Laws as equal
use Rattle.std.proofs.lemmas.Bool.{and_parts}
use Rattle.std.specs.Option.{option_eq}
use Rattle.std.specs.Cmp.Lexicographic.{pointwise}

entry_same : (x y : Entry) → entries.ghosts.eq x y ≡ true → x ≡ y
entry_same x y e = search rules

limit_same : (x y : LimitEntry) → limits.ghosts.eq x y ≡ true → x ≡ y
limit_same x y e = search rules

held_same : (x y : Option LimitEntry) → option_eq limits.ghosts.eq x y ≡ true → x ≡ y
held_same x y e = search (rules, limit_same)

each_same : {A : Type 0} (eq : A → A → Bool) → ((x y : A) → eq x y ≡ true → x ≡ y) → (xs ys : List A) → pointwise eq xs ys ≡ true → xs ≡ ys
each_same eq same [] [] e = refl
each_same eq same [] (y ∷ ys) e = cc
each_same eq same (x ∷ xs) [] e = cc
each_same eq same (x ∷ xs) (y ∷ ys) e =
    let parts = and_parts (eq x y) (pointwise eq xs ys) e in
    λ i. same x y parts.0 i ∷ each_same eq same xs ys parts.1 i

pub set_same : (x y : ControllerSet) → sets.ghosts.eq x y ≡ true → x ≡ y
set_same x y e = same_flags x y (each_same beq flag_same x.flags y.flags e)

both : {P Q : Type 0} (a b : Bool) → (a ≡ true → P) → (b ≡ true → Q) → (a && b) ≡ true → P × Q
both a b p q e = (p (and_parts a b e).0, q (and_parts a b e).1)

brought_same : (x y : BroughtFiles) → brought.ghosts.eq x y ≡ true → x ≡ y
brought_same x y e = same_brought y x (each_same (option_eq limits.ghosts.eq) held_same x.entries y.entries e)

other_same : (x y : Option Entry) → option_eq entries.ghosts.eq x y ≡ true → x ≡ y
other_same x y e = search (rules, entry_same)

others_same : (x y : OtherFiles) → others.ghosts.eq x y ≡ true → x ≡ y
others_same x y e = same_others y x (each_same (option_eq entries.ghosts.eq) other_same x.entries y.entries e)

pub cgroup_same : (x y : Cgroup) → cgroups.ghosts.eq x y ≡ true → x ≡ y
cgroup_same x y e =
    let p =
    both _ _ (entry_same x.dir y.dir) (
    both _ _ (entry_same x.procs y.procs) (
    both _ _ (entry_same x.subtree_control y.subtree_control) (
    both _ _ (limit_same x.max_descendants y.max_descendants) (
    both _ _ (limit_same x.max_depth y.max_depth) (
    both _ _ (other_same x.freeze y.freeze) (
    both _ _ (brought_same x.files y.files) (
    both _ _ (others_same x.others y.others) (set_same x.enabled y.enabled)))))))) e in
    let q = p.1.1.1 in
    let r = q.1.1 in
    λ i. record {
      dir = p.0 i;
      procs = p.1.0 i;
      subtree_control = p.1.1.0 i;
      max_descendants = q.0 i;
      max_depth = q.1.0 i;
      freeze = r.0 i;
      files = r.1.0 i;
      others = r.1.1.0 i;
      enabled = r.1.1.1 i;
    }

pub cgroup_found : (x y : Cgroup) → x ≡ y → cgroups.ghosts.eq x y ≡ true
cgroup_found x y same = subst (λ z. cgroups.ghosts.eq x z ≡ true) same (equal.lawful.laws.refl x)
