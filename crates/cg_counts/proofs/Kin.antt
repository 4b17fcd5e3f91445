-- Cgroups that are shared are shared by children, also once links or nodes change.
use Rattle.std.proofs.Common.{◌≡◌, ℕ, ◌&&◌, not, nat_eq, List, sym, ap, ◌∙◌, true≢false, Option, Some, None, cond, Bool, true, false}
use Rattle.std.specs.Prelude.{is_none}
use Rattle.cg_places.specs.Links.{link_at, put_at}
use Rattle.cg_cgroup.proofs.Options.{same_some}
use Rattle.cg_cgroup.specs.declared.cgroup.Cgroup.{Cgroup}
use Rattle.cg_places.specs.Nodes.{Node, new_node, kin_if, IsKin}
use Rattle.cg_places.specs.declared.links.Link.{Link}

pub kin_reread : (links links' : List Link) (j : ℕ) (n n' : Node) → n'.kin ≡ n.kin → (link_at links' j).above ≡ (link_at links j).above
    → IsKin links j n → IsKin links' j n'
kin_reread links links' j n n' kin above old a is = ap (λ x. nat_eq x a && not (nat_eq j a)) above ∙ old a (sym kin ∙ is)

-- one of its own is nobody's kin
pub kin_of_either : (b : Bool) (n n' : Node) (a : ℕ) → n.kin ≡ None → (cond b n n').kin ≡ Some a → n'.kin ≡ Some a
kin_of_either true n n' a own is = absurd (true≢false (ap is_none (sym own ∙ is)))
kin_of_either false n n' a own is = is

-- a cgroup put at a place, which it may share with the other children of a place
pub record IsPutNew (at above : ℕ) (row : Cgroup) (old new : List Node) : Type 0 where
  pub kin : Option ℕ
  pub parents : (a : ℕ) → kin ≡ Some a → a ≡ above
  pub put : new ≡ put_at old at (new_node row kin)

pub is_put_new : (shares : Bool) {at above : ℕ} {row : Cgroup} {old new : List Node}
    → new ≡ put_at old at (new_node row (kin_if shares above)) → IsPutNew at above row old new
is_put_new shares {at} {above} put = record { kin = kin_if shares above; parents = parents shares; put = put }
  where
    parents : (b : Bool) (a : ℕ) → kin_if b above ≡ Some a → a ≡ above
    parents true a is = sym (same_some above a is)
    parents false a is = absurd (true≢false (ap is_none is))
