-- The walk over the ancestors for a probe, the nearest first.
use Rattle.std.proofs.Common.{◌≡◌, ℕ, zero, suc, ◌+◌, ◌-◌, ◌<◌, ◌≤◌, Bool, true, false, cond, ◌&&◌, length, take, Some, None, nat_lt, refl, sym, ap, ◌∙◌, arith}
use Rattle.std.specs.Option.{option_or}
use Rattle.std.proofs.lemmas.Bool.{lt-ltb, le-ltb}
use Rattle.cg_cgroup.specs.Paths.{Names}
use Rattle.cg_cgroup.specs.Identity.{Identity}
use Rattle.cg_model.specs.States.{State}
use Rattle.cg_tries.specs.Finding.{lets_in, writes_both, free_path, probe_path, first_probe_path}

module _ (st : State) (user : Identity) (subtree : Names) where
  probe_next : (len : ℕ) → 0 < len
      → first_probe_path st user subtree len ≡ option_or (probe_path st user subtree (len - 1)) (first_probe_path st user subtree (len - 1))
  probe_next zero h = absurd (omega arith)
  probe_next (suc len) h =
      ap (λ n. option_or (probe_path st user subtree n) (first_probe_path st user subtree n)) (let e : len ≡ suc len - 1 = omega arith in e)

  pub probe_past : (len : ℕ) → 0 < len → probe_path st user subtree (len - 1) ≡ None
      → first_probe_path st user subtree (len - 1) ≡ first_probe_path st user subtree len
  probe_past len h none = sym (probe_next len h ∙ ap (λ o. option_or o (first_probe_path st user subtree (len - 1))) none)

  pub probe_here : (len : ℕ) (path : Names) → 0 < len → probe_path st user subtree (len - 1) ≡ Some path
      → first_probe_path st user subtree len ≡ Some path
  probe_here len path h some = probe_next len h ∙ ap (λ o. option_or o (first_probe_path st user subtree (len - 1))) some

  pub unwritten : (len : ℕ) → writes_both st user (take len subtree) ≡ false → probe_path st user subtree len ≡ None
  unwritten len h = ap (λ b. cond (lets_in st subtree len && b) (free_path st (take len subtree)) None) h ∙ barred (lets_in st subtree len)
    where
      barred : (b : Bool) → cond (b && false) (free_path st (take len subtree)) None ≡ None
      barred true = refl
      barred false = refl

  -- where limits let in a child above a level
  module _ (level : ℕ) (open_levels : (len : ℕ) → len < length subtree → lets_in st subtree len ≡ nat_lt len level) where
    pub opened : (len : ℕ) → len < length subtree → len < level → writes_both st user (take len subtree) ≡ true
        → probe_path st user subtree len ≡ free_path st (take len subtree)
    opened len within h writes =
        (λ i. cond ((open_levels len within ∙ lt-ltb len level h) i && writes i) (free_path st (take len subtree)) None)

    closed : (len : ℕ) → len < length subtree → level ≤ len → probe_path st user subtree len ≡ None
    closed len within h =
        ap (λ b. cond (b && writes_both st user (take len subtree)) (free_path st (take len subtree)) None)
        (open_levels len within ∙ le-ltb len level h)

    -- nothing comes from below it
    pub from_level : (more : ℕ) → level + more ≤ length subtree
        → first_probe_path st user subtree level ≡ first_probe_path st user subtree (level + more)
    from_level zero h = ap (first_probe_path st user subtree) (let e : level ≡ level + 0 = omega arith in e)
    from_level (suc more) h =
        from_level more (omega (arith, h))
        ∙ sym
        (ap (λ o. option_or o (first_probe_path st user subtree (level + more))) (closed (level + more) (omega (arith, h)) (omega arith)))
        ∙ ap (first_probe_path st user subtree) (let e : suc (level + more) ≡ level + suc more = omega arith in e)
