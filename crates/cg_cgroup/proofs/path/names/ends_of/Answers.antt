use Rattle.std.proofs.Common.{◌∷◌, [], ◌++◌, ◌+◌, ℕ, List, length, ap, sym, ◌∙◌, arith}
use Rattle.std.specs.Prelude.{vec_capacity}
use Rattle.std.proofs.lemmas.List.{take_all}
use Rattle.cg_cgroup.proofs.Slashes.{slashes, slashes_fit, slash_read, other_read, ends_at_slashes}
use Rattle.cg_cgroup.proofs.path.names.ends_of.Goals as goal
use Rattle.cg_cgroup.proofs.path.names.ends_of.Goals.{then-byte-eq47, else-byte-eq47}

pub push_reserved-requires : goal.push_reserved-requires
push_reserved-requires c =
    let fits = slashes_fit 0 c.loop-at.at c.args.names.now in
    let same = ap length c.loop-at.invariant.0 in
    let value = c.as_bytes-bytes.ensures.value in
    let count = rw value at c.slashes_in-slashes.ensures in
    omega arith

pub push_reserved-requires-2 : goal.push_reserved-requires-2
push_reserved-requires-2 c =
    let fits = slashes_fit 0 c.loop-at.at c.args.names.now in
    let same = ap length c.loop-at.invariant.0 in
    let value = c.as_bytes-bytes.ensures.value in
    let count = rw value at c.slashes_in-slashes.ensures in
    omega arith

pub loop-at-preserved : goal.loop-at-preserved
loop-at-preserved c =
    let value = c.as_bytes-bytes.ensures.value in
    let inside = rw value at c.loop-at-test.true in
    elim c.if-byte-eq47.branch [
      | then-byte-eq47 w ↦
          let is = rw value at w.if-byte-eq47.true in (
            ap (λ ends. ends.items) w.ends-is ∙ w.push_reserved.ensures.items
                ∙ ap (λ (ends : List ℕ). ends ++ (c.loop-at.at + 1) ∷ []) c.loop-at.invariant.0
                ∙ sym (slash_read c.loop-at.at c.args.names.now inside is),
            ap vec_capacity w.ends-is ∙ w.push_reserved.ensures.capacity ∙ c.loop-at.invariant.1,
          )
      | else-byte-eq47 w ↦
          let differs = rw value at w.if-byte-eq47.false in (
            ap (λ ends. ends.items) w.ends-is ∙ c.loop-at.invariant.0
                ∙ sym (other_read c.loop-at.at c.args.names.now inside differs),
            ap vec_capacity w.ends-is ∙ c.loop-at.invariant.1,
          )
    ]

pub returns : goal.returns
returns c =
    let value = c.as_bytes-bytes.ensures.value in
    let read = rw value at c.loop-at-test.false in
    c.push_reserved-2.ensures.items
    ∙ ap (λ (ends : List ℕ). ends ++ (length c.args.names.now + 1) ∷ [])
    (c.loop-at.invariant.0 ∙ ap (slashes 0) (take_all c.loop-at.at c.args.names.now read))
    ∙ ends_at_slashes c.args.names.now
