-- One turn of the loops that climb from a place to the root.
use Rattle.std.proofs.Common.{◌≡◌, ℕ, suc, ◌+◌, ◌-◌, ◌<◌, Bool, cond, List, length, sym, ap, ◌∙◌, Some, None, arith}
use Rattle.std.specs.Prelude.{slice_set}
use Rattle.std.proofs.lemmas.Bool.{lt-ltb}
use Rattle.cg_places.specs.Links.{link_at, changed_up, is_full_link, climbed}
use Rattle.cg_places.specs.declared.links.Link.{Link}

pub changed_more : (f : Link → Link) (links : List Link) (i count done : ℕ) → i < length links → done < count
    → changed_up f links i (count - done)
    ≡ changed_up f (slice_set links i (f (link_at links i))) (link_at links i).above (count - (done + 1))
changed_more f links i count done l more =
    let turns : count - done ≡ suc (count - (done + 1)) = omega arith in
    ap (changed_up f links i) turns ∙ ap
    (λ b. cond b (changed_up f (slice_set links i (f (link_at links i))) (link_at links i).above (count - (done + 1))) links)
    (lt-ltb i (length links) l)

pub climbed_more : (links : List Link) (len at up : ℕ) (full : Bool) → full ≡ is_full_link (link_at links at) up → up < len
    → at < length links
    → cond full (Some (len - up)) (climbed links len (link_at links at).above (len - (up + 1))) ≡ climbed links len at (len - up)
climbed_more links len at up full is more l =
    let turns : len - up ≡ suc (len - (up + 1)) = omega arith in
    let levels : len - suc (len - (up + 1)) ≡ up = omega arith in
    ap (λ b. cond b (Some (len - up)) (climbed links len (link_at links at).above (len - (up + 1)))) is
    ∙ sym (ap (climbed links len at) turns
    ∙ ap (λ b. cond b (cond (is_full_link (link_at links at) (len - suc (len - (up + 1)))) (Some (suc (len - (up + 1))))
    (climbed links len (link_at links at).above (len - (up + 1)))) None) (lt-ltb at (length links) l)
    ∙ (λ i.
    cond (is_full_link (link_at links at) (levels i)) (Some (sym turns i)) (climbed links len (link_at links at).above (len - (up + 1)))))
