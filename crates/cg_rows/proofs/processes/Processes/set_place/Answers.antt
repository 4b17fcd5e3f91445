use Rattle.std.proofs.Common.{ap, sym, ◌∙◌, Option, Some, None, is_some}
use Rattle.std.proofs.lemmas.Bool.{true≢false}
use Rattle.std.specs.Option.{option_copied_mut}
use Rattle.std.specs.Cmp.{nat_cmp_total}
use Rattle.std.specs.FinMap as map
use Rattle.std.specs.FinSet as set
use Rattle.cg_model.specs.States.{placed_at}
use Rattle.cg_cgroup.specs.declared.process.Process.{Process}
use Rattle.cg_rows.specs.Processes.{with_place_of}
use Rattle.cg_rows.proofs.StdMaps.{get-shown, shown-insert}
use Rattle.cg_rows.proofs.processes.Processes.set_place.Goals as goal

pub unreachable-requires : goal.unreachable-requires
unreachable-requires c =
    true≢false (sym c.requires ∙ ap (λ s. is_some (map.get s.live c.args.pid)) (sym c.self.view_is)
    ∙ ap is_some (get-shown nat_cmp_total c.self.inside.live.entries c.args.pid)
    ∙ ap is_some (sym c.get_mut.ensures.value) ∙ ap (λ o. is_some (option_copied_mut o)) c.in_default.is)

pub returns : goal.returns
returns c =
    let live = c.self.inside.live.entries in
    let used = set.from_list c.self.inside.used.keys in
    let pid = c.args.pid in
    let placed = placed_at c.args.place c.in-Some.process.now in
    let found = c.in-Some.ensures.value in
    let updates = (c.get_mut.follows.holds placed).3 (ap is_some (sym found)) in
    (λ i. record { live = shown-insert nat_cmp_total map.nat_cmp-IsAntisymmetric live _ pid placed updates.0 i; used = used })
    ∙ ap (λ (o : Option Process). record {
      live =
          elim o
          [ None ↦ map.from_entries live | Some process ↦ map.insert (map.from_entries live) pid (placed_at c.args.place process) ];
      used = used;
    }) (found ∙ sym (get-shown nat_cmp_total live pid))
    ∙ ap (λ s. with_place_of s pid c.args.place) c.self.view_is
