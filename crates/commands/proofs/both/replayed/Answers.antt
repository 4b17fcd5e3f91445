use Rattle.std.proofs.Common.{◌≡◌, ◌∙◌, ℕ, List, [], ap, inl, inr, refl}
use Rattle.std.specs.Prelude.{Option, None, if◌then◌else◌, ◌==◌}
use Rattle.std.specs.Io.Buffered.{reader_inner, reader_buffer, reader_capacity, reader_remaining}
use Rattle.std.specs.Io.KnownBytes.{prepend_known}
use Rattle.std.specs.declared.io.buffered.BufReader.{BufReader}
use Rattle.std.proofs.KnownBytes.{prepend_known-nil}
use Rattle.cg_cli.proofs.ReadingOf.{reading_of, is_reading}
use Rattle.commands.proofs.RequestLaws.{unread}
use Rattle.commands.proofs.both.replayed.Goals as goal

-- what is left of a reader behind a buffer in which nothing was read yet
remaining-fresh : {T A : Type 0} (reader : BufReader T A) (below : T) (remaining : T → Option (List ℕ)) → reader_inner reader ≡ below
    → reader_buffer reader ≡ [] → reader_capacity reader ≡ 8192 → reader_remaining remaining reader ≡ remaining below
remaining-fresh reader below remaining inner empty capacity =
    ap (λ (size : ℕ). if size == 0 then None else prepend_known (reader_buffer reader) (remaining (reader_inner reader))) capacity
    ∙ ap (λ (held : List ℕ). prepend_known held (remaining (reader_inner reader))) empty
    ∙ prepend_known-nil (remaining (reader_inner reader))
    ∙ ap remaining inner

pub returns-in_default : goal.returns-in_default
returns-in_default g c =
    (reading_of c.args.tree.now, is_reading c.args.tree.now, inr (unread (g.W.Write.contents c.args.out.now) _ _ refl (inr refl)))

pub returns : goal.returns
returns g c =
    let before =
    remaining-fresh c.in-Ok.ops _ (λ kept. g.O.Read.remaining kept.inner.inner) c.in-Ok.ensures.inner c.in-Ok.ensures.empty
    c.in-Ok.ensures.capacity in
    let said =
    rw (c.ids-replayer.ensures.uid, c.ids-replayer.ensures.gids, c.format_of-format.ensures) at c.replay_from_in-ended.ensures.replays in
    (said.0, said.1, inl (_, rw before at said.2))
