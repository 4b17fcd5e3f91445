use Rattle.std.proofs.Common.{◌==◌, ◌&&◌, sym, ap, ◌∙◌}
use Rattle.std.specs.List.{list_all, slice_split}
use Rattle.cg_cgroup.proofs.Words.{is_short, words_are}
use Rattle.cg_cgroup.proofs.path.names.are_words.Goals as goal

pub returns-then-are_filled : goal.returns-then-are_filled
returns-then-are_filled c =
    let parts = slice_split (λ b. b == 47) c.args.text.now in
    c.are_short.ensures
    ∙ ap (λ filled. filled && list_all is_short parts) (sym c.if-are_filled.true ∙ c.are_filled.ensures)
    ∙ sym (words_are parts)

pub returns-else-are_filled : goal.returns-else-are_filled
returns-else-are_filled c =
    let parts = slice_split (λ b. b == 47) c.args.text.now in
    c.if-are_filled.false
    ∙ ap (λ filled. filled && list_all is_short parts) (sym c.if-are_filled.false ∙ c.are_filled.ensures)
    ∙ sym (words_are parts)
