use Rattle.std.proofs.Common.{◌==◌, Bool, sym, ap, ◌∙◌}
use Rattle.std.specs.Prelude.{not, ◌&&◌}
use Rattle.std.specs.List.{list_any, slice_split}
use Rattle.cg_cgroup.specs.Paths.{is_reserved}
use Rattle.cg_cgroup.proofs.Words.{names_are}
use Rattle.cg_cgroup.proofs.path.names.are_names.Goals as goal

pub returns-then-are_words : goal.returns-then-are_words
returns-then-are_words c =
    let value = c.as_bytes-bytes.ensures.value in
    let words = rw value at (sym c.if-are_words.true ∙ c.are_words.ensures) in
    let reserved = rw value at c.has_reserved.ensures in
    let parts = slice_split (λ b. b == 47) c.args.text.now in
    ap not reserved ∙ ap (λ (all : Bool). all && not (list_any is_reserved parts)) words ∙ sym (names_are parts)

pub returns-else-are_words : goal.returns-else-are_words
returns-else-are_words c =
    let value = c.as_bytes-bytes.ensures.value in
    let words = rw value at (sym c.if-are_words.false ∙ c.are_words.ensures) in
    let parts = slice_split (λ b. b == 47) c.args.text.now in
    c.if-are_words.false ∙ ap (λ (all : Bool). all && not (list_any is_reserved parts)) words ∙ sym (names_are parts)
