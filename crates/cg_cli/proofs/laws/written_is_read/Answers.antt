use Rattle.std.proofs.Common.{ℕ, ◌≤◌, List, length, sym, subst}
use Rattle.cg_format.specs.TreeTexts.{longest_text}
use Rattle.cg_format.specs.TextOf.{IsTextOf}
use Rattle.cg_print.specs.Documents.{IsSpelled}
use Rattle.cg_cli.proofs.WrittenRead.{read_again}
use Rattle.cg_cli.proofs.laws.written_is_read.Goals as goal

pub returns-in-Ok : goal.returns-in-Ok
returns-in-Ok g c =
    let st = g.H.Hierarchy.state c.args.tree.now in
    let same = c.as_slice.ensures.value in
    let laws = c.texts_are_of_states.ensures in
    record {
      again =
          λ carried.
          read_again c.args.vocabulary c.as_slice.result.now st (laws.one c.as_slice.result.now)
          (laws.fault c.as_slice.result.now st) c.read_tree.result
          (subst (IsSpelled c.args.vocabulary st) (sym same) c.in-Ok.ensures.spelled)
          (λ short. subst (λ (bytes : List ℕ). IsTextOf st bytes) (sym same)
          (c.in-Ok.ensures.state carried (subst (λ (bytes : List ℕ). length bytes ≤ longest_text bytes) same short)))
          c.read_tree.ensures.too_long c.read_tree.ensures.read;
    }
