use Rattle.std.proofs.Common.{subst, MatchResult, arith}
use Rattle.std.proofs.lemmas.List.{take_all}
use Rattle.cg_cgroup.specs.Paths.{Names, path_cmp}
use Rattle.cg_rows.specs.Places.{IsPlace, IsGap}
use Rattle.cg_rows.proofs.tables.path_table.search.Goals as goal

pub returns : goal.returns
returns g c =
    subst (λ (q : Names). MatchResult c.search_prefix.result (IsPlace path_cmp q c.args.entries.now) (IsGap path_cmp q c.args.entries.now))
    (take_all c.depth.result c.args.path.now (omega arith)) c.search_prefix.ensures
