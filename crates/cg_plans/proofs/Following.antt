-- A list goes on being followed by a step that nothing bars.
use Rattle.std.proofs.Common.{◌≡◌, ◌<◌, List, [], ◌∷◌, ◌++◌, length, None, refl, sym, ap, ◌∙◌, subst}
use Rattle.std.specs.List.{AllByRecursion}
use Rattle.cg_cgroup.specs.Paths.{Names}
use Rattle.cg_cgroup.specs.Files.{vocabulary_of}
use Rattle.cg_cgroup.specs.Identity.{Identity}
use Rattle.cg_cgroup.specs.declared.files.Vocabulary.{Vocabulary}
use Rattle.cg_model.specs.States.{State}
use Rattle.cg_model.specs.Bars.{bars}
use Rattle.cg_model.specs.Clauses.{first}
use Rattle.cg_model.specs.Steps.{after, after_all}
use Rattle.cg_model.specs.Held.{by_user}
use Rattle.cg_model.specs.Replays.{Progress, stepped}
use Rattle.cg_model.specs.Verdicts.{verdict}
use Rattle.cg_model.specs.declared.operation.Op.{Op}
use Rattle.cg_model.specs.declared.outcome.Refusal.{Refusal}
use Rattle.cg_model.specs.declared.verdict.Clause.{Clause}
use Rattle.cg_model.specs.declared.verdict.Verdict.TheVariants.{Broken}
use Rattle.cg_lines.specs.OperationLines.{HasLine}
use Rattle.cg_runs.specs.Replays.{IsRunOf}
use Rattle.cg_runs.proofs.ReplayLaws.{run-stepped}
use Rattle.cg_plans.specs.Breaking.{AreAllowed, Breaks}
use Rattle.cg_plans.specs.Following.{Follows}

none-bars : (bars : List Refusal) → first bars ≡ None → bars ≡ []
none-bars [] h = refl
none-bars (bar ∷ bars) h = cc

-- ---- one operation more

by_user-more : (user : Identity) (ops : List Op) (op : Op) → by_user user (ops ++ op ∷ []) ≡ by_user user ops ++ (user, op) ∷ []
by_user-more user [] op = refl
by_user-more user (first ∷ ops) op = ap (λ deeds. (user, first) ∷ deeds) (by_user-more user ops op)

allowed-more : (st : State) (user : Identity) (ops : List Op) (op : Op) → AreAllowed st user ops
    → bars (after_all st (by_user user ops)) user op ≡ [] → AreAllowed st user (ops ++ op ∷ [])
allowed-more st user [] op all free = (free, tt)
allowed-more st user (first ∷ ops) op all free = (all.0, allowed-more (after st user first) user ops op all.1 free)

lines-more : (vocabulary : Vocabulary) (ops : List Op) (op : Op) → AllByRecursion (HasLine vocabulary) ops → HasLine vocabulary op
    → AllByRecursion (HasLine vocabulary) (ops ++ op ∷ [])
lines-more vocabulary [] op all has = (has, tt)
lines-more vocabulary (first ∷ ops) op all has = (all.0, lines-more vocabulary ops op all.1 has)

pub follows-more : (start : State) (user : Identity) (subtree : Names) (run : Progress) (ops : List Op) (op : Op)
    → Follows start user subtree run ops → first (bars run.state user op) ≡ None
    → HasLine (vocabulary_of start.controllers) op
    → Follows start user subtree (stepped run user op) (ops ++ op ∷ [])
follows-more start user subtree run ops op at free has = record {
  of = at.of;
  follows = subst (IsRunOf (stepped run user op) start) (sym (by_user-more user ops op))
      (run-stepped run start (by_user user ops) user op at.follows);
  allowed = allowed-more start user ops op at.allowed
      (subst (λ st. bars st user op ≡ []) at.follows.state (none-bars _ free));
  lines = lines-more (vocabulary_of start.controllers) ops op at.lines has;
}

-- ---- the end

pub follows-breaks : (start : State) (user : Identity) (subtree : Names) (run : Progress) (ops : List Op) (clause : Clause)
    → Follows start user subtree run ops → run.verdict ≡ Broken (length ops) clause → length ops < 65536 → Breaks start user subtree ops
follows-breaks start user subtree run ops clause at broken few = record {
  allowed = at.allowed;
  broken = (clause, ap (verdict start (by_user user ops)) (sym at.of) ∙ sym at.follows.verdict ∙ broken);
  lines = (at.lines, few);
}
