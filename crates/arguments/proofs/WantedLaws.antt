-- What is asked of everybody is asked by three commands, and by no other.
use Rattle.std.proofs.Common.{◌≡◌, ℕ, List, [], get_or, unwrap_or, true, true≢false, Option, Some, None, ap}
use Rattle.std.specs.Prelude.{codes, nat_eq}
use Rattle.clap.specs.Matches.{first_value}
use Rattle.clap.specs.declared.parser.matches.Found.{Found}
use Rattle.arguments.specs.Given.{IsEverybody, IsOfSubtrees, wanted_command, command_of, Holds}
use Rattle.arguments.specs.declared.everyone.Wanted.{Wanted}
use Rattle.arguments.specs.declared.everyone.Wanted.TheVariants as command
use Rattle.arguments.specs.declared.request.Everybody.{Everybody}
use Rattle.arguments.specs.declared.request.Subtrees.{Subtrees}
use Rattle.arguments.specs.declared.request.Request.{Request}
use Rattle.arguments.specs.declared.request.Request.TheVariants as request

none-wanted : (wanted : Wanted) → ◌≡◌ {A = Option (List ℕ)} None (Some (wanted_command wanted)) → ⊥
none-wanted command.Audit is = cc
none-wanted command.Advise is = cc
none-wanted command.Explain is = cc

may-wanted : (wanted : Wanted) → ◌≡◌ {A = Option (List ℕ)} (Some (codes "may")) (Some (wanted_command wanted)) → ⊥
may-wanted command.Audit is = cc
may-wanted command.Advise is = cc
may-wanted command.Explain is = cc

check-wanted : (wanted : Wanted) → ◌≡◌ {A = Option (List ℕ)} (Some (codes "check")) (Some (wanted_command wanted)) → ⊥
check-wanted command.Audit is = true≢false (ap (λ (o : Option (List ℕ)). nat_eq (get_or (unwrap_or o []) 0 0) 99) is)
check-wanted command.Advise is = cc
check-wanted command.Explain is = cc

settle-wanted : (wanted : Wanted) → ◌≡◌ {A = Option (List ℕ)} (Some (codes "settle")) (Some (wanted_command wanted)) → ⊥
settle-wanted command.Audit is = true≢false (ap (λ (o : Option (List ℕ)). nat_eq (get_or (unwrap_or o []) 0 0) 115) is)
settle-wanted command.Advise is = true≢false (ap (λ (o : Option (List ℕ)). nat_eq (get_or (unwrap_or o []) 0 0) 115) is)
settle-wanted command.Explain is = true≢false (ap (λ (o : Option (List ℕ)). nat_eq (get_or (unwrap_or o []) 0 0) 115) is)

replay-wanted : (wanted : Wanted) → ◌≡◌ {A = Option (List ℕ)} (Some (codes "replay")) (Some (wanted_command wanted)) → ⊥
replay-wanted command.Audit is = true≢false (ap (λ (o : Option (List ℕ)). nat_eq (get_or (unwrap_or o []) 0 0) 114) is)
replay-wanted command.Advise is = true≢false (ap (λ (o : Option (List ℕ)). nat_eq (get_or (unwrap_or o []) 0 0) 114) is)
replay-wanted command.Explain is = true≢false (ap (λ (o : Option (List ℕ)). nat_eq (get_or (unwrap_or o []) 0 0) 114) is)

upgrade-wanted : (wanted : Wanted) → ◌≡◌ {A = Option (List ℕ)} (Some (codes "upgrade")) (Some (wanted_command wanted)) → ⊥
upgrade-wanted command.Audit is = true≢false (ap (λ (o : Option (List ℕ)). nat_eq (get_or (unwrap_or o []) 0 0) 117) is)
upgrade-wanted command.Advise is = true≢false (ap (λ (o : Option (List ℕ)). nat_eq (get_or (unwrap_or o []) 0 0) 117) is)
upgrade-wanted command.Explain is = true≢false (ap (λ (o : Option (List ℕ)). nat_eq (get_or (unwrap_or o []) 0 0) 117) is)

-- where everybody is asked about, they are asked of subtrees that the words name, or that a text does
pub of_wanted : (found : Found) → first_value found (codes "everybody") ≡ Some (codes "true") → (P : Request → Type 0)
    → ((asked : Everybody) → IsEverybody found asked → P (request.Everybody asked))
    → ((asked : Subtrees) → IsOfSubtrees found asked → P (request.Subtrees asked)) → (wanted : Wanted) (asked : Request)
    → command_of asked ≡ Some (wanted_command wanted) → Holds found asked → P asked
of_wanted found said P everybody lines wanted (request.Everybody asked) is holds = everybody asked holds
of_wanted found said P everybody lines wanted (request.Subtrees asked) is holds = lines asked holds
of_wanted found said P everybody lines wanted (request.Audit audit) is holds = absurd (holds.not_everybody said)
of_wanted found said P everybody lines wanted (request.AuditPairs pairs) is holds = absurd (holds.not_everybody said)
of_wanted found said P everybody lines wanted (request.Explain explain) is holds = absurd (holds.not_everybody said)
of_wanted found said P everybody lines wanted (request.ExplainPairs pairs) is holds = absurd (holds.not_everybody said)
of_wanted found said P everybody lines wanted (request.Advise advise) is holds = absurd (holds.not_everybody said)
of_wanted found said P everybody lines wanted (request.AdvisePairs pairs) is holds = absurd (holds.not_everybody said)
of_wanted found said P everybody lines wanted (request.Help help) is holds = absurd (none-wanted wanted is)
of_wanted found said P everybody lines wanted (request.May may) is holds = absurd (may-wanted wanted is)
of_wanted found said P everybody lines wanted (request.Check check) is holds = absurd (check-wanted wanted is)
of_wanted found said P everybody lines wanted (request.Settle check) is holds = absurd (settle-wanted wanted is)
of_wanted found said P everybody lines wanted (request.Replay replay) is holds = absurd (replay-wanted wanted is)
of_wanted found said P everybody lines wanted (request.Upgrade upgrade) is holds = absurd (upgrade-wanted wanted is)
