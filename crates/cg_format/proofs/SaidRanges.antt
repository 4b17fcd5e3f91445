-- What a table says is in range.
use Rattle.std.proofs.Common.{◌≡◌, ℕ, ◌≤◌, ℤ, Bool, true, not, ◌||◌, nat_le, List, Option, Some, None, option_and_then, cond, sym, ap, ◌∙◌, arith}
use Rattle.std.specs.Prelude.{◌&&◌}
use Rattle.std.specs.Cmp.{first_so}
use Rattle.std.proofs.lemmas.Bool.Decides.{nat_tests}
use Rattle.std.proofs.lemmas.Option.{cond_some, none-some}
use Rattle.cg_cgroup.specs.Numbers.{is_mode}
use Rattle.cg_cgroup.specs.Users.{has_bit}
use Rattle.cg_cgroup.specs.Files.{accepts, is_of}
use Rattle.cg_cgroup.specs.declared.controllers.ControllerSet.{ControllerSet}
use Rattle.toml.specs.Data.{Members}
use Rattle.cg_cgroup.specs.declared.user.Entry.{Entry}
use Rattle.cg_cgroup.specs.declared.files.Limit.{Limit}
use Rattle.cg_cgroup.specs.declared.files.LimitFile.{LimitFile}
use Rattle.cg_format.specs.Form.{vocabulary, has_groups}
use Rattle.cg_format.specs.Said.{number_or, passing, mode_read, accepted, controllers_said, known_said}
use Rattle.cg_format.specs.declared.format.Format.{Format}

pub passed : (test : ℕ → Bool) (found : Option ℕ) (number : ℕ) → passing test found ≡ Some number → test number ≡ true
passed test found number is = grind arith

pub mode_small : (format : Format) (missing : ℕ) (written : Option ℤ) (number : ℕ)
    → mode_read format missing written ≡ Some number → number ≤ 511
mode_small format missing written number is =
    let fits : (is_mode number && (has_groups format || not (has_bit number 16))) ≡ true =
    passed (λ number. is_mode number && (has_groups format || not (has_bit number 16))) (number_or missing written) number is in
    let small : nat_le number 511 ≡ true = first_so (is_mode number) (has_groups format || not (has_bit number 16)) fits in
    grind (arith, nat_tests)

-- the mode of an entry that is read
pub entry_as : (uid gid mode : Option ℕ) (entry : Entry)
    → option_and_then (λ u. option_and_then (λ g. option_and_then (λ m. Some (record { uid = u; gid = g; mode = m })) mode) gid) uid
    ≡ Some entry → mode ≡ Some entry.mode
entry_as uid gid mode entry is = grind arith

pub accepted_is : (file : LimitFile) (value found : Limit) → accepted file value ≡ Some found → accepts file found ≡ true
accepted_is file value found is =
    let parts = cond_some (accepts file value) value found is in
    ap (accepts file) (sym parts.1) ∙ parts.0

-- what a format names of controllers is what is said
pub said_of_known : (format : Format) (key : List ℕ) (members : Members) (set : ControllerSet) → known_said format key members ≡ Some set
    → (controllers_said key members ≡ Some set) × (is_of (vocabulary format) set ≡ true)
said_of_known format key members set is =
    elim (controllers_said key members) as (λ (said : Option ControllerSet).
    option_and_then (λ one. cond (is_of (vocabulary format) one) (Some one) None) said ≡ Some set
    → (said ≡ Some set) × (is_of (vocabulary format) set ≡ true)) [
      | None ↦ λ none. absurd (none-some set none)
      | Some one ↦ λ found.
          let parts = cond_some (is_of (vocabulary format) one) one set found in
          (ap Some parts.1, ap (is_of (vocabulary format)) (sym parts.1) ∙ parts.0)
    ] is
