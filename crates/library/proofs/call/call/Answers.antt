use Rattle.std.proofs.Common.{◌≡◌, ◌≢◌, ◌⊎◌, Some, refl, map, string_bytes}
use Rattle.std.specs.Io.KnownBytes.{Keeps}
use Rattle.std.specs.IoError.{error_kind}
use Rattle.std.specs.declared.io.ErrorKind.TheVariants.{OutOfMemory}
use Rattle.cg_faults.specs.declared.fault.CliFault.TheVariants.{NoMemory}
use Rattle.commands.specs.Beside.{IsBeside}
use Rattle.commands.specs.Yes.{CheckMeans, AuditMeans, EverybodyMeans}
use Rattle.commands.specs.declared.fault.Fault.TheVariants.{Usage, Cli}
use Rattle.library.specs.Calls.{words_in}
use Rattle.library.proofs.CallLaws.{answers, means, tells_why}
use Rattle.library.proofs.call.call.Goals as goal

pub returns-clause-report : goal.returns-clause-report
returns-clause-report c =
    let runs = c.run_program-ended.ensures.runs in (
      c.text_of-text.result.now,
      (
        (λ other. answers (λ _. Some c.args.other.now) (Some c.args.tree.now)
            (λ words. map string_bytes words.items) (λ page. page.bytes.items)
            (λ words answer. IsBeside (map string_bytes words.items) (λ _. Some c.args.other.now) (Some c.args.tree.now) answer runs.1)
            (λ page. Keeps (Some c.new-out.result.bytes.items) (Some page.bytes.items))
            (λ error fault. ((fault ≡ Usage) × (error_kind error ≢ OutOfMemory))
            ⊎ ((fault ≡ Cli NoMemory) × (error_kind error ≡ OutOfMemory)))
            (words_in c.args.words.now) _ _ _ runs.0 c.words_of-words.result c.run_program-ended.result.out
            other runs.2 c.new-out.ensures runs.4 (c.text_of-text.ensures.answered other) c.words_of-words.ensures),
        (λ fault. tells_why _ _ _ _ _ _ _ runs.2 c.new.ensures.items runs.3 (c.text_of-text.ensures.failed fault)),
      ),
      refl,
      c.copy_front.ensures,
    )

pub returns-clause-check : goal.returns-clause-check
returns-clause-check c =
    let runs = c.run_program-ended.ensures.runs in
    means (λ _. Some c.args.other.now) (Some c.args.tree.now) (λ words. map string_bytes words.items) (λ page. page.bytes.items)
    (λ words answer. IsBeside (map string_bytes words.items) (λ _. Some c.args.other.now) (Some c.args.tree.now) answer runs.1)
    (λ page. Keeps (Some c.new-out.result.bytes.items) (Some page.bytes.items))
    (λ error fault. ((fault ≡ Usage) × (error_kind error ≢ OutOfMemory)) ⊎ ((fault ≡ Cli NoMemory) × (error_kind error ≡ OutOfMemory)))
    (λ lines. CheckMeans lines (λ _. Some c.args.other.now) (Some c.args.tree.now) c.run_program-ended.result.status)
    (words_in c.args.words.now) _ c.run_program-ended.result.status runs.0 c.words_of-words.result c.run_program-ended.result.out
    (λ none tree ids subtree asks zero. absurd (none zero)) runs.2 runs.4 c.run_program-ended.ensures.check c.words_of-words.ensures

pub returns-clause-audit : goal.returns-clause-audit
returns-clause-audit c =
    let runs = c.run_program-ended.ensures.runs in
    means (λ _. Some c.args.other.now) (Some c.args.tree.now) (λ words. map string_bytes words.items) (λ page. page.bytes.items)
    (λ words answer. IsBeside (map string_bytes words.items) (λ _. Some c.args.other.now) (Some c.args.tree.now) answer runs.1)
    (λ page. Keeps (Some c.new-out.result.bytes.items) (Some page.bytes.items))
    (λ error fault. ((fault ≡ Usage) × (error_kind error ≢ OutOfMemory)) ⊎ ((fault ≡ Cli NoMemory) × (error_kind error ≡ OutOfMemory)))
    (λ lines. AuditMeans lines (λ _. Some c.args.other.now) (Some c.args.tree.now) c.run_program-ended.result.status)
    (words_in c.args.words.now) _ c.run_program-ended.result.status runs.0 c.words_of-words.result c.run_program-ended.result.out
    (λ none tree users subtrees asks zero. absurd (none zero)) runs.2 runs.4 c.run_program-ended.ensures.audit c.words_of-words.ensures

pub returns-clause-everybody : goal.returns-clause-everybody
returns-clause-everybody c =
    let runs = c.run_program-ended.ensures.runs in
    means (λ _. Some c.args.other.now) (Some c.args.tree.now) (λ words. map string_bytes words.items) (λ page. page.bytes.items)
    (λ words answer. IsBeside (map string_bytes words.items) (λ _. Some c.args.other.now) (Some c.args.tree.now) answer runs.1)
    (λ page. Keeps (Some c.new-out.result.bytes.items) (Some page.bytes.items))
    (λ error fault. ((fault ≡ Usage) × (error_kind error ≢ OutOfMemory)) ⊎ ((fault ≡ Cli NoMemory) × (error_kind error ≡ OutOfMemory)))
    (λ lines. EverybodyMeans lines (λ _. Some c.args.other.now) (Some c.args.tree.now) c.run_program-ended.result.status)
    (words_in c.args.words.now) _ c.run_program-ended.result.status runs.0 c.words_of-words.result c.run_program-ended.result.out
    (λ none. ((λ wanted tree who subtrees asks zero. absurd (none zero)), (λ wanted tree lines who asks zero. absurd (none zero))))
    runs.2 runs.4
    c.run_program-ended.ensures.everybody c.words_of-words.ensures
