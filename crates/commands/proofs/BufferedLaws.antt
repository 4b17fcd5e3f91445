-- What was written stays written where what a buffer holds is passed on.
use Rattle.std.proofs.Common.{◌∙◌, ℕ, Bool, true, false, List, map, inl, inr}
use Rattle.std.specs.Prelude.{Option, Some, None, Result, Ok, Err, MatchBool}
use Rattle.std.specs.Io.KnownBytes.{Appends, Keeps}
use Rattle.arguments.specs.declared.format.Format.{Format as Written}
use Rattle.arguments.specs.declared.request.Audit.{Audit}
use Rattle.arguments.specs.declared.request.Check.{Check}
use Rattle.arguments.specs.declared.request.Explain.{Explain}
use Rattle.arguments.specs.declared.request.Advise.{Advise}
use Rattle.arguments.specs.declared.request.Request.{Request}
use Rattle.arguments.specs.declared.request.Request.TheVariants as request
use Rattle.arguments.specs.Given.{ids_of, tree_file, other_file}
use Rattle.cg_model.specs.Listed.{Listed}
use Rattle.cg_format.specs.Readings.{Reading, vocabulary_in}
use Rattle.cg_cli.specs.AllPairs.{Listing, all_report, ReportsPairsBy}
use Rattle.cg_cli.specs.Asking.{CallEnding}
use Rattle.cg_cli.specs.EachPair.{audit_pairs_report, explain_pairs_asked}
use Rattle.cg_cli.specs.Everybody.{everybody_report_in}
use Rattle.cg_cli.specs.Explaining.{Writing, TellsPairsBy, ReportsToldBy}
use Rattle.cg_cli.specs.Formats.{told_in, listing_in, first_in}
use Rattle.cg_model.specs.States.{State}
use Rattle.cg_model.specs.Mends.{Pair}
use Rattle.cg_cli.specs.Upgrades.{Upgrades}
use Rattle.streams.specs.Written.{AppendsPart}
use Rattle.cg_cli.specs.Replays.{closed_in}
use Rattle.cg_cli.specs.declared.format.Format.{Format}
use Rattle.cg_cli.specs.Replaying.{Reporting, Replays, ReplaysFrom}
use Rattle.cg_cli.specs.Reports.{Report, Reports, report_on}
use Rattle.cg_faults.specs.declared.fault.CliFault.{CliFault}
use Rattle.cg_faults.specs.declared.fault.CliFault.TheVariants.{Read, Write, NoMemory}
use Rattle.commands.specs.Requests.{Files, source, name_of, may_said, check_said, whom, wanted_of, everybody_asked, SettlesAs, AdviseSays, GuardsSay, FurtherSay}
use Rattle.commands.specs.Requests.{format_of, audit_said, advise_pairs_said, AuditSays, ExplainSays, AdvisesOn, AuditsOn, ExplainsOn, EverybodyOn, OnLines, OnBothTexts, replay_said, IsUnread, OnTreeText, OnTree, ReportsOnTree, ReplaysOver, CarriesOut}
use Rattle.commands.specs.PairLines.{pairs_read}
use Rattle.commands.specs.SubtreeLines.{subtrees_read}
use Rattle.cg_cgroup.specs.declared.files.Vocabulary.{Vocabulary}

pub Appends-Keeps : (old mid new : Option (List ℕ)) (bs : List ℕ) → Appends old mid bs → Keeps mid new → Appends old new bs
Appends-Keeps None mid new bs a k = tt
Appends-Keeps (Some xs) None new bs a k = absurd a
Appends-Keeps (Some xs) (Some ys) None bs a k = absurd k
Appends-Keeps (Some xs) (Some ys) (Some zs) bs a k = k ∙ a

Keeps-Keeps : (old mid new : Option (List ℕ)) → Keeps old mid → Keeps mid new → Keeps old new
Keeps-Keeps None mid new a k = tt
Keeps-Keeps (Some xs) None new a k = absurd a
Keeps-Keeps (Some xs) (Some ys) None a k = absurd k
Keeps-Keeps (Some xs) (Some ys) (Some zs) a k = k ∙ a

AppendsPart-Keeps : (old mid new : Option (List ℕ)) (text : List ℕ) → AppendsPart old mid text → Keeps mid new → AppendsPart old new text
AppendsPart-Keeps old mid new text a k = (a.0, a.1, Appends-Keeps old mid new _ a.2 k)

Reports-Keeps : (report : Report) (old mid new : Option (List ℕ)) (result : Result ℕ CliFault) → Reports report old mid result
    → Keeps mid new → Reports report old new result
Reports-Keeps report old mid new (Ok status) h k = (h.0, Appends-Keeps old mid new report.text h.1 k)
Reports-Keeps report old mid new (Err Write) h k = AppendsPart-Keeps old mid new report.text h k
Reports-Keeps report old mid new (Err NoMemory) h k = (h.0, Keeps-Keeps old mid new h.1 k)
Reports-Keeps report old mid new (Err fault) h k = (h.0, Keeps-Keeps old mid new h.1 k)

IsUnread-Keeps : (old mid new : Option (List ℕ)) (result : Result ℕ CliFault) → IsUnread old mid result → Keeps mid new
    → IsUnread old new result
IsUnread-Keeps old mid new result h k = (h.0, Keeps-Keeps old mid new h.1 k)

OnTreeText-Keeps : (known : Option (List ℕ)) (before after : Vocabulary → Reading → Type 0) (old mid new : Option (List ℕ))
    (result : Result ℕ CliFault) → ((vocabulary : Vocabulary) (tree : Reading) → before vocabulary tree → after vocabulary tree)
    → OnTreeText known before old mid result → Keeps mid new
    → OnTreeText known after old new result
OnTreeText-Keeps known before after old mid new result passed (inl h) k =
    inl (h.0, h.1, (h.2.0, h.2.1, passed (vocabulary_in h.0) h.2.0 h.2.2))
OnTreeText-Keeps known before after old mid new result passed (inr h) k = inr (IsUnread-Keeps old mid new result h k)

OnTree-Keeps : (known : Option (List ℕ)) (before after : Reading → Type 0) (old mid new : Option (List ℕ))
    (result : Result ℕ CliFault) → ((tree : Reading) → before tree → after tree) → OnTree known before old mid result → Keeps mid new
    → OnTree known after old new result
OnTree-Keeps known before after old mid new result passed h k =
    OnTreeText-Keeps known (λ vocabulary. before) (λ vocabulary. after) old mid new result (λ vocabulary. passed) h k

OnLines-Keeps : {A : Type 0} (Says : List A → Reading → CallEnding) (lines : Result (List A) CliFault) (tree : Reading)
    (old mid new : Option (List ℕ)) (result : Result ℕ CliFault)
    → ((named : List A) → Says named tree old mid result → Keeps mid new → Says named tree old new result)
    → OnLines Says lines tree old mid result → Keeps mid new → OnLines Says lines tree old new result
OnLines-Keeps Says (Ok named) tree old mid new result keeps said k = keeps named said k
OnLines-Keeps Says (Err fault) tree old mid new result keeps said k = (said.0, Keeps-Keeps old mid new said.1 k)

OnBothTexts-Keeps : {A : Type 0} (lines : List ℕ → Result (List A) CliFault) (Says : List A → Reading → CallEnding)
    (known other old mid new : Option (List ℕ)) (result : Result ℕ CliFault)
    → ((named : List A) (tree : Reading) → Says named tree old mid result → Keeps mid new → Says named tree old new result)
    → OnBothTexts lines Says known other old mid result → Keeps mid new → OnBothTexts lines Says known other old new result
OnBothTexts-Keeps lines Says known other old mid new result keeps (inl h) k =
    inl (
      h.0,
      h.1,
      h.2,
      h.3,
      elim h.4 [
        | inl said ↦
            inl (
              said.0,
              said.1,
              OnLines-Keeps Says (lines h.1) said.0 old mid new result (λ named. keeps named said.0) said.2 k,
            )
        | inr none ↦ inr (IsUnread-Keeps old mid new result none k)
      ],
    )
OnBothTexts-Keeps lines Says known other old mid new result keeps (inr h) k = inr (IsUnread-Keeps old mid new result h k)

ReportsPairs-Keeps : (how : Listing) (pairs : Result (List Listed) CliFault) (old mid new : Option (List ℕ)) (result : Result ℕ CliFault)
    → ReportsPairsBy how pairs old mid result → Keeps mid new → ReportsPairsBy how pairs old new result
ReportsPairs-Keeps how (Ok pairs) old mid new (Ok status) h k = (h.0, Appends-Keeps old mid new _ h.1 k)
ReportsPairs-Keeps how (Ok pairs) old mid new (Err Write) h k = AppendsPart-Keeps old mid new _ h k
ReportsPairs-Keeps how (Ok pairs) old mid new (Err NoMemory) h k = (h.0, h.1, h.2, Appends-Keeps old mid new _ h.3 k)
ReportsPairs-Keeps how (Ok pairs) old mid new (Err fault) h k = h
ReportsPairs-Keeps how (Err fault) old mid new (Ok status) h k = h
ReportsPairs-Keeps how (Err fault) old mid new (Err NoMemory) h k = (h.0, Keeps-Keeps old mid new h.1 k)
ReportsPairs-Keeps how (Err fault) old mid new (Err other) h k = (h.0, Keeps-Keeps old mid new h.1 k)

module _ (format : Written) (users : List (ℕ × List ℕ)) (subtrees : List (List ℕ)) (old mid new : Option (List ℕ))
    (result : Result ℕ CliFault) (tree : Reading) (k : Keeps mid new) where
  AuditSays-by : (settle all : Bool)
      → MatchBool settle (FurtherSay format all users subtrees old mid result tree)
      (GuardsSay format all users subtrees old mid result tree)
      → MatchBool settle (FurtherSay format all users subtrees old new result tree)
      (GuardsSay format all users subtrees old new result tree)
  AuditSays-by true true said = (said.0, said.1, ReportsPairs-Keeps (listing_in (format_of format)) said.0 old mid new result said.2 k)
  AuditSays-by true false said =
      (said.0, said.1, Reports-Keeps (report_on said.0 (first_in (format_of format))) old mid new result said.2 k)
  AuditSays-by false true said =
      ReportsPairs-Keeps (listing_in (format_of format)) (all_report tree users subtrees) old mid new result said k
  AuditSays-by false false said =
      Reports-Keeps (audit_said format tree users subtrees) old mid new result said k

AuditSays-Keeps : (audit : Audit) (old mid new : Option (List ℕ)) (result : Result ℕ CliFault) (tree : Reading)
    → AuditSays audit old mid result tree → Keeps mid new → AuditSays audit old new result tree
AuditSays-Keeps audit old mid new result tree said k =
    AuditSays-by audit.format (map ids_of audit.users.items) (map (λ subtree. subtree.now) audit.subtrees.items) old mid new result tree k
    audit.settle audit.all said

TellsPairs-Keeps : (written : Writing) (st : State) (pairs : List Pair) (old mid new : Option (List ℕ)) (result : Result ℕ CliFault)
    → TellsPairsBy written st pairs old mid result → Keeps mid new → TellsPairsBy written st pairs old new result
TellsPairs-Keeps written st pairs old mid new (Ok status) h k = (h.0, h.1, h.2, Appends-Keeps old mid new _ h.3 k)
TellsPairs-Keeps written st pairs old mid new (Err Write) h k = (h.0, h.1, AppendsPart-Keeps old mid new _ h.2 k)
TellsPairs-Keeps written st pairs old mid new (Err NoMemory) h k = (h.0, h.1, Appends-Keeps old mid new _ h.2 k)
TellsPairs-Keeps written st pairs old mid new (Err fault) h k = h

ReportsTold-Keeps : (written : Writing) (asked : Result (State × List Pair) CliFault) (old mid new : Option (List ℕ))
    (result : Result ℕ CliFault) → ReportsToldBy written asked old mid result → Keeps mid new → ReportsToldBy written asked old new result
ReportsTold-Keeps written (Ok asked) old mid new result h k = TellsPairs-Keeps written asked.0 asked.1 old mid new result h k
ReportsTold-Keeps written (Err fault) old mid new (Ok status) h k = h
ReportsTold-Keeps written (Err fault) old mid new (Err NoMemory) h k = (h.0, Keeps-Keeps old mid new h.1 k)
ReportsTold-Keeps written (Err fault) old mid new (Err other) h k = (h.0, Keeps-Keeps old mid new h.1 k)

AdviseSays-by : (settle : Bool) (settled guarded : Report) (old mid new : Option (List ℕ)) (result : Result ℕ CliFault)
    → MatchBool settle (Reports settled old mid result) (Reports guarded old mid result) → Keeps mid new
    → MatchBool settle (Reports settled old new result) (Reports guarded old new result)
AdviseSays-by true settled guarded old mid new result said k = Reports-Keeps settled old mid new result said k
AdviseSays-by false settled guarded old mid new result said k = Reports-Keeps guarded old mid new result said k

AdviseSays-Keeps : (advise : Advise) (old mid new : Option (List ℕ)) (result : Result ℕ CliFault) (tree : Reading)
    → AdviseSays advise old mid result tree → Keeps mid new → AdviseSays advise old new result tree
AdviseSays-Keeps advise old mid new result tree said k =
    AdviseSays-by advise.settle _ _ old mid new result said k

Upgrades-Keeps : (vocabulary : Vocabulary) (tree : Reading) (old mid new : Option (List ℕ)) (result : Result ℕ CliFault)
    → Upgrades vocabulary old mid result tree → Keeps mid new → Upgrades vocabulary old new result tree
Upgrades-Keeps vocabulary tree old mid new result h k =
    record { text = h.text; written = h.written; reports = Reports-Keeps _ old mid new result h.reports k }

Replays-Keeps : (format : Format) (lines : Reporting) (ops : List ℕ) (old mid new : Option (List ℕ)) (result : Result ℕ CliFault)
    → Replays (closed_in format) lines ops old mid result → Keeps mid new → Replays (closed_in format) lines ops old new result
Replays-Keeps format lines ops old mid new (Err Write) h k = AppendsPart-Keeps old mid new _ h k
Replays-Keeps format lines ops old mid new (Err NoMemory) h k = (h.0, h.1, h.2, Appends-Keeps old mid new _ h.3 k)
Replays-Keeps format lines ops old mid new (Err Read) h k = absurd h
Replays-Keeps format lines ops old mid new ended h k = (h.0, Appends-Keeps old mid new _ h.1 k)

ReplaysFrom-Keeps : (format : Format) (lines : Reporting) (before left old mid new : Option (List ℕ)) (result : Result ℕ CliFault)
    → ReplaysFrom (closed_in format) lines before left old mid result → Keeps mid new
    → ReplaysFrom (closed_in format) lines before left old new result
ReplaysFrom-Keeps format lines before left old mid new (Err Read) h k = (h.0, h.1, Appends-Keeps old mid new _ h.2 k, h.3)
ReplaysFrom-Keeps format lines before left old mid new ended h k = (h.0, h.1, Replays-Keeps format lines h.0 old mid new ended h.2 k)

ReplaysOver-Keeps : (format : Written) (before : Option (List ℕ)) (said : Reporting) (old mid new : Option (List ℕ))
    (result : Result ℕ CliFault) → ReplaysOver format before said old mid result → Keeps mid new
    → ReplaysOver format before said old new result
ReplaysOver-Keeps format before said old mid new result (inl h) k =
    inl (h.0, ReplaysFrom-Keeps (format_of format) said before h.0 old mid new result h.1 k)
ReplaysOver-Keeps format before said old mid new result (inr h) k = inr (IsUnread-Keeps old mid new result h k)

ReportsOnTree-Keeps : (known : Option (List ℕ)) (said : Reading → Report) (old mid new : Option (List ℕ)) (result : Result ℕ CliFault)
    → ReportsOnTree known said old mid result → Keeps mid new → ReportsOnTree known said old new result
ReportsOnTree-Keeps known said old mid new result h k =
    OnTree-Keeps known (λ tree. Reports (said tree) old mid result) (λ tree. Reports (said tree) old new result) old mid new result
    (λ tree reported. Reports-Keeps (said tree) old mid new result reported k) h k

SettlesAs-Keeps : (check : Check) (old mid new : Option (List ℕ)) (result : Result ℕ CliFault) (tree : Reading)
    → SettlesAs check old mid result tree → Keeps mid new → SettlesAs check old new result tree
SettlesAs-Keeps check old mid new result tree said k = (said.0, said.1, Reports-Keeps said.0 old mid new result said.2 k)

ExplainSays-Keeps : (explain : Explain) (old mid new : Option (List ℕ)) (result : Result ℕ CliFault) (tree : Reading)
    → ExplainSays explain old mid result tree → Keeps mid new → ExplainSays explain old new result tree
ExplainSays-Keeps explain old mid new result tree said k =
    ReportsTold-Keeps (told_in (format_of explain.format)) _ old mid new result said k

pub CarriesOut-Keeps : (asked : Request) (files : Files) (given old mid new : Option (List ℕ)) (result : Result ℕ CliFault)
    → CarriesOut asked files given old mid result → Keeps mid new → CarriesOut asked files given old new result
CarriesOut-Keeps (request.Help help) files given old mid new result h k = (h.0, Reports-Keeps _ old mid new result h.1 k)
CarriesOut-Keeps (request.May may) files given old mid new result h k =
    ReportsOnTree-Keeps (source files (name_of may.tree) given) (may_said may) old mid new result h k
CarriesOut-Keeps (request.Check check) files given old mid new result h k =
    ReportsOnTree-Keeps (source files (name_of check.tree) given) (check_said check) old mid new result h k
CarriesOut-Keeps (request.Settle check) files given old mid new result h k =
    OnTree-Keeps (source files (name_of check.tree) given) (SettlesAs check old mid result) (SettlesAs check old new result) old mid new
    result (λ tree said. SettlesAs-Keeps check old mid new result tree said k) h k
CarriesOut-Keeps (request.Audit audit) files given old mid new result h k =
    OnTree-Keeps (source files (name_of audit.tree) given) (AuditSays audit old mid result) (AuditSays audit old new result) old mid new
    result (λ tree said. AuditSays-Keeps audit old mid new result tree said k) h k
CarriesOut-Keeps (request.Everybody asked) files given old mid new result h k =
    ReportsOnTree-Keeps (source files (name_of asked.tree) given) (everybody_asked asked) old mid new result h k
CarriesOut-Keeps (request.Subtrees asked) files given old mid new result h k =
    OnBothTexts-Keeps subtrees_read (EverybodyOn asked.format (wanted_of asked.wanted) (whom asked.everyone)) _ _ old mid new result
    (λ subtrees tree said kept.
    Reports-Keeps (everybody_report_in (format_of asked.format) (wanted_of asked.wanted) (whom asked.everyone) tree subtrees) old mid new
    result said kept) h k
CarriesOut-Keeps (request.Explain explain) files given old mid new result h k =
    OnTree-Keeps (source files (name_of explain.tree) given) (ExplainSays explain old mid result) (ExplainSays explain old new result) old
    mid new result (λ tree said. ExplainSays-Keeps explain old mid new result tree said k) h k
CarriesOut-Keeps (request.Advise advise) files given old mid new result h k =
    OnTree-Keeps (source files (name_of advise.tree) given) (AdviseSays advise old mid result) (AdviseSays advise old new result) old mid
    new result (λ tree said. AdviseSays-Keeps advise old mid new result tree said k) h k
CarriesOut-Keeps (request.AdvisePairs asked) files given old mid new result h k =
    OnBothTexts-Keeps pairs_read (AdvisesOn asked.format) _ _ old mid new result
    (λ pairs tree said kept. Reports-Keeps (advise_pairs_said asked.format tree pairs) old mid new result said kept) h k
CarriesOut-Keeps (request.AuditPairs asked) files given old mid new result h k =
    OnBothTexts-Keeps pairs_read (AuditsOn asked.format) _ _ old mid new result
    (λ pairs tree said kept.
    ReportsPairs-Keeps (listing_in (format_of asked.format)) (audit_pairs_report tree pairs) old mid new result said kept) h k
CarriesOut-Keeps (request.ExplainPairs asked) files given old mid new result h k =
    OnBothTexts-Keeps pairs_read (ExplainsOn asked.format) _ _ old mid new result
    (λ pairs tree said kept.
    ReportsTold-Keeps (told_in (format_of asked.format)) (explain_pairs_asked tree pairs) old mid new result said kept) h k
CarriesOut-Keeps (request.Replay replay) files given old mid new result h k =
    let ops = source files (other_file replay.sources) given in
    OnTreeText-Keeps (source files (tree_file replay.sources) given)
    (λ vocabulary tree. ReplaysOver replay.format ops (replay_said replay vocabulary tree) old mid result)
    (λ vocabulary tree. ReplaysOver replay.format ops (replay_said replay vocabulary tree) old new result) old mid new result
    (λ vocabulary tree said.
    ReplaysOver-Keeps replay.format ops (replay_said replay vocabulary tree) old mid new result said k) h k
CarriesOut-Keeps (request.Upgrade upgrade) files given old mid new result h k =
    OnTreeText-Keeps (source files (name_of upgrade.tree) given) (λ vocabulary. Upgrades vocabulary old mid result)
    (λ vocabulary. Upgrades vocabulary old new result) old mid new result
    (λ vocabulary tree said. Upgrades-Keeps vocabulary tree old mid new result said k) h k
