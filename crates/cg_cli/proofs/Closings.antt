-- What is said behind all lines.
use Rattle.std.proofs.Common.{◌≡◌, ℕ, true, ◌++◌, List, [], Option, Result, Ok, Err, IsErrAnd, refl, ap, sym, ◌∙◌, subst, append-nil, arith}
use Rattle.std.specs.Io.KnownBytes.{Appends}
use Rattle.std.proofs.KnownBytes.{Appends-trans, Appends-kept}
use Rattle.streams.specs.Written.{AppendsPart}
use Rattle.cg_cli.specs.Reports.{Said, Report, Reports, takes_memory}
use Rattle.cg_cgroup.specs.Identity.{Identity}
use Rattle.cg_cli.specs.Courses.{Course, Unwatched, Watched, HasMade, closing}
use Rattle.cg_cli.specs.Replays.{with_front, closed_in}
use Rattle.cg_cli.specs.Replaying.{Reporting, Standing, from_start, whole, IsWaiting, Replays, ReplaysFrom}
use Rattle.cg_cli.specs.declared.format.Format.{Format}
use Rattle.cg_cli.specs.declared.replay.protocol.Protocol.{Protocol}
use Rattle.cg_faults.specs.declared.fault.CliFault.{CliFault}
use Rattle.cg_faults.specs.declared.fault.CliFault.TheVariants.{Write, Read, NoMemory}
use Rattle.cg_cli.proofs.ReplayRuns.{part_of_front}
use Rattle.cg_cli.proofs.ReplayEnds.{part_behind}
use Rattle.cg_cli.proofs.ReplayReads.{from_replays}
use Rattle.cg_cli.proofs.ReportLaws.{handed_on}

-- the text of the lines stands in front
closed_by : (format : Format) (text : List ℕ) (ending : Result Course CliFault)
    → (more : List ℕ) × ((closed_in format (record { text = text; ending = ending })).text ≡ text ++ more)
closed_by format text (Ok course) = ((closing format course).text, refl)
closed_by format text (Err fault) = ([], sym (append-nil text))

behind : (format : Format) (said : Said Course) (ending : Result Course CliFault) → said.ending ≡ ending
    → closed_in format said ≡ closed_in format (record { text = said.text; ending = ending })
behind format said ending is = ap (λ (e : Result Course CliFault). closed_in format (record { text = said.text; ending = e })) is

module _ (format : Format) (lines : Reporting) (ops : List ℕ) (old new : Option (List ℕ)) where
  -- a fault before anything is said there
  fault_closed : (fault : CliFault) → Replays whole lines ops old new (Err fault) → Replays (closed_in format) lines ops old new (Err fault)
  fault_closed Write part =
      let more = closed_by format (lines ops).text (lines ops).ending in
      subst (AppendsPart old new) (sym more.1) (part_of_front old new (lines ops).text more.0 part)
  fault_closed NoMemory fronts = fronts
  fault_closed Read never = never
  fault_closed fault said =
      let is = behind format (lines ops) (Err fault) said.0 in
      (ap (λ (r : Report). r.ending) is, subst (Appends old new) (sym (ap (λ (r : Report). r.text) is)) said.1)

pub closing_takes : (format : Format) (course : Course) → takes_memory (closing format course).ending ≡ true
closing_takes format (Unwatched st) = refl
closing_takes format (Watched run) = refl

never_closing : (format : Format) (course : Course) (fault : CliFault) → (closing format course).ending ≡ Err fault → ⊥
never_closing format (Unwatched st) fault is = cc
never_closing format (Watched run) fault is = cc

-- over bytes that are all there, of a run that is at `first`, where `lines` are said
module _ (format : Format) {first lines : Reporting} (same : first ≡ lines) (ops : List ℕ) (old : Option (List ℕ)) where
  pub close_fault : (new : Option (List ℕ)) (fault : CliFault) → Replays whole first ops old new (Err fault) → (result : Result ℕ CliFault)
      → IsErrAnd result (λ found. found ≡ fault) → Replays (closed_in format) lines ops old new result
  close_fault new fault came result is =
      handed_on (Replays (closed_in format) lines ops old new) fault result is
      (fault_closed format lines ops old new fault (subst (λ report. Replays whole report ops old new (Err fault)) same came))

  module _ (mid : Option (List ℕ)) (course : Course) (came : Replays whole first ops old mid (Ok course)) where
    there : Replays whole lines ops old mid (Ok course)
    there = subst (λ report. Replays whole report ops old mid (Ok course)) same came

    said_is : closed_in format (lines ops) ≡ with_front (lines ops).text (closing format course)
    said_is = behind format (lines ops) (Ok course) there.0

    ends : {ended : Result ℕ CliFault} → (closing format course).ending ≡ ended → (closed_in format (lines ops)).ending ≡ ended
    ends is = ap (λ (r : Report). r.ending) said_is ∙ is

    appends : (new : Option (List ℕ)) → Appends mid new (closing format course).text → Appends old new (closed_in format (lines ops)).text
    appends new wrote =
        subst (Appends old new) (sym (ap (λ (r : Report). r.text) said_is))
        (Appends-trans old mid new (lines ops).text (closing format course).text there.1 wrote)

    pub close_said : (new : Option (List ℕ)) (result : Result ℕ CliFault) → Reports (closing format course) mid new result
        → Replays (closed_in format) lines ops old new result
    close_said new (Ok status) said = (ends said.0, appends new said.1)
    close_said new (Err Write) part =
        subst (AppendsPart old new) (sym (ap (λ (r : Report). r.text) said_is))
        (part_behind old mid new (lines ops).text (closing format course).text there.1 part)
    close_said new (Err NoMemory) kept = (ops, [], sym (append-nil ops), Appends-kept old mid new (lines ops).text there.1 kept.1)
    close_said new (Err fault) said = absurd (never_closing format course fault said.0)

-- over a reader
module _ (format : Format) {first lines : Reporting} (same : first ≡ lines) (before left old : Option (List ℕ)) where
  fault_from : (new : Option (List ℕ)) (fault : CliFault) → ReplaysFrom whole lines before left old new (Err fault)
      → ReplaysFrom (closed_in format) lines before left old new (Err fault)
  fault_from new Read read = read
  fault_from new fault read =
      from_replays (closed_in format) lines before left old new read.0 (Err fault) read.1
      (fault_closed format lines read.0 old new fault read.2)

  pub from_close_fault : (new : Option (List ℕ)) (fault : CliFault) → ReplaysFrom whole first before left old new (Err fault)
      → (result : Result ℕ CliFault) → IsErrAnd result (λ found. found ≡ fault)
      → ReplaysFrom (closed_in format) lines before left old new result
  from_close_fault new fault came result is =
      handed_on (ReplaysFrom (closed_in format) lines before left old new) fault result is
      (fault_from new fault (subst (λ report. ReplaysFrom whole report before left old new (Err fault)) same came))

  pub from_close_said : (mid : Option (List ℕ)) (course : Course) → ReplaysFrom whole first before left old mid (Ok course)
      → (new : Option (List ℕ)) (result : Result ℕ CliFault) → Reports (closing format course) mid new result
      → ReplaysFrom (closed_in format) lines before left old new result
  from_close_said mid course came new result said =
      from_replays (closed_in format) lines before left old new came.0 result came.1
      (close_said format same came.0 old mid course came.2 new result said)

-- a run that has only begun
start_waits : (protocol : Protocol) (course : Course) (user : Identity) → HasMade 0 course
    → IsWaiting (from_start protocol course user)
start_waits protocol course user made = record {
  made = made;
  one_line = λ k d within. absurd (omega (arith, within));
  short = omega arith;
  few = omega arith;
}

pub begun_waits : {at : Standing} {protocol : Protocol} {course : Course} {user : Identity} → at ≡ from_start protocol course user
    → HasMade 0 course → IsWaiting at
begun_waits {at} {protocol} {course} {user} is made = subst IsWaiting (sym is) (start_waits protocol course user made)
