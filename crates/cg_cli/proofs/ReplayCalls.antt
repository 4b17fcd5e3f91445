-- A replay from its arguments on.
use Rattle.std.proofs.Common.{◌≡◌, ◌≢◌, ℕ, nat_eq, Bool, true, false, cond, List, [], Option, Some, None, Result, Ok, Err, IsErrAnd, refl}
use Rattle.std.specs.Option.{ok_or}
use Rattle.std.proofs.Common.{ap, sym, ◌∙◌, subst}
use Rattle.std.specs.Io.KnownBytes.{Appends}
use Rattle.std.proofs.KnownBytes.{Appends-nil}
use Rattle.std.specs.FinMap as map
use Rattle.cg_cgroup.specs.Identity.{Identity}
use Rattle.cg_cgroup.specs.Users.{user_of}
use Rattle.cg_cgroup.specs.Paths.{Names, is_root, path_at}
use Rattle.cg_cgroup.specs.declared.cgroup.Cgroup.{Cgroup}
use Rattle.cg_model.specs.States.{State, row_at}
use Rattle.cg_format.specs.Readings.{Reading}
use Rattle.cg_format.specs.declared.fault.TreeFault.{TreeFault}
use Rattle.cg_format.specs.declared.fault.TreeFault.TheVariants.{NoMemory as TreeNoMemory}
use Rattle.cg_faults.specs.Faults.{lifted}
use Rattle.cg_cli.specs.Arguments.{user_read}
use Rattle.cg_cli.specs.Reports.{Report, fault_report, report_on}
use Rattle.cg_cli.specs.Courses.{Course, Watched, course_from}
use Rattle.cg_cli.specs.ReplayFormats.{in_format}
use Rattle.cg_cli.specs.Replays.{closed_in, course_read, bytes_said, operations_report, replayed}
use Rattle.cg_cli.specs.Replaying.{Reporting, AreOf, HasFront, Replays, ReplaysFrom}
use Rattle.cg_cli.specs.declared.format.Format.{Format}
use Rattle.cg_cli.specs.declared.replay.protocol.Protocol.{Protocol}
use Rattle.cg_faults.specs.declared.fault.CliFault.{CliFault}
use Rattle.cg_faults.specs.declared.fault.CliFault.TheVariants.{Uid, Gids, Read, Write, NoMemory, BadPath}
use Rattle.cg_cli.proofs.ReportLaws.{handed_on}
use Rattle.cg_cli.proofs.ReplayReads.{from_replays}
use Rattle.cg_cgroup.specs.declared.files.Vocabulary.{Vocabulary}

-- the lines, by what the user and the course are
abbrev lines_by : Protocol → Result Identity CliFault → Result Course CliFault → Reporting
lines_by protocol user course ops = report_on user (λ user. report_on course (λ course. bytes_said protocol course user 0 ops))

-- nothing is said of no operations
silent : (protocol : Protocol) (user : Result Identity CliFault) (course : Result Course CliFault)
    → (lines_by protocol user course []).text ≡ []
unfolding bytes_said replayed
silent protocol (Err fault) course = refl
silent protocol (Ok user) (Err fault) = refl
silent protocol (Ok user) (Ok course) = refl

-- the faults before the operations
abbrev is_before : CliFault → Bool
is_before Read = false
is_before Write = false
is_before fault = true

abbrev FaultIsBefore : Result Course CliFault → Type 0
FaultIsBefore (Ok course) = Unit {0}
FaultIsBefore (Err fault) = is_before fault ≡ true

lifted_before : (fault : TreeFault) → is_before (lifted fault) ≡ true
lifted_before TreeNoMemory = refl
lifted_before fault = refl

row_before : (st : State) (subtree : Names) (found : Option Cgroup)
    → FaultIsBefore (elim found [
      | None ↦
          Err (Rattle.cg_faults.specs.declared.fault.CliFault.TheVariants.Subtree
          Rattle.cg_model.specs.declared.fault.CheckFault.TheVariants.NoSuchSubtree)
      | Some row ↦
          Ok (Watched (record {
            subtree = subtree;
            original = row;
            told = map.get st.told subtree;
            state = st;
            steps = 0;
            verdict = Rattle.cg_model.specs.Verdicts.verdict st [] subtree;
          }))
    ])
row_before st subtree None = refl
row_before st subtree (Some row) = tt

root_before : (st : State) (subtree : Names) (root : Bool) (other : Result Course CliFault) → FaultIsBefore other
    → FaultIsBefore (cond root (Err (Rattle.cg_faults.specs.declared.fault.CliFault.TheVariants.Subtree
    Rattle.cg_model.specs.declared.fault.CheckFault.TheVariants.RootSubtree)) other)
root_before st subtree true other before = refl
root_before st subtree false other before = before

course_before : (st : State) (subtree : Option Names) → FaultIsBefore (course_from st subtree)
course_before st None = tt
course_before st (Some subtree) = root_before st subtree (is_root subtree) _ (row_before st subtree (row_at st subtree))

tree_before : (subtree : Option Names) (tree : Result State TreeFault)
    → FaultIsBefore (elim (elim tree as (λ _. Result State CliFault) [ Ok st ↦ Ok st | Err fault ↦ Err (lifted fault) ])
    [ Ok st ↦ course_from st subtree | Err fault ↦ Err fault ])
tree_before subtree (Ok st) = course_before st subtree
tree_before subtree (Err fault) = lifted_before fault

path_before : (tree : Reading) (path : Option Names) → FaultIsBefore
    (elim (ok_or path BadPath) [
      | Ok named ↦
          elim (elim tree as (λ _. Result State CliFault) [ Ok st ↦ Ok st | Err fault ↦ Err (lifted fault) ])
          [ Ok st ↦ course_from st (Some named) | Err fault ↦ Err fault ]
      | Err fault ↦ Err fault
    ])
path_before tree None = refl
path_before tree (Some named) = tree_before (Some named) tree

read_before : (subtree : Option (List ℕ)) (tree : Reading) → FaultIsBefore (course_read subtree tree)
read_before None tree = tree_before None tree
read_before (Some subtree) tree = path_before tree (path_at subtree)

never_after : (read : Result Course CliFault) (fault : CliFault) → FaultIsBefore read → read ≡ Err fault → is_before fault ≡ true
never_after (Ok course) fault before is = let never : ⊥ = cc in absurd never
never_after (Err other) fault before is = let same : other ≡ fault = cc in subst (λ f. is_before f ≡ true) same before

-- a reader that wasn't asked
some_bytes : (known : Option (List ℕ)) → (ops : List ℕ) × AreOf known ops
some_bytes None = ([], tt)
some_bytes (Some xs) = (xs, refl)

not_asked : (format : Format) (lines : Reporting) (given old new : Option (List ℕ)) (ended : Result ℕ CliFault)
    → ((ops : List ℕ) → Replays (closed_in format) lines ops old new ended) → ReplaysFrom (closed_in format) lines given given old new ended
not_asked format lines given old new ended replays =
    let some = some_bytes given in
    from_replays (closed_in format) lines given given old new some.0 ended some.1 (replays some.0)

module _ (format : Format) (vocabulary : Vocabulary) (tree : Reading) (uid : ℕ) (gids : List ℕ) (subtree : Option (List ℕ)) where
  abbrev protocol : Protocol
  protocol = in_format format vocabulary

  abbrev lines : Reporting
  lines = operations_report protocol tree uid gids subtree

  pub nothing_said : (ops : List ℕ) (known : Option (List ℕ)) → HasFront lines ops known known
  nothing_said ops known = (
    [],
    ops,
    refl,
    subst (Appends known known) (sym (silent protocol (user_read uid gids) (course_read subtree tree)))
        (Appends-nil known),
  )

  -- a fault before the operations
  said_fault : (ops : List ℕ) (known : Option (List ℕ)) (fault : CliFault) → lines ops ≡ fault_report fault
      → ((closed_in format (lines ops)).ending ≡ Err fault) × Appends known known (closed_in format (lines ops)).text
  said_fault ops known fault same =
      let is = ap (closed_in format) same in
      (ap (λ (r : Report). r.ending) is, subst (Appends known known) (sym (ap (λ (r : Report). r.text) is)) (Appends-nil known))

  -- where the user was read
  module _ (user : Identity) (of_user : Ok user ≡ user_read uid gids) where
    lines_by_course : (read : Result Course CliFault) → course_read subtree tree ≡ read → lines ≡ lines_by protocol (Ok user) read
    lines_by_course read of_course =
        ap (λ u. lines_by protocol u (course_read subtree tree)) (sym of_user) ∙ ap (lines_by protocol (Ok user)) of_course

    -- what is known of the lines of the course that was read
    pub lines_are : (course : Course) → course_read subtree tree ≡ Ok course
        → (Q : Reporting → Type 0) → Q (λ ops. bytes_said protocol course user 0 ops) → Q lines
    lines_are course of_course Q known = subst Q (sym (lines_by_course (Ok course) of_course)) known

    course_known : (ops : List ℕ) (known : Option (List ℕ)) (fault : CliFault) → (fault ≢ NoMemory → course_read subtree tree ≡ Err fault)
        → Replays (closed_in format) lines ops known known (Err fault)
    course_known ops known NoMemory is = nothing_said ops known
    course_known ops known Read is =
        let never : false ≡ true = never_after (course_read subtree tree) Read (read_before subtree tree) (is (λ same. cc)) in cc
    course_known ops known Write is =
        let never : false ≡ true = never_after (course_read subtree tree) Write (read_before subtree tree) (is (λ same. cc)) in cc
    course_known ops known fault is =
        said_fault ops known fault (ap (λ (report : Reporting). report ops) (lines_by_course (Err fault) (is (λ same. cc))))

    pub course_fault : (ops : List ℕ) (known : Option (List ℕ)) (fault : CliFault)
        → (fault ≢ NoMemory → course_read subtree tree ≡ Err fault)
        → (result : Result ℕ CliFault) → IsErrAnd result (λ found. found ≡ fault) → Replays (closed_in format) lines ops known known result
    course_fault ops known fault is result handed =
        handed_on (Replays (closed_in format) lines ops known known) fault result handed (course_known ops known fault is)

    pub course_fault_from : (given known : Option (List ℕ)) (fault : CliFault) → (fault ≢ NoMemory → course_read subtree tree ≡ Err fault)
        → (result : Result ℕ CliFault) → IsErrAnd result (λ found. found ≡ fault)
        → ReplaysFrom (closed_in format) lines given given known known result
    course_fault_from given known fault is result handed =
        not_asked format lines given known known result (λ ops. course_fault ops known fault is result handed)

  -- a fault of the user
  user_fault_by : (ops : List ℕ) (known : Option (List ℕ)) (fault : CliFault) (root : Bool) (found : Option Identity)
      → user_read uid gids ≡ cond root (Err Uid) (ok_or found Gids) → cond root (Err Uid) (ok_or found Gids) ≡ Err fault
      → Replays (closed_in format) lines ops known known (Err fault)
  user_fault_by ops known fault true found e h =
      let is : Uid ≡ fault = cc in
      subst (λ f. Replays (closed_in format) lines ops known known (Err f)) is
      (said_fault ops known Uid (ap (λ u. lines_by protocol u (course_read subtree tree) ops) e))
  user_fault_by ops known fault false None e h =
      let is : Gids ≡ fault = cc in
      subst (λ f. Replays (closed_in format) lines ops known known (Err f)) is
      (said_fault ops known Gids (ap (λ u. lines_by protocol u (course_read subtree tree) ops) e))
  user_fault_by ops known fault false (Some user) e h = let never : ⊥ = cc in absurd never

  pub user_fault_from : (given known : Option (List ℕ)) (fault : CliFault) → Err fault ≡ user_read uid gids
      → (result : Result ℕ CliFault) → IsErrAnd result (λ found. found ≡ fault)
      → ReplaysFrom (closed_in format) lines given given known known result
  user_fault_from given known fault read result handed =
      handed_on (ReplaysFrom (closed_in format) lines given given known known) fault result handed
      (not_asked format lines given known known (Err fault)
      (λ ops. user_fault_by ops known fault (nat_eq uid 0) (user_of uid gids) refl (sym read)))
