-- Reports that are written, and faults that leave nothing written.
use Rattle.std.proofs.Common.{◌≡◌, ◌≢◌, ℕ, true, List, Option, Result, Ok, Err, IsErrAnd, refl, ap, sym, ◌∙◌, subst}
use Rattle.std.proofs.lemmas.Result.{err_from_is_err_and}
use Rattle.std.proofs.KnownBytes.{Keeps-refl}
use Rattle.cg_model.specs.declared.fault.CheckFault.{CheckFault}
use Rattle.cg_model.specs.declared.fault.CheckFault.TheVariants.{RootSubtree, NoSuchSubtree, NoMemory as CheckNoMemory}
use Rattle.cg_format.specs.Readings.{Reading}
use Rattle.cg_format.specs.declared.fault.TreeFault.{TreeFault}
use Rattle.cg_format.specs.declared.fault.TreeFault.TheVariants.{NoMemory as TreeNoMemory}
use Rattle.cg_cli.specs.Asking.{read_takes_memory, IsMet}
use Rattle.cg_cli.specs.Containment.{in_call}
use Rattle.cg_faults.specs.Faults.{lifted, lifted_check}
use Rattle.cg_cli.specs.May.{tree_read}
use Rattle.cg_cli.specs.Reports.{Report, Reports, fault_report, report_on, takes_memory}
use Rattle.cg_faults.specs.declared.fault.CliFault.{CliFault}
use Rattle.cg_faults.specs.declared.fault.CliFault.TheVariants.{Write, NoMemory}

-- what is known of a fault is known of the call that hands it on
pub handed_on : {T : Type 0} (Q : Result T CliFault → Type 0) (fault : CliFault) (result : Result T CliFault)
    → IsErrAnd result (λ found. found ≡ fault) → Q (Err fault) → Q result
handed_on {T} Q fault result is known =
    let met = err_from_is_err_and result is in
    subst Q (sym (met.1 ∙ ap (λ (found : CliFault). let r : Result T CliFault = Err found in r) met.2)) known

pub same_Ok : {A : Type 0} (x y : A) → let r : Result A CliFault = Ok x in let s : Result A CliFault = Ok y in r ≡ s → x ≡ y
same_Ok x y same = cc

-- ---- what takes memory to find

pub call_takes : {A : Type 0} (found : Result A CheckFault) → read_takes_memory (in_call found) ≡ true
call_takes (Ok x) = refl
call_takes (Err RootSubtree) = refl
call_takes (Err NoSuchSubtree) = refl
call_takes (Err CheckNoMemory) = refl

pub tree_takes : (read : Reading) → read_takes_memory (tree_read read) ≡ true
tree_takes (Ok st) = refl
tree_takes (Err TreeNoMemory) = refl
tree_takes (Err fault) = refl

pub report_takes : {A : Type 0} (read : Result A CliFault) (next : A → Report) → ((x : A) → takes_memory (next x).ending ≡ true)
    → read_takes_memory read ≡ true → takes_memory (report_on read next).ending ≡ true
report_takes (Ok x) next needs takes = needs x
report_takes (Err fault) next needs takes = takes

-- ---- faults

pub tree_met : (read : Reading) (fault : TreeFault) → (fault ≢ TreeNoMemory → read ≡ Err fault) → IsMet (tree_read read) (lifted fault)
tree_met read TreeNoMemory is = tree_takes read
tree_met read fault is = ap tree_read (is (λ same. cc))

-- a fault that is met before anything is written
pub met_reports : {A : Type 0} (read : Result A CliFault) (next : A → Report) → ((x : A) → takes_memory (next x).ending ≡ true)
    → (fault : CliFault) → IsMet read fault → (known : Option (List ℕ)) → Reports (report_on read next) known known (Err fault)
met_reports read next needs Write met known = absurd met
met_reports read next needs NoMemory met known = (report_takes read next needs met, Keeps-refl known)
met_reports read next needs fault met known = (ap (λ found. (report_on found next).ending) met, Keeps-refl known)

-- a fault of a subtree
pub subtree_fault : (report : Report) → takes_memory report.ending ≡ true → (fault : CheckFault)
    → (fault ≢ CheckNoMemory → report ≡ fault_report (lifted_check fault)) → (known : Option (List ℕ))
    → (result : Result ℕ CliFault) → IsErrAnd result (λ found. found ≡ lifted_check fault) → Reports report known known result
subtree_fault report takes fault is known result handed =
    handed_on (Reports report known known) (lifted_check fault) result handed (by_fault fault is)
  where
    by_fault : (found : CheckFault) → (found ≢ CheckNoMemory → report ≡ fault_report (lifted_check found))
        → Reports report known known (Err (lifted_check found))
    by_fault RootSubtree said = (ap (λ (r : Report). r.ending) (said (λ other. cc)), Keeps-refl known)
    by_fault NoSuchSubtree said = (ap (λ (r : Report). r.ending) (said (λ other. cc)), Keeps-refl known)
    by_fault CheckNoMemory said = (takes, Keeps-refl known)

-- ---- what is written

-- a status that is written is the one that was said
pub said_status : (text : List ℕ) (status : ℕ) (old new : Option (List ℕ)) (result : Result ℕ CliFault) (written : ℕ)
    → Reports (record { text = text; ending = Ok status }) old new result → result ≡ Ok written → status ≡ written
said_status text status old new (Ok found) written reports is = same_Ok status written (reports.0 ∙ is)
said_status text status old new (Err fault) written reports is = let never : ⊥ = cc in absurd never

-- a fault is no status
pub no_status : (result : Result ℕ CliFault) (P : CliFault → Type 0) → IsErrAnd result P → (status : ℕ) → result ≡ Ok status → ⊥
no_status (Ok found) P never status is = never
no_status (Err fault) P met status is = let never : ⊥ = cc in never
