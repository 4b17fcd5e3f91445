-- What is written anew of a text is of the state that the text has.
use Rattle.std.proofs.Common.{◌≡◌, ◌≢◌, ℕ, List, [], Option, Result, Ok, Err, IsErrAnd, refl, ap, sym, subst}
use Rattle.cg_model.specs.States.{State}
use Rattle.cg_format.specs.Readings.{Reading}
use Rattle.cg_format.specs.declared.fault.TreeFault.{TreeFault}
use Rattle.cg_format.specs.declared.fault.TreeFault.TheVariants.{NoMemory as TreeNoMemory}
use Rattle.cg_print.specs.Carried.{IsCarried}
use Rattle.cg_faults.specs.Faults.{lifted}
use Rattle.cg_cli.specs.May.{tree_read}
use Rattle.cg_cli.specs.Reports.{Reports}
use Rattle.cg_cli.specs.Upgrades.{upgrade_report, IsNewText, Upgrades}
use Rattle.cg_faults.specs.declared.fault.CliFault.{CliFault}
use Rattle.cg_faults.specs.declared.fault.CliFault.TheVariants.{NoMemory}
use Rattle.cg_cli.proofs.ReportLaws.{handed_on, tree_met, met_reports}
use Rattle.cg_cgroup.specs.declared.files.Vocabulary.{Vocabulary}

pub written_anew : (vocabulary : Vocabulary) (read : Reading) (text : List ℕ) (st : State) → read ≡ Ok st → IsCarried vocabulary st
    → (IsCarried vocabulary st → IsNewText vocabulary st text)
    → (old new : Option (List ℕ)) (result : Result ℕ CliFault) → Reports (record { text = text; ending = Ok 0 }) old new result
    → Upgrades vocabulary old new result read
written_anew vocabulary read text st is_read carried written old new result reports = record {
  text = text;
  written = λ other is given. let same : st
      ≡ other = cc in subst (λ (found : State). IsNewText vocabulary found text) same (written carried);
  reports = subst (λ found. Reports (upgrade_report found text) old new result) (sym is_read) reports;
}

-- ---- a fault of the text

no_state : (read : Reading) (fault : TreeFault) → (fault ≢ TreeNoMemory → read ≡ Err fault) → (st : State) → read ≡ Ok st
    → lifted fault ≢ NoMemory → ⊥
no_state read TreeNoMemory is st ok other = other refl
no_state read fault is st ok other = let found = is (λ same. cc) in cc

pub nothing_written : (vocabulary : Vocabulary) (read : Reading) (fault : TreeFault) (known : Option (List ℕ))
    → (fault ≢ TreeNoMemory → read ≡ Err fault)
    → (result : Result ℕ CliFault) → IsErrAnd result (λ found. found ≡ lifted fault) → Upgrades vocabulary known known result read
nothing_written vocabulary read fault known is result handed =
    handed_on (λ given. Upgrades vocabulary known known given read) (lifted fault) result handed (record {
      text = [];
      written = λ st ok other. absurd (no_state read fault is st ok (λ same. other (ap Err same)));
      reports = met_reports (tree_read read) (λ st. record { text = []; ending = Ok 0 }) (λ st. refl) (lifted fault)
          (tree_met read fault is) known;
    })
