-- What is read of a text that a tree was written to.
use Rattle.std.proofs.Common.{◌≡◌, ◌≢◌, ℕ, ◌≤◌, ◌<◌, List, [], length, Some, is_some, Result, Ok, Err, MatchResult, refl, sym, ap, subst, ◌∙◌, true≢false, ⊎_elim}
use Rattle.std.proofs.lemmas.Bool.{cases_lt}
use Rattle.cg_model.specs.States.{State}
use Rattle.cg_model.specs.Clauses.{first}
use Rattle.cg_format.specs.TextOf.{IsTextOf}
use Rattle.cg_format.specs.TextFaults.{text_faults}
use Rattle.cg_format.specs.TreeTexts.{longest_text}
use Rattle.cg_format.specs.declared.fault.TreeFault.{TreeFault}
use Rattle.cg_format.specs.declared.fault.TreeFault.TheVariants.{TooLong, NoMemory}
use Rattle.cg_print.specs.Documents.{IsSpelled}
use Rattle.cg_print.specs.Carried.{IsTooLong}
use Rattle.cg_cgroup.specs.declared.files.Vocabulary.{Vocabulary}

-- what a reader may answer of a text that has a state, unless it is too long
abbrev IsAnswer : Vocabulary → State → Result State TreeFault → Type 0
IsAnswer vocabulary st result =
    MatchResult result (λ rows. rows ≡ st) (λ fault. fault ≢ NoMemory → (fault ≡ TooLong) × IsTooLong vocabulary st)

-- what is read of a text
abbrev IsRead : List ℕ → Result State TreeFault → Type 0
IsRead text result = MatchResult result (λ rows. IsTextOf rows text) (λ fault. fault ≢ NoMemory → first (text_faults text) ≡ Some fault)

-- a text is of one state, and then has no fault
module _ (vocabulary : Vocabulary) (text : List ℕ) (st : State) (one : (rows other : State) → IsTextOf rows text
    → IsTextOf other text → rows ≡ other)
    (no_fault : IsTextOf st text → text_faults text ≡ []) where
  by_read : (result : Result State TreeFault) → IsTextOf st text → IsRead text result → IsAnswer vocabulary st result
  by_read (Ok rows) is read = one rows st read is
  by_read (Err fault) is read = λ other. absurd (true≢false (ap is_some (sym (read other) ∙ ap first (no_fault is))))

  pub read_again : (result : Result State TreeFault) → IsSpelled vocabulary st text → (length text ≤ longest_text text → IsTextOf st text)
      → (longest_text text < length text → result ≡ Err TooLong) → IsRead text result → IsAnswer vocabulary st result
  read_again result spelled state too_long read =
      ⊎_elim
      (λ over. subst (IsAnswer vocabulary st) (sym (too_long over)) (λ _. (refl, (text, spelled, over))))
      (λ short. by_read result (state short) read)
      (cases_lt (longest_text text) (length text))
