-- Pairs told one after another, and what the report on them is where it ends early.
use Rattle.std.proofs.Common.{◌≡◌, ◌≢◌, ℕ, ◌+◌, ◌<◌, inl, inr, ◌||◌, Bool, true, false, cond, List, [], ◌∷◌, ◌++◌, length, get_or, take, drop, map, take_all, ◌≤◌, not}
use Rattle.std.proofs.Common.{Option, Some, None, Result, Ok, Err, refl, sym, ap, ◌∙◌, subst, append_assoc, append-nil}
use Rattle.std.specs.List.{All, list_any, flat_map}
use Rattle.std.specs.Io.KnownBytes.{Appends}
use Rattle.std.proofs.KnownBytes.{Appends-nil, Appends-trans, Appends-kept, Keeps-refl}
use Rattle.std.proofs.lemmas.List.{take-append-drop}
use Rattle.std.proofs.lemmas.List.Concat.{flat_map-append}
use Rattle.std.proofs.lemmas.List.Elements.{All-nil, All-push}
use Rattle.cg_cgroup.specs.Paths.{Names, same_path}
use Rattle.cg_cgroup.specs.Identity.{Identity}
use Rattle.cg_model.specs.States.{State}
use Rattle.cg_model.specs.Clauses.{first, unless}
use Rattle.cg_model.specs.Guards.{IsSubtree}
use Rattle.cg_model.specs.Checks.{subtree_faults, unless_fault}
use Rattle.cg_model.specs.Listed.{Listed, is_contained}
use Rattle.cg_model.specs.Mends.{Pair}
use Rattle.cg_model.specs.Once.{once}
use Rattle.cg_model.specs.declared.answer.Answer.{Answer}
use Rattle.cg_model.specs.declared.answer.Answer.TheVariants.{Contained, Escapes, Unsettled}
use Rattle.cg_model.specs.declared.fault.CheckFault.{CheckFault}
use Rattle.cg_model.specs.declared.fault.CheckFault.TheVariants.{RootSubtree, NoSuchSubtree}
use Rattle.cg_advice.specs.Ways.{pair_of}
use Rattle.cg_advice.specs.declared.pair.Pair.{Pair as PairOfBoth}
use Rattle.cg_advice.proofs.Gathering.{one_more, map-append}
use Rattle.cg_format.specs.Readings.{Reading}
use Rattle.cg_cli.specs.Advising.{all_pairs}
use Rattle.cg_cli.specs.AllPairs.{is_escape, worse, read_then}
use Rattle.cg_cli.specs.Asking.{named_read, read_takes_memory, IsMet, NamedReports}
use Rattle.cg_cli.specs.Audits.{users_read, paths_read}
use Rattle.cg_cli.specs.Containment.{in_call, answer_status}
use Rattle.cg_cli.specs.May.{tree_read}
use Rattle.cg_cli.specs.Once.{same_user}
use Rattle.cg_cli.specs.Settled.{IsSettledFault}
use Rattle.cg_cli.specs.Explaining.{told_status, Writing, told_by, pair_told, IsTold, TellsPairBy, TellsPairsBy, asked_unless_fault, pairs_asked, explain_asked, ReportsToldBy}
use Rattle.streams.specs.Written.{AppendsPart}
use Rattle.cg_faults.specs.Faults.{lifted_check}
use Rattle.cg_faults.specs.declared.fault.CliFault.{CliFault}
use Rattle.cg_faults.specs.declared.fault.CliFault.TheVariants.{Write, NoMemory}
use Rattle.cg_cli.proofs.NamedReads.{regrouped, by_reading}
use Rattle.cg_cli.proofs.ReplayEnds.{part_behind}
use Rattle.cg_cli.proofs.ReportLaws.{call_takes}

-- ---- statuses

any_behind : {A : Type 0} (test : A → Bool) (xs : List A) (y : A) → list_any test (xs ++ (y ∷ [])) ≡ list_any test xs || test y
any_behind test [] y = last (test y)
  where
    last : (b : Bool) → b || false ≡ b
    last true = refl
    last false = refl
any_behind test (x ∷ xs) y = ap (λ b. test x || b) (any_behind test xs y) ∙ either_way (test x) (list_any test xs) (test y)
  where
    either_way : (a b c : Bool) → a || (b || c) ≡ (a || b) || c
    either_way true b c = refl
    either_way false b c = refl

-- with one more, the worse of theirs
one_more_status : (told : List Listed) (each : Listed)
    → told_status (told ++ (each ∷ [])) ≡ worse (told_status told) (answer_status each.found)
one_more_status told each =
    (λ i. cond (any_behind (λ (one : Listed). is_escape one.found) told each i) 1
    (cond (any_behind (λ (one : Listed). not (is_contained one.found)) told each i) 2 0))
    ∙ by_answer each.found (list_any (λ (one : Listed). is_escape one.found) told)
    (list_any (λ (one : Listed). not (is_contained one.found)) told)
  where
    by_answer : (found : Answer) (escapes unsettled : Bool)
        → cond (escapes || is_escape found) 1 (cond (unsettled || not (is_contained found)) 2 0)
        ≡ worse (cond escapes 1 (cond unsettled 2 0)) (answer_status found)
    by_answer Contained true unsettled = refl
    by_answer Contained false true = refl
    by_answer Contained false false = refl
    by_answer (Escapes ops) true unsettled = refl
    by_answer (Escapes ops) false true = refl
    by_answer (Escapes ops) false false = refl
    by_answer (Unsettled failed) true unsettled = refl
    by_answer (Unsettled failed) false true = refl
    by_answer (Unsettled failed) false false = refl

-- ---- one after another

-- some pairs are told
pub record Told (written : Writing) (st : State) (pairs : List Pair) (old new : Option (List ℕ)) (worst : ℕ) : Type 0 where
  pub told : List Listed
  pub named : map pair_told told ≡ pairs
  pub settled : All (IsTold st) told
  pub status : told_status told ≡ worst
  pub text : Appends old new (told_by written st told)

abbrev pub listed_with : Pair → Answer → Listed
listed_with pair found = record { user = pair.user; subtree = pair.subtree; found = found }

pub begins : (written : Writing) (st : State) (known : Option (List ℕ)) → Told written st [] known known 0
begins written st known = record { told = []; named = refl; settled = All-nil (IsTold st); status = refl; text = Appends-nil known }

named_more : (told : List Listed) (each : Listed)
    → map pair_told (told ++ (each ∷ [])) ≡ map pair_told told ++ (pair_told each ∷ [])
named_more [] each = refl
named_more (x ∷ told) each = ap (λ l. pair_told x ∷ l) (named_more told each)

text_more : (written : Writing) (st : State) (told : List Listed) (each : Listed)
    → told_by written st (told ++ (each ∷ [])) ≡ told_by written st told ++ written st each
text_more written st told each =
    flat_map-append (written st) told (each ∷ []) ∙ ap (λ l. told_by written st told ++ l) (append-nil (written st each))

module _ (written : Writing) (st : State) (begun : List Pair) (pair : Pair) (old mid new : Option (List ℕ)) (worst : ℕ)
    (far : Told written st begun old mid worst) where
  pub goes_on : (status : ℕ) → TellsPairBy written st pair mid new (Ok status)
      → Told written st (begun ++ (pair ∷ [])) old new (worse worst status)
  goes_on status one =
      let each = listed_with pair one.0 in record {
        told = far.told ++ (each ∷ []);
        named = named_more far.told each ∙ ap (λ l. l ++ (pair ∷ [])) far.named;
        settled = All-push (IsTold st) far.told each far.settled one.1;
        status = one_more_status far.told each ∙ (λ i. worse (far.status i) (one.2 i));
        text =
            subst (Appends old new) (sym (text_more written st far.told each))
            (Appends-trans old mid new _ _ far.text one.3);
      }

  pub stops : (back : List Pair) (fault : CliFault) → TellsPairBy written st pair mid new (Err fault)
      → TellsPairsBy written st ((begun ++ (pair ∷ [])) ++ back) old new (Err fault)
  stops back Write part =
      let each = listed_with pair part.0 in (
        far.told ++ (each ∷ []),
        (
          begun ++ (pair ∷ []),
          back,
          refl,
          (
            named_more far.told each ∙ ap (λ l. l ++ (pair ∷ [])) far.named,
            All-push (IsTold st) far.told each far.settled part.1,
          ),
        ),
        subst (AppendsPart old new) (sym (text_more written st far.told each)) (part_behind old mid new _ _ far.text part.2),
      )
  stops back NoMemory kept = (
    far.told,
    (begun, (pair ∷ []) ++ back, sym (append_assoc begun (pair ∷ []) back), (far.named, far.settled)),
    Appends-kept old mid new (told_by written st far.told) far.text kept,
  )
  stops back fault never = absurd never

pub ends : (written : Writing) (st : State) (pairs : List Pair) (old new : Option (List ℕ)) (status : ℕ)
    → Told written st pairs old new status → TellsPairsBy written st pairs old new (Ok status)
ends written st pairs old new status far = (far.told, (far.named, far.settled), far.status, far.text)

-- ---- pairs as they are kept

module _ (written : Writing) (st : State) (pairs : List PairOfBoth) (i : ℕ) (pair : PairOfBoth) (within : i < length pairs)
    (is : pair ≡ get_or pairs i pair) (old mid new : Option (List ℕ)) (worst : ℕ)
    (far : Told written st (map pair_of (take i pairs)) old mid worst) where
  pub pair_told_more : (status more : ℕ) → more ≡ worse worst status → TellsPairBy written st (pair_of pair) mid new (Ok status)
      → Told written st (map pair_of (take (i + 1) pairs)) old new more
  pair_told_more status more is_worse one =
      subst (λ (l : List Pair). Told written st l old new more) (sym (one_more pair_of pairs i pair within is))
      (subst (λ (n : ℕ). Told written st (map pair_of (take i pairs) ++ (pair_of pair ∷ [])) old new n) (sym is_worse)
      (goes_on written st (map pair_of (take i pairs)) (pair_of pair) old mid new worst far status one))

  pub pair_stops : (fault : CliFault) → TellsPairBy written st (pair_of pair) mid new (Err fault)
      → TellsPairsBy written st (map pair_of pairs) old new (Err fault)
  pair_stops fault one =
      subst (λ (l : List Pair). TellsPairsBy written st l old new (Err fault))
      (ap (λ l. l ++ map pair_of (drop (i + 1) pairs)) (sym (one_more pair_of pairs i pair within is))
      ∙ sym (map-append pair_of (take (i + 1) pairs) (drop (i + 1) pairs)) ∙ ap (map pair_of) (take-append-drop (i + 1) pairs))
      (stops written st (map pair_of (take i pairs)) (pair_of pair) old mid new worst far (map pair_of (drop (i + 1) pairs)) fault one)

pub all_told : (written : Writing) (st : State) (pairs : List PairOfBoth) (i : ℕ) → length pairs ≤ i
    → (old new : Option (List ℕ)) (status : ℕ) → Told written st (map pair_of (take i pairs)) old new status
    → TellsPairsBy written st (map pair_of pairs) old new (Ok status)
all_told written st pairs i all old new status far =
    ends written st (map pair_of pairs) old new status
    (subst (λ (l : List PairOfBoth). Told written st (map pair_of l) old new status) (take_all i pairs all) far)

-- where there are pairs there are subtrees
pub some_subtree : (users : List Identity) (subtrees : List Names) (pairs : List PairOfBoth)
    → map pair_of pairs ≡ all_pairs users subtrees
    → pairs ≢ [] → subtrees ≢ []
some_subtree users subtrees pairs are some none = some (unmapped pairs (are ∙ ap (all_pairs users) none ∙ of_none users))
  where
    of_none : (users : List Identity) → all_pairs users [] ≡ []
    of_none [] = refl
    of_none (user ∷ users) = of_none users

    unmapped : (ps : List PairOfBoth) → map pair_of ps ≡ [] → ps ≡ []
    unmapped [] h = refl
    unmapped (p ∷ ps) h = let never : ⊥ = cc in absurd never

-- ---- one pair

-- one that is there has no fault
pub faultless : (st : State) (subtree : Names) → IsSubtree st subtree → first (subtree_faults st subtree) ≡ None
faultless st subtree sub = λ i. first (unless (not (sub.1 i)) RootSubtree ++ unless (sub.0 i) NoSuchSubtree)

pub settle_wants : (written : Writing) (st : State) (pair : Pair) → IsSubtree st pair.subtree → (fault : CheckFault)
    → IsSettledFault st pair.subtree fault → (known : Option (List ℕ))
    → TellsPairBy written st pair known known (Err (lifted_check fault))
settle_wants written st pair sub fault (inl memory) known =
    subst (λ (f : CheckFault). TellsPairBy written st pair known known (Err (lifted_check f))) (sym memory) (Keeps-refl known)
settle_wants written st pair sub fault (inr is) known =
    let never : ⊥ = let e = sym (faultless st pair.subtree sub) ∙ is in cc in absurd never

-- ---- all pairs

fault_said : (written : Writing) (fault : CliFault) (known : Option (List ℕ)) → ReportsToldBy written (Err fault) known known (Err fault)
fault_said written NoMemory known = (refl, Keeps-refl known)
fault_said written fault known = (refl, Keeps-refl known)

pub none_told : (written : Writing) (st : State) (pairs : List Pair) (known : Option (List ℕ))
    → TellsPairsBy written st pairs known known (Err NoMemory)
none_told written st pairs known = ([], ([], pairs, refl, (refl, All-nil (IsTold st))), Appends-nil known)

module _ (written : Writing) (st : State) (subtrees : List Names) (pairs : List Pair) where
  pub subtree_said : (fault : CheckFault) (known : Option (List ℕ)) → Some fault ≡ first (flat_map (subtree_faults st) subtrees)
      → ReportsToldBy written (asked_unless_fault st subtrees pairs) known known (Err (lifted_check fault))
  subtree_said fault known is =
      subst (λ o. ReportsToldBy written (in_call (unless_fault o (st, pairs))) known known (Err (lifted_check fault))) is
      (fault_said written (lifted_check fault) known)

  pub pairs_said : None ≡ first (flat_map (subtree_faults st) subtrees) → (old new : Option (List ℕ)) (result : Result ℕ CliFault)
      → TellsPairsBy written st pairs old new result → ReportsToldBy written (asked_unless_fault st subtrees pairs) old new result
  pairs_said none old new result =
      subst (λ o. ReportsToldBy written (in_call (unless_fault o (st, pairs))) old new result) none

-- ---- what is read before

wanted : (written : Writing) (asked : Result (State × List Pair) CliFault) (known : Option (List ℕ)) → read_takes_memory asked ≡ true
    → ReportsToldBy written asked known known (Err NoMemory)
wanted written (Ok found) known some = none_told written found.0 found.1 known
wanted written (Err fault) known some = (some, Keeps-refl known)

pub met_asked : (written : Writing) {A : Type 0} (read : Result A CliFault) (next : A → Result (State × List Pair) CliFault)
    → ((x : A) → read_takes_memory (next x) ≡ true) → (fault : CliFault) → IsMet read fault → (known : Option (List ℕ))
    → ReportsToldBy written (read_then read next) known known (Err fault)
met_asked written read next needs Write met known = absurd met
met_asked written (Ok x) next needs NoMemory met known = wanted written (next x) known (needs x)
met_asked written (Err fault) next needs NoMemory met known = (met, Keeps-refl known)
met_asked written read next needs fault met known =
    subst (λ found. ReportsToldBy written (read_then found next) known known (Err fault)) (sym met) (refl, Keeps-refl known)

module _ (written : Writing) (tree : Reading) (given : List (ℕ × List ℕ)) (texts : List (List ℕ)) where
  abbrev read : Result (List Identity × List Names × State) CliFault
  read = named_read given texts tree

  abbrev next : List Identity × List Names × State → Result (State × List Pair) CliFault
  next all = pairs_asked all.2 (once same_user all.0) (once same_path all.1)

  by_all : explain_asked tree given texts ≡ read_then read next
  by_all =
      regrouped (λ X found next. read_then found next) (λ fault. Err fault) (λ X x next. refl) (λ X fault next. refl)
      (λ users subtrees st. pairs_asked st (once same_user users) (once same_path subtrees)) (users_read given) (paths_read texts)
      (tree_read tree)

  fault_reports : (fault : CliFault) → IsMet read fault → (known : Option (List ℕ))
      → ReportsToldBy written (explain_asked tree given texts) known known (Err fault)
  fault_reports fault met known =
      subst (λ asked. ReportsToldBy written asked known known (Err fault)) (sym by_all)
      (met_asked written read next
      (λ all. call_takes
      (unless_fault (first (flat_map (subtree_faults all.2) (once same_path all.1)))
      (all.2, all_pairs (once same_user all.0) (once same_path all.1))))
      fault met known)

  pub explain_said : (old new : Option (List ℕ)) (result : Result ℕ CliFault)
      → NamedReports (λ st users subtrees. ReportsToldBy written (pairs_asked st users subtrees)) tree given texts old new result
      → ReportsToldBy written (explain_asked tree given texts) old new result
  explain_said =
      by_reading (λ st users subtrees. ReportsToldBy written (pairs_asked st users subtrees)) tree given texts
      (ReportsToldBy written (explain_asked tree given texts)) fault_reports
      (λ users subtrees st kept old new result.
      subst (λ asked. ReportsToldBy written asked old new result)
      (sym (by_all ∙ ap (λ found. read_then found next) kept.is ∙ sym (λ i. pairs_asked st (kept.of_users i) (kept.of_subtrees i)))))
