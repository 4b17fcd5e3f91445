-- Pairs written one after another, and what the report on them is where it ends early.
use Rattle.std.proofs.Common.{◌≡◌, ◌≢◌, ℕ, ◌+◌, ◌<◌, ◌||◌, Bool, true, false, cond, List, [], ◌∷◌, ◌++◌, length, get_or, drop}
use Rattle.std.proofs.Common.{drop-cons, add-one, Option, Some, None, Result, Ok, Err, IfOk, refl, sym, ap, ◌∙◌, subst}
use Rattle.std.proofs.Common.{append_assoc, append-nil, length-append, arith}
use Rattle.std.specs.List.{list_any, flat_map}
use Rattle.std.specs.Io.KnownBytes.{Appends}
use Rattle.std.proofs.KnownBytes.{Appends-nil, Appends-trans, Keeps-refl}
use Rattle.std.proofs.lemmas.List.{take-append-le}
use Rattle.std.proofs.lemmas.List.Concat.{flat_map-append}
use Rattle.cg_cgroup.specs.Paths.{Names, same_path}
use Rattle.cg_cgroup.specs.Identity.{Identity}
use Rattle.cg_model.specs.States.{State}
use Rattle.cg_model.specs.Clauses.{first}
use Rattle.cg_format.specs.Readings.{Reading, OnText}
use Rattle.cg_format.specs.TextOf.{IsTextOf}
use Rattle.cg_format.proofs.ReadingLaws.{one_reading}
use Rattle.cg_model.specs.declared.fault.CheckFault.{CheckFault}
use Rattle.cg_model.specs.declared.fault.CheckFault.TheVariants.{RootSubtree, NoSuchSubtree, NoMemory as CheckNoMemory}
use Rattle.cg_model.specs.Answers.{answer}
use Rattle.cg_model.specs.Checks.{subtree_faults, unless_fault, checked}
use Rattle.cg_check.specs.Checks.{takes_memory as check_takes, Gives}
use Rattle.cg_model.specs.Listed.{Listed, listed_unless_contained, listed_of, listed, is_contained}
use Rattle.cg_model.specs.declared.answer.Answer.{Answer}
use Rattle.cg_model.specs.declared.answer.Answer.TheVariants.{Contained, Escapes, Unsettled}
use Rattle.cg_check.proofs.Checking.{checked-answer}
use Rattle.cg_cli.specs.Asking.{read_in_turn, named_read, read_takes_memory, IsMet, IsKeptOnce, NamedReports}
use Rattle.cg_faults.specs.Faults.{lifted_check}
use Rattle.cg_cli.specs.Audits.{users_read, paths_read}
use Rattle.cg_cli.specs.Containment.{in_call, answer_status}
use Rattle.cg_cli.specs.May.{tree_read}
use Rattle.cg_model.specs.Once.{once}
use Rattle.cg_cli.specs.Once.{same_user}
use Rattle.streams.specs.Written.{AppendsPart}
use Rattle.cg_cli.specs.AllPairs.{Listing, is_escape, pairs_status, worse, pairs_by, listing_by, WritesPairs, read_then, found_unless_fault, pairs_found, all_report, ReportsPairsBy, UnlistedAreContained, ListsUncontained}
use Rattle.cg_faults.specs.declared.fault.CliFault.{CliFault}
use Rattle.cg_faults.specs.declared.fault.CliFault.TheVariants.{Write, NoMemory}
use Rattle.cg_cli.proofs.NamedReads.{regrouped, by_reading}
use Rattle.cg_cli.proofs.ReplayEnds.{part_behind}
use Rattle.cg_cli.proofs.ReportLaws.{same_Ok, call_takes}

-- ---- statuses

abbrev some_escape : List Listed → Bool
some_escape pairs = list_any (λ (pair : Listed). is_escape pair.found) pairs

escape_of_both : (xs ys : List Listed) → some_escape (xs ++ ys) ≡ some_escape xs || some_escape ys
escape_of_both [] ys = refl
escape_of_both (x ∷ xs) ys =
    ap (λ b. is_escape x.found || b) (escape_of_both xs ys) ∙ either_way (is_escape x.found) (some_escape xs) (some_escape ys)
  where
    either_way : (a b c : Bool) → a || (b || c) ≡ (a || b) || c
    either_way true b c = refl
    either_way false b c = refl

-- the status of two lists, one behind the other, is the worse of theirs
status_of_both : (xs ys : List Listed) → pairs_status (xs ++ ys) ≡ worse (pairs_status xs) (pairs_status ys)
status_of_both [] [] = refl
status_of_both [] (y ∷ ys) = by_escape (some_escape (y ∷ ys))
  where
    by_escape : (b : Bool) → cond b 1 2 ≡ worse 0 (cond b 1 2)
    by_escape true = refl
    by_escape false = refl
status_of_both (x ∷ xs) [] = ap (λ l. pairs_status (x ∷ l)) (append-nil xs) ∙ by_escape (some_escape (x ∷ xs))
  where
    by_escape : (b : Bool) → cond b 1 2 ≡ worse (cond b 1 2) 0
    by_escape true = refl
    by_escape false = refl
status_of_both (x ∷ xs) (y ∷ ys) =
    ap (λ b. cond b 1 2) (escape_of_both (x ∷ xs) (y ∷ ys)) ∙ by_escapes (some_escape (x ∷ xs)) (some_escape (y ∷ ys))
  where
    by_escapes : (b c : Bool) → cond (b || c) 1 2 ≡ worse (cond b 1 2) (cond c 1 2)
    by_escapes true c = refl
    by_escapes false true = refl
    by_escapes false false = refl

no_status : (pairs : List Listed) → pairs_status pairs ≡ 0 → pairs ≡ []
no_status [] zero = refl
no_status (pair ∷ pairs) zero = by_escape (some_escape (pair ∷ pairs)) zero
  where
    by_escape : {P : Type 0} (b : Bool) → ◌≡◌ {A = ℕ} (cond b 1 2) 0 → P
    by_escape true h = let never : ⊥ = cc in absurd never
    by_escape false h = let never : ⊥ = cc in absurd never

-- ---- one after another

-- of some pairs a front is written, and the rest is still to come
pub record Front (how : Listing) (pairs rest : List Listed) (old new : Option (List ℕ)) (worst : ℕ) : Type 0 where
  pub front : List Listed
  pub whole : front ++ rest ≡ pairs
  pub status : pairs_status front ≡ worst
  pub text : Appends old new (pairs_by how front)

module _ (how : Listing) where
  text_of_both : (xs ys : List Listed) → pairs_by how (xs ++ ys) ≡ pairs_by how xs ++ pairs_by how ys
  text_of_both xs ys = flat_map-append how.each xs ys

  pub begins : (pairs rest : List Listed) (known : Option (List ℕ)) → rest ≡ pairs → Front how pairs rest known known 0
  begins pairs rest known same = record { front = []; whole = same; status = refl; text = Appends-nil known }

  module _ (pairs here rest : List Listed) (old mid new : Option (List ℕ)) (status : ℕ)
      (far : Front how pairs (here ++ rest) old mid status) where
    pub goes_on : (more : ℕ) → WritesPairs how here mid new (Ok more) → Front how pairs rest old new (worse status more)
    goes_on more written = record {
      front = far.front ++ here;
      whole = append_assoc far.front here rest ∙ far.whole;
      status = status_of_both far.front here ∙ ap (λ n. worse n (pairs_status here)) far.status ∙ ap (worse status) written.0;
      text = subst (Appends old new) (sym (text_of_both far.front here)) (Appends-trans old mid new _ _ far.text written.1);
    }

    all_text : pairs_by how pairs ≡ pairs_by how far.front ++ (pairs_by how here ++ pairs_by how rest)
    all_text =
        ap (pairs_by how) (sym far.whole) ∙ text_of_both far.front (here ++ rest)
        ∙ ap (λ text. pairs_by how far.front ++ text) (text_of_both here rest)

    part_of : AppendsPart mid new (pairs_by how here) → AppendsPart mid new (pairs_by how here ++ pairs_by how rest)
    part_of part = (
      part.0,
      omega (arith, part.1, length-append (pairs_by how here) (pairs_by how rest)),
      subst (Appends mid new) (sym (take-append-le part.0 (pairs_by how here) (pairs_by how rest) (omega (arith, part.1)))) part.2,
    )

    pub stops : (fault : CliFault) → WritesPairs how here mid new (Err fault) → WritesPairs how pairs old new (Err fault)
    stops Write part = subst (AppendsPart old new) (sym all_text) (part_behind old mid new _ _ far.text (part_of part))
    stops NoMemory left = (
      far.front ++ left.0,
      left.1 ++ rest,
      append_assoc far.front left.0 (left.1 ++ rest)
          ∙ ap (λ l. far.front ++ l) (sym (append_assoc left.0 left.1 rest) ∙ ap (λ l. l ++ rest) left.2) ∙ far.whole,
      subst (Appends old new) (sym (text_of_both far.front left.0)) (Appends-trans old mid new _ _ far.text left.3),
    )
    stops fault never = absurd never

  pub ends : (pairs rest : List Listed) (old new : Option (List ℕ)) (status : ℕ) → rest ≡ [] → Front how pairs rest old new status
      → WritesPairs how pairs old new (Ok status)
  ends pairs rest old new status none far =
      let same : far.front ≡ pairs = sym (append-nil far.front) ∙ ap (λ l. far.front ++ l) (sym none) ∙ far.whole in
      (ap pairs_status (sym same) ∙ far.status, subst (λ l. Appends old new (pairs_by how l)) same far.text)

  -- ---- of one user

  -- the pair with a subtree is the next
  pub here_next : (st : State) (user : Identity) (subtrees : List Names) (i : ℕ) (subtree : Names) (pairs : List Listed)
      (old new : Option (List ℕ)) (worst : ℕ) → i < length subtrees → subtree ≡ get_or subtrees i subtree
      → Front how pairs (listed_of st (drop i subtrees) user) old new worst
      → Front how pairs (listed_unless_contained user subtree (answer st user subtree) ++ listed_of st (drop (i + 1) subtrees) user)
      old new worst
  here_next st user subtrees i subtree pairs old new worst within at =
      subst (λ rest. Front how pairs (listed_of st rest user) old new worst)
      (drop-cons subtrees i subtree within ∙ (λ j. sym at j ∷ drop (sym (add-one i) j) subtrees))

  -- the pairs of the first user who is left are the next
  pub user_next : (st : State) (subtrees : List Names) (left : List Identity) (user : Identity) (pairs : List Listed)
      (old new : Option (List ℕ)) (worst : ℕ) → 0 < length left → user ≡ get_or left 0 user
      → Front how pairs (listed st left subtrees) old new worst
      → Front how pairs (listed_of st subtrees user ++ listed st (drop 1 left) subtrees) old new worst
  user_next st subtrees left user pairs old new worst within at =
      subst (λ rest. Front how pairs (listed st rest subtrees) old new worst) (drop-cons left 0 user within ∙ (λ j. sym at j ∷ drop 1 left))

  pub passes_on : (pairs rest next : List Listed) (old new : Option (List ℕ)) (worst worse : ℕ) → next ≡ rest → worse ≡ worst
      → Front how pairs rest old new worst → Front how pairs next old new worse
  passes_on pairs rest next old new worst worse of_rest of_worst far =
      subst (λ (n : ℕ). Front how pairs next old new n) (sym of_worst) (subst (λ l. Front how pairs l old new worst) (sym of_rest) far)

  -- ---- one pair

  module _ (user : Identity) (subtree : Names) where
    abbrev here : Answer → List Listed
    here found = listed_unless_contained user subtree found

    one_status : (found : Answer) → pairs_status (here found) ≡ answer_status found
    one_status Contained = refl
    one_status (Escapes ops) = refl
    one_status (Unsettled failed) = refl

    one_text : (found : Answer) → found ≢ Contained
        → pairs_by how (here found) ≡ how.each (record { user = user; subtree = subtree; found = found })
    one_text Contained other = absurd (other refl)
    one_text (Escapes ops) other = append-nil _
    one_text (Unsettled failed) other = append-nil _

    one_listed : (found : Answer) → is_contained found ≡ false → found ≢ Contained
    one_listed found listed same = let never : true ≡ false = ap is_contained (sym same) ∙ listed in cc

    pub one_written : (found : Answer) (old new : Option (List ℕ)) (text : List ℕ) (status : ℕ) → is_contained found ≡ false
        → text ≡ how.each (record { user = user; subtree = subtree; found = found }) → status ≡ answer_status found → Appends old new text
        → WritesPairs how (here found) old new (Ok status)
    one_written found old new text status listed is status_is written =
        (one_status found ∙ sym status_is, subst (Appends old new) (is ∙ sym (one_text found (one_listed found listed))) written)

    pub one_part : (found : Answer) (old new : Option (List ℕ)) (text : List ℕ) → is_contained found ≡ false
        → text ≡ how.each (record { user = user; subtree = subtree; found = found }) → AppendsPart old new text
        → WritesPairs how (here found) old new (Err Write)
    one_part found old new text listed is part =
        subst (AppendsPart old new) (is ∙ sym (one_text found (one_listed found listed))) part

    module _ (st : State) (faultless : first (subtree_faults st subtree) ≡ None) where
      is_answer : (found : Answer) → Gives check_takes (checked st user subtree) (Ok found) → answer st user subtree ≡ found
      is_answer found gives = same_Ok (sym (checked-answer st user subtree (sym faultless)) ∙ gives)
        where
          same_Ok : {x y : Answer} → let r : Result Answer CheckFault = Ok x in let s : Result Answer CheckFault = Ok y in r ≡ s → x ≡ y
          same_Ok same = cc

      pub contained_writes : (found : Answer) (known : Option (List ℕ)) → Gives check_takes (checked st user subtree) (Ok found)
          → found ≡ Contained → WritesPairs how (here (answer st user subtree)) known known (Ok 0)
      contained_writes found known gives contained =
          subst (λ a. WritesPairs how (here a) known known (Ok 0)) (sym (is_answer found gives ∙ contained)) (refl, Appends-nil known)

      pub pair_writes : (found : Answer) (old new : Option (List ℕ)) (text : List ℕ) (status : ℕ)
          → Gives check_takes (checked st user subtree) (Ok found) → found ≢ Contained
          → text ≡ how.each (record { user = user; subtree = subtree; found = found }) → status ≡ answer_status found → Appends old new text
          → WritesPairs how (here (answer st user subtree)) old new (Ok status)
      pair_writes found old new text status gives other is status_is written =
          subst (λ a. WritesPairs how (here a) old new (Ok status)) (sym (is_answer found gives))
          (one_status found ∙ sym status_is, subst (Appends old new) (is ∙ sym (one_text found other)) written)

      pub pair_stops : (found : Answer) (old new : Option (List ℕ)) (text : List ℕ) → Gives check_takes (checked st user subtree) (Ok found)
          → found ≢ Contained
          → text ≡ how.each (record { user = user; subtree = subtree; found = found }) → AppendsPart old new text
          → WritesPairs how (here (answer st user subtree)) old new (Err Write)
      pair_stops found old new text gives other is part =
          subst (λ a. AppendsPart old new (pairs_by how (here a))) (sym (is_answer found gives))
          (subst (AppendsPart old new) (is ∙ sym (one_text found other)) part)

      pub fault_wants : (fault : CheckFault) (known : Option (List ℕ)) → Gives check_takes (checked st user subtree) (Err fault)
          → WritesPairs how (here (answer st user subtree)) known known (Err (lifted_check fault))
      fault_wants RootSubtree known gives =
          let never : ⊥ = let e = sym (checked-answer st user subtree (sym faultless)) ∙ gives in cc in absurd never
      fault_wants NoSuchSubtree known gives =
          let never : ⊥ = let e = sym (checked-answer st user subtree (sym faultless)) ∙ gives in cc in absurd never
      fault_wants CheckNoMemory known gives = ([], here (answer st user subtree), refl, Appends-nil known)

  pub wants : (pairs : List Listed) (known : Option (List ℕ)) → WritesPairs how pairs known known (Err NoMemory)
  wants pairs known = ([], pairs, refl, Appends-nil known)

  -- ---- all pairs

  pub fault_said : (fault : CliFault) (known : Option (List ℕ)) → ReportsPairsBy how (Err fault) known known (Err fault)
  fault_said NoMemory known = (refl, Keeps-refl known)
  fault_said fault known = (refl, Keeps-refl known)

  -- of some pairs, what their report is where they are written
  module _ (pairs : List Listed) where
    listed_text : pairs_status pairs ≢ 0 → pairs_by how pairs ≡ listing_by how pairs
    listed_text other = by_pairs pairs other
      where
        by_pairs : (all : List Listed) → pairs_status all ≢ 0 → pairs_by how all ≡ listing_by how all
        by_pairs [] other = absurd (other refl)
        by_pairs (pair ∷ all) other = refl

    part_text : (all : List Listed) (old new : Option (List ℕ)) → AppendsPart old new (pairs_by how all)
        → AppendsPart old new (listing_by how all)
    part_text [] old new part = absurd (omega (arith, part.1))
    part_text (pair ∷ all) old new part = part

    pub stop_reports : (fault : CliFault) (old new : Option (List ℕ)) → WritesPairs how pairs old new (Err fault)
        → ReportsPairsBy how (Ok pairs) old new (Err fault)
    stop_reports Write old new part = part_text pairs old new part
    stop_reports NoMemory old new left = left
    stop_reports fault old new never = absurd never

    pub pairs_report : (status : ℕ) (old new : Option (List ℕ)) → WritesPairs how pairs old new (Ok status) → status ≢ 0
        → ReportsPairsBy how (Ok pairs) old new (Ok status)
    pairs_report status old new written other =
        (written.0, subst (Appends old new) (listed_text (λ zero. other (sym written.0 ∙ zero))) written.1)

    none_listed : (status : ℕ) (old mid : Option (List ℕ)) → WritesPairs how pairs old mid (Ok status) → status ≡ 0 → pairs ≡ []
    none_listed status old mid written zero = no_status pairs (written.0 ∙ zero)

    pub contained_reports : (status : ℕ) (old mid new : Option (List ℕ)) → WritesPairs how pairs old mid (Ok status) → status ≡ 0
        → Appends mid new (listing_by how []) → ReportsPairsBy how (Ok pairs) old new (Ok status)
    contained_reports status old mid new written zero text =
        let empty = none_listed status old mid written zero in (
          written.0,
          subst (λ l. Appends old new (listing_by how l)) (sym empty)
              (Appends-trans old mid new [] (listing_by how []) (subst (λ l. Appends old mid (pairs_by how l)) empty written.1) text),
        )

    pub contained_wants : (status : ℕ) (old new : Option (List ℕ)) → WritesPairs how pairs old new (Ok status)
        → ReportsPairsBy how (Ok pairs) old new (Err NoMemory)
    contained_wants status old new written = (pairs, [], append-nil pairs, written.1)

    pub contained_part : (status : ℕ) (old mid new : Option (List ℕ)) → WritesPairs how pairs old mid (Ok status) → status ≡ 0
        → AppendsPart mid new (listing_by how []) → ReportsPairsBy how (Ok pairs) old new (Err Write)
    contained_part status old mid new written zero part =
        let empty = none_listed status old mid written zero in
        subst (λ l. AppendsPart old new (listing_by how l)) (sym empty)
        (part_behind old mid new [] (listing_by how []) (subst (λ l. Appends old mid (pairs_by how l)) empty written.1) part)

  module _ (st : State) (subtrees : List Names) (pairs : List Listed) where
    pub subtree_said : (fault : CheckFault) (known : Option (List ℕ)) → Some fault ≡ first (flat_map (subtree_faults st) subtrees)
        → ReportsPairsBy how (found_unless_fault st subtrees pairs) known known (Err (lifted_check fault))
    subtree_said fault known is =
        subst (λ o. ReportsPairsBy how (in_call (unless_fault o pairs)) known known (Err (lifted_check fault))) is
        (fault_said (lifted_check fault) known)

    module _ (none : None ≡ first (flat_map (subtree_faults st) subtrees)) where
      pub by_pairs : (old new : Option (List ℕ)) (result : Result ℕ CliFault) → ReportsPairsBy how (Ok pairs) old new result
          → ReportsPairsBy how (found_unless_fault st subtrees pairs) old new result
      by_pairs old new result = subst (λ o. ReportsPairsBy how (in_call (unless_fault o pairs)) old new result) none

      pub stop_said : (fault : CliFault) (old new : Option (List ℕ)) → WritesPairs how pairs old new (Err fault)
          → ReportsPairsBy how (found_unless_fault st subtrees pairs) old new (Err fault)
      stop_said fault old new written = by_pairs old new (Err fault) (stop_reports pairs fault old new written)

      pub listing_said : (status : ℕ) (old new : Option (List ℕ)) → WritesPairs how pairs old new (Ok status) → status ≢ 0
          → ReportsPairsBy how (found_unless_fault st subtrees pairs) old new (Ok status)
      listing_said status old new written other = by_pairs old new (Ok status) (pairs_report pairs status old new written other)

      pub contained_said : (status : ℕ) (old mid new : Option (List ℕ)) → WritesPairs how pairs old mid (Ok status) → status ≡ 0
          → Appends mid new (listing_by how []) → ReportsPairsBy how (found_unless_fault st subtrees pairs) old new (Ok status)
      contained_said status old mid new written zero text =
          by_pairs old new (Ok status) (contained_reports pairs status old mid new written zero text)

      pub contained_stops : (status : ℕ) (old mid new : Option (List ℕ)) → WritesPairs how pairs old mid (Ok status) → status ≡ 0
          → AppendsPart mid new (listing_by how []) → ReportsPairsBy how (found_unless_fault st subtrees pairs) old new (Err Write)
      contained_stops status old mid new written zero part =
          by_pairs old new (Err Write) (contained_part pairs status old mid new written zero part)

  -- ---- what is read before

  wanted : (report : Result (List Listed) CliFault) (known : Option (List ℕ)) → read_takes_memory report ≡ true
      → ReportsPairsBy how report known known (Err NoMemory)
  wanted (Ok found) known some = wants found known
  wanted (Err fault) known some = (some, Keeps-refl known)

  pub met_pairs : {A : Type 0} (read : Result A CliFault) (next : A → Result (List Listed) CliFault)
      → ((x : A) → read_takes_memory (next x) ≡ true)
      → (fault : CliFault) → IsMet read fault → (known : Option (List ℕ)) → ReportsPairsBy how (read_then read next) known known (Err fault)
  met_pairs read next needs Write met known = absurd met
  met_pairs (Ok x) next needs NoMemory met known = wanted (next x) known (needs x)
  met_pairs (Err fault) next needs NoMemory met known = (met, Keeps-refl known)
  met_pairs read next needs fault met known =
      subst (λ found. ReportsPairsBy how (read_then found next) known known (Err fault)) (sym met) (refl, Keeps-refl known)

  module _ (tree : Reading) (given : List (ℕ × List ℕ)) (texts : List (List ℕ)) where
    abbrev read : Result (List Identity × List Names × State) CliFault
    read = named_read given texts tree

    abbrev next : List Identity × List Names × State → Result (List Listed) CliFault
    next all = pairs_found all.2 (once same_user all.0) (once same_path all.1)

    by_all : all_report tree given texts ≡ read_then read next
    by_all =
        regrouped (λ X found next. read_then found next) (λ fault. Err fault) (λ X x next. refl) (λ X fault next. refl)
        (λ users subtrees st. pairs_found st (once same_user users) (once same_path subtrees)) (users_read given) (paths_read texts)
        (tree_read tree)

    fault_reports : (fault : CliFault) → IsMet read fault → (known : Option (List ℕ))
        → ReportsPairsBy how (all_report tree given texts) known known (Err fault)
    fault_reports fault met known =
        subst (λ report. ReportsPairsBy how report known known (Err fault)) (sym by_all)
        (met_pairs read next
        (λ all. call_takes
        (unless_fault (first (flat_map (subtree_faults all.2) (once same_path all.1)))
        (listed all.2 (once same_user all.0) (once same_path all.1))))
        fault met known)

    module _ (users : List Identity) (subtrees : List Names) (st : State) (kept : IsKeptOnce read users subtrees st) where
      listing_reports : (old new : Option (List ℕ)) (result : Result ℕ CliFault)
          → ReportsPairsBy how (pairs_found st users subtrees) old new result
          → ReportsPairsBy how (all_report tree given texts) old new result
      listing_reports old new result =
          subst (λ report. ReportsPairsBy how report old new result)
          (sym (by_all ∙ ap (λ found. read_then found next) kept.is ∙ sym (λ i. pairs_found st (kept.of_users i) (kept.of_subtrees i))))

      unlisted_said : (bytes : List ℕ) → ((start : State) → IsTextOf start bytes → tree ≡ Ok start) → (result : Result ℕ CliFault)
          → IfOk result (λ status. UnlistedAreContained st users subtrees)
          → IfOk result
          (λ status. (start : State) (who : List Identity) (paths : List Names)
          → IsTextOf start bytes → users_read given ≡ Ok who → paths_read texts ≡ Ok paths
          → UnlistedAreContained start (once same_user who) (once same_path paths))
      unlisted_said bytes means (Err fault) said = tt
      unlisted_said bytes means (Ok status) said = λ start who paths is_start is_who are_paths.
          subst (λ (all : List Identity × List Names × State). UnlistedAreContained all.2 (once same_user all.0) (once same_path all.1))
          (same_Ok (kept.all_users, kept.all_subtrees, st) (who, paths, start)
          (sym kept.is ∙ (λ i. read_in_turn (is_who i) (are_paths i) (tree_read (means start is_start i)))))
          (subst (λ l. UnlistedAreContained st l (once same_path kept.all_subtrees)) kept.of_users
          (subst (λ l. UnlistedAreContained st users l) kept.of_subtrees said))

    pub all_said : (old new : Option (List ℕ)) (result : Result ℕ CliFault)
        → NamedReports (ListsUncontained how) tree given texts old new result
        → ReportsPairsBy how (all_report tree given texts) old new result
    all_said =
        by_reading (ListsUncontained how) tree given texts (ReportsPairsBy how (all_report tree given texts)) fault_reports
        (λ users subtrees st kept old new result said. listing_reports users subtrees st kept old new result said.0)

  pub unlisted_contained : (bytes : List ℕ) (given : List (ℕ × List ℕ)) (texts : List (List ℕ)) (old new : Option (List ℕ))
      (result : Result ℕ CliFault) → OnText bytes (λ read. NamedReports (ListsUncontained how) read given texts old new result)
      → IfOk result
      (λ status. (start : State) (who : List Identity) (paths : List Names) → IsTextOf start bytes → users_read given ≡ Ok who
      → paths_read texts ≡ Ok paths → UnlistedAreContained start (once same_user who) (once same_path paths))
  unlisted_contained bytes given texts old new result asked =
      by_reading (ListsUncontained how) asked.0 given texts
      (λ old new result. IfOk result
      (λ status. (start : State) (who : List Identity) (paths : List Names) → IsTextOf start bytes → users_read given ≡ Ok who
      → paths_read texts ≡ Ok paths → UnlistedAreContained start (once same_user who) (once same_path paths)))
      (λ fault met known. tt)
      (λ users subtrees st kept old new result said.
      unlisted_said asked.0 given texts users subtrees st kept bytes (λ start of_text. one_reading bytes asked.0 (Ok start) asked.1 of_text)
      result said.1)
      old new result asked.2
