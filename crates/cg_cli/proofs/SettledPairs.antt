-- The rows of users as pairs, and the report on these.
use Rattle.std.proofs.Common.{◌≡◌, ◌≢◌, ℕ, zero, suc, ◌+◌, ◌<◌, ◌≤◌, Bool, true, List, [], ◌∷◌, ◌++◌, length, get_or, take, take_all, drop}
use Rattle.std.proofs.Common.{drop-cons, add-one, Option, Some, None, Result, Ok, Err, IfOk, IsErrAnd, refl, sym, ap, ◌∙◌, subst}
use Rattle.std.proofs.Common.{append_assoc, append-nil, arith}
use Rattle.std.specs.List.{All, flat_map}
use Rattle.std.specs.Io.KnownBytes.{Appends}
use Rattle.std.proofs.KnownBytes.{Keeps-refl}
use Rattle.std.proofs.lemmas.List.{take_more, length-take-le, get_or_default, drop_all}
use Rattle.std.proofs.lemmas.List.Concat.{flat_map-append}
use Rattle.std.proofs.lemmas.List.Elements.{All-append, All-nil, All-cons}
use Rattle.cg_cgroup.specs.Paths.{Names, same_path}
use Rattle.cg_cgroup.specs.Identity.{Identity}
use Rattle.cg_model.specs.States.{State}
use Rattle.cg_model.specs.Clauses.{first}
use Rattle.cg_model.specs.Checks.{subtree_faults}
use Rattle.cg_model.specs.Listed.{Listed, listed_unless_contained}
use Rattle.cg_model.specs.Answers.{answer}
use Rattle.cg_model.specs.Once.{once}
use Rattle.cg_model.specs.WellFormed.{IsWellFormed}
use Rattle.cg_model.specs.declared.fault.CheckFault.{CheckFault}
use Rattle.cg_model.specs.declared.fault.CheckFault.TheVariants.{RootSubtree, NoSuchSubtree, NoMemory as CheckNoMemory}
use Rattle.cg_model.specs.declared.answer.Answer.{Answer}
use Rattle.cg_model.specs.declared.answer.Answer.TheVariants.{Contained, Escapes, Unsettled}
use Rattle.cg_check.proofs.Checking.{checked-answer, no_fault}
use Rattle.cg_check.proofs.Pairs.{none-element}
use Rattle.cg_cli.specs.declared.answers.audited.Found.{Found}
use Rattle.cg_cli.specs.Audited.{IsKnownFrom}
use Rattle.cg_cli.specs.FurtherPairs.{listed_with, listed_from, ReportsFirstBy}
use Rattle.cg_cli.specs.FoundPlaces.{found_one}
use Rattle.cg_cli.specs.ListedRows.{row_of, AreListed}
use Rattle.cg_cli.proofs.Knowing.{some_known, all-unlisted_settled}
use Rattle.cg_report.specs.AnswerLines.{IsShown}
use Rattle.cg_report.proofs.Shown.{answers_are_shown}
use Rattle.cg_format.specs.Readings.{Reading, OnText}
use Rattle.cg_format.specs.TextOf.{IsTextOf}
use Rattle.cg_format.proofs.ReadingLaws.{one_reading}
use Rattle.cg_cli.specs.AllPairs.{Listing, listing_by, ReportsPairsBy}
use Rattle.cg_cli.specs.Asking.{named_read, read_in_turn, read_takes_memory, IsMet, IsKeptOnce, NamedReports}
use Rattle.cg_cli.specs.Audits.{users_read, paths_read}
use Rattle.cg_faults.specs.Faults.{lifted_check}
use Rattle.cg_cli.specs.May.{tree_read}
use Rattle.cg_cli.specs.Once.{same_user}
use Rattle.cg_cli.specs.SettledPairs.{MayBeFound, MayFollow, MayReport, ReportsFound, ReportsSettled, SaysFirst, TellsUnsettled, ListsUnsettled}
use Rattle.cg_cli.specs.SettledRows.{pair_found, row_pairs, rows_pairs, IsPairLine, IsRowOfLines}
use Rattle.cg_faults.specs.declared.fault.CliFault.{CliFault}
use Rattle.cg_faults.specs.declared.fault.CliFault.TheVariants.{Write, NoMemory}
use Rattle.cg_cli.specs.Reports.{Report, Reports, takes_memory}
use Rattle.cg_cli.proofs.AllPairs.{Front, fault_said, wants}
use Rattle.cg_cli.proofs.NamedReads.{by_reading}
use Rattle.cg_cli.proofs.ReportLaws.{handed_on, same_Ok}

-- ---- one row

with_more : (found : ℕ → Answer) (user : Identity) (place : ℕ) (subtrees : List Names) (subtree : Names)
    → listed_with found user place (subtrees ++ subtree ∷ [])
    ≡ listed_with found user place subtrees ++ listed_unless_contained user subtree (found (place + length subtrees))
with_more found user place [] subtree =
    let same : place + 0 ≡ place = omega arith in
    append-nil (listed_unless_contained user subtree (found place)) ∙ (λ i. listed_unless_contained user subtree (found (sym same i)))
with_more found user place (path ∷ subtrees) subtree =
    let same : suc place + length subtrees ≡ place + suc (length subtrees) = omega arith in
    (λ i. listed_unless_contained user path (found place) ++ with_more found user (suc place) subtrees subtree i)
    ∙ sym (append_assoc (listed_unless_contained user path (found place)) (listed_with found user (suc place) subtrees)
    (listed_unless_contained user subtree (found (suc place + length subtrees))))
    ∙ (λ i. listed_with found user place (path ∷ subtrees) ++ listed_unless_contained user subtree (found (same i)))

module _ (user : Identity) (subtrees : List Names) where
  one_pair : (place : ℕ) (a : Answer)
      → row_pairs user subtrees (found_one place a) ≡ listed_unless_contained user (get_or subtrees place []) a
  one_pair place Contained = refl
  one_pair place (Escapes ops) = refl
  one_pair place (Unsettled failed) = refl

  row_as : (found : ℕ → Answer) (count : ℕ) → count ≤ length subtrees
      → row_pairs user subtrees (row_of found count) ≡ listed_with found user 0 (take count subtrees)
  row_as found zero within = refl
  row_as found (suc count) within =
      flat_map-append (pair_found user subtrees) (row_of found count) (found_one count (found count))
      ∙ (λ i. row_as found count (omega (arith, within)) i ++ one_pair count (found count) i)
      ∙ sym (ap (listed_with found user 0) more ∙ with_more found user 0 (take count subtrees) (get_or subtrees count [])
      ∙ (λ i. listed_with found user 0 (take count subtrees) ++ listed_unless_contained user (get_or subtrees count []) (found (long i))))
    where
      more : take (suc count) subtrees ≡ take count subtrees ++ get_or subtrees count [] ∷ []
      more =
          let one : count + 1 ≡ suc count = omega arith in
          (λ i. take (sym one i) subtrees) ∙ take_more subtrees count [] (omega (arith, within))

      long : 0 + length (take count subtrees) ≡ count
      long = let all = length-take-le count subtrees (omega (arith, within)) in omega (arith, all)

-- ---- all rows

rows_as : (users : List Identity) (subtrees : List Names) (rows : List (List Found)) (found : ℕ → ℕ → Answer) (place : ℕ)
    → length rows ≡ length users
    → ((user : ℕ) (d : List Found) → user < length users → get_or rows user d ≡ row_of (found (place + user)) (length subtrees))
    → rows_pairs users subtrees rows ≡ listed_from found place users subtrees
rows_as [] subtrees rows found place all each = refl
rows_as (user ∷ users) subtrees [] found place all each = let never : ⊥ = omega (arith, all) in absurd never
rows_as (user ∷ users) subtrees (row ∷ rows) found place all each =
    let none : place + 0 ≡ place = omega arith in
    let here : row_pairs user subtrees row ≡ listed_with (found place) user 0 subtrees =
    ap (row_pairs user subtrees) (each 0 row (omega arith) ∙ (λ i. row_of (found (none i)) (length subtrees)))
    ∙ row_as user subtrees (found place) (length subtrees) (omega arith)
    ∙ ap (listed_with (found place) user 0) (take_all (length subtrees) subtrees (omega arith)) in
    (λ i. here i ++ rows_as users subtrees rows found (suc place) (omega (arith, all)) (λ other d within.
    let same : place + suc other ≡ suc place + other = omega arith in
    each (suc other) d (omega (arith, within)) ∙ (λ j. row_of (found (same j)) (length subtrees))) i)

-- ---- lines

module _ (subtrees : List Names) where
  one_line : (place : ℕ) (a : Answer) → place < length subtrees → IsShown (get_or subtrees place []) a
      → All (IsPairLine subtrees) (found_one place a)
  one_line place Contained within shown = All-nil (IsPairLine subtrees)
  one_line place (Escapes ops) within shown =
      All-cons (IsPairLine subtrees) (record { place = place; answer = Escapes ops }) [] (within, refl, shown)
      (All-nil (IsPairLine subtrees))
  one_line place (Unsettled failed) within shown =
      All-cons (IsPairLine subtrees) (record { place = place; answer = Unsettled failed }) [] (within, refl, shown)
      (All-nil (IsPairLine subtrees))

  row_lines : (found : ℕ → Answer) (count : ℕ) → count ≤ length subtrees
      → ((place : ℕ) → place < count → IsShown (get_or subtrees place []) (found place)) → All (IsPairLine subtrees) (row_of found count)
  row_lines found zero within shown = All-nil (IsPairLine subtrees)
  row_lines found (suc count) within shown =
      All-append (IsPairLine subtrees) (row_of found count) (found_one count (found count))
      (row_lines found count (omega (arith, within)) (λ place low. shown place (omega (arith, low))))
      (one_line count (found count) (omega (arith, within)) (shown count (omega arith)))

module _ (st : State) (user : Identity) (subtree : Names) where
  shown_known : (given found : Answer) (together : Bool) → IsKnownFrom st user subtree together given found → IsShown subtree given
      → IsShown subtree found
  shown_known Contained found together known shown = subst (IsShown subtree) (sym known) shown
  shown_known (Escapes ops) found together known shown = subst (IsShown subtree) (sym known) shown
  shown_known (Unsettled failed) Contained together known shown = tt
  shown_known (Unsettled failed) (Escapes ops) together known shown = tt
  shown_known (Unsettled failed) (Unsettled other) together known shown =
      subst (λ f. IsShown subtree (Unsettled f)) (sym known.1) shown

pub listed_as : {st : State} {users : List Identity} {subtrees : List Names} {rows other : List (List Found)} → rows ≡ other
    → AreListed st users subtrees other → AreListed st users subtrees rows
listed_as {st} {users} {subtrees} {rows} {other} same are = subst (AreListed st users subtrees) (sym same) are

nobody : Identity
nobody = record { uid = 0; gids = [] }

module _ (st : State) (users : List Identity) (subtrees : List Names) (rows : List (List Found)) (are : AreListed st users subtrees rows)
    (none : first (flat_map (subtree_faults st) subtrees) ≡ None) where
  pub rows_all : length rows ≡ length users
  rows_all = are.as_rows.all

  shown_at : (user place : ℕ) → user < length users → place < length subtrees → IsShown (get_or subtrees place []) (are.found user place)
  shown_at user place low within =
      let who = get_or users user nobody in
      let path = get_or subtrees place [] in
      shown_known st who path (answer st who path) (are.found user place) _ (are.known place [] within user nobody low)
      (answers_are_shown st who path (answer st who path)
      (checked-answer st who path (sym (none-element (subtree_faults st) subtrees place [] within none))))

  pub rows_lines : All (IsRowOfLines subtrees) rows
  rows_lines user d low =
      let all = are.as_rows.all in
      subst (All (IsPairLine subtrees)) (sym (are.as_rows.each user d (omega (arith, low, all))))
      (row_lines subtrees (are.found user) (length subtrees) (omega arith)
      (λ place within. shown_at user place (omega (arith, low, all)) within))

  listing : rows_pairs users subtrees rows ≡ listed_from are.found 0 users subtrees
  listing =
      rows_as users subtrees rows are.found 0 are.as_rows.all (λ user d within.
      let whole : 0 + user ≡ user = omega arith in
      are.as_rows.each user d within ∙ (λ i. row_of (are.found (sym whole i)) (length subtrees)))

  pub may_list : MayBeFound st users subtrees (first (flat_map (subtree_faults st) subtrees)) (Ok (rows_pairs users subtrees rows))
  may_list =
      subst (λ o. MayBeFound st users subtrees o (Ok (rows_pairs users subtrees rows))) (sym none)
      (rows_pairs users subtrees rows, (are.found, are.known, listing), refl)

  tells_all : (how : Listing) → (subtrees ≢ [] → IsWellFormed st) → (old new : Option (List ℕ)) (status : ℕ)
      → ReportsPairsBy how (Ok (rows_pairs users subtrees rows)) old new (Ok status) → TellsUnsettled how st users subtrees old new
  tells_all how formed old new status reports = (
    are.found,
    subst (λ l. Appends old new (listing_by how l)) listing reports.1,
    all-unlisted_settled st users subtrees are.found formed
        (λ k d within. no_fault st (get_or subtrees k d) (sym (none-element (subtree_faults st) subtrees k d within none))) are.known,
  )

  pub tells : (how : Listing) → (subtrees ≢ [] → IsWellFormed st) → (old new : Option (List ℕ)) (result : Result ℕ CliFault)
      → ReportsPairsBy how (Ok (rows_pairs users subtrees rows)) old new result
      → IfOk result (λ status. TellsUnsettled how st users subtrees old new)
  tells how formed old new (Ok status) reports = tells_all how formed old new status reports
  tells how formed old new (Err fault) reports = tt

-- ---- one after another

pub line_here : (subtrees : List Names) (row : List Found) (i : ℕ) (found : Found) → All (IsPairLine subtrees) row → i < length row
    → found ≡ get_or row i found → IsPairLine subtrees found
line_here subtrees row i found lines within at = subst (IsPairLine subtrees) (sym at) (lines i found within)

pub line_within : (subtrees : List Names) (row : List Found) (i : ℕ) (found : Found) → All (IsPairLine subtrees) row → i < length row
    → found ≡ get_or row i found → found.place < length subtrees
line_within subtrees row i found lines within at = (line_here subtrees row i found lines within at).0

pub line_shown : (subtrees : List Names) (found : Found) (subtree : Names) → IsPairLine subtrees found
    → subtree ≡ get_or subtrees found.place subtree → IsShown subtree found.answer
line_shown subtrees found subtree line at =
    subst (λ p. IsShown p found.answer) (sym (at ∙ get_or_default subtrees found.place subtree [] line.0)) line.2

-- the pair of this is the next
pub row_next : {how : Listing} (user : Identity) (subtrees : List Names) (row : List Found) (i : ℕ) (found : Found) (subtree : Names)
    (pairs : List Listed) (old new : Option (List ℕ)) (worst : ℕ) → i < length row → found ≡ get_or row i found
    → found.place < length subtrees → subtree ≡ get_or subtrees found.place subtree
    → Front how pairs (row_pairs user subtrees (drop i row)) old new worst
    → Front how pairs (listed_unless_contained user subtree found.answer ++ row_pairs user subtrees (drop (i + 1) row)) old new worst
row_next {how} user subtrees row i found subtree pairs old new worst within at inside path far =
    let same : subtree ≡ get_or subtrees found.place [] = path ∙ get_or_default subtrees found.place subtree [] inside in
    subst (λ p. Front how pairs (listed_unless_contained user p found.answer ++ row_pairs user subtrees (drop (i + 1) row)) old new worst)
    (sym same)
    (subst (λ rest. Front how pairs (row_pairs user subtrees rest) old new worst)
    (drop-cons row i found within ∙ (λ j. sym at j ∷ drop (sym (add-one i) j) row)) far)

-- the pairs of this user are the next
pub rows_next : {how : Listing} (users : List Identity) (subtrees : List Names) (rows : List (List Found)) (i : ℕ) (user : Identity)
    (row : List Found) (pairs : List Listed) (old new : Option (List ℕ)) (worst : ℕ) → i < length users → length rows ≡ length users
    → user ≡ get_or users i user → row ≡ get_or rows i row
    → Front how pairs (rows_pairs (drop i users) subtrees (drop i rows)) old new worst
    → Front how pairs (row_pairs user subtrees row ++ rows_pairs (drop (i + 1) users) subtrees (drop (i + 1) rows)) old new worst
rows_next {how} users subtrees rows i user row pairs old new worst within all at row_at far =
    let of_users : drop i users ≡ user ∷ drop (i + 1) users =
    drop-cons users i user within ∙ (λ j. sym at j ∷ drop (sym (add-one i) j) users) in
    let of_rows : drop i rows ≡ row ∷ drop (i + 1) rows =
    drop-cons rows i row (omega (arith, within, all)) ∙ (λ j. sym row_at j ∷ drop (sym (add-one i) j) rows) in
    subst (λ rest. Front how pairs rest old new worst) (λ j. rows_pairs (of_users j) subtrees (of_rows j)) far

pub no_row : (users : List Identity) (subtrees : List Names) (rows : List (List Found)) (i : ℕ) → length users ≤ i
    → rows_pairs (drop i users) subtrees (drop i rows) ≡ []
no_row users subtrees rows i all = (λ j. rows_pairs (drop_all i users all j) subtrees (drop i rows))

pub no_pair : (user : Identity) (subtrees : List Names) (row : List Found) (i : ℕ) → length row ≤ i
    → row_pairs user subtrees (drop i row) ≡ []
no_pair user subtrees row i all = ap (row_pairs user subtrees) (drop_all i row all)

-- ---- the report

abbrev Says : Type 1
Says = Result (List Listed) CliFault → Option (List ℕ) → Option (List ℕ) → Result ℕ CliFault → Type 0

lifted_takes : (fault : CheckFault) → takes_memory (Err (lifted_check fault)) ≡ true
lifted_takes RootSubtree = refl
lifted_takes NoSuchSubtree = refl
lifted_takes CheckNoMemory = refl

-- whatever is said of pairs, so of a fault or out of memory, by which nothing is written
module _ (says : Says) (known : Option (List ℕ))
    (of_fault : (fault : CliFault) → fault ≢ Write → says (Err fault) known known (Err fault))
    (of_memory : (report : Result (List Listed) CliFault) → read_takes_memory report ≡ true → says report known known (Err NoMemory)) where
  found_wanted : (st : State) (users : List Identity) (subtrees : List Names) (fault : Option CheckFault)
      → (report : Result (List Listed) CliFault) × MayBeFound st users subtrees fault report × says report known known (Err NoMemory)
  found_wanted st users subtrees None =
      let some = some_known st users subtrees in
      let pairs : List Listed = listed_from some.0 0 users subtrees in
      (Ok pairs, (pairs, (some.0, some.1, refl), refl), of_memory (Ok pairs) refl)
  found_wanted st users subtrees (Some fault) =
      (Err (lifted_check fault), refl, of_memory (Err (lifted_check fault)) (lifted_takes fault))

  abbrev Settles : Result (List Identity × List Names × State) CliFault → Result ℕ CliFault → Type 0
  Settles read result = (report : Result (List Listed) CliFault) × MayFollow read report × says report known known result

  met_settles : (read : Result (List Identity × List Names × State) CliFault) (fault : CliFault) → IsMet read fault
      → Settles read (Err fault)
  met_settles read Write met = absurd met
  met_settles (Ok all) NoMemory met =
      found_wanted all.2 (once same_user all.0) (once same_path all.1) (first (flat_map (subtree_faults all.2) (once same_path all.1)))
  met_settles (Err fault) NoMemory met = (Err fault, refl, of_memory (Err fault) met)
  met_settles read fault met = (Err fault, subst (λ r. MayFollow r (Err fault)) (sym met) refl, of_fault fault (λ same. cc))

-- of who and what is kept once
module _ (says : Says) (tree : Reading) (given : List (ℕ × List ℕ)) (texts : List (List ℕ)) (users : List Identity) (subtrees : List Names)
    (st : State) (kept : IsKeptOnce (named_read given texts tree) users subtrees st) where
  follows_kept : (report : Result (List Listed) CliFault)
      → MayBeFound st users subtrees (first (flat_map (subtree_faults st) subtrees)) report → MayReport tree given texts report
  follows_kept report may =
      subst (λ read. MayFollow read report) (sym kept.is)
      (subst (λ l. MayBeFound st l (once same_path kept.all_subtrees)
      (first (flat_map (subtree_faults st) (once same_path kept.all_subtrees))) report)
      kept.of_users
      (subst (λ l. MayBeFound st users l (first (flat_map (subtree_faults st) l)) report) kept.of_subtrees may))

  kept_said : (report : Result (List Listed) CliFault)
      → MayBeFound st users subtrees (first (flat_map (subtree_faults st) subtrees)) report
      → (old new : Option (List ℕ)) (result : Result ℕ CliFault) → says report old new result
      → ReportsSettled says tree given texts old new result
  kept_said report may old new result said = (report, follows_kept report may, said)

-- of a call, by what is said of pairs, and so of a fault or out of memory
settled_said : (says : Says) (answers : State → List Identity → List Names → Option (List ℕ) → Option (List ℕ) → Result ℕ CliFault → Type 0)
    → ((known : Option (List ℕ)) (fault : CliFault) → fault ≢ Write → says (Err fault) known known (Err fault))
    → ((known : Option (List ℕ)) (report : Result (List Listed) CliFault) → read_takes_memory report ≡ true
    → says report known known (Err NoMemory))
    → ((st : State) (users : List Identity) (subtrees : List Names) (old new : Option (List ℕ)) (result : Result ℕ CliFault)
    → answers st users subtrees old new result → ReportsFound says st users subtrees old new result)
    → (tree : Reading) (given : List (ℕ × List ℕ)) (texts : List (List ℕ)) (old new : Option (List ℕ)) (result : Result ℕ CliFault)
    → NamedReports answers tree given texts old new result → ReportsSettled says tree given texts old new result
settled_said says answers of_fault of_memory found tree given texts =
    by_reading answers tree given texts (ReportsSettled says tree given texts)
    (λ fault met known. met_settles says known (of_fault known) (of_memory known) (named_read given texts tree) fault met)
    (λ users subtrees st kept old new result said.
    let of = found st users subtrees old new result said in
    kept_said says tree given texts users subtrees st kept of.0 of.1 old new result of.2)

-- ---- all pairs, one after another

pairs_fault : (how : Listing) (known : Option (List ℕ)) (fault : CliFault) → fault ≢ Write
    → ReportsPairsBy how (Err fault) known known (Err fault)
pairs_fault how known fault other = fault_said how fault known

pairs_memory : (how : Listing) (known : Option (List ℕ)) (report : Result (List Listed) CliFault) → read_takes_memory report ≡ true
    → ReportsPairsBy how report known known (Err NoMemory)
pairs_memory how known (Ok pairs) takes = wants how pairs known
pairs_memory how known (Err fault) takes = (takes, Keeps-refl known)

-- ---- the first alone

-- by how it is said, which gives a status
module _ (said : List Listed → Report) (takes_it : (pairs : List Listed) → takes_memory (said pairs).ending ≡ true) where
  first_fault : (known : Option (List ℕ)) (fault : CliFault) → fault ≢ Write → ReportsFirstBy said (Err fault) known known (Err fault)
  first_fault known Write other = absurd (other refl)
  first_fault known NoMemory other = (refl, Keeps-refl known)
  first_fault known fault other = (refl, Keeps-refl known)

  first_memory : (known : Option (List ℕ)) (report : Result (List Listed) CliFault) → read_takes_memory report ≡ true
      → ReportsFirstBy said report known known (Err NoMemory)
  first_memory known (Ok pairs) takes = (takes_it pairs, Keeps-refl known)
  first_memory known (Err fault) takes = (takes, Keeps-refl known)

  pub first_said : (tree : Reading) (given : List (ℕ × List ℕ)) (texts : List (List ℕ)) (old new : Option (List ℕ))
      (result : Result ℕ CliFault) → NamedReports (ReportsFound (ReportsFirstBy said)) tree given texts old new result
      → ReportsSettled (ReportsFirstBy said) tree given texts old new result
  first_said =
      settled_said (ReportsFirstBy said) (ReportsFound (ReportsFirstBy said)) first_fault first_memory
      (λ st users subtrees old new result found. found)

module _ (said : List Listed → Report) (takes_it : (pairs : List Listed) → takes_memory (said pairs).ending ≡ true) (st : State)
    (users : List Identity) (subtrees : List Names) (known : Option (List ℕ)) where
  first_stopped : (fault : CheckFault) → (fault ≢ CheckNoMemory → Some fault ≡ first (flat_map (subtree_faults st) subtrees))
      → ReportsFound (ReportsFirstBy said) st users subtrees known known (Err (lifted_check fault))
  first_stopped RootSubtree is = (
    Err (lifted_check RootSubtree),
    subst (λ o. MayBeFound st users subtrees o (Err (lifted_check RootSubtree))) (is (λ same. cc)) refl,
    (refl, Keeps-refl known),
  )
  first_stopped NoSuchSubtree is = (
    Err (lifted_check NoSuchSubtree),
    subst (λ o. MayBeFound st users subtrees o (Err (lifted_check NoSuchSubtree))) (is (λ same. cc)) refl,
    (refl, Keeps-refl known),
  )
  first_stopped CheckNoMemory is =
      found_wanted (ReportsFirstBy said) known (first_fault said takes_it known) (first_memory said takes_it known) st users subtrees
      (first (flat_map (subtree_faults st) subtrees))

module _ (said : List Listed → Report) (takes_it : (pairs : List Listed) → takes_memory (said pairs).ending ≡ true) (st : State)
    (users : List Identity) (subtrees : List Names) where
  pub first_stops : (fault : CheckFault) → (fault ≢ CheckNoMemory → Some fault ≡ first (flat_map (subtree_faults st) subtrees))
      → (known : Option (List ℕ)) (result : Result ℕ CliFault) → IsErrAnd result (λ found. found ≡ lifted_check fault)
      → ReportsFound (ReportsFirstBy said) st users subtrees known known result
  first_stops fault is known result handed =
      handed_on (ReportsFound (ReportsFirstBy said) st users subtrees known known) (lifted_check fault) result handed
      (first_stopped said takes_it st users subtrees known fault is)

  pub first_reports : (written : Report) → SaysFirst said st users subtrees written → (old new : Option (List ℕ))
      (result : Result ℕ CliFault) → Reports written old new result → ReportsFound (ReportsFirstBy said) st users subtrees old new result
  first_reports written says old new result reports =
      (says.0, says.1, subst (λ (report : Report). Reports report old new result) (sym says.2) reports)

module _ (st : State) (users : List Identity) (subtrees : List Names) where
  pub subtree_found : (how : Listing) (fault : CheckFault) (known : Option (List ℕ))
      → Some fault ≡ first (flat_map (subtree_faults st) subtrees)
      → ReportsFound (ReportsPairsBy how) st users subtrees known known (Err (lifted_check fault))
  subtree_found how fault known is =
      let none = subst (λ o. MayBeFound st users subtrees o (Err (lifted_check fault))) is refl in
      (Err (lifted_check fault), none, fault_said how (lifted_check fault) known)

  pub memory_wanted : (how : Listing) (known : Option (List ℕ)) (result : Result ℕ CliFault) → IsErrAnd result (λ found. found ≡ NoMemory)
      → ReportsFound (ReportsPairsBy how) st users subtrees known known result
  memory_wanted how known result is =
      handed_on (ReportsFound (ReportsPairsBy how) st users subtrees known known) NoMemory result is
      (found_wanted (ReportsPairsBy how) known (pairs_fault how known) (pairs_memory how known) st users subtrees
      (first (flat_map (subtree_faults st) subtrees)))

  pub rows_found : (how : Listing) (rows : List (List Found)) → AreListed st users subtrees rows
      → first (flat_map (subtree_faults st) subtrees) ≡ None
      → (old new : Option (List ℕ)) (result : Result ℕ CliFault) → ReportsPairsBy how (Ok (rows_pairs users subtrees rows)) old new result
      → ReportsFound (ReportsPairsBy how) st users subtrees old new result
  rows_found how rows are none old new result reports =
      (Ok (rows_pairs users subtrees rows), may_list st users subtrees rows are none, reports)

pub all_said : (how : Listing) (tree : Reading) (given : List (ℕ × List ℕ)) (texts : List (List ℕ)) (old new : Option (List ℕ))
    (result : Result ℕ CliFault) → NamedReports (ListsUnsettled how) tree given texts old new result
    → ReportsSettled (ReportsPairsBy how) tree given texts old new result
all_said how =
    settled_said (ReportsPairsBy how) (ListsUnsettled how) (pairs_fault how) (pairs_memory how)
    (λ st users subtrees old new result said. said.0)

module _ (how : Listing) (tree : Reading) (given : List (ℕ × List ℕ)) (texts : List (List ℕ)) (users : List Identity)
    (subtrees : List Names) (st : State) (kept : IsKeptOnce (named_read given texts tree) users subtrees st) where
  unsettled_said : (bytes : List ℕ) → ((start : State) → IsTextOf start bytes → tree ≡ Ok start) → (result : Result ℕ CliFault)
      → (old new : Option (List ℕ)) → IfOk result (λ status. TellsUnsettled how st users subtrees old new)
      → IfOk result
      (λ status. (start : State) (who : List Identity) (paths : List Names)
      → IsTextOf start bytes → users_read given ≡ Ok who → paths_read texts ≡ Ok paths
      → TellsUnsettled how start (once same_user who) (once same_path paths) old new)
  unsettled_said bytes means (Err fault) old new said = tt
  unsettled_said bytes means (Ok status) old new said = λ start who paths is_start is_who are_paths.
      subst (λ (all : List Identity × List Names × State). TellsUnsettled how all.2 (once same_user all.0) (once same_path all.1) old new)
      (same_Ok (kept.all_users, kept.all_subtrees, st) (who, paths, start)
      (sym kept.is ∙ (λ i. read_in_turn (is_who i) (are_paths i) (tree_read (means start is_start i)))))
      (subst (λ l. TellsUnsettled how st l (once same_path kept.all_subtrees) old new) kept.of_users
      (subst (λ l. TellsUnsettled how st users l old new) kept.of_subtrees said))

pub unlisted_settled : (how : Listing) (bytes : List ℕ) (given : List (ℕ × List ℕ)) (texts : List (List ℕ))
    (old new : Option (List ℕ)) (result : Result ℕ CliFault)
    → OnText bytes (λ read. NamedReports (ListsUnsettled how) read given texts old new result)
    → IfOk result
    (λ status. (start : State) (who : List Identity) (paths : List Names) → IsTextOf start bytes → users_read given ≡ Ok who
    → paths_read texts ≡ Ok paths → TellsUnsettled how start (once same_user who) (once same_path paths) old new)
unlisted_settled how bytes given texts old new result asked =
    by_reading (ListsUnsettled how) asked.0 given texts
    (λ old new result. IfOk result
    (λ status. (start : State) (who : List Identity) (paths : List Names) → IsTextOf start bytes → users_read given ≡ Ok who
    → paths_read texts ≡ Ok paths → TellsUnsettled how start (once same_user who) (once same_path paths) old new))
    (λ fault met known. tt)
    (λ users subtrees st kept old new result said.
    unsettled_said how asked.0 given texts users subtrees st kept bytes
    (λ start of_text. one_reading bytes asked.0 (Ok start) asked.1 of_text) result old new said.1)
    old new result asked.2
