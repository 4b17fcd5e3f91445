-- A replay over a reader: what it gave, and what is left.
use Rattle.std.proofs.Common.{◌≡◌, ℕ, ◌+◌, ◌*◌, ◌<◌, ◌≤◌, true, false, nat_lt, List, [], ◌∷◌, ◌++◌, length, take, drop, Option, Some}
use Rattle.std.proofs.Common.{None, Result}
use Rattle.std.proofs.Common.{Ok, Err, IsErrAnd, IfSome, OnSome, ◌⊎◌, inl, inr, refl, ap, sym, ◌∙◌, subst, append-nil, length-take-le}
use Rattle.std.proofs.Common.{arith}
use Rattle.std.proofs.lemmas.Bool.Decides.{nat_tests}
use Rattle.std.specs.Io.{StartsWith}
use Rattle.std.specs.Io.KnownBytes.{Keeps, Consumes, IsAtEnd}
use Rattle.std.specs.Io.BufRead.{DropsConsumable}
use Rattle.std.proofs.BufReadLemmas.{Consumes_shown}
use Rattle.std.proofs.KnownBytes.{Keeps-refl, Consumes-nil, Consumes-kept, Consumes-trans, Appends-kept, starts_with_rest}
use Rattle.cg_cli.specs.Reports.{Said}
use Rattle.cg_cli.specs.Courses.{Course, came_to}
use Rattle.cg_cli.specs.Replays.{end_read}
use Rattle.cg_cli.specs.Replaying.{Reporting, whole, AreOf, Replays, ReplaysFrom, Standing, coming, ending, goes_on, IsWaiting, Leads}
use Rattle.cg_cli.specs.Replaying.{Fed, ReadOn}
use Rattle.cg_faults.specs.declared.fault.CliFault.{CliFault}
use Rattle.cg_faults.specs.declared.fault.CliFault.TheVariants.{Read, NoMemory}
use Rattle.cg_cli.proofs.ReplayEnds.{leads_nowhere, leads_on, given_said, replays_end, replays_fault}
use Rattle.cg_cli.proofs.ReportLaws.{handed_on}

no_piece : (had : Option (List ℕ)) → IfSome had (λ xs. StartsWith xs [])
no_piece None = tt
no_piece (Some xs) = refl

-- nothing was read
pub read_failed : (before after : Reporting) (had left old : Option (List ℕ)) (fault : CliFault) → (fault ≡ Read) ⊎ (fault ≡ NoMemory)
    → Keeps had left → ReadOn before after had left old old (Err fault)
read_failed before after had left old fault (inl e) kept =
    subst (λ f. ReadOn before after had left old old (Err f)) (sym e) (kept, Keeps-refl old)
read_failed before after had left old fault (inr e) kept =
    subst (λ f. ReadOn before after had left old old (Err f)) (sym e) ([], no_piece had, Keeps-refl old)

at_end : (had left : Option (List ℕ)) (n : ℕ) → n ≡ 0 → IfSome had (λ xs. n ≡ 0 → xs ≡ []) → Keeps had left → OnSome had (IsAtEnd left)
at_end None left n none end kept = tt
at_end (Some xs) None n none end kept = absurd kept
at_end (Some xs) (Some ys) n none end kept = kept ∙ end none

-- nothing is left
pub read_end : (report : Reporting) (had left old : Option (List ℕ)) (n : ℕ) → n ≡ 0 → IfSome had (λ xs. n ≡ 0 → xs ≡ []) → Keeps had left
    → ReadOn report report had left old old (Ok 0)
read_end report had left old n none end kept = (
  [],
  refl,
  Consumes-kept had had left [] (Consumes-nil had) kept,
  leads_nowhere report old,
  λ _. at_end had left n none end kept,
)

-- a piece has a fault
pub read_fault : (before after : Reporting) (had left old new : Option (List ℕ)) (piece : List ℕ) (fault : CliFault)
    → IfSome had (λ xs. StartsWith xs piece)
    → Fed before after piece old new (Err fault) → ReadOn before after had left old new (Err fault)
read_fault before after had left old new piece Read front fed = absurd fed
read_fault before after had left old new piece fault front fed = (piece, front, fed)

-- a piece of which bytes were taken
pub read_some : (before after : Reporting) (had shown left old new : Option (List ℕ)) (buffered : Option ℕ) (piece : List ℕ) (n : ℕ) → 0 < n
    → IfSome had (λ xs. StartsWith xs piece) → IfSome had (λ xs. length piece ≡ 0 → xs ≡ []) → Keeps had shown
    → IfSome had (λ _. IfSome buffered (λ k. length piece ≤ k))
    → DropsConsumable shown left buffered n → Fed before after piece old new (Ok n) → ReadOn before after had left old new (Ok n)
read_some before after had shown left old new buffered piece n some front end kept fits drops fed =
    let moved = Consumes_shown had shown left buffered piece n fed.0 front end kept fits drops in
    (take n piece, length-take-le n piece fed.0, moved.0, fed.1, λ none. absurd (omega arith))

-- ---- at the end

-- what is a replay of the reader's bytes
pub from_replays : {A : Type 0} (close : Said Course → Said A) (report : Reporting) (before left old new : Option (List ℕ)) (ops : List ℕ)
    (ended : Result A CliFault) → AreOf before ops → Replays close report ops old new ended
    → ReplaysFrom close report before left old new ended
from_replays close report before left old new ops (Ok came) are replays = (ops, are, replays)
from_replays close report before left old new ops (Err Read) are replays = absurd replays
from_replays close report before left old new ops (Err fault) are replays = (ops, are, replays)

-- the bytes of a reader, some of which it gave and some it showed
split_known : (before had : Option (List ℕ)) (given piece : List ℕ) → Consumes before had given → IfSome had (λ xs. StartsWith xs piece)
    → (rest : List ℕ) × AreOf before (given ++ (piece ++ rest))
split_known None had given piece gave shows = ([], tt)
split_known (Some xs) None given piece gave shows = absurd gave
split_known (Some xs) (Some ys) given piece gave shows = (
  drop (length piece) ys,
  sym (gave ∙ ap (λ l. given ++ l) (starts_with_rest ys piece shows)),
)

-- the bytes of a reader that gave all
all_known : (before left : Option (List ℕ)) (given : List ℕ) → Consumes before left given → OnSome before (IsAtEnd left)
    → AreOf before given
all_known None left given gave end = tt
all_known (Some xs) None given gave end = absurd gave
all_known (Some xs) (Some ys) given gave end = sym (gave ∙ ap (λ l. given ++ l) end ∙ append-nil given)

end_passed : (before had left : Option (List ℕ)) (given : List ℕ) → Consumes before had given → OnSome had (IsAtEnd left)
    → OnSome before (IsAtEnd left)
end_passed None had left given gave end = tt
end_passed (Some xs) None left given gave end = absurd gave
end_passed (Some xs) (Some ys) left given gave end = end

-- the input goes on, as far as it was read
begun_goes_on : (course : Course) (done : ℕ) (line : List ℕ) → done * 8193 + length line ≤ 536936448 → length line ≤ 8192
    → goes_on (end_read course done line) ≡ true
begun_goes_on course done [] few short = refl
begun_goes_on course done (b ∷ bs) few short =
    let below : done < 65536 = omega (arith, few) in
    let allowed : nat_lt done 65536 ≡ true = grind (arith, nat_tests) in
    let within : nat_lt 8192 (length (b ∷ bs)) ≡ false = grind (arith, nat_tests) in
    rw (allowed, within) refl

module _ {report : Reporting} {at : Standing} (waiting : IsWaiting at) {given : List ℕ} {old mid : Option (List ℕ)}
    (way : Leads report (coming at) given old mid) (before had : Option (List ℕ)) (gave : Consumes before had given) where
  fault_read : (after : Reporting) (left new : Option (List ℕ)) (fault : CliFault) → ReadOn (coming at) after had left mid new (Err fault)
      → ReplaysFrom whole report before left old new (Err fault)
  fault_read after left new Read read =
      let said = given_said waiting way in (
        given,
        Consumes-kept before had left given gave read.0,
        Appends-kept old mid new (report given).text said.1 read.1,
        ap goes_on said.0 ∙ begun_goes_on at.course at.done at.line waiting.few waiting.short,
      )
  fault_read after left new fault read =
      let known = split_known before had given read.0 gave read.1 in
      from_replays whole report before left old new (given ++ (read.0 ++ known.0)) (Err fault) known.1
      (replays_fault waiting way after read.0 known.0 new fault read.2)

  -- at a fault
  pub from_fault : {T : Type 0} (view : T → Course) (after : Reporting) (left new : Option (List ℕ)) (fault : CliFault)
      → ReadOn (coming at) after had left mid new (Err fault)
      → (result : Result T CliFault) → IsErrAnd result (λ found. found ≡ fault)
      → ReplaysFrom whole report before left old new (came_to view result)
  from_fault view after left new fault read result is =
      handed_on (λ r. ReplaysFrom whole report before left old new (came_to view r)) fault result is (fault_read after left new fault read)

-- at the end of the input
pub from_end : {report there : Reporting} {at : Standing} {given : List ℕ} {old mid : Option (List ℕ)} → IsWaiting at
    → Leads report there given old mid
    → (before had left : Option (List ℕ)) → Consumes before had given
    → (new : Option (List ℕ)) (taken : ℕ) → taken ≡ 0 → ReadOn there (coming at) had left mid new (Ok taken)
    → (ended : Result Course CliFault) → ended ≡ ending at → ReplaysFrom whole report before left old new ended
from_end {report} {there} {at} {given} {old} {mid} waiting way before had left gave new taken none more ended is =
    let read = subst (λ n. ReadOn there (coming at) had left mid new (Ok n)) none more in
    let all = given ++ read.0 in
    let known = all_known before left all (Consumes-trans before had left given read.0 gave read.2)
    (end_passed before had left given gave (read.4 refl)) in
    subst (ReplaysFrom whole report before left old new) (sym {A = Result Course CliFault} is)
    (from_replays whole report before left old new all (ending at) known (replays_end waiting (leads_on way read.3)))
