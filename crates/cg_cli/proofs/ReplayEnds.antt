-- A replay that ends: what it answers and has written by then is the report's.
use Rattle.std.proofs.Common.{◌≡◌, ℕ, ◌+◌, ◌*◌, ◌<◌, ◌≤◌, true, nat_lt, cond, List, [], ◌∷◌, ◌++◌, length, take, Option, Result, Ok}
use Rattle.std.proofs.Common.{Err, IsErrAnd}
use Rattle.std.proofs.Common.{refl, ap, sym, ◌∙◌, subst, append_assoc, append-nil, length-append, arith}
use Rattle.std.proofs.Math.Seq.{take-append-add}
use Rattle.std.proofs.lemmas.Bool.Decides.{nat_tests}
use Rattle.std.proofs.lemmas.List.{nil_from_length}
use Rattle.std.specs.Io.KnownBytes.{Appends}
use Rattle.std.proofs.KnownBytes.{Appends-nil, Appends-trans, Appends-kept}
use Rattle.cg_cli.specs.Courses.{Course, came_to}
use Rattle.cg_lines.specs.declared.lines.fault.LineFault.TheVariants.{TooLong, Cut}
use Rattle.streams.specs.Written.{AppendsPart}
use Rattle.cg_cli.specs.Reports.{Said}
use Rattle.cg_cli.specs.Replays.{end_read, end_said, with_front, bytes_said}
use Rattle.cg_cli.specs.Replaying.{Reporting, whole, Replays, Standing, coming, ending, IsWaiting, Leads, Fed}
use Rattle.cg_faults.specs.declared.fault.CliFault.{CliFault}
use Rattle.cg_faults.specs.declared.fault.CliFault.TheVariants.{Line, Write, Read, NoMemory}
use Rattle.cg_cli.proofs.ReplayReports.{said_of_end}
use Rattle.cg_cli.proofs.ReportLaws.{handed_on}

-- ---- one way after another

pub leads_nowhere : (report : Reporting) (known : Option (List ℕ)) → Leads report report [] known known
leads_nowhere report known = record { written = []; appended = Appends-nil known; whole = λ rest. refl }

fronts : (front next : List ℕ) (report : Said Course) → with_front front (with_front next report) ≡ with_front (front ++ next) report
fronts front next report =
    ap (λ (text : List ℕ). let r : Said Course = record { text = text; ending = report.ending } in r)
    (sym (append_assoc front next report.text))

pub leads_on : {before there after : Reporting} {first second : List ℕ} {old mid new : Option (List ℕ)}
    → Leads before there first old mid → Leads there after second mid new → Leads before after (first ++ second) old new
leads_on {before} {there} {after} {first} {second} {old} {mid} {new} p q = record {
  written = p.written ++ q.written;
  appended = Appends-trans old mid new p.written q.written p.appended q.appended;
  whole = λ rest.
      ap before (append_assoc first second rest) ∙ p.whole (second ++ rest) ∙ ap (with_front p.written) (q.whole rest)
      ∙ fronts p.written q.written (after rest);
}

-- a text that was written, and a part of the next
pub part_behind : (old mid new : Option (List ℕ)) (front text : List ℕ) → Appends old mid front → AppendsPart mid new text
    → AppendsPart old new (front ++ text)
part_behind old mid new front text first part = (
  length front + part.0,
  omega (arith, part.1, length-append front text),
  subst (Appends old new) (sym (take-append-add front text part.0)) (Appends-trans old mid new front (take part.0 text) first part.2),
)

-- ---- at the end of the input

-- what is said where nothing follows
quiet : {at : Standing} → IsWaiting at → coming at [] ≡ end_said (ending at)
quiet {at} waiting =
    ap (bytes_said at.protocol at.course at.user at.done) (append-nil at.line)
    ∙ said_of_end at.protocol at.course at.user at.done at.line waiting.one_line

-- all was written, and the ending is the report's
whole_text : (before after : Reporting) (given : List ℕ) (old new : Option (List ℕ)) (ending : Result Course CliFault)
    → Leads before after given old new → after [] ≡ end_said ending
    → ((before given).ending ≡ ending) × Appends old new (before given).text
whole_text before after given old new ending way none =
    let e : before given ≡ with_front way.written (end_said ending) =
    ap before (sym (append-nil given)) ∙ way.whole [] ∙ ap (with_front way.written) none in (
      ap (λ (r : Said Course). r.ending) e,
      subst (Appends old new) (sym (ap (λ (r : Said Course). r.text) e ∙ append-nil way.written)) way.appended,
    )

ends_by : (before after : Reporting) (given : List ℕ) (old new : Option (List ℕ)) (course : Course) (done : ℕ) (line : List ℕ)
    → done * 8193 + length line ≤ 536936448 → Leads before after given old new → after [] ≡ end_said (end_read course done line)
    → Replays whole before given old new (end_read course done line)
ends_by before after given old new course done [] few way none = whole_text before after given old new (Ok course) way none
ends_by before after given old new course done (b ∷ bs) few way none =
    let below : done < 65536 = omega (arith, few) in
    let allowed : nat_lt done 65536 ≡ true = grind (arith, nat_tests) in
    let ended = Err (Line (done + 1) (cond (nat_lt 8192 (length (b ∷ bs))) TooLong Cut)) in
    let e : end_read course done (b ∷ bs) ≡ ended = rw allowed refl in
    subst (Replays whole before given old new) (sym {A = Result Course CliFault} e)
    (whole_text before after given old new ended way (none ∙ ap end_said e))

-- what the bytes so far led to
module _ {before : Reporting} {at : Standing} (waiting : IsWaiting at) {given : List ℕ} {old mid : Option (List ℕ)}
    (way : Leads before (coming at) given old mid) where
  pub given_said : ((before given).ending ≡ ending at) × Appends old mid (before given).text
  given_said = whole_text before (coming at) given old mid (ending at) way (quiet waiting)

  pub replays_end : Replays whole before given old mid (ending at)
  replays_end = ends_by before (coming at) given old mid at.course at.done at.line waiting.few way (quiet waiting)

  -- a piece has a fault
  pub replays_fault : (then : Reporting) (piece rest : List ℕ) (new : Option (List ℕ)) (fault : CliFault)
      → Fed (coming at) then piece mid new (Err fault)
      → Replays whole before (given ++ (piece ++ rest)) old new (Err fault)
  replays_fault then piece rest new Write fed =
      subst (AppendsPart old new) (sym (ap (λ (r : Said Course). r.text) (way.whole (piece ++ rest))))
      (part_behind old mid new way.written (coming at (piece ++ rest)).text way.appended (fed rest))
  replays_fault then piece rest new NoMemory fed =
      (given, piece ++ rest, refl, Appends-kept old mid new (before given).text given_said.1 fed)
  replays_fault then piece rest new Read fed = absurd fed
  replays_fault then piece rest new fault fed =
      let e = way.whole (piece ++ rest) ∙ ap (with_front way.written) (fed.0 rest) in (
        ap (λ (r : Said Course). r.ending) e,
        subst (Appends old new) (sym (ap (λ (r : Said Course). r.text) e ∙ append-nil way.written))
            (Appends-kept old mid new way.written way.appended fed.1),
      )

  -- over bytes that are all there, of which some are left
  module _ (ops rest : List ℕ) (split : ops ≡ given ++ rest) where
    pub rest_fault : {T : Type 0} (view : T → Course) (then : Reporting) (new : Option (List ℕ)) (fault : CliFault)
        → Fed (coming at) then rest mid new (Err fault)
        → (result : Result T CliFault) → IsErrAnd result (λ found. found ≡ fault) → Replays whole before ops old new (came_to view result)
    rest_fault view then new fault fed result is =
        let all : given ++ (rest ++ []) ≡ ops = ap (λ l. given ++ l) (append-nil rest) ∙ sym split in
        handed_on (λ r. Replays whole before ops old new (came_to view r)) fault result is
        (subst (λ bytes. Replays whole before bytes old new (Err fault)) all (replays_fault then rest [] new fault fed))

    pub rest_ends : length rest ≡ 0 → (ended : Result Course CliFault) → ended ≡ ending at → Replays whole before ops old mid ended
    rest_ends zero ended is =
        let all : given ≡ ops = sym (split ∙ ap (λ l. given ++ l) (nil_from_length rest zero) ∙ append-nil given) in
        subst (Replays whole before ops old mid) (sym {A = Result Course CliFault} is)
        (subst (λ bytes. Replays whole before bytes old mid (ending at)) all replays_end)
