-- What a run comes to, and what lies below its buffer.
use Rattle.std.proofs.Common.{◌≡◌, ◌∙◌, ℕ, List, [], ◌++◌, ap, sym, refl, subst, inl, inr, append-nil}
use Rattle.std.specs.Prelude.{◌≢◌, Option, Some, None, Result, Ok, Err, IfOk, IsOk, IsErr, OnOk}
use Rattle.std.specs.Io.Buffered.{writer_buffer, writer_inner, writer_contents}
use Rattle.std.specs.Io.KnownBytes.{append_known}
use Rattle.std.specs.declared.io.buffered.BufWriter.{BufWriter}
use Rattle.arguments.specs.Words.{Makes, IsNone}
use Rattle.arguments.specs.declared.fault.ArgumentsFault.{ArgumentsFault}
use Rattle.arguments.specs.declared.fault.ArgumentsFault.TheVariants as arguments
use Rattle.arguments.specs.declared.request.Request.{Request}
use Rattle.cg_faults.specs.declared.fault.CliFault.{CliFault}
use Rattle.cg_faults.specs.declared.fault.CliFault.TheVariants.{Write}
use Rattle.streams.specs.declared.again.Again.{Again}
use Rattle.streams.specs.declared.write.WriteFailed.{WriteFailed}
use Rattle.commands.specs.Faults.{lifted}
use Rattle.commands.specs.Requests.{Files}
use Rattle.commands.specs.Runs.{CarriesOutBuffered, in_program, LeadsTo, TellsWrites, LiesBelow, RunsTo}
use Rattle.commands.specs.declared.fault.Fault.{Fault}
use Rattle.commands.proofs.RequestLaws.{Keeps-refl}

module _ (words : List (List ℕ)) (files : Files) (given old : Option (List ℕ)) where
  pub leads : (new : Option (List ℕ)) (asked : Request) (ended : Result ℕ CliFault) → Makes words asked
      → CarriesOutBuffered asked files given old new ended → LeadsTo words files given old new (in_program ended)
  leads new asked (Ok status) made carried = (asked, made, carried)
  leads new asked (Err fault) made carried = inl (asked, made, carried)

  pub leads_nowhere : (fault : ArgumentsFault) → (fault ≢ arguments.NoMemory → IsNone words)
      → LeadsTo words files given old old (Err (lifted fault))
  leads_nowhere arguments.Usage none = (none (λ same. cc), Keeps-refl old)
  leads_nowhere arguments.NoMemory none = inr (refl, Keeps-refl old)

pub tells : (ended : Result ℕ CliFault) (written : Result (Unit {0}) WriteFailed) → IfOk ended (λ status. IsOk written)
    → (ended ≡ Err Write → IsErr written) → TellsWrites (in_program ended) written
tells (Ok status) written whole failed = (whole, λ is. cc)
tells (Err fault) written whole failed = (tt, λ is. failed cc)

pub lies_below : (written : Result (Unit {0}) WriteFailed) (inner : Option (List ℕ)) (held : List ℕ) → OnOk written (held ≡ [])
    → LiesBelow written (append_known inner held) inner
lies_below (Ok done) None held empty = tt
lies_below (Ok done) (Some xs) held empty = sym (append-nil xs) ∙ ap (λ bytes. xs ++ bytes) (sym empty)
lies_below (Err failed) inner held empty = (held, Keeps-refl (append_known inner held))

pub nothing_held : (inner : Option (List ℕ)) → append_known inner [] ≡ inner
nothing_held None = refl
nothing_held (Some xs) = ap (λ bytes. Some bytes) (append-nil xs)

-- behind a buffer that was empty at first, of which the writer and what it still held are handed back
pub ran : {W A : Type 0} (contents : W → Option (List ℕ)) (words : List (List ℕ)) (files : Files) (given : Option (List ℕ))
    (fresh held : BufWriter (Again W) A) (out : W) (answer : Result ℕ Fault) (written : Result (Unit {0}) WriteFailed)
    → writer_inner fresh ≡ record { inner = out } → writer_buffer fresh ≡ []
    → LeadsTo words files given (writer_contents (λ (again : Again W). contents again.inner) fresh)
    (writer_contents (λ (again : Again W). contents again.inner) held) answer
    → TellsWrites answer written → OnOk written (writer_buffer held ≡ []) → (below : Again W) → below ≡ writer_inner held
    → RunsTo words files given (contents out) (contents below.inner) answer written
ran {W} contents words files given fresh held out answer written inner empty leads_to told whole below is =
    let at : Again W → Option (List ℕ) = λ again. contents again.inner in
    let before : writer_contents at fresh ≡ contents out =
    ap (λ (bytes : List ℕ). append_known (at (writer_inner fresh)) bytes) empty ∙ nothing_held (at (writer_inner fresh)) ∙ ap at inner in (
      writer_contents at held,
      subst (λ (known : Option (List ℕ)). LeadsTo words files given known (writer_contents at held) answer) before leads_to,
      told,
      subst (λ (it : Again W). LiesBelow written (writer_contents at held) (contents it.inner)) (sym is)
          (lies_below written (at (writer_inner held)) (writer_buffer held) whole),
    )
