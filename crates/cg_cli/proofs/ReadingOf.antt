-- What the bytes of a tree text are read as.
use Rattle.std.proofs.Common.{◌≡◌, ◌≢◌, ℕ, List, Some, Result, Ok, Err, MatchResult}
use Rattle.cg_model.specs.States.{State}
use Rattle.cg_model.specs.Clauses.{first}
use Rattle.cg_text.specs.Faults.{Reads}
use Rattle.cg_format.specs.Readings.{Reading, IsReading, OnText}
use Rattle.cg_format.specs.TextOf.{IsTextOf}
use Rattle.cg_format.specs.TextFaults.{text_faults}
use Rattle.cg_format.specs.declared.fault.TreeFault.{TreeFault}
use Rattle.cg_format.specs.declared.fault.TreeFault.TheVariants.{NoMemory}
use Rattle.cg_text.specs.declared.tree.Text.{Text}
use Rattle.cg_format.proofs.ReadingLaws.{a_reading, one_reading}

pub reading_of : List ℕ → Reading
reading_of bytes = (a_reading bytes).0

pub is_reading : (bytes : List ℕ) → IsReading bytes (reading_of bytes)
unfolding reading_of
is_reading bytes = (a_reading bytes).1

-- what holds of whatever they are read as
pub on_text : (bytes : List ℕ) {P : Reading → Type 0} → ((read : Reading) → IsReading bytes read → P read) → OnText bytes P
on_text bytes holds = (reading_of bytes, is_reading bytes, holds (reading_of bytes) (is_reading bytes))

-- it is read as nothing else
pub reading_is : (bytes : List ℕ) (read : Reading) → IsReading bytes read → reading_of bytes ≡ read
reading_is bytes read is = one_reading bytes (reading_of bytes) read (is_reading bytes) is

-- what the reader answers, said of any reading
pub reads_any : (bytes : List ℕ) (result : Result State TreeFault)
    → MatchResult result (λ rows. IsTextOf rows bytes) (λ fault. fault ≢ NoMemory → first (text_faults bytes) ≡ Some fault)
    → (read : Reading) → IsReading bytes read → Reads (λ rows. rows) result read
reads_any bytes (Ok rows) found read is = one_reading bytes read (Ok rows) is found
reads_any bytes (Err fault) found read is = λ other. one_reading bytes read (Err fault) is (found other)

-- the same with which controllers the text names
pub reads_text : (bytes : List ℕ) (result : Result Text TreeFault)
    → MatchResult result (λ text. IsTextOf text.rows bytes) (λ fault. fault ≢ NoMemory → first (text_faults bytes) ≡ Some fault)
    → (read : Reading) → IsReading bytes read → Reads (λ (text : Text). text.rows) result read
reads_text bytes (Ok text) found read is = one_reading bytes read (Ok text.rows) is found
reads_text bytes (Err fault) found read is = λ other. one_reading bytes read (Err fault) is (found other)
