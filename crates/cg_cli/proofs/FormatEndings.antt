-- What is asked of everybody, and a replay, end alike in each format.
use Rattle.std.specs.List.{slice_split}
use Rattle.std.proofs.Common.{◌≡◌, ℕ, ◌+◌, List, [], ◌∷◌, Option, Result, Ok, Err, refl, ap, ◌∙◌}
use Rattle.cg_cgroup.specs.Identity.{Identity}
use Rattle.cg_cgroup.specs.Paths.{same_path}
use Rattle.cg_cgroup.specs.declared.files.Vocabulary.{Vocabulary}
use Rattle.cg_model.specs.Once.{once}
use Rattle.cg_model.specs.declared.operation.Op.{Op}
use Rattle.machine_everybody.specs.Everybody.{Everybody}
use Rattle.cg_format.specs.Readings.{Reading}
use Rattle.cg_faults.specs.declared.fault.CliFault.{CliFault}
use Rattle.cg_cli.specs.Arguments.{user_read}
use Rattle.cg_cli.specs.Audits.{paths_read}
use Rattle.cg_cli.specs.Containment.{in_call}
use Rattle.cg_cli.specs.Courses.{Course, Unwatched, Watched, state_of, on_course, closing}
use Rattle.cg_cli.specs.Everybody.{everybody_found, found_report_in, found_report, everybody_said_in, everybody_said, everybody_report_in, everybody_report}
use Rattle.cg_cli.specs.May.{tree_read}
use Rattle.cg_cli.specs.ReplayFormats.{outcome_in, in_format}
use Rattle.cg_cli.specs.Replays.{is_newline, outcome_of, operation_read, with_front, replayed, bytes_said, closed_in, course_read, operations_report, replay_report}
use Rattle.cg_cli.specs.Reports.{Said, report_on}
use Rattle.cg_cli.specs.declared.everybody.Wanted.{Wanted}
use Rattle.cg_cli.specs.declared.format.Format.{Format}
use Rattle.cg_cli.specs.declared.format.Format.TheVariants.{Lines}
use Rattle.cg_cli.proofs.AsJson.{same_ending}

-- ---- everybody

pub everybody_ending : (format : Format) (wanted : Wanted) (asked : Everybody) (tree : Reading) (texts : List (List ℕ))
    → (everybody_report_in format wanted asked tree texts).ending ≡ (everybody_report wanted asked tree texts).ending
everybody_ending format wanted asked tree texts =
    same_ending (paths_read texts)
    (λ paths. report_on (tree_read tree) (λ st. everybody_said_in format wanted asked st (once same_path paths)))
    (λ paths. report_on (tree_read tree) (λ st. everybody_said wanted asked st (once same_path paths))) (λ paths.
    same_ending (tree_read tree) (λ st. everybody_said_in format wanted asked st (once same_path paths))
    (λ st. everybody_said wanted asked st (once same_path paths)) (λ st.
    same_ending (in_call (everybody_found st asked (once same_path paths)))
    (found_report_in format wanted asked st (once same_path paths)) (found_report wanted asked st (once same_path paths)) (λ found. refl)))

-- ---- a replay

pieces_ending : (format : Format) (vocabulary : Vocabulary) (course : Course) (user : Identity) (done : ℕ) (pieces : List (List ℕ))
    → (replayed (in_format format vocabulary) course user done pieces).ending
    ≡ (replayed (in_format Lines vocabulary) course user done pieces).ending
unfolding replayed
pieces_ending format vocabulary course user done [] = refl
pieces_ending format vocabulary course user done (piece ∷ []) = refl
pieces_ending format vocabulary course user done (piece ∷ next ∷ others) =
    let said : Format → Op → Said Course = λ form op.
    with_front (outcome_in form op (outcome_of (state_of course) user op))
    (replayed (in_format form vocabulary) (on_course course user op) user (done + 1) (next ∷ others)) in
    same_ending (operation_read vocabulary done piece) (said format) (said Lines)
    (λ op. pieces_ending format vocabulary (on_course course user op) user (done + 1) (next ∷ others))

bytes_ending : (format : Format) (vocabulary : Vocabulary) (course : Course) (user : Identity) (done : ℕ) (bytes : List ℕ)
    → (bytes_said (in_format format vocabulary) course user done bytes).ending
    ≡ (bytes_said (in_format Lines vocabulary) course user done bytes).ending
unfolding bytes_said
bytes_ending format vocabulary course user done bytes = pieces_ending format vocabulary course user done (slice_split is_newline bytes)

closing_ending : (format : Format) (one other : List ℕ) (course : Course)
    → (with_front one (closing format course)).ending ≡ (with_front other (closing Lines course)).ending
closing_ending format one other (Unwatched st) = refl
closing_ending format one other (Watched run) = refl

closed_by : (format : Format) (one other : List ℕ) (ending : Result Course CliFault)
    → (closed_in format (record { text = one; ending = ending })).ending
    ≡ (closed_in Lines (record { text = other; ending = ending })).ending
closed_by format one other (Ok course) = closing_ending format one other course
closed_by format one other (Err fault) = refl

closed_ending : (format : Format) (one other : Said Course) → one.ending ≡ other.ending
    → (closed_in format one).ending ≡ (closed_in Lines other).ending
closed_ending format one other same =
    closed_by format one.text other.text one.ending
    ∙ ap (λ (ending : Result Course CliFault). (closed_in Lines (record { text = other.text; ending = ending })).ending) same

pub replay_ending : (format : Format) (vocabulary : Vocabulary) (tree : Reading) (uid : ℕ) (gids : List ℕ) (subtree : Option (List ℕ))
    (ops : List ℕ) → (closed_in format (operations_report (in_format format vocabulary) tree uid gids subtree ops)).ending
    ≡ (replay_report vocabulary tree uid gids subtree ops).ending
replay_ending format vocabulary tree uid gids subtree ops =
    let from : Format → Identity → Course → Said Course = λ form user course. bytes_said (in_format form vocabulary) course user 0 ops in
    closed_ending format (operations_report (in_format format vocabulary) tree uid gids subtree ops)
    (operations_report (in_format Lines vocabulary) tree uid gids subtree ops)
    (same_ending (user_read uid gids) (λ user. report_on (course_read subtree tree) (from format user))
    (λ user. report_on (course_read subtree tree) (from Lines user)) (λ user.
    same_ending (course_read subtree tree) (from format user) (from Lines user)
    (λ course. bytes_ending format vocabulary course user 0 ops)))
