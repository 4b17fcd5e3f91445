-- The JSON object of a verdict, with the words of its line. Own.
use Rattle.std.specs.Prelude.{codes}
use Rattle.cg_model.specs.declared.verdict.Clause.{Clause}
use Rattle.cg_model.specs.declared.verdict.Clause.TheVariants.{Gone, Crossed, Limits, Descendants, Depth}
use Rattle.cg_model.specs.declared.verdict.Verdict.{Verdict}
use Rattle.cg_model.specs.declared.verdict.Verdict.TheVariants.{Kept, Broken}
use Rattle.serde_json.specs.Data.{Data, object, Members, no_members}
use Rattle.cg_json.specs.Members.{put_text, put_number}

-- what was broken, and by which process, where it is one that crossed
abbrev pub put_clause : Clause → Members → Members
put_clause Gone members = put_text (codes "what") (codes "gone") members
put_clause (Crossed pid) members = put_number (codes "pid") pid (put_text (codes "what") (codes "crossed") members)
put_clause Limits members = put_text (codes "what") (codes "limits") members
put_clause Descendants members = put_text (codes "what") (codes "descendants") members
put_clause Depth members = put_text (codes "what") (codes "depth") members

abbrev pub verdict_members : Verdict → Members
verdict_members Kept = put_text (codes "answer") (codes "kept") no_members
verdict_members (Broken steps clause) =
    put_clause clause (put_number (codes "after") steps (put_text (codes "answer") (codes "broken") no_members))

abbrev pub verdict_value : Verdict → Data
verdict_value verdict = object (verdict_members verdict)
