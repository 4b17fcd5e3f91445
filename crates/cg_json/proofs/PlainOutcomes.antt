-- The same of the objects of outcomes.
use Rattle.std.proofs.Common.{ℕ, List, take, codes, Option, Some, None}
use Rattle.cg_cgroup.specs.Paths.{Names, path_text}
use Rattle.cg_cgroup.specs.Files.{controller_name, file_name, entry_text}
use Rattle.cg_lines.specs.Outcomes.{path_of}
use Rattle.cg_model.specs.declared.operation.Op.{Op}
use Rattle.cg_model.specs.declared.outcome.Refusal.{Refusal}
use Rattle.cg_model.specs.declared.outcome.Refusal.TheVariants.{NoSuchCgroup, NoAccess, NoSuchProcess, InternalProcess, NotAvailable, ChildUses, Exists, DescendantLimit, DepthLimit, RootCgroup, HasChildren, HasProcesses, NoSuchFile, BadValue, NotYours, PidUsed, NotOwner}
use Rattle.cg_model.specs.declared.outcome.Outcome.{Outcome}
use Rattle.cg_model.specs.declared.outcome.Outcome.TheVariants.{Done, Refused}
use Rattle.serde_json.specs.Data.{Members, no_members}
use Rattle.cg_json.specs.Members.{put_text}
use Rattle.cg_json.specs.Outcomes.{refusal_word, put_place, put_entry, put_named, refused_members, outcome_members, permission_members}
use Rattle.cg_json.proofs.Plain.{ArePlain, text_more, number_more, none_plain}

module _ (n : ℕ) (ms : Members) (p : ArePlain ms n) where
  place_more : (place : List ℕ) → ArePlain (put_place place ms) n
  place_more place = text_more (codes "path") place ms n p

  entry_more : (place entry : List ℕ) → ArePlain (put_entry place entry ms) n
  entry_more place entry = text_more (codes "entry") entry (put_place place ms) n (place_more place)

  named_plain : (path : Names) (refusal : Refusal) → ArePlain (put_named path refusal ms) n
  named_plain path (NoSuchCgroup len) = place_more (path_text (take len path))
  named_plain path (NoAccess len entry) = entry_more (path_text (take len path)) (entry_text entry)
  named_plain path (NoSuchProcess pid) = number_more (codes "pid") pid ms n p
  named_plain path (InternalProcess len) = place_more (path_text (take len path))
  named_plain path (NotAvailable controller) = text_more (codes "controller") (controller_name controller) ms n p
  named_plain path (ChildUses controller) = text_more (codes "controller") (controller_name controller) ms n p
  named_plain path Exists = place_more (path_text path)
  named_plain path (DescendantLimit len) = place_more (path_text (take len path))
  named_plain path (DepthLimit len) = place_more (path_text (take len path))
  named_plain path RootCgroup = p
  named_plain path HasChildren = place_more (path_text path)
  named_plain path HasProcesses = place_more (path_text path)
  named_plain path (NoSuchFile entry) = entry_more (path_text path) (entry_text entry)
  named_plain path (BadValue file) = text_more (codes "entry") (file_name file) ms n p
  named_plain path (NotYours pid) = number_more (codes "pid") pid ms n p
  named_plain path (PidUsed pid) = number_more (codes "pid") pid ms n p
  named_plain path (NotOwner entry) = entry_more (path_text path) (entry_text entry)

word_plain : (word : List ℕ) (n : ℕ) → ArePlain (put_text (codes "answer") word no_members) n
word_plain word n = text_more (codes "answer") word no_members n (none_plain n)

refused_plain : (path : Names) (refusal : Refusal) (n : ℕ) → ArePlain (refused_members path refusal) n
refused_plain path refusal n =
    named_plain n _ (text_more (codes "refusal") (refusal_word refusal) _ n (word_plain (codes "refused") n)) path refusal

pub outcome_plain : (op : Op) (outcome : Outcome) (n : ℕ) → ArePlain (outcome_members op outcome) n
outcome_plain op Done n = word_plain (codes "ok") n
outcome_plain op (Refused refusal) n = refused_plain (path_of op) refusal n

pub permission_plain : (op : Op) (bar : Option Refusal) (n : ℕ) → ArePlain (permission_members op bar) n
permission_plain op None n = word_plain (codes "granted") n
permission_plain op (Some bar) n = refused_plain (path_of op) bar n
