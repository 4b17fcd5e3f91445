-- The objects of answers have no float, and nest less deep than what is read may.
use Rattle.std.proofs.Common.{◌≡◌, ℕ, suc, ◌≤◌, ◌<◌, List, [], ◌∷◌, ◌++◌, map, take, codes, Bool, true, false, ◌||◌, Ordering, Less, Equal, Greater, refl, arith}
use Rattle.std.specs.Ordering.{match_ordering}
use Rattle.cg_cgroup.specs.Paths.{Names, path_text}
use Rattle.cg_cgroup.specs.Files.{file_name, other_name, entry_text}
use Rattle.cg_cgroup.specs.Identity.{Identity}
use Rattle.cg_cgroup.specs.declared.files.LimitFile.{LimitFile}
use Rattle.cg_cgroup.specs.declared.files.EntryName.{EntryName}
use Rattle.cg_cgroup.specs.declared.files.Limit.{Limit}
use Rattle.cg_cgroup.specs.declared.files.Limit.TheVariants.{Max, At}
use Rattle.cg_model.specs.GuardNames.{guard_name}
use Rattle.cg_model.specs.declared.changes.Change.{Change}
use Rattle.cg_model.specs.declared.guard.Guard.{Guard}
use Rattle.cg_model.specs.declared.guard.Guard.TheVariants.{CommonAncestor, LimitFile as OfLimitFile, ParentControl, ParentDir, AlreadyOver}
use Rattle.cg_model.specs.declared.guard.Failed.{Failed}
use Rattle.cg_model.specs.declared.operation.Op.{Op}
use Rattle.cg_model.specs.declared.operation.Op.TheVariants.{Move, Control, Mkdir, Rmdir, Set, SetOther, Fork, Exit, Chmod}
use Rattle.cg_model.specs.declared.answer.Answer.{Answer}
use Rattle.cg_model.specs.declared.answer.Answer.TheVariants.{Contained, Escapes, Unsettled}
use Rattle.cg_lines.specs.OperationLines.{change_word, mode_word}
use Rattle.serde_json.specs.Data.{Data, string, number, array, object, unsigned, Members, no_members, member, put, depth, members_depth}
use Rattle.serde_json.specs.Read.{max_depth}
use Rattle.serde_json.specs.View.{items_of}
use Rattle.serde_json.specs.Written.{has_float, members_have_float}
use Rattle.cg_json.specs.Members.{put_text, put_number, each_value, numbers_value}
use Rattle.cg_json.specs.Operations.{limit_value, words_value, of_path, of_process, of_entry, set_members, chmod_members, op_members, op_value, ops_value}
use Rattle.cg_json.specs.Answers.{put_limit_file, failed_members, answer_members}
use Rattle.cg_json.specs.Audits.{put_pair}

-- Nothing in it is a float, and it nests so deep at most.
pub record IsPlain (value : Data) (deep : ℕ) : Type 0 where
  pub exact : has_float value ≡ false
  pub within : depth value ≤ deep

pub record ArePlain (members : Members) (deep : ℕ) : Type 0 where
  pub exact : members_have_float members ≡ false
  pub within : members_depth members ≤ deep

pub both : (a b : Bool) → a ≡ false → b ≡ false → (a || b) ≡ false
both false b p q = q
both true b p q = p

left : (a b : Bool) → (a || b) ≡ false → a ≡ false
left false b p = refl
left true b p = p

right : (a b : Bool) → (a || b) ≡ false → b ≡ false
right false b p = p
right true b p = let never : ⊥ = cc in absurd never

one_of : (o : Ordering) (a b c : Members) → members_have_float a ≡ false → members_have_float b ≡ false → members_have_float c ≡ false
    → members_have_float (match_ordering o a b c) ≡ false
one_of Less a b c p q r = p
one_of Equal a b c p q r = q
one_of Greater a b c p q r = r

deepest_of : (o : Ordering) (a b c : Members) (n : ℕ) → members_depth a ≤ n → members_depth b ≤ n → members_depth c ≤ n
    → members_depth (match_ordering o a b c) ≤ n
deepest_of Less a b c n p q r = p
deepest_of Equal a b c n p q r = q
deepest_of Greater a b c n p q r = r

put_exact : (k : List ℕ) (d : Data) (ms : Members) → has_float d ≡ false → members_have_float ms ≡ false
    → members_have_float (put k d ms) ≡ false
put_exact k d no_members p q = both (has_float d) false p refl
put_exact k d (member l e ms) p q =
    let e_exact = left (has_float e) (members_have_float ms) q in
    let ms_exact = right (has_float e) (members_have_float ms) q in
    one_of _ (member k d (member l e ms)) (member l d ms) (member l e (put k d ms))
    (both (has_float d) (members_have_float (member l e ms)) p q)
    (both (has_float d) (members_have_float ms) p ms_exact)
    (both (has_float e) (members_have_float (put k d ms)) e_exact (put_exact k d ms p ms_exact))

put_within : (k : List ℕ) (d : Data) (ms : Members) (n : ℕ) → depth d ≤ n → members_depth ms ≤ n → members_depth (put k d ms) ≤ n
put_within k d no_members n p q = omega (arith, p)
put_within k d (member l e ms) n p q =
    deepest_of _ (member k d (member l e ms)) (member l d ms) (member l e (put k d ms)) n (omega (arith, p, q)) (omega (arith, p, q))
    (omega (arith, q, put_within k d ms n p (omega (arith, q))))

pub put_plain : (k : List ℕ) (d : Data) (ms : Members) (n : ℕ) → IsPlain d n → ArePlain ms n → ArePlain (put k d ms) n
put_plain k d ms n p q = record { exact = put_exact k d ms p.exact q.exact; within = put_within k d ms n p.within q.within }

pub text_plain : (text : List ℕ) (n : ℕ) → IsPlain (string text) n
text_plain text n = record { exact = refl; within = omega arith }

pub number_plain : (value n : ℕ) → IsPlain (number (unsigned value)) n
number_plain value n = record { exact = refl; within = omega arith }

pub none_plain : (n : ℕ) → ArePlain no_members n
none_plain n = record { exact = refl; within = omega arith }

pub object_plain : (ms : Members) (n : ℕ) → ArePlain ms n → IsPlain (object ms) (suc n)
object_plain ms n p = record { exact = p.exact; within = omega (arith, p.within) }

pub list_plain : {A : Type 0} (value : A → Data) (n : ℕ) (xs : List A) → ((x : A) → IsPlain (value x) n)
    → IsPlain (each_value value xs) (suc n)
list_plain value n [] every = record { exact = refl; within = omega arith }
list_plain value n (x ∷ xs) every =
    let rest = list_plain value n xs every in
    let first = every x in
    record {
      exact = both (has_float (value x)) (has_float (each_value value xs)) first.exact rest.exact;
      within = omega (arith, first.within, rest.within);
    }

-- one list behind another
pub lists_plain : {A B : Type 0} (value : A → Data) (other : B → Data) (n : ℕ) (xs : List A) (ys : List B) → ((x : A) → IsPlain (value x) n)
    → ((y : B) → IsPlain (other y) n) → IsPlain (array (items_of (map value xs ++ map other ys))) (suc n)
lists_plain value other n [] ys every all = list_plain other n ys all
lists_plain value other n (x ∷ xs) ys every all =
    let rest = lists_plain value other n xs ys every all in
    let first = every x in
    record {
      exact = both (has_float (value x)) (has_float (array (items_of (map value xs ++ map other ys)))) first.exact rest.exact;
      within = omega (arith, first.within, rest.within);
    }

pub limit_plain : (limit : Limit) (n : ℕ) → IsPlain (limit_value limit) n
limit_plain Max n = text_plain _ n
limit_plain (At value) n = number_plain value n

pub text_more : (k s : List ℕ) (ms : Members) (n : ℕ) → ArePlain ms n → ArePlain (put_text k s ms) n
text_more k s ms n p = put_plain k (string s) ms n (text_plain s n) p

pub number_more : (k : List ℕ) (value : ℕ) (ms : Members) (n : ℕ) → ArePlain ms n → ArePlain (put_number k value ms) n
number_more k value ms n p = put_plain k (number (unsigned value)) ms n (number_plain value n) p

path_plain : (word place : List ℕ) (n : ℕ) → ArePlain (of_path word place) n
path_plain word place n = text_more (codes "path") place _ n (text_more (codes "operation") word no_members n (none_plain n))

process_plain : (word : List ℕ) (pid n : ℕ) → ArePlain (of_process word pid) n
process_plain word pid n = number_more (codes "pid") pid _ n (text_more (codes "operation") word no_members n (none_plain n))

pub entry_plain : (word place entry : List ℕ) (n : ℕ) → ArePlain (of_entry word place entry) n
entry_plain word place entry n = text_more (codes "entry") entry _ n (path_plain word place n)

pub set_plain : (place : List ℕ) (file : LimitFile) (value : Limit) (n : ℕ) → ArePlain (set_members place file value) n
set_plain place file value n =
    put_plain (codes "value") (limit_value value) _ n (limit_plain value n) (entry_plain (codes "set") place (file_name file) n)

pub chmod_plain : (place : List ℕ) (entry : EntryName) (mode n : ℕ) → ArePlain (chmod_members place entry mode) n
chmod_plain place entry mode n =
    text_more (codes "mode") (mode_word mode) _ n (entry_plain (codes "chmod") place (entry_text entry) n)

words_plain : (changes : List Change) → IsPlain (words_value changes) 1
words_plain changes = list_plain (λ change. string (change_word change)) 0 changes (λ change. text_plain (change_word change) 0)

op_plain : (op : Op) → ArePlain (op_members op) 1
op_plain (Move pid to) = text_more (codes "path") (path_text to) _ 1 (process_plain (codes "move") pid 1)
op_plain (Control at changes) =
    put_plain (codes "changes") (words_value changes) _ 1 (words_plain changes) (path_plain (codes "control") (path_text at) 1)
op_plain (Mkdir path) = path_plain (codes "mkdir") (path_text path) 1
op_plain (Rmdir path) = path_plain (codes "rmdir") (path_text path) 1
op_plain (Set at file value) = set_plain (path_text at) file value 1
op_plain (SetOther at file value) =
    text_more (codes "value") value _ 1 (entry_plain (codes "set") (path_text at) (other_name file) 1)
op_plain (Fork parent child) = number_more (codes "child") child _ 1 (process_plain (codes "fork") parent 1)
op_plain (Exit pid) = process_plain (codes "exit") pid 1
op_plain (Chmod at entry mode) = chmod_plain (path_text at) entry mode 1

pub ops_plain : (ops : List Op) → IsPlain (ops_value ops) 3
ops_plain ops = list_plain op_value 2 ops (λ op. object_plain (op_members op) 1 (op_plain op))

limit_file_plain : (guard : Guard) (ms : Members) (n : ℕ) → ArePlain ms n → ArePlain (put_limit_file guard ms) n
limit_file_plain CommonAncestor ms n p = p
limit_file_plain (OfLimitFile entry) ms n p = text_more (codes "entry") (entry_text entry) ms n p
limit_file_plain ParentControl ms n p = p
limit_file_plain ParentDir ms n p = p
limit_file_plain AlreadyOver ms n p = p

answer_word_plain : (word : List ℕ) (n : ℕ) → ArePlain (put_text (codes "answer") word no_members) n
answer_word_plain word n = text_more (codes "answer") word no_members n (none_plain n)

pub failed_plain : (subtree : Names) (failed : Failed) → ArePlain (failed_members subtree failed) 3
failed_plain subtree failed =
    let at_guard = text_more (codes "guard") (guard_name failed.guard) _ 3 (answer_word_plain (codes "unsettled") 3) in
    limit_file_plain failed.guard _ 3 (text_more (codes "path") (path_text (take failed.len subtree)) _ 3 at_guard)

pub answer_plain : (subtree : Names) (answer : Answer) → ArePlain (answer_members subtree answer) 3
answer_plain subtree Contained = answer_word_plain (codes "contained") 3
answer_plain subtree (Escapes ops) =
    put_plain (codes "operations") (ops_value ops) _ 3 (ops_plain ops) (answer_word_plain (codes "escapes") 3)
answer_plain subtree (Unsettled failed) = failed_plain subtree failed

pub numbers_plain : (numbers : List ℕ) → IsPlain (numbers_value numbers) 1
numbers_plain numbers = list_plain (λ (each : ℕ). number (unsigned each)) 0 numbers (λ (each : ℕ). number_plain each 0)

pub deeper : (value : Data) (n m : ℕ) → n ≤ m → IsPlain value n → IsPlain value m
deeper value n m more p = record { exact = p.exact; within = omega (arith, more, p.within) }

pub pair_plain : (user : Identity) (subtree : Names) (ms : Members) → ArePlain ms 3 → ArePlain (put_pair user subtree ms) 3
pair_plain user subtree ms p =
    let gids = deeper (numbers_value user.gids) 1 3 (omega arith) (numbers_plain user.gids) in
    text_more (codes "subtree") (path_text subtree) _ 3
    (put_plain (codes "gids") (numbers_value user.gids) _ 3 gids (number_more (codes "uid") user.uid ms 3 p))

pub shallow : (ms : Members) (n : ℕ) → n ≤ 9 → ArePlain ms n → members_depth ms < max_depth
shallow ms n few p = omega (arith, few, p.within)
