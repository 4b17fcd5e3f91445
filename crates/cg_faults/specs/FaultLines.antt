-- The line of a fault: its words, and where in the tree's text or the operation lines it is. Own.
use Rattle.std.specs.Prelude.{ℕ, List, [], ◌++◌, codes, Option, Some, None}
use Rattle.std.specs.Fmt.{decimal}
use Rattle.cg_lines.specs.Outcomes.{spaced}
use Rattle.cg_format.specs.declared.fault.Place.{Place}
use Rattle.cg_format.specs.declared.fault.Place.TheVariants.{Top, Cgroup, Process}
use Rattle.cg_format.specs.declared.fault.TreeFault.{TreeFault}
use Rattle.cg_format.specs.declared.fault.TreeFault.TheVariants as tree
use Rattle.cg_lines.specs.declared.lines.fault.LineFault.{LineFault}
use Rattle.cg_lines.specs.declared.lines.fault.LineFault.TheVariants as lines
use Rattle.cg_model.specs.declared.fault.CheckFault.{CheckFault}
use Rattle.cg_model.specs.declared.fault.CheckFault.TheVariants as check
use Rattle.cg_faults.specs.declared.fault.CliFault.{CliFault}
use Rattle.cg_faults.specs.declared.fault.CliFault.TheVariants.{Uid, Gids, Pid, BadPath, Tree, Subtree, Line, TooManySteps, NoPair, Read, Write, NoMemory}

-- the words of a tree's fault, and its place
abbrev pub tree_fault_parts : TreeFault → List ℕ × Option Place
tree_fault_parts tree.TooLong = (codes "tree too-long", None)
tree_fault_parts tree.NotToml = (codes "tree not-toml", None)
tree_fault_parts (tree.Shape place) = (codes "tree shape", Some place)
tree_fault_parts tree.Format = (codes "tree format", None)
tree_fault_parts tree.TooMany = (codes "tree too-many", None)
tree_fault_parts (tree.BadController place) = (codes "tree bad-controller", Some place)
tree_fault_parts (tree.BadPath place) = (codes "tree bad-path", Some place)
tree_fault_parts (tree.BadEntry place) = (codes "tree bad-entry", Some place)
tree_fault_parts (tree.BadValue place) = (codes "tree bad-value", Some place)
tree_fault_parts (tree.Duplicate place) = (codes "tree duplicate", Some place)
tree_fault_parts tree.NoRoot = (codes "tree no-root", None)
tree_fault_parts (tree.NoParent place) = (codes "tree no-parent", Some place)
tree_fault_parts (tree.TopDown place) = (codes "tree top-down", Some place)
tree_fault_parts (tree.NoSuchFile place) = (codes "tree no-such-file", Some place)
tree_fault_parts (tree.BadPid place) = (codes "tree bad-pid", Some place)
tree_fault_parts (tree.DuplicatePid place) = (codes "tree duplicate-pid", Some place)
tree_fault_parts (tree.NoSuchPlace place) = (codes "tree no-such-place", Some place)
tree_fault_parts (tree.InternalProcess place) = (codes "tree internal-process", Some place)
tree_fault_parts tree.NoMemory = (codes "memory", None)

abbrev pub place_text : Option Place → List ℕ
place_text None = []
place_text (Some Top) = codes " top"
place_text (Some (Cgroup row)) = codes " cgroup " ++ decimal row
place_text (Some (Process row)) = codes " process " ++ decimal row

-- the line of words that say all
abbrev pub plain_line : List ℕ → List ℕ
plain_line words = codes "fault: " ++ words ++ codes "\n"

abbrev pub tree_fault_line : TreeFault → List ℕ
tree_fault_line fault = plain_line ((tree_fault_parts fault).0 ++ place_text (tree_fault_parts fault).1)

-- the line that names an operation line by its number, and says its fault in a word
abbrev pub numbered_line : ℕ → List ℕ → List ℕ
numbered_line number word = codes "fault: line " ++ spaced (decimal number) word ++ codes "\n"

-- out of memory is the call's, and names no line
abbrev pub operation_fault_line : ℕ → LineFault → List ℕ
operation_fault_line number lines.TooLong = numbered_line number (codes "too-long")
operation_fault_line number lines.BadWord = numbered_line number (codes "bad-word")
operation_fault_line number lines.Cut = numbered_line number (codes "cut")
operation_fault_line number lines.NoMemory = plain_line (codes "memory")

-- the words of a subtree's fault
abbrev pub subtree_words : CheckFault → List ℕ
subtree_words check.RootSubtree = codes "subtree root"
subtree_words check.NoSuchSubtree = codes "subtree missing"
subtree_words check.NoMemory = codes "memory"

abbrev pub fault_line : CliFault → List ℕ
fault_line Uid = plain_line (codes "uid")
fault_line Gids = plain_line (codes "gid")
fault_line Pid = plain_line (codes "pid")
fault_line BadPath = plain_line (codes "path")
fault_line (Tree fault) = tree_fault_line fault
fault_line (Subtree fault) = plain_line (subtree_words fault)
fault_line (Line number fault) = operation_fault_line number fault
fault_line TooManySteps = plain_line (codes "too-many-steps")
fault_line NoPair = plain_line (codes "no-pair")
fault_line Read = plain_line (codes "read")
fault_line Write = plain_line (codes "write")
fault_line NoMemory = plain_line (codes "memory")
