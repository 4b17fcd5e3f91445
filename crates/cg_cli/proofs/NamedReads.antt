-- What an audit reads before it asks: users, subtrees and a tree, or the first fault.
use Rattle.std.proofs.Common.{◌≡◌, ◌≢◌, ℕ, Bool, true, false, cond, nat_eq, List, [], ◌∷◌, Option, Some, None, Result, Ok, Err, inl, inr, refl}
use Rattle.std.specs.Option.{ok_or}
use Rattle.std.proofs.Common.{ap, sym, ◌∙◌, subst}
use Rattle.cg_cgroup.specs.Paths.{Names, path_at}
use Rattle.cg_cgroup.specs.Users.{user_of}
use Rattle.cg_cgroup.specs.Identity.{Identity}
use Rattle.cg_model.specs.States.{State}
use Rattle.cg_format.specs.Readings.{Reading}
use Rattle.cg_format.specs.declared.fault.TreeFault.{TreeFault}
use Rattle.cg_format.specs.declared.fault.TreeFault.TheVariants.{NoMemory as TreeNoMemory}
use Rattle.cg_cli.specs.Arguments.{user_read, path_read}
use Rattle.cg_cli.specs.Asking.{read_in_turn, named_read, read_takes_memory, IsMet, IsKeptOnce, CallEnding, ReadReports, NamedReports}
use Rattle.cg_cli.specs.Audits.{read_before, each_read, users_read, paths_read}
use Rattle.cg_faults.specs.Faults.{lifted}
use Rattle.cg_cli.specs.May.{tree_read}
use Rattle.cg_cli.specs.Reports.{takes_memory}
use Rattle.cg_faults.specs.declared.fault.CliFault.{CliFault}
use Rattle.cg_faults.specs.declared.fault.CliFault.TheVariants.{Uid, Gids, BadPath, Write, NoMemory}
use Rattle.cg_cli.proofs.ReportLaws.{tree_takes, tree_met}

-- ---- the faults of words

before_fault : {A : Type 0} (P : CliFault → Type 0) (x : Result A CliFault) (xs : Result (List A) CliFault) (fault : CliFault)
    → (x ≡ Err fault → P fault) → (xs ≡ Err fault → P fault) → read_before x xs ≡ Err fault → P fault
before_fault P (Ok x) (Ok xs) fault of_first of_rest is = let never : ⊥ = cc in absurd never
before_fault P (Ok x) (Err other) fault of_first of_rest is = of_rest is
before_fault P (Err other) xs fault of_first of_rest is = let same : other ≡ fault = cc in of_first (ap Err same)

each_fault : {A B : Type 0} (P : CliFault → Type 0) (read : A → Result B CliFault)
    → ((x : A) (fault : CliFault) → read x ≡ Err fault → P fault) → (xs : List A) (fault : CliFault) → each_read read xs ≡ Err fault
    → P fault
each_fault P read each [] fault is = let never : ⊥ = cc in absurd never
each_fault P read each (x ∷ xs) fault is =
    before_fault P (read x) (each_read read xs) fault (each x fault) (each_fault P read each xs fault) is

ok_or_is : {A : Type 0} (found : Option A) (stated fault : CliFault) → ok_or found stated ≡ Err fault → fault ≡ stated
ok_or_is None stated fault is = cc
ok_or_is (Some x) stated fault is = let never : ⊥ = cc in absurd never

user_fault : (root : Bool) (found : Option Identity) (fault : CliFault) → cond root (Err Uid) (ok_or found Gids) ≡ Err fault
    → fault ≢ Write
user_fault true found fault is = λ same. cc
user_fault false None fault is = λ same. cc
user_fault false (Some who) fault is = let never : ⊥ = cc in absurd never

users_fault : (given : List (ℕ × List ℕ)) (fault : CliFault) → users_read given ≡ Err fault → fault ≢ Write
users_fault given fault is =
    each_fault (λ f. f ≢ Write) (λ ids. user_read ids.0 ids.1) (λ ids f. user_fault (nat_eq ids.0 0) (user_of ids.0 ids.1) f) given fault is

paths_fault : (texts : List (List ℕ)) (fault : CliFault) → paths_read texts ≡ Err fault → fault ≡ BadPath
paths_fault texts fault is = each_fault (λ f. f ≡ BadPath) path_read (λ text f. ok_or_is (path_at text) BadPath f) texts fault is

takes_by_faults : {A : Type 0} (read : Result A CliFault) → ((fault : CliFault) → read ≡ Err fault → takes_memory (Err fault) ≡ true)
    → read_takes_memory read ≡ true
takes_by_faults (Ok x) faults = refl
takes_by_faults (Err fault) faults = faults fault refl

paths_take : (texts : List (List ℕ)) → read_takes_memory (paths_read texts) ≡ true
paths_take texts = takes_by_faults (paths_read texts) (λ fault is. ap (λ f. takes_memory (Err f)) (paths_fault texts fault is))

-- ---- three things, one after another

all_take : {A B C : Type 0} (first : Result A CliFault) (second : Result B CliFault) (third : Result C CliFault)
    → read_takes_memory first ≡ true
    → read_takes_memory second ≡ true → read_takes_memory third ≡ true → read_takes_memory (read_in_turn first second third) ≡ true
all_take (Ok x) (Ok y) (Ok z) one two three = refl
all_take (Ok x) (Ok y) (Err fault) one two three = three
all_take (Ok x) (Err fault) third one two three = two
all_take (Err fault) second third one two three = one

-- what follows on three things that are read one after another follows on all of them
pub regrouped : {A B C R : Type 0} (follows : (X : Type 0) → Result X CliFault → (X → R) → R) (ends : CliFault → R)
    → ((X : Type 0) (x : X) (next : X → R) → follows X (Ok x) next ≡ next x)
    → ((X : Type 0) (fault : CliFault) (next : X → R) → follows X (Err fault) next ≡ ends fault)
    → (next : A → B → C → R) (first : Result A CliFault) (second : Result B CliFault) (third : Result C CliFault)
    → follows A first (λ x. follows B second (λ y. follows C third (λ z. next x y z)))
    ≡ follows (A × B × C) (read_in_turn first second third) (λ all. next all.0 all.1 all.2)
regrouped follows ends goes stops next (Ok x) (Ok y) (Ok z) = goes _ x _ ∙ goes _ y _ ∙ goes _ z _ ∙ sym (goes _ (x, y, z) _)
regrouped follows ends goes stops next (Ok x) (Ok y) (Err fault) = goes _ x _ ∙ goes _ y _ ∙ stops _ fault _ ∙ sym (stops _ fault _)
regrouped follows ends goes stops next (Ok x) (Err fault) third = goes _ x _ ∙ stops _ fault _ ∙ sym (stops _ fault _)
regrouped follows ends goes stops next (Err fault) second third = stops _ fault _ ∙ sym (stops _ fault _)

met : {A : Type 0} (read : Result A CliFault) (fault : CliFault) → fault ≢ Write → (fault ≢ NoMemory → read ≡ Err fault)
    → (fault ≡ NoMemory → read_takes_memory read ≡ true) → IsMet read fault
met read Write other stated takes = absurd (other refl)
met read NoMemory other stated takes = takes refl
met read fault other stated takes = stated (λ same. cc)

module _ (given : List (ℕ × List ℕ)) (texts : List (List ℕ)) (tree : Reading) where
  pub users_met : (fault : CliFault) → (fault ≢ NoMemory → users_read given ≡ Err fault)
      → ((other : CliFault) → users_read given ≡ Err other → fault ≡ other) → IsMet (named_read given texts tree) fault
  users_met fault stated first =
      met (named_read given texts tree) fault (λ write. users_fault given fault (stated (λ same. cc)) write)
      (λ other. ap (λ u. read_in_turn u (paths_read texts) (tree_read tree)) (stated other))
      (λ same. all_take (users_read given) (paths_read texts) (tree_read tree)
      (takes_by_faults (users_read given) (λ other is. ap (λ f. takes_memory (Err f)) (sym (first other is) ∙ same)))
      (paths_take texts) (tree_takes tree))

  module _ (users : List Identity) (of_users : users_read given ≡ Ok users) where
    pub paths_met : (fault : CliFault) → (fault ≢ NoMemory → paths_read texts ≡ Err fault) → IsMet (named_read given texts tree) fault
    paths_met fault stated =
        met (named_read given texts tree) fault (λ write. let named : fault ≡ BadPath = paths_fault texts fault (stated (λ same. cc)) in cc)
        (λ other. ap (λ u. read_in_turn u (paths_read texts) (tree_read tree)) of_users
        ∙ ap (λ p. read_in_turn (Ok users) p (tree_read tree)) (stated other))
        (λ same. all_take (users_read given) (paths_read texts) (tree_read tree) (ap read_takes_memory of_users) (paths_take texts)
        (tree_takes tree))

    module _ (subtrees : List Names) (of_paths : paths_read texts ≡ Ok subtrees) where
      by_tree : (read : Result State CliFault)
          → read_in_turn (users_read given) (paths_read texts) read ≡ read_in_turn (Ok users) (Ok subtrees) read
      by_tree read = ap (λ u. read_in_turn u (paths_read texts) read) of_users ∙ ap (λ p. read_in_turn (Ok users) p read) of_paths

      text_met : (fault : CliFault) → IsMet (tree_read tree) fault → IsMet (read_in_turn (Ok users) (Ok subtrees) (tree_read tree)) fault
      text_met Write never = never
      text_met NoMemory takes = all_take (Ok users) (Ok subtrees) (tree_read tree) refl refl takes
      text_met fault is = ap (read_in_turn (Ok users) (Ok subtrees)) is

      pub tree_fault_met : (fault : TreeFault) → (fault ≢ TreeNoMemory → tree ≡ Err fault)
          → IsMet (named_read given texts tree) (lifted fault)
      tree_fault_met fault stated =
          subst (λ read. IsMet read (lifted fault)) (sym (by_tree (tree_read tree))) (text_met (lifted fault) (tree_met tree fault stated))

      pub all_are : (st : State) → tree ≡ Ok st → named_read given texts tree ≡ Ok (users, subtrees, st)
      all_are st of_text = by_tree (tree_read tree) ∙ ap (λ t. read_in_turn (Ok users) (Ok subtrees) (tree_read t)) of_text

-- What holds of a call that reads and then answers, by how its reading ended.
pub by_read : (read : Result (List Identity × List Names × State) CliFault) (Kept : List Identity → List Names → State → Type 0)
    (answers : State → List Identity → List Names → CallEnding) (P : CallEnding)
    → ((fault : CliFault) → IsMet read fault → (known : Option (List ℕ)) → P known known (Err fault))
    → ((users : List Identity) (subtrees : List Names) (st : State) → Kept users subtrees st
    → (old new : Option (List ℕ)) (result : Result ℕ CliFault) → answers st users subtrees old new result → P old new result)
    → (old new : Option (List ℕ)) (result : Result ℕ CliFault) → ReadReports read Kept answers old new result → P old new result
by_read read Kept answers P of_fault of_answer old new result (inl met) =
    subst (λ r. P old new r) (sym met.2) (subst (λ n. P old n (Err met.0)) (sym met.3) (of_fault met.0 met.1 old))
by_read read Kept answers P of_fault of_answer old new result (inr asked) =
    of_answer asked.0 asked.1 asked.2 asked.3 old new result asked.4

-- and where who and what is named again counts once
pub by_reading : (answers : State → List Identity → List Names → CallEnding)
    (tree : Reading) (given : List (ℕ × List ℕ)) (texts : List (List ℕ)) (P : CallEnding)
    → ((fault : CliFault) → IsMet (named_read given texts tree) fault → (known : Option (List ℕ)) → P known known (Err fault))
    → ((users : List Identity) (subtrees : List Names) (st : State) → IsKeptOnce (named_read given texts tree) users subtrees st
    → (old new : Option (List ℕ)) (result : Result ℕ CliFault) → answers st users subtrees old new result → P old new result)
    → (old new : Option (List ℕ)) (result : Result ℕ CliFault) → NamedReports answers tree given texts old new result → P old new result
by_reading answers tree given texts P =
    by_read (named_read given texts tree) (IsKeptOnce (named_read given texts tree)) answers P

-- the same lists by other names
pub kept_as : {read : Result (List Identity × List Names × State) CliFault} {users others : List Identity}
    {subtrees ways : List Names} {st : State}
    → IsKeptOnce read users subtrees st → others ≡ users → ways ≡ subtrees → IsKeptOnce read others ways st
kept_as kept same_users same_subtrees = record {
  all_users = kept.all_users;
  all_subtrees = kept.all_subtrees;
  is = kept.is;
  of_users = same_users ∙ kept.of_users;
  of_subtrees = same_subtrees ∙ kept.of_subtrees;
}
