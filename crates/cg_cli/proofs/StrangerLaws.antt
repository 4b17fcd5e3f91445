-- Users of whom a tree says nothing.
use Rattle.std.proofs.Common.{◌≡◌, ◌∙◌, ℕ, ◌+◌, ◌<◌, Bool, true, false, ◌||◌, ◌&&◌, nat_eq, cond, List, [], ◌∷◌, ◌++◌, length, take, get_or, map, Option, Result, Ok, Err}
use Rattle.std.proofs.Common.{refl, sym, ap, subst, append_assoc, append-nil, arith}
use Rattle.std.specs.Prelude.{IfOk, OnOk}
use Rattle.std.specs.BTreeSet.{contains}
use Rattle.std.specs.FinMap as finmap
use Rattle.std.specs.Cmp.{unsigned_tied}
use Rattle.std.specs.List.{list_any, flat_map}
use Rattle.std.specs.Ordering.{nat_cmp, eq_by_cmp}
use Rattle.std.proofs.lemmas.List.{take_more}
use Rattle.std.proofs.lemmas.List.Folds.{list_any-append}
use Rattle.std.proofs.lemmas.Grind.{flat_map-append}
use Rattle.cg_cgroup.specs.Identity.{Identity}
use Rattle.cg_cgroup.specs.Paths.{Names}
use Rattle.cg_cgroup.specs.Files.{all_files}
use Rattle.cg_cgroup.specs.Users.{owns, in_group, has_bit}
use Rattle.cg_cgroup.specs.declared.cgroup.Cgroup.{Cgroup}
use Rattle.cg_cgroup.specs.declared.told.ToldFiles.{ToldFiles}
use Rattle.cg_cgroup.specs.declared.user.Entry.{Entry}
use Rattle.cg_model.specs.Once.{once}
use Rattle.cg_model.specs.States.{State}
use Rattle.cg_format.specs.Readings.{Reading, IsReading}
use Rattle.cg_cli.specs.Arguments.{user_read}
use Rattle.cg_cli.specs.Asking.{read_in_turn, named_read, IsKeptOnce}
use Rattle.cg_cli.specs.Audits.{read_before, users_read, paths_read}
use Rattle.cg_cli.specs.Known.{AreOfEntries, AreAdded, speaks_of}
use Rattle.cg_cli.specs.May.{tree_read}
use Rattle.cg_cli.specs.Once.{same_user}
use Rattle.cg_cli.specs.Strangers.{file_entries, entries_of, told_entry, told_entries, tree_entries, all_owners, has_uid, has_gid, first_stranger, IsFirstStranger}
use Rattle.cg_cli.specs.declared.strangers.Known.{Known}
use Rattle.cg_cli.proofs.ReportLaws.{same_Ok}
use Rattle.cg_faults.specs.declared.fault.CliFault.{CliFault}

-- ---- what an answer says

on_answer : {P : Type 0} (result : Result ℕ CliFault) → P → IfOk result (λ _. P)
on_answer (Ok status) holds = holds
on_answer (Err fault) holds = tt

in_turn : {A B C : Type 0} (first : Result A CliFault) (second : Result B CliFault) (third : Result C CliFault) (a x : A) (b : B) (c z : C)
    → first ≡ Ok x → third ≡ Ok z → read_in_turn first second third ≡ Ok (a, b, c) → (a ≡ x) × (c ≡ z)
in_turn {A = A} {B = B} {C = C} (Ok first) (Ok second) (Ok third) a x b c z is_first is_third is =
    let all = same_Ok (first, second, third) (a, b, c) is in
    (sym (ap (λ (t : A × B × C). t.0) all) ∙ same_Ok first x is_first, sym (ap (λ (t : A × B × C). t.2) all) ∙ same_Ok third z is_third)
in_turn (Ok first) (Ok second) (Err fault) a x b c z is_first is_third is = let never : ⊥ = cc in absurd never
in_turn (Ok first) (Err fault) third a x b c z is_first is_third is = let never : ⊥ = cc in absurd never
in_turn (Err fault) second third a x b c z is_first is_third is = let never : ⊥ = cc in absurd never

pub stranger_said : (text : List ℕ) (given : List (ℕ × List ℕ)) (texts : List (List ℕ)) (users : List Identity) (subtrees : List Names)
    (st : State)
    → ((read : Reading) → IsReading text read → IsKeptOnce (named_read given texts read) users subtrees st)
    → (stranger : Option ℕ) → stranger ≡ first_stranger st users → (result : Result ℕ CliFault) → IsFirstStranger text given result stranger
stranger_said text given texts users subtrees st kept stranger is result =
    on_answer result (λ start who of_text of_who.
    let all = kept (Ok start) of_text in
    let same = in_turn (users_read given) (paths_read texts) (tree_read (Ok start)) all.all_users who all.all_subtrees st start of_who refl
    all.is in
    is ∙ (λ i. first_stranger (same.1 i) (all.of_users i)) ∙ ap (λ read. first_stranger start (once same_user read)) same.0)

-- of one user
pub alone_said : (text : List ℕ) (uid : ℕ) (gids : List ℕ) (user : Identity) (st : State) → user_read uid gids ≡ Ok user
    → ((read : Reading) → IsReading text read → read ≡ Ok st)
    → (stranger : Option ℕ) → stranger ≡ first_stranger st (user ∷ []) → (result : Result ℕ CliFault)
    → IsFirstStranger text ((uid, gids) ∷ []) result stranger
alone_said text uid gids user st is_user reads stranger is result =
    on_answer result (λ start who of_text of_who.
    let read : Ok (user ∷ []) ≡ Ok who = sym (ap (λ one. read_before one (Ok [])) is_user) ∙ of_who in
    let same : user ∷ [] ≡ who = cc in
    let started : Ok start ≡ Ok st = reads (Ok start) of_text in
    let begun : st ≡ start = cc in
    is ∙ (λ i. first_stranger (begun i) (once same_user (same i))))

-- ---- the uids and gids of a tree

pub added_both : (before between after : Known) (more others : List Entry) → AreAdded before between more → AreAdded between after others
    → AreAdded before after (more ++ others)
added_both before between after more others first second entries of =
    subst (λ all. AreOfEntries after all []) (append_assoc entries more others) (second (entries ++ more) (first entries of))

pub on_ok : {X E P Q : Type 0} (result : Result X E) → OnOk result P → (P → Q) → OnOk result Q
on_ok (Ok x) holds further = further holds
on_ok (Err fault) holds further = tt

-- ---- an entry

-- Unsigned numbers that compare as equal are the same.
turned : (x y : ℕ) → eq_by_cmp nat_cmp x y ≡ nat_eq x y
turned x y = unsigned_tied x y

chosen : (a b : Bool) → cond a true b ≡ b || a
chosen true true = refl
chosen true false = refl
chosen false true = refl
chosen false false = refl

or_assoc : (a b c : Bool) → (a || b) || c ≡ a || (b || c)
or_assoc true b c = refl
or_assoc false b c = refl

or_false : (a : Bool) → a || false ≡ a
or_false true = refl
or_false false = refl

and_true : (a : Bool) → a && true ≡ a
and_true true = refl
and_true false = refl

and_false : (a : Bool) → a && false ≡ false
and_false true = refl
and_false false = refl

-- ---- step by step

pub flat_more : {A B : Type 0} (f : A → List B) (xs : List A) (i : ℕ) (x d : A) → i < length xs → x ≡ get_or xs i d
    → flat_map f (take (i + 1) xs) ≡ flat_map f (take i xs) ++ f x
flat_more f xs i x d within at =
    ap (flat_map f) (take_more xs i d within) ∙ flat_map-append f (take i xs) _
    ∙ ap (λ more. flat_map f (take i xs) ++ more) (append-nil (f (get_or xs i d)) ∙ ap f (sym at))

pub added_more : {A : Type 0} (f : A → List Entry) (xs : List A) (i : ℕ) (x d : A) → i < length xs → x ≡ get_or xs i d
    → (before between after : Known) → AreAdded before between (flat_map f (take i xs)) → AreAdded between after (f x)
    → AreAdded before after (flat_map f (take (i + 1) xs))
added_more f xs i x d within at before between after first second =
    subst (AreAdded before after) (sym (flat_more f xs i x d within at)) (added_both before between after _ _ first second)

-- ---- the owners of processes

-- what is known, and what is still to come
pub record AreLeft {Live : Type 0} (owner : Live → ℕ) (known : Known) (entries : List Entry) (owners : List ℕ) (left : List Live)
    : Type 0 where
  pub uids : (uid : ℕ) → contains nat_cmp known.uids uid || list_any (λ row. nat_eq (owner row) uid) left ≡ has_uid entries owners uid
  pub gids : (gid : ℕ) → contains nat_cmp known.gids gid ≡ has_gid entries gid

any_owner : {Live : Type 0} (owner : Live → ℕ) (left : List Live) (uid : ℕ)
    → list_any (λ row. nat_eq (owner row) uid) left ≡ list_any (λ one. nat_eq one uid) (map owner left)
any_owner owner [] uid = refl
any_owner owner (row ∷ left) uid = ap (λ rest. nat_eq (owner row) uid || rest) (any_owner owner left uid)

pub left_all : {Live : Type 0} (owner : Live → ℕ) (known : Known) (entries : List Entry) (live left : List Live)
    → AreOfEntries known entries [] → left ≡ live → AreLeft owner known entries (map owner live) left
left_all owner known entries live left of is = record {
  uids =
      λ uid. (λ i. (of.uids uid ∙ or_false (list_any (λ entry. nat_eq entry.uid uid) entries)) i
      || list_any (λ row. nat_eq (owner row) uid) (is i))
      ∙ ap (λ rest. list_any (λ entry. nat_eq entry.uid uid) entries || rest) (any_owner owner live uid);
  gids = of.gids;
}

pub left_less : {Live : Type 0} (owner : Live → ℕ) (known more : Known) (entries : List Entry) (owners : List ℕ) (left rest : List Live)
    (row : Live)
    → left ≡ row ∷ rest → AreLeft owner known entries owners left
    → ((uid : ℕ) → contains nat_cmp more.uids uid ≡ cond (eq_by_cmp nat_cmp (owner row) uid) true (contains nat_cmp known.uids uid))
    → more.gids ≡ known.gids → AreLeft owner more entries owners rest
left_less owner known more entries owners left rest row is of added same = record {
  uids =
      λ uid. let others = list_any (λ one. nat_eq (owner one) uid) rest in
      ap (λ has. has || others) (added uid ∙ ap (λ b. cond b true (contains nat_cmp known.uids uid)) (turned (owner row) uid)
      ∙ chosen (nat_eq (owner row) uid) (contains nat_cmp known.uids uid))
      ∙ or_assoc (contains nat_cmp known.uids uid) (nat_eq (owner row) uid) others
      ∙ ap (λ all. contains nat_cmp known.uids uid || list_any (λ one. nat_eq (owner one) uid) all) (sym is) ∙ of.uids uid;
  gids = λ gid. ap (λ gids. contains nat_cmp gids gid) same ∙ of.gids gid;
}

pub left_none : {Live : Type 0} (owner : Live → ℕ) (known : Known) (entries : List Entry) (owners : List ℕ) (left : List Live) → left ≡ []
    → AreLeft owner known entries owners left → AreOfEntries known entries owners
left_none owner known entries owners left none of = record {
  uids =
      λ uid. sym (ap (λ rest. contains nat_cmp known.uids uid || list_any (λ row. nat_eq (owner row) uid) rest) none
      ∙ or_false (contains nat_cmp known.uids uid)) ∙ of.uids uid;
  gids = of.gids;
}

-- ---- what speaks of one user

-- either of two, of which the first is asked first
pub by_first : (a b whole first : Bool) → a || b ≡ whole → first ≡ a → first ≡ true → first ≡ whole
by_first a b whole first is same holds = holds ∙ ap (λ x. x || b) (sym holds ∙ same) ∙ is

pub by_second : (a b whole first second : Bool) → a || b ≡ whole → first ≡ a → first ≡ false → second ≡ b → second ≡ whole
by_second a b whole first second is same fails others = others ∙ ap (λ x. x || b) (sym fails ∙ same) ∙ is

swapped : (x y : ℕ) → nat_eq x y ≡ nat_eq y x
swapped x y = grind arith

-- two pairs of which one holds
paired : (a b c d : Bool) → (a || b) || (c || d) ≡ (a || c) || (b || d)
paired true b c d = refl
paired false true true d = refl
paired false true false d = refl
paired false false c d = refl

last_second : (a b c : Bool) → (a || b) || c ≡ (a || c) || b
last_second true b c = refl
last_second false true true = refl
last_second false true false = refl
last_second false false true = refl
last_second false false false = refl

any_flat : {A B : Type 0} (test : B → Bool) (f : A → List B) (xs : List A)
    → list_any test (flat_map f xs) ≡ list_any (λ x. list_any test (f x)) xs
any_flat test f [] = refl
any_flat test f (x ∷ xs) = list_any-append test (f x) (flat_map f xs) ∙ ap (λ rest. list_any test (f x) || rest) (any_flat test f xs)

-- of a cgroup the entries that each has, and its limit files
pub in_cgroup : (cgroup : Cgroup) (user : Identity)
    → (speaks_of user cgroup.dir || speaks_of user cgroup.procs || speaks_of user cgroup.subtree_control)
    || list_any (λ file. list_any (speaks_of user) (file_entries cgroup file)) all_files ≡ list_any (speaks_of user) (entries_of cgroup)
in_cgroup cgroup user =
    in_turn_of (speaks_of user cgroup.dir) (speaks_of user cgroup.procs) (speaks_of user cgroup.subtree_control)
    (list_any (λ file. list_any (speaks_of user) (file_entries cgroup file)) all_files)
    ∙ ap (λ files. speaks_of user cgroup.dir || (speaks_of user cgroup.procs || (speaks_of user cgroup.subtree_control || files)))
    (sym (any_flat (speaks_of user) (file_entries cgroup) all_files))
  where
    in_turn_of : (a b c d : Bool) → (a || b || c) || d ≡ a || (b || (c || d))
    in_turn_of true b c d = refl
    in_turn_of false true c d = refl
    in_turn_of false false c d = refl

-- one of some gids writes an entry as its group, or one of the entries behind it
gids_more : (entry : Entry) (entries : List Entry) (gids : List ℕ)
    → list_any (has_gid (entry ∷ entries)) gids
    ≡ has_bit entry.mode 16 && list_any (λ own. nat_eq own entry.gid) gids || list_any (has_gid entries) gids
gids_more entry entries gids = by_bit (has_bit entry.mode 16) gids
  where
    by_bit : (bit : Bool) (gids : List ℕ)
        → list_any (λ gid. nat_eq entry.gid gid && bit || has_gid entries gid) gids
        ≡ bit && list_any (λ own. nat_eq own entry.gid) gids || list_any (has_gid entries) gids
    by_bit true [] = refl
    by_bit false [] = refl
    by_bit true (gid ∷ gids) =
        let groups = list_any (λ own. nat_eq own entry.gid) gids in
        let others = list_any (has_gid entries) gids in
        (λ i. (and_true (nat_eq entry.gid gid) i || has_gid entries gid) || by_bit true gids i)
        ∙ paired (nat_eq entry.gid gid) (has_gid entries gid) groups others
        ∙ ap (λ is. (is || groups) || (has_gid entries gid || others)) (swapped entry.gid gid)
    by_bit false (gid ∷ gids) = (λ i. (and_false (nat_eq entry.gid gid) i || has_gid entries gid) || by_bit false gids i)

-- Some entries speak of a user where their uid owns one of them or one of their gids writes one.
in_entries : (user : Identity) (entries : List Entry)
    → list_any (speaks_of user) entries ≡ list_any (λ entry. nat_eq entry.uid user.uid) entries || list_any (has_gid entries) user.gids
in_entries user [] = none user.gids
  where
    none : (gids : List ℕ) → false ≡ list_any (has_gid []) gids
    none [] = refl
    none (gid ∷ gids) = none gids
in_entries user (entry ∷ entries) =
    let owned = list_any (λ one. nat_eq one.uid user.uid) entries in
    ap (λ rest. speaks_of user entry || rest) (in_entries user entries)
    ∙ paired (owns user entry) (has_bit entry.mode 16 && in_group user entry.gid) owned (list_any (has_gid entries) user.gids)
    ∙ ap (λ groups. (owns user entry || owned) || groups) (sym (gids_more entry entries user.gids))

-- what is told of a cgroup's limit files beyond `LimitFile`
pub in_told : (files : ToldFiles) (user : Identity)
    → list_any (λ told. list_any (speaks_of user) (told_entry told)) files.entries ≡ list_any (speaks_of user) (told_entries files)
in_told files user = sym (any_flat (speaks_of user) told_entry files.entries)

-- the entries of a tree are those of its cgroups, and those of what is told
pub in_all : (st : State) (user : Identity)
    → list_any (λ row. list_any (speaks_of user) (entries_of row.1)) (finmap.entries st.rows)
    || list_any (λ row. list_any (speaks_of user) (told_entries row.1)) (finmap.entries st.told)
    ≡ list_any (speaks_of user) (tree_entries st)
in_all st user =
    (λ i. sym (any_flat (speaks_of user) (λ row. entries_of row.1) (finmap.entries st.rows)) i
    || sym (any_flat (speaks_of user) (λ row. told_entries row.1) (finmap.entries st.told)) i)
    ∙ sym (list_any-append (speaks_of user) (flat_map (λ row. entries_of row.1) (finmap.entries st.rows))
    (flat_map (λ row. told_entries row.1) (finmap.entries st.told)))

-- A tree says something of a user where one of its entries or one of its processes does.
pub in_tree : (st : State) (user : Identity)
    → list_any (speaks_of user) (tree_entries st) || list_any (λ row. nat_eq row.1.uid user.uid) (finmap.entries st.live)
    ≡ has_uid (tree_entries st) (all_owners st) user.uid || list_any (has_gid (tree_entries st)) user.gids
in_tree st user =
    (λ i. in_entries user (tree_entries st) i || any_owner (λ row. row.1.uid) (finmap.entries st.live) user.uid i)
    ∙ last_second (list_any (λ entry. nat_eq entry.uid user.uid) (tree_entries st)) (list_any (has_gid (tree_entries st)) user.gids)
    (list_any (λ owner. nat_eq owner user.uid) (all_owners st))
