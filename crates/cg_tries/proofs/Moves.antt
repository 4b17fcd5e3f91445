-- The first move over the edge that breaks: it depends on the process only by where it is.
use Rattle.std.proofs.Common.{◌≡◌, ℕ, Bool, true, false, cond, not, ◌&&◌, ◌||◌, List, [], ◌∷◌, ◌++◌, length, map, filter, find, Option, Some, None, is_some, option_map, option_and_then, refl, sym, ap, ◌∙◌, true≢false}
use Rattle.std.specs.Option.{option_or}
use Rattle.std.specs.List.{flat_map}
use Rattle.std.specs.Cmp.Lexicographic.{bytes_decides}
use Rattle.std.proofs.lemmas.Bool.{and_parts}
use Rattle.std.proofs.Math.Bool.{and-true, and-false}
use Rattle.std.proofs.lemmas.List.Folds.{find-append}
use Rattle.cg_cgroup.specs.Paths.{Name, Names, inside, common, is_root, same_name}
use Rattle.cg_cgroup.specs.Identity.{Identity}
use Rattle.cg_cgroup.specs.Users.{writes}
use Rattle.cg_cgroup.specs.Files.{enables_nothing}
use Rattle.cg_cgroup.specs.declared.cgroup.Cgroup.{Cgroup}
use Rattle.cg_cgroup.specs.declared.files.EntryName.TheVariants.{Procs}
use Rattle.cg_cgroup.proofs.PathLaws.{common_comm}
use Rattle.cg_model.specs.States.{State, row_at, place_at, paths_of, pids_of}
use Rattle.cg_model.specs.Clauses.{unless, absent, present, first}
use Rattle.cg_model.specs.Bars.{passes}
use Rattle.cg_model.specs.declared.operation.Op.TheVariants.{Move}
use Rattle.cg_model.specs.declared.outcome.Refusal.{Refusal}
use Rattle.cg_model.specs.declared.outcome.Refusal.TheVariants.{NoSuchCgroup, NoAccess, NoSuchProcess, InternalProcess}
use Rattle.cg_model.specs.Tries.{across, move_tries}
use Rattle.cg_model.specs.Escapes.{breaks}
use Rattle.cg_tries.specs.Escapes.{IsUnbroken}
use Rattle.cg_ops.specs.Moves.{passes_at}
use Rattle.cg_model.specs.Receiving.{receives}
use Rattle.cg_tries.specs.Finding.{allowed, can_leave_to, can_enter_at, goes_from, move_of, first_given, first_move}
use Rattle.cg_tries.proofs.Single.{move_try, where_so}

-- ---- whether a move is allowed

move_clauses : (found : Option Cgroup) (may holds : Cgroup → Bool) (pass : Bool) (r s t u : Refusal)
    → not (is_some (first (absent found r ++ present found (λ row. unless (may row) s) ++ [] ++ unless pass t
    ++ present found (λ row. unless (holds row) u))))
    ≡ (elim found [ None ↦ false | Some row ↦ may row && holds row ] && pass)
move_clauses None may holds pass r s t u = refl
move_clauses (Some row) may holds pass r s t u =
    elim (may row) as
    (λ m. not (is_some (first ([] ++ unless m s ++ [] ++ unless pass t ++ unless (holds row) u))) ≡ ((m && holds row) && pass)) [
      | true ↦ elim pass as (λ p. not (is_some (first (unless p t ++ unless (holds row) u))) ≡ (holds row && p)) [
        | true ↦ elim (holds row) as (λ h. not (is_some (first (unless h u))) ≡ (h && true)) [ true ↦ refl | false ↦ refl ]
        | false ↦ elim (holds row) as (λ h. false ≡ (h && false)) [ true ↦ refl | false ↦ refl ]
      ]
      | false ↦ refl
    ]

-- the place receives, and what is common passes
pub move_allowed : (st : State) (user : Identity) (pid : ℕ) (place path : Names) → place_at st pid ≡ Some place
    → allowed st user (Move pid path) ≡ (receives st user path && passes st user place path)
move_allowed st user pid place path at =
    (λ i. not (is_some (first (absent (row_at st path) (NoSuchCgroup (length path))
    ++ present (row_at st path) (λ row. unless (writes user row.procs) (NoAccess (length path) Procs))
    ++ absent (at i) (NoSuchProcess pid)
    ++ present (at i) (λ place. unless (passes st user place path) (NoAccess (length (common place path)) Procs))
    ++ present (row_at st path) (λ row. unless (is_root path || enables_nothing row.enabled) (InternalProcess (length path)))))))
    ∙ move_clauses (row_at st path) (λ row. writes user row.procs) (λ row. is_root path || enables_nothing row.enabled)
    (passes st user place path) _ _ _ _

-- on the other side of the edge, what lies above a place inside is what lies above the subtree
pub common_inside : (subtree place path : Names) → inside subtree place ≡ true → inside subtree path ≡ false
    → common place path ≡ common subtree path
common_inside [] place path within out = absurd (true≢false out)
common_inside (name ∷ subtree) [] path within out = absurd (true≢false (sym within))
common_inside (name ∷ subtree) (other ∷ place) [] within out = refl
common_inside (name ∷ subtree) (other ∷ place) (third ∷ path) within out =
    let parts = and_parts (same_name name other) (inside subtree place) within in
    let same : name ≡ other = (bytes_decides name other).0 parts.0 in
    elim (same_name name third) as
    (λ b. same_name name third ≡ b → cond (same_name other third) (other ∷ common place path) [] ≡ cond b (name ∷ common subtree path) []) [
      | true ↦ λ e.
          ap (λ b. cond b (other ∷ common place path) []) (ap (λ (n : Name). same_name n third) (sym same) ∙ e)
          ∙ (λ i. sym same i ∷ common_inside subtree place path parts.1 (sym (ap (λ b. b && inside subtree path) e) ∙ out) i)
      | false ↦ λ e. ap (λ b. cond b (other ∷ common place path) []) (ap (λ (n : Name). same_name n third) (sym same) ∙ e)
    ] refl

-- ---- lists

pub find-flat_map : {A B : Type 0} (p : B → Bool) (g : A → List B) (xs : List A)
    → find p (flat_map g xs) ≡ first_given (λ x. find p (g x)) xs
find-flat_map p g [] = refl
find-flat_map p g (x ∷ xs) = find-append p (g x) (flat_map g xs) ∙ ap (option_or (find p (g x))) (find-flat_map p g xs)

pub find-map_filter : {A B : Type 0} (p : B → Bool) (f : A → B) (t : A → Bool) (xs : List A)
    → find p (map f (filter t xs)) ≡ option_map f (find (λ x. t x && p (f x)) xs)
find-map_filter p f t [] = refl
find-map_filter p f t (x ∷ xs) =
    elim (t x) as (λ b. find p (map f (cond b (x ∷ filter t xs) (filter t xs)))
    ≡ option_map f (cond (b && p (f x)) (Some x) (find (λ y. t y && p (f y)) xs))) [
      | true ↦
          elim (p (f x)) as
          (λ c. cond c (Some (f x)) (find p (map f (filter t xs))) ≡ option_map f (cond c (Some x) (find (λ y. t y && p (f y)) xs)))
          [ true ↦ refl | false ↦ find-map_filter p f t xs ]
      | false ↦ find-map_filter p f t xs
    ]

pub find-same : {A : Type 0} (p q : A → Bool) (xs : List A) → ((x : A) → p x ≡ q x) → find p xs ≡ find q xs
find-same p q [] same = refl
find-same p q (x ∷ xs) same = λ i. cond (same x i) (Some x) (find-same p q xs same i)

pub first_given-same : {A B : Type 0} (f g : A → Option B) (xs : List A) → ((x : A) → f x ≡ g x) → first_given f xs ≡ first_given g xs
first_given-same f g [] same = refl
first_given-same f g (x ∷ xs) same = λ i. option_or (same x i) (first_given-same f g xs same i)

-- ---- the first move

pub find-guarded : {A : Type 0} (p : A → Bool) (guard : Bool) (xs : List A) → find (λ x. p x && guard) xs ≡ cond guard (find p xs) None
find-guarded p true xs = find-same (λ x. p x && true) p xs (λ x. and-true (p x))
find-guarded p false [] = refl
find-guarded p false (x ∷ xs) = ap (λ b. cond b (Some x) (find (λ y. p y && false) xs)) (and-false (p x)) ∙ find-guarded p false xs

module _ (st : State) (user : Identity) (subtree : Names) (whole : IsUnbroken st subtree) where
  -- the path is on the other side of the edge, and moving the process there breaks
  abbrev tried : ℕ → Names → Names → Bool
  tried pid place path =
      cond (inside subtree place) (not (inside subtree path)) (inside subtree path) && breaks st user subtree (Move pid path ∷ [])

  tried-is : (pid : ℕ) (place path : Names) → place_at st pid ≡ Some place
      → tried pid place path ≡ (cond (inside subtree place) (not (inside subtree path)) (inside subtree path)
      && (receives st user path && passes st user place path))
  tried-is pid place path at =
      where_so _ _ _ (λ over. move_try st user subtree pid place path whole at over ∙ move_allowed st user pid place path at)

  from_inside : (pid : ℕ) (place : Names) → place_at st pid ≡ Some place → inside subtree place ≡ true → (path : Names)
      → tried pid place path ≡ can_leave_to st user subtree path
  from_inside pid place at within path =
      tried-is pid place path at
      ∙ ap (λ b. cond b (not (inside subtree path)) (inside subtree path) && (receives st user path && passes st user place path)) within
      ∙ elim (inside subtree path) as (λ b. inside subtree path ≡ b
      → (not b && (receives st user path && passes st user place path))
      ≡ (not b && (receives st user path && passes st user subtree path))) [
        | true ↦ λ _. refl
        | false ↦ λ out. ap (λ (p : Names). receives st user path && passes_at st user p) (common_inside subtree place path within out)
      ] refl

  from_outside : (pid : ℕ) (place : Names) → place_at st pid ≡ Some place → inside subtree place ≡ false → (path : Names)
      → tried pid place path ≡ (can_enter_at st user subtree path && passes st user place subtree)
  from_outside pid place at out path =
      tried-is pid place path at
      ∙ ap (λ b. cond b (not (inside subtree path)) (inside subtree path) && (receives st user path && passes st user place path)) out
      ∙ elim (inside subtree path) as (λ b. inside subtree path ≡ b
      → (b && (receives st user path && passes st user place path)) ≡ ((b && receives st user path) && passes st user place subtree)) [
        | true ↦
            λ within. ap (λ (p : Names). receives st user path && passes_at st user p)
            (common_comm place path ∙ common_inside subtree path place within out ∙ common_comm subtree place)
        | false ↦ λ _. refl
      ] refl

  one_process : (pid : ℕ) (found : Option Names) → place_at st pid ≡ found
      → find (breaks st user subtree) (present found (λ place. map (λ path. Move pid path ∷ []) (across st subtree place)))
      ≡ option_and_then (λ place. option_map (λ path. Move pid path ∷ [])
      (goes_from st user subtree (find (can_leave_to st user subtree) (paths_of st)) (find (can_enter_at st user subtree) (paths_of st))
      place)) found
  one_process pid None at = refl
  one_process pid (Some place) at =
      find-map_filter (breaks st user subtree) (λ path. Move pid path ∷ [])
      (λ path. cond (inside subtree place) (not (inside subtree path)) (inside subtree path)) (paths_of st)
      ∙ elim (inside subtree place) as (λ b. inside subtree place ≡ b
      → option_map (λ path. Move pid path ∷ []) (find (tried pid place) (paths_of st))
      ≡ option_map (λ path. Move pid path ∷ []) (cond b (find (can_leave_to st user subtree) (paths_of st))
      (cond (passes st user place subtree) (find (can_enter_at st user subtree) (paths_of st)) None))) [
        | true ↦
            λ within. ap (option_map (λ path. Move pid path ∷ []))
            (find-same (tried pid place) (can_leave_to st user subtree) (paths_of st) (from_inside pid place at within))
        | false ↦ λ out. ap (option_map (λ path. Move pid path ∷ []))
            (find-same (tried pid place) (λ path. can_enter_at st user subtree path && passes st user place subtree) (paths_of st)
            (from_outside pid place at out)
            ∙ find-guarded (can_enter_at st user subtree) (passes st user place subtree) (paths_of st))
      ] refl

  pub first_move-is : find (breaks st user subtree) (move_tries st subtree) ≡ first_move st user subtree
  first_move-is =
      find-flat_map (breaks st user subtree)
      (λ pid. present (place_at st pid) (λ place. map (λ path. Move pid path ∷ []) (across st subtree place))) (pids_of st)
      ∙ first_given-same _
      (move_of st user subtree (find (can_leave_to st user subtree) (paths_of st)) (find (can_enter_at st user subtree) (paths_of st)))
      (pids_of st)
      (λ pid. one_process pid (place_at st pid) refl)
