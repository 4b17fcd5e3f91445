-- Lists read one after another, of which each element counts where it is named first.
use Rattle.std.proofs.Common.{◌≡◌, ℕ, Bool, true, false, not, ◌||◌, ◌&&◌, nat_eq, cond, Bor, List, [], ◌∷◌, ◌++◌, Some, None, Result, Ok, Err, refl, sym, ap, ◌∙◌, append-nil}
use Rattle.std.specs.Option.{ok_or}
use Rattle.std.specs.List.{list_any}
use Rattle.std.proofs.lemmas.List.Folds.{list_any-append}
use Rattle.std.specs.Ordering.{nat_cmp, is_eq, ordering_then}
use Rattle.std.specs.declared.cmp.Ordering.{Ordering}
use Rattle.std.specs.Cmp.{both_tied, unsigned_ties}
use Rattle.std.specs.Cmp.Lexicographic.{slice_cmp, pointwise, texts_ties, lists_ties}
use Rattle.cg_cgroup.specs.Identity.{Identity}
use Rattle.cg_cgroup.specs.Users.{is_user}
use Rattle.cg_cgroup.specs.Paths.{Names, path_cmp, same_path}
use Rattle.cg_cli.specs.Arguments.{user_read}
use Rattle.cg_model.specs.Once.{once}
use Rattle.cg_model.proofs.OnceLaws.{once_more}
use Rattle.cg_cli.specs.Once.{same_user}
use Rattle.cg_faults.specs.declared.fault.CliFault.{CliFault}
use Rattle.cg_faults.specs.declared.fault.CliFault.TheVariants.{Uid, Gids}

-- what was read of a list so far: all of it, those who count, and of which keys one was read
pub record ReadOnce {A K : Type 0} (same : A → A → Bool) (meets : A → K → Bool) (given : Result (List A) CliFault) (read : List A)
    (seen : K → Bool) : Type 0 where
  pub all : List A
  pub is : given ≡ Ok all
  pub items : read ≡ once same all
  pub keys : (q : K) → seen q ≡ list_any (λ x. meets x q) all

module _ {A K : Type 0} (same : A → A → Bool) (meets : A → K → Bool) (given more : Result (List A) CliFault) (read : List A)
    (old new : K → Bool) (x : A) (k : K) (added : Bool)
    (before : ReadOnce same meets given read old) (next : (all : List A) → given ≡ Ok all → more ≡ Ok (all ++ x ∷ []))
    (key : (y : A) → meets y k ≡ same y x)
    (updates : (q : K) → new q ≡ cond (meets x q) true (old q)) (is_new : added ≡ not (old k)) where
  was_seen : old k ≡ list_any (λ y. same y x) before.all
  was_seen = before.keys k ∙ (λ i. list_any (λ y. key y i) before.all)

  keys_more : (q : K) → new q ≡ list_any (λ y. meets y q) (before.all ++ x ∷ [])
  keys_more q =
      updates q ∙ ap (cond (meets x q) true) (before.keys q) ∙ turned (meets x q) (list_any (λ y. meets y q) before.all)
      ∙ sym (list_any-append (λ y. meets y q) before.all (x ∷ []))
    where
      turned : (a b : Bool) → cond a true b ≡ b || (a || false)
      turned true true = refl
      turned true false = refl
      turned false true = refl
      turned false false = refl

  not_false : (b : Bool) → true ≡ not b → b ≡ false
  not_false true h = let never : ⊥ = cc in absurd never
  not_false false h = refl

  not_true : (b : Bool) → false ≡ not b → b ≡ true
  not_true true h = refl
  not_true false h = let never : ⊥ = cc in absurd never

  pub read_first : added ≡ true → (items : List A) → items ≡ read ++ x ∷ [] → ReadOnce same meets more items new
  read_first fresh items pushed = record {
    all = before.all ++ x ∷ [];
    is = next before.all before.is;
    items =
        pushed ∙ ap (λ l. l ++ x ∷ []) before.items
        ∙ sym (once_more same before.all x
        ∙ ap (λ b. once same before.all ++ cond b [] (x ∷ [])) (sym was_seen ∙ not_false (old k) (sym fresh ∙ is_new)));
    keys = keys_more;
  }

  pub read_again : added ≡ false → (items : List A) → items ≡ read → ReadOnce same meets more items new
  read_again known items kept = record {
    all = before.all ++ x ∷ [];
    is = next before.all before.is;
    items =
        kept ∙ before.items
        ∙ sym (once_more same before.all x
        ∙ ap (λ b. once same before.all ++ cond b [] (x ∷ [])) (sym was_seen ∙ not_true (old k) (sym known ∙ is_new))
        ∙ append-nil (once same before.all));
    keys = keys_more;
  }

-- ---- users

abbrev pub Key : Type 0
Key = ℕ × Bor (List ℕ)

abbrev pub key_cmp : Key → Key → Ordering
key_cmp key other = ordering_then (nat_cmp key.0 other.0) (slice_cmp nat_cmp key.1.now other.1.now)

abbrev pub meets : Identity → Key → Bool
meets who key = nat_eq who.uid key.0 && pointwise nat_eq who.gids key.1.now

pub user_is : (uid : ℕ) (gids : List ℕ) (who : Identity) → Ok who ≡ user_read uid gids → who ≡ record { uid = uid; gids = gids }
user_is uid gids who is = by_tests (nat_eq uid 0) (is_user (record { uid = uid; gids = gids })) (sym is)
  where
    by_tests : (root may : Bool) → cond root (Err Uid) (ok_or (cond may (Some (record { uid = uid; gids = gids })) None) Gids) ≡ Ok who
        → who ≡ record { uid = uid; gids = gids }
    by_tests true may h = let never : ⊥ = cc in absurd never
    by_tests false true h = same_Ok h
      where
        same_Ok : {x y : Identity} → let r : Result Identity CliFault = Ok x in let s : Result Identity CliFault = Ok y in r ≡ s → y ≡ x
        same_Ok same = cc
    by_tests false false h = let never : ⊥ = cc in absurd never

pub key_at : (who : Identity) (key q : Key) → who ≡ record { uid = key.0; gids = key.1.now } → is_eq (key_cmp key q) ≡ meets who q
key_at who key q is =
    sym (both_tied (nat_eq key.0 q.0) (pointwise nat_eq key.1.now q.1.now) (nat_cmp key.0 q.0) (slice_cmp nat_cmp key.1.now q.1.now)
    (unsigned_ties key.0 q.0) (texts_ties key.1.now q.1.now))
    ∙ ap (λ (one : Identity). meets one q) (sym is)

-- a key is compared by what it borrows, wherever that lies
abbrev key_of : ℕ → List ℕ → Key
key_of uid gids = (uid, record { ref_ptr = (0, 0); now = gids })

module _ (given more : Result (List Identity) CliFault) (read : List Identity) (old new : Key → Bool) (uid : ℕ) (gids : List ℕ)
    (who : Identity) (added : Bool) (before : ReadOnce same_user meets given read old)
    (next : (all : List Identity) → given ≡ Ok all → more ≡ Ok (all ++ who ∷ [])) (is : Ok who ≡ user_read uid gids)
    (updates : (q : Key) → new q ≡ cond (is_eq (key_cmp (key_of uid gids) q)) true (old q)) (is_new : added ≡ not (old (key_of uid gids)))
  where
    same_key : (y : Identity) → meets y (key_of uid gids) ≡ same_user y who
    same_key y = ap (same_user y) (sym (user_is uid gids who is))

    meets_new : (q : Key) → new q ≡ cond (meets who q) true (old q)
    meets_new q = updates q ∙ ap (λ b. cond b true (old q)) (key_at who (key_of uid gids) q (user_is uid gids who is))

    pub user_first : added ≡ true → (items : List Identity) → items ≡ read ++ who ∷ [] → ReadOnce same_user meets more items new
    user_first = read_first same_user meets given more read old new who (key_of uid gids) added before next same_key meets_new is_new

    pub user_again : added ≡ false → (items : List Identity) → items ≡ read → ReadOnce same_user meets more items new
    user_again = read_again same_user meets given more read old new who (key_of uid gids) added before next same_key meets_new is_new

-- ---- paths

pub path_at_key : (path q : Names) → is_eq (path_cmp path q) ≡ same_path path q
path_at_key path q = sym (lists_ties (slice_cmp nat_cmp) texts_ties path q)

module _ (given more : Result (List Names) CliFault) (read : List Names) (old new : Names → Bool) (key path : Names) (added : Bool)
    (before : ReadOnce same_path same_path given read old)
    (next : (all : List Names) → given ≡ Ok all → more ≡ Ok (all ++ path ∷ [])) (is : key ≡ path)
    (updates : (q : Names) → new q ≡ cond (is_eq (path_cmp key q)) true (old q)) (is_new : added ≡ not (old key)) where
  same_names : (y : Names) → same_path y key ≡ same_path y path
  same_names y = ap (same_path y) is

  names_new : (q : Names) → new q ≡ cond (same_path path q) true (old q)
  names_new q = updates q ∙ ap (λ b. cond b true (old q)) (path_at_key key q ∙ ap (λ p. same_path p q) is)

  pub path_first : added ≡ true → (items : List Names) → items ≡ read ++ path ∷ [] → ReadOnce same_path same_path more items new
  path_first = read_first same_path same_path given more read old new path key added before next same_names names_new is_new

  pub path_again : added ≡ false → (items : List Names) → items ≡ read → ReadOnce same_path same_path more items new
  path_again = read_again same_path same_path given more read old new path key added before next same_names names_new is_new
