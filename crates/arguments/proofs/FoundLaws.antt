-- What a request holds hangs on the rows of what was found alone.
use Rattle.std.proofs.Common.{◌≡◌, ◌∙◌, ℕ, List, [], ap, ap₂, sym, refl}
use Rattle.std.specs.Prelude.{Option, Some, None, codes, option_and_then}
use Rattle.std.specs.Option.{option_map, option_map_or}
use Rattle.clap.specs.Matches.{matched_of, first_value, one_text, raw_values}
use Rattle.clap.specs.Walk.{rows_of, first_of, one_of, all_of}
use Rattle.clap.specs.declared.parser.matches.Found.{Found}
use Rattle.clap.proofs.WalkLemmas.{first_value-rows, one_text-rows, raw_values-rows}
use Rattle.arguments.specs.Formats.{format_said, format_at}
use Rattle.arguments.specs.UserWords.{id_at, ids_at, all_read, user_at, group_at}
use Rattle.arguments.specs.Given.{words_at, file_named, file_at, number_at, numbers_at, user_given, users_given, users_beside, advised_given, everyone_given, NoneIsLeftOut, IsOfPairs, Holds}
use Rattle.arguments.specs.declared.request.Pairs.{Pairs}
use Rattle.arguments.specs.declared.request.Request.{Request}
use Rattle.arguments.specs.declared.request.Request.TheVariants as request

or_mapped : {A B C : Type 0} (first : A → B) (then : B → C) (none : C) (o : Option A)
    → option_map_or (λ x. then (first x)) o none ≡ option_map_or then (option_map first o) none
or_mapped first then none None = refl
or_mapped first then none (Some x) = refl

module _ (f g : Found) (same : rows_of f ≡ rows_of g) where
  first_same : (id : List ℕ) → first_value f id ≡ first_value g id
  first_same id = first_value-rows f id ∙ ap (first_of id) same ∙ sym (first_value-rows g id)

  text_same : (id : List ℕ) → one_text f id ≡ one_text g id
  text_same id = one_text-rows f id ∙ ap (one_of id) same ∙ sym (one_text-rows g id)

  words_same : (id : List ℕ) → words_at f id ≡ words_at g id
  words_same id =
      or_mapped raw_values (λ (all : List (List ℕ)). all) [] (matched_of f id)
      ∙ ap (λ (all : Option (List (List ℕ))). option_map_or (λ it. it) all [])
      (raw_values-rows f id ∙ ap (all_of id) same ∙ sym (raw_values-rows g id))
      ∙ sym (or_mapped raw_values (λ (all : List (List ℕ)). all) [] (matched_of g id))

  numbers_same : (id : List ℕ) → numbers_at f id ≡ numbers_at g id
  numbers_same id = ap ids_at (words_same id)

  file_same : (id : List ℕ) → file_at f id ≡ file_at g id
  file_same id = ap (λ (word : Option (List ℕ)). option_and_then file_named word) (first_same id)

  format_same : format_at f ≡ format_at g
  format_same = ap format_said (first_same (codes "format"))

  number_same : (id : List ℕ) → number_at f id ≡ number_at g id
  number_same id = ap (λ (word : Option (List ℕ)). option_and_then id_at word) (first_same id)

  user_same : user_given f ≡ user_given g
  user_same = ap₂ (λ (gids : Option (List ℕ)) (number : Option ℕ). option_and_then (λ uid. option_map (λ all. (uid, all)) gids) number)
      (numbers_same (codes "gid")) (number_same (codes "uid"))

  users_same : users_given f ≡ users_given g
  users_same = ap (λ (words : List (List ℕ)). all_read user_at words) (words_same (codes "uid"))

  advised_same : advised_given f ≡ advised_given g
  advised_same = ap₂ (λ (gids : Option (List ℕ)) (words : List (List ℕ)). option_and_then (users_beside words) gids)
      (numbers_same (codes "gid")) (words_same (codes "uid"))

  everyone_same : everyone_given f ≡ everyone_given g
  everyone_same = ap₂ (λ (but : Option (List ℕ)) (words : List (List ℕ)).
      option_and_then (λ uids. option_map (λ groups. (uids, groups)) (all_read group_at words)) but)
      (numbers_same (codes "but")) (words_same (codes "group"))

  none_left_out : NoneIsLeftOut f → NoneIsLeftOut g
  none_left_out h = record {
    no_but = sym (words_same (codes "but")) ∙ h.no_but;
    no_members = sym (words_same (codes "group")) ∙ h.no_members;
  }

  pairs_same : (pairs : Pairs) → IsOfPairs f pairs → IsOfPairs g pairs
  pairs_same pairs h = record {
    tree = h.tree ∙ file_same (codes "tree");
    pairs = h.pairs ∙ file_same (codes "pairs");
    some_pairs = λ none. h.some_pairs (first_same (codes "pairs") ∙ none);
    no_user = sym (words_same (codes "uid")) ∙ h.no_user;
    no_group = sym (words_same (codes "gid")) ∙ h.no_group;
    no_subtree = sym (words_same (codes "subtree")) ∙ h.no_subtree;
    no_subtrees = sym (first_same (codes "subtrees")) ∙ h.no_subtrees;
    no_settle = λ said. h.no_settle (first_same (codes "settle") ∙ said);
    not_everybody = λ said. h.not_everybody (first_same (codes "everybody") ∙ said);
    all_meant = none_left_out h.all_meant;
    format = sym format_same ∙ h.format;
  }

  pub holds_same : (asked : Request) → Holds f asked → Holds g asked
  holds_same (request.Help help) h = tt
  holds_same (request.May may) h = record {
    tree = h.tree ∙ file_same (codes "tree");
    user = sym user_same ∙ h.user;
    pid = sym (number_same (codes "pid")) ∙ h.pid;
    to = sym (first_same (codes "to")) ∙ h.to;
    format = sym format_same ∙ h.format;
  }
  holds_same (request.Check check) h = record {
    tree = h.tree ∙ file_same (codes "tree");
    user = sym user_same ∙ h.user;
    subtree = sym (first_same (codes "subtree")) ∙ h.subtree;
    format = sym format_same ∙ h.format;
  }
  holds_same (request.Settle check) h = record {
    tree = h.tree ∙ file_same (codes "tree");
    user = sym user_same ∙ h.user;
    subtree = sym (first_same (codes "subtree")) ∙ h.subtree;
    format = sym format_same ∙ h.format;
  }
  holds_same (request.Audit audit) h = record {
    tree = h.tree ∙ file_same (codes "tree");
    users = sym users_same ∙ h.users;
    subtrees = sym (words_same (codes "subtree")) ∙ h.subtrees;
    all = ((λ said. h.all.0 (text_same (codes "all") ∙ said)), (λ said. h.all.1 (text_same (codes "all") ∙ said)));
    settle = ((λ said. h.settle.0 (text_same (codes "settle") ∙ said)), (λ said. h.settle.1 (text_same (codes "settle") ∙ said)));
    some_user = λ none. h.some_user (words_same (codes "uid") ∙ none);
    some_subtree = λ none. h.some_subtree (words_same (codes "subtree") ∙ none);
    no_pairs = sym (first_same (codes "pairs")) ∙ h.no_pairs;
    no_subtrees = sym (first_same (codes "subtrees")) ∙ h.no_subtrees;
    not_everybody = λ said. h.not_everybody (first_same (codes "everybody") ∙ said);
    all_meant = none_left_out h.all_meant;
    format = sym format_same ∙ h.format;
  }
  holds_same (request.Everybody asked) h = record {
    tree = h.tree ∙ file_same (codes "tree");
    subtrees = sym (words_same (codes "subtree")) ∙ h.subtrees;
    everybody = sym (first_same (codes "everybody")) ∙ h.everybody;
    everyone = sym everyone_same ∙ h.everyone;
    some_subtree = λ none. h.some_subtree (words_same (codes "subtree") ∙ none);
    no_subtrees = sym (first_same (codes "subtrees")) ∙ h.no_subtrees;
    no_user = sym (words_same (codes "uid")) ∙ h.no_user;
    no_group = sym (words_same (codes "gid")) ∙ h.no_group;
    no_pairs = sym (first_same (codes "pairs")) ∙ h.no_pairs;
    no_all = λ said. h.no_all (first_same (codes "all") ∙ said);
    no_settle = λ said. h.no_settle (first_same (codes "settle") ∙ said);
    format = sym format_same ∙ h.format;
  }
  holds_same (request.Subtrees asked) h = record {
    tree = h.tree ∙ file_same (codes "tree");
    subtrees = h.subtrees ∙ file_same (codes "subtrees");
    everybody = sym (first_same (codes "everybody")) ∙ h.everybody;
    everyone = sym everyone_same ∙ h.everyone;
    some_subtrees = λ none. h.some_subtrees (first_same (codes "subtrees") ∙ none);
    no_subtree = sym (words_same (codes "subtree")) ∙ h.no_subtree;
    no_user = sym (words_same (codes "uid")) ∙ h.no_user;
    no_group = sym (words_same (codes "gid")) ∙ h.no_group;
    no_pairs = sym (first_same (codes "pairs")) ∙ h.no_pairs;
    no_all = λ said. h.no_all (first_same (codes "all") ∙ said);
    no_settle = λ said. h.no_settle (first_same (codes "settle") ∙ said);
    format = sym format_same ∙ h.format;
  }
  holds_same (request.AuditPairs pairs) h = pairs_same pairs h
  holds_same (request.Explain explain) h = record {
    tree = h.tree ∙ file_same (codes "tree");
    users = sym users_same ∙ h.users;
    subtrees = sym (words_same (codes "subtree")) ∙ h.subtrees;
    some_user = λ none. h.some_user (words_same (codes "uid") ∙ none);
    some_subtree = λ none. h.some_subtree (words_same (codes "subtree") ∙ none);
    no_pairs = sym (first_same (codes "pairs")) ∙ h.no_pairs;
    no_subtrees = sym (first_same (codes "subtrees")) ∙ h.no_subtrees;
    not_everybody = λ said. h.not_everybody (first_same (codes "everybody") ∙ said);
    all_meant = none_left_out h.all_meant;
    format = sym format_same ∙ h.format;
  }
  holds_same (request.ExplainPairs pairs) h = pairs_same pairs h
  holds_same (request.Advise advise) h = record {
    tree = h.tree ∙ file_same (codes "tree");
    users = sym advised_same ∙ h.users;
    subtrees = sym (words_same (codes "subtree")) ∙ h.subtrees;
    some_user = λ none. h.some_user (words_same (codes "uid") ∙ none);
    some_subtree = λ none. h.some_subtree (words_same (codes "subtree") ∙ none);
    no_pairs = sym (first_same (codes "pairs")) ∙ h.no_pairs;
    no_subtrees = sym (first_same (codes "subtrees")) ∙ h.no_subtrees;
    not_everybody = λ said. h.not_everybody (first_same (codes "everybody") ∙ said);
    all_meant = none_left_out h.all_meant;
    settle = ((λ said. h.settle.0 (text_same (codes "settle") ∙ said)), (λ said. h.settle.1 (text_same (codes "settle") ∙ said)));
    format = sym format_same ∙ h.format;
  }
  holds_same (request.AdvisePairs pairs) h = pairs_same pairs h
  holds_same (request.Replay replay) h = record {
    tree = h.tree ∙ file_same (codes "tree");
    ops = h.ops ∙ file_same (codes "ops");
    user = sym user_same ∙ h.user;
    subtree = h.subtree ∙ first_same (codes "subtree");
    format = sym format_same ∙ h.format;
  }
  holds_same (request.Upgrade upgrade) h = record { tree = h.tree ∙ file_same (codes "tree") }
