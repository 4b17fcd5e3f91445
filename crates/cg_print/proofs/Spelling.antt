-- A tree's document is spelled in one way.
use Rattle.std.proofs.Common.{◌≡◌, ℕ, Bool, true, false, List, [], ◌∷◌, ◌++◌, codes, if◌then◌else◌, sym, ap, ◌∙◌}
use Rattle.toml.specs.Data.{Data, string, integer, float, boolean, datetime, array, table, Items, no_items, item, Members, no_members, member}
use Rattle.toml.specs.Tables.{Definition, key_value, std_table, array_table, Expression}
use Rattle.toml.specs.Text.{breaks_lines, IsValueText, IsItemsText, IsMembersText, is_section, are_tables, pairs, needs_header, header_of, sections, section, elements, IsLineText, IsLinesText, expressions}
use Rattle.cg_cgroup.specs.declared.files.Vocabulary.{Vocabulary}
use Rattle.cg_model.specs.States.{State}
use Rattle.cg_print.proofs.LowDocuments.{IsPlain, ArePlain, HasPlain, plain_tree}
use Rattle.cg_print.specs.Documents.{tree_document, IsSpelled}

module _ (pretty : Bool) where
  mutual
    value_once : (d : Data) (one other : List ℕ) → IsPlain d → IsValueText pretty d one → IsValueText pretty d other → one ≡ other
    value_once (string s) one other plain a b = a ∙ sym b
    value_once (integer z) one other plain a b = a.0 ∙ sym b.0
    value_once (float x) one other plain a b = cc
    value_once (boolean value) one other plain a b = a ∙ sym b
    value_once (datetime dt) one other plain a b = a ∙ sym b
    value_once (array ds) one other plain a b =
        a.1 ∙ ap (λ rest. codes "[" ++ rest) (items_once ds (breaks_lines pretty ds) true a.0 b.0 plain a.2 b.2) ∙ sym b.1
    value_once (table ms) one other plain a b =
        a.1 ∙ ap (λ rest. codes "{" ++ rest) (members_once ms true a.0 b.0 plain a.2 b.2) ∙ sym b.1

    items_once : (ds : Items) (lines is_first : Bool) (one other : List ℕ) → ArePlain ds → IsItemsText pretty lines is_first ds one
        → IsItemsText pretty lines is_first ds other → one ≡ other
    items_once no_items lines is_first one other plain a b = a ∙ sym b
    items_once (item d ds) lines is_first one other plain a b =
        let value = value_once d a.0 b.0 plain.0 a.3 b.3 in
        let more = items_once ds lines false a.1 b.1 plain.1 a.4 b.4 in
        cc (a.2, b.2, value, more)

    members_once : (ms : Members) (is_first : Bool) (one other : List ℕ) → HasPlain ms → IsMembersText pretty is_first ms one
        → IsMembersText pretty is_first ms other → one ≡ other
    members_once no_members is_first one other plain a b = a ∙ sym b
    members_once (member key d ms) is_first one other plain a b =
        let value = value_once d a.0 b.0 plain.0 a.3 b.3 in
        let more = members_once ms false a.1 b.1 plain.1 a.4 b.4 in
        cc (a.2, b.2, value, more)

-- ---- lines

abbrev IsPlainLine : Definition → Type 0
IsPlainLine (key_value d) = IsPlain d
IsPlainLine std_table = Unit {0}
IsPlainLine array_table = Unit {0}

abbrev ArePlainLines : List Expression → Type 0
ArePlainLines [] = Unit {0}
ArePlainLines (e ∷ es) = IsPlainLine e.1 × ArePlainLines es

line_once : (pretty started : Bool) (key : List (List ℕ) × List ℕ) (d : Definition) (one other : List ℕ) → IsPlainLine d
    → IsLineText pretty started key d one → IsLineText pretty started key d other → one ≡ other
line_once pretty started key (key_value d) one other plain a b =
    let value = value_once pretty d a.0 b.0 plain a.2 b.2 in
    cc (a.1, b.1, value)
line_once pretty started key std_table one other plain a b = a ∙ sym b
line_once pretty started key array_table one other plain a b = a ∙ sym b

lines_once : (pretty started : Bool) (es : List Expression) (one other : List ℕ) → ArePlainLines es → IsLinesText pretty started es one
    → IsLinesText pretty started es other → one ≡ other
lines_once pretty started [] one other plain a b = a ∙ sym b
lines_once pretty started (e ∷ es) one other plain a b =
    let line = line_once pretty started e.0 e.1 a.0 b.0 plain.0 a.3 b.3 in
    let more = lines_once pretty true es a.1 b.1 plain.1 a.4 b.4 in
    cc (a.2, b.2, line, more)

plain_both : (es more : List Expression) → ArePlainLines es → ArePlainLines more → ArePlainLines (es ++ more)
plain_both [] more plain rest = rest
plain_both (e ∷ es) more plain rest = (plain.0, plain_both es more plain.1 rest)

plain_either : (b : Bool) (es others : List Expression) → ArePlainLines es → ArePlainLines others → ArePlainLines (if b then es else others)
plain_either true es others plain rest = plain
plain_either false es others plain rest = rest

plain_pairs : (ms : Members) → HasPlain ms → ArePlainLines (pairs ms)
plain_pairs no_members plain = tt
plain_pairs (member key d ms) plain =
    plain_either (is_section d) (pairs ms) ((([], key), key_value d) ∷ pairs ms) (plain_pairs ms plain.1) (plain.0, plain_pairs ms plain.1)

plain_header : (key : List (List ℕ) × List ℕ) (ms : Members) → ArePlainLines (header_of key ms)
plain_header key ms = plain_either (needs_header ms) ((key, std_table) ∷ []) [] (tt, tt) tt

mutual
  plain_sections : (ms : Members) (path : List (List ℕ)) → HasPlain ms → ArePlainLines (sections path ms)
  plain_sections no_members path plain = tt
  plain_sections (member key d ms) path plain =
      plain_both (section (path, key) d) (sections path ms) (plain_section d (path, key) plain.0) (plain_sections ms path plain.1)

  plain_section : (d : Data) (key : List (List ℕ) × List ℕ) → IsPlain d → ArePlainLines (section key d)
  plain_section (string s) key plain = tt
  plain_section (integer z) key plain = tt
  plain_section (float x) key plain = tt
  plain_section (boolean b) key plain = tt
  plain_section (datetime dt) key plain = tt
  plain_section (array ds) key plain = plain_either (are_tables ds) (elements key ds) [] (plain_elements ds key plain) tt
  plain_section (table ms) key plain =
      plain_both (header_of key ms) _ (plain_header key ms)
      (plain_both (pairs ms) (sections (key.0 ++ key.1 ∷ []) ms) (plain_pairs ms plain) (plain_sections ms (key.0 ++ key.1 ∷ []) plain))

  plain_elements : (ds : Items) (key : List (List ℕ) × List ℕ) → ArePlain ds → ArePlainLines (elements key ds)
  plain_elements no_items key plain = tt
  plain_elements (item (string s) ds) key plain = plain_elements ds key plain.1
  plain_elements (item (integer z) ds) key plain = plain_elements ds key plain.1
  plain_elements (item (float x) ds) key plain = plain_elements ds key plain.1
  plain_elements (item (boolean b) ds) key plain = plain_elements ds key plain.1
  plain_elements (item (datetime dt) ds) key plain = plain_elements ds key plain.1
  plain_elements (item (array others) ds) key plain = plain_elements ds key plain.1
  plain_elements (item (table ms) ds) key plain = (
    tt,
    plain_both (pairs ms ++ sections (key.0 ++ key.1 ∷ []) ms) (elements key ds)
        (plain_both (pairs ms) (sections (key.0 ++ key.1 ∷ []) ms) (plain_pairs ms plain.0)
        (plain_sections ms (key.0 ++ key.1 ∷ []) plain.0))
        (plain_elements ds key plain.1),
  )

pub spelled_once : (vocabulary : Vocabulary) (st : State) (one other : List ℕ) → IsSpelled vocabulary st one → IsSpelled vocabulary st other
    → one ≡ other
spelled_once vocabulary st one other a b =
    lines_once false false (expressions (tree_document vocabulary st)) one other
    (plain_both (pairs (tree_document vocabulary st)) (sections [] (tree_document vocabulary st)) (plain_pairs
    (tree_document vocabulary st) (plain_tree vocabulary st))
    (plain_sections (tree_document vocabulary st) [] (plain_tree vocabulary st)))
    a b
