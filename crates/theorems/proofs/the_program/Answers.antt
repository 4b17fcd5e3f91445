use Rattle.theorems.proofs.ProgramLaws.{carried_by_status, led_to_fault, help_ended, may_ended, check_ended, settle_ended, audit_ended, all_ended, everybody_ended, subtrees_ended, explain_ended, settled_ended, all_settled_ended, advise_ended, advise_settled_ended, advise_pairs_ended, audit_pairs_ended, explain_pairs_ended, upgrade_ended, replay_ended}
use Rattle.theorems.proofs.the_program.Goals as goal

pub returns : goal.returns
returns c = record {
  carried_out = λ words files given old new status written. carried_by_status words files given old new written status;
  fault = λ words files given old new fault written. led_to_fault words files given old new written fault;
  help = λ help files given old new status. help_ended files given old new status help;
  may = λ may files given old new status text st. may_ended files given old new status text st may;
  check = λ check files given old new status text st. check_ended files given old new status text st check;
  settle = λ check files given old new status text st user subtree.
      settle_ended files given old new status text st check user subtree;
  audit = λ audit files given old new status text st carried guards first of_known of_text.
      audit_ended files given old new status text st audit carried of_known of_text guards first;
  audit_all = λ audit files given old new status text st carried guards each of_known of_text.
      all_ended files given old new status text st audit carried of_known of_text guards each;
  everybody = λ asked files given old new status text st subtrees.
      everybody_ended files given old new status text st asked subtrees;
  subtrees = λ asked files given old new status text lines st.
      subtrees_ended files given old new status text st asked lines;
  audit_settled = λ audit files given old new status text st users subtrees carried further first of_known of_text of_users of_paths.
      settled_ended files given old new status text st audit carried of_known of_text users subtrees further of_users of_paths first;
  audit_all_settled = λ audit files given old new status text st users subtrees carried further each of_known of_text of_users of_paths.
      all_settled_ended files given old new status text st audit carried of_known of_text users subtrees further of_users of_paths each;
  audit_pairs = λ asked files given old new status text pairs st.
      audit_pairs_ended files given old new status text st asked pairs;
  explain = λ explain files given old new status text st. explain_ended files given old new status text st explain;
  explain_pairs = λ asked files given old new status text pairs st.
      explain_pairs_ended files given old new status text st asked pairs;
  advise = λ advise files given old new status text st carried guards of_known of_text.
      advise_ended files given old new status text st advise carried of_known of_text guards;
  advise_settled = λ advise files given old new status text st users subtrees carried further of_known of_text.
      advise_settled_ended files given old new status text st advise carried of_known of_text users subtrees further;
  advise_pairs = λ asked files given old new status text pairs st.
      advise_pairs_ended files given old new status text st asked pairs;
  upgrade = λ upgrade files given old new status text st. upgrade_ended files given old new status text st upgrade;
  replay = λ replay files given old new status text ops st. replay_ended files given old new status text st replay ops;
}
