use Rattle.cg_print.proofs.tree.document_of.Goals as goal

pub returns-clause-kept : goal.returns-clause-kept
returns-clause-kept g c =
    record
    { formed = c.controllers.ensures.formed; rows = c.in_ok-cgroups_array.ensures.named; live = c.in_ok-processes_array.ensures.named }
