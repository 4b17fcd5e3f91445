use Rattle.cg_cli.proofs.replay.course_of.Goals as goal

pub returns-in_ok-vocabulary-in-Some-clause-read : goal.returns-in_ok-vocabulary-in-Some-clause-read
returns-in_ok-vocabulary-in-Some-clause-read c = λ read is. rw c.in-Some.is (c.in_ok-vocabulary-in-Some.ensures.read read is)
