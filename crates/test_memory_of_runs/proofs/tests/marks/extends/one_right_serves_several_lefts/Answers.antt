use Rattle.test_memory_of_runs.proofs.tests.marks.extends.one_right_serves_several_lefts.Goals as goal

pub serves_two-requires-clause-before : goal.serves_two-requires-clause-before
serves_two-requires-clause-before g c = c.new-empty.ensures.offsets 0 0
