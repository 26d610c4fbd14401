use Rattle.jx_block.proofs.counting.counts_of.Goals as goal

pub returns : goal.returns
returns c = λ text ends at starts len kinds fits short few ended. c.counts_with.ensures text ends at starts len kinds fits short few ended (c.braces_of.ensures text at starts len kinds fits short few)
