use Rattle.jx_file_build.proofs.Fitting.{held_fit}
use Rattle.jx_file_build.proofs.NamesRead.{names_made, none_made}
use Rattle.jx_file_build.proofs.named_chunks.tables_of.Goals as goal

pub returns-in-None-clause-tables : goal.returns-in-None-clause-tables
returns-in-None-clause-tables c = λ has_names settings size bytes n told counted. none_made has_names settings size bytes n c.args.names c.in-None.is told

pub returns-in_ok-tables-in-Some-clause-tables : goal.returns-in_ok-tables-in-Some-clause-tables
returns-in_ok-tables-in-Some-clause-tables c = λ has_names settings size bytes n told counted.
    names_made has_names settings size bytes n c.args.names c.in-Some.names c.in_ok-tables-in-Some.tables c.in-Some.is told counted c.in_ok-tables-in-Some.ensures.are

pub returns-in_ok-tables-in-Some-clause-fits : goal.returns-in_ok-tables-in-Some-clause-fits
returns-in_ok-tables-in-Some-clause-fits c = λ fit. c.in_ok-tables-in-Some.ensures.fits (held_fit c.args.names c.in-Some.names c.in-Some.is fit).fit
