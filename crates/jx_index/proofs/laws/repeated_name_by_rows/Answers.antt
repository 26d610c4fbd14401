use Rattle.jx_index.proofs.ByNames.{any_names, judged_anyhow, refused_in_tree}
use Rattle.jx_index.proofs.laws.repeated_name_by_rows.Goals as goal

pub returns-clause-name : goal.returns-clause-name
returns-clause-name c = refused_in_tree

pub returns-clause-any : goal.returns-clause-any
returns-clause-any c = λ settings bytes v is. ((λ h. judged_anyhow settings bytes v is h), (λ h. any_names settings bytes v is h))
