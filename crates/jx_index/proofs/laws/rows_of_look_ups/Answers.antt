use Rattle.jx_index.proofs.Bridge.{led_row}
use Rattle.jx_index.proofs.Shapes.{node_at}
use Rattle.jx_index.proofs.laws.rows_of_look_ups.Goals as goal

pub returns-clause-led : goal.returns-clause-led
returns-clause-led c = λ text tree tokens node e. led_row text tree tokens node e

pub returns-clause-nodes : goal.returns-clause-nodes
returns-clause-nodes c = λ tree number h. node_at tree number h
