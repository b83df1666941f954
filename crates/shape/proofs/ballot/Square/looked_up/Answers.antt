use Rattle.shape.proofs.Table.{table_entry}
use Rattle.shape.proofs.ballot.Square.looked_up.Goals as goal

pub returns : goal.returns
returns c = table_entry c.args.rows.now c.args.self.p c.args.self.q _ c.requires c.args.self.p_within c.args.self.q_within
