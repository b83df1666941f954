use Rattle.shape.proofs.Seats.{cell_seat}
use Rattle.shape.proofs.question.Question.seat.Goals as goal

pub returns-clause-first : goal.returns-clause-first
returns-clause-first c e = let right = cell_seat c.args.self.number c.args.self.from c.args.self.to c.args.self.carried c.args.self.forward c.args.self.within in cc
