use Rattle.history.proofs.Made.{agree}
use Rattle.history.proofs.tables_agree.Goals as goal

pub returns-clause-agree : goal.returns-clause-agree
returns-clause-agree g c C h l = agree C h l
