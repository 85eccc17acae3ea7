use Rattle.history.proofs.Reached.{reached_from}
use Rattle.history.proofs.histories_tell.Goals as goal

pub returns-clause-tell : goal.returns-clause-tell
returns-clause-tell g c C h l = reached_from C h l
