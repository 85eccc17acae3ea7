use Rattle.std.proofs.Common.{refl, rules}
use Rattle.runs.proofs.Images.{seven_read, seven_cut}
use Rattle.runs.proofs.worked.worked_runs.Goals as goal

pub returns-clause-hold : goal.returns-clause-hold
returns-clause-hold c = (refl, (search rules, (search rules, (refl, (refl, (refl, (refl, (refl, (seven_read, (seven_cut, tt))))))))))
