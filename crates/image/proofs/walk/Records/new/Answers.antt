use Rattle.image.proofs.Readings.{pieces_held}
use Rattle.image.proofs.walk.Records.new.Goals as goal

pub returns-clause-holds : goal.returns-clause-holds
returns-clause-holds c = pieces_held c.args.image.now
