use Rattle.std.proofs.Common.{rules}
use Rattle.viewing.proofs.Prints.{printed_more}
use Rattle.viewing.specs.Viewed.{two_digits}
use Rattle.viewing.proofs.lines.print_bytes.Goals as goal

pub loop-byte-preserved : goal.loop-byte-preserved
loop-byte-preserved c = printed_more two_digits c.args.bytes.now _ _ _ c.loop-byte.byte-index (search rules) c.loop-byte.invariant c.in_ok-print_byte.ensures
