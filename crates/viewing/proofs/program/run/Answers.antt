use Rattle.std.proofs.Common.{string_bytes, arith, rules}
use Rattle.viewing.proofs.Front.{front_written}
use Rattle.viewing.proofs.program.run.Goals as goal

pub returns : goal.returns
returns g c =
    front_written c.write_all.result (g.R.Read.remaining c.args.reader.now) (g.W.Write.contents c.args.writer.now) (g.W.Write.contents c.write_all.new.self)
    c.take.result.limit c.read_to_end.new.buf.items (string_bytes c.in_ok-printed.printed)
    (omega (arith, c.take.ensures.limit)) (search rules) (search rules) (search rules)
