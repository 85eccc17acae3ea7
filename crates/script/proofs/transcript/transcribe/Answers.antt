use Rattle.std.proofs.Common.{◌≡◌, string_bytes, sym, subst, rules}
use Rattle.script.specs.Answered.{AnswersCalls}
use Rattle.script.specs.Transcript.{transcript}
use Rattle.script.proofs.Answered.{answers_calls}
use Rattle.script.proofs.transcript.transcribe.Goals as goal

pub returns-clause-calls : goal.returns-clause-calls
returns-clause-calls c =
    let text : string_bytes c.carry_out_lines.new.self.out ≡ transcript c.args.input.now = search rules in
    subst (AnswersCalls c.args.input.now) (sym text) (answers_calls c.args.input.now)
