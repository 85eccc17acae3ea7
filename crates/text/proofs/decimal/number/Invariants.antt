use Rattle.std.proofs.Common.{◌≡◌, ◌^◌, ◌<◌, drop}
use Rattle.text.proofs.Scans.{scan}
use Rattle.text.proofs.decimal.number.Given as goal

-- the digits so far write a number of so many digits, and the others go on from it
abbrev pub invariant-loop-byte : goal.invariant-loop-byte
invariant-loop-byte l = (scan l.value (drop l.byte-index l.line) ≡ scan 0 l.line) × (l.value < 10 ^ l.byte-index)
