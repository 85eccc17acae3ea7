use Rattle.std.proofs.Common.{◌≡◌, length}
use Rattle.scanner.proofs.Digits.{Read}
use Rattle.scanner.proofs.scanning.leading_number.Given as goal

-- the bytes so far are the digits of the number
abbrev pub invariant-loop-byte : goal.invariant-loop-byte
invariant-loop-byte l = record { count : l.digits ≡ length l.yielded; read : Read l.text l.number l.digits }
