use Rattle.std.proofs.Common.{◌≡◌, ◌++◌, take}
use Rattle.report.proofs.lines.put.Given as goal

-- the bytes so far
abbrev pub invariant-loop-byte : goal.invariant-loop-byte
invariant-loop-byte g l = l.text.items ≡ l.initial.text.items ++ take l.byte-index l.bytes
