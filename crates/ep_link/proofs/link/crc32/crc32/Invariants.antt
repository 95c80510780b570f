use Rattle.std.proofs.Common.{◌≡◌, drop}
use Rattle.ep_link.proofs.Crc32Register.{after_bytes}
use Rattle.ep_link.proofs.link.crc32.crc32.Given as goal

abbrev pub invariant-loop-byte : goal.invariant-loop-byte
invariant-loop-byte l = after_bytes l.register (drop l.byte-index l.fn.bytes) ≡ after_bytes 0xffffffff l.fn.bytes
