use Rattle.std.proofs.Common.{◌≡◌, arith}
use Rattle.std.proofs.lemmas.Grind.{common_steps}
use Rattle.ep_link.proofs.Crc32Register.{after_bytes, register-is-crc32}
use Rattle.ep_link.proofs.link.crc32.crc32.Goals as goal

pub returns : goal.returns
returns c =
    let bytes = c.args.bytes.now in
    let all : c.loop-byte.register ≡ after_bytes 0xffffffff bytes = grind (arith, common_steps) in
    rw all (register-is-crc32 bytes (λ i. omega (arith, c.type_inv.bytes i)))
