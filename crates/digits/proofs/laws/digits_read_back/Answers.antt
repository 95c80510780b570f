use Rattle.std.proofs.Common.{refl, length}
use Rattle.hex.proofs.HexLemmas.{decode_sized-encode_lower}
use Rattle.digits.proofs.laws.digits_read_back.Goals as goal

pub returns : goal.returns
returns c bytes h = decode_sized-encode_lower bytes (length bytes) refl h
