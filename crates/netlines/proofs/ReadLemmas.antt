-- What is read of bytes, where anything is.
use Rattle.std.proofs.Common.{arith, ◌≡◌, ℕ, List, Ok}
use Rattle.etherparse.specs.base.declared.err.layer.Layer.TheVariants as layer
use Rattle.etherparse.specs.packet.declared.err.packet.slice_error.SliceError.TheVariants as slice_error
use Rattle.etherparse.specs.base.declared.err.slice_error.SliceError.{SliceError}
use Rattle.etherparse.specs.packet.Readable.{ReadMessage, message_at}
use Rattle.etherparse.specs.packet.Readable.ReadMessage.{Icmpv4, Tcp, Icmpv6}

-- the whole message of each protocol but UDP
pub icmpv4_is : (bytes : List ℕ) (read : ReadMessage)
    → message_at 1 bytes ≡ Ok read → read ≡ Icmpv4 bytes
icmpv4_is bytes read is = grind arith

pub segment_is : (bytes : List ℕ) (read : ReadMessage)
    → message_at 6 bytes ≡ Ok read → read ≡ Tcp bytes
segment_is bytes read is = grind arith

pub icmpv6_is : (bytes : List ℕ) (read : ReadMessage)
    → message_at 58 bytes ≡ Ok read → read ≡ Icmpv6 bytes
icmpv6_is bytes read is = grind arith
