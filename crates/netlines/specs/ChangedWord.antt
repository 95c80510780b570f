-- Two texts that differ in one 16-bit word, as a checksum counts words (RFC 1071, section 1): an
-- odd last byte is a word with a zero byte after it.
use Rattle.std.specs.Prelude.{◌≡◌, ◌≢◌, ◌⊎◌, ℕ, ◌%◌, ◌==◌, ◌&&◌, ◌||◌, not, Bool, if◌then◌else◌, List, [], ◌++◌, length}
use Rattle.etherparse.specs.base.Bytes.{IsBytes}
use Rattle.etherparse.specs.base.Sum.{total}
use Rattle.etherparse.specs.Fragments.{Fragment}
use Rattle.etherparse.specs.packet.Readable.{ReadMessage}
use Rattle.etherparse.specs.packet.Readable.ReadMessage.{Icmpv4, Tcp, Udp, Icmpv6, Raw}
use Rattle.checksum_verdicts.specs.declared.verdict.Verdict.{Verdict}
use Rattle.checksum_verdicts.specs.declared.verdict.Verdict.TheVariants as verdict

pub record DifferInOneWord (old new : List ℕ) : Type 0 where
  pub prefix : List ℕ
  pub old_word : List ℕ
  pub new_word : List ℕ
  pub rest : List ℕ
  pub old_is : old ≡ prefix ++ old_word ++ rest
  pub new_is : new ≡ prefix ++ new_word ++ rest
  -- the word starts at an even offset
  pub aligned : length prefix % 2 ≡ 0
  -- two bytes, or the last one
  pub size : (length old_word ≡ 2) ⊎ ((length old_word ≡ 1) × (rest ≡ []))
  pub same_size : length new_word ≡ length old_word
  pub old_bytes : IsBytes old_word
  pub new_bytes : IsBytes new_word
  pub differ : total old_word ≢ total new_word

-- two fragments with the same offset and flag, whose bytes differ in one word
pub record IsChangedFragment (f g : Fragment) : Type 0 where
  pub offset : f.offset ≡ g.offset
  pub more : f.more ≡ g.more
  pub words : DifferInOneWord f.bytes g.bytes

-- two texts are the same, or differ in one word, which starts at this offset
abbrev pub DifferAt : (position : ℕ) → (old new : List ℕ) → Type 0
DifferAt position old new =
    (old ≡ new) ⊎ ((words : DifferInOneWord old new) × (length words.prefix ≡ position))

-- the bytes of a message as it is read: its checksum covers all, those of a raw one aside
abbrev pub summed_bytes : ReadMessage → List ℕ
summed_bytes (Icmpv4 bytes) = bytes
summed_bytes (Tcp bytes) = bytes
summed_bytes (Udp bytes) = bytes
summed_bytes (Icmpv6 bytes) = bytes
summed_bytes (Raw bytes) = bytes

-- one of the two words is 0000 and the other ffff
abbrev pub is_exchange : (old new : ℕ) → Bool
is_exchange old new = ((old == 0) && (new == 65535)) || ((old == 65535) && (new == 0))

-- the verdict on a text that summed to all ones before the word was changed: good where 0000 and
-- ffff, which a ones-complement sum can't distinguish, were exchanged, unless all that is summed is
-- zero
abbrev pub verdict_after : (old_word new_word text : List ℕ) → Verdict
verdict_after old_word new_word text =
    if is_exchange (total old_word) (total new_word) && not (total text == 0)
    then verdict.Good else verdict.Bad
