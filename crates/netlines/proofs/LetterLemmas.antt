-- The headers of a letter's frames are as their types hold them.
use Rattle.std.proofs.Common.{◌≡◌, ℕ, ◌+◌, ◌*◌, ◌/◌, ◌%◌, ◌^◌, ◌<◌, ◌≤◌, ◌==◌, Bool, [], if◌then◌else◌, List, ◌∷◌}
use Rattle.std.proofs.Common.{length, All, arith}
use Rattle.std.proofs.lemmas.List.Elements.{All-head, All-tail}
use Rattle.etherparse.specs.BuiltFrames.{IpFits, TagsFit}
use Rattle.etherparse.specs.BuiltSteps.{tag_of}
use Rattle.etherparse.specs.declared.defrag.ip_frag_version_spec_id.IpFragVersionSpecId.{IpFragVersionSpecId}
use Rattle.etherparse.specs.link.Ethernet.{Fits}
use Rattle.etherparse.specs.link.declared.link.ethernet2_header.Ethernet2Header.{Ethernet2Header}
use Rattle.etherparse.specs.tag.Vlan as vlan
use Rattle.netlines.specs.Letter.{IdentificationFits, LetterFits}
use Rattle.netlines.specs.PostedHeaders.{ip_headers_of, tags_of}
use Rattle.netlines.specs.Sealed.{AddressesFit, addresses_of}
use Rattle.netlines.specs.declared.letter.Letter.{Letter}

-- the link header of a letter's frames
abbrev pub ethernet_of : Letter → Ethernet2Header
ethernet_of letter =
    record {
      source = letter.ethernet_source;
      destination = letter.ethernet_destination;
      ether_type = record { 0 = 0 };
    }

-- the headers of such a frame are as their types hold them
pub record HeadersFit (letter : Letter) (cut : Bool) (offset : ℕ) (more : Bool) : Type 0 where
  pub link : Fits (ethernet_of letter)
  pub tags : TagsFit (tags_of letter.vlans.items)
  pub few : length letter.vlans.items ≤ 2
  pub ip : IpFits (ip_headers_of letter.version_id cut offset more) letter.number.0

tag_fits : (id : ℕ) → id ≤ 4095 → vlan.Fits (tag_of id)
tag_fits id small = grind arith

tags_fit : (ids : List ℕ) → All (λ id. id ≤ 4095) ids → TagsFit (tags_of ids)
tags_fit [] all = tt
tags_fit (id ∷ []) all = tag_fits id (All-head (λ id. id ≤ 4095) id [] all)
tags_fit (outer ∷ inner ∷ others) all =
    let following = All-tail (λ id. id ≤ 4095) outer (inner ∷ others) all in (
      tag_fits outer (All-head (λ id. id ≤ 4095) outer (inner ∷ others) all),
      tag_fits inner (All-head (λ id. id ≤ 4095) inner others following),
    )

-- the fragment header's encoding of an offset of 13 bits, a flag and an identification of 32 bits
offset_is : (more : Bool) (offset : ℕ) → offset < 8192
    → (256 * ((8 * offset + (if more then 1 else 0)) / 256 % 256) +
    (8 * offset + (if more then 1 else 0)) % 256) / 8 ≡ offset
offset_is more offset small = grind arith

flag_is : (more : Bool) (offset : ℕ) → offset < 8192
    → ((8 * offset + (if more then 1 else 0)) % 256 % 2 == 1) ≡ more
flag_is more offset small = grind arith

identification_is : (n : ℕ) → n < 2 ^ 32
    → 256 * (256 * (256 * (n / 16777216 % 256) + n / 65536 % 256) + n / 256 % 256) + n % 256 ≡ n
identification_is n small = omega arith

ip_fits : (version_id : IpFragVersionSpecId) (number offset : ℕ) (cut more : Bool) → offset < 8192
    → AddressesFit (addresses_of version_id) → IdentificationFits version_id
    → IpFits (ip_headers_of version_id cut offset more) number
ip_fits version_id number offset cut more small addresses fits = grind arith

-- so they are at every offset in a message
pub headers_fit : (letter : Letter) (cut : Bool) (offset : ℕ) (more : Bool) → offset < 8192
    → LetterFits letter → HeadersFit letter cut offset more
headers_fit letter cut offset more small fit = grind arith
