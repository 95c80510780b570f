use Rattle.std.proofs.Common.{◌≡◌, refl, ℕ, ◌≢◌, Option, Some, None, arith}
use Rattle.ep_link.specs.Ethernet.{Fits}
use Rattle.etherparse.proofs.laws.packet_builder.frames.fragments_are_written.Goals as goal
use Rattle.etherparse.specs.Built.{build_refusal}
use Rattle.etherparse.specs.BuiltFrameExamples.{ipv4_part, ipv6_part, link_at_literals, two_tags}
use Rattle.etherparse.specs.BuiltFrames.{Frames, IpFits, Packets, TagsFit, ethernet_packet}
use Rattle.etherparse.specs.declared.err.packet.build_write_error.BuildWriteError.{BuildWriteError}

link_fits : Fits link_at_literals
link_fits = record { source = refl; destination = refl; ether_type = omega arith }

tags_fit : TagsFit two_tags
tags_fit = (
  record { pcp = omega arith; vlan_id = omega arith; ether_type = omega arith },
  record
      { pcp = omega arith; vlan_id = omega arith; ether_type = omega arith },
)

ipv4_fits : IpFits ipv4_part 17
ipv4_fits = (
  record {
    dscp = omega arith;
    total_len = omega arith;
    identification = omega arith;
    fragment_offset = omega arith;
    header_checksum = omega arith;
    source = refl;
    destination = refl;
    options = record { fits = omega arith; words = refl };
  },
  tt,
)

not_auth : ◌≢◌ {A = ℕ} 17 51
not_auth e = omega (arith, e)

ipv4_frames : (len : ℕ) → build_refusal (ethernet_packet link_at_literals two_tags ipv4_part) len ≡ None
    → Frames link_at_literals two_tags ipv4_part 17 len
ipv4_frames len written =
    record {
      link_fits = link_fits;
      tags_fit = tags_fit;
      ip_fits = ipv4_fits;
      names_none = not_auth;
      written = written;
    }

pub returns-clause-ipv4 : goal.returns-clause-ipv4
returns-clause-ipv4 c = ipv4_frames 8 refl

pub returns-clause-longest : goal.returns-clause-longest
returns-clause-longest c = ipv4_frames 65515 refl

pub returns-clause-too_long : goal.returns-clause-too_long
returns-clause-too_long c = λ frames. some_none _ frames.written
  where
    some_none : (e : BuildWriteError) → ◌≡◌ {A = Option BuildWriteError} (Some e) None → ⊥
    some_none e h = cc

ipv6_fits : IpFits ipv6_part 17
ipv6_fits = (
  record {
    traffic_class = omega arith;
    flow_label = omega arith;
    payload_length = omega arith;
    source = refl;
    destination = refl;
  },
  refl,
  (refl, record { whole = refl }, refl),
)

pub returns-clause-ipv6 : goal.returns-clause-ipv6
returns-clause-ipv6 c =
    record {
      link_fits = link_fits;
      tags_fit = tt;
      ip_fits = ipv6_fits;
      names_none = refl;
      written = refl;
    }

ipv4_alone : Packets ipv4_part 17 8
ipv4_alone = record { ip_fits = ipv4_fits; names_none = not_auth; written = refl }

pub returns-clause-alone : goal.returns-clause-alone
returns-clause-alone c =
    (ipv4_alone, record { ip_fits = ipv6_fits; names_none = refl; written = refl })

pub returns-clause-cooked : goal.returns-clause-cooked
returns-clause-cooked c =
    record {
      packet_type_fits = omega arith;
      address_len = refl;
      tags_fit = tags_fit;
      packet = ipv4_alone;
    }
