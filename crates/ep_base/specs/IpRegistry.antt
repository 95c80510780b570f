-- IANA's registry Assigned Internet Protocol Numbers, as of 2023-04-11.
use Rattle.std.specs.Prelude.{ℕ, ◌==◌, List, [], ◌∷◌, find, map, take, slice_index_or, Option, Some, None, codes, unwrap_or}
use Rattle.std.specs.Option.{option_and_then}

pub record Assignment : Type 0 where
  pub number : ℕ
  pub keyword : Option (List ℕ)
  pub protocol : Option (List ℕ)

abbrev pub row : ℕ → Option (List ℕ) → Option (List ℕ) → Assignment
row number keyword protocol = record { number = number; keyword = keyword; protocol = protocol }

-- Its rows, but for those of numbers that are not assigned. Written by tools/assigned_numbers.
abbrev pub registry : List Assignment
registry =
    row 0 (Some (codes "HOPOPT")) (Some (codes "IPv6 Hop-by-Hop Option")) ∷
    row 1 (Some (codes "ICMP")) (Some (codes "Internet Control Message")) ∷
    row 2 (Some (codes "IGMP")) (Some (codes "Internet Group Management")) ∷
    row 3 (Some (codes "GGP")) (Some (codes "Gateway-to-Gateway")) ∷
    row 4 (Some (codes "IPv4")) (Some (codes "IPv4 encapsulation")) ∷
    row 5 (Some (codes "ST")) (Some (codes "Stream")) ∷
    row 6 (Some (codes "TCP")) (Some (codes "Transmission Control")) ∷
    row 7 (Some (codes "CBT")) (Some (codes "CBT")) ∷
    row 8 (Some (codes "EGP")) (Some (codes "Exterior Gateway Protocol")) ∷
    row 9 (Some (codes "IGP")) (Some (codes "any private interior gateway (used by Cisco for their IGRP)")) ∷
    row 10 (Some (codes "BBN-RCC-MON")) (Some (codes "BBN RCC Monitoring")) ∷
    row 11 (Some (codes "NVP-II")) (Some (codes "Network Voice Protocol")) ∷
    row 12 (Some (codes "PUP")) (Some (codes "PUP")) ∷
    row 13 (Some (codes "ARGUS (deprecated)")) (Some (codes "ARGUS")) ∷
    row 14 (Some (codes "EMCON")) (Some (codes "EMCON")) ∷
    row 15 (Some (codes "XNET")) (Some (codes "Cross Net Debugger")) ∷
    row 16 (Some (codes "CHAOS")) (Some (codes "Chaos")) ∷
    row 17 (Some (codes "UDP")) (Some (codes "User Datagram")) ∷
    row 18 (Some (codes "MUX")) (Some (codes "Multiplexing")) ∷
    row 19 (Some (codes "DCN-MEAS")) (Some (codes "DCN Measurement Subsystems")) ∷
    row 20 (Some (codes "HMP")) (Some (codes "Host Monitoring")) ∷
    row 21 (Some (codes "PRM")) (Some (codes "Packet Radio Measurement")) ∷
    row 22 (Some (codes "XNS-IDP")) (Some (codes "XEROX NS IDP")) ∷
    row 23 (Some (codes "TRUNK-1")) (Some (codes "Trunk-1")) ∷
    row 24 (Some (codes "TRUNK-2")) (Some (codes "Trunk-2")) ∷
    row 25 (Some (codes "LEAF-1")) (Some (codes "Leaf-1")) ∷
    row 26 (Some (codes "LEAF-2")) (Some (codes "Leaf-2")) ∷
    row 27 (Some (codes "RDP")) (Some (codes "Reliable Data Protocol")) ∷
    row 28 (Some (codes "IRTP")) (Some (codes "Internet Reliable Transaction")) ∷
    row 29 (Some (codes "ISO-TP4")) (Some (codes "ISO Transport Protocol Class 4")) ∷
    row 30 (Some (codes "NETBLT")) (Some (codes "Bulk Data Transfer Protocol")) ∷
    row 31 (Some (codes "MFE-NSP")) (Some (codes "MFE Network Services Protocol")) ∷
    row 32 (Some (codes "MERIT-INP")) (Some (codes "MERIT Internodal Protocol")) ∷
    row 33 (Some (codes "DCCP")) (Some (codes "Datagram Congestion Control Protocol")) ∷
    row 34 (Some (codes "3PC")) (Some (codes "Third Party Connect Protocol")) ∷
    row 35 (Some (codes "IDPR")) (Some (codes "Inter-Domain Policy Routing Protocol")) ∷
    row 36 (Some (codes "XTP")) (Some (codes "XTP")) ∷
    row 37 (Some (codes "DDP")) (Some (codes "Datagram Delivery Protocol")) ∷
    row 38 (Some (codes "IDPR-CMTP")) (Some (codes "IDPR Control Message Transport Proto")) ∷
    row 39 (Some (codes "TP++")) (Some (codes "TP++ Transport Protocol")) ∷
    row 40 (Some (codes "IL")) (Some (codes "IL Transport Protocol")) ∷
    row 41 (Some (codes "IPv6")) (Some (codes "IPv6 encapsulation")) ∷
    row 42 (Some (codes "SDRP")) (Some (codes "Source Demand Routing Protocol")) ∷
    row 43 (Some (codes "IPv6-Route")) (Some (codes "Routing Header for IPv6")) ∷
    row 44 (Some (codes "IPv6-Frag")) (Some (codes "Fragment Header for IPv6")) ∷
    row 45 (Some (codes "IDRP")) (Some (codes "Inter-Domain Routing Protocol")) ∷
    row 46 (Some (codes "RSVP")) (Some (codes "Reservation Protocol")) ∷
    row 47 (Some (codes "GRE")) (Some (codes "Generic Routing Encapsulation")) ∷
    row 48 (Some (codes "DSR")) (Some (codes "Dynamic Source Routing Protocol")) ∷
    row 49 (Some (codes "BNA")) (Some (codes "BNA")) ∷
    row 50 (Some (codes "ESP")) (Some (codes "Encap Security Payload")) ∷
    row 51 (Some (codes "AH")) (Some (codes "Authentication Header")) ∷
    row 52 (Some (codes "I-NLSP")) (Some (codes "Integrated Net Layer Security TUBA")) ∷
    row 53 (Some (codes "SWIPE (deprecated)")) (Some (codes "IP with Encryption")) ∷
    row 54 (Some (codes "NARP")) (Some (codes "NBMA Address Resolution Protocol")) ∷
    row 55 (Some (codes "MOBILE")) (Some (codes "IP Mobility")) ∷
    row 56 (Some (codes "TLSP")) (Some (codes "Transport Layer Security Protocol using Kryptonet key management")) ∷
    row 57 (Some (codes "SKIP")) (Some (codes "SKIP")) ∷
    row 58 (Some (codes "IPv6-ICMP")) (Some (codes "ICMP for IPv6")) ∷
    row 59 (Some (codes "IPv6-NoNxt")) (Some (codes "No Next Header for IPv6")) ∷
    row 60 (Some (codes "IPv6-Opts")) (Some (codes "Destination Options for IPv6")) ∷
    row 61 None (Some (codes "any host internal protocol")) ∷
    row 62 (Some (codes "CFTP")) (Some (codes "CFTP")) ∷
    row 63 None (Some (codes "any local network")) ∷
    row 64 (Some (codes "SAT-EXPAK")) (Some (codes "SATNET and Backroom EXPAK")) ∷
    row 65 (Some (codes "KRYPTOLAN")) (Some (codes "Kryptolan")) ∷
    row 66 (Some (codes "RVD")) (Some (codes "MIT Remote Virtual Disk Protocol")) ∷
    row 67 (Some (codes "IPPC")) (Some (codes "Internet Pluribus Packet Core")) ∷
    row 68 None (Some (codes "any distributed file system")) ∷
    row 69 (Some (codes "SAT-MON")) (Some (codes "SATNET Monitoring")) ∷
    row 70 (Some (codes "VISA")) (Some (codes "VISA Protocol")) ∷
    row 71 (Some (codes "IPCV")) (Some (codes "Internet Packet Core Utility")) ∷
    row 72 (Some (codes "CPNX")) (Some (codes "Computer Protocol Network Executive")) ∷
    row 73 (Some (codes "CPHB")) (Some (codes "Computer Protocol Heart Beat")) ∷
    row 74 (Some (codes "WSN")) (Some (codes "Wang Span Network")) ∷
    row 75 (Some (codes "PVP")) (Some (codes "Packet Video Protocol")) ∷
    row 76 (Some (codes "BR-SAT-MON")) (Some (codes "Backroom SATNET Monitoring")) ∷
    row 77 (Some (codes "SUN-ND")) (Some (codes "SUN ND PROTOCOL-Temporary")) ∷
    row 78 (Some (codes "WB-MON")) (Some (codes "WIDEBAND Monitoring")) ∷
    row 79 (Some (codes "WB-EXPAK")) (Some (codes "WIDEBAND EXPAK")) ∷
    row 80 (Some (codes "ISO-IP")) (Some (codes "ISO Internet Protocol")) ∷
    row 81 (Some (codes "VMTP")) (Some (codes "VMTP")) ∷
    row 82 (Some (codes "SECURE-VMTP")) (Some (codes "SECURE-VMTP")) ∷
    row 83 (Some (codes "VINES")) (Some (codes "VINES")) ∷
    row 84 (Some (codes "IPTM")) (Some (codes "Internet Protocol Traffic Manager")) ∷
    row 85 (Some (codes "NSFNET-IGP")) (Some (codes "NSFNET-IGP")) ∷
    row 86 (Some (codes "DGP")) (Some (codes "Dissimilar Gateway Protocol")) ∷
    row 87 (Some (codes "TCF")) (Some (codes "TCF")) ∷
    row 88 (Some (codes "EIGRP")) (Some (codes "EIGRP")) ∷
    row 89 (Some (codes "OSPFIGP")) (Some (codes "OSPFIGP")) ∷
    row 90 (Some (codes "Sprite-RPC")) (Some (codes "Sprite RPC Protocol")) ∷
    row 91 (Some (codes "LARP")) (Some (codes "Locus Address Resolution Protocol")) ∷
    row 92 (Some (codes "MTP")) (Some (codes "Multicast Transport Protocol")) ∷
    row 93 (Some (codes "AX.25")) (Some (codes "AX.25 Frames")) ∷
    row 94 (Some (codes "IPIP")) (Some (codes "IP-within-IP Encapsulation Protocol")) ∷
    row 95 (Some (codes "MICP (deprecated)")) (Some (codes "Mobile Internetworking Control Pro.")) ∷
    row 96 (Some (codes "SCC-SP")) (Some (codes "Semaphore Communications Sec. Pro.")) ∷
    row 97 (Some (codes "ETHERIP")) (Some (codes "Ethernet-within-IP Encapsulation")) ∷
    row 98 (Some (codes "ENCAP")) (Some (codes "Encapsulation Header")) ∷
    row 99 None (Some (codes "any private encryption scheme")) ∷
    row 100 (Some (codes "GMTP")) (Some (codes "GMTP")) ∷
    row 101 (Some (codes "IFMP")) (Some (codes "Ipsilon Flow Management Protocol")) ∷
    row 102 (Some (codes "PNNI")) (Some (codes "PNNI over IP")) ∷
    row 103 (Some (codes "PIM")) (Some (codes "Protocol Independent Multicast")) ∷
    row 104 (Some (codes "ARIS")) (Some (codes "ARIS")) ∷
    row 105 (Some (codes "SCPS")) (Some (codes "SCPS")) ∷
    row 106 (Some (codes "QNX")) (Some (codes "QNX")) ∷
    row 107 (Some (codes "A/N")) (Some (codes "Active Networks")) ∷
    row 108 (Some (codes "IPComp")) (Some (codes "IP Payload Compression Protocol")) ∷
    row 109 (Some (codes "SNP")) (Some (codes "Sitara Networks Protocol")) ∷
    row 110 (Some (codes "Compaq-Peer")) (Some (codes "Compaq Peer Protocol")) ∷
    row 111 (Some (codes "IPX-in-IP")) (Some (codes "IPX in IP")) ∷
    row 112 (Some (codes "VRRP")) (Some (codes "Virtual Router Redundancy Protocol")) ∷
    row 113 (Some (codes "PGM")) (Some (codes "PGM Reliable Transport Protocol")) ∷
    row 114 None (Some (codes "any 0-hop protocol")) ∷
    row 115 (Some (codes "L2TP")) (Some (codes "Layer Two Tunneling Protocol")) ∷
    row 116 (Some (codes "DDX")) (Some (codes "D-II Data Exchange (DDX)")) ∷
    row 117 (Some (codes "IATP")) (Some (codes "Interactive Agent Transfer Protocol")) ∷
    row 118 (Some (codes "STP")) (Some (codes "Schedule Transfer Protocol")) ∷
    row 119 (Some (codes "SRP")) (Some (codes "SpectraLink Radio Protocol")) ∷
    row 120 (Some (codes "UTI")) (Some (codes "UTI")) ∷
    row 121 (Some (codes "SMP")) (Some (codes "Simple Message Protocol")) ∷
    row 122 (Some (codes "SM (deprecated)")) (Some (codes "Simple Multicast Protocol")) ∷
    row 123 (Some (codes "PTP")) (Some (codes "Performance Transparency Protocol")) ∷
    row 124 (Some (codes "ISIS over IPv4")) None ∷
    row 125 (Some (codes "FIRE")) None ∷
    row 126 (Some (codes "CRTP")) (Some (codes "Combat Radio Transport Protocol")) ∷
    row 127 (Some (codes "CRUDP")) (Some (codes "Combat Radio User Datagram")) ∷
    row 128 (Some (codes "SSCOPMCE")) None ∷
    row 129 (Some (codes "IPLT")) None ∷
    row 130 (Some (codes "SPS")) (Some (codes "Secure Packet Shield")) ∷
    row 131 (Some (codes "PIPE")) (Some (codes "Private IP Encapsulation within IP")) ∷
    row 132 (Some (codes "SCTP")) (Some (codes "Stream Control Transmission Protocol")) ∷
    row 133 (Some (codes "FC")) (Some (codes "Fibre Channel")) ∷
    row 134 (Some (codes "RSVP-E2E-IGNORE")) None ∷
    row 135 (Some (codes "Mobility Header")) None ∷
    row 136 (Some (codes "UDPLite")) None ∷
    row 137 (Some (codes "MPLS-in-IP")) None ∷
    row 138 (Some (codes "manet")) (Some (codes "MANET Protocols")) ∷
    row 139 (Some (codes "HIP")) (Some (codes "Host Identity Protocol")) ∷
    row 140 (Some (codes "Shim6")) (Some (codes "Shim6 Protocol")) ∷
    row 141 (Some (codes "WESP")) (Some (codes "Wrapped Encapsulating Security Payload")) ∷
    row 142 (Some (codes "ROHC")) (Some (codes "Robust Header Compression")) ∷
    row 143 (Some (codes "Ethernet")) (Some (codes "Ethernet")) ∷
    row 144 (Some (codes "AGGFRAG")) (Some (codes "AGGFRAG encapsulation payload for ESP")) ∷
    row 253 None (Some (codes "Use for experimentation and testing")) ∷
    row 254 None (Some (codes "Use for experimentation and testing")) ∷
    row 255 (Some (codes "Reserved")) None ∷
    []

abbrev pub assignment_of : ℕ → Option Assignment
assignment_of number = find (λ row. row.number == number) registry

abbrev pub keyword_of : ℕ → Option (List ℕ)
keyword_of number = option_and_then (λ row. row.keyword) (assignment_of number)

abbrev pub protocol_of : ℕ → Option (List ℕ)
protocol_of number = option_and_then (λ row. row.protocol) (assignment_of number)

-- the texts of the numbers from 0 to 144, empty where the registry has none
abbrev pub texts_of : (Assignment → Option (List ℕ)) → List (List ℕ)
texts_of text = map (λ row. unwrap_or (text row) []) (take 145 registry)

abbrev pub unless_empty : List ℕ → Option (List ℕ)
unless_empty [] = None
unless_empty (code ∷ codes) = Some (code ∷ codes)

abbrev pub text_at : List (List ℕ) → ℕ → Option (List ℕ)
text_at texts index = unless_empty (slice_index_or texts index [])
