-- What a link header is in the end, where a `&mut` to its fields was returned.
use Rattle.std.specs.Prelude.{Option}
use Rattle.std.specs.Borrow.{Fml, LendsIf, MutBor}
use Rattle.ep_link.specs.contracts.link.ethernet2_header.Ethernet2Header.{the_row as ethernet2_row}
use Rattle.ep_link.specs.contracts.link.link_header.LinkHeader.{the_row}
use Rattle.ep_link.specs.contracts.link.linux_sll_header.LinuxSllHeader.{the_row as linux_sll_row}
use Rattle.ep_link.specs.declared.link.ethernet2_header.Ethernet2Header.{Ethernet2Header}
use Rattle.ep_link.specs.declared.link.link_header.LinkHeader.{LinkHeader}
use Rattle.ep_link.specs.declared.link.link_header.LinkHeader.TheVariants.{Ethernet2, LinuxSll}
use Rattle.ep_link.specs.declared.link.linux_sll_header.LinuxSllHeader.{LinuxSllHeader}

-- once the borrow r ends, the link header is the one that r shows last; without one it is as before
abbrev pub lends_ethernet2 : MutBor LinkHeader → Option (MutBor Ethernet2Header) → Fml
lends_ethernet2 link r = LendsIf the_row ethernet2_row link r (λ h. Ethernet2 h) link.now

abbrev pub lends_linux_sll : MutBor LinkHeader → Option (MutBor LinuxSllHeader) → Fml
lends_linux_sll link r = LendsIf the_row linux_sll_row link r (λ h. LinuxSll h) link.now
