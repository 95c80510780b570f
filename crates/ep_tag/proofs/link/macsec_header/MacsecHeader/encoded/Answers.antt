use Rattle.std.proofs.Common.{arith}
use Rattle.ep_tag.proofs.link.macsec_header.MacsecHeader.encoded.Goals as goal

pub returns-clause-fits : goal.returns-clause-fits
returns-clause-fits c = record {
  an = c.first_byte.ensures.small;
  short_len = rw c.value.ensures.value at c.value.ensures.small;
  packet_nr = omega arith;
  sci = c.push_sci.ensures.fits;
  ether_type = c.push_ether_type.ensures.fits;
}
