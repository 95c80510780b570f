use Rattle.std.proofs.Common.{Ok, sym, subst, Option}
use Rattle.ep_base.specs.declared.err.slice_error.SliceError.{SliceError}
use Rattle.ep_ip.proofs.Ipv4Prefix.{takes_header}
use Rattle.ep_ext.specs.declared.err.ip_auth.header_error.HeaderError.{HeaderError as AuthFault}
use Rattle.ep_ext.specs.declared.net.ipv6_ext_slot.Ipv6ExtSlot.TheVariants.{Authentication}
use Rattle.ep_ipslice.specs.Ipv4Lax.{IsLaxAnswer}
use Rattle.ep_ipslice.proofs.LaxIpv4.{read_whole}
use Rattle.ep_ipslice.proofs.net.lax_ipv4_slice.LaxIpv4Slice.from_slice.Goals as goal

pub returns-in-None : goal.returns-in-None
returns-in-None c =
    let lax = c.from_slice_lax-exts in
    let body = c.body_of-len_source in
    record {
      exact = read_whole (c.whole_header_is_found.ensures.found Authentication) c.args.slice.now
          c.in-Ok.header body.result.0.now lax.result.2.now lax.result.0.auth c.protocol.result
          lax.result.1 body.result.2 c.is_fragmenting_payload-fragmented.result body.result.1
          (record {
            at = sym c.in-Ok.ensures.exact;
            named = c.protocol.ensures;
            taken = body.ensures.bytes;
            cut = body.ensures.incomplete;
            flag = c.is_fragmenting_payload-fragmented.ensures;
            bounded = body.ensures.source;
          })
          (subst (λ (o : Option (SliceError AuthFault)). IsLaxAnswer c.protocol.result
          body.result.0.now lax.result.0.auth lax.result.1 lax.result.2.now o)
          c.in-None.is lax.ensures);
    }

pub body_of-len_source-requires : goal.body_of-len_source-requires
body_of-len_source-requires c =
    (takes_header c.args.slice.now (Ok c.in-Ok.header) c.in-Ok.ensures.exact).found.1
