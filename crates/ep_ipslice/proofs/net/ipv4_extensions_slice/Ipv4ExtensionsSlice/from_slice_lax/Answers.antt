use Rattle.ep_ext.proofs.Found.{auth_after_found}
use Rattle.ep_ipslice.proofs.net.ipv4_extensions_slice.Ipv4ExtensionsSlice.from_slice_lax.Goals as goal

pub returns-in-Ok : goal.returns-in-Ok
returns-in-Ok c = (
  (auth_after_found c.args.first.0 c.args.slice.now c.in-Ok.extensions.auth
      c.in-Ok.ensures.exact.0).1.named,
  c.in-Ok.ensures.exact.1,
  c.in-Ok.ensures.exact.2,
)
