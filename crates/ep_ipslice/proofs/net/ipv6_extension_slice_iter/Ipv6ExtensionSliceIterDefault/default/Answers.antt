use Rattle.std.proofs.Common.{[], refl}
use Rattle.ep_ipslice.proofs.net.ipv6_extension_slice_iter.Ipv6ExtensionSliceIterDefault.default.Goals as goal

pub invariant_of-result : goal.invariant_of-result
invariant_of-result c = ([], [], 59, refl, refl)
