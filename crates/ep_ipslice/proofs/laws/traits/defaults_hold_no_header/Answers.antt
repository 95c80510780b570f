use Rattle.std.proofs.Common.{[], ◌∙◌, ap, refl}
use Rattle.ep_ipslice.specs.Ipv6Walk.{HeadersLeft, headers_left}
use Rattle.ep_ipslice.proofs.Left.{none_left}
use Rattle.ep_ipslice.proofs.laws.traits.defaults_hold_no_header.Goals as goal

pub returns-clause-ipv6_extension_slice_iter : goal.returns-clause-ipv6_extension_slice_iter
returns-clause-ipv6_extension_slice_iter c = λ left is. (
  ap (λ (l : HeadersLeft). l.next_header) is,
  ap headers_left is ∙ none_left 59 [] refl,
)
