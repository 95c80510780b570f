use Rattle.std.proofs.Common.{◌≡◌, take}
use Rattle.ep_tcpudp.specs.Options.{elements_bytes}
use Rattle.ep_tcpudp.proofs.transport.tcp_options.TcpOptions.try_from_elements.Given as goal

abbrev pub invariant-loop-element : goal.invariant-loop-element
invariant-loop-element l = l.bytes.items ≡ elements_bytes (take l.element-index l.elements)
