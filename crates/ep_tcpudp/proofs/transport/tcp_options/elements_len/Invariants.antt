use Rattle.std.proofs.Common.{◌≡◌, ◌-◌, ◌^◌, min, length, take}
use Rattle.ep_tcpudp.specs.Options.{elements_bytes}
use Rattle.ep_tcpudp.proofs.transport.tcp_options.elements_len.Given as goal

abbrev pub invariant-loop-element : goal.invariant-loop-element
invariant-loop-element l =
    l.len ≡ min (length (elements_bytes (take l.element-index l.elements))) (2 ^ 64 - 1)
