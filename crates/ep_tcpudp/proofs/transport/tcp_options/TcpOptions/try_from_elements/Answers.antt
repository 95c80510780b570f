use Rattle.ep_tcpudp.proofs.OptionsBytes.{elements_fit}
use Rattle.ep_tcpudp.proofs.transport.tcp_options.TcpOptions.try_from_elements.Goals as goal

pub write_to-requires : goal.write_to-requires
write_to-requires c =
    elements_fit c.args.elements.now c.loop-element.element-index c.elements_len-len.result
    c.loop-element.bytes.items _ c.loop-element-test.true c.loop-element.invariant
    c.elements_len-len.ensures c.if-len-gt-MAX_LEN.false
