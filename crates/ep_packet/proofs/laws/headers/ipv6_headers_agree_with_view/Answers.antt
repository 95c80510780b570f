use Rattle.ep_packet.proofs.Agreement.{agree}
use Rattle.ep_packet.proofs.laws.headers.ipv6_headers_agree_with_view.Goals as goal

pub returns : goal.returns
returns c = agree c.args.slice.now c.rows_in_slots_are_views.ensures c.ipv6_packet_is_alone.ensures
