use Rattle.std.proofs.Common.{subst, ◌≡◌, rules}
use Rattle.ep_packet.specs.Class.{as_class}
use Rattle.ep_packet.specs.declared.class.Class.TheVariants as cut
use Rattle.etherparse.specs.Processed.{Processed}
use Rattle.etherparse.specs.Timestamps.{pool_by}
use Rattle.packets.proofs.StartedLemmas.{pool_answered}
use Rattle.packets.proofs.HeldLemmas.{order_answered}
use Rattle.packets.proofs.FragmentLemmas.{name_of_fragment, fragment_found, fragment_processed}
use Rattle.packets.specs.Started.{received_with}
use Rattle.packets.specs.declared.datagrams.Received.{Received}
use Rattle.packets.proofs.datagrams.Datagrams.take_fragment.Goals as goal

pub returns-clause-answers : goal.returns-clause-answers
returns-clause-answers g c lists shows =
    let call = c.process_fragment_with-before in
    let e = call.ensures in
    let arrival = c.args.arrival in
    let old = c.args.self.now.pool in
    let new = call.new.self in
    let now = e.accepted.0 in
    let is : now ≡ received_with arrival.number arrival.time call.result.0 = search rules in
    let last = λ (r : Received). r.last in
    let processed = c.processed_packets_are_read.ensures last old new
    (as_class (cut.Cut c.args.message)) now arrival.interface call.result.1
    (fragment_processed old new c.args.message now arrival.interface call.result.1 e.accepted.2 e.refused
    e.others e.err) in
    fragment_found c.packets_are_answered.ensures c.memory_errors_are_reported.ensures (pool_by last old)
    (pool_by last new) c.args.message arrival.time arrival.interface call.result.1
    (subst (λ (r : Received). Processed (pool_by last old) (as_class (cut.Cut c.args.message)) r.last
    arrival.interface call.result.1 (pool_by last new)) is processed)
    lists shows c.found_in.result c.found_in.ensures.reported

pub returns-clause-started : goal.returns-clause-started
returns-clause-started g c lists started shows kept =
    let call = c.process_fragment_with-before in
    let e = call.ensures in
    let arrival = c.args.arrival in
    let message = c.args.message in
    let now = e.accepted.0 in
    let is : now ≡ received_with arrival.number arrival.time call.result.0 = search rules in
    pool_answered c.equal_names.ensures.components c.equal_names.ensures.same
    c.timestamps_are_read.ensures.timestamp c.timestamps_are_read.ensures.fragments c.args.self.now
    (record { pool = call.new.self }) lists started (name_of_fragment message) message.fragment.offset
    message.fragment.more_fragments message.fragment.bytes.now arrival.interface arrival.number arrival.time
    call.result.1 call.result.0 now e.before is e.accepted.2 e.others e.err shows kept
    c.found_in.result c.found_in.ensures.reported
    (rw (c.unwrap_or.ensures, c.first_in-known.ensures) at c.found_in.ensures.started)

pub returns-clause-order : goal.returns-clause-order
returns-clause-order g c lists order shows has =
    let call = c.process_fragment_with-before in
    let e = call.ensures in
    let arrival = c.args.arrival in
    let message = c.args.message in
    order_answered c.timestamps_are_read.ensures.fragments c.equal_names.ensures.components c.args.self.now
    (record { pool = call.new.self }) lists order (name_of_fragment message) message.fragment.offset
    message.fragment.more_fragments message.fragment.bytes.now arrival.interface arrival.time
    call.result.1 e.accepted.0 e.starts e.accepted.2 e.err shows has c.found_in.result
    (returns-clause-answers g c)
