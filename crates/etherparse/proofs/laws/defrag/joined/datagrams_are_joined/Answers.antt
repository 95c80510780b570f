use Rattle.std.proofs.Common.{None}
use Rattle.etherparse.specs.PoolCalls.{ShowsLists, lists_with_frame, as_call_result}
use Rattle.etherparse.proofs.JoinedDatagrams.{frame_joins, answers_join}
use Rattle.etherparse.proofs.laws.defrag.joined.datagrams_are_joined.Goals as goal

pub returns-clause-packet : goal.returns-clause-packet
returns-clause-packet c old new class time channel result p sound lists shows accepted =
    frame_joins lists accepted (ShowsLists new) (lists_with_frame lists class time channel) class
    channel None (as_call_result result)
    (c.packets_are_answered.ensures old new class time channel result p sound None lists shows)

pub returns-clause-calls : goal.returns-clause-calls
returns-clause-calls c pool = answers_join (ShowsLists pool)
