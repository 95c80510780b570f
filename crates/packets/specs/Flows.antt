-- What is counted of conversations.
use Rattle.std.specs.Prelude.{◌≡◌, ℕ, ◌-◌, ◌||◌, ◌&&◌, ◌==◌, not, if◌then◌else◌, Bool, true, false, List, filter, find, length, map, sum_by}
use Rattle.std.specs.Prelude.{Option, Some, None, is_some, unwrap_or}
use Rattle.std.specs.List.{list_any}
use Rattle.std.specs.Option.{option_map}
use Rattle.captures.specs.Numbers.{capped}
use Rattle.packets.specs.Period.{earliest_of, latest_of}
use Rattle.packets.specs.Conversations.{is_left_out, is_without_ip, turned}
use Rattle.packets.specs.Table.{CountsBy}
use Rattle.packets.specs.Tally.{tally_of}
use Rattle.packets.specs.declared.flows.conversation.Conversation.{Conversation}
use Rattle.packets.specs.declared.flows.conversation_counts.ConversationCounts.{ConversationCounts}
use Rattle.packets.specs.declared.flows.conversation_counts.DirectionCounts.{DirectionCounts}
use Rattle.packets.specs.declared.flows.counted_flows.CountedFlows.{CountedFlows}
use Rattle.packets.specs.declared.flows.row.Row.{Row}
use Rattle.packets.specs.declared.flows.row.TcpColumn.{TcpColumn}
use Rattle.packets.specs.declared.flows.row.TcpColumn.TheVariants as column
use Rattle.packets.specs.declared.flows.transfer.Flags.{Flags}
use Rattle.packets.specs.declared.flows.transfer.Transfer.{Transfer}
use Rattle.packets.specs.declared.outline.Outline.{Outline}
use Rattle.packets.specs.declared.summary.period.Period.{Period}

abbrev pub joined_flags : Flags → Flags → Flags
joined_flags one other = record {
  syn = one.syn || other.syn;
  no_syn = one.no_syn || other.no_syn;
  fin = one.fin || other.fin;
  rst = one.rst || other.rst;
}

-- how many packets these are, how many bytes they had on the wire, and the flags that some of them
-- have
abbrev pub direction_counts : List Transfer → DirectionCounts
direction_counts packets = record {
  packets = capped (length packets);
  bytes = capped (sum_by (λ packet. packet.outline.wire_len) packets);
  flags = record {
    syn = list_any (λ packet. packet.flags.syn) packets;
    no_syn = list_any (λ packet. packet.flags.no_syn) packets;
    fin = list_any (λ packet. packet.flags.fin) packets;
    rst = list_any (λ packet. packet.flags.rst) packets;
  };
}

abbrev pub outlines : List Transfer → List Outline
outlines packets = map (λ packet. packet.outline) packets

-- of the packets of a conversation: those of each direction, the earliest and the latest time of all,
-- and the direction of the first
abbrev pub conversation_counts : List Transfer → ConversationCounts
conversation_counts packets = record {
  ascending = direction_counts (filter (λ packet. packet.ascends) packets);
  descending = direction_counts (filter (λ packet. not packet.ascends) packets);
  period = record {
    earliest = earliest_of (outlines packets);
    latest = latest_of (outlines packets);
  };
  begins_ascending = option_map (λ packet. packet.ascends) (find (λ packet. true) packets);
}

-- the same of packets of a kind
abbrev pub conversation_counts_of : (Transfer → Bool) → List Transfer → ConversationCounts
conversation_counts_of is_of_kind packets = conversation_counts (filter is_of_kind packets)

-- the conversations are those of the packets, each once, and of each its packets are counted; so are
-- the packets that are in none
pub record CountsFlows {S H : Type 0} (same : Conversation → Conversation → Bool) (flows : CountedFlows S H)
    (packets : List Transfer) : Type 0 where
  pub all : flows.all ≡ tally_of (λ packet. true) (outlines packets)
  pub refused : flows.refused ≡ tally_of is_left_out (outlines packets)
  pub without_ip : flows.without_ip ≡ tally_of is_without_ip (outlines packets)
  pub conversations : CountsBy conversation_counts_of same (λ packet. packet.conversation) flows.conversations packets

-- ---- what is reported of them

abbrev pub row_from : (is_ascending : Bool) → Conversation → ConversationCounts → Row
row_from true conversation flow = record {
  conversation = conversation;
  forward = flow.ascending;
  backward = flow.descending;
  period = flow.period;
}
row_from false conversation flow = record {
  conversation = turned conversation;
  forward = flow.descending;
  backward = flow.ascending;
  period = flow.period;
}

-- in the direction of the first packet
abbrev pub row_of : Conversation × ConversationCounts → Row
row_of entry = row_from (unwrap_or entry.1.begins_ascending true) entry.0 entry.1

-- from the earliest packet to the latest
abbrev pub time_between : (earliest latest : Option ℕ) → ℕ
time_between None latest = 0
time_between (Some earliest) None = 0
time_between (Some earliest) (Some latest) = latest - earliest

abbrev pub duration_of : Period → ℕ
duration_of period = time_between period.earliest period.latest

-- how far a TCP connection came, by the flags that were seen in each direction
abbrev pub tcp_column_by : (forward backward : Flags) → TcpColumn
tcp_column_by forward backward = if forward.rst || backward.rst then column.Reset
    else if forward.syn && backward.syn && forward.fin && backward.fin then column.Ended
    else if forward.no_syn || backward.no_syn then column.Open
    else column.SynOnly

-- of segments whose ports are known; the protocol number of TCP is 6
abbrev pub tcp_column_of : Row → Option TcpColumn
tcp_column_of row =
    if (row.conversation.protocol.0 == 6) && is_some row.conversation.ports
    then Some (tcp_column_by row.forward.flags row.backward.flags) else None
