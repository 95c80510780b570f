-- An option of a TCP header, as fields and numbers.
use Rattle.std.specs.Prelude.{ℕ, ◌+◌, ◌==◌, if◌then◌else◌, List, [], ◌∷◌, map, Option, Some, None, Result, Ok, Err}
use Rattle.etherparse.specs.tcpudp.Options.{items_of}
use Rattle.etherparse.specs.tcpudp.declared.transport.tcp_option_element.TcpOptionElement.{TcpOptionElement}
use Rattle.etherparse.specs.tcpudp.declared.transport.tcp_option_element.TcpOptionElement.TheVariants as element
use Rattle.etherparse.specs.tcpudp.declared.transport.tcp_option_read_error.TcpOptionReadError.{TcpOptionReadError}
use Rattle.etherparse.specs.tcpudp.declared.transport.tcp_option_read_error.TcpOptionReadError.TheVariants as fault
use Rattle.etherparse_structs.specs.Part.{part_bytes}
use Rattle.etherparse_structs.specs.declared.part.EpPart.{EpPart}
use Rattle.etherparse_structs.specs.declared.tcp_option.EpTcpBlock.{EpTcpBlock}
use Rattle.etherparse_structs.specs.declared.tcp_option.EpTcpOption.{EpTcpOption}

abbrev pub block_struct : Option (ℕ × ℕ) → EpTcpBlock
block_struct None = record { left_edge = 0; right_edge = 0 }
block_struct (Some block) = record { left_edge = block.0; right_edge = block.1 }

abbrev pub no_tcp_option : EpTcpOption
no_tcp_option = record {
  blocks = map block_struct (None ∷ None ∷ None ∷ None ∷ []);
  there = 0;
  timestamp = 0;
  echoed_timestamp = 0;
  fault = 0;
  block_count = 0;
  maximum_segment_size = 0;
  kind = 0;
  window_scale = 0;
  needed = 0;
  stated_len = 0;
}

-- how many blocks are there
abbrev pub blocks_there : List (Option (ℕ × ℕ)) → ℕ
blocks_there [] = 0
blocks_there (None ∷ blocks) = blocks_there blocks
blocks_there (Some block ∷ blocks) = 1 + blocks_there blocks

-- an option by the number of its kind (RFC 9293, section 3.2; RFC 7323; RFC 2018)
abbrev pub element_struct : TcpOptionElement → EpTcpOption
element_struct element.Noop = record no_tcp_option { kind = 1 }
element_struct (element.MaximumSegmentSize most) =
    record no_tcp_option { kind = 2; maximum_segment_size = most }
element_struct (element.WindowScale shift) = record no_tcp_option { kind = 3; window_scale = shift }
element_struct element.SelectiveAcknowledgementPermitted = record no_tcp_option { kind = 4 }
element_struct (element.SelectiveAcknowledgement first rest) = record no_tcp_option {
  kind = 5;
  block_count = blocks_there (Some first ∷ rest);
  blocks = map block_struct (Some first ∷ rest);
}
element_struct (element.Timestamp value reply) =
    record no_tcp_option { kind = 8; timestamp = value; echoed_timestamp = reply }

-- why the bytes are no option
abbrev pub fault_struct : TcpOptionReadError → EpTcpOption
fault_struct (fault.UnexpectedEndOfSlice id least most) =
    record no_tcp_option { kind = id; fault = 1; needed = least; there = most }
fault_struct (fault.UnexpectedSize id long) =
    record no_tcp_option { kind = id; fault = 2; stated_len = long }
fault_struct (fault.UnknownId id) = record no_tcp_option { kind = id; fault = 3 }

-- an item of a list of options
abbrev pub option_struct : Result TcpOptionElement TcpOptionReadError → EpTcpOption
option_struct (Ok element) = element_struct element
option_struct (Err fault) = fault_struct fault

-- the next item, where there is one
abbrev pub option_struct_in : Option (Result TcpOptionElement TcpOptionReadError) → EpTcpOption
option_struct_in None = no_tcp_option
option_struct_in (Some item) = option_struct item

-- an option of kind 0 ends the list and is none
abbrev pub some_option : EpTcpOption → Option EpTcpOption
some_option option = if option.kind == 0 then None else Some option

-- all options of this part of the bytes, in their order; a fault is the last
abbrev pub options_left : List ℕ → EpPart → List EpTcpOption
options_left bytes left = map option_struct (items_of (part_bytes bytes left))
