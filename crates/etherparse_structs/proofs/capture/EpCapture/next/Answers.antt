use Rattle.std.proofs.Common.{◌++◌}
use Rattle.captures.specs.Parsers.{HasParsed}
use Rattle.captures.specs.declared.reading.packet_parser.PacketParser.{PacketParser}
use Rattle.etherparse_structs.specs.Capture.{IsFound}
use Rattle.etherparse_structs.proofs.CaptureLemmas.{put_parser, taken_parser}
use Rattle.etherparse_structs.proofs.capture.EpCapture.next.Goals as goal

pub returns-clause-answers : goal.returns-clause-answers
returns-clause-answers c unfit read left more given has same =
    put_parser _ _
    (λ (parser : PacketParser). IsFound unfit parser (read ++ more) c.args.bytes.now given c.next_in-found.result)
    c.put.ensures.held c.put.ensures.opened
    (c.next_in-found.ensures.found unfit read left more given
    (taken_parser _ _ _ (λ (parser : PacketParser). HasParsed unfit parser read left given) has
    c.taken-opened.ensures.opened c.deref_mut.ensures.value) same)
