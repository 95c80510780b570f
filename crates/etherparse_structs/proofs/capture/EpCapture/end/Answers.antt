use Rattle.std.proofs.Common.{None, subst}
use Rattle.captures.specs.Parsers.{LeavesOff}
use Rattle.captures.specs.declared.reading.packet_parser.PacketParser.{PacketParser}
use Rattle.etherparse_structs.specs.Capture.{IsEnd}
use Rattle.etherparse_structs.specs.declared.capture_box.CaptureBox.{CaptureBox}
use Rattle.etherparse_structs.proofs.CaptureLemmas.{put_parser, taken_parser}
use Rattle.etherparse_structs.proofs.capture.EpCapture.end.Goals as goal

pub returns-clause-answers : goal.returns-clause-answers
returns-clause-answers c unfit read given has =
    put_parser _ _ (λ (parser : PacketParser). IsEnd unfit parser read given c.end_in-ended.result)
    c.put.ensures.held c.put.ensures.opened
    (subst (λ (b : CaptureBox). IsEnd unfit b.parser read given c.end_in-ended.result) c.deref.ensures
    (c.end_in-ended.ensures unfit read given
    (taken_parser _ _ _
    (λ (parser : PacketParser). LeavesOff unfit parser read c.args.bytes.now given None) has
    c.taken-opened.ensures.opened c.deref.ensures)))
