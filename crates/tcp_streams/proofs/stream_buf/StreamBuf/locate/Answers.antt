use Rattle.std.proofs.Common.{◌∙◌, ap, arith, length, refl, sym}
use Rattle.std.proofs.lemmas.List.{length-drop}
use Rattle.tcp_streams.specs.Segments.{segment}
use Rattle.tcp_streams.proofs.stream_buf.StreamBuf.locate.Goals as goal

pub without_prefix-requires : goal.without_prefix-requires
without_prefix-requires c =
    let is = c.location-location.ensures.location (segment c.args.sequence_number c.args.flags c.args.payload.now)
    c.first_number-number.ensures refl (sym (ap length c.bytes_of-bytes.ensures)) in
    rw c.bytes_of-bytes.ensures is.skipped

pub returns-clause-located : goal.returns-clause-located
returns-clause-located c =
    let is = c.location-location.ensures.location (segment c.args.sequence_number c.args.flags c.args.payload.now)
    c.first_number-number.ensures refl (sym (ap length c.bytes_of-bytes.ensures)) in
    record {
      position = is.position;
      bytes = c.without_prefix.ensures ∙ rw c.bytes_of-bytes.ensures is.rest;
      fin = is.fin;
      reset = is.reset;
    }

pub returns-clause-skipped : goal.returns-clause-skipped
returns-clause-skipped c =
    let is = c.location-location.ensures.location (segment c.args.sequence_number c.args.flags c.args.payload.now)
    c.first_number-number.ensures refl (sym (ap length c.bytes_of-bytes.ensures)) in
    omega (
      arith,
      is.skipped,
      ap length c.without_prefix.ensures,
      ap length c.bytes_of-bytes.ensures,
      length-drop c.location-location.result.skipped c.bytes_of-bytes.result.now,
    )
