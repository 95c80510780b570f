use Rattle.std.proofs.Common.{◌∙◌, ◌+◌, ◌-◌, ◌++◌, length, sym, ap, refl, arith, append_assoc, List, ℕ}
use Rattle.captures.specs.Pcap.{IsPacketRecord}
use Rattle.captures.specs.Units.{StandsAt}
use Rattle.captures.specs.declared.state.State.TheVariants.{Classic}
use Rattle.captures.proofs.BlockLemmas.{origin_prefix, word_prefix}
use Rattle.captures.proofs.OffsetLemmas.{stands_back}
use Rattle.captures.proofs.pcap.unit.packet_record.Goals as goal

pub returns-clause-found : goal.returns-clause-found
returns-clause-found c =
    let head = c.split_at.result.0.now in
    let packet = c.split_at-2.result.0.now in
    let is_record : IsPacketRecord c.args.order (head ++ packet) packet = record {
      head = head;
      parts = refl;
      size = c.split_at.ensures.front_len;
      captured = omega arith;
    } in
    record {
      has_unit = record {
        unit = head ++ packet;
        parts =
            c.split_at.ensures.by_index.0
            ∙ ap (λ (l : List ℕ). head ++ l) c.split_at-2.ensures.by_index.0
            ∙ sym (append_assoc head packet c.split_at-2.result.1.now);
        is_unit = (
          record {
            packet = packet;
            is_record = is_record;
            read = sym c.refused_type.ensures ∙ c.in_default.is;
            fits = omega arith;
            is_reported = c.in-Some-report.ensures.reported.0;
            next = ap (Classic c.args.order c.args.time_unit c.args.link)
                c.in-Some-report.ensures.reported.1;
          },
          c.record_origin.ensures ∙ origin_prefix c.args.order c.args.time_unit c.args.link head packet
              (omega (arith, c.split_at.ensures.front_len)),
        );
      };
      is_on = λ some. (
        refl,
        record {
          packet = packet;
          is_record = is_record;
          wire = word_prefix c.args.order head packet 12 (omega (arith, c.split_at.ensures.front_len))
              ∙ sym c.word.ensures;
          parts = c.in-Some-report.ensures.parts some;
        },
      );
    }

pub returns-clause-at : goal.returns-clause-at
returns-clause-at c =
    let head = c.split_at.result.0.now in
    let packet = c.split_at-2.result.0.now in
    let frame = c.in-Some-report.frame in
    let whole : StandsAt c.args.bytes.now 16 packet = record {
      before = head;
      following = c.split_at-2.result.1.now;
      parts =
          c.split_at.ensures.by_index.0
          ∙ ap (λ (l : List ℕ). head ++ l) c.split_at-2.ensures.by_index.0;
      position = c.split_at.ensures.front_len;
    } in
    stands_back c.args.bytes.now packet frame.bytes 16 _ whole c.in-Some-report.ensures.back
    (ap (λ (l : List ℕ). 16 + (length packet - length l)) c.bytes.ensures)

pub returns-in_default-report-clause-refused : goal.returns-in_default-report-clause-refused
returns-in_default-report-clause-refused c =
    let head = c.split_at.result.0.now in
    let packet = c.split_at-2.result.0.now in (
      record {
        unit = head ++ packet;
        packet = packet;
        rest = c.split_at-2.result.1.now;
        parts =
            c.split_at.ensures.by_index.0
            ∙ ap (λ (l : List ℕ). head ++ l) c.split_at-2.ensures.by_index.0
            ∙ sym (append_assoc head packet c.split_at-2.result.1.now);
        is_record = record {
          head = head;
          parts = refl;
          size = c.split_at.ensures.front_len;
          captured = omega arith;
        };
        read = sym c.refused_type.ensures ∙ c.in_default.is;
        fits = omega arith;
        none = c.in_default-report.ensures.reported.0;
      },
      c.in_default-report.ensures.reported.1,
    )
