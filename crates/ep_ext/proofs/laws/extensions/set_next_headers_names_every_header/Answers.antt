use Rattle.ep_ext.specs.Link.{all_slots, pieces_in}
use Rattle.ep_ext.proofs.ValueParsedThenEncoded.{named_ok}
use Rattle.ep_ext.proofs.laws.extensions.set_next_headers_names_every_header.Goals as goal

pub returns : goal.returns
returns c =
    let linked = c.set_next_headers-first.new.self in
    let pieces = pieces_in linked all_slots in
    named_ok linked pieces c.args.last.0 c.next_header.result
    (c.next_header.ensures.only pieces c.args.last.0 c.set_next_headers-first.ensures.chained)
    c.set_next_headers-first.ensures.whole
