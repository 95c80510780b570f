use Rattle.etherparse.proofs.BuiltFrames.{built_fragment, built_refused, built_whole}
use Rattle.etherparse.proofs.laws.packet_builder.frames.built_frames_are_read.Goals as goal

pub returns-clause-whole : goal.returns-clause-whole
returns-clause-whole c = built_whole c.whole_header_is_found.ensures.found c.rows_are_found.ensures
    c.row_ends_where_none_is_taken.ensures.closed

pub returns-clause-refused : goal.returns-clause-refused
returns-clause-refused c = built_refused c.whole_header_is_found.ensures.found
    c.rows_are_found.ensures c.row_ends_where_none_is_taken.ensures.closed

pub returns-clause-as_fragment : goal.returns-clause-as_fragment
returns-clause-as_fragment c = built_fragment c.whole_header_is_found.ensures.found c.rows_are_found.ensures
    c.row_ends_where_none_is_taken.ensures.closed
