use Rattle.netlines.proofs.InertLemmas.{overlap_ends, refused_inert, unread_ends}
use Rattle.netlines.proofs.laws.apart.refused_lines_are_inert.Goals as goal

pub returns-clause-inert : goal.returns-clause-inert
returns-clause-inert c earlier line is =
    refused_inert c.equal_names.ensures.same earlier line is

pub returns-clause-ends : goal.returns-clause-ends
returns-clause-ends c earlier line name channel f has is =
    unread_ends earlier line name channel f has is

pub returns-clause-overlap : goal.returns-clause-overlap
returns-clause-overlap c earlier line name channel f has is =
    overlap_ends earlier line name channel f has is
