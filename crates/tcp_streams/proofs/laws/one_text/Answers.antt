use Rattle.tcp_streams.proofs.LawLemmas.{one_text_has_no_conflict, one_text_gives_prefix, one_text_gives_all}
use Rattle.tcp_streams.proofs.laws.one_text.Goals as goal

pub returns-clause-no_conflict : goal.returns-clause-no_conflict
returns-clause-no_conflict c = one_text_has_no_conflict

pub returns-clause-prefix : goal.returns-clause-prefix
returns-clause-prefix c = one_text_gives_prefix

pub returns-clause-all : goal.returns-clause-all
returns-clause-all c = one_text_gives_all
