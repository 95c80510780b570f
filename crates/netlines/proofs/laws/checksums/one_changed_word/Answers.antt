use Rattle.std.proofs.Common.{◌++◌}
use Rattle.netlines.specs.ChangedWord.{verdict_after}
use Rattle.checksum_verdicts.specs.Verdict.{summed_text}
use Rattle.netlines.proofs.ChangedMessage.{changed_word, summed_is}
use Rattle.netlines.proofs.ChangedReplay.{replayed_with_change}
use Rattle.netlines.proofs.Reassembled.{answered_by_verdict, was_good}
use Rattle.netlines.proofs.laws.checksums.one_changed_word.Goals as goal

pub returns-clause-message : goal.returns-clause-message
returns-clause-message c =
    λ addresses number bytes following new message changed fit.
    changed_word addresses fit number bytes following new message changed

pub returns-clause-reassembled : goal.returns-clause-reassembled
returns-clause-reassembled c name channel other earlier others line changed_line text following new
    message changed fit completes read good cut words fields changed_completes changed_read =
    answered_by_verdict name other others changed_line (new ++ following) changed
    (verdict_after words.old_word words.new_word (summed_text name.addresses changed))
    changed_completes changed_read
    (changed_word name.addresses fit name.number text following new message changed read
    (was_good name channel earlier line text message completes read good) cut words fields
    changed_read)

pub returns-clause-fragment : goal.returns-clause-fragment
returns-clause-fragment c name channel earlier others between prefix rest last line changed f g h
    over has out lines_are line_has changed_has change none is =
    replayed_with_change c.equal_names.ensures.same name channel c.fragments_agree.ensures earlier
    others between prefix rest last line changed f g h over has out lines_are line_has
    changed_has change none is

pub returns-clause-summed : goal.returns-clause-summed
returns-clause-summed c = summed_is
